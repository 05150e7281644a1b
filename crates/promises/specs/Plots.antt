-- 02, One: what every plot promises: its answers, each exactly when; that the text is read back; and its blanks. Proved in proofs/Plots. Assumes nothing.
use Rattle.std.specs.Prelude.{ℕ, ◌+◌, ◌*◌, ◌≤◌, ◌<◌, ◌≡◌, ◌⊎◌, ◌≢◌, ◌↔◌, true, false, List, [], ◌∷◌, ◌++◌, Float, length, take}
use Rattle.std.specs.Float.{nan}
use Rattle.leaves.specs.Single.{f32}
use Rattle.leaves.specs.Small.{is_inf}
use Rattle.answer.specs.Answer.{Done, NotPrintable, BufferShort}
use Rattle.text.specs.Bytes.{bytes}
use Rattle.contours.specs.Finished.{Vertex, finished_of}
use Rattle.units.specs.Whole.{whole_of, in_range}
use Rattle.plot.specs.Plot.{Plot, plot_of, plot_text, whole_contours}
use Rattle.plot.specs.ReadBack.{read_of, blanks_right}

-- ---- 12: "a coordinate is NaN or rounds outside -32,768..32,767"; an infinity does too
pub data NotInUnits (v : Float) : Type 0 where
  no_number : v ≡ nan → NotInUnits v
  infinite : is_inf v ≡ true → NotInUnits v
  outside : in_range (whole_of v) ≡ false → NotInUnits v

-- some point, wherever it stands
pub record SomeUnprintable (points : List (Vertex Float)) : Type 0 where
  pub before : List (Vertex Float)
  pub point : Vertex Float
  pub after : List (Vertex Float)
  pub split : points ≡ before ++ (point ∷ after)
  pub coordinate : NotInUnits point.position.x ⊎ NotInUnits point.position.y

abbrev pub Printable : List (Vertex Float) → Type 0
Printable points = SomeUnprintable points → ⊥

-- "then 13 when the text buffer is too short; neither writes a byte"
pub record PlotAnswers (points : List (Vertex Float)) (buffer : List ℕ) (p : Plot) : Type 0 where
  pub not_printable : (p.result.answer ≡ NotPrintable) ↔ SomeUnprintable points
  pub too_short : (p.result.answer ≡ BufferShort) ↔ (Printable points × (length buffer < length (plot_text points)))
  pub done : (p.result.answer ≡ Done) ↔ (Printable points × (length (plot_text points) ≤ length buffer))
  pub nothing_written : p.result.answer ≢ Done → (p.text ≡ buffer) × (p.result.written ≡ 0)

abbrev pub PlotsAnswer : Type 0
PlotsAnswer = (points : List (Vertex Float)) (buffer : List ℕ) → PlotAnswers points buffer (plot_of points buffer)

-- ---- "Reading the text back gives those whole numbers and those contours."
abbrev pub written_in : Plot → List ℕ
written_in p = take p.result.written p.text

abbrev pub PlotsReadBack : Type 0
PlotsReadBack = (points : List (Vertex Float)) (buffer : List ℕ) → (plot_of points buffer).result.answer ≡ Done
    → read_of (written_in (plot_of points buffer)) ≡ whole_contours points

-- so two lists that print alike have the same whole points in the same contours
abbrev pub PlotsTell : Type 0
PlotsTell = (points points' : List (Vertex Float)) (buffer buffer' : List ℕ) → (plot_of points buffer).result.answer ≡ Done
    → (plot_of points' buffer').result.answer ≡ Done → written_in (plot_of points buffer) ≡ written_in (plot_of points' buffer') → whole_contours points ≡ whole_contours points'

-- "No other blank or line end is written."
abbrev pub PlotBlanks : Type 0
PlotBlanks = (points : List (Vertex Float)) (buffer : List ℕ) → (plot_of points buffer).result.answer ≡ Done
    → blanks_right 0 0 (written_in (plot_of points buffer)) ≡ true

-- a buffer of 3 + 17 n bytes is never too short for n points
abbrev pub PlotRoom : Type 0
PlotRoom = (points : List (Vertex Float)) (buffer : List ℕ) → 3 + 17 * length points ≤ length buffer → (plot_of points buffer).result.answer ≢ BufferShort

-- ---- examples
pub record PlotExamples : Type 0 where
  pub two_contours :
      plot_text (finished_of (f32 0x3f00_0000 ∷ f32 0xbecc_cccd ∷ f32 0x40e0_0000 ∷ []) (f32 0xc020_0000 ∷ f32 0x0000_0000 ∷ f32 0x40e0_0000 ∷ []) (0 ∷ 1 ∷ 0 ∷ []))
      ≡ bytes "IN;PU 1,-3;PD 0,0;PU 7,7;"
  -- "An empty list gives `IN;` alone."
  pub no_points : plot_text [] ≡ bytes "IN;"
  -- just below a half
  pub below_half : plot_text (finished_of (f32 0x3eff_ffff ∷ []) (f32 0xbeff_ffff ∷ []) (0 ∷ [])) ≡ bytes "IN;PU 0,0;"
  -- the ends of the range
  pub ends : plot_text (finished_of (f32 0x46ff_feff ∷ []) (f32 0xc700_007f ∷ []) (255 ∷ [])) ≡ bytes "IN;PU 32767,-32768;"
