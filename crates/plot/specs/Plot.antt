-- 02, One: the plot of finished points. "Refusals: 12 when a coordinate is NaN or rounds outside -32,768..32,767, then 13 when the text buffer is too short;
-- neither writes a byte." Assumes nothing.
use Rattle.std.specs.Prelude.{ℕ, Bool, true, false, ◌&&◌, cond, List, [], ◌∷◌, map, Option, Some, None, Result, Ok, Err, ℤ, leb, Float, length}
use Rattle.std.proofs.lemmas.List.Edits.{sets}
use Rattle.answer.specs.declared.Refusal.{Refusal}
use Rattle.answer.specs.Answer.{Answer, Done, NotPrintable, BufferShort}
use Rattle.contours.specs.Finished.{Position, position, Vertex, vertex}
use Rattle.contours.specs.Contours.{contours_of}
use Rattle.units.specs.Whole.{whole_of, printable_of}
use Rattle.plot.specs.Text.{text_of}

unfoldable pub all_printable : List (Vertex Float) → Bool
all_printable [] = true
all_printable (v ∷ vs) = (printable_of v.position.x && printable_of v.position.y) && all_printable vs

-- "One drawing unit is one plotter unit."
unfoldable pub whole_vertex : Vertex Float → Vertex ℤ
whole_vertex v = vertex (position (whole_of v.position.x) (whole_of v.position.y)) v.end

-- the contours in whole units, and their text
abbrev pub whole_contours : List (Vertex Float) → List (List (Position ℤ))
whole_contours points = contours_of (map whole_vertex points)

abbrev pub plot_text : List (Vertex Float) → List ℕ
plot_text points = text_of (whole_contours points)

-- the answer, and how many bytes were written
pub record Plotted : Type 0 where
  pub answer : Answer
  pub written : ℕ

-- what the caller gets: these, and the buffer after the call
pub record Plot : Type 0 where
  pub result : Plotted
  pub text : List ℕ

abbrev pub plot : Plotted → List ℕ → Plot
plot result text = record { result = result; text = text }

abbrev pub plotted : Answer → ℕ → Plotted
plotted answer written = record { answer = answer; written = written }

-- what a result says: a refusal writes no byte
abbrev pub plotted_of : Result ℕ Refusal → Plotted
plotted_of (Ok written) = plotted Done written
plotted_of (Err refusal) = plotted (Err refusal) 0

unfoldable pub plot_in : Bool → Bool → List ℕ → List ℕ → Plot
plot_in false room text buffer = plot (plotted NotPrintable 0) buffer
plot_in true false text buffer = plot (plotted BufferShort 0) buffer
plot_in true true text buffer = plot (plotted Done (length text)) (sets buffer 0 text)

unfoldable pub plot_of : List (Vertex Float) → List ℕ → Plot
plot_of points buffer = let text = plot_text points in plot_in (all_printable points) (leb (length text) (length buffer)) text buffer

-- ---- as the code goes: each point in plotter units, and what is found before a byte is written
unfoldable pub spot_of : Float → Float → Option (ℤ × ℤ)
spot_of x y = cond (printable_of x && printable_of y) (Some (whole_of x, whole_of y)) None

unfoldable pub measured_of : List (Vertex Float) → ℕ → Answer
measured_of points room = cond (all_printable points) (cond (leb (length (plot_text points)) room) Done BufferShort) NotPrintable
