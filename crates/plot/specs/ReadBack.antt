-- 02, One: "Reading the text back gives those whole numbers and those contours." A reader of such a text, and what its blanks are. Proved in proofs/ReadBack. Assumes
-- nothing.
use Rattle.std.specs.Prelude.{ℕ, Bool, true, false, not, ◌&&◌, ◌||◌, List, [], ◌∷◌, map, ℤ, eqb, leb, drop}
use Rattle.text.specs.Bytes.{bytes, stands_at}
use Rattle.text.specs.ReadDecimal.{signed_number, up_to, past}
use Rattle.contours.specs.Cutting.{cut_after}
use Rattle.contours.specs.Finished.{Position, position}

-- one instruction: where the pen goes, and whether it is down on the way
pub record Stroke : Type 0 where
  pub down : Bool
  pub to : Position ℤ

-- two letters, a blank, a number, a comma, a number and a semicolon
unfoldable pub stroke_of : List ℕ → Stroke
stroke_of instruction =
    let numbers = drop 3 instruction in
    record { down = stands_at instruction 0 (bytes "PD"); to = position (signed_number (up_to 0x2c numbers)) (signed_number (up_to 0x3b (past 0x2c numbers))) }

-- strokes with the pen down, up to the first with the pen up; and the contours, each begun by a stroke with the pen up
pub record Strokes : Type 0 where
  pub going_on : List (Position ℤ)
  pub contours : List (List (Position ℤ))

abbrev pub stroked : Bool → Position ℤ → Strokes → Strokes
stroked true p s = record { going_on = p ∷ s.going_on; contours = s.contours }
stroked false p s = record { going_on = []; contours = (p ∷ s.going_on) ∷ s.contours }

unfoldable pub strokes_of : List Stroke → Strokes
strokes_of [] = record { going_on = []; contours = [] }
strokes_of (s ∷ rest) = stroked s.down s.to (strokes_of rest)

-- the text cut after each semicolon; the first instruction is `IN;`
unfoldable pub read_of : List ℕ → List (List (Position ℤ))
read_of text = (strokes_of (map stroke_of (drop 1 (cut_after (λ (b : ℕ). eqb b 0x3b) text)))).contours

-- ---- "No other blank or line end is written."
-- blanks, tabs and line ends
unfoldable pub is_space : ℕ → Bool
is_space b = eqb b 0x20 || (leb 0x09 b && leb b 0x0d)

-- whether c may follow the bytes a and b: a space is a blank after PU or PD
unfoldable pub follows : ℕ → ℕ → ℕ → Bool
follows a b c = not (is_space c) || (eqb c 0x20 && (eqb a 0x50 && (eqb b 0x55 || eqb b 0x44)))

-- after the bytes a and b
unfoldable pub blanks_right : ℕ → ℕ → List ℕ → Bool
blanks_right a b [] = true
blanks_right a b (c ∷ rest) = follows a b c && blanks_right b c rest
