-- RULES, The program 9: "Output: answer, line, points, then x, y, end for each point; x and y in eight lowercase hex digits, the others in plain decimal, each line ended
-- by 0x0A." Assumes nothing.
use Rattle.std.specs.Prelude.{ℕ, zero, suc, ◌+◌, cond, List, [], ◌∷◌, ◌++◌, leb, Float, length, get_or, Option, Some, None}
use Rattle.std.specs.Float.{nan}
use Rattle.std.proofs.lemmas.List.Edits.{sets}
use Rattle.columns.specs.Flags.{flag_byte_of, is_flag_of}
use Rattle.leaves.specs.Bits.{bits_of}
use Rattle.answer.specs.Answer.{Answer}
use Rattle.answer.specs.Number.{number_of}
use Rattle.point.specs.Point.{point_at}
use Rattle.evaluate.specs.Evaluate.{Finished, finished}
use Rattle.text.specs.Bytes.{bytes}
use Rattle.text.specs.Hex.{hex_of}
use Rattle.text.specs.Decimal.{decimal_of}
use Rattle.listing.specs.declared.writing.Value.{Value}
use Rattle.listing.specs.declared.writing.Points.{Points}
use Rattle.listing.specs.declared.writing.Value.TheVariants.{Decimal, Bits}

unfoldable pub line_of : List ℕ → List ℕ → List ℕ
line_of key value = key ++ (bytes "=" ++ (value ++ bytes "\n"))

unfoldable pub point_lines : Finished → List ℕ
point_lines p =
    line_of (bytes "x") (hex_of (bits_of p.point.x))
    ++ (line_of (bytes "y") (hex_of (bits_of p.point.y))
    ++ line_of (bytes "end") (decimal_of (flag_byte_of p.end)))

unfoldable pub all_point_lines : List Finished → List ℕ
all_point_lines [] = []
all_point_lines (p ∷ ps) = point_lines p ++ all_point_lines ps

-- what the program says: the answer, the line, and the points
unfoldable pub report_of : Answer → ℕ → List Finished → List ℕ
report_of answer line points =
    line_of (bytes "answer") (decimal_of (number_of answer))
    ++ (line_of (bytes "line") (decimal_of line)
    ++ (line_of (bytes "points") (decimal_of (length points))
    ++ all_point_lines points))

-- the two lines of a refusal alone, for a program that has another output than points
unfoldable pub refusal_of : Answer → ℕ → List ℕ
refusal_of answer line = line_of (bytes "answer") (decimal_of (number_of answer)) ++ line_of (bytes "line") (decimal_of line)

-- ---- as the code writes it: what stands behind a key, the three lines at the head, and the points from their columns
abbrev pub value_of : Value → List ℕ
value_of (Decimal n) = decimal_of n
value_of (Bits v) = hex_of (bits_of v)

unfoldable pub head_of : ℕ → ℕ → ℕ → List ℕ
head_of number line points =
    line_of (bytes "answer") (decimal_of number) ++ (line_of (bytes "line") (decimal_of line) ++ line_of (bytes "points") (decimal_of points))

-- n finished points from index i on
unfoldable pub column_points : ℕ → ℕ → List Float → List Float → List ℕ → List Finished
column_points i zero x y end = []
column_points i (suc n) x y end = finished (point_at (get_or x i nan) (get_or y i nan)) (is_flag_of (get_or end i 0)) ∷ column_points (i + 1) n x y end

-- as many as x has entries
abbrev pub points_in : Points → List Finished
points_in p = column_points 0 (length p.x.now) p.x.now p.y.now p.end.now

-- ---- a text as output: all of its bytes and their count, or nothing written where the output is too short
pub record Listing : Type 0 where
  pub result : Option ℕ
  pub output : List ℕ

abbrev pub listed : Option ℕ → List ℕ → Listing
listed result output = record { result = result; output = output }

unfoldable pub listed_as : List ℕ → List ℕ → Listing
listed_as text out = cond (leb (length text) (length out)) (listed (Some (length text)) (sets out 0 text)) (listed None out)
