-- RULES, The tables 8: the rows of the columns as records, and whole lists copied from the columns and back. Assumes nothing.
use Rattle.std.specs.Prelude.{ℕ, zero, suc, Bool, false, cond, ◌&&◌, List, eqb, leb, ltb, length, get_or, set, Option, Some, None, Result, Ok, Err}
use Rattle.std.specs.Float.{nan}
use Rattle.point.specs.Point.{point_at}
use Rattle.columns.specs.Flags.{flag_byte_of}
use Rattle.tables.specs.Tables.{SplineTable, spline_table, spline_at}
use Rattle.primitives.specs.declared.SplineRow.{SplineRow}
use Rattle.spline_list.specs.declared.LengthsDiffer.{LengthsDiffer}

abbrev pub blank : SplineRow
blank = record { curvature = nan; p0 = point_at nan nan; p2 = point_at nan nan; contour = false; first_quad = 0; quad_count = 0 }

-- a record put to row i
abbrev pub put_row_of : SplineTable → ℕ → SplineRow → SplineTable
put_row_of t i v =
    spline_table (set t.curvature i v.curvature) (set t.p0x i v.p0.x) (set t.p0y i v.p0.y) (set t.p2x i v.p2.x)
    (set t.p2y i v.p2.y) (set t.contour i (flag_byte_of v.contour)) (set t.first_quad i v.first_quad)
    (set t.quad_count i v.quad_count)

-- the record at i, or none if i is past the list
abbrev pub spline_at_of : List SplineRow → ℕ → Option SplineRow
spline_at_of ys i = cond (ltb i (length ys)) (Some (get_or ys i blank)) None

-- the list and the columns agree in length: the list has a record for each of the n splines in use, and no column ends before the nth; what a column has
-- beyond it is capacity
abbrev pub agree_of : ℕ → ℕ → ℕ → ℕ → ℕ → ℕ → ℕ → ℕ → ℕ → ℕ → Bool
agree_of n list curvature p0x p0y p2x p2y contour first_quad quad_count =
    eqb n list && leb n curvature && leb n p0x && leb n p0y && leb n p2x && leb n p2y && leb n contour && leb n first_quad && leb n quad_count

abbrev pub equal_of : List SplineRow → SplineTable → ℕ → Bool
equal_of ys t n =
    agree_of n (length ys) (length t.curvature) (length t.p0x) (length t.p0y) (length t.p2x) (length t.p2y) (length t.contour)
    (length t.first_quad) (length t.quad_count)

-- all was copied, or nothing
abbrev pub outcome_of : Bool → Result Unit LengthsDiffer
outcome_of agreed = cond agreed (Ok tt) (Err (record {}))

-- g 0, g 1, .. are stored to the first n places of a list; its laws are in proofs/Laws.antt
abbrev pub stores : {X : Type 0} → (ℕ → X) → ℕ → List X → List X
stores g zero xs = xs
stores g (suc i) xs = set (stores g i xs) i (g i)

-- the first n rows are stored to a list of records
abbrev pub fills : SplineTable → ℕ → List SplineRow → List SplineRow
fills t n ys = stores (spline_at t) n ys

-- the first n records are put to the rows
abbrev pub spreads : List SplineRow → ℕ → SplineTable → SplineTable
spreads ys zero t = t
spreads ys (suc i) t = put_row_of (spreads ys i t) i (get_or ys i blank)

-- where the lengths are unequal, nothing is written
abbrev pub fill_of : SplineTable → ℕ → List SplineRow → List SplineRow
fill_of t n ys = cond (equal_of ys t n) (fills t n ys) ys

abbrev pub spread_of : List SplineRow → ℕ → SplineTable → SplineTable
spread_of ys n t = cond (equal_of ys t n) (spreads ys n t) t
