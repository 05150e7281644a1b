-- RULES, The tables: the quad table and the spline table as records of columns, their capacities, and what an edit stores. Assumes nothing.
use Rattle.std.specs.Prelude.{ℕ, ◌+◌, ◌-◌, ◌*◌, ◌/◌, min, Bool, true, false, cond, List, [], ◌∷◌, eqb, ltb, Float, length, get_or, set}
use Rattle.std.specs.Float.{nan}
use Rattle.std.proofs.lemmas.List.Edits.{sets}
use Rattle.columns.specs.Flags.{flag_byte_of, is_flag_of}
use Rattle.leaves.specs.Single.{zero32}
use Rattle.point.specs.declared.Point.{Point}
use Rattle.point.specs.Point.{point_at, weighted, applied_of}
use Rattle.command.specs.Packing.{index_limit}
use Rattle.primitives.specs.declared.Three.{Three}
use Rattle.primitives.specs.declared.QuadRow.{QuadRow}
use Rattle.primitives.specs.declared.SplineRow.{SplineRow}
use Rattle.primitives.specs.Edits.{SplineEdit}
use Rattle.primitives.specs.declared.Capacities.{Capacities}

-- quad i has the numbers 15·i to 15·i + 14 of the rows, and entry i of partial_splines, the number of its spline
pub record QuadTable : Type 0 where
  pub rows : List Float
  pub partial_splines : List ℕ

-- curvature is the spline's sum; contour has its flags; first_quad and quad_count say which quads are its own
pub record SplineTable : Type 0 where
  pub curvature : List Float
  pub p0x : List Float
  pub p0y : List Float
  pub p2x : List Float
  pub p2y : List Float
  pub contour : List ℕ
  pub first_quad : List ℕ
  pub quad_count : List ℕ

abbrev pub quad_table : List Float → List ℕ → QuadTable
quad_table rows partial_splines = record { rows = rows; partial_splines = partial_splines }

abbrev pub spline_table : List Float → List Float → List Float → List Float → List Float → List ℕ → List ℕ → List ℕ → SplineTable
spline_table curvature p0x p0y p2x p2y contour first_quad quad_count =
    record { curvature = curvature; p0x = p0x; p0y = p0y; p2x = p2x; p2y = p2y; contour = contour; first_quad = first_quad; quad_count = quad_count }

-- how many rows are whole; an incomplete row at the end is never read and never written
abbrev pub whole_rows_of : List Float → ℕ
whole_rows_of rows = length rows / 15

-- ---- "Capacity is then the whole rows that fit or the length of the spline number's column, the smaller of the two"
unfoldable pub quad_capacity_of : QuadTable → ℕ
quad_capacity_of q = min (whole_rows_of q.rows) (length q.partial_splines)

-- "the spline table is full, or holds 4,194,304"
unfoldable pub spline_capacity_of : SplineTable → ℕ
spline_capacity_of s =
    min index_limit
    (min (length s.curvature)
    (min (length s.p0x)
    (min (length s.p0y)
    (min (length s.p2x)
    (min (length s.p2y)
    (min (length s.contour)
    (min (length s.first_quad) (length s.quad_count))))))))

unfoldable pub capacities_of : QuadTable → SplineTable → Capacities
capacities_of q s = record { quads = quad_capacity_of q; splines = spline_capacity_of s }

-- ---- rows
-- "three x, three y, three weights, x0, dx_recip, k0, dk, the reciprocal, the sum"
unfoldable pub numbers_of : QuadRow → List Float
numbers_of row =
    row.x.a ∷ row.x.b ∷ row.x.c
    ∷ row.y.a ∷ row.y.b ∷ row.y.c
    ∷ row.weight.a ∷ row.weight.b ∷ row.weight.c
    ∷ row.x0 ∷ row.dx_recip ∷ row.k0 ∷ row.dk ∷ row.curvature_recip ∷ row.partial_curvature ∷ []

-- past the capacity nothing is written
unfoldable pub put_quad : QuadTable → ℕ → QuadRow → QuadTable
put_quad q i row =
    cond (ltb i (quad_capacity_of q)) (quad_table (sets q.rows (15 * i) (numbers_of row)) (set q.partial_splines i row.spline)) q

-- number k of row i, or NaN where the row is not whole
unfoldable pub number_at : List Float → ℕ → ℕ → Float
number_at rows i k = cond (ltb i (whole_rows_of rows)) (get_or rows (15 * i + k) nan) nan

abbrev pub three_at : List Float → ℕ → ℕ → Three
three_at rows i k = record { a = number_at rows i k; b = number_at rows i (k + 1); c = number_at rows i (k + 2) }

-- the sum, the last number of a row
abbrev pub sum_at_of : List Float → ℕ → Float
sum_at_of rows i = number_at rows i 14

unfoldable pub quad_row_at : QuadTable → ℕ → QuadRow
quad_row_at q i =
    let rows = q.rows in
    record {
      x = three_at rows i 0;
      y = three_at rows i 3;
      weight = three_at rows i 6;
      x0 = number_at rows i 9;
      dx_recip = number_at rows i 10;
      k0 = number_at rows i 11;
      dk = number_at rows i 12;
      curvature_recip = number_at rows i 13;
      partial_curvature = sum_at_of rows i;
      spline = get_or q.partial_splines i 0;
    }

-- where a quad begins and where it ends: its first and its third point, each divided by its weight
unfoldable pub quad_start_of : QuadRow → Point
quad_start_of row = applied_of (weighted (point_at row.x.a row.y.a) row.weight.a)

unfoldable pub quad_end_of : QuadRow → Point
quad_end_of row = applied_of (weighted (point_at row.x.c row.y.c) row.weight.c)

-- the flag of the spline before k, cleared if the edit clears it
unfoldable pub clear_flag : Bool → List ℕ → ℕ → List ℕ
clear_flag true contour k = set contour (k - 1) (flag_byte_of false)
clear_flag false contour k = contour

unfoldable pub put_spline : SplineTable → SplineEdit → SplineTable
put_spline s edit =
    let k = edit.at in
    let row = edit.row in
    record {
      curvature = set s.curvature k row.curvature;
      p0x = set s.p0x k row.p0.x;
      p0y = set s.p0y k row.p0.y;
      p2x = set s.p2x k row.p2.x;
      p2y = set s.p2y k row.p2.y;
      contour = set (clear_flag edit.clears s.contour k) k (flag_byte_of row.contour);
      first_quad = set s.first_quad k row.first_quad;
      quad_count = set s.quad_count k row.quad_count;
    }

unfoldable pub spline_at : SplineTable → ℕ → SplineRow
spline_at s k =
    record {
      curvature = get_or s.curvature k nan;
      p0 = point_at (get_or s.p0x k nan) (get_or s.p0y k nan);
      p2 = point_at (get_or s.p2x k nan) (get_or s.p2y k nan);
      contour = is_flag_of (get_or s.contour k 0);
      first_quad = get_or s.first_quad k 0;
      quad_count = get_or s.quad_count k 0;
    }

-- the spline that is given as the last one if there is none yet; a mark waits then, so it decides nothing
abbrev pub no_spline : SplineRow
no_spline =
    record { curvature = zero32; p0 = point_at zero32 zero32; p2 = point_at zero32 zero32; contour = false; first_quad = 0; quad_count = 0 }

unfoldable pub last_spline_of : SplineTable → ℕ → SplineRow
last_spline_of s n = cond (eqb n 0) no_spline (spline_at s (n - 1))
