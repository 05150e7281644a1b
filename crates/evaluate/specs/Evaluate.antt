-- RULES, Points: "Points follow `into_segments`". Assumes nothing.
use Rattle.std.specs.Prelude.{ℕ, ◌-◌, Bool, false, ◌&&◌, cond, List, map, leb, eqb, Float}
use Rattle.std.specs.Float.Ieee.{neg}
use Rattle.leaves.specs.Single.{◌⊖◌, ◌⊗◌, zero32, one32, whole32}
use Rattle.leaves.specs.Fma.{fma32}
use Rattle.leaves.specs.Small.{clamp_of}
use Rattle.point.specs.declared.Point.{Point}
use Rattle.point.specs.Point.{point_at, weighted}
use Rattle.point.specs.Curve.{inv_curvature_of, eval_quad_of}
use Rattle.command.specs.declared.PointCommand.{PointCommand}
use Rattle.command.specs.declared.PointCommand.TheVariants.{Start, Incr, End}
use Rattle.primitives.specs.declared.QuadRow.{QuadRow}
use Rattle.tables.specs.Tables.{SplineTable, spline_at}
use Rattle.walk.specs.Walk.{Item}
use Rattle.evaluate.specs.declared.StepQuad.{StepQuad}

-- a finished point; `end` says whether it is that of a flagged End
pub record Finished : Type 0 where
  pub point : Point
  pub end : Bool

abbrev pub finished : Point → Bool → Finished
finished point end = record { point = point; end = end }

-- the sum of the quad before i in the same spline, or 0
unfoldable pub previous_sum_of : (ℕ → QuadRow) → ℕ → Float
previous_sum_of rows i = cond (leb 1 i && eqb (rows (i - 1)).spline (rows i).spline) (rows (i - 1)).partial_curvature zero32

-- what a step reads of its quad i; `rows` gives the row of each quad
abbrev pub step_quad_of : (ℕ → QuadRow) → ℕ → StepQuad
step_quad_of rows i =
    let row = rows i in
    record {
      p0 = weighted (point_at row.x.a row.y.a) row.weight.a;
      p1 = weighted (point_at row.x.b row.y.b) row.weight.b;
      p2 = weighted (point_at row.x.c row.y.c) row.weight.c;
      x0 = row.x0;
      dx_recip = row.dx_recip;
      k0 = row.k0;
      dk = row.dk;
      curvature_recip = row.curvature_recip;
      previous_sum = previous_sum_of rows i;
    }

-- t of step p of this size on its quad
unfoldable pub parameter_of : StepQuad → Float → ℕ → Float
parameter_of quad size p =
    let ratio = fma32 size (whole32 p) (neg quad.previous_sum) ⊗ quad.curvature_recip in
    let x = inv_curvature_of (fma32 ratio quad.dk quad.k0) in
    clamp_of ((x ⊖ quad.x0) ⊗ quad.dx_recip) zero32 one32

unfoldable pub step_point_of : StepQuad → Float → ℕ → Point
step_point_of quad size p = eval_quad_of (parameter_of quad size p) quad.p0 quad.p1 quad.p2

unfoldable pub command_point_of : (ℕ → QuadRow) → SplineTable → PointCommand → ℕ → ℕ → Finished
command_point_of rows s (Start k) p i = finished (spline_at s k).p0 false
command_point_of rows s (Incr size) p i = finished (step_point_of (step_quad_of rows i) size p) false
command_point_of rows s (End k flag) p i = finished (spline_at s k).p2 flag

unfoldable pub item_point_of : (ℕ → QuadRow) → SplineTable → Item → Finished
item_point_of rows s i = command_point_of rows s i.command i.step i.quad

unfoldable pub points_of : (ℕ → QuadRow) → SplineTable → List Item → List Finished
points_of rows s items = map (item_point_of rows s) items
