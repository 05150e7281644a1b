-- A primitive is planned as what it comes to. Assumes nothing.
use mathlib.Core.Path.{◌≡◌, refl}
use Rattle.answer.specs.Answer.{TooManyPieces}
use Rattle.point.specs.Angle.{Angle}
use Rattle.std.specs.Prelude.{None, Some}
use Rattle.point.specs.declared.Setting.{Setting}
use Rattle.point.specs.declared.WeightedPoint.{WeightedPoint}
use Rattle.primitives.specs.declared.Capacities.{Capacities}
use Rattle.primitives.specs.Edits.{State, Edit, Keep}
use Rattle.primitives.specs.declared.SplineRow.{SplineRow}
use Rattle.primitives.specs.declared.Primitive.{Primitive}
use Rattle.primitives.specs.declared.Primitive.TheVariants as primitive
use Rattle.primitives.specs.declared.Shape.{Shape}
use Rattle.primitives.specs.declared.Shape.TheVariants.{Nothing, Mark, Excess, Straight, Curved}
use Rattle.primitives.specs.Plan.{refused_of, marked_of, plan_line_of, plan_curve_of, plan_legs_of, plan_quad_of, plan_of}
use Rattle.primitives.specs.Shapes.{legs_of, quad_shape_of, shape_of}

unfoldable pub plan_shape_of : Setting → Capacities → State → SplineRow → Shape → Edit
plan_shape_of setting caps st last Nothing = Keep st
plan_shape_of setting caps st last Mark = Keep (marked_of setting st)
plan_shape_of setting caps st last Excess = Keep (refused_of st TooManyPieces)
plan_shape_of setting caps st last (Straight start end) = plan_line_of setting caps st last start end
plan_shape_of setting caps st last (Curved p0 p1 p2 in-angle out-angle) = plan_curve_of setting caps st last p0 p1 p2 (Some in-angle) (Some out-angle)

legs_planned : (setting : Setting) (caps : Capacities) (st : State) (last : SplineRow) (p0 p1 p2 : WeightedPoint) (a b : Angle)
    → plan_legs_of setting caps st last p0 p1 p2 a b ≡ plan_shape_of setting caps st last (legs_of p0 p1 p2 a b)
unfolding plan_legs_of plan_shape_of legs_of
legs_planned setting caps st last p0 p1 p2 None None = refl
legs_planned setting caps st last p0 p1 p2 None (Some b) = refl
legs_planned setting caps st last p0 p1 p2 (Some a) None = refl
legs_planned setting caps st last p0 p1 p2 (Some a) (Some b) = refl

pub planned : (setting : Setting) (caps : Capacities) (st : State) (last : SplineRow) (p : Primitive)
    → plan_of setting caps st last p ≡ plan_shape_of setting caps st last (shape_of p)
unfolding plan_of plan_quad_of plan_shape_of shape_of quad_shape_of
planned setting caps st last primitive.Contour = refl
planned setting caps st last (primitive.Line p0 p1) = refl
planned setting caps st last (primitive.Quad p0 p1 p2) = legs_planned setting caps st last p0 p1 p2 _ _
planned setting caps st last primitive.Excess = refl
