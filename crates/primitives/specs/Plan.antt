-- RULES, Lines, Quads and Answers 10: what one primitive changes, or how it is refused. "each primitive tests 5, 6, 7, 8, as far as it would
-- store there, before it stores anything". Assumes nothing.
use Rattle.std.specs.Prelude.{◌+◌, true, not, ◌&&◌, cond, leb}
use Rattle.std.specs.Float.Ieee.{le}
use Rattle.leaves.specs.Single.{◌⊕◌, recip}
use Rattle.leaves.specs.Whole.{limit32}
use Rattle.answer.specs.Answer.{Answer}
use Rattle.answer.specs.Answer.{TooManyPieces, QuadsFull, SplinesFull, SumTooLarge}
use Rattle.point.specs.declared.Point.{Point}
use Rattle.point.specs.declared.WeightedPoint.{WeightedPoint}
use Rattle.point.specs.Angle.{Angle}
use Rattle.std.specs.Prelude.{None, Some}
use Rattle.point.specs.Point.{applied_of, minus_of}
use Rattle.point.specs.Angle.{angle_of}
use Rattle.point.specs.declared.Setting.{Setting}
use Rattle.primitives.specs.declared.Capacities.{Capacities}
use Rattle.primitives.specs.Edits.{State, SplineEdit, Edit, Keep, Extend, Bend}
use Rattle.primitives.specs.declared.Primitive.{Primitive}
use Rattle.primitives.specs.declared.Primitive.TheVariants.{Contour, Line, Quad, Excess}
use Rattle.primitives.specs.declared.Kind.TheVariants.{Straight, Round}
use Rattle.primitives.specs.declared.Curve.{Curve}
use Rattle.primitives.specs.declared.QuadRow.{QuadRow}
use Rattle.primitives.specs.declared.SplineRow.{SplineRow}
use Rattle.primitives.specs.Quads.{curve_of}
use Rattle.primitives.specs.Splines.{state_of, opens_of, line_angle_of, move_angle_of, sum_before, spline_edit_of}

-- a refusal keeps all but the answer
unfoldable pub refused_of : State → Answer → State
refused_of st answer = state_of answer st.splines st.quads st.mark st.last

-- `push_contour`: a mark waits
unfoldable pub marked_of : Setting → State → State
marked_of setting st = state_of st.answer st.splines st.quads true (move_angle_of setting st.last)

-- `push_line`
unfoldable pub plan_line_of : Setting → Capacities → State → SplineRow → Point → Point → Edit
plan_line_of setting caps st last start end =
    let angle = angle_of (minus_of end start) in
    let opens = opens_of setting Straight st last angle start in
    cond (opens && leb caps.splines st.splines) (Keep (refused_of st SplinesFull))
    (Extend (spline_edit_of opens st last start end (sum_before opens last) st.quads (line_angle_of setting st.last angle)))

unfoldable pub quad_row_of : WeightedPoint → WeightedPoint → WeightedPoint → Curve → SplineEdit → QuadRow
quad_row_of p0 p1 p2 curve edit =
    record {
      x = record { a = p0.point.x; b = p1.point.x; c = p2.point.x };
      y = record { a = p0.point.y; b = p1.point.y; c = p2.point.y };
      weight = record { a = p0.weight; b = p1.weight; c = p2.weight };
      x0 = curve.x0;
      dx_recip = curve.dx_recip;
      k0 = curve.k0;
      dk = curve.dk;
      curvature_recip = recip curve.curvature;
      partial_curvature = edit.row.curvature;
      spline = edit.at;
    }

-- a quad with both angles, from its points as stored and as applied
unfoldable pub plan_curve_of : Setting → Capacities → State → SplineRow → WeightedPoint → WeightedPoint → WeightedPoint → Angle → Angle → Edit
plan_curve_of setting caps st last p0 p1 p2 in-angle out-angle =
    let start = applied_of p0 in
    let end = applied_of p2 in
    let opens = opens_of setting Round st last in-angle start in
    let curve = curve_of start (applied_of p1) end in
    let sum = sum_before opens last ⊕ curve.curvature in
    let edit = spline_edit_of opens st last start end sum (st.quads + 1) out-angle in
    cond (leb caps.quads st.quads) (Keep (refused_of st QuadsFull))
    (cond (opens && leb caps.splines st.splines) (Keep (refused_of st SplinesFull))
    (cond (not (le sum limit32)) (Keep (refused_of st SumTooLarge))
    (Bend edit st.quads (quad_row_of p0 p1 p2 curve edit))))

-- "A quad with both legs' angles missing is dropped. With one missing it is a line."
unfoldable pub plan_legs_of : Setting → Capacities → State → SplineRow → WeightedPoint → WeightedPoint → WeightedPoint → Angle → Angle → Edit
plan_legs_of setting caps st last p0 p1 p2 None None = Keep st
plan_legs_of setting caps st last p0 p1 p2 None (Some a) = plan_line_of setting caps st last (applied_of p0) (applied_of p2)
plan_legs_of setting caps st last p0 p1 p2 (Some a) None = plan_line_of setting caps st last (applied_of p0) (applied_of p2)
plan_legs_of setting caps st last p0 p1 p2 (Some a) (Some b) = plan_curve_of setting caps st last p0 p1 p2 (Some a) (Some b)

-- `push_quad`
unfoldable pub plan_quad_of : Setting → Capacities → State → SplineRow → WeightedPoint → WeightedPoint → WeightedPoint → Edit
plan_quad_of setting caps st last p0 p1 p2 =
    plan_legs_of setting caps st last p0 p1 p2 (angle_of (minus_of (applied_of p1) (applied_of p0))) (angle_of (minus_of (applied_of p2) (applied_of p1)))

unfoldable pub plan_of : Setting → Capacities → State → SplineRow → Primitive → Edit
plan_of setting caps st last Contour = Keep (marked_of setting st)
plan_of setting caps st last (Line p0 p1) = plan_line_of setting caps st last (applied_of p0) (applied_of p1)
plan_of setting caps st last (Quad p0 p1 p2) = plan_quad_of setting caps st last p0 p1 p2
plan_of setting caps st last Excess = Keep (refused_of st TooManyPieces)
