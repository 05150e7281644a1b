-- Examples that a tempting mistake would fail, by computation: the cubic's error, the numbers of splines, the distance of 0.0625, the two settings, straight
-- and round, and what a refused quad leaves. Assumes nothing.
use mathlib.Core.Path.{◌≡◌, refl}
use mathlib.Core.Bool.{Bool, true, false}
use Prim.Native.Nat.{ℕ}
use lib.Count.{count_trailing_zeros}
use lib.Ieee.{Float, size, span, climb, odd, units, round, neg, sum, add, sub, mul, div, lt, eq, le, of_int, is_nan, of_fields, of_bits, to_bits}
use Rattle.rounding.specs.Roots.{root_in, root, rooted}
use Rattle.leaves.specs.Single.{f32, zero32, two32, whole32}
use Rattle.leaves.specs.Fma.{fma_of}
use Rattle.leaves.specs.Small.{negative_of, abs_of, less_of, min_of, max_of}
use Rattle.leaves.specs.Sqrt.{sqrt_of}
use Rattle.leaves.specs.Whole.{limit32}
use Rattle.answer.specs.Answer.{Done, SumTooLarge}
use Rattle.point.specs.declared.Point.{Point}
use Rattle.std.specs.Prelude.{None, Some}
use Rattle.point.specs.Point.{point_at, plain, applied_of, minus_of, len_of}
use Rattle.point.specs.Angle.{half_pi, approx_atan2_of, angle_of, diff_of, full_diff_of, difference_of, changed_of}
use Rattle.point.specs.Curve.{curvature_of}
use Rattle.point.specs.declared.Setting.{Setting}
use Rattle.point.specs.declared.Setting.TheVariants.{Screen, Knife}
use Rattle.primitives.specs.declared.Capacities.{Capacities}
use Rattle.primitives.specs.Edits.{State, Edit, Keep, Extend, Bend}
use Rattle.primitives.specs.declared.Cubic.{Cubic}
use Rattle.primitives.specs.declared.Primitive.TheVariants.{Contour, Line, Quad}
use Rattle.primitives.specs.declared.Kind.{Kind}
use Rattle.primitives.specs.declared.Kind.TheVariants.{Straight, Round}
use Rattle.primitives.specs.declared.SplineRow.{SplineRow}
use Rattle.primitives.specs.Cubics.{bend_of, cubic_error_of}
use Rattle.primitives.specs.Quads.{cross_of, leg_of, own_curvature_of, straight_of, curve_of}
use Rattle.primitives.specs.Splines.{state_of, far_of, spline_kind_of, apart_of, opens_of, line_angle_of, sum_before, spline_edit_of}
use Rattle.primitives.specs.Plan.{refused_of, marked_of, plan_line_of, quad_row_of, plan_curve_of, plan_legs_of, plan_quad_of, plan_of}

-- the point (x, y)
abbrev P : ℕ → ℕ → Point
P x y = point_at (whole32 x) (whole32 y)

-- ---- "the end point isn't in it": from (0,0) by (0,10) and (10,10) the error is 30·30 + 10·10, wherever the cubic ends
abbrev ending_at : Point → Cubic
ending_at end = record { p0 = plain (P 0 0); p1 = plain (P 0 10); p2 = plain (P 10 10); p3 = plain end }

pub error_near : cubic_error_of (ending_at (P 30 0)) ≡ whole32 1000
unfolding cubic_error_of bend_of applied_of fma_of count_trailing_zeros size span climb odd units round neg sum add sub mul div lt eq le of_int is_nan of_fields of_bits
error_near = refl

pub error_far : cubic_error_of (ending_at (P 99 7)) ≡ whole32 1000
unfolding cubic_error_of bend_of applied_of fma_of count_trailing_zeros size span climb odd units round neg sum add sub mul div lt eq le of_int is_nan of_fields of_bits
error_far = refl

-- ---- a contour's splines are numbered on from those of the one before
abbrev room : Capacities
room = record { quads = 8; splines = 8 }

-- a spline from (0,0) to the point end with this sum
abbrev ended : Point → Float → SplineRow
ended end sum = record { curvature = sum; p0 = P 0 0; p2 = end; contour = true; first_quad = 0; quad_count = 0 }

unfoldable pub state_after : Edit → State
state_after (Keep st) = st
state_after (Extend edit) = edit.next
state_after (Bend edit i row) = edit.next

-- the number of the spline that an edit goes to; 99 where it goes to none
unfoldable pub spline_of : Edit → ℕ
spline_of (Keep st) = 99
spline_of (Extend edit) = edit.at
spline_of (Bend edit i row) = edit.at

pub numbered_on_lem :
    spline_of (plan_of Screen room (state_after (plan_of Screen room (state_of Done 2 0 false None) (ended (P 10 0) zero32) Contour)) (ended (P 10 0) zero32) (Line (plain (P 0 0)) (plain (P 10 0)))) ≡ 2
unfolding state_after spline_of plan_of plan_line_of marked_of opens_of spline_edit_of
numbered_on_lem = refl

-- ---- "The mark moves to the new spline."
pub mark_moves : (state_after (plan_of Screen room (state_of Done 2 0 true None) (ended (P 10 0) zero32) (Line (plain (P 0 0)) (plain (P 10 0))))).mark ≡ false
unfolding state_after plan_of plan_line_of opens_of spline_edit_of
mark_moves = refl

-- ---- "its start is 0.0625 or more from the last spline's end"
pub far_enough : far_of (point_at (f32 0x3d80_0000) zero32) (ended (P 0 0) zero32) ≡ true
unfolding far_of minus_of len_of sqrt_of root_in root rooted count_trailing_zeros size span climb odd units round neg sum add sub mul div lt eq le of_int is_nan of_fields of_bits
far_enough = refl

-- the f32 below 0.0625
pub near_enough : far_of (point_at (f32 0x3d7f_ffff) zero32) (ended (P 0 0) zero32) ≡ false
unfolding far_of minus_of len_of sqrt_of root_in root rooted count_trailing_zeros size span climb odd units round neg sum add sub mul div lt eq le of_int is_nan of_fields of_bits
near_enough = refl

-- ---- a line without angle: the screen setting forgets the last angle, the knife setting keeps it
pub screen_forgets : line_angle_of Screen (Some half_pi) None ≡ None
unfolding line_angle_of
screen_forgets = refl

pub knife_keeps : line_angle_of Knife (Some half_pi) None ≡ Some half_pi
unfolding line_angle_of
knife_keeps = refl

-- ---- "a line and a quad must never share a spline": at (10,0), where the last spline ends with a sum of 0 or 2, with no mark and no last angle; quads are stored
abbrev opens_after : Setting → Kind → Float → Bool
opens_after setting kind sum = opens_of setting kind (state_of Done 2 1 false None) (ended (P 10 0) sum) None (P 10 0)

-- it goes by the last spline, not by the quad table; and on the screen they share
pub kinds_apart :
    (opens_after Knife Straight two32 ≡ true) × (opens_after Knife Round zero32 ≡ true)
    × (opens_after Knife Straight zero32 ≡ false) × (opens_after Knife Round two32 ≡ false)
    × (opens_after Screen Straight two32 ≡ false) × (opens_after Screen Round zero32 ≡ false)
unfolding far_of spline_kind_of apart_of opens_of changed_of minus_of len_of sqrt_of root_in root rooted count_trailing_zeros size span climb odd units round neg sum add sub mul div lt eq le of_int is_nan of_fields of_bits
kinds_apart = (refl, refl, refl, refl, refl, refl)

-- ---- a straight quad, whose curvature is 2, on a spline whose sum is 65,536: refused with 8, and nothing is stored
pub sum_refused :
    plan_of Screen room (state_of Done 1 1 false None) (ended (P 10 0) limit32) (Quad (plain (P 10 0)) (plain (P 15 0)) (plain (P 20 0)))
    ≡ Keep (state_of SumTooLarge 1 1 false None)
unfolding plan_of plan_quad_of plan_legs_of plan_curve_of refused_of quad_row_of cross_of leg_of own_curvature_of straight_of curve_of far_of spline_kind_of apart_of opens_of sum_before spline_edit_of applied_of minus_of len_of approx_atan2_of angle_of diff_of full_diff_of difference_of changed_of curvature_of negative_of abs_of less_of min_of max_of fma_of sqrt_of root_in root rooted count_trailing_zeros size span climb odd units round neg sum add sub mul div lt eq le of_int is_nan of_fields of_bits to_bits
sum_refused = refl
