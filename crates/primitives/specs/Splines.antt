-- RULES, Opening and Lines: when a primitive opens a spline, and the spline's row and the state after it. Assumes nothing.
use Rattle.std.specs.Prelude.{ℕ, ◌+◌, ◌-◌, min, Bool, true, false, not, ◌||◌, cond, Float}
use Rattle.std.specs.Float.Ieee.{le, eq}
use Rattle.leaves.specs.Single.{f32, zero32}
use Rattle.answer.specs.Answer.{Answer}
use Rattle.answer.specs.Answer.{Done}
use Rattle.point.specs.declared.Point.{Point}
use Rattle.point.specs.Angle.{Angle}
use Rattle.std.specs.Prelude.{None, Some}
use Rattle.point.specs.Point.{minus_of, len_of}
use Rattle.point.specs.Angle.{changed_of}
use Rattle.point.specs.declared.Setting.{Setting}
use Rattle.point.specs.declared.Setting.TheVariants.{Screen, Knife}
use Rattle.primitives.specs.Edits.{State, SplineEdit}
use Rattle.primitives.specs.declared.Kind.{Kind}
use Rattle.primitives.specs.declared.Kind.TheVariants.{Straight, Round}
use Rattle.primitives.specs.declared.SplineRow.{SplineRow}

-- 0.0625: MAX_ERROR
abbrev pub max_error : Float
max_error = f32 0x3d80_0000

abbrev pub state_of : Answer → ℕ → ℕ → Bool → Angle → State
state_of answer splines quads mark last = record { answer = answer; splines = splines; quads = quads; mark = mark; last = last }

-- "its start is 0.0625 or more from the last spline's end"
unfoldable pub far_of : Point → SplineRow → Bool
far_of start last = le max_error (len_of (minus_of start last.p2))

-- what a spline is of: it has no quad exactly if its sum is 0
unfoldable pub spline_kind_of : SplineRow → Kind
spline_kind_of spline = cond (eq spline.curvature zero32) Straight Round

-- 02, Two: "In the knife setting a line and a quad must never share a spline"
unfoldable pub apart_of : Setting → Kind → Kind → Bool
apart_of Screen a b = false
apart_of Knife Straight Straight = false
apart_of Knife Straight Round = true
apart_of Knife Round Straight = true
apart_of Knife Round Round = false

-- "A primitive opens a new spline if a contour mark waits, or the angle changed, or its start is 0.0625 or more from the last spline's end." For the knife also
-- if the last spline is of the other kind.
unfoldable pub opens_of : Setting → Kind → State → SplineRow → Angle → Point → Bool
opens_of setting kind st last angle start =
    st.mark || changed_of setting st.last angle || far_of start last || apart_of setting kind (spline_kind_of last)

-- "A line sets the last angle to its own, missing or not. Knife setting: a line without angle keeps the last angle."
unfoldable pub line_angle_of : Setting → Angle → Angle → Angle
line_angle_of Screen last angle = angle
line_angle_of Knife last None = last
line_angle_of Knife last (Some a) = Some a

-- The last angle after a Move. 02, Eight: "a stale angle from the contour before can decide a merge, so there a Move forgets the last angle."
unfoldable pub move_angle_of : Setting → Angle → Angle
move_angle_of Screen last = last
move_angle_of Knife last = None

-- "A spline's sum starts at 0."
unfoldable pub sum_before : Bool → SplineRow → Float
sum_before opens last = cond opens zero32 last.curvature

-- how many quads a spline has that begins with quad `first` and goes on to the last one stored. In a drawing that is at most 65,536; on a row made by hand, whose
-- first quad may be any number, it is 0 if there is none, and the largest u32 if there are more.
unfoldable pub quad_count_of : ℕ → ℕ → ℕ
quad_count_of first quads = min (quads - first) 0xffff_ffff

-- "The mark moves to the new spline. Every primitive sets the spline's end." If no mark waits, the new spline takes over the flag of the one before.
-- 02, Six: "The spline record shall carry its first quad and its number of quads". It opens at the next quad's number; `quads` are those stored after the primitive.
unfoldable pub spline_edit_of : Bool → State → SplineRow → Point → Point → Float → ℕ → Angle → SplineEdit
spline_edit_of true st last start end sum quads angle =
    record {
      clears = not st.mark;
      at = st.splines;
      row =
          record { curvature = sum; p0 = start; p2 = end; contour = true; first_quad = st.quads; quad_count = quad_count_of st.quads quads };
      next = state_of Done (st.splines + 1) quads false angle;
    }
spline_edit_of false st last start end sum quads angle =
    record {
      clears = false;
      at = st.splines - 1;
      row =
          record {
            curvature = sum;
            p0 = last.p0;
            p2 = end;
            contour = last.contour;
            first_quad = last.first_quad;
            quad_count = quad_count_of last.first_quad quads;
          };
      next = state_of Done st.splines quads false angle;
    }
