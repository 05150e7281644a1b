-- RULES, Angles: by `approx_atan2` of point.rs, and when an angle has changed. Assumes nothing.
use Rattle.std.specs.Prelude.{Bool, false, cond, Float, Option, None, Some}
use Rattle.std.specs.Float.Ieee.{lt, le, neg}
use Rattle.leaves.specs.Single.{◌⊖◌, ◌⊗◌, ◌⊘◌, f32, zero32}
use Rattle.leaves.specs.Fma.{fma32}
use Rattle.leaves.specs.Small.{abs_of, min_of, max_of}
use Rattle.point.specs.declared.Point.{Point}
use Rattle.point.specs.declared.Setting.{Setting}
use Rattle.point.specs.declared.Setting.TheVariants.{Screen, Knife}
use Rattle.point.specs.Point.{len_of}

-- the Rust's Option<f32>: a direction too short has no angle
abbrev pub Angle : Type 0
Angle = Option Float

-- π and π/2 as f32, 3.1415927 and 1.5707964
abbrev pub pi : Float
pi = f32 0x4049_0fdb

abbrev pub half_pi : Float
half_pi = f32 0x3fc9_0fdb

-- 2π, 6.2831855: twice the f32 of π
abbrev pub two_pi : Float
two_pi = f32 0x40c9_0fdb

-- 0.001: MAX_ANGLE_ERROR
abbrev pub max_angle_error : Float
max_angle_error = f32 0x3a83_126f

-- the constants are -0.046496473, 0.15931422 and -0.32762277
unfoldable pub approx_atan2_of : Float → Float → Float
approx_atan2_of y x =
    let x-abs = abs_of x in
    let y-abs = abs_of y in
    let a = min_of x-abs y-abs ⊘ max_of x-abs y-abs in
    let s = a ⊗ a in
    let r = fma32 (fma32 (fma32 s (f32 0xbd3e_7316) (f32 0x3e23_2344)) s (f32 0xbea7_be2c)) (s ⊗ a) a in
    let steep = cond (lt x-abs y-abs) (half_pi ⊖ r) r in
    let behind = cond (lt x zero32) (pi ⊖ steep) steep in
    cond (lt y zero32) (neg behind) behind

-- "Angle is missing below 2^-23, otherwise `approx_atan2`"; it is missing too if the length is a NaN
unfoldable pub angle_of : Point → Angle
angle_of d = cond (le (f32 0x3400_0000) (len_of d)) (Some (approx_atan2_of d.y d.x)) None

-- "|a1-a0|"
abbrev pub turn_of : Float → Float → Float
turn_of a0 a1 = abs_of (a1 ⊖ a0)

-- "`diff`: |a1-a0|; less π if over π; then π minus it if over π/2."
unfoldable pub diff_of : Float → Float → Float
diff_of a0 a1 =
    let turn = turn_of a0 a1 in
    let folded = cond (lt pi turn) (turn ⊖ pi) turn in
    cond (lt half_pi folded) (pi ⊖ folded) folded

-- "the absolute difference, or 2π less it when that is smaller"
unfoldable pub full_diff_of : Float → Float → Float
full_diff_of a0 a1 =
    let turn = turn_of a0 a1 in
    let rest = two_pi ⊖ turn in
    cond (lt rest turn) rest turn

-- "For the knife we want the difference of directions around the full turn"
unfoldable pub difference_of : Setting → Float → Float → Float
difference_of Screen a0 a1 = diff_of a0 a1
difference_of Knife a0 a1 = full_diff_of a0 a1

-- "Changed means both angles known and diff over 0.001." On the screen a full reversal is no change, for the knife it is one.
unfoldable pub changed_of : Setting → Angle → Angle → Bool
changed_of setting None a1 = false
changed_of setting (Some a0) None = false
changed_of setting (Some a0) (Some a1) = lt max_angle_error (difference_of setting a0 a1)
