-- RULES, Angles 7 to 9: what the comparison of angles promises, apart from its arithmetic. `turning` (point/proofs/Turning) proves it. Assumes nothing.
use Rattle.std.specs.Prelude.{◌≡◌, Bool, true, false, ◌&&◌, ◌||◌, ◌+◌, ◌*◌, T, Float}
use Rattle.std.specs.Float.{nan, inf}
use Rattle.std.specs.Float.Ieee.{lt, le, neg}
use Rattle.std.specs.Float.Ieee.Scale.{finite}
use Rattle.std.specs.Float.Ieee.Positive.{num, den}
use Rattle.leaves.specs.Single.{◌⊖◌, f32, zero32, one32}
use Rattle.leaves.specs.Small.{abs_of}
use Rattle.point.specs.declared.Point.{Point}
use Rattle.point.specs.Angle.{Angle}
use Rattle.std.specs.Prelude.{None, Some}
use Rattle.point.specs.declared.Setting.TheVariants.{Screen, Knife}
use Rattle.point.specs.Point.{point_at, minus_of}
use Rattle.point.specs.Angle.{pi, two_pi, max_angle_error, angle_of, turn_of, full_diff_of, changed_of}

-- a direction without infinite and NaN coordinates
abbrev pub finite_of : Point → Bool
finite_of d = finite d.x && finite d.y

abbrev pub known_of : Angle → Bool
known_of None = false
known_of (Some a) = true

-- an angle within ±π, and so no NaN
abbrev pub angled : Float → Bool
angled a = le (abs_of a) pi

-- the direction back
abbrev pub reverse_of : Point → Point
reverse_of d = point_at (neg d.x) (neg d.y)

-- x + y is exactly z, for values that are not negative: as fractions
abbrev pub Sums : Float → Float → Float → Type 0
Sums x y z = (num x * den y + num y * den x) * den z ≡ num z * (den x * den y)

-- to the left, and down by the least f32
abbrev pub under_left : Point
under_left = point_at (neg one32) (f32 0x8000_0001)

pub record Turning : Type 0 where
  -- the angle of a finite direction lies within ±π
  pub within : (d : Point) (a : Float) → T (finite_of d) → angle_of d ≡ Some a → T (angled a)
  -- and that of an infinite one need not
  pub infinite : angle_of (point_at (inf false) (inf false)) ≡ Some nan
  -- the turn is at most 2π, and two directions to either side of the negative x axis are as far apart
  pub turn_most : (a0 a1 : Float) → T (angled a0) → T (angled a1) → T (le (turn_of a0 a1) two_pi)
  pub turn_reached : (angle_of under_left ≡ Some (neg pi)) × (angle_of (point_at (neg one32) zero32) ≡ Some pi) × (turn_of (neg pi) pi ≡ two_pi)
  -- above π, 2π ⊖ turn is exact
  pub rest_exact : (a0 a1 : Float) → T (angled a0) → T (angled a1) → T (lt pi (turn_of a0 a1)) → let turn = turn_of a0 a1 in Sums (two_pi ⊖ turn) turn two_pi
  -- the difference around the full turn is from 0 to π, 0 for equal angles, and symmetric
  pub most : (a0 a1 : Float) → T (angled a0) → T (angled a1) → T (le zero32 (full_diff_of a0 a1) && le (full_diff_of a0 a1) pi)
  pub none : (a : Float) → T (angled a) → full_diff_of a a ≡ zero32
  pub symmetric : (a0 a1 : Float) → full_diff_of a0 a1 ≡ full_diff_of a1 a0
  -- a reversal always counts as changed for the knife: of a direction and its negative, and of a line out and the same line back
  pub reversed : (d : Point) → T (finite_of d) → T (known_of (angle_of d)) → changed_of Knife (angle_of d) (angle_of (reverse_of d)) ≡ true
  pub out_and_back : (p q : Point) → let d = minus_of q p in T (finite_of d) → T (known_of (angle_of d)) → changed_of Knife (angle_of d) (angle_of (minus_of p q)) ≡ true
  -- the knife says changed where the screen does, and beyond that exactly for turns within 0.001 of π
  pub beside_screen : (a0 a1 : Float) → T (angled a0) → T (angled a1)
      → changed_of Knife (Some a0) (Some a1) ≡ changed_of Screen (Some a0) (Some a1) || le (abs_of (turn_of a0 a1 ⊖ pi)) max_angle_error
