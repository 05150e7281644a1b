-- RULES, Numbers 4: square root, IEEE 754's squareRoot: the value of the format nearest to the root. A finite value is a whole number of squares of the
-- format's smallest value, so the division below leaves no rest, and `rooted` needs whole numbers alone. -0 is its own root. Assumes nothing.
use Rattle.std.specs.Prelude.{◌≡◌, ℕ, zero, suc, ◌+◌, ◌*◌, ◌/◌, ◌^◌, ◌≤◌, ◌<◌, T, true, false, Float}
use Rattle.std.specs.Float.{nan, inf, fin, Format, binary32}
use Rattle.std.specs.Float.Ieee.{low, up, down, fits}
use Rattle.std.specs.Float.Ieee.Scale.{finite}
use Rattle.std.specs.Float.Ieee.Positive.{num, den}
use Rattle.rounding.specs.Roots.{rooted}
use Rattle.leaves.specs.Small.{negative_of}

unfoldable pub sqrt_of : Format → Float → Float
sqrt_of f nan = nan
sqrt_of f (inf true) = nan
sqrt_of f (inf false) = inf false
sqrt_of f (fin s zero e) = fin s zero e
sqrt_of f (fin true (suc m) e) = nan
sqrt_of f (fin false (suc m) e) = rooted f (suc m * up e * 2 ^ low f * 2 ^ low f / down e)

abbrev pub sqrt32 : Float → Float
sqrt32 x = sqrt_of binary32 x

-- the middle between r and y is middle r y / (2 * (den r * den y))
abbrev pub middle : Float → Float → ℕ
middle r y = num r * den y + num y * den r

-- r is a finite f32 without a sign, and for any other f32 y from 0 up the root of x lies on r's side of the middle between the two, as their squares say: no
-- f32 is nearer to the root. A y below 0 is farther from it than 0 is.
pub record NearestRoot (x r : Float) : Type 0 where
  pub held : T (fits binary32 r)
  pub whole : T (finite r)
  pub unsigned : negative_of r ≡ false
  pub below : (y : Float) → T (fits binary32 y) → T (finite y) → num y * den r < num r * den y
      → middle r y * middle r y * den x ≤ num x * (2 * (den r * den y) * (2 * (den r * den y)))
  pub above : (y : Float) → T (fits binary32 y) → T (finite y) → num r * den y < num y * den r
      → num x * (2 * (den r * den y) * (2 * (den r * den y))) ≤ middle r y * middle r y * den x
