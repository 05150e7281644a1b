-- 02, One: "Each coordinate becomes the nearest whole number, halves away from zero". What that means, and which numbers the plotter takes. Assumes nothing.
use Rattle.std.specs.Prelude.{◌+◌, ◌*◌, ◌/◌, ◌≤◌, ◌≡◌, Bool, false, cond, Option, Some, None, ℤ, pos, negsuc, nat_abs, leb, Float}
use Rattle.std.specs.Float.{nan, inf, fin}
use Rattle.std.specs.Float.Ieee.Positive.{num, den}
use Rattle.rounding.specs.Nearest.{signed, far_from}
use Rattle.leaves.specs.Small.{negative_of}

-- a finite x is num x / den x with its sign; one half more, down to a whole number, is the nearest with halves away from zero
unfoldable pub whole_of : Float → ℤ
whole_of x = signed (negative_of x) ((2 * num x + den x) / (2 * den x))

-- -32,768..32,767; `negsuc n` is -(n + 1)
unfoldable pub in_range : ℤ → Bool
in_range (pos n) = leb n 32767
in_range (negsuc n) = leb n 32767

-- "12 when a coordinate is NaN or rounds outside -32,768..32,767"; an infinity does too
unfoldable pub printable_of : Float → Bool
printable_of nan = false
printable_of (inf s) = false
printable_of (fin s m e) = in_range (whole_of (fin s m e))

-- the number, where there is one
unfoldable pub unit_of : Float → Option ℤ
unit_of x = cond (printable_of x) (Some (whole_of x)) None

-- ---- the law, without the formula: n lies within one half of x, no whole number is nearer, and of two that are as near n is farther from zero. Distances are
-- counted in 1 / den x. Proved in proofs/Nearest, with the law that only one whole number has it
pub record NearestWhole (x : Float) (n : ℤ) : Type 0 where
  pub half : 2 * far_from x n 1 ≤ den x
  pub closest : (k : ℤ) → far_from x n 1 ≤ far_from x k 1
  pub away : (k : ℤ) → far_from x k 1 ≡ far_from x n 1 → nat_abs k ≤ nat_abs n
