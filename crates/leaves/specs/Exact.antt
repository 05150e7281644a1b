-- RULES, Numbers 3: the exact x * y + z of three finite values, as the fraction exact_num / exact_den. `FmaLaws` says by it what `fma` must give. Assumes
-- nothing.
use Rattle.std.specs.Prelude.{ℕ, ◌*◌, ℤ, pos, ◌+ℤ◌, ◌*ℤ◌, Float}
use Rattle.std.specs.Float.Ieee.Positive.{den}
use Rattle.rounding.specs.Nearest.{signed_num}

unfoldable pub exact_num : Float → Float → Float → ℤ
exact_num x y z = signed_num x *ℤ signed_num y *ℤ pos (den z) +ℤ signed_num z *ℤ pos (den x * den y)

unfoldable pub exact_den : Float → Float → Float → ℕ
exact_den x y z = den x * den y * den z
