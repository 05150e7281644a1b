-- Shifts of 64 digits, as code has them. Assumes nothing.
use mathlib.Core.Path.{◌≡◌}
use Prim.Native.Nat.{ℕ, ◌*◌, ◌/◌, ◌%◌, ◌^◌, ◌<◌}
use native.Mathlib.Nat.{div-mul-le_self, mod-eq_of_lt, lt_of_le_of_lt}

-- what was shifted right and is shifted back wraps nothing
pub back_is : (x w : ℕ) → x < 2 ^ 64 → x / w * w % 2 ^ 64 ≡ x / w * w
back_is x w X = mod-eq_of_lt (lt_of_le_of_lt (div-mul-le_self x w) X)
