-- Small whole numbers, beyond what the kit has in native.Mathlib.Nat and native.Mathlib.Numerals. Assumes nothing.
use Prim.Native.Nat.{ℕ, suc, ◌+◌, ◌*◌, ◌/◌, ◌%◌, ◌<◌}
use mathlib.Core.Path.{◌≡◌}
use native.Mathlib.Omega.{arith}

-- one on at the left is one on at the right
pub shift : (a n : ℕ) → suc a + n ≡ a + suc n
shift a n = omega arith

pub shift_one : (a n : ℕ) → a + 1 + n ≡ a + suc n
shift_one a n = omega arith

pub halves : (n : ℕ) → n % 2 ≡ 0 → 2 * (n / 2) ≡ n
halves n e = omega arith

-- a last digit is 0 or 1
pub no_digit : (b : ℕ) → suc (suc b) < 2 → ⊥
no_digit b h = omega arith
