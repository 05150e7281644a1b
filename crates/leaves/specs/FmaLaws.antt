-- RULES, Numbers 3: IEEE 754's fusedMultiplyAdd in binary32, in the standard's words and not by a computation: what r has to be, for r to
-- be x * y + z. For any x, y and z exactly one r obeys: `fma32 x y z` (`fma_lawful` and `fma_only`, leaves/proofs/FmaOnly). The numbers are the
-- standard's clauses. Assumes nothing.
use Rattle.std.specs.Prelude.{◌≡◌, Bool, true, false, not, ◌&&◌, ◌||◌, zero, suc, ◌-◌, ◌*◌, ◌^◌, ◌≤◌, ◌<◌, ℤ, pos, negsuc, nat_abs, T, Float}
use Rattle.std.specs.Float.{nan, inf, binary32}
use Rattle.std.specs.Float.Ieee.{unlike, is_nan, fits}
use Rattle.std.specs.Float.Ieee.Scale.{finite}
use Rattle.rounding.specs.Nearest.{NearestTo}
use Rattle.leaves.specs.Exact.{exact_num, exact_den}
use Rattle.leaves.specs.Small.{negative_of, is_inf, is_zero}

-- 6.1: an infinity times what is neither a zero nor a NaN is an infinity
unfoldable pub inf_product : Float → Float → Bool
inf_product x y = (is_inf x || is_inf y) && not (is_zero x || is_zero y) && not (is_nan x || is_nan y)

-- 6.3: the sign of a product is negative where one factor's is and the other's is not
unfoldable pub product_sign : Float → Float → Bool
product_sign x y = unlike (negative_of x) (negative_of y)

-- the sign of a number, and s for zero, which has none
abbrev pub sign_or : Bool → ℤ → Bool
sign_or s (pos zero) = s
sign_or s (pos (suc n)) = false
sign_or s (negsuc n) = true

-- 6.3: the sign of x * y + z. A sum that is exactly zero is -0 where both product and addend are negative, and +0 otherwise
unfoldable pub exact_sign : Float → Float → Float → Bool
exact_sign x y z = sign_or (product_sign x y && negative_of z) (exact_num x y z)

-- 4.3.1, roundTiesToEven, of three finite values: an exact value from 2 ^ 127 * (2 - 2 ^ -24) up in size gives an infinity, and any other the nearest f32
pub record FmaFinite (x y z r : Float) : Type 0 where
  pub overflows : (2 ^ 128 - 2 ^ 103) * exact_den x y z ≤ nat_abs (exact_num x y z) → T (is_inf r)
  pub rounds : nat_abs (exact_num x y z) < (2 ^ 128 - 2 ^ 103) * exact_den x y z → NearestTo binary32 (exact_num x y z) (exact_den x y z) r
  pub sign : negative_of r ≡ exact_sign x y z

pub record FmaLaws (x y z r : Float) : Type 0 where
  pub held : T (fits binary32 r)
  -- 6.2 and 7.2: a NaN, zero times infinity, and infinity less infinity
  pub nan_factor : T (is_nan x || is_nan y) → r ≡ nan
  pub nan_addend : T (is_nan z) → r ≡ nan
  pub no_product : T (is_zero x && is_inf y || is_inf x && is_zero y) → r ≡ nan
  pub no_sum : T (inf_product x y) → z ≡ inf (not (product_sign x y)) → r ≡ nan
  -- 6.1: infinities are exact
  pub product_wins : T (inf_product x y) → T (finite z) → r ≡ inf (product_sign x y)
  pub infinities_agree : T (inf_product x y) → z ≡ inf (product_sign x y) → r ≡ inf (product_sign x y)
  pub addend_wins : T (finite x) → T (finite y) → T (is_inf z) → r ≡ z
  pub finites : T (finite x) → T (finite y) → T (finite z) → FmaFinite x y z r
