-- The constants of the curves' shortcuts as numbers, and bounds of an f32's digits. Assumes nothing.
use mathlib.Core.Path.{◌≡◌, refl}
use mathlib.Core.Bool.{Bool, false, ◌&&◌}
use Prim.Native.Nat.{ℕ, zero, suc, ◌*◌, ◌%◌, ◌^◌, ◌<◌}
use lib.IntN.{ℤ, pos, negsuc}
use lib.Dec.{T, leb, ltb, eqb, ltb→lt, eqb→eq}
use lib.Pow.{pow_pos}
use lib.Ieee.{Float, fin, binary32, up, down, fits, of_bits}
use lib.Ieee.Fits.{and_l, and_r}
use Rattle.leaves.specs.Single.{f32, zero32, half32, one32}

abbrev pub nought : Float
nought = fin false 0 (pos 0)

abbrev pub quarter : Float
quarter = fin false 1 (negsuc 1)

abbrev pub half : Float
half = fin false 1 (negsuc 0)

abbrev pub one : Float
one = fin false 1 (pos 0)

pub zero_is : zero32 ≡ nought
unfolding of_bits
zero_is = refl

pub quarter_is : f32 0x3e80_0000 ≡ quarter
unfolding of_bits
quarter_is = refl

pub half_is : half32 ≡ half
unfolding of_bits
half_is = refl

pub one_is : one32 ≡ one
unfolding of_bits
one_is = refl

-- ---- the digits of an f32 are odd, 24 at most, and below 2 ^ 128
module _ (s : Bool) (m : ℕ) (e : ℤ) (F : T (fits binary32 (fin s (suc m) e))) where
  is_odd : Bool
  is_odd = eqb (suc m % 2) 1

  short : Bool
  short = ltb (suc m) (2 ^ 24)

  fine : Bool
  fine = leb (down e) (2 ^ 149)

  three : T (is_odd && short && fine)
  unfolding fits is_odd short fine
  three = and_l (is_odd && short && fine) (ltb (suc m * up e) (2 ^ 128 * down e)) F

  pub odd_digits : suc m % 2 ≡ 1
  unfolding is_odd
  odd_digits = eqb→eq (suc m % 2) 1 (and_l is_odd short (and_l (is_odd && short) fine three))

  some_lt : suc m < 2 ^ 24
  unfolding short
  some_lt = ltb→lt (suc m) (2 ^ 24) (and_r is_odd short (and_l (is_odd && short) fine three))

  pub size_lt : suc m * up e < 2 ^ 128 * down e
  unfolding fits is_odd short fine
  size_lt = ltb→lt (suc m * up e) (2 ^ 128 * down e) (and_r (is_odd && short && fine) (ltb (suc m * up e) (2 ^ 128 * down e)) F)

pub digits_lt : (s : Bool) (m : ℕ) (e : ℤ) → T (fits binary32 (fin s m e)) → m < 2 ^ 24
digits_lt s zero e F = pow_pos 24
digits_lt s (suc m) e F = some_lt s m e F
