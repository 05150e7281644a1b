-- Laws of signed numbers: the sign of one that the machine holds, and its decimal digits with the sign. Assumes nothing.
use mathlib.Core.Path.{◌≡◌, refl, sym, ap, ◌∙◌}
use mathlib.Core.Bool.{true, false, true≢false}
use mathlib.Core.List.{◌∷◌}
use Prim.Native.Nat.{suc, ◌≤◌, zero-le}
use native.Mathlib.Omega.{arith}
use borrow.Author.Tests.{le-ltb}
use lib.IntN.{ℤ, pos, negsuc, nat_abs}
use lib.Signed.{mag, lt_z}
use lib.ListN.{length}
use mir.Syntax.{w64}
use mir.Val.{SFits, to_z, of_z}
use mir.ValLaws.{to_z-of_z}
use Rattle.text.specs.Decimal.{decimal_of}
use Rattle.text.specs.Signed.{signed_of}
use Rattle.text.proofs.Decimals.{decimal_short}

-- ---- z as the machine holds it
module _ (z : ℤ) (F : SFits w64 z) where
  pub back : to_z w64 (of_z w64 z) ≡ z
  back = to_z-of_z w64 z F

  pub below_zero : lt_z (to_z w64 (of_z w64 z)) (pos 0) ≡ true → z ≡ negsuc (mag z)
  below_zero h = go z (sym (ap (λ (v : ℤ). lt_z v (pos 0)) back) ∙ h)
    where
      go : (v : ℤ) → lt_z v (pos 0) ≡ true → v ≡ negsuc (mag v)
      go (pos n) h = absurd (true≢false (sym h ∙ le-ltb n 0 zero-le))
      go (negsuc n) h = refl

  pub not_below : lt_z (to_z w64 (of_z w64 z)) (pos 0) ≡ false → z ≡ pos (mag z)
  not_below h = go z (sym (ap (λ (v : ℤ). lt_z v (pos 0)) back) ∙ h)
    where
      go : (v : ℤ) → lt_z v (pos 0) ≡ false → v ≡ pos (mag v)
      go (pos n) h = refl
      go (negsuc n) h = absurd (true≢false h)

-- ---- the digits, with the sign
pub plain_digits : (z : ℤ) → z ≡ pos (mag z) → decimal_of (nat_abs z) ≡ signed_of z
unfolding signed_of
plain_digits z e = ap (λ (v : ℤ). decimal_of (nat_abs v)) e ∙ sym (ap signed_of e)

pub minus_digits : (z : ℤ) → z ≡ negsuc (mag z) → 0x2d ∷ decimal_of (nat_abs z) ≡ signed_of z
unfolding signed_of
minus_digits z e = ap (λ (v : ℤ). 0x2d ∷ decimal_of (nat_abs v)) e ∙ sym (ap signed_of e)

-- at most the sign and twenty digits
pub signed_short : (z : ℤ) → (1 ≤ length (signed_of z)) × (length (signed_of z) ≤ 21)
unfolding signed_of
signed_short (pos n) = omega (arith, decimal_short n)
signed_short (negsuc n) = omega (arith, decimal_short (suc n))
