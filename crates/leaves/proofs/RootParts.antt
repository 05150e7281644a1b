-- `sqrt_of` by the tests that the code makes, and from the digits of a pattern. Assumes nothing.
use mathlib.Core.Path.{◌≡◌, refl, sym, ap, ◌∙◌}
use mathlib.Core.Bool.{Bool, true, false}
use Prim.Native.Nat.{ℕ, suc, ◌*◌, ◌/◌, ◌^◌, ◌<◌}
use native.Mathlib.Nat.{mul_right_comm, mul-div_cancel}
use lib.IntN.{ℤ}
use lib.Ieee.{nan, Float, inf, fin, binary32, up, down, lt, eq}
use lib.Ieee.Fits.{down_pos}
use lib.Ieee.Exact.{HasValue}
use Rattle.rounding.specs.Roots.{rooted}
use Rattle.leaves.specs.Sqrt.{sqrt32, sqrt_of}
use Rattle.leaves.proofs.Comparisons as Comparisons
use Rattle.leaves.proofs.Comparisons.{plain, positive_is, only_infinity, only_zero}

squares : (x A d L : ℕ) → 0 < d → x * L ≡ A * d → x * L * L / d ≡ A * L
squares x A d L D e = ap (λ (y : ℕ). y * L / d) e ∙ ap (λ (y : ℕ). y / d) (mul_right_comm A d L) ∙ mul-div_cancel (A * L) D

of_positive : (m : ℕ) (e : ℤ) → sqrt_of binary32 (fin false (suc m) e) ≡ rooted binary32 (suc m * up e * 2 ^ 149 * 2 ^ 149 / down e)
unfolding sqrt_of
of_positive m e = refl

pub root_value : (x : Float) (s : Bool) (A : ℕ) → lt plain x ≡ true → HasValue x s A (2 ^ 149) → rooted binary32 (A * 2 ^ 149) ≡ sqrt32 x
root_value x s A h v =
    let p = positive_is x s A (2 ^ 149) h v in
    let m = p.0 in
    let e = p.1 in
    sym (ap (sqrt_of binary32) p.2 ∙ of_positive m e ∙ ap (λ (n : ℕ). rooted binary32 n) (squares (suc m * up e) A (down e) (2 ^ 149) (down_pos e) p.3))

pub at_infinity : (x : Float) → lt plain x ≡ true → lt x (inf false) ≡ false → x ≡ sqrt32 x
unfolding sqrt_of
at_infinity x h k = only_infinity x h k ∙ sym (ap (sqrt_of binary32) (only_infinity x h k))

pub at_zero : (x : Float) → eq x plain ≡ true → x ≡ sqrt32 x
unfolding sqrt_of
at_zero x h = let z = only_zero x h in z.2 ∙ sym (ap (sqrt_of binary32) z.2)

pub elsewhere : (x : Float) → lt plain x ≡ false → eq x plain ≡ false → nan ≡ sqrt32 x
unfolding sqrt_of
elsewhere x h k = sym (Comparisons.elsewhere (sqrt_of binary32) refl refl (λ m e. refl) x h k)
