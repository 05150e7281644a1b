-- `sixth_root_of` from fewer digits, and by the tests that the code makes. Assumes nothing.
use mathlib.Core.Path.{◌≡◌, refl, sym, ap, ◌∙◌}
use mathlib.Core.Bool.{Bool, true, false}
use Prim.Native.Nat.{ℕ, suc, ◌+◌, ◌-◌, ◌*◌, ◌/◌, ◌^◌, ◌≤◌, ◌<◌}
use native.Mathlib.Nat.{mul_right_comm, mul-div_cancel, mul_assoc, zero-lt-suc, mul-le-mul_right, mul-lt-mul_of_pos_right}
use native.Mathlib.Omega.{arith}
use lib.IntN.{ℤ}
use lib.Pow.{pow-add, pow_pos}
use lib.Ieee.{nan, Float, inf, fin, binary32, units, up, down, lt, eq}
use lib.Ieee.Fits.{down_pos}
use lib.Ieee.Exact.{HasValue}
use Rattle.rounding.specs.Roots.{root, IsRoot, cut_to}
use Rattle.rounding.proofs.Basics.{pow_pow}
use Rattle.rounding.proofs.Cuts.{cut_at}
use Rattle.rounding.proofs.Roots.{power_lt, root_shift}
use Rattle.leaves.specs.Sixth.{sixth_root_of}
use Rattle.leaves.proofs.Comparisons as Comparisons
use Rattle.leaves.proofs.Comparisons.{plain, positive_is, only_infinity, only_zero}

-- ---- n = t * 2 ^ 96, of 139 to 144 digits
pub digits_lt : (t s : ℕ) → t < 2 ^ 48 → IsRoot 6 (t * 2 ^ 96) s → s < 2 ^ 24
digits_lt t s h r = power_lt 6 s (2 ^ 24) (t * 2 ^ 96) r.0 (mul-lt-mul_of_pos_right h (pow_pos 96))

pub digits_ge : (t s : ℕ) → 2 ^ 42 ≤ t → IsRoot 6 (t * 2 ^ 96) s → 2 ^ 23 ≤ s
digits_ge t s h r = last (power_lt 6 (2 ^ 23) (s + 1) (t * 2 ^ 96) (mul-le-mul_right (2 ^ 96) h) r.1)
  where
    last : 8388608 < s + 1 → 8388608 ≤ s
    last g = omega arith

regroup : (m e l k : ℕ) → e + 745 ≡ l + (96 + k * 6) → m * 2 ^ l * 2 ^ 96 * (2 ^ k) ^ 6 ≡ m * 2 ^ e * 2 ^ 745
regroup m e l k h =
    ap (λ (x : ℕ). m * 2 ^ l * 2 ^ 96 * x) (pow_pow 2 k 6)
    ∙ mul_assoc (m * 2 ^ l) (2 ^ 96) (2 ^ (k * 6))
    ∙ ap (λ (x : ℕ). m * 2 ^ l * x) (sym (pow-add 2 96 (k * 6)))
    ∙ mul_assoc m (2 ^ l) (2 ^ (96 + k * 6))
    ∙ ap (λ (x : ℕ). m * x) (sym (pow-add 2 l (96 + k * 6)) ∙ ap (λ (x : ℕ). 2 ^ x) (sym h) ∙ pow-add 2 e 745)
    ∙ sym (mul_assoc m (2 ^ e) (2 ^ 745))

pub parts_value : (m e k s : ℕ) → k * 6 ≤ e + 649 → 2 ^ 42 ≤ m * 2 ^ (e + 649 - k * 6) → m * 2 ^ (e + 649 - k * 6) < 2 ^ 48
    → IsRoot 6 (m * 2 ^ (e + 649 - k * 6) * 2 ^ 96) s → units binary32 false s k ≡ cut_to binary32 (root 6 (m * 2 ^ e * 2 ^ 745))
parts_value m e k s h lo hi r =
    let l = e + 649 - k * 6 in
    let n = m * 2 ^ l * 2 ^ 96 in
    sym (cut_at binary32 (root 6 (n * (2 ^ k) ^ 6)) s k (root_shift 6 (zero-lt-suc 5) n s k r) (digits_ge (m * 2 ^ l) s lo r) (digits_lt (m * 2 ^ l) s hi r))
    ∙ ap (λ (x : ℕ). cut_to binary32 (root 6 x)) (regroup m e l k (split e k h))
  where
    split : (e k : ℕ) → k * 6 ≤ e + 649 → e + 745 ≡ e + 649 - k * 6 + (96 + k * 6)
    split e k h = omega arith

-- ---- `sixth_root_of` by the tests that the code makes
powers : (x A d : ℕ) → 0 < d → x * 2 ^ 149 ≡ A * d → x * 2 ^ 894 / d ≡ A * 2 ^ 745
powers x A d D e =
    ap (λ (y : ℕ). y / d) (sym (mul_assoc x (2 ^ 149) (2 ^ 745)) ∙ ap (λ (y : ℕ). y * 2 ^ 745) e ∙ mul_right_comm A d (2 ^ 745))
    ∙ mul-div_cancel (A * 2 ^ 745) D

of_positive : (m : ℕ) (e : ℤ) → sixth_root_of (fin false (suc m) e) ≡ cut_to binary32 (root 6 (suc m * up e * 2 ^ 894 / down e))
unfolding sixth_root_of
of_positive m e = refl

pub root_value : (x : Float) (s : Bool) (A : ℕ) → lt plain x ≡ true → HasValue x s A (2 ^ 149) → cut_to binary32 (root 6 (A * 2 ^ 745)) ≡ sixth_root_of x
root_value x s A h v =
    let p = positive_is x s A (2 ^ 149) h v in
    let m = p.0 in
    let e = p.1 in
    sym (ap sixth_root_of p.2 ∙ of_positive m e ∙ ap (λ (n : ℕ). cut_to binary32 (root 6 n)) (powers (suc m * up e) A (down e) (down_pos e) p.3))

pub at_infinity : (x : Float) → lt plain x ≡ true → lt x (inf false) ≡ false → x ≡ sixth_root_of x
unfolding sixth_root_of
at_infinity x h k = only_infinity x h k ∙ sym (ap sixth_root_of (only_infinity x h k))

pub at_zero : (x : Float) → eq x plain ≡ true → plain ≡ sixth_root_of x
unfolding sixth_root_of
at_zero x h = let z = only_zero x h in sym (ap sixth_root_of z.2)

pub elsewhere : (x : Float) → lt plain x ≡ false → eq x plain ≡ false → nan ≡ sixth_root_of x
unfolding sixth_root_of
elsewhere x h k = sym (Comparisons.elsewhere sixth_root_of refl refl (λ m e. refl) x h k)
