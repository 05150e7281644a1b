-- `sixth_root_of q` is the largest f32 whose exact sixth power is at most q, for each finite q of 0 or more. Assumes nothing.
use mathlib.Core.Path.{◌≡◌, refl, sym, ap, ◌∙◌, subst}
use mathlib.Core.Bool.{Bool, true, false, ◌||◌}
use Prim.Native.Nat.{ℕ, zero, suc, ◌+◌, ◌-◌, ◌*◌, ◌^◌, ◌≤◌, ◌<◌}
use native.Mathlib.Nat.{mul-one, mul-pos, zero-mul, zero-lt-suc, lt_of_lt_of_le, mul-lt-mul_of_pos_right, eq_of_mul-eq-mul_right, ne_of_gt}
use native.Mathlib.Omega.{arith}
use lib.Dec.{T, leb, eqb, eqb→eq, lit≤}
use lib.IntN.{ℤ}
use lib.Pow.{pow_pos}
use lib.Ieee.{Float, nan, inf, fin, binary32, up, down, size, units, fits, lt, le, to_bits}
use lib.Ieee.Digits.{size-le}
use lib.Ieee.Fits.{and_l, kept-lt, down_pos, up_pos}
use lib.Ieee.Exact.{HasValue}
use lib.Ieee.Scale.{finite}
use lib.Ieee.Positive.{num, den}
use Rattle.rounding.specs.Roots.{root_in, root, cut_to}
use Rattle.rounding.proofs.Cuts.{gone, kept, next_fits, next_finite, next_greater}
use Rattle.rounding.proofs.RootLargest.{root_largest, power_above}
use Rattle.rounding.proofs.Roots.{power_lt, root_is}
use Rattle.rounding.proofs.Values.{worth, worth_value, worth_lt}
use Rattle.leaves.specs.Single.{zero32}
use Rattle.leaves.specs.Sixth.{sixth_root_of, Largest, next_up}
use Rattle.leaves.proofs.Comparisons.{plain, zero_is, above_zero}
use Rattle.leaves.proofs.SixthParts.{root_value}

-- ---- a finite q of 0 or more
none_left : (A d : ℕ) → 0 < d → 0 ≡ A * d → A ≡ 0
none_left A d D e = sym (eq_of_mul-eq-mul_right d D 0 A (zero-mul d ∙ e))

nought : cut_to binary32 (root 6 0) ≡ plain
unfolding cut_to root units root_in size
nought = refl

at_zero : (t : Bool) (e : ℤ) (A : ℕ) → A ≡ 0 → cut_to binary32 (root 6 (A * 2 ^ 745)) ≡ sixth_root_of (fin t zero e)
unfolding sixth_root_of
at_zero t e A z = ap (λ (x : ℕ). cut_to binary32 (root 6 (x * 2 ^ 745))) z ∙ nought

negative : (m : ℕ) (e : ℤ) → T (le plain (fin true (suc m) e)) → ⊥
unfolding le
negative m e h =
    ne_of_gt (subst (λ (x : ℕ). 0 < x) (sym (mul-one (suc m * up e))) (mul-pos (zero-lt-suc m) (up_pos e)))
    (sym (eqb→eq (0 * down e) (suc m * up e * 1) (and_l (eqb (0 * down e) (suc m * up e * 1)) (false || eqb (0 * down e) 0) h))
    ∙ zero-mul (down e))

positive : (m : ℕ) (e : ℤ) → lt plain (fin false (suc m) e) ≡ true
unfolding lt
positive m e = above_zero m e

is_cut : (q : Float) (s : Bool) (A : ℕ) → T (le plain q) → HasValue q s A (2 ^ 149) → cut_to binary32 (root 6 (A * 2 ^ 745)) ≡ sixth_root_of q
is_cut nan s A h v = absurd v
is_cut (inf t) s A h v = absurd v
is_cut (fin t zero e) s A h v = at_zero t e A (none_left A (down e) (down_pos e) (sym (ap (λ (x : ℕ). x * 2 ^ 149) (zero-mul (up e))) ∙ v.1))
is_cut (fin true (suc m) e) s A h v = absurd (negative m e h)
is_cut (fin false (suc m) e) s A h v = root_value (fin false (suc m) e) s A (positive m e) v

module _ (q : Float) (F : T (fits binary32 q)) (f : T (finite q)) (Q : T (le zero32 q)) where
  w : ℕ
  w = root 6 (worth binary32 q * (2 ^ 149) ^ 5)

  w_small : w < 2 ^ 171
  unfolding w
  w_small =
      let N = worth binary32 q * (2 ^ 149) ^ 5 in
      power_lt 6 w (2 ^ 171) N (root_is 6 (zero-lt-suc 5) N).0 (lt_of_lt_of_le (mul-lt-mul_of_pos_right (worth_lt binary32 q) (pow_pos 745)) (lit≤ tt))

  w_lt : w < 2 ^ 277
  w_lt = lt_of_lt_of_le w_small (lit≤ tt)

  is : cut_to binary32 w ≡ sixth_root_of q
  unfolding w
  is = is_cut q (leb 2147483648 (to_bits binary32 q)) (worth binary32 q) (subst (λ (z : Float). T (le z q)) zero_is Q) (worth_value binary32 q F f)

  pub sixth_largest : Largest q (sixth_root_of q)
  unfolding w
  sixth_largest = subst (λ (x : Float). Largest q x) is (root_largest binary32 5 q F f w_lt)

  -- so the sixth power of each f32 above it is above q
  pub sixth_above : (x : Float) → T (fits binary32 x) → T (finite x) → num (sixth_root_of q) * den x < num x * den (sixth_root_of q)
      → num q * den x ^ 6 < num x ^ 6 * den q
  sixth_above x G g l = power_above binary32 6 q (sixth_root_of q) sixth_largest x G g l

  -- the next f32 is finite: at most 147 digits go
  room : gone binary32 w * 8388608 + (kept binary32 w + 1) < 2139095040
  unfolding gone kept
  room = within (kept binary32 w) (gone binary32 w) (kept-lt 24 w) (fewer (size w) (size-le w 171 w_small))
    where
      fewer : (z : ℕ) → z ≤ 171 → z - 24 ≤ 147
      fewer z h = omega arith

      within : (c k : ℕ) → c < 16777216 → k ≤ 147 → k * 8388608 + (c + 1) < 2139095040
      within c k h g = omega arith

  -- r ^ 6 ≤ q < (the next f32 above r) ^ 6
  pub sixth_between : (num (sixth_root_of q) ^ 6 * den q ≤ num q * den (sixth_root_of q) ^ 6) ×
      (num q * den (next_up (sixth_root_of q)) ^ 6 < num (next_up (sixth_root_of q)) ^ 6 * den q)
  sixth_between = (
    sixth_largest.low,
    subst (λ (r : Float). num q * den (next_up r) ^ 6 < num (next_up r) ^ 6 * den q) is
        (power_above binary32 6 q (cut_to binary32 w) (subst (λ (x : Float). Largest q x) (sym is) sixth_largest) (next_up (cut_to binary32 w))
        (next_fits binary32 w w_lt room) (next_finite binary32 w w_lt room) (next_greater binary32 w w_lt room)),
  )
