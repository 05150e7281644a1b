-- `leaves::parts::Positive::root` meets its contract. n has 47 or 48 digits, so the nearest whole number to its root has the 24 that stay. Assumes nothing.
use mathlib.Core.Path.{◌≡◌, refl, sym, ap, ◌∙◌, subst}
use mathlib.Core.Logic.{◌⊎◌, inr}
use mathlib.Core.Bool.{false}
use Prim.Native.Nat.{ℕ, zero, suc, ◌+◌, ◌-◌, ◌*◌, ◌/◌, ◌%◌, ◌^◌, ◌≤◌, ◌<◌}
use native.Mathlib.Nat.{mul_assoc, mul-one, lt_of_lt_of_le, mod-eq_of_lt, mod-lt, zero-lt-suc}
use native.Mathlib.Omega.{arith}
use lib.Dec.{lit≤}
use lib.Pow.{pow-add}
use lib.Ieee.{binary32, units}
use Rattle.facts.proofs.Numbers.{no_digit}
use Rattle.rounding.specs.Roots.{rooted, IsNear}
use Rattle.rounding.proofs.RootTest.{near_ge, near_le, rooted_near}
use Rattle.leaves.proofs.parts.Positive.root.Goals as goal

regroup : (m e l a k : ℕ) → l + (a + (k + k)) ≡ e + 149 → m * 2 ^ l * 2 ^ a * (2 ^ k * 2 ^ k) ≡ m * 2 ^ e * 2 ^ 149
regroup m e l a k h =
    ap (λ (x : ℕ). m * 2 ^ l * 2 ^ a * x) (sym (pow-add 2 k k))
    ∙ mul_assoc (m * 2 ^ l) (2 ^ a) (2 ^ (k + k))
    ∙ ap (λ (x : ℕ). m * 2 ^ l * x) (sym (pow-add 2 a (k + k)))
    ∙ mul_assoc m (2 ^ l) (2 ^ (a + (k + k)))
    ∙ ap (λ (x : ℕ). m * x) (sym (pow-add 2 l (a + (k + k))) ∙ ap (λ (x : ℕ). 2 ^ x) h ∙ pow-add 2 e 149)
    ∙ sym (mul_assoc m (2 ^ e) (2 ^ 149))

-- the code's n, by the last digit t of the exponent
module _ (w : ℕ) (lo : 8388608 ≤ w) (hi : w < 16777216) where
  shifted : (t : ℕ) → t < 2 → (w * 8388608 * (1 + t) ≡ w * 2 ^ (23 + t)) × (70368744177664 ≤ w * 8388608 * (1 + t)) × (w * 8388608 * (1 + t) < 281474976710656)
  shifted zero h = (mul-one (w * 8388608), omega (arith, lo), omega (arith, hi))
  shifted (suc zero) h = (mul_assoc w 8388608 2, omega (arith, lo), omega (arith, hi))
  shifted (suc (suc t)) h = absurd (no_digit t h)

-- w, which is m * 2 ^ l, with p = e + 126 - l
module _ (w p r : ℕ) (lo : 8388608 ≤ w) (hi : w < 16777216) (v : IsNear (w * 8388608 * (1 + p % 2)) r) where
  asked : p < 1150 → (r ≤ 16777216) × (p / 2 < 65536) × ((p / 2 ≡ 0) ⊎ (8388608 ≤ r))
  asked l =
      let n = w * 8388608 * (1 + p % 2) in
      let z = shifted w lo hi (p % 2) (mod-lt p (zero-lt-suc 1)) in
      (near_le n r v z.2, small p l, inr (near_ge n r v z.1 z.2))
    where
      small : (p : ℕ) → p < 1150 → p / 2 < 65536
      small p h = omega arith

  value : (m e l : ℕ) → w ≡ m * 2 ^ l → p ≡ e + 126 - l → l < 24 → units binary32 false r (p / 2) ≡ rooted binary32 (m * 2 ^ e * 2 ^ 149)
  value m e l s q h =
      let n = w * 8388608 * (1 + p % 2) in
      let k = p / 2 in
      let z = shifted w lo hi (p % 2) (mod-lt p (zero-lt-suc 1)) in
      sym (subst (λ (x : ℕ). rooted binary32 (n * (2 ^ x * 2 ^ x)) ≡ units binary32 false r x) (up p e l q h) (rooted_near n r ((p - 2) / 2) v z.1 z.2))
      ∙ ap (λ (x : ℕ). rooted binary32 x)
      (ap (λ (x : ℕ). x * (2 ^ k * 2 ^ k)) (z.0 ∙ ap (λ (x : ℕ). x * 2 ^ (23 + p % 2)) s) ∙ regroup m e l (23 + p % 2) k (even p e l q h))
    where
      up : (p e l : ℕ) → p ≡ e + 126 - l → l < 24 → suc ((p - 2) / 2) ≡ p / 2
      up p e l q h = omega arith

      even : (p e l : ℕ) → p ≡ e + 126 - l → l < 24 → l + (23 + p % 2 + (p / 2 + p / 2)) ≡ e + 149
      even p e l q h = omega arith

-- w as the code computes it does not wrap
module _ (m l : ℕ) (lo : 2 ^ 23 ≤ m * 2 ^ l) (hi : m * 2 ^ l < 2 ^ 24) where
  same : m * 2 ^ l % 2 ^ 64 ≡ m * 2 ^ l
  same = mod-eq_of_lt (lt_of_lt_of_le hi (lit≤ tt))

  low : 8388608 ≤ m * 2 ^ l % 2 ^ 64
  low = subst (λ (x : ℕ). 8388608 ≤ x) (sym same) lo

  high : m * 2 ^ l % 2 ^ 64 < 16777216
  high = subst (λ (x : ℕ). x < 16777216) (sym same) hi

  n_bounds : (p : ℕ) → (70368744177664 ≤ m * 2 ^ l % 2 ^ 64 * 8388608 * (1 + p % 2)) × (m * 2 ^ l % 2 ^ 64 * 8388608 * (1 + p % 2) < 281474976710656)
  n_bounds p = let z = shifted (m * 2 ^ l % 2 ^ 64) low high (p % 2) (mod-lt p (zero-lt-suc 1)) in (z.1, z.2)

pub returns : goal.returns
returns c =
    let f = c.lift-l in
    let a = c.args.self in
    let l = f.result in
    c.join.ensures
    ∙ value (a.digits * 2 ^ l % 2 ^ 64) (a.place + 126 - l) c.settle-r.result (low a.digits l f.ensures.1 f.ensures.2)
    (high a.digits l f.ensures.1 f.ensures.2) c.settle-r.ensures
    a.digits a.place l (same a.digits l f.ensures.1 f.ensures.2) refl f.ensures.0
