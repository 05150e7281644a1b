-- Where the values of a format lie: of a w that keeps p leading digits and drops k, each c * 2 ^ j with c of p digits is a multiple of 2 ^ k, or lies below one
-- that w reaches. Assumes nothing.
use mathlib.Core.Path.{◌≡◌, refl, sym, ap, ◌∙◌}
use mathlib.Core.Logic.{◌⊎◌, inl, inr}
use Prim.Native.Nat.{ℕ, ◌+◌, ◌-◌, ◌*◌, ◌/◌, ◌^◌, ◌≤◌, ◌<◌}
use native.Mathlib.Nat.{mul_assoc, mul-lt-mul_of_pos_right, mul-le-mul_right, le-div_iff_mul-le, lt_of_lt_of_le, le_trans, le_of_eq, le_of_lt}
use native.Mathlib.Omega.{arith}
use lib.Pow.{pow-add, pow_pos, pow_mono}
use lib.Ieee.{size}
use lib.Ieee.Digits.{size_reaches}
use Rattle.rounding.proofs.Basics.{le_or_lt}

module _ (p w : ℕ) (P : 0 < p) where
  -- where digits are dropped, w has its leading one
  pub leading : (k : ℕ) → size w - p ≡ k → 0 < k → 2 ^ (p - 1) * 2 ^ k ≤ w
  leading k e h = le_trans (le_of_eq (sym (pow-add 2 (p - 1) k))) (size_reaches w (p - 1 + k) (room (size w) k e h))
    where
      room : (z k : ℕ) → z - p ≡ k → 0 < k → p - 1 + k < z
      room z k e l = omega (arith, P)

  pub on_grid : (c j : ℕ) → c < 2 ^ p
      → ((Y : ℕ) × (c * 2 ^ j ≡ Y * 2 ^ (size w - p))) ⊎ ((c * 2 ^ j < 2 ^ (p - 1) * 2 ^ (size w - p)) × (2 ^ (p - 1) * 2 ^ (size w - p) ≤ w))
  on_grid c j C = go (size w - p) refl
    where
      back : (j k : ℕ) → k ≤ j → j - k + k ≡ j
      back j k l = omega arith

      some : (k : ℕ) → j < k → 0 < k
      some k l = omega arith

      less : (k : ℕ) → j < k → p + j ≤ p - 1 + k
      less k l = omega (arith, P)

      go : (k : ℕ) → size w - p ≡ k → ((Y : ℕ) × (c * 2 ^ j ≡ Y * 2 ^ k)) ⊎ ((c * 2 ^ j < 2 ^ (p - 1) * 2 ^ k) × (2 ^ (p - 1) * 2 ^ k ≤ w))
      go k e = elim (le_or_lt k j) [
        | inl l ↦
            inl (
              c * 2 ^ (j - k),
              sym (mul_assoc c (2 ^ (j - k)) (2 ^ k)
                  ∙ ap (λ (x : ℕ). c * x) (sym (pow-add 2 (j - k) k) ∙ ap (λ (x : ℕ). 2 ^ x) (back j k l))),
            )
        | inr l ↦ inr (
          lt_of_lt_of_le (mul-lt-mul_of_pos_right C (pow_pos j))
              (le_trans (le_of_eq (sym (pow-add 2 p j))) (le_trans (pow_mono (less k l)) (le_of_eq (pow-add 2 (p - 1) k)))),
          leading k e (some k l),
        )
      ]

  -- w cut to its p leading digits is at least each such value up to w
  pub cut_most : (c j : ℕ) → c < 2 ^ p → c * 2 ^ j ≤ w → c * 2 ^ j ≤ w / 2 ^ (size w - p) * 2 ^ (size w - p)
  cut_most c j C h = elim (on_grid c j C) [
    | inl y ↦
        le_trans (le_of_eq y.1) (mul-le-mul_right (2 ^ (size w - p)) ((le-div_iff_mul-le (pow_pos (size w - p))).1 (le_trans (le_of_eq (sym y.1)) h)))
    | inr y ↦ le_trans (le_of_lt y.0) (mul-le-mul_right (2 ^ (size w - p)) ((le-div_iff_mul-le (pow_pos (size w - p))).1 y.1))
  ]
