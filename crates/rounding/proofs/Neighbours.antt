-- Values of a format that follow each other: above q * 2 ^ k, q with its leading digit where k is not 0, the next is (q + 1) * 2 ^ k, and of the patterns of
-- the two one is even and the other odd. Assumes nothing.
use mathlib.Core.Path.{◌≡◌, sym, ap, ◌∙◌, subst}
use mathlib.Core.Logic.{◌⊎◌, inl, inr}
use Prim.Native.Nat.{ℕ, suc, ◌+◌, ◌-◌, ◌*◌, ◌/◌, ◌%◌, ◌^◌, ◌≤◌, ◌<◌}
use native.Mathlib.Nat.{mul_assoc, mul-le-mul_right, lt_of_mul-lt-mul_right, lt_of_lt_of_le, lt_irrefl, le_trans, le_of_eq}
use native.Mathlib.Omega.{arith}
use lib.Pow.{pow-add, pow_mono}
use lib.Ieee.{Format, prec, hid, size}
use lib.Ieee.Fits.{two, two-le_pos}
use Rattle.rounding.proofs.Basics.{le_or_lt}
use Rattle.rounding.proofs.Parts.{hid_even}
use Rattle.rounding.proofs.Packing.{fields}

-- q has its leading digit where k is not 0
abbrev pub Leads : Format → ℕ → ℕ → Type 0
Leads f q k = (k ≡ 0) ⊎ (hid f ≤ q)

module _ (f : Format) (q k c j : ℕ) where
  -- no value lies between
  pub next_least : Leads f q k → c ≤ 2 ^ prec f → q * 2 ^ k < c * 2 ^ j → suc q * 2 ^ k ≤ c * 2 ^ j
  next_least lo C l = elim (le_or_lt k j) [
    | inl h ↦
        let e : c * 2 ^ j ≡ c * 2 ^ (j - k) * 2 ^ k =
        ap (λ (x : ℕ). c * x) (ap (λ (x : ℕ). 2 ^ x) (back h) ∙ pow-add 2 (j - k) k) ∙ sym (mul_assoc c (2 ^ (j - k)) (2 ^ k)) in
        le_trans (mul-le-mul_right (2 ^ k) (lt_of_mul-lt-mul_right (2 ^ k) (subst (λ (x : ℕ). q * 2 ^ k < x) e l))) (le_of_eq (sym e))
    | inr h ↦ absurd (lt_irrefl (q * 2 ^ k) (lt_of_lt_of_le l (small h lo)))
  ]
    where
      back : k ≤ j → j ≡ j - k + k
      back h = omega arith

      less : (p : ℕ) → 0 < p → j < k → p + j ≤ p - 1 + k
      less p P h = omega arith

      none : j < k → k ≡ 0 → ⊥
      none h e = omega arith

      small : j < k → Leads f q k → c * 2 ^ j ≤ q * 2 ^ k
      small h o = elim o [
        | inl z ↦ absurd (none h z)
        | inr g ↦
            le_trans (mul-le-mul_right (2 ^ j) C)
            (le_trans (le_of_eq (sym (pow-add 2 (prec f) j)))
            (le_trans (pow_mono (less (prec f) (two-le_pos (prec f) (two f)) h))
            (le_trans (le_of_eq (pow-add 2 (prec f - 1) k)) (mul-le-mul_right (2 ^ k) g))))
      ]

  -- one value has one last digit
  pub same_last : q ≤ 2 ^ prec f → Leads f q k → c ≤ 2 ^ prec f → Leads f c j → q * 2 ^ k ≡ c * 2 ^ j → q % 2 ≡ c % 2
  same_last Q lo C hi e =
      let p = prec f in
      let h = 2 ^ (p - 2) in
      last (k * hid f) (k * h) (j * hid f) (j * h) (ap (λ (x : ℕ). k * x) (hid_even f) ∙ sym (mul_assoc k h 2))
      (ap (λ (x : ℕ). j * x) (hid_even f) ∙ sym (mul_assoc j h 2))
      (sym (fields p q k (two-le_pos p (two f)) Q lo) ∙ ap (λ (x : ℕ). (size x - p) * hid f + x / 2 ^ (size x - p)) e
      ∙ fields p c j (two-le_pos p (two f)) C hi)
    where
      last : (K K' J J' : ℕ) → K ≡ K' * 2 → J ≡ J' * 2 → K + q ≡ J + c → q % 2 ≡ c % 2
      last K K' J J' g h e = omega arith
