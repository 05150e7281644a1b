-- `rooted` from an n of fewer digits: the value nearest to its square root, by halves. Assumes nothing.
use mathlib.Core.Path.{◌≡◌, refl, sym, ap, ap₂, ◌∙◌, subst}
use mathlib.Core.Logic.{◌⊎◌, inl, inr}
use Prim.Native.Nat.{ℕ, zero, suc, ◌+◌, ◌-◌, ◌*◌, ◌/◌, ◌%◌, ◌^◌, ◌≤◌, ◌<◌, compare, Ordering}
use native.Mathlib.Nat.{mod-lt, mul_assoc, mul-mul-mul_comm, mul-pos, pow-suc, mul-lt-mul_of_pos_right, div-div-eq-div-mul, zero-lt-suc, eq-or-lt_of_le}
use native.Mathlib.Omega.{arith}
use mathlib.Core.Bool.{false}
use lib.Pow.{pow_pos}
use lib.Ieee.{Format, prec, size, nearest, units}
use lib.Ieee.Fits.{two, two-le_pos}
use Rattle.facts.proofs.Numbers.{no_digit}
use Rattle.rounding.specs.Halves.{halve}
use Rattle.rounding.specs.Roots.{root, rooted, IsRoot}
use Rattle.rounding.proofs.Basics.{half_lt, half_ge, top_digit}
use Rattle.rounding.proofs.Halves.{halve_even, halve_tie, halve_over, Cmp, cmp}
use Rattle.rounding.proofs.Rounding.{size_at}
use Rattle.rounding.proofs.Roots.{root_shift, square}

-- ---- by an n of fewer digits: n * 4 ^ j, where the root h of n has one digit more than the format keeps
compare_is : (a b : ℕ) (o : Ordering) → Cmp o a b → compare a b ≡ o
compare_is a b o h = go (compare a b) o (cmp a b) h
  where
    no : a < b → b < a → ⊥
    no x y = omega arith

    ne : a < b → a ≡ b → ⊥
    ne x y = omega arith

    ne' : b < a → a ≡ b → ⊥
    ne' x y = omega arith

    go : (p o : Ordering) → Cmp p a b → Cmp o a b → p ≡ o
    go Ordering.lt Ordering.lt x y = refl
    go Ordering.lt Ordering.eq x y = absurd (ne x y)
    go Ordering.lt Ordering.gt x y = absurd (no x y)
    go Ordering.eq Ordering.lt x y = absurd (ne y x)
    go Ordering.eq Ordering.eq x y = refl
    go Ordering.eq Ordering.gt x y = absurd (ne' y x)
    go Ordering.gt Ordering.lt x y = absurd (no y x)
    go Ordering.gt Ordering.eq x y = absurd (ne' x y)
    go Ordering.gt Ordering.gt x y = refl

-- q, a half by the midpoint m = 2 * q + 1: as `halve h` with what h leaves of n
by_half : (n h q u : ℕ) → IsRoot 2 n h → q ≡ h / 2 → 0 < u → nearest q (compare (n * u) ((2 * q + 1) * (2 * q + 1) * u)) ≡ halve h (n - h * h)
by_half n h q u r e U = go (eq_zero_or_one (h % 2) (mod-lt h (zero-lt-suc 1)))
  where
    eq_zero_or_one : (b : ℕ) → b < 2 → (b ≡ 0) ⊎ (b ≡ 1)
    eq_zero_or_one zero l = inl refl
    eq_zero_or_one (suc zero) l = inr refl
    eq_zero_or_one (suc (suc b)) l = absurd (no_digit b l)

    M : ℕ
    M = (2 * q + 1) * (2 * q + 1)

    even : h % 2 ≡ 0 → h ≡ 2 * q
    even z = omega (arith, e)

    odd : h % 2 ≡ 1 → h ≡ 2 * q + 1
    odd z = omega (arith, e)

    left : (a : ℕ) → a < n → 0 < n - a
    left a l = omega arith

    split : (a : ℕ) → a ≤ n → (a ≡ n) ⊎ (a < n)
    split a l = eq-or-lt_of_le l

    at : (o : Ordering) → Cmp o (n * u) (M * u) → nearest q (compare (n * u) (M * u)) ≡ nearest q o
    at o c = ap (λ (p : Ordering). nearest q p) (compare_is (n * u) (M * u) o c)

    go : (h % 2 ≡ 0) ⊎ (h % 2 ≡ 1) → nearest q (compare (n * u) (M * u)) ≡ halve h (n - h * h)
    go (inl z) =
        at Ordering.lt (mul-lt-mul_of_pos_right (subst (λ (x : ℕ). n < (x + 1) * (x + 1)) (even z) (subst (λ (x : ℕ). n < x) (square (h + 1)) r.1)) U)
        ∙ sym (ap (λ (x : ℕ). halve x (n - h * h)) (even z) ∙ halve_even q (n - h * h))
    go (inr z) = elim (split (h * h) (subst (λ (x : ℕ). x ≤ n) (square h) r.0)) [
      | inl g ↦
          let s : M ≡ n = sym (ap (λ (x : ℕ). x * x) (odd z)) ∙ g in
          at Ordering.eq (ap (λ (x : ℕ). x * u) (sym s)) ∙ sym (ap₂ (λ (x y : ℕ). halve x y) (odd z) (none (h * h) g) ∙ halve_tie q)
      | inr g ↦
          at Ordering.gt (mul-lt-mul_of_pos_right (subst (λ (x : ℕ). x * x < n) (odd z) g) U)
          ∙ sym (ap (λ (x : ℕ). halve x (n - h * h)) (odd z) ∙ halve_over q (n - h * h) (left (h * h) g))
    ]
      where
        none : (a : ℕ) → a ≡ n → n - a ≡ 0
        none a l = omega arith

module _ (f : Format) (n h j : ℕ) (r : IsRoot 2 n h) (lo : 2 ^ prec f ≤ h) (hi : h < 2 ^ suc (prec f)) where
  N : ℕ
  N = n * (2 ^ j * 2 ^ j)

  w : ℕ
  w = root 2 N

  U : 0 < 2 ^ j * 2 ^ j
  U = mul-pos (pow_pos j) (pow_pos j)

  w_div : w / 2 ^ suc j ≡ h / 2
  unfolding w N
  w_div =
      ap (λ (x : ℕ). root 2 (n * x) / 2 ^ suc j) (sym (square (2 ^ j)))
      ∙ ap (λ (x : ℕ). root 2 (n * (2 ^ j) ^ 2) / x) (pow-suc 2 j)
      ∙ sym (div-div-eq-div-mul (root 2 (n * (2 ^ j) ^ 2)) (2 ^ j) 2)
      ∙ ap (λ (x : ℕ). x / 2) (root_shift 2 (pow_pos 1) n h j r)

  k_is : size w - prec f ≡ suc j
  k_is =
      size_at (prec f) w (suc j) (two-le_pos (prec f) (two f))
      (subst (λ (x : ℕ). x < 2 ^ prec f) (sym w_div) (half_lt h (2 ^ prec f) (subst (λ (x : ℕ). h < x) (pow-suc 2 (prec f)) hi)))
      (inr (subst (λ (x : ℕ). 2 ^ (prec f - 1) ≤ x) (sym w_div)
      (half_ge h (2 ^ (prec f - 1)) (2 ^ prec f) (top_digit (prec f) (two-le_pos (prec f) (two f))) lo)))

  mid_is : (q : ℕ) → (2 * q + 1) * 2 ^ suc j * ((2 * q + 1) * 2 ^ suc j) ≡ (2 * q + 1) * (2 * q + 1) * (2 ^ j * 2 ^ j * 4)
  mid_is q =
      mul-mul-mul_comm (2 * q + 1) (2 ^ suc j) (2 * q + 1) (2 ^ suc j)
      ∙ ap (λ (x : ℕ). (2 * q + 1) * (2 * q + 1) * x) (ap (λ (x : ℕ). x * x) (pow-suc 2 j) ∙ mul-mul-mul_comm (2 ^ j) 2 (2 ^ j) 2)

  pub rooted_at : rooted f (n * (2 ^ j * 2 ^ j)) ≡ units f false (halve h (n - h * h)) (suc j)
  unfolding rooted w N
  rooted_at =
      ap (λ (k : ℕ). units f false (nearest (w / 2 ^ k) (compare (N * 4) ((2 * (w / 2 ^ k) + 1) * 2 ^ k * ((2 * (w / 2 ^ k) + 1) * 2 ^ k)))) k) k_is
      ∙ ap₂ (λ (a b : ℕ). units f false (nearest (w / 2 ^ suc j) (compare a b)) (suc j)) (mul_assoc n (2 ^ j * 2 ^ j) 4) (mid_is (w / 2 ^ suc j))
      ∙ ap (λ (x : ℕ). units f false x (suc j)) (by_half n h (w / 2 ^ suc j) (2 ^ j * 2 ^ j * 4) r w_div (mul-pos U (zero-lt-suc 3)))
