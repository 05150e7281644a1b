-- `closest n u` is a whole number nearest to n / u, and at a tie the even one. Assumes nothing.
use mathlib.Core.Path.{◌≡◌, sym, ap, ◌∙◌, subst}
use mathlib.Core.Logic.{◌⊎◌, inl, inr}
use Prim.Native.Nat.{ℕ, zero, suc, ◌+◌, ◌*◌, ◌/◌, ◌%◌, ◌≤◌, ◌<◌, compare, Ordering}
use native.Mathlib.Nat.{add-mul, suc-mul, mod-lt, div-add-mod', mul-le-mul_right, le_trans, le_of_eq, one-mul, add-zero, zero-lt-suc}
use native.Mathlib.Omega.{arith}
use lib.Ieee.{nearest}
use lib.Ieee.Nearest.{closest}
use Rattle.facts.proofs.Numbers.{no_digit}
use Rattle.rounding.proofs.Halves.{Cmp, cmp}
use Rattle.rounding.proofs.Basics.{le_or_lt}
use Rattle.rounding.proofs.Signed.{gap}

-- n is q * u and r more. P is q * u, and A is another multiple Y * u: the same, or at least u below or above
abbrev Off : ℕ → ℕ → ℕ → Type 0
Off u P A = (A ≡ P) ⊎ ((A + u ≤ P) ⊎ (P + u ≤ A))

off : (u q Y : ℕ) → Off u (q * u) (Y * u)
off u q Y = elim (le_or_lt Y q) [
  | inl h ↦ elim (le_or_lt q Y) [
    | inl k ↦ inl (ap (λ (x : ℕ). x * u) (same h k))
    | inr k ↦ inr (inl (le_trans (le_of_eq (sym (suc-mul Y u))) (mul-le-mul_right u k)))
  ]
  | inr h ↦ inr (inr (le_trans (le_of_eq (sym (suc-mul q u))) (mul-le-mul_right u h)))
]
  where
    same : Y ≤ q → q ≤ Y → Y ≡ q
    same h k = omega arith

module _ (n u P r A : ℕ) (e : P + r ≡ n) (l : r < u) where
  near_down : r * 2 ≤ u → Off u P A → gap P n ≤ gap A n
  near_down h o = elim o [ inl z ↦ a z | inr z ↦ elim z [ inl y ↦ b y | inr y ↦ c y ] ]
    where
      a : A ≡ P → gap P n ≤ gap A n
      a z = omega (arith, e, l)

      b : A + u ≤ P → gap P n ≤ gap A n
      b z = omega (arith, e, l)

      c : P + u ≤ A → gap P n ≤ gap A n
      c z = omega (arith, e, l, h)

  near_up : u ≤ r * 2 → Off u P A → gap (P + u) n ≤ gap A n
  near_up h o = elim o [ inl z ↦ a z | inr z ↦ elim z [ inl y ↦ b y | inr y ↦ c y ] ]
    where
      a : A ≡ P → gap (P + u) n ≤ gap A n
      a z = omega (arith, e, l, h)

      b : A + u ≤ P → gap (P + u) n ≤ gap A n
      b z = omega (arith, e, l, h)

      c : P + u ≤ A → gap (P + u) n ≤ gap A n
      c z = omega (arith, e, l, h)

  no_tie_down : r * 2 < u → Off u P A → gap P n ≡ gap A n → A ≡ P
  no_tie_down h o g = elim o [ inl z ↦ z | inr z ↦ elim z [ inl y ↦ absurd (b y g) | inr y ↦ absurd (c y g) ] ]
    where
      b : A + u ≤ P → gap P n ≡ gap A n → ⊥
      b z g = omega (arith, e, l, h)

      c : P + u ≤ A → gap P n ≡ gap A n → ⊥
      c z g = omega (arith, e, l, h)

  no_tie_up : u < r * 2 → Off u P A → gap (P + u) n ≡ gap A n → A ≡ P + u
  no_tie_up h o g = elim o [ inl z ↦ absurd (a z g) | inr z ↦ elim z [ inl y ↦ absurd (b y g) | inr y ↦ c y g ] ]
    where
      a : A ≡ P → gap (P + u) n ≡ gap A n → ⊥
      a z g = omega (arith, e, l, h)

      b : A + u ≤ P → gap (P + u) n ≡ gap A n → ⊥
      b z g = omega (arith, e, l, h)

      c : P + u ≤ A → gap (P + u) n ≡ gap A n → A ≡ P + u
      c z g = omega (arith, e, l, h)

-- ---- `closest`, by the three outcomes
even_up : (q : ℕ) → (q + q % 2) % 2 ≡ 0
even_up q = omega arith

plus_last : (q u b : ℕ) → b < 2 → ((q + b) * u ≡ q * u) ⊎ ((q + b) * u ≡ q * u + u)
plus_last q u zero h = inl (ap (λ (x : ℕ). x * u) (add-zero q))
plus_last q u (suc zero) h = inr (add-mul q 1 u ∙ ap (λ (x : ℕ). q * u + x) (one-mul u))
plus_last q u (suc (suc b)) h = absurd (no_digit b h)

module _ (n u : ℕ) (U : 0 < u) where
  split : n / u * u + n % u ≡ n
  split = div-add-mod' n u

  pub closest_near : (Y : ℕ) → gap (closest n u * u) n ≤ gap (Y * u) n
  closest_near Y = go (compare (n % u * 2) u) (cmp (n % u * 2) u)
    where
      o : Off u (n / u * u) (Y * u)
      o = off u (n / u) Y

      less : n % u * 2 < u → n % u * 2 ≤ u
      less h = omega arith

      even : n % u * 2 ≡ u → n % u * 2 ≤ u
      even h = omega arith

      half : u < n % u * 2 → u ≤ n % u * 2
      half h = omega arith

      level : n % u * 2 ≡ u → u ≤ n % u * 2
      level h = omega arith

      go : (c : Ordering) → Cmp c (n % u * 2) u → gap (nearest (n / u) c * u) n ≤ gap (Y * u) n
      go Ordering.lt h = near_down n u (n / u * u) (n % u) (Y * u) split (mod-lt n U) (less h) o
      go Ordering.gt h =
          subst (λ (B : ℕ). gap B n ≤ gap (Y * u) n) (sym (suc-mul (n / u) u)) (near_up n u (n / u * u) (n % u) (Y * u) split (mod-lt n U) (half h) o)
      go Ordering.eq h = elim (plus_last (n / u) u (n / u % 2) (mod-lt (n / u) (zero-lt-suc 1))) [
        | inl z ↦ subst (λ (B : ℕ). gap B n ≤ gap (Y * u) n) (sym z) (near_down n u (n / u * u) (n % u) (Y * u) split (mod-lt n U) (even h) o)
        | inr z ↦ subst (λ (B : ℕ). gap B n ≤ gap (Y * u) n) (sym z) (near_up n u (n / u * u) (n % u) (Y * u) split (mod-lt n U) (level h) o)
      ]

  -- another multiple as near: `closest` is even
  pub closest_tie : (Y : ℕ) → gap (closest n u * u) n ≡ gap (Y * u) n → (Y * u ≡ closest n u * u → ⊥) → closest n u % 2 ≡ 0
  closest_tie Y g d = go (compare (n % u * 2) u) (cmp (n % u * 2) u) g d
    where
      o : Off u (n / u * u) (Y * u)
      o = off u (n / u) Y

      go : (c : Ordering) → Cmp c (n % u * 2) u → gap (nearest (n / u) c * u) n ≡ gap (Y * u) n → (Y * u ≡ nearest (n / u) c * u → ⊥)
          → nearest (n / u) c % 2 ≡ 0
      go Ordering.lt h g d = absurd (d (no_tie_down n u (n / u * u) (n % u) (Y * u) split (mod-lt n U) h o g))
      go Ordering.gt h g d =
          let e : suc (n / u) * u ≡ n / u * u + u = suc-mul (n / u) u in
          absurd (d (no_tie_up n u (n / u * u) (n % u) (Y * u) split (mod-lt n U) h o (ap (λ (B : ℕ). gap B n) (sym e) ∙ g) ∙ sym e))
      go Ordering.eq h g d = even_up (n / u)
