-- What `whole_of` gives is the nearest whole number, of two that are as near the one farther from zero, and no other number has that; and the numbers that
-- are printed. Over whole numbers first: x is ±N / D and a number ±b lies b * D from 0. Assumes nothing.
use mathlib.Core.Path.{◌≡◌, refl, sym, ap, ap₂, ◌∙◌, subst}
use mathlib.Core.Logic.{◌⊎◌, inl, inr}
use mathlib.Core.Bool.{Bool, true, false, true≢false}
use Prim.Native.Nat.{ℕ, zero, suc, ◌+◌, ◌*◌, ◌/◌, ◌<◌, ◌≤◌}
use native.Mathlib.Nat.{mul-one, one-mul, zero-mul, add-mul, mul_left_comm, mul-pos, zero-lt-suc, mul-le-mul_right, le_of_eq, le_trans, le_antisymm}
use native.Mathlib.Nat.{eq-or-lt_of_le, lt_irrefl, div-mul-le_self, lt-div-mul-add}
use native.Mathlib.Omega.{arith}
use lib.IntN.{ℤ, pos, negsuc, nat_abs, ◌-ℤ◌}
use lib.Dec.{T, ltb}
use borrow.Author.Tests.{ltb-true, ltb-false}
use lib.Ieee.{Float, nan, inf, fin, up, down}
use lib.Ieee.Fits.{down_pos}
use lib.Ieee.Scale.{finite}
use Rattle.rounding.specs.Nearest.{signed, far_from}
use Rattle.rounding.proofs.Signed.{gap, apart, apart_is, signed_times}
use Rattle.leaves.specs.Small.{negative_of}
use Rattle.units.specs.Whole.{whole_of, in_range, printable_of, NearestWhole}

-- ---- printed numbers
pub printable_finite : (x : Float) → printable_of x ≡ true → T (finite x)
unfolding printable_of
printable_finite nan h = absurd (true≢false (sym h))
printable_finite (inf s) h = absurd (true≢false (sym h))
printable_finite (fin s m e) h = tt

pub whole_range : (x : Float) → printable_of x ≡ true → in_range (whole_of x) ≡ true
unfolding printable_of
whole_range nan h = absurd (true≢false (sym h))
whole_range (inf s) h = absurd (true≢false (sym h))
whole_range (fin s m e) h = h

-- ---- the order of two numbers
order : (a b : ℕ) → (a < b) ⊎ (b ≤ a)
order a b = go (ltb a b) refl
  where
    go : (t : Bool) → ltb a b ≡ t → (a < b) ⊎ (b ≤ a)
    go true h = inl (ltb-true a b h)
    go false h = inr (ltb-false a b h)

-- ---- q is N / D with one half more, down to a whole number
module _ (N D : ℕ) (P : 0 < D) where
  abbrev q : ℕ
  q = (2 * N + D) / (2 * D)

  near : (2 * (q * D) ≤ 2 * N + D) × (2 * N < 2 * (q * D) + D)
  near = last (q * D) (q * (2 * D)) (2 * N + D) refl (mul_left_comm q 2 D) (div-mul-le_self (2 * N + D) (2 * D)) (lt-div-mul-add (mul-pos (zero-lt-suc 1) P))
    where
      last : (Q R M : ℕ) → M ≡ 2 * N + D → R ≡ 2 * Q → R ≤ M → M < R + 2 * D → (2 * Q ≤ 2 * N + D) × (2 * N < 2 * Q + D)
      last Q R M i e a b = (omega arith, omega arith)

  -- within one half
  half_le : 2 * gap N (q * D) ≤ D
  half_le = last (q * D) near
    where
      last : (Q : ℕ) → (2 * Q ≤ 2 * N + D) × (2 * N < 2 * Q + D) → 2 * gap N Q ≤ D
      last Q h = omega (arith, h.0, h.1)

  -- one number below another lies a whole D below
  apart_D : (a b : ℕ) → a < b → a * D + D ≤ b * D
  apart_D a b h = le_trans (le_of_eq (ap (λ (y : ℕ). a * D + y) (sym (one-mul D)) ∙ sym (add-mul a 1 D))) (mul-le-mul_right D (more a b h))
    where
      more : (a b : ℕ) → a < b → a + 1 ≤ b
      more a b h = omega arith

  -- a number of the same sign: below q, at q or above it
  same_near : (b : ℕ) → gap N (q * D) ≤ gap N (b * D)
  same_near b = elim (order b q) [
    | inl h ↦ low (q * D) (b * D) near (apart_D b q h)
    | inr h ↦ elim (eq-or-lt_of_le h) [
      | inl k ↦ le_of_eq (ap (λ (y : ℕ). gap N (y * D)) k)
      | inr k ↦ high (q * D) (b * D) near (apart_D q b k)
    ]
  ]
    where
      low : (Q B : ℕ) → (2 * Q ≤ 2 * N + D) × (2 * N < 2 * Q + D) → B + D ≤ Q → gap N Q ≤ gap N B
      low Q B h k = omega (arith, h.0, h.1)

      high : (Q B : ℕ) → (2 * Q ≤ 2 * N + D) × (2 * N < 2 * Q + D) → Q + D ≤ B → gap N Q ≤ gap N B
      high Q B h k = omega (arith, h.0, h.1)

  same_away : (b : ℕ) → gap N (b * D) ≡ gap N (q * D) → b ≤ q
  same_away b e = elim (order q b) [ inl h ↦ absurd (far (q * D) (b * D) near (apart_D q b h) e) | inr h ↦ h ]
    where
      far : (Q B : ℕ) → (2 * Q ≤ 2 * N + D) × (2 * N < 2 * Q + D) → Q + D ≤ B → gap N B ≡ gap N Q → ⊥
      far Q B h k e = omega (arith, h.0, h.1)

  -- below D there is only 0
  none : (b : ℕ) → b * D < D → b ≡ 0
  none zero h = refl
  none (suc b) h = absurd (lt_irrefl D (lt_of_lt_of_le' (suc b * D) h (le_trans (le_of_eq (sym (one-mul D))) (mul-le-mul_right D (one b)))))
    where
      one : (b : ℕ) → 1 ≤ suc b
      one b = omega arith

      lt_of_lt_of_le' : (y : ℕ) → y < D → D ≤ y → D < D
      lt_of_lt_of_le' y h k = omega arith

  -- a number of the other sign
  other_near : (b : ℕ) → gap N (q * D) ≤ N + b * D
  other_near b = go q near
    where
      zero_near : (Q B : ℕ) → Q ≡ 0 → gap N Q ≤ N + B
      zero_near Q B h = omega arith

      some_near : (Q B : ℕ) → (2 * Q ≤ 2 * N + D) × (2 * N < 2 * Q + D) → D ≤ Q → gap N Q ≤ N + B
      some_near Q B h k = omega (arith, h.0, h.1)

      go : (p : ℕ) → (2 * (p * D) ≤ 2 * N + D) × (2 * N < 2 * (p * D) + D) → gap N (p * D) ≤ N + b * D
      go zero h = zero_near (0 * D) (b * D) (zero-mul D)
      go (suc p) h = some_near (suc p * D) (b * D) h (le_trans (le_of_eq (sym (one-mul D))) (mul-le-mul_right D (one p)))
        where
          one : (b : ℕ) → 1 ≤ suc b
          one b = omega arith

  other_none : (b : ℕ) → N + b * D ≡ gap N (q * D) → b ≡ 0
  other_none b e = none b (last (b * D) (gap N (q * D)) half_le e)
    where
      last : (B g : ℕ) → 2 * g ≤ D → N + B ≡ g → B < D
      last B g h e = omega (arith, P)

  -- ---- with signs
  near_signed : (s t : Bool) (b : ℕ) → apart s N s (q * D) ≤ apart s N t (b * D)
  unfolding apart
  near_signed true true b = same_near b
  near_signed false false b = same_near b
  near_signed true false b = other_near b
  near_signed false true b = other_near b

  half_signed : (s : Bool) → 2 * apart s N s (q * D) ≤ D
  unfolding apart
  half_signed true = half_le
  half_signed false = half_le

  -- as near as q: of the same sign and not above q, or 0
  away_signed : (s t : Bool) (b : ℕ) → apart s N t (b * D) ≡ apart s N s (q * D) → ((t ≡ s) × (b ≤ q)) ⊎ (b ≡ 0)
  unfolding apart
  away_signed true true b e = inl (refl, same_away b e)
  away_signed false false b e = inl (refl, same_away b e)
  away_signed true false b e = inr (other_none b e)
  away_signed false true b e = inr (other_none b e)

-- ---- a whole number as a sign and a size
abbrev sign : ℤ → Bool
sign (pos n) = false
sign (negsuc n) = true

is_signed : (k : ℤ) → k ≡ signed (sign k) (nat_abs k)
is_signed (pos n) = refl
is_signed (negsuc n) = refl

abs_signed : (s : Bool) (n : ℕ) → nat_abs (signed s n) ≡ n
abs_signed true zero = refl
abs_signed true (suc n) = refl
abs_signed false n = refl

signed_zero : (s t : Bool) → signed s 0 ≡ signed t 0
signed_zero true true = refl
signed_zero true false = refl
signed_zero false true = refl
signed_zero false false = refl

-- ---- x is fin s m e
module _ (s : Bool) (m : ℕ) (e : ℤ) where
  abbrev N : ℕ
  N = m * up e

  abbrev D : ℕ
  D = down e

  abbrev size : ℕ
  size = (2 * N + D) / (2 * D)

  far_is : (t : Bool) (b : ℕ) → far_from (fin s m e) (signed t b) 1 ≡ apart s N t (b * D)
  far_is t b =
      ap₂ (λ (y z : ℤ). nat_abs (y -ℤ z)) (signed_times s (m * up e) 1 ∙ ap (λ (y : ℕ). signed s y) (mul-one (m * up e))) (signed_times t b (down e))
      ∙ apart_is s (m * up e) t (b * down e)

  far_of_lem : (k : ℤ) → far_from (fin s m e) k 1 ≡ apart s N (sign k) (nat_abs k * D)
  far_of_lem k = ap (λ (y : ℤ). far_from (fin s m e) y 1) (is_signed k) ∙ far_is (sign k) (nat_abs k)

  whole_is : whole_of (fin s m e) ≡ signed s size
  unfolding whole_of negative_of
  whole_is = refl

  far_whole : far_from (fin s m e) (whole_of (fin s m e)) 1 ≡ apart s N s (size * D)
  far_whole = ap (λ (y : ℤ). far_from (fin s m e) y 1) whole_is ∙ far_is s size

  abs_whole : nat_abs (whole_of (fin s m e)) ≡ size
  abs_whole = ap nat_abs whole_is ∙ abs_signed s size

  half : 2 * far_from (fin s m e) (whole_of (fin s m e)) 1 ≤ down e
  half = subst (λ (y : ℕ). 2 * y ≤ down e) (sym far_whole) (half_signed N D (down_pos e) s)

  closest : (k : ℤ) → far_from (fin s m e) (whole_of (fin s m e)) 1 ≤ far_from (fin s m e) k 1
  closest k = le_trans (le_of_eq far_whole) (le_trans (near_signed N D (down_pos e) s (sign k) (nat_abs k)) (le_of_eq (sym (far_of_lem k))))

  level : (k : ℤ) → far_from (fin s m e) k 1 ≡ far_from (fin s m e) (whole_of (fin s m e)) 1
      → ((sign k ≡ s) × (nat_abs k ≤ size)) ⊎ (nat_abs k ≡ 0)
  level k h = away_signed N D (down_pos e) s (sign k) (nat_abs k) (sym (far_of_lem k) ∙ h ∙ far_whole)

  away : (k : ℤ) → far_from (fin s m e) k 1 ≡ far_from (fin s m e) (whole_of (fin s m e)) 1 → nat_abs k ≤ nat_abs (whole_of (fin s m e))
  away k h = le_trans (elim (level k h) [ inl z ↦ z.1 | inr z ↦ least (nat_abs k) size z ]) (le_of_eq (sym abs_whole))
    where
      least : (a b : ℕ) → a ≡ 0 → a ≤ b
      least a b h = omega arith

  only : (n : ℤ) → NearestWhole (fin s m e) n → n ≡ whole_of (fin s m e)
  only n r =
      let as-near : far_from (fin s m e) n 1 ≡ far_from (fin s m e) (whole_of (fin s m e)) 1 = le_antisymm (r.closest (whole_of (fin s m e))) (closest n) in
      let as-large : nat_abs n ≡ size = le_antisymm (away n as-near) (r.away (whole_of (fin s m e)) (sym as-near)) ∙ abs_whole in
      is_signed n
      ∙ elim (level n as-near) [
        | inl z ↦ ap₂ signed z.0 as-large
        | inr z ↦ ap (λ (y : ℕ). signed (sign n) y) z ∙ signed_zero (sign n) s ∙ ap (λ (y : ℕ). signed s y) (sym z ∙ as-large)
      ]
      ∙ sym whole_is

pub nearest_whole : (x : Float) → T (finite x) → NearestWhole x (whole_of x)
nearest_whole nan f = absurd f
nearest_whole (inf s) f = absurd f
nearest_whole (fin s m e) f = record { half = half s m e; closest = closest s m e; away = away s m e }

pub only_nearest : (x : Float) → T (finite x) → (n : ℤ) → NearestWhole x n → n ≡ whole_of x
only_nearest nan f n r = absurd f
only_nearest (inf s) f n r = absurd f
only_nearest (fin s m e) f n r = only s m e n r
