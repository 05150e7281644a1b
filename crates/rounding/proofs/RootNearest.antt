-- `rooted f n` is a nearest value of the format to the square root of n: for any other value Y of the format the root lies on its side of the middle between
-- the two, as squares of whole numbers say. All in smallest values. Assumes nothing.
use mathlib.Core.Path.{◌≡◌, refl, sym, ap, ap₂, ◌∙◌, subst}
use mathlib.Core.Logic.{◌⊎◌, inl, inr}
use mathlib.Core.Bool.{false}
use Prim.Native.Nat.{ℕ, zero, suc, ◌+◌, ◌-◌, ◌*◌, ◌/◌, ◌%◌, ◌^◌, ◌≤◌, ◌<◌, compare, Ordering}
use native.Mathlib.Nat.{mul_assoc, mul_comm, mul-le-mul, mul-le-mul_right, add-mul, one-mul, suc-mul, div-mul-le_self, add-zero, mod-lt, zero-lt-suc}
use native.Mathlib.Nat.{add-le-add, le_refl, le_trans, le_of_eq, le_of_lt}
use native.Mathlib.Omega.{arith}
use lib.Ieee.{Format, prec, size, nearest, units}
use lib.Ieee.Fits.{nearest-le, kept-lt}
use Rattle.facts.proofs.Numbers.{no_digit}
use Rattle.rounding.specs.Roots.{root, rooted}
use Rattle.rounding.proofs.Halves.{Cmp, cmp}
use Rattle.rounding.proofs.Cuts.{gone, kept, cut_le, cut_gt, cut_off}
use Rattle.rounding.proofs.Roots.{double_square, square_root_is}

-- the root lies on R's side of the middle between R and Y
abbrev pub Sides : ℕ → ℕ → ℕ → Type 0
Sides n R Y = (Y < R → (Y + R) * (Y + R) ≤ n * 4) × (R < Y → n * 4 ≤ (Y + R) * (Y + R))

squares : (a b : ℕ) → a ≤ b → a * a ≤ b * b
squares a b h = mul-le-mul h h

four : (a : ℕ) → 2 * a * (2 * a) ≡ a * a * 4
four a = double_square a ∙ mul_comm 4 (a * a)

-- F is the root w cut to a multiple of D, mid / 2 the middle from there to the next, and Y lies at F or below, or at the next or above
module _ (n w F D mid Y : ℕ) (lo : w * w ≤ n) (hi : n < (w + 1) * (w + 1)) (fl : F ≤ w) (fu : w < F + D) (m : mid ≡ F + F + D) (o : (Y ≤ F) ⊎ (F + D ≤ Y)) where
  at_floor : n * 4 ≤ mid * mid → Sides n F Y
  at_floor h = (
    λ l. le_trans (squares (Y + F) (2 * w) (twice l)) (le_trans (le_of_eq (four w)) (mul-le-mul_right 4 lo)),
    λ l. le_trans h (squares mid (Y + F) (reach l o)),
  )
    where
      twice : Y < F → Y + F ≤ 2 * w
      twice l = omega (arith, fl)

      reach : F < Y → (Y ≤ F) ⊎ (F + D ≤ Y) → mid ≤ Y + F
      reach l o = elim o [ inl g ↦ absurd (no g l) | inr g ↦ far g ]
        where
          no : Y ≤ F → F < Y → ⊥
          no g l = omega arith

          far : F + D ≤ Y → mid ≤ Y + F
          far g = omega (arith, m)

  at_next : mid * mid ≤ n * 4 → Sides n (F + D) Y
  at_next h = (
    λ l. le_trans (squares (Y + (F + D)) mid (reach l o)) h,
    λ l. le_trans (mul-le-mul_right 4 (le_of_lt hi)) (le_trans (le_of_eq (sym (four (w + 1)))) (squares (2 * (w + 1)) (Y + (F + D)) (twice l))),
  )
    where
      twice : F + D < Y → 2 * (w + 1) ≤ Y + (F + D)
      twice l = omega (arith, fu)

      reach : Y < F + D → (Y ≤ F) ⊎ (F + D ≤ Y) → Y + (F + D) ≤ mid
      reach l o = elim o [ inl g ↦ near g | inr g ↦ absurd (no g l) ]
        where
          no : F + D ≤ Y → Y < F + D → ⊥
          no g l = omega arith

          near : Y ≤ F → Y + (F + D) ≤ mid
          near g = omega (arith, m)

module _ (f : Format) (n : ℕ) where
  -- what `rooted` keeps, and how many digits it drops
  pub kept_root : ℕ
  kept_root =
      let k = size (root 2 n) - prec f in
      let q = root 2 n / 2 ^ k in
      nearest q (compare (n * 4) ((2 * q + 1) * 2 ^ k * ((2 * q + 1) * 2 ^ k)))

  pub rooted_is : rooted f n ≡ units f false kept_root (size (root 2 n) - prec f)
  unfolding rooted kept_root
  rooted_is = refl

  pub kept_root_le : kept_root * 2 ^ (size (root 2 n) - prec f) ≤ root 2 n + 2 ^ (size (root 2 n) - prec f)
  unfolding kept_root
  kept_root_le =
      let k = size (root 2 n) - prec f in
      let q = root 2 n / 2 ^ k in
      le_trans (mul-le-mul_right (2 ^ k) (nearest-le q (compare (n * 4) ((2 * q + 1) * 2 ^ k * ((2 * q + 1) * 2 ^ k)))))
      (le_trans (le_of_eq (suc-mul q (2 ^ k))) (add-le-add (div-mul-le_self (root 2 n) (2 ^ k)) (le_refl (2 ^ k))))

  pub kept_root_digits : kept_root ≤ 2 ^ prec f
  unfolding kept_root
  kept_root_digits =
      let k = size (root 2 n) - prec f in
      let q = root 2 n / 2 ^ k in
      le_trans (nearest-le q (compare (n * 4) ((2 * q + 1) * 2 ^ k * ((2 * q + 1) * 2 ^ k)))) (kept-lt (prec f) (root 2 n))

  module _ (c j : ℕ) (C : c < 2 ^ prec f) where
    D : ℕ
    D = 2 ^ (size (root 2 n) - prec f)

    q : ℕ
    q = root 2 n / 2 ^ (size (root 2 n) - prec f)

    middle : (2 * q + 1) * D ≡ q * D + q * D + D
    middle = add-mul (2 * q) 1 D ∙ ap₂ (λ (x y : ℕ). x + y) (mul_assoc 2 q D ∙ double (q * D)) (one-mul D)
      where
        double : (a : ℕ) → 2 * a ≡ a + a
        double a = omega arith

    floor_side : n * 4 ≤ (2 * q + 1) * D * ((2 * q + 1) * D) → Sides n (q * D) (c * 2 ^ j)
    unfolding D q kept gone
    floor_side h =
        at_floor n (root 2 n) (q * D) D ((2 * q + 1) * D) (c * 2 ^ j) (square_root_is n).0 (square_root_is n).1
        (cut_le f (root 2 n)) (cut_gt f (root 2 n)) middle (cut_off f (root 2 n) c j C) h

    next_side : (2 * q + 1) * D * ((2 * q + 1) * D) ≤ n * 4 → Sides n (q * D + D) (c * 2 ^ j)
    unfolding D q kept gone
    next_side h =
        at_next n (root 2 n) (q * D) D ((2 * q + 1) * D) (c * 2 ^ j) (square_root_is n).0 (square_root_is n).1
        (cut_le f (root 2 n)) (cut_gt f (root 2 n)) middle (cut_off f (root 2 n) c j C) h

    by_last : (b : ℕ) → b < 2 → n * 4 ≡ (2 * q + 1) * D * ((2 * q + 1) * D) → Sides n ((q + b) * D) (c * 2 ^ j)
    by_last zero h e = subst (λ (x : ℕ). Sides n (x * D) (c * 2 ^ j)) (sym (add-zero q)) (floor_side (le_of_eq e))
    by_last (suc zero) h e =
        subst (λ (x : ℕ). Sides n x (c * 2 ^ j)) (sym (add-mul q 1 D ∙ ap (λ (x : ℕ). q * D + x) (one-mul D))) (next_side (le_of_eq (sym e)))
    by_last (suc (suc b)) h e = absurd (no_digit b h)

    pub root_sides : Sides n (kept_root * 2 ^ (size (root 2 n) - prec f)) (c * 2 ^ j)
    unfolding kept_root D q
    root_sides = go (compare (n * 4) ((2 * q + 1) * D * ((2 * q + 1) * D))) (cmp (n * 4) ((2 * q + 1) * D * ((2 * q + 1) * D)))
      where
        go : (o : Ordering) → Cmp o (n * 4) ((2 * q + 1) * D * ((2 * q + 1) * D)) → Sides n (nearest q o * D) (c * 2 ^ j)
        go Ordering.lt h = floor_side (le_of_lt h)
        go Ordering.eq h = by_last (q % 2) (mod-lt q (zero-lt-suc 1)) h
        go Ordering.gt h = subst (λ (x : ℕ). Sides n x (c * 2 ^ j)) (sym (suc-mul q D)) (next_side (le_of_lt h))
