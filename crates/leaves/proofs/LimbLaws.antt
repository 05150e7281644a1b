-- The limb law: a product's limbs, with the carries, and the scratch that holds them. Assumes nothing.
use mathlib.Core.Path.{◌≡◌, refl, sym, ap, ◌∙◌, subst}
use mathlib.Core.List.{List, [], ◌∷◌}
use Prim.Native.Nat.{ℕ, suc, ◌+◌, ◌-◌, ◌*◌, ◌/◌, ◌%◌, ◌^◌, ◌≤◌, ◌<◌}
use native.Mathlib.Nat.{add-zero, add-mul, mul_right_comm, mul-le-mul, mul-le-mul_right, lt_of_mul-lt-mul_right, one-mul}
use native.Mathlib.Nat.{le_of_eq, le_trans, lt_of_le_of_lt, lt_of_lt_of_le, pow-zero, pow-suc, pow-le-pow_left, pow-le-pow_right}
use native.Mathlib.Omega.{arith}
use lib.Dec.{leb, eqb, lit≤, lit<}
use lib.ListN.{get_or, set, length}
use borrow.Author.Tests.{le-leb, lt-leb, eqb-true, eqb-false}
use mathlib.Core.Bool.{Bool, true, false}
use Rattle.leaves.specs.Power.{Limbs, whole, number}

-- the top limb, from what the whole is
top_le : (a b c d : ℕ) → d * 2 ^ 96 ≤ whole a b c d
unfolding whole
top_le a b c d = omega arith

-- omega takes no number as large as 2 ^ 144
top_lt : (a b c d s : ℕ) → whole a b c d * s < 2 ^ 144 → d * s < 2 ^ 48
top_lt a b c d s h =
    lt_of_mul-lt-mul_right (2 ^ 96) (lt_of_le_of_lt (le_trans (le_of_eq (mul_right_comm d s (2 ^ 96))) (mul-le-mul_right s (top_le a b c d))) h)

less : (a b : ℕ) → a < suc b → a ≤ b
less a b h = omega arith

-- a lower limb times a number of 32 digits
product_le : (a s : ℕ) → a < 2 ^ 32 → s < 2 ^ 32 → a * s ≤ (2 ^ 32 - 1) * (2 ^ 32 - 1)
product_le a s h k = mul-le-mul (less a 4294967295 h) (less s 4294967295 k)

sum_fits_lem : (x y : ℕ) → x ≤ (2 ^ 32 - 1) * (2 ^ 32 - 1) → y < 2 ^ 64 → x + y / 2 ^ 32 < 2 ^ 64
sum_fits_lem x y h k = omega arith

-- the four limbs, as the code makes them
module _ (p : List ℕ) (s : ℕ) (l : Limbs p) (k : s < 2 ^ 32) where
  pub fits : (x : ℕ) → x < 2 ^ 32 → x * s < 2 ^ 64
  fits x h = lt_of_le_of_lt (product_le x s h k) (lit< tt)

  pub second : get_or p 1 0 * s + get_or p 0 0 * s / 2 ^ 32 < 2 ^ 64
  second = sum_fits_lem (get_or p 1 0 * s) (get_or p 0 0 * s) (product_le (get_or p 1 0) s l.b_lt k) (fits (get_or p 0 0) l.a_lt)

  pub third : get_or p 2 0 * s + (get_or p 1 0 * s + get_or p 0 0 * s / 2 ^ 32) / 2 ^ 32 < 2 ^ 64
  third = sum_fits_lem (get_or p 2 0 * s) (get_or p 1 0 * s + get_or p 0 0 * s / 2 ^ 32) (product_le (get_or p 2 0) s l.c_lt k) second

  pub top_fits : number p * s < 2 ^ 144 → get_or p 3 0 * s < 2 ^ 64
  top_fits h = lt_of_lt_of_le (top_lt (get_or p 0 0) (get_or p 1 0) (get_or p 2 0) (get_or p 3 0) s h) (lit≤ tt)

  pub fourth : number p * s < 2 ^ 144 → get_or p 3 0 * s + (get_or p 2 0 * s + (get_or p 1 0 * s + get_or p 0 0 * s / 2 ^ 32) / 2 ^ 32) / 2 ^ 32 < 2 ^ 64
  fourth h =
      last (get_or p 3 0 * s) (get_or p 2 0 * s + (get_or p 1 0 * s + get_or p 0 0 * s / 2 ^ 32) / 2 ^ 32)
      (top_lt (get_or p 0 0) (get_or p 1 0) (get_or p 2 0) (get_or p 3 0) s h) third
    where
      last : (x y : ℕ) → x < 2 ^ 48 → y < 2 ^ 64 → x + y / 2 ^ 32 < 2 ^ 64
      last x y h k = omega arith

-- times s, before the carries
spread : (a b c d s : ℕ) → whole a b c d * s ≡ whole (a * s) (b * s) (c * s) (d * s)
unfolding whole
spread a b c d s =
    add-mul a ((b + (c + d * 2 ^ 32) * 2 ^ 32) * 2 ^ 32) s
    ∙ ap (λ (x : ℕ). a * s + x) (mul_right_comm (b + (c + d * 2 ^ 32) * 2 ^ 32) (2 ^ 32) s
    ∙ ap (λ (x : ℕ). x * 2 ^ 32) (add-mul b ((c + d * 2 ^ 32) * 2 ^ 32) s
    ∙ ap (λ (x : ℕ). b * s + x) (mul_right_comm (c + d * 2 ^ 32) (2 ^ 32) s
    ∙ ap (λ (x : ℕ). x * 2 ^ 32) (add-mul c (d * 2 ^ 32) s ∙ ap (λ (x : ℕ). c * s + x) (mul_right_comm d (2 ^ 32) s)))))

-- the carries change nothing
carried : (a b c d : ℕ)
    → whole (a % 2 ^ 32) ((b + a / 2 ^ 32) % 2 ^ 32) ((c + (b + a / 2 ^ 32) / 2 ^ 32) % 2 ^ 32) (d + (c + (b + a / 2 ^ 32) / 2 ^ 32) / 2 ^ 32) ≡ whole a b c d
unfolding whole
carried a b c d = omega arith

limb_lt : (x : ℕ) → x % 2 ^ 32 < 2 ^ 32
limb_lt x = omega arith

-- ---- the scratch, whatever it held, after four stores
abbrev pub filled : List ℕ → ℕ → ℕ → ℕ → ℕ → List ℕ
filled p a b c d = set (set (set (set p 0 a) 1 b) 2 c) 3 d

four : (p : List ℕ) (a b c d : ℕ) → length p ≡ 4 → filled p a b c d ≡ a ∷ b ∷ c ∷ d ∷ []
four (w ∷ x ∷ y ∷ z ∷ []) a b c d e = refl
four [] a b c d e = absurd (no e)
  where
    no : ◌≡◌ {A = ℕ} 0 4 → ⊥
    no e = omega arith
four (w ∷ []) a b c d e = absurd (no e)
  where
    no : ◌≡◌ {A = ℕ} 1 4 → ⊥
    no e = omega arith
four (w ∷ x ∷ []) a b c d e = absurd (no e)
  where
    no : ◌≡◌ {A = ℕ} 2 4 → ⊥
    no e = omega arith
four (w ∷ x ∷ y ∷ []) a b c d e = absurd (no e)
  where
    no : ◌≡◌ {A = ℕ} 3 4 → ⊥
    no e = omega arith
four (w ∷ x ∷ y ∷ z ∷ v ∷ l) a b c d e = absurd (no (length l) e)
  where
    no : (n : ℕ) → suc (suc (suc (suc (suc n)))) ≡ 4 → ⊥
    no n e = omega arith

stored : (p : List ℕ) (a b c d n : ℕ) → length p ≡ 4 → Limbs (a ∷ b ∷ c ∷ d ∷ []) × (whole a b c d ≡ n)
    → Limbs (filled p a b c d) × (number (filled p a b c d) ≡ n)
stored p a b c d n e h = subst (λ (q : List ℕ). Limbs q × (number q ≡ n)) (sym (four p a b c d e)) h

pub times_is : (p : List ℕ) (s : ℕ) → length p ≡ 4
    → let x = get_or p 0 0 * s in
    let y = get_or p 1 0 * s + x / 2 ^ 32 in
    let z = get_or p 2 0 * s + y / 2 ^ 32 in
    let w = get_or p 3 0 * s + z / 2 ^ 32 in
    Limbs (filled p (x % 2 ^ 32) (y % 2 ^ 32) (z % 2 ^ 32) w) × (number (filled p (x % 2 ^ 32) (y % 2 ^ 32) (z % 2 ^ 32) w) ≡ number p * s)
times_is p s n =
    let a = get_or p 0 0 in
    let b = get_or p 1 0 in
    let c = get_or p 2 0 in
    let d = get_or p 3 0 in
    let x = a * s in
    let y = b * s + x / 2 ^ 32 in
    let z = c * s + y / 2 ^ 32 in
    let w = d * s + z / 2 ^ 32 in
    let e : whole (x % 2 ^ 32) (y % 2 ^ 32) (z % 2 ^ 32) w ≡ number p * s = carried (a * s) (b * s) (c * s) (d * s) ∙ sym (spread a b c d s) in
    stored p (x % 2 ^ 32) (y % 2 ^ 32) (z % 2 ^ 32) w (number p * s) n (
      record { size = refl; a_lt = limb_lt x; b_lt = limb_lt y; c_lt = limb_lt z },
      e,
    )

-- ---- the powers of s
first : (s : ℕ) → whole s 0 0 0 ≡ s ^ 1
unfolding whole
first s = add-zero s ∙ sym (pow-suc s 0 ∙ ap (λ (x : ℕ). x * s) (pow-zero s) ∙ one-mul s)

pub start_is : (p : List ℕ) (s : ℕ) → length p ≡ 4 → s < 2 ^ 32 → Limbs (filled p s 0 0 0) × (number (filled p s 0 0 0) ≡ s ^ 1)
start_is p s e h =
    stored p s 0 0 0 (s ^ 1) e (record { size = refl; a_lt = h; b_lt = lit< tt; c_lt = lit< tt }, first s)

-- a number of sixty digits, 84 places up
up : (x : ℕ) → whole 0 0 (x % 2 ^ 12 * 2 ^ 20) (x / 2 ^ 12) ≡ x * 2 ^ 84
unfolding whole
up x = omega arith

pub short_is : (p : List ℕ) (x n : ℕ) → length p ≡ 4 → x * 2 ^ 84 ≡ n
    → Limbs (filled p 0 0 (x % 2 ^ 12 * 2 ^ 20) (x / 2 ^ 12)) × (number (filled p 0 0 (x % 2 ^ 12 * 2 ^ 20) (x / 2 ^ 12)) ≡ n)
short_is p x n e h =
    stored p 0 0 (x % 2 ^ 12 * 2 ^ 20) (x / 2 ^ 12) n e (record { size = refl; a_lt = lit< tt; b_lt = lit< tt; c_lt = shifted x }, up x ∙ h)
  where
    shifted : (x : ℕ) → x % 2 ^ 12 * 2 ^ 20 < 2 ^ 32
    shifted x = omega arith

pub next : (p s k : ℕ) → p ≡ s ^ k → p * s ≡ s ^ suc k
next p s k e = ap (λ (x : ℕ). x * s) e ∙ sym (pow-suc s k)

pub room : (p s k : ℕ) → s < 2 ^ 24 → suc k ≤ 6 → p ≡ s ^ k → p * s < 2 ^ 144
room p s k h l e =
    lt_of_le_of_lt (le_of_eq (next p s k e))
    (lt_of_le_of_lt (le_trans (pow-le-pow_left (less s 16777215 h) (suc k)) (pow-le-pow_right (lit< tt) l)) (lit< tt))

-- ---- the comparison with t * 2 ^ 96
below_top : (a b c d t : ℕ) → a < 2 ^ 32 → b < 2 ^ 32 → c < 2 ^ 32 → d < t → whole a b c d ≤ t * 2 ^ 96
unfolding whole
below_top a b c d t A B C h = omega arith

past_top : (a b c d t : ℕ) → t < d → t * 2 ^ 96 < whole a b c d
unfolding whole
past_top a b c d t h = omega arith

just_top : (a b c d t : ℕ) → d ≤ t → t ≤ d → a + b + c ≡ 0 → whole a b c d ≤ t * 2 ^ 96
unfolding whole
just_top a b c d t h k e = omega arith

over_top : (a b c d t : ℕ) → d ≤ t → t ≤ d → (a + b + c ≡ 0 → ⊥) → t * 2 ^ 96 < whole a b c d
unfolding whole
over_top a b c d t h k e = omega arith

module _ (p : List ℕ) (t : ℕ) where
  pub low : Limbs p → get_or p 3 0 < t → true ≡ leb (number p) (t * 2 ^ 96)
  low l h = sym (le-leb (number p) (t * 2 ^ 96) (below_top (get_or p 0 0) (get_or p 1 0) (get_or p 2 0) (get_or p 3 0) t l.a_lt l.b_lt l.c_lt h))

  pub high : t < get_or p 3 0 → false ≡ leb (number p) (t * 2 ^ 96)
  high h = sym (lt-leb (number p) (t * 2 ^ 96) (past_top (get_or p 0 0) (get_or p 1 0) (get_or p 2 0) (get_or p 3 0) t h))

  pub level : get_or p 3 0 ≤ t → t ≤ get_or p 3 0 → eqb (get_or p 0 0 + get_or p 1 0 + get_or p 2 0) 0 ≡ leb (number p) (t * 2 ^ 96)
  level h k = go (eqb (a + b + c) 0) (eqb-true (a + b + c) 0) (eqb-false (a + b + c) 0)
    where
      a : ℕ
      a = get_or p 0 0

      b : ℕ
      b = get_or p 1 0

      c : ℕ
      c = get_or p 2 0

      go : (x : Bool) → (x ≡ true → a + b + c ≡ 0) → (x ≡ false → a + b + c ≡ 0 → ⊥) → x ≡ leb (number p) (t * 2 ^ 96)
      go true y n = sym (le-leb (number p) (t * 2 ^ 96) (just_top a b c (get_or p 3 0) t h k (y refl)))
      go false y n = sym (lt-leb (number p) (t * 2 ^ 96) (over_top a b c (get_or p 3 0) t h k (n refl)))
