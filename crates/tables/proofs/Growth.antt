-- A running sum grows by 1 or more, exactly, when a curvature above 1 is added and rounded. So a sum that comes to just the next whole number was whole itself.
-- Assumes nothing.
use mathlib.Core.Path.{◌≡◌, sym, ap, ap₂, ◌∙◌, subst}
use mathlib.Core.Logic.{◌⊎◌, inl, inr}
use mathlib.Core.Bool.{true, false}
use Prim.Native.Nat.{ℕ, zero, suc, ◌+◌, ◌-◌, ◌*◌, ◌^◌, ◌≤◌, ◌<◌}
use native.Mathlib.Nat.{le_trans, le_of_eq, le_of_lt, lt_of_le_of_lt, mul-pos, mul-one, one-mul, mul_comm, mul_assoc, mul_left_comm, mul_right_comm}
use native.Mathlib.Nat.{mul-mul-mul_comm, suc-mul, add-mul, mul-le-mul_right, mul-lt-mul_of_pos_right, le_of_mul-le-mul_right}
use native.Mathlib.Nat.{lt_of_mul-lt-mul_right, zero-lt-suc, pow-suc}
use native.Mathlib.Omega.{arith}
use lib.IntN.{pos, negsuc}
use lib.Dec.{T, lit≤}
use lib.Pow.{pow-add, pow_pos, pow_mono, shl_lt}
use lib.Ieee.{Float, nan, inf, fin, binary32, le}
use lib.Ieee.Exact.{HasValue}
use lib.Ieee.Nearest.{closest}
use lib.Ieee.Order.{drop, kept}
use lib.Ieee.Positive.{num, den, den_pos, positive-finite, value→cross}
use lib.Ieee.Scale.{grid, finite, round_val, round_under}
use Rattle.rounding.proofs.Basics.{le_or_lt, le_of_lt_one}
use Rattle.rounding.proofs.Closest.{closest_near}
use Rattle.rounding.proofs.Nearest.{kept_full}
use Rattle.rounding.proofs.Signed.{gap}
use Rattle.leaves.specs.Single.{◌⊕◌}
use Rattle.leaves.specs.Whole.{limit32}
use Rattle.tables.proofs.RunningSums.{Sum, Grows, Bent, positive_natural, add_is, sum_real, fits_shape, exponent}

-- ---- numbers: a fraction above M * 2 ^ t, where M has at most one digit more than the p that rounding keeps, is rounded to no less

-- the nearest multiple of u is at most half of u below n
half_off : (n u : ℕ) → 0 < u → n * 2 ≤ closest n u * u * 2 + u
half_off n u U = go (closest n u * u) (suc (closest n u) * u) (suc-mul (closest n u) u) (closest_near n u U (suc (closest n u)))
  where
    go : (P Q : ℕ) → Q ≡ P + u → gap P n ≤ gap Q n → n * 2 ≤ P * 2 + u
    go P Q e h = omega (arith, U)

-- half of 2 ^ k divides 2 ^ t, and q * 2 ^ k is at most that half below n / b
fine : (q k n b M t : ℕ) → k ≤ suc t → n * 2 ≤ q * (b * 2 ^ k) * 2 + b * 2 ^ k → M * 2 ^ t * b < n → M * 2 ^ t ≤ q * 2 ^ k
fine q k n b M t K h l =
    let m = M * 2 ^ (suc t - k) in
    let u = b * 2 ^ k in
    let e : m * 2 ^ k ≡ M * 2 ^ t * 2 =
    mul_assoc M (2 ^ (suc t - k)) (2 ^ k) ∙ ap (λ (x : ℕ). M * x) (sym (pow-add 2 (suc t - k) k) ∙ ap (λ (x : ℕ). 2 ^ x) (back K) ∙ pow-suc 2 t)
    ∙ sym (mul_assoc M (2 ^ t) 2) in
    let f : m * u ≡ M * 2 ^ t * b * 2 =
    ap (λ (x : ℕ). m * x) (mul_comm b (2 ^ k)) ∙ sym (mul_assoc m (2 ^ k) b) ∙ ap (λ (x : ℕ). x * b) e ∙ mul_right_comm (M * 2 ^ t) 2 b in
    let g : (q * 2 + 1) * u ≡ q * u * 2 + u = add-mul (q * 2) 1 u ∙ ap₂ (λ (x y : ℕ). x + y) (mul_right_comm q 2 u) (one-mul u) in
    let i : m ≤ q * 2 = le_of_lt_one m (q * 2) (lt_of_mul-lt-mul_right u (join (m * u) (M * 2 ^ t * b) n ((q * 2 + 1) * u) (q * u * 2 + u) f l h g)) in
    le_of_mul-le-mul_right (le_trans (le_of_eq (sym e)) (le_trans (mul-le-mul_right (2 ^ k) i) (le_of_eq (mul_right_comm q 2 (2 ^ k))))) (zero-lt-suc 1)
  where
    back : k ≤ suc t → suc t - k + k ≡ suc t
    back h = omega arith

    join : (a c n d r : ℕ) → a ≡ c * 2 → c < n → n * 2 ≤ r → d ≡ r → a < d
    join a c n d r e l h g = omega arith

-- 2 ^ k is larger still: q has p digits, and so q * 2 ^ k has more than M * 2 ^ t
coarse : (p q k M t : ℕ) → 0 < p → suc t < k → M < 2 ^ suc p → (k ≡ 0) ⊎ (2 ^ (p - 1) ≤ q) → M * 2 ^ t ≤ q * 2 ^ k
coarse p q k M t P K small o = elim o [
  | inl z ↦ absurd (none K z)
  | inr g ↦
      le_trans (le_of_lt (shl_lt (suc p) t small))
      (le_trans (pow_mono (more P K)) (le_trans (le_of_eq (pow-add 2 (p - 1) k)) (mul-le-mul_right (2 ^ k) g)))
]
  where
    none : suc t < k → k ≡ 0 → ⊥
    none h e = omega arith

    more : 0 < p → suc t < k → suc p + t ≤ p - 1 + k
    more h l = omega arith

round_reaches : (p n b M t : ℕ) → 0 < p → 0 < b → M < 2 ^ suc p → M * 2 ^ t * b < n → M * 2 ^ t ≤ kept p n b * 2 ^ drop p n b
round_reaches p n b M t P B small l =
    let q = kept p n b in
    let k = drop p n b in
    elim (le_or_lt k (suc t)) [
      | inl h ↦ fine q k n b M t h (half_off n (b * 2 ^ k) (mul-pos B (pow_pos k))) l
      | inr h ↦ coarse p q k M t P h small (kept_full p n b P B)
    ]

-- ---- floats

-- a sum is a whole number of at most 24 digits over a power of two that divides 2 ^ 149
shape : (s : Float) → Sum s → (t : ℕ) × (2 ^ t * den s ≡ 2 ^ 149) × (num s < 2 ^ 24)
shape nan S = absurd S.real
shape (inf i) S = absurd S.real
shape (fin true m e) S = absurd S.real
shape (fin false zero e) S = absurd S.real
shape (fin false (suc m) (pos k)) S = (149, mul-one (2 ^ 149), lt_of_le_of_lt S.most (lit≤ tt))
shape (fin false (suc m) (negsuc k)) S =
    let z = fits_shape m (negsuc k) S.held in (
      149 - suc k,
      sym (pow-add 2 (149 - suc k) (suc k)) ∙ ap (λ (x : ℕ). 2 ^ x) (back (exponent k z.1)),
      lt_of_le_of_lt (le_of_eq (mul-one (suc m))) z.0,
    )
  where
    back : suc k ≤ 149 → 149 - suc k + suc k ≡ 149
    back h = omega arith

-- s + c is above s + 1, as whole numbers: s is S / D, c is C / E, and u * D is w
above_next : (S D C E u w : ℕ) → 0 < D → 0 < w → E < C → u * D ≡ w → (S + D) * u * (D * E) < (S * E + C * D) * w
above_next S D C E u w P W h e =
    lt_of_le_of_lt (le_of_eq (lay (S + D) u D E ∙ ap (λ (x : ℕ). (S + D) * E * x) e ∙ ap (λ (x : ℕ). x * w) (add-mul S D E)))
    (mul-lt-mul_of_pos_right (join (S * E) (D * E) (C * D) (lt_of_le_of_lt (le_of_eq (mul_comm D E)) (mul-lt-mul_of_pos_right h P))) W)
  where
    lay : (a u d e : ℕ) → a * u * (d * e) ≡ a * e * (u * d)
    lay a u d e = simp (mul_assoc, mul_comm, mul_left_comm)

    join : (a b c : ℕ) → b < c → a + b < a + c
    join a b c h = omega arith

-- an order in units of 1 / w: M / D is M * u of them, and Y / Z is g of them
in_units : (M D u w g Y Z : ℕ) → 0 < w → u * D ≡ w → Y * w ≡ g * Z → M * u ≤ g → M * Z ≤ Y * D
in_units M D u w g Y Z W e f h =
    le_of_mul-le-mul_right
    (le_trans (le_of_eq (ap (λ (x : ℕ). M * Z * x) (sym e) ∙ mul-mul-mul_comm M Z u D))
    (le_trans (mul-le-mul_right (Z * D) h)
    (le_of_eq (sym (mul_assoc g Z D) ∙ ap (λ (x : ℕ). x * D) (sym f) ∙ mul_right_comm Y w D))))
    W

module _ (s c : Float) (S : Sum s) (B : Bent c) (fit : T (le (s ⊕ c) limit32)) where
  -- the sum, in smallest values
  sum_value : HasValue (s ⊕ c) false (grid binary32 (num s * den c + num c * den s) (den s * den c)) (2 ^ 149)
  sum_value =
      let a = num s * den c + num c * den s in
      let b = den s * den c in
      let is = add_is s c (positive_natural s S.real) (positive_natural c B.real) in
      subst (λ (z : Float). HasValue z false (grid binary32 a b) (2 ^ 149)) (sym is)
      (round_val binary32 a b (round_under binary32 a b (subst (λ (z : Float). T (finite z)) is
      (positive-finite (s ⊕ c) (sum_real s c (positive_natural s S.real) S.most B fit)))))

  -- the sum grows by 1 or more
  pub sum_grows : Grows s (s ⊕ c)
  sum_grows =
      let a = num s * den c + num c * den s in
      let b = den s * den c in
      let z = shape s S in
      let t = z.0 in
      in_units (num s + den s) (den s) (2 ^ t) (2 ^ 149) (grid binary32 a b) (num (s ⊕ c)) (den (s ⊕ c)) (pow_pos 149) z.1
      (value→cross (s ⊕ c) (grid binary32 a b) (2 ^ 149) sum_value)
      (round_reaches 24 (a * 2 ^ 149) b (num s + den s) t (zero-lt-suc 23) (mul-pos (den_pos s) (den_pos c)) (double (num s) (den s) z.2 S.over)
      (above_next (num s) (den s) (num c) (den c) (2 ^ t) (2 ^ 149) (den_pos s) (pow_pos 149) B.over z.1))
    where
      double : (n d : ℕ) → n < 2 ^ 24 → d < n → n + d < 2 ^ 25
      double n d h k = omega arith

-- ---- a sum that comes to just the next whole number was whole itself
pub whole_before : (x y : Float) → Grows x y → (p : ℕ) → p * den x ≤ num x → num y ≡ suc p * den y → num x ≡ p * den x
whole_before x y G p h e =
    last (num x) (den x) (p * den x) (suc p * den x) h (suc-mul p (den x))
    (le_of_mul-le-mul_right (le_trans G (le_of_eq (ap (λ (z : ℕ). z * den x) e ∙ mul_right_comm (suc p) (den y) (den x)))) (den_pos y))
  where
    last : (n d a b : ℕ) → a ≤ n → b ≡ a + d → n + d ≤ b → n ≡ a
    last n d a b h e k = omega arith
