-- The angle's arithmetic up to the quarter turn: for finite x and y that are not both zero, `steep_of` lies from 0 to half of π; at the ends it is exact.
-- Assumes nothing.
use mathlib.Core.Path.{◌≡◌, refl, sym, ap, ap₂, ◌∙◌, subst}
use mathlib.Core.Logic.{inl, inr}
use mathlib.Core.Bool.{Bool, true, false, ◌&&◌, ◌||◌, cond, true≢false}
use Prim.Native.Nat.{ℕ, zero, suc, ◌+◌, ◌-◌, ◌*◌, ◌^◌, ◌≤◌, ◌<◌, zero-le}
use native.Mathlib.Nat.{mul_assoc, mul_left_comm, mul_right_comm, mul-one, one-mul, zero-mul, mul-pos, zero-lt-suc, sub-le, le_of_eq, le_of_lt, le_trans}
use native.Mathlib.Nat.{le_refl, le-add_right, ne_of_gt, eq-zero-or-pos, zero-add, mul-le-mul, mul-le-mul_left, mul-le-mul_right, lt_of_lt_of_le, lt_of_le_of_lt}
use native.Mathlib.Omega.{arith}
use borrow.Author.Tests.{le-ltb, lt-ltb, ne_eqb}
use lib.IntN.{ℤ, negsuc}
use lib.Dec.{T, ltb, eqb, lit≤, lit<}
use lib.Ieee.{Float, nan, inf, fin, binary32, up, down, unlike, round, sum, sub, mul, div, neg, lt, eq, fits, is_nan, of_bits}
use lib.Ieee.Fits.{up_pos, down_pos, div-fits}
use lib.Ieee.Positive.{first_pos}
use lib.Ieee.Scale.{finite}
use Rattle.rounding.proofs.Basics.{le_or_lt}
use Rattle.rounding.proofs.Bounds.{AtMost, round_kept, round_at_most, at_most_wider, minus_at_most, round_neg}
use Rattle.rounding.proofs.Signed.{sum_less}
use Rattle.rounding.proofs.Sums.{sum_comm}
use Rattle.leaves.specs.Single.{◌⊖◌, ◌⊗◌, ◌⊘◌, f32, zero32}
use Rattle.leaves.specs.Fma.{fma32, fma_of}
use Rattle.leaves.specs.Small.{abs_of, min_of, max_of, less_of, negative_of, is_zero}
use Rattle.point.specs.Angle.{pi, half_pi, approx_atan2_of}
use Rattle.point.proofs.Digits.{nought, one}
use Rattle.point.proofs.Exact.{larger_last}

-- ---- the parts of `approx_atan2_of`, of X = |x| and Y = |y|
unfoldable pub ratio_of : Float → Float → Float
ratio_of X Y = min_of X Y ⊘ max_of X Y

unfoldable pub bent_of : Float → Float
bent_of a =
    let s = a ⊗ a in
    fma32 (fma32 (fma32 s (f32 0xbd3e_7316) (f32 0x3e23_2344)) s (f32 0xbea7_be2c)) (s ⊗ a) a

unfoldable pub steep_of : Float → Float → Float
steep_of X Y = cond (lt X Y) (half_pi ⊖ bent_of (ratio_of X Y)) (bent_of (ratio_of X Y))

pub atan_parts : (y x : Float)
    → approx_atan2_of y x
    ≡ (let behind = cond (lt x zero32) (pi ⊖ steep_of (abs_of x) (abs_of y)) (steep_of (abs_of x) (abs_of y)) in cond (lt y zero32) (neg behind) behind)
unfolding approx_atan2_of steep_of bent_of ratio_of
atan_parts y x = refl

-- ---- the constants: -c0, c1, -c2 and half of π
c0 : Float
c0 = fin true 6240651 (negsuc 26)

c1 : Float
c1 = fin false 2672849 (negsuc 23)

c2 : Float
c2 = fin true 2748299 (negsuc 22)

quarter_turn : Float
quarter_turn = fin false 13176795 (negsuc 22)

c0_is : f32 0xbd3e_7316 ≡ c0
unfolding of_bits c0
c0_is = refl

c1_is : f32 0x3e23_2344 ≡ c1
unfolding of_bits c1
c1_is = refl

c2_is : f32 0xbea7_be2c ≡ c2
unfolding of_bits c2
c2_is = refl

quarter_turn_is : half_pi ≡ quarter_turn
unfolding of_bits quarter_turn
quarter_turn_is = refl

up_to_one : (a b : ℕ) → a * 1 ≤ 1 * b → a ≤ b
up_to_one a b h = omega arith

-- ---- a product with a factor up to 1 is at most the other factor
product_most : (x : Float) (m : ℕ) (e : ℤ) → T (fits binary32 (fin false m e)) → AtMost x 1 1 → AtMost (mul binary32 x (fin false m e)) (m * up e) (down e)
unfolding mul
product_most nan m e F l = l
product_most (inf s) m e F l = absurd l
product_most (fin true p g) m e F l = absurd (true≢false l.0)
product_most (fin false p g) m e F l =
    let A = m * up e in
    let D = down e in
    let P = p * up g in
    let G = down g in
    round_at_most binary32 (fin false m e) (P * A) (G * D) A D F (refl, refl) (mul-pos (down_pos g) (down_pos e)) (down_pos e) (less P A G D l.1)
  where
    less : (P A G D : ℕ) → P * 1 ≤ 1 * G → P * A * D ≤ A * (G * D)
    less P A G D h = le_trans (mul-le-mul_right D (mul-le-mul_right A (up_to_one P G h))) (le_of_eq (swap G A D))
      where
        swap : (G A D : ℕ) → G * A * D ≡ A * (G * D)
        swap G A D = simp (mul_assoc, mul_left_comm)

-- ---- x * y + z with unlike signs of x * y and z
-- a negative product that is not larger than z: the sum is from 0 to z
second_less : (a b c : ℕ) → a ≤ b → sum binary32 true a false b c ≡ round binary32 false (b - a) c
second_less a b c h = sum_comm binary32 true a false b c ∙ sum_less binary32 b a c h

module _ (p : ℕ) (g : ℤ) (q : ℕ) (h : ℤ) (o : ℕ) (k : ℤ) where
  room : (a : ℕ) → (o * up k * (down g * down h) - a) * down k ≤ o * up k * (down g * down h * down k)
  room a =
      let b = o * up k * (down g * down h) in
      le_trans (mul-le-mul_right (down k) (sub-le b a)) (le_of_eq (mul_assoc (o * up k) (down g * down h) (down k)))

  dens : 0 < down g * down h * down k
  dens = mul-pos (mul-pos (down_pos g) (down_pos h)) (down_pos k)

  less_most : (i j : Bool) → unlike i j ≡ true → T (fits binary32 (fin false o k)) → p * up g * (q * up h) * down k ≤ o * up k * (down g * down h)
      → AtMost (fma32 (fin i p g) (fin j q h) (fin false o k)) (o * up k) (down k)
  unfolding fma_of
  less_most i j s F l =
      let a = p * up g * (q * up h) * down k in
      let b = o * up k * (down g * down h) in
      let c = down g * down h * down k in
      subst (λ (x : Float). AtMost x (o * up k) (down k)) (sym (ap (λ (t : Bool). sum binary32 t a false b c) s ∙ second_less a b c l))
      (round_at_most binary32 (fin false o k) (b - a) c (o * up k) (down k) F (refl, refl) dens (down_pos k) (room a))

  -- a positive one that is smaller than a negative z: the sum is negative, and up to z in size
  more_most : T (fits binary32 (fin false o k)) → p * up g * (q * up h) * down k < o * up k * (down g * down h)
      → AtMost (neg (fma32 (fin false p g) (fin false q h) (fin true o k))) (o * up k) (down k)
  unfolding fma_of
  more_most F l =
      let a = p * up g * (q * up h) * down k in
      let b = o * up k * (down g * down h) in
      let c = down g * down h * down k in
      subst (λ (x : Float). AtMost x (o * up k) (down k))
      (sym (ap neg (larger_last true a b c l) ∙ round_neg binary32 (b - a) c))
      (round_at_most binary32 (fin false o k) (b - a) c (o * up k) (down k) F (refl, refl) dens (down_pos k) (room a))

-- ---- the three fused steps, for s from 0 to 1
-- s * c0 + c1 is from 0 to c1
first_most : (s : Float) → AtMost s 1 1 → AtMost (fma32 s c0 c1) 2672849 (2 ^ 24)
unfolding c0 c1 fits
first_most nan l = absurd l
first_most (inf t) l = absurd l
first_most (fin true p g) l = absurd (true≢false l.0)
first_most (fin false p g) l = less_most p g 6240651 (negsuc 26) 2672849 (negsuc 23) false true refl tt (small (p * up g) (down g) l.1)
  where
    small : (P G : ℕ) → P * 1 ≤ 1 * G → P * 6240651 * 2 ^ 24 ≤ 2672849 * (G * 2 ^ 27)
    small P G h = omega arith

-- i * s + c2 is negative, and up to c2 in size, for i from 0 to c1
second_most : (i s : Float) → AtMost i 2672849 (2 ^ 24) → AtMost s 1 1 → AtMost (neg (fma32 i s c2)) 2748299 (2 ^ 23)
unfolding c2 fits
second_most nan s l h = absurd l
second_most (inf t) s l h = absurd l
second_most (fin true p g) s l h = absurd (true≢false l.0)
second_most (fin false p g) nan l h = absurd h
second_most (fin false p g) (inf t) l h = absurd h
second_most (fin false p g) (fin true q k) l h = absurd (true≢false h.0)
second_most (fin false p g) (fin false q k) l h =
    more_most p g q k 2748299 (negsuc 22) tt (small (p * up g) (down g) (q * up k) (down k) (down_pos g) (down_pos k) l.1 h.1)
  where
    small : (P G Q K : ℕ) → 0 < G → 0 < K → P * 2 ^ 24 ≤ 2672849 * G → Q * 1 ≤ 1 * K → P * Q * 2 ^ 23 < 2748299 * (G * K)
    small P G Q K g k l h = ends (P * Q) (P * K) (G * K) (mul-pos g k) (mul-le-mul_left P (up_to_one Q K h)) (scaled P G K l)
      where
        scaled : (P G K : ℕ) → P * 2 ^ 24 ≤ 2672849 * G → P * K * 2 ^ 24 ≤ 2672849 * (G * K)
        scaled P G K l = le_trans (le_of_eq (mul_right_comm P K (2 ^ 24))) (le_trans (mul-le-mul_right K l) (le_of_eq (mul_assoc 2672849 G K)))

        ends : (a b c : ℕ) → 0 < c → a ≤ b → b * 2 ^ 24 ≤ 2672849 * c → a * 2 ^ 23 < 2748299 * c
        ends a b c p h l = omega arith

-- i * t + a is from 0 to a, for i from -1 to 0 and t from 0 to a
third_most : (i t : Float) (m : ℕ) (e : ℤ) → T (fits binary32 (fin false m e)) → AtMost (neg i) 1 1 → AtMost t (m * up e) (down e)
    → AtMost (fma32 i t (fin false m e)) (m * up e) (down e)
unfolding neg
third_most nan t m e F l h = absurd l
third_most (inf j) t m e F l h = absurd l
third_most (fin false p g) t m e F l h = absurd (true≢false l.0)
third_most (fin true p g) nan m e F l h = absurd h
third_most (fin true p g) (inf j) m e F l h = absurd h
third_most (fin true p g) (fin true q k) m e F l h = absurd (true≢false h.0)
third_most (fin true p g) (fin false q k) m e F l h =
    less_most p g q k m e true false refl F (small (p * up g) (down g) (q * up k) (down k) (m * up e) (down e) l.1 h.1)
  where
    small : (P G Q K A D : ℕ) → P * 1 ≤ 1 * G → Q * D ≤ A * K → P * Q * D ≤ A * (G * K)
    small P G Q K A D l h =
        le_trans (le_of_eq (mul_assoc P Q D)) (le_trans (mul-le-mul (up_to_one P G l) h) (le_of_eq (mul_left_comm G A K)))

-- ---- what is bent is from 0 to the ratio, and so to 1
bent_is : (a : Float) → bent_of a ≡ fma32 (fma32 (fma32 (a ⊗ a) c0 c1) (a ⊗ a) c2) (a ⊗ a ⊗ a) a
unfolding bent_of
bent_is a =
    ap₂ (λ (u v : Float). fma32 (fma32 (fma32 (a ⊗ a) u v) (a ⊗ a) (f32 0xbea7_be2c)) (a ⊗ a ⊗ a) a) c0_is c1_is
    ∙ ap (λ (u : Float). fma32 (fma32 (fma32 (a ⊗ a) c0 c1) (a ⊗ a) u) (a ⊗ a ⊗ a) a) c2_is

fin_most : (m : ℕ) (e : ℤ) → T (fits binary32 (fin false m e)) → AtMost (fin false m e) 1 1 → AtMost (bent_of (fin false m e)) 1 1
fin_most m e F l =
    let a = fin false m e in
    let s = a ⊗ a in
    let S : AtMost s 1 1 = at_most_wider s (m * up e) (down e) 1 1 (down_pos e) l.1 (product_most a m e F l) in
    let i = fma32 s c0 c1 in
    let n = fma32 i s c2 in
    let N : AtMost (neg n) 1 1 = at_most_wider (neg n) 2748299 (2 ^ 23) 1 1 (lit< tt) (lit≤ tt) (second_most i s (first_most s S) S) in
    subst (λ (x : Float). AtMost x 1 1) (sym (bent_is a))
    (at_most_wider (fma32 n (s ⊗ a) a) (m * up e) (down e) 1 1 (down_pos e) l.1 (third_most n (s ⊗ a) m e F N (product_most s m e F S)))

bent_most : (a : Float) → T (fits binary32 a) → AtMost a 1 1 → AtMost (bent_of a) 1 1
bent_most nan F l = absurd l
bent_most (inf s) F l = absurd l
bent_most (fin true m e) F l = absurd (true≢false l.0)
bent_most (fin false m e) F l = fin_most m e F l

-- ---- the ratio is from 0 to 1
plain : (a b : Bool) → a || (b && false) ≡ a
plain true b = refl
plain false true = refl
plain false false = refl

module _ (m : ℕ) (e : ℤ) (n : ℕ) (d : ℤ) where
  min_is : min_of (fin false m e) (fin false n d) ≡ cond (ltb (n * up d * down e) (m * up e * down d)) (fin false n d) (fin false m e)
  unfolding min_of less_of negative_of is_nan lt
  min_is =
      ap (λ (b : Bool). cond b (fin false n d) (fin false m e)) (plain (ltb (n * up d * down e) (m * up e * down d)) (eq (fin false n d) (fin false m e)))

  max_is : max_of (fin false m e) (fin false n d) ≡ cond (ltb (m * up e * down d) (n * up d * down e)) (fin false n d) (fin false m e)
  unfolding max_of less_of negative_of is_nan lt
  max_is =
      ap (λ (b : Bool). cond b (fin false n d) (fin false m e)) (plain (ltb (m * up e * down d) (n * up d * down e)) (eq (fin false m e) (fin false n d)))

  ratio_is : ratio_of (fin false m e) (fin false n d)
      ≡ cond (ltb (n * up d * down e) (m * up e * down d)) (fin false n d) (fin false m e)
      ⊘ cond (ltb (m * up e * down d) (n * up d * down e)) (fin false n d) (fin false m e)
  unfolding ratio_of
  ratio_is = ap₂ (λ (u v : Float). u ⊘ v) min_is max_is

  div_is : 0 < n → fin false m e ⊘ fin false n d ≡ round binary32 false (m * up e * down d) (n * up d * down e)
  unfolding div
  div_is h =
      ap (λ (b : Bool). cond b (cond (eqb m 0) nan (inf false)) (round binary32 false (m * up e * down d) (n * up d * down e))) (ne_eqb n 0 (ne_of_gt h))

  div_most : 0 < n → m * up e * down d ≤ n * up d * down e → AtMost (fin false m e ⊘ fin false n d) 1 1
  unfolding fits
  div_most h l =
      subst (λ (x : Float). AtMost x 1 1) (sym (div_is h))
      (round_at_most binary32 one (m * up e * down d) (n * up d * down e) 1 1 tt (refl, refl) (mul-pos (mul-pos h (up_pos d)) (down_pos e)) (lit< tt)
      (le_trans (le_of_eq (mul-one (m * up e * down d))) (le_trans l (le_of_eq (sym (one-mul (n * up d * down e)))))))

ratio_most : (m : ℕ) (e : ℤ) (n : ℕ) (d : ℤ) → 0 < m + n → AtMost (ratio_of (fin false m e) (fin false n d)) 1 1
ratio_most m e n d h =
    subst (λ (x : Float). AtMost x 1 1) (sym (ratio_is m e n d))
    (elim (le_or_lt Y X) [
      | inl l ↦ elim (le_or_lt X Y) [
        | inl k ↦ by false false (le-ltb Y X k) (le-ltb X Y l) (div_most m e m e (some l) (le_refl (m * up e * down e)))
        | inr k ↦ by true false (lt-ltb Y X k) (le-ltb X Y l) (div_most n d m e (some l) l)
      ]
      | inr l ↦ by false true (le-ltb Y X (le_of_lt l)) (lt-ltb X Y l) (div_most m e n d (more n (up d) (down e) (lt_of_le_of_lt zero-le l)) (le_of_lt l))
    ])
  where
    X : ℕ
    X = m * up e * down d

    Y : ℕ
    Y = n * up d * down e

    by : (i j : Bool) → ltb Y X ≡ i → ltb X Y ≡ j → AtMost (cond i (fin false n d) (fin false m e) ⊘ cond j (fin false n d) (fin false m e)) 1 1
        → AtMost (cond (ltb Y X) (fin false n d) (fin false m e) ⊘ cond (ltb X Y) (fin false n d) (fin false m e)) 1 1
    by i j p q l =
        subst (λ (x : Float). AtMost x 1 1)
        (sym (ap₂ (λ (a b : Bool). cond a (fin false n d) (fin false m e) ⊘ cond b (fin false n d) (fin false m e)) p q)) l

    more : (k a b : ℕ) → 0 < k * a * b → 0 < k
    more k a b h = first_pos k a (first_pos (k * a) b h)

    other : (m n : ℕ) → 0 < m + n → m ≡ 0 → 0 < n
    other m n h z = omega arith

    -- the larger one is no zero
    some : Y ≤ X → 0 < m
    some l = elim (eq-zero-or-pos m) [
      | inl z ↦ more m (up e) (down d) (lt_of_lt_of_le (mul-pos (mul-pos (other m n h z) (up_pos d)) (down_pos e)) l)
      | inr p ↦ p
    ]

-- ---- the steep angle is from 0 to half of π
steep_of_ratio : (X Y : Float) → T (fits binary32 (ratio_of X Y)) → AtMost (ratio_of X Y) 1 1 → AtMost (steep_of X Y) 13176795 8388608
unfolding steep_of quarter_turn fits
steep_of_ratio X Y F l = go (lt X Y)
  where
    r : Float
    r = bent_of (ratio_of X Y)

    R : AtMost r 13176795 8388608
    R = at_most_wider r 1 1 13176795 8388608 (lit< tt) (lit≤ tt) (bent_most (ratio_of X Y) F l)

    go : (b : Bool) → AtMost (cond b (half_pi ⊖ r) r) 13176795 8388608
    go true = subst (λ (h : Float). AtMost (h ⊖ r) 13176795 8388608) (sym quarter_turn_is) (minus_at_most binary32 13176795 (negsuc 22) r tt R)
    go false = R

ratio_fits : (X Y : Float) → T (fits binary32 (ratio_of X Y))
unfolding ratio_of
ratio_fits X Y = div-fits binary32 (min_of X Y) (max_of X Y)

pub steep_most : (x y : Float) → T (finite x) → T (finite y) → is_zero x && is_zero y ≡ false → AtMost (steep_of (abs_of x) (abs_of y)) 13176795 8388608
unfolding abs_of is_zero
steep_most nan y h k z = absurd h
steep_most (inf s) y h k z = absurd h
steep_most (fin s m e) nan h k z = absurd k
steep_most (fin s m e) (inf t) h k z = absurd k
steep_most (fin s m e) (fin t n d) h k z =
    let X = fin false m e in
    let Y = fin false n d in
    steep_of_ratio X Y (ratio_fits X Y) (ratio_most m e n d (some m n z))
  where
    some : (m n : ℕ) → is_zero (fin s m e) && is_zero (fin t n d) ≡ false → 0 < m + n
    some zero zero z = absurd (true≢false z)
    some zero (suc n) z = subst (λ (k : ℕ). 0 < k) (sym (zero-add (suc n))) (zero-lt-suc n)
    some (suc m) n z = lt_of_lt_of_le (zero-lt-suc m) (le-add_right (suc m) n)

-- ---- the ends: along x it is 0, and along y half of π
nothing : (d e : ℤ) → 0 * up d * down e ≡ 0
nothing d e = ap (λ (k : ℕ). k * down e) (zero-mul (up d)) ∙ zero-mul (down e)

zero_over : (d : ℤ) (m : ℕ) (e : ℤ) → 0 < m → fin false 0 d ⊘ fin false m e ≡ nought
unfolding fits
zero_over d m e h =
    div_is 0 d m e h
    ∙ round_kept binary32 nought (0 * up d * down e) (m * up e * down d) tt (mul-pos (mul-pos h (up_pos e)) (down_pos d))
    (refl, zero-mul (m * up e * down d) ∙ sym (mul-one (0 * up d * down e) ∙ nothing d e))

bent_nought : bent_of nought ≡ nought
unfolding bent_of mul fma_of sum of_bits
bent_nought = refl

quarter_less : half_pi ⊖ nought ≡ half_pi
unfolding sub of_bits
quarter_less = refl

pub steep_flat : (x y : Float) → T (finite x) → is_zero x ≡ false → is_zero y ≡ true → steep_of (abs_of x) (abs_of y) ≡ nought
unfolding abs_of is_zero steep_of lt
steep_flat nan y h z w = absurd h
steep_flat (inf s) y h z w = absurd h
steep_flat (fin s zero e) y h z w = absurd (true≢false z)
steep_flat (fin s (suc m) e) nan h z w = absurd (true≢false (sym w))
steep_flat (fin s (suc m) e) (inf t) h z w = absurd (true≢false (sym w))
steep_flat (fin s (suc m) e) (fin t (suc n) d) h z w = absurd (true≢false (sym w))
steep_flat (fin s (suc m) e) (fin t zero d) h z w =
    let X = suc m * up e * down d in
    let Y = 0 * up d * down e in
    let l : Y < X = subst (λ (k : ℕ). k < X) (sym (nothing d e)) (mul-pos (mul-pos (zero-lt-suc m) (up_pos e)) (down_pos d)) in
    let a = fin false (suc m) e in
    let b = fin false 0 d in
    let ratio : ratio_of a b ≡ nought =
    ratio_is (suc m) e 0 d ∙ ap₂ (λ (i j : Bool). cond i b a ⊘ cond j b a) (lt-ltb Y X l) (le-ltb X Y (le_of_lt l)) ∙ zero_over d (suc m) e (zero-lt-suc m) in
    ap₂ (λ (i : Bool) (r : Float). cond i (half_pi ⊖ r) r) (le-ltb X Y (le_of_lt l)) (ap bent_of ratio ∙ bent_nought)

pub steep_upright : (x y : Float) → T (finite y) → is_zero y ≡ false → is_zero x ≡ true → steep_of (abs_of x) (abs_of y) ≡ half_pi
unfolding abs_of is_zero steep_of lt
steep_upright nan y h z w = absurd (true≢false (sym w))
steep_upright (inf s) y h z w = absurd (true≢false (sym w))
steep_upright (fin s (suc m) e) y h z w = absurd (true≢false (sym w))
steep_upright (fin s zero e) nan h z w = absurd h
steep_upright (fin s zero e) (inf t) h z w = absurd h
steep_upright (fin s zero e) (fin t zero d) h z w = absurd (true≢false z)
steep_upright (fin s zero e) (fin t (suc n) d) h z w =
    let X = 0 * up e * down d in
    let Y = suc n * up d * down e in
    let l : X < Y = subst (λ (k : ℕ). k < Y) (sym (nothing e d)) (mul-pos (mul-pos (zero-lt-suc n) (up_pos d)) (down_pos e)) in
    let a = fin false 0 e in
    let b = fin false (suc n) d in
    let ratio : ratio_of a b ≡ nought =
    ratio_is 0 e (suc n) d ∙ ap₂ (λ (i j : Bool). cond i b a ⊘ cond j b a) (le-ltb Y X (le_of_lt l)) (lt-ltb X Y l) ∙ zero_over e (suc n) d (zero-lt-suc n) in
    ap₂ (λ (i : Bool) (r : Float). cond i (half_pi ⊖ r) r) (lt-ltb X Y l) (ap bent_of ratio ∙ bent_nought) ∙ quarter_less
