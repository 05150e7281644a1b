-- For a power of two C, the rounded root of an f32 is at least 1 / C exactly if that f32 is at least 1 / C ^ 2. So a length can be tested by its square.
-- Assumes nothing.
use mathlib.Core.Path.{◌≡◌, refl, sym, ap, ap₂, ◌∙◌, subst}
use mathlib.Core.Bool.{Bool, true, false, true≢false}
use Prim.Native.Nat.{ℕ, zero, suc, ◌+◌, ◌-◌, ◌*◌, ◌^◌, ◌≤◌, ◌<◌, zero-le}
use native.Mathlib.Nat.{mul_assoc, mul_comm, mul_left_comm, mul_right_comm, mul-one, one-mul, mul-pos, zero-lt-suc, mul-le-mul, mul-le-mul_left}
use native.Mathlib.Nat.{lt_of_le_of_lt, not-le_of_lt, mul-le-mul_right, le_of_mul-le-mul_right, lt_of_mul-lt-mul_right, mul-lt-mul_of_pos_right, le_trans}
use native.Mathlib.Nat.{le_of_eq, lt_of_lt_of_le, lt_of_le_of_lt, le_of_lt}
use native.Mathlib.Omega.{arith}
use mathlib.Core.Logic.{inl, inr}
use lib.IntN.{ℤ, pos, negsuc}
use lib.Dec.{T, lt→ltb}
use lib.Pow.{pow-add, pow_pos, pow_mono}
use lib.Ieee.{Float, nan, inf, fin, binary32, up, down, lt, le, fits, of_bits}
use lib.Ieee.Fits.{down_pos, add-fits}
use lib.Ieee.Positive.{num, den, den_pos, positive, above, first_pos, above_of_le, le→cross, cross→le}
use lib.Ieee.Scale.{finite}
use Rattle.facts.proofs.Tests.{same}
use Rattle.rounding.proofs.Basics.{le_or_lt, less_back}
use Rattle.leaves.specs.Small.{negative_of}
use Rattle.leaves.specs.Sqrt.{sqrt32, sqrt_of, NearestRoot}
use Rattle.leaves.specs.Single.{◌⊕◌, f32, zero32}
use Rattle.leaves.proofs.Comparisons.{above_zero}
use Rattle.leaves.proofs.RootNearest.{root_nearest}
use Rattle.point.proofs.Digits.{zero_is, digits_lt}

-- ---- over whole numbers: the root is n / d, and what it is the root of x / e
square_lt : (a b : ℕ) → a < b → a * a < b * b
square_lt a b h = lt_of_le_of_lt (mul-le-mul_left a (le_of_lt h)) (mul-lt-mul_of_pos_right h (lt_of_le_of_lt zero-le h))

-- a root below 1 / C that is no farther than 1 / C: so x / e is below the square of 1 / C
too_low : (n d x e C : ℕ) → 0 < e → n * C < d → x * (2 * (d * C) * (2 * (d * C))) ≤ (n * C + 1 * d) * (n * C + 1 * d) * e → x * (C * C) < e
too_low n d x e C Q h k =
    let M = n * C + 1 * d in
    let S = 2 * d in
    lt_of_mul-lt-mul_right (S * S)
    (lt_of_le_of_lt (le_trans (le_of_eq (parts x d C 2)) k)
    (subst (λ (y : ℕ). M * M * e < y) (mul_comm (S * S) e) (mul-lt-mul_of_pos_right (square_lt M S (under (n * C) d (1 * d) h (one-mul d))) Q)))
  where
    under : (a d f : ℕ) → a < d → f ≡ d → a + f < 2 * d
    under a d f h e = omega arith

    parts : (x d C t : ℕ) → x * (C * C) * (t * d * (t * d)) ≡ x * (t * (d * C) * (t * (d * C)))
    parts x d C t = simp (mul_assoc, mul_comm, mul_left_comm)

-- a root from 1 / C on that is no farther than the f32 below 1 / C, which has the digits 2 ^ 24 - 1: then x / e is not below that square's neighbour
too_high : (n d x e C : ℕ) → 0 < d → 0 < e → d ≤ n * C → x * (C * C) * 16777216 ≤ e * 16777215
    → (n * (C * 16777216) + 16777215 * d) * (n * (C * 16777216) + 16777215 * d) * e ≤ x * (2 * (d * (C * 16777216)) * (2 * (d * (C * 16777216))))
    → ⊥
too_high n d x e C P Q h l k =
    let K : ℕ = 16777216 in
    let M = n * (C * K) + 16777215 * d in
    let X = x * (C * C) in
    let m : 33554431 * d ≤ M = over (n * C) d (n * (C * K)) h (sym (mul_assoc n C K)) in
    let a : 33554431 * d * (33554431 * d) * e ≤ X * 1125899906842624 * (d * d) =
    le_trans (mul-le-mul_right e (mul-le-mul m m)) (le_trans k (le_of_eq (right x d C 2 K))) in
    no X e Q l (le_of_mul-le-mul_right (le_trans (le_of_eq (left e d 33554431)) a) (mul-pos P P))
  where
    over : (a d b : ℕ) → d ≤ a → b ≡ a * 16777216 → 33554431 * d ≤ b + 16777215 * d
    over a d b h e = omega arith

    left : (e d t : ℕ) → e * (t * t) * (d * d) ≡ t * d * (t * d) * e
    left e d t = simp (mul_assoc, mul_comm, mul_left_comm)

    right : (x d C t K : ℕ) → x * (t * (d * (C * K)) * (t * (d * (C * K)))) ≡ x * (C * C) * (t * K * (t * K)) * (d * d)
    right x d C t K = simp (mul_assoc, mul_comm, mul_left_comm)

    no : (X e : ℕ) → 0 < e → X * 16777216 ≤ e * 16777215 → e * 1125899839733761 ≤ X * 1125899906842624 → ⊥
    no X e q l k = omega arith

-- an m of 24 digits with m / 2 ^ k below 1 / 2 ^ j: it is at most 2 ^ 24 - 1 parts of 2 ^ 24 of it
below_gap : (m j k : ℕ) → 0 < m → m < 2 ^ 24 → m * 2 ^ j < 2 ^ k → m * 2 ^ j * 16777216 ≤ 2 ^ k * 16777215
below_gap m j k P Q h =
    let J : j < k = less_back j k (lt_of_le_of_lt (le_trans (le_of_eq (sym (one-mul (2 ^ j)))) (mul-le-mul_right (2 ^ j) P)) h) in
    let e : 2 ^ (k - j) * 2 ^ j ≡ 2 ^ k = sym (pow-add 2 (k - j) j) ∙ ap (λ (x : ℕ). 2 ^ x) (back k j J) in
    let p : m < 2 ^ (k - j) = lt_of_mul-lt-mul_right (2 ^ j) (subst (λ (x : ℕ). m * 2 ^ j < x) (sym e) h) in
    subst (λ (x : ℕ). m * 2 ^ j * 16777216 ≤ x * 16777215) e
    (le_trans (le_of_eq (mul_right_comm m (2 ^ j) 16777216))
    (le_trans (mul-le-mul_right (2 ^ j) (parts (k - j) p)) (le_of_eq (mul_right_comm (2 ^ (k - j)) 16777215 (2 ^ j)))))
  where
    back : (k j : ℕ) → j < k → k - j + j ≡ k
    back k j h = omega arith

    few : (a : ℕ) → m < a → a ≤ 16777216 → m * 16777216 ≤ a * 16777215
    few a h l = omega arith

    many : (a : ℕ) → m < 16777216 → 16777216 ≤ a → m * 16777216 ≤ a * 16777215
    many a h l = omega arith

    parts : (p : ℕ) → m < 2 ^ p → m * 16777216 ≤ 2 ^ p * 16777215
    parts p h = elim (le_or_lt p 24) [ inl l ↦ few (2 ^ p) h (pow_mono l) | inr l ↦ many (2 ^ p) Q (pow_mono (le_of_lt l)) ]

-- ---- floats

plain_positive : (r : Float) (C : ℕ) → negative_of r ≡ false → T (finite r) → den r ≤ num r * C → T (positive r)
unfolding negative_of
plain_positive nan C s w h = absurd w
plain_positive (inf t) C s w h = absurd w
plain_positive (fin true n d) C s w h = absurd (true≢false s)
plain_positive (fin false n d) C s w h = lt→ltb 0 n (first_pos n (up d) (first_pos (n * up d) C (lt_of_lt_of_le (down_pos d) h)))

above_positive : (r : Float) → T (above r) → T (finite r) → T (positive r)
above_positive nan a w = absurd w
above_positive (inf s) a w = absurd w
above_positive (fin true n d) a w = absurd a
above_positive (fin false n d) a w = a

is_above : (m : ℕ) (e : ℤ) → T (lt zero32 (fin false (suc m) e))
unfolding lt
is_above m e = subst (λ (z : Float). T (lt z (fin false (suc m) e))) (sym zero_is) (subst T (sym (above_zero m e)) tt)

-- 2 ^ j is C, 1 / 2 ^ k the square of 1 / C, and 2 ^ 24 - 1 of 2 ^ l the f32 below 1 / C
record Powers (j k l : ℕ) : Type 0 where
  square : 2 ^ suc k ≡ 2 ^ suc j * 2 ^ suc j
  next : 2 ^ suc l ≡ 2 ^ suc j * 16777216
  fits_c : T (fits binary32 (fin false 1 (negsuc j)))
  fits_y : T (fits binary32 (fin false 16777215 (negsuc l)))

-- an f32 below the square of 1 / C
gap_of : (j k : ℕ) → 2 ^ suc k ≡ 2 ^ suc j * 2 ^ suc j → (m : ℕ) (e : ℤ) → T (fits binary32 (fin false (suc m) e))
    → suc m * up e * (2 ^ suc j * 2 ^ suc j) < down e
    → suc m * up e * (2 ^ suc j * 2 ^ suc j) * 16777216 ≤ down e * 16777215
gap_of j k sq m (pos i) F g =
    let C = 2 ^ suc j in
    absurd (not-le_of_lt g (mul-pos (mul-pos (zero-lt-suc m) (pow_pos i)) (mul-pos (pow_pos (suc j)) (pow_pos (suc j)))))
gap_of j k sq m (negsuc i) F g =
    let is : suc m * 1 * (2 ^ suc j * 2 ^ suc j) ≡ suc m * 2 ^ suc k = ap₂ (λ (a b : ℕ). a * b) (mul-one (suc m)) (sym sq) in
    subst (λ (x : ℕ). x * 16777216 ≤ 2 ^ suc i * 16777215) (sym is)
    (below_gap (suc m) (suc k) (suc i) (zero-lt-suc m) (digits_lt false (suc m) (negsuc i) F) (subst (λ (x : ℕ). x < 2 ^ suc i) is g))

module _ (j k l : ℕ) (w : Powers j k l) (m : ℕ) (e : ℤ) (F : T (fits binary32 (fin false (suc m) e))) where
  near : NearestRoot (fin false (suc m) e) (sqrt32 (fin false (suc m) e))
  near = root_nearest (fin false (suc m) e) F tt (is_above m e)

  x_positive : T (positive (fin false (suc m) e))
  x_positive = lt→ltb 0 (suc m) (zero-lt-suc m)

  up_to : T (le (fin false 1 (negsuc k)) (fin false (suc m) e)) → T (le (fin false 1 (negsuc j)) (sqrt32 (fin false (suc m) e)))
  up_to h =
      let x = fin false (suc m) e in
      let r = sqrt32 x in
      let c = fin false 1 (negsuc j) in
      let C = 2 ^ suc j in
      let q : 1 * den x ≤ num x * 2 ^ suc k = le→cross (fin false 1 (negsuc k)) x tt x_positive h in
      elim (le_or_lt (den r) (num r * C)) [
        | inl i ↦ cross→le c r tt (plain_positive r C near.unsigned near.whole i) (subst (λ (z : ℕ). z ≤ num r * C) (sym (one-mul (den r))) i)
        | inr i ↦
            absurd (no (1 * den x) (den x) (num x * 2 ^ suc k) (num x * (C * C)) (one-mul (den x)) (ap (λ (z : ℕ). num x * z) w.square) q
            (too_low (num r) (den r) (num x) (den x) C (down_pos e) i
            (near.above c w.fits_c tt (subst (λ (z : ℕ). num r * C < z) (sym (one-mul (den r))) i))))
      ]
    where
      no : (a b d f : ℕ) → a ≡ b → d ≡ f → a ≤ d → f < b → ⊥
      no a b d f e g h k = omega arith

  down_to : T (le (fin false 1 (negsuc j)) (sqrt32 (fin false (suc m) e))) → T (le (fin false 1 (negsuc k)) (fin false (suc m) e))
  down_to h =
      let x = fin false (suc m) e in
      let r = sqrt32 x in
      let c = fin false 1 (negsuc j) in
      let y = fin false 16777215 (negsuc l) in
      let C = 2 ^ suc j in
      let p : T (positive r) = above_positive r (above_of_le c r tt h) near.whole in
      let L : den r ≤ num r * C = subst (λ (z : ℕ). z ≤ num r * C) (one-mul (den r)) (le→cross c r tt p h) in
      let s : num r * 2 ^ suc l ≡ num r * C * 16777216 = ap (λ (z : ℕ). num r * z) w.next ∙ sym (mul_assoc (num r) C 16777216) in
      elim (le_or_lt (den x) (num x * (C * C))) [
        | inl i ↦
            cross→le (fin false 1 (negsuc k)) x tt x_positive
            (subst (λ (z : ℕ). z ≤ num x * 2 ^ suc k) (sym (one-mul (den x))) (subst (λ (z : ℕ). den x ≤ num x * z) (sym w.square) i))
        | inr i ↦
            absurd (too_high (num r) (den r) (num x) (den x) C (den_pos r) (down_pos e) L (gap_of j k w.square m e F i)
            (subst
            (λ (z : ℕ). (num r * z + 16777215 * den r) * (num r * z + 16777215 * den r) * den x ≤ num x * (2 * (den r * z) * (2 * (den r * z)))) w.next
            (near.below y w.fits_y tt (less (den r) (num r * C) (num r * 2 ^ suc l) (den_pos r) L s))))
      ]
    where
      less : (d a b : ℕ) → 0 < d → d ≤ a → b ≡ a * 16777216 → 16777215 * d < b
      less d a b p h e = omega arith

no_zero : (s : Bool) (e : ℤ) → T (above (fin s zero e)) → ⊥
no_zero true e h = h
no_zero false e h = h

root_test : (j k l : ℕ) → Powers j k l → (x : Float) → T (fits binary32 x) → le (fin false 1 (negsuc k)) x ≡ le (fin false 1 (negsuc j)) (sqrt32 x)
unfolding sqrt_of le
root_test j k l w nan F = refl
root_test j k l w (inf true) F = refl
root_test j k l w (inf false) F = refl
root_test j k l w (fin s zero e) F =
    let x = fin s zero e in
    let c = fin false 1 (negsuc j) in
    let d = fin false 1 (negsuc k) in
    same (le d x) (le c x) (λ h. absurd (no_zero s e (above_of_le d x tt h))) (λ h. absurd (no_zero s e (above_of_le c x tt h)))
root_test j k l w (fin true (suc m) e) F =
    let x = fin true (suc m) e in
    let d = fin false 1 (negsuc k) in
    same (le d x) false (λ h. absurd (above_of_le d x tt h)) (λ h. absurd h)
root_test j k l w (fin false (suc m) e) F =
    let x = fin false (suc m) e in
    same (le (fin false 1 (negsuc k)) x) (le (fin false 1 (negsuc j)) (sqrt32 x)) (up_to j k l w m e F) (down_to j k l w m e F)

-- ---- a length of at least 2 ^ -23, and of at least 2 ^ -4
short_is : f32 0x3400_0000 ≡ fin false 1 (negsuc 22)
unfolding of_bits
short_is = refl

short_square : f32 0x2880_0000 ≡ fin false 1 (negsuc 45)
unfolding of_bits
short_square = refl

far_is : f32 0x3d80_0000 ≡ fin false 1 (negsuc 3)
unfolding of_bits
far_is = refl

far_square : f32 0x3b80_0000 ≡ fin false 1 (negsuc 7)
unfolding of_bits
far_square = refl

short_powers : Powers 22 45 46
unfolding fits
short_powers = record { square = refl; next = refl; fits_c = tt; fits_y = tt }

far_powers : Powers 3 7 27
unfolding fits
far_powers = record { square = refl; next = refl; fits_c = tt; fits_y = tt }

by_square : (c d : Float) (j k l : ℕ) → c ≡ fin false 1 (negsuc j) → d ≡ fin false 1 (negsuc k) → Powers j k l
    → (a b : Float) → le d (a ⊕ b) ≡ le c (sqrt32 (a ⊕ b))
by_square c d j k l e f w a b =
    ap (λ (z : Float). le z (a ⊕ b)) f ∙ root_test j k l w (a ⊕ b) (add-fits binary32 a b) ∙ sym (ap (λ (z : Float). le z (sqrt32 (a ⊕ b))) e)

pub long_enough : (a b : Float) → le (f32 0x2880_0000) (a ⊕ b) ≡ le (f32 0x3400_0000) (sqrt32 (a ⊕ b))
long_enough = by_square (f32 0x3400_0000) (f32 0x2880_0000) 22 45 46 short_is short_square short_powers

pub far_enough : (a b : Float) → le (f32 0x3b80_0000) (a ⊕ b) ≡ le (f32 0x3d80_0000) (sqrt32 (a ⊕ b))
far_enough = by_square (f32 0x3d80_0000) (f32 0x3b80_0000) 3 7 27 far_is far_square far_powers
