-- The turn between two angles is the size of their difference, rounded once: it is the same in either direction, nought between equal angles, and at most 2π
-- between angles within ±π. Assumes nothing.
use mathlib.Core.Path.{◌≡◌, refl, sym, ap, ap₂, ◌∙◌, subst}
use mathlib.Core.Bool.{Bool, true, false, not}
use Prim.Native.Nat.{ℕ, ◌+◌, ◌-◌, ◌*◌, ◌≤◌, ◌<◌}
use native.Mathlib.Nat.{mul_assoc, mul_comm, mul_left_comm, mul_right_comm, mul-pos, add-mul, zero-mul, zero-lt-suc, le_trans, le_of_eq, mul-le-mul_right}
use native.Mathlib.Omega.{arith}
use borrow.Author.Tests.{leb-true}
use lib.IntN.{ℤ}
use lib.Dec.{T}
use lib.Ieee.{Float, nan, inf, fin, binary32, up, down, round, add, sub, neg, le, fits, of_bits}
use lib.Ieee.Bits.{is_true}
use lib.Ieee.Exact.{HasValue}
use lib.Ieee.Fits.{down_pos, round-fits}
use lib.Ieee.Scale.{finite}
use Rattle.rounding.specs.Sums.{sum_sign, sum_size}
use Rattle.rounding.proofs.Bounds.{AtMost, AtLeast, round_at_most, round_at_least, round_kept, at_most_finite}
use Rattle.rounding.proofs.Differences.{le_values, minus_values}
use Rattle.rounding.proofs.Signed.{sum_rounds, size_swap, size_le, size_none}
use Rattle.leaves.specs.Single.{◌⊖◌}
use Rattle.leaves.specs.Small.{abs_of}
use Rattle.leaves.proofs.Signs.{abs_round}
use Rattle.point.specs.Angle.{pi, half_pi, two_pi, max_angle_error, turn_of}
use Rattle.point.specs.Turning.{angled}
use Rattle.point.proofs.Digits.{nought}

-- ---- the constants, π/2 being 13,176,795 parts of 2 ^ 23
pub half_turn_value : HasValue pi false 26353590 8388608
unfolding of_bits
half_turn_value = (refl, refl)

pub quarter_turn_value : HasValue half_pi false 13176795 8388608
unfolding of_bits
quarter_turn_value = (refl, refl)

pub full_turn_value : HasValue two_pi false 52707180 8388608
unfolding of_bits
full_turn_value = (refl, refl)

pub error_value : HasValue max_angle_error false 8589935 8589934592
unfolding of_bits
error_value = (refl, refl)

pub pi_fits : T (fits binary32 pi)
unfolding fits of_bits
pi_fits = tt

pub half_fits : T (fits binary32 half_pi)
unfolding fits of_bits
half_fits = tt

pub full_fits : T (fits binary32 two_pi)
unfolding fits of_bits
full_fits = tt

-- ---- the turn
abbrev apart_of : Bool → ℕ → ℤ → Bool → ℕ → ℤ → ℕ
apart_of s m e t n d = sum_size t (n * up d * down e) (not s) (m * up e * down d)

turn_is : (s : Bool) (m : ℕ) (e : ℤ) (t : Bool) (n : ℕ) (d : ℤ) → turn_of (fin s m e) (fin t n d) ≡ round binary32 false (apart_of s m e t n d) (down d * down e)
unfolding sub add neg
turn_is s m e t n d =
    let a = n * up d * down e in
    let b = m * up e * down d in
    ap abs_of (sum_rounds binary32 t a (not s) b (down d * down e)) ∙ abs_round binary32 (sum_sign t a (not s) b) (sum_size t a (not s) b) (down d * down e)

pub turn_symmetric : (a b : Float) → turn_of a b ≡ turn_of b a
unfolding sub add neg abs_of
turn_symmetric nan nan = refl
turn_symmetric nan (inf t) = refl
turn_symmetric nan (fin t n d) = refl
turn_symmetric (inf s) nan = refl
turn_symmetric (inf true) (inf true) = refl
turn_symmetric (inf true) (inf false) = refl
turn_symmetric (inf false) (inf true) = refl
turn_symmetric (inf false) (inf false) = refl
turn_symmetric (inf s) (fin t n d) = refl
turn_symmetric (fin s m e) nan = refl
turn_symmetric (fin s m e) (inf t) = refl
turn_symmetric (fin s m e) (fin t n d) =
    turn_is s m e t n d
    ∙ ap₂ (λ (a c : ℕ). round binary32 false a c) (size_swap s (m * up e * down d) t (n * up d * down e)) (mul_comm (down d) (down e))
    ∙ sym (turn_is t n d s m e)

-- ---- equal angles
nought_fits : T (fits binary32 nought)
unfolding fits
nought_fits = tt

pub none_rounds : (c : ℕ) → 0 < c → round binary32 false 0 c ≡ nought
none_rounds c C = round_kept binary32 nought 0 c nought_fits C (refl, none c)
  where
    none : (c : ℕ) → 0 * 1 * c ≡ 0 * 1
    none c = simp (zero-mul)

pub turn_none : (a : Float) → T (finite a) → turn_of a a ≡ nought
turn_none nan h = absurd h
turn_none (inf s) h = absurd h
turn_none (fin s m e) h =
    turn_is s m e s m e
    ∙ ap (λ (a : ℕ). round binary32 false a (down e * down e)) (size_none s (m * up e * down e))
    ∙ none_rounds (down e * down e) (mul-pos (down_pos e) (down_pos e))

-- ---- within ±π
pub angled_finite : (a : Float) → T (angled a) → T (finite a)
unfolding abs_of le of_bits
angled_finite nan h = absurd h
angled_finite (inf s) h = absurd h
angled_finite (fin s m e) h = tt

size_most : (s : Bool) (m : ℕ) (e : ℤ) → T (angled (fin s m e)) → m * up e * 8388608 ≤ 26353590 * down e
unfolding abs_of
size_most s m e h =
    leb-true (m * up e * 8388608) (26353590 * down e)
    (sym (le_values (fin false m e) pi (m * up e) (down e) 26353590 8388608 (down_pos e) (zero-lt-suc 8388607) (refl, refl) half_turn_value) ∙ is_true (le (fin false m e) pi) h)

-- N / d is at most p / 2 ^ 23, and M / e at most q / 2 ^ 23
pub add_most : (N d M e p q : ℕ) → N * 8388608 ≤ p * d → M * 8388608 ≤ q * e → (N * e + M * d) * 8388608 ≤ (p + q) * (d * e)
add_most N d M e p q h k =
    let a : N * e * 8388608 ≤ p * (d * e) = le_trans (le_of_eq (mul_right_comm N e 8388608)) (le_trans (mul-le-mul_right e h) (le_of_eq (mul_assoc p d e))) in
    let b : M * d * 8388608 ≤ q * (d * e) =
    le_trans (le_of_eq (mul_right_comm M d 8388608)) (le_trans (mul-le-mul_right d k) (le_of_eq (mul_assoc q e d ∙ ap (λ (x : ℕ). q * x) (mul_comm e d)))) in
    le_trans (both (N * e) (M * d) (p * (d * e)) (q * (d * e)) a b) (le_of_eq (sym (add-mul p q (d * e))))
  where
    both : (x y u v : ℕ) → x * 8388608 ≤ u → y * 8388608 ≤ v → (x + y) * 8388608 ≤ u + v
    both x y u v h k = omega arith

pub turn_at_most : (a b : Float) → T (angled a) → T (angled b) → AtMost (turn_of a b) 52707180 8388608
turn_at_most nan b h k = absurd (angled_finite nan h)
turn_at_most (inf s) b h k = absurd (angled_finite (inf s) h)
turn_at_most (fin s m e) nan h k = absurd (angled_finite nan k)
turn_at_most (fin s m e) (inf t) h k = absurd (angled_finite (inf t) k)
turn_at_most (fin s m e) (fin t n d) h k =
    let N = n * up d in
    let M = m * up e in
    subst (λ (x : Float). AtMost x 52707180 8388608) (sym (turn_is s m e t n d))
    (round_at_most binary32 two_pi (apart_of s m e t n d) (down d * down e) 52707180 8388608 full_fits full_turn_value
    (mul-pos (down_pos d) (down_pos e)) (zero-lt-suc 8388607)
    (le_trans (mul-le-mul_right 8388608 (size_le t (N * down e) (not s) (M * down d)))
    (add_most N (down d) M (down e) 26353590 26353590 (size_most t n d k) (size_most s m e h))))

pub turn_fits : (a b : Float) → T (finite a) → T (finite b) → T (fits binary32 (turn_of a b))
turn_fits nan b h k = absurd h
turn_fits (inf s) b h k = absurd h
turn_fits (fin s m e) nan h k = absurd k
turn_fits (fin s m e) (inf t) h k = absurd k
turn_fits (fin s m e) (fin t n d) h k =
    subst (λ (x : Float). T (fits binary32 x)) (sym (turn_is s m e t n d)) (round-fits binary32 false (apart_of s m e t n d) (down d * down e))

-- ---- what is at most π/2 is at most π
pub quarter_half : (X D : ℕ) → X ≤ 13176795 * D → X ≤ 26353590 * D
quarter_half X D h = omega arith

-- ---- c less what is at most half of it lies from that half to c: c is 2n / 2 ^ 23, and its half a float too
module _ (c half : Float) (n : ℕ) (C : HasValue c false (n + n) 8388608) (H : HasValue half false n 8388608)
    (F : T (fits binary32 c)) (G : T (fits binary32 half)) (m : ℕ) (e : ℤ) (h : m * up e * 8388608 ≤ n * down e) where
  left : ℕ
  left = (n + n) * down e - m * up e * 8388608

  scaled : 0 < 8388608 * down e
  scaled = mul-pos (zero-lt-suc 8388607) (down_pos e)

  -- n parts of D, twice
  twice : (D : ℕ) → (n + n) * D ≡ n * D + n * D
  twice D = add-mul n n D

  left_is : c ⊖ fin false m e ≡ round binary32 false left (8388608 * down e)
  unfolding left
  left_is =
      minus_values binary32 c (fin false m e) (n + n) 8388608 (m * up e) (down e) (zero-lt-suc 8388607) (down_pos e) C (refl, refl)
      (below (m * up e * 8388608) (n * down e) ((n + n) * down e) h (twice (down e)))
    where
      below : (X Y Z : ℕ) → X ≤ Y → Z ≡ Y + Y → X ≤ Z
      below X Y Z h e = omega arith

  left_most : AtMost (round binary32 false left (8388608 * down e)) (n + n) 8388608
  unfolding left
  left_most =
      round_at_most binary32 c ((n + n) * down e - m * up e * 8388608) (8388608 * down e) (n + n) 8388608 F C scaled (zero-lt-suc 8388607)
      (le_trans (most ((n + n) * down e) (m * up e * 8388608)) (le_of_eq (mul_left_comm 8388608 (n + n) (down e))))
    where
      most : (Z X : ℕ) → (Z - X) * 8388608 ≤ 8388608 * Z
      most Z X = omega arith

  left_least : AtLeast (round binary32 false left (8388608 * down e)) n 8388608
  unfolding left
  left_least =
      round_at_least binary32 half ((n + n) * down e - m * up e * 8388608) (8388608 * down e) n 8388608 G H scaled (zero-lt-suc 8388607)
      (le_trans (le_of_eq (mul_left_comm n 8388608 (down e))) (least (m * up e * 8388608) (n * down e) ((n + n) * down e) h (twice (down e))))
      (at_most_finite (round binary32 false ((n + n) * down e - m * up e * 8388608) (8388608 * down e)) (n + n) 8388608 left_most)
    where
      least : (X Y Z : ℕ) → X ≤ Y → Z ≡ Y + Y → 8388608 * Y ≤ (Z - X) * 8388608
      least X Y Z h e = omega arith

  pub less_most : AtMost (c ⊖ fin false m e) (n + n) 8388608
  less_most = subst (λ (x : Float). AtMost x (n + n) 8388608) (sym left_is) left_most

  pub less_least : AtLeast (c ⊖ fin false m e) n 8388608
  less_least = subst (λ (x : Float). AtLeast x n 8388608) (sym left_is) left_least

  pub less_abs : abs_of (c ⊖ fin false m e) ≡ c ⊖ fin false m e
  less_abs = ap abs_of left_is ∙ abs_round binary32 false left (8388608 * down e) ∙ sym left_is

-- ---- π less what is at most π/2
module _ (m : ℕ) (e : ℤ) (h : m * up e * 8388608 ≤ 13176795 * down e) where
  pub half_less_most : AtMost (pi ⊖ fin false m e) 26353590 8388608
  half_less_most = less_most pi half_pi 13176795 half_turn_value quarter_turn_value pi_fits half_fits m e h

  pub half_less_least : AtLeast (pi ⊖ fin false m e) 13176795 8388608
  half_less_least = less_least pi half_pi 13176795 half_turn_value quarter_turn_value pi_fits half_fits m e h

  pub half_less_abs : abs_of (pi ⊖ fin false m e) ≡ pi ⊖ fin false m e
  half_less_abs = less_abs pi half_pi 13176795 half_turn_value quarter_turn_value pi_fits half_fits m e h
