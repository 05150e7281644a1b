-- The laws of the two differences, turn by turn: the one around the full turn is from 0 to π, its rest is exact above π, and it says changed where the folded
-- one does and where the turn lies within 0.001 of π. Assumes nothing.
use mathlib.Core.Path.{◌≡◌, refl, sym, ap, ap₂, ◌∙◌, subst}
use mathlib.Core.Bool.{Bool, true, false, ◌&&◌, ◌||◌, true≢false}
use Prim.Native.Nat.{ℕ, ◌+◌, ◌-◌, ◌*◌, ◌≤◌, ◌<◌, zero-le}
use native.Mathlib.Nat.{mul_assoc, mul_comm, mul_left_comm, zero-mul, zero-lt-suc, le_trans, le_of_eq, mul-le-mul_right, add-mul}
use native.Mathlib.Nat.{eq_of_mul-eq-mul_right}
use native.Mathlib.Omega.{arith}
use mathlib.Core.Logic.{inl, inr}
use borrow.Author.Tests.{le-leb}
use lib.IntN.{ℤ}
use lib.Dec.{T, lit≤}
use lib.Ieee.{Float, nan, inf, fin, binary32, up, down, round, lt, le, fits}
use lib.Ieee.Exact.{HasValue}
use lib.Ieee.Fits.{down_pos}
use lib.Ieee.Positive.{num, den}
use Rattle.rounding.proofs.Basics.{le_or_lt}
use Rattle.rounding.proofs.Bounds.{AtMost, AtLeast, at_most_wider}
use Rattle.rounding.proofs.Differences.{le_values}
use Rattle.rounding.proofs.Values.{cross}
use Rattle.leaves.specs.Single.{◌⊖◌, zero32}
use Rattle.leaves.specs.Small.{abs_of}
use Rattle.leaves.proofs.Signs.{abs_round}
use Rattle.point.specs.Angle.{pi, two_pi, max_angle_error}
use Rattle.point.specs.Turning.{Sums}
use Rattle.point.proofs.Digits.{nought, zero_is}
use Rattle.point.proofs.Grids.{minus_at, round_at, grid_most}
use Rattle.point.proofs.TurnSizes.{half_turn_value, turn_symmetric, half_less_least, half_less_abs, quarter_half}
use Rattle.point.proofs.Turns.{around_of, folded_of, from_pi, Where, short, wide, long, where_of, around_short, around_long, folded_short, folded_wide, folded_third}
use Rattle.point.proofs.Turns.{folded_fourth, beyond_is, beyond_value, rest_value, rest_is, error_less, over_error, either_error, full_at, not_over}

-- ---- how far a turn lies from π
-- π less a turn up to π/2 is π/2 or more
least_over : (X D : ℕ) → 0 < D → 13176795 * D ≤ X * 8388608 → 8589935 * D < X * 8589934592
least_over X D P h = omega arith

far : (x : Float) → AtLeast x 13176795 8388608 → le x max_angle_error ≡ false
far nan a = absurd a
far (inf s) a = absurd a
far (fin true n d) a = absurd (true≢false a.0)
far (fin false n d) a = over_error (fin false n d) (n * up d) (down d) (down_pos d) (refl, refl) (least_over (n * up d) (down d) (down_pos d) a.1)

short_far : (m : ℕ) (e : ℤ) → m * up e * 8388608 ≤ 13176795 * down e → le (from_pi (fin false m e)) max_angle_error ≡ false
short_far m e h =
    ap (λ (x : Float). le x max_angle_error) (turn_symmetric pi (fin false m e) ∙ half_less_abs m e h) ∙ far (pi ⊖ fin false m e) (half_less_least m e h)

wide_from : (t : Float) (n : ℕ) → HasValue t false n 8388608 → n ≤ 26353590 → from_pi t ≡ round binary32 false (26353590 - n) 8388608
wide_from t n v k =
    turn_symmetric pi t ∙ ap abs_of (minus_at 23 pi t 26353590 n half_turn_value v k) ∙ abs_round binary32 false (26353590 - n) 8388608

long_from : (t : Float) (n : ℕ) → HasValue t false n 4194304 → 13176795 < n → from_pi t ≡ round binary32 false (n - 13176795) 4194304
long_from t n v h = ap abs_of (beyond_is t n v h) ∙ abs_round binary32 false (n - 13176795) 4194304

-- ---- beside the folded difference
abbrev Beside : Float → Type 0
Beside t = lt max_angle_error (around_of t) ≡ lt max_angle_error (folded_of t) || le (from_pi t) max_angle_error

or_none : (a b c : Bool) → a ≡ b → c ≡ false → a ≡ b || c
or_none true b c h k = subst (λ (x : Bool). true ≡ x || c) h refl
or_none false b c h k = ap₂ (λ (x y : Bool). x || y) h (sym k)

short_beside : (m : ℕ) (e : ℤ) → m * up e * 8388608 ≤ 13176795 * down e → Beside (fin false m e)
short_beside m e h =
    let t = fin false m e in
    or_none (lt max_angle_error (around_of t)) (lt max_angle_error (folded_of t)) (le (from_pi t) max_angle_error)
    (ap (lt max_angle_error) (around_short m e (quarter_half (m * up e * 8388608) (down e) h) ∙ sym (folded_short m e h))) (short_far m e h)

wide_short : (m : ℕ) (e : ℤ) (n : ℕ) → HasValue (fin false m e) false n 8388608 → n ≤ 26353590 → m * up e * 8388608 ≤ 26353590 * down e
wide_short m e n v k = le_trans (le_of_eq v.1) (mul-le-mul_right (down e) k)

wide_beside : (m : ℕ) (e : ℤ) (n : ℕ) → HasValue (fin false m e) false n 8388608 → 13176795 < n → n ≤ 26353590 → Beside (fin false m e)
wide_beside m e n v h k =
    let t = fin false m e in
    let x = round binary32 false (26353590 - n) 8388608 in
    ap (lt max_angle_error) (around_short m e (wide_short m e n v k))
    ∙ error_less t n 8388608 (zero-lt-suc 8388607) v (enough n h)
    ∙ sym (either_error x (26353590 - n) 8388608 (zero-lt-suc 8388607) (round_at 23 (26353590 - n) (lit≤ tt) (few n h)))
    ∙ sym (ap₂ (λ (a b : Float). lt max_angle_error a || le b max_angle_error) (folded_wide t n v h k) (wide_from t n v k))
  where
    enough : (n : ℕ) → 13176795 < n → 72057597460480 < n * 8589934592
    enough n h = omega arith

    few : (n : ℕ) → 13176795 < n → 26353590 - n < 16777216
    few n h = omega arith

third_beside : (t : Float) (n : ℕ) → HasValue t false n 4194304 → 13176795 < n → n ≤ 26353590 → (n - 13176795) * 2 ≤ 13176795 → Beside t
third_beside t n v h k l =
    let x = round binary32 false (n - 13176795) 4194304 in
    ap (lt max_angle_error) (around_long t n v h k)
    ∙ error_less (round binary32 false (26353590 - n) 4194304) (26353590 - n) 4194304 (zero-lt-suc 4194303) (rest_value n h) (enough n l)
    ∙ sym (either_error x (n - 13176795) 4194304 (zero-lt-suc 4194303) (beyond_value n k))
    ∙ sym (ap₂ (λ (a b : Float). lt max_angle_error a || le b max_angle_error) (folded_third t n v h k l) (long_from t n v h))
  where
    enough : (n : ℕ) → (n - 13176795) * 2 ≤ 13176795 → 36028798730240 < (26353590 - n) * 8589934592
    enough n h = omega arith

fourth_beside : (t : Float) (n : ℕ) → HasValue t false n 4194304 → 13176795 < n → n ≤ 26353590 → 13176795 < (n - 13176795) * 2 → Beside t
fourth_beside t n v h k l =
    or_none (lt max_angle_error (around_of t)) (lt max_angle_error (folded_of t)) (le (from_pi t) max_angle_error)
    (ap (lt max_angle_error) (around_long t n v h k ∙ sym (folded_fourth t n v h k l)))
    (ap (λ (x : Float). le x max_angle_error) (long_from t n v h)
    ∙ over_error (round binary32 false (n - 13176795) 4194304) (n - 13176795) 4194304 (zero-lt-suc 4194303) (beyond_value n k) (enough (n - 13176795) l))
  where
    enough : (a : ℕ) → 13176795 < a * 2 → 36028798730240 < a * 8589934592
    enough a h = omega arith

pub beside : (t : Float) → Where t → Beside t
beside t (short m e is h) = subst Beside (sym is) (short_beside m e h)
beside t (wide m e n is v h k) = subst Beside (sym is) (wide_beside m e n (subst (λ (x : Float). HasValue x false n 8388608) is v) h k)
beside t (long n v h k) =
    elim (le_or_lt ((n - 13176795) * 2) 13176795) [ inl l ↦ third_beside t n v h k l | inr l ↦ fourth_beside t n v h k l ]

-- ---- from 0 to π
from_nought : (x : Float) (a c : ℕ) → 0 < c → HasValue x false a c → a * 8388608 ≤ 26353590 * c → T (le zero32 x && le x pi)
from_nought x a c C v h =
    subst T
    (sym (ap₂ (λ (s t : Bool). s && t)
    (ap (λ (z : Float). le z x) zero_is
    ∙ le_values nought x 0 1 a c (zero-lt-suc 0) C (refl, refl) v
    ∙ le-leb (0 * c) (a * 1) (subst (λ (z : ℕ). z ≤ a * 1) (sym (zero-mul c)) zero-le))
    (le_values x pi a c 26353590 8388608 C (zero-lt-suc 8388607) v half_turn_value ∙ le-leb (a * 8388608) (26353590 * c) h)))
    tt

pub around_most : (t : Float) → Where t → T (le zero32 (around_of t) && le (around_of t) pi)
around_most t (short m e is h) =
    let k = quarter_half (m * up e * 8388608) (down e) h in
    subst (λ (x : Float). T (le zero32 x && le x pi)) (sym (ap around_of is ∙ around_short m e k))
    (from_nought (fin false m e) (m * up e) (down e) (down_pos e) (refl, refl) k)
around_most t (wide m e n is v h k) =
    let l = wide_short m e n (subst (λ (x : Float). HasValue x false n 8388608) is v) k in
    subst (λ (x : Float). T (le zero32 x && le x pi)) (sym (ap around_of is ∙ around_short m e l))
    (from_nought (fin false m e) (m * up e) (down e) (down_pos e) (refl, refl) l)
around_most t (long n v h k) =
    subst (λ (x : Float). T (le zero32 x && le x pi)) (sym (around_long t n v h k))
    (from_nought (round binary32 false (26353590 - n) 4194304) (26353590 - n) 4194304 (zero-lt-suc 4194303) (rest_value n h) (under n h))
  where
    under : (n : ℕ) → 13176795 < n → (26353590 - n) * 8388608 ≤ 110534967951360
    under n h = omega arith

-- ---- the rest is exact above π
-- a / G and b / G are c / G together
sums : (x y z : Float) (a b c G : ℕ) → 0 < G → HasValue x false a G → HasValue y false b G → HasValue z false c G → a + b ≡ c → Sums x y z
sums x y z a b c G P u v w h =
    let X = num x in
    let Y = num y in
    let Z = num z in
    let dx = den x in
    let dy = den y in
    let dz = den z in
    eq_of_mul-eq-mul_right G P ((X * dy + Y * dx) * dz) (Z * (dx * dy))
    (ap (λ (k : ℕ). k * G) (add-mul (X * dy) (Y * dx) dz)
    ∙ add-mul (X * dy * dz) (Y * dx * dz) G
    ∙ ap₂ (λ (k l : ℕ). k + l) (first X dy dz G a dx (cross x false a G u)) (second Y dx dz G b dy (cross y false b G v))
    ∙ sym (add-mul a b (dx * dy * dz))
    ∙ ap (λ (k : ℕ). k * (dx * dy * dz)) h
    ∙ sym (third Z dx dy G c dz (cross z false c G w)))
  where
    first : (X dy dz G a dx : ℕ) → X * G ≡ a * dx → X * dy * dz * G ≡ a * (dx * dy * dz)
    first X dy dz G a dx h = simp (mul_assoc, mul_comm, mul_left_comm) (simp (mul_assoc, mul_comm, mul_left_comm) at (ap (λ (k : ℕ). k * (dy * dz)) h))

    second : (Y dx dz G b dy : ℕ) → Y * G ≡ b * dy → Y * dx * dz * G ≡ b * (dx * dy * dz)
    second Y dx dz G b dy h = simp (mul_assoc, mul_comm, mul_left_comm) (simp (mul_assoc, mul_comm, mul_left_comm) at (ap (λ (k : ℕ). k * (dx * dz)) h))

    third : (Z dx dy G c dz : ℕ) → Z * G ≡ c * dz → Z * (dx * dy) * G ≡ c * (dx * dy * dz)
    third Z dx dy G c dz h = simp (mul_assoc, mul_left_comm) (simp (mul_assoc, mul_comm, mul_left_comm) at (ap (λ (k : ℕ). k * (dx * dy)) h))

pub rest_sums : (t : Float) → Where t → T (lt pi t) → Sums (two_pi ⊖ t) t two_pi
rest_sums t (short m e is h) l = absurd (subst T (ap (lt pi) is ∙ not_over pi 26353590 m e half_turn_value (quarter_half (m * up e * 8388608) (down e) h)) l)
rest_sums t (wide m e n is v h k) l =
    absurd (subst T (ap (lt pi) is ∙ not_over pi 26353590 m e half_turn_value (wide_short m e n (subst (λ (x : Float). HasValue x false n 8388608) is v) k)) l)
rest_sums t (long n v h k) l =
    sums (two_pi ⊖ t) t two_pi (26353590 - n) n 26353590 4194304 (zero-lt-suc 4194303)
    (subst (λ (x : Float). HasValue x false (26353590 - n) 4194304) (sym (rest_is t n v k)) (rest_value n h)) v full_at (back n k)
  where
    back : (n : ℕ) → n ≤ 26353590 → 26353590 - n + n ≡ 26353590
    back n h = omega arith

-- ---- turns from π/2 to 5 count as changed
least_changed : (x : Float) → AtLeast x 13176795 8388608 → lt max_angle_error x ≡ true
least_changed nan a = absurd a
least_changed (inf s) a = absurd a
least_changed (fin true n d) a = absurd (true≢false a.0)
least_changed (fin false n d) a = error_less (fin false n d) (n * up d) (down d) (down_pos d) (refl, refl) (least_over (n * up d) (down d) (down_pos d) a.1)

long_changed : (t : Float) (n : ℕ) → HasValue t false n 4194304 → 13176795 < n → n ≤ 26353590 → AtMost t 5 1 → lt max_angle_error (around_of t) ≡ true
long_changed nan n v h k a = absurd a
long_changed (inf s) n v h k a = absurd a
long_changed (fin s m e) n v h k a =
    ap (lt max_angle_error) (around_long (fin s m e) n v h k)
    ∙ error_less (round binary32 false (26353590 - n) 4194304) (26353590 - n) 4194304 (zero-lt-suc 4194303) (rest_value n h)
    (enough n (grid_most (m * up e) (down e) n 4194304 20971520 (down_pos e) v.1 (most (m * up e) (down e) a.1)))
  where
    most : (N D : ℕ) → N * 1 ≤ 5 * D → N * 4194304 ≤ 20971520 * D
    most N D h = omega arith

    enough : (n : ℕ) → n ≤ 20971520 → 36028798730240 < (26353590 - n) * 8589934592
    enough n h = omega arith

pub turned_back : (t : Float) → T (fits binary32 t) → AtLeast t 13176795 8388608 → AtMost t 5 1 → lt max_angle_error (around_of t) ≡ true
turned_back t F l a = go (where_of t F (at_most_wider t 5 1 52707180 8388608 (zero-lt-suc 0) (lit≤ tt) a))
  where
    same : (m : ℕ) (e : ℤ) → t ≡ fin false m e → m * up e * 8388608 ≤ 26353590 * down e → lt max_angle_error (around_of t) ≡ true
    same m e is h = ap (lt max_angle_error) (ap around_of is ∙ around_short m e h ∙ sym is) ∙ least_changed t l

    go : Where t → lt max_angle_error (around_of t) ≡ true
    go (short m e is h) = same m e is (quarter_half (m * up e * 8388608) (down e) h)
    go (wide m e n is v h k) = same m e is (wide_short m e n (subst (λ (x : Float). HasValue x false n 8388608) is v) k)
    go (long n v h k) = long_changed t n v h k a
