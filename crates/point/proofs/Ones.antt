-- lerp(t, 1, 1) is 1 for each t from 0 to 1. The plan: 1 - t is rounded by at most 2 ^ -25, since below 1 a last digit is 2 ^ -24 at most. So with t
-- added back the exact sum lies within 2 ^ -25 of 1, and both ends round to 1: at the lower the tie goes to the even digits of 1. Assumes nothing.
use mathlib.Core.Path.{◌≡◌, refl, sym, ap, ap₂, ◌∙◌, subst}
use mathlib.Core.Logic.{inl, inr}
use mathlib.Core.Bool.{Bool, true, false, not, ◌&&◌, ◌||◌, beq, cond, and-eq-true_iff}
use Prim.Native.Nat.{ℕ, zero, suc, ◌+◌, ◌-◌, ◌*◌, ◌/◌, ◌%◌, ◌^◌, ◌≤◌, ◌<◌}
use native.Mathlib.Nat.{mul_assoc, mul_comm, mul_left_comm, mul_right_comm, mul-one, one-mul, zero-mul, suc-mul, mul-sub, mul-pos, pow-suc, zero-lt-suc}
use native.Mathlib.Nat.{ne_of_gt, mul-le-mul_left, mul-le-mul_right, le_of_mul-le-mul_right, mul-lt-mul_of_pos_right, le_trans, le_of_eq, lt_of_le_of_lt}
use native.Mathlib.Nat.{le_antisymm, div-add-mod', div-lt_iff_lt-mul, mod-lt}
use native.Mathlib.Omega.{arith}
use borrow.Author.Tests.{le-ltb, lt-ltb}
use lib.IntN.{ℤ, pos, negsuc}
use lib.Dec.{T, ltb, eqb, ltb→lt, lt→ltb, eqb→eq}
use lib.Pow.{pow_pos, pow_mono}
use lib.Ieee.{Float, nan, inf, fin, binary32, up, down, size, odd, units, round, sum, add, neg, eq, le, fits}
use lib.Ieee.Digits.{size-le}
use lib.Ieee.Exact.{HasValue}
use lib.Ieee.Fits.{up_pos, down_pos, and_l, and_r, round-fits}
use lib.Ieee.Nearest.{closest}
use lib.Ieee.Order.{drop, kept, round_mono}
use lib.Ieee.Positive.{num, den, positive, between, le→cross}
use lib.Ieee.Scale.{grid, overflow, round_val}
use Rattle.rounding.proofs.Basics.{le_or_lt}
use Rattle.rounding.proofs.Closest.{closest_near}
use Rattle.rounding.proofs.Signed.{gap}
use Rattle.rounding.proofs.Sums.{sum_same}
use Rattle.leaves.specs.Single.{zero32, one32}
use Rattle.leaves.specs.Fma.{fma32}
use Rattle.leaves.proofs.FmaNearest.{fma_one}
use Rattle.point.specs.Curve.{lerp_of, quad_at_of, cubic_at_of}
use Rattle.point.proofs.Digits.{nought, one, zero_is, one_is, odd_digits}

-- ---- `closest` is off by half a unit at most
half_off : (n u : ℕ) → 0 < u → gap (closest n u * u) n * 2 ≤ u
half_off n u U =
    go (gap (closest n u * u) n) (n / u * u) (n % u) (suc (n / u) * u) (div-add-mod' n u) (mod-lt n U) (suc-mul (n / u) u)
    (closest_near n u U (n / u)) (closest_near n u U (suc (n / u)))
  where
    go : (g P r Q : ℕ) → P + r ≡ n → r < u → Q ≡ P + u → g ≤ gap P n → g ≤ gap Q n → g * 2 ≤ u
    go g P r Q e l f h k = omega arith

-- ---- a fraction below 1, rounded: off by 2 ^ -25 at most
dropped : (n D : ℕ) → 0 < D → n < 2 ^ 149 * D → drop 24 n D ≤ 125
dropped n D P h =
    few (size (n / D)) (size-le (n / D) 149 ((div-lt_iff_lt-mul P).1 h))
  where
    few : (z : ℕ) → z ≤ 149 → z - 24 ≤ 125
    few z h = omega arith

off_by : (n D : ℕ) → 0 < D → n < 2 ^ 149 * D → gap (kept 24 n D * 2 ^ drop 24 n D * D) n ≤ D * 2 ^ 124
off_by n D P h =
    let k = drop 24 n D in
    let q = kept 24 n D in
    let e : q * (D * 2 ^ k) ≡ q * 2 ^ k * D = sym (mul_right_comm q (2 ^ k) D ∙ mul_assoc q D (2 ^ k)) in
    go (gap (q * 2 ^ k * D) n) (D * 2 ^ k) (D * 2 ^ 124)
    (subst (λ (x : ℕ). gap x n * 2 ≤ D * 2 ^ k) e (half_off n (D * 2 ^ k) (mul-pos P (pow_pos k))))
    (le_trans (mul-le-mul_left D (pow_mono (dropped n D P h))) (le_of_eq (sym (mul_assoc D (2 ^ 124) 2))))
  where
    go : (g u v : ℕ) → g * 2 ≤ u → u ≤ v * 2 → g ≤ v
    go g u v h k = omega arith

-- ---- the f32 that equals 1 is 1
own_one : (s : Bool) (m : ℕ) (e : ℤ) → s ≡ false → T (fits binary32 (fin s m e)) → m * up e ≡ down e → fin s m e ≡ one
own_one s m (pos zero) S F h = ap₂ (λ (t : Bool) (n : ℕ). fin t n (pos 0)) S (sym (mul-one m) ∙ h)
own_one s m (pos (suc k)) S F h = absurd (no (m * 2 ^ k) (mul_assoc m (2 ^ k) 2 ∙ ap (λ (x : ℕ). m * x) (sym (pow-suc 2 k)) ∙ h))
  where
    no : (a : ℕ) → a * 2 ≡ 1 → ⊥
    no a h = omega arith
own_one s zero (negsuc k) S F h = absurd (ne_of_gt (pow_pos (suc k)) (sym h ∙ zero-mul 1))
own_one s (suc m) (negsuc k) S F h = absurd (no (suc m) (2 ^ k) (sym (mul-one (suc m)) ∙ h ∙ pow-suc 2 k) (odd_digits s m (negsuc k) F))
  where
    no : (n a : ℕ) → n ≡ a * 2 → n % 2 ≡ 1 → ⊥
    no n a h e = omega arith

equal_one : (x : Float) → T (fits binary32 x) → eq x one32 ≡ true → x ≡ one32
unfolding eq
equal_one x F h =
    go x F (sym (ap (λ (y : Float). eq x y) one_is) ∙ h) ∙ sym one_is
  where
    plain : (s : Bool) (a : ℕ) → 0 < a → T (beq s false || eqb a 0) → s ≡ false
    plain false a l t = refl
    plain true a l t = absurd (ne_of_gt l (eqb→eq a 0 t))

    go : (x : Float) → T (fits binary32 x) → eq x one ≡ true → x ≡ one
    go nan F h = cc
    go (inf s) F h = cc
    go (fin s m e) F h =
        let a = m * up e * 1 in
        let same = eqb a (1 * 1 * down e) in
        let sign = beq s false || eqb a 0 in
        let t : T (same && sign) = subst T (sym h) tt in
        let a-is : a ≡ down e = eqb→eq a (1 * 1 * down e) (and_l same sign t) ∙ one-mul (down e) in
        own_one s m e (plain s a (subst (λ (n : ℕ). 0 < n) (sym a-is) (down_pos e)) (and_r same sign t)) F (sym (mul-one (m * up e)) ∙ a-is)

only_one : (z : Float) → T (fits binary32 z) → T (le one z) → T (le z one) → z ≡ one
only_one z F h k =
    let p = between one z one tt tt h k in
    go z F p (le→cross one z tt p h) (le→cross z one p tt k)
  where
    go : (z : Float) → T (fits binary32 z) → T (positive z) → 1 * 1 * den z ≤ num z * 1 → num z * 1 ≤ 1 * 1 * den z → z ≡ one
    go nan F p a b = absurd p
    go (inf s) F p a b = absurd p
    go (fin true m e) F p a b = absurd p
    go (fin false m e) F p a b = own_one false m e refl F (sym (mul-one (m * up e)) ∙ le_antisymm b a ∙ one-mul (down e))

-- ---- what lies within 2 ^ -25 of 1 rounds to 1
lower : round binary32 false 33554431 33554432 ≡ one
unfolding round size units odd
lower = refl

upper : round binary32 false 33554433 33554432 ≡ one
unfolding round size units odd
upper = refl

near_one : (X D : ℕ) → 0 < D → gap X (D * 2 ^ 149) ≤ D * 2 ^ 124 → round binary32 false X (D * 2 ^ 149) ≡ one
near_one X D P g =
    let c = D * 2 ^ 149 in
    let r = round binary32 false X c in
    let C : 0 < c = mul-pos P (pow_pos 149) in
    let e : c ≡ D * 2 ^ 124 * 33554432 = sym (mul_assoc D (2 ^ 124) 33554432) in
    only_one r (round-fits binary32 false X c)
    (subst (λ (x : Float). T (le x r)) lower (round_mono binary32 33554431 33554432 X c (pow_pos 25) C (low c (D * 2 ^ 124) e g)))
    (subst (λ (x : Float). T (le r x)) upper (round_mono binary32 X c 33554433 33554432 C (pow_pos 25) (high c (D * 2 ^ 124) e g)))
  where
    low : (c v : ℕ) → c ≡ v * 33554432 → gap X c ≤ v → 33554431 * c ≤ X * 33554432
    low c v e g = omega arith

    high : (c v : ℕ) → c ≡ v * 33554432 → gap X c ≤ v → X * 33554432 ≤ 33554433 * c
    high c v e g = omega arith

-- ---- N / D and 1 - N / D rounded, added up: within 2 ^ -25 of 1
back_up : (N D R : ℕ) → N ≤ D → gap (R * D) ((D - N) * 2 ^ 149) ≤ D * 2 ^ 124 → gap (N * 2 ^ 149 + R * D) (D * 2 ^ 149) ≤ D * 2 ^ 124
back_up N D R h g =
    go (N * 2 ^ 149) (D * 2 ^ 149) (R * D) ((D - N) * 2 ^ 149) (D * 2 ^ 124) (mul-le-mul_right (2 ^ 149) h)
    (mul_comm (D - N) (2 ^ 149) ∙ mul-sub (2 ^ 149) D N ∙ ap₂ (λ (a b : ℕ). a - b) (mul_comm (2 ^ 149) D) (mul_comm (2 ^ 149) N)) g
  where
    go : (a b c d v : ℕ) → a ≤ b → d ≡ b - a → gap c d ≤ v → gap (a + c) b ≤ v
    go a b c d v h e g = omega arith

-- ---- a sum with the signs - and +, of which the positive is no smaller
minus_plus : (a b c : ℕ) → a ≤ b → sum binary32 true a false b c ≡ round binary32 false (b - a) c
unfolding sum
minus_plus a b c h = elim (le_or_lt b a) [
  | inl k ↦
      ap (λ (t : Bool). cond t (round binary32 false (b - a) c) (round binary32 (ltb b a) (a - b) c)) (le-ltb a b k)
      ∙ ap₂ (λ (t : Bool) (n : ℕ). round binary32 t n c) (le-ltb b a h) (same a b h k)
  | inr k ↦ ap (λ (t : Bool). cond t (round binary32 false (b - a) c) (round binary32 (ltb b a) (a - b) c)) (lt-ltb a b k)
]
  where
    same : (a b : ℕ) → a ≤ b → b ≤ a → a - b ≡ b - a
    same a b h k = omega arith

-- ---- t = 0, of either sign: t + 1 is 1, and so is -t + 1
zero_one : (s : Bool) → sum binary32 s 0 false 1 1 ≡ one
unfolding sum round size units odd
zero_one true = refl
zero_one false = refl

zero_plus : (s : Bool) (e : ℤ) → add binary32 (fin s 0 e) one ≡ one
unfolding add
zero_plus s e =
    sum_same binary32 s (0 * up e * 1) false (1 * 1 * down e) (down e * 1) 0 1 1 (mul-pos (down_pos e) (pow_pos 0)) (pow_pos 0)
    (mul-one (0 * up e * 1) ∙ mul-one (0 * up e) ∙ zero-mul (up e) ∙ sym (zero-mul (down e * 1))) (mul_assoc 1 (down e) 1)
    ∙ zero_one s

-- ---- 0 < t ≤ 1
plus_value : (m : ℕ) (e : ℤ) (r : Float) (R : ℕ) → HasValue r false R (2 ^ 149)
    → add binary32 (fin false m e) r ≡ round binary32 false (m * up e * 2 ^ 149 + R * down e) (down e * 2 ^ 149)
unfolding add sum
plus_value m e nan R v = absurd v
plus_value m e (inf s) R v = absurd v
plus_value m e (fin s o g) R v =
    let N = m * up e in
    let D = down e in
    ap (λ (t : Bool). sum binary32 false (N * down g) t (o * up g * D) (D * down g)) v.0
    ∙ sum_same binary32 false (N * down g) false (o * up g * D) (D * down g) (N * 2 ^ 149) (R * D) (D * 2 ^ 149)
    (mul-pos (down_pos e) (down_pos g)) (mul-pos (down_pos e) (pow_pos 149))
    (first N (down g) D (2 ^ 149)) (second (o * up g) D (2 ^ 149) R (down g) v.1)
  where
    first : (N g D L : ℕ) → N * g * (D * L) ≡ N * L * (D * g)
    first N g D L = simp (mul_assoc, mul_comm, mul_left_comm)

    second : (x D L R g : ℕ) → x * L ≡ R * g → x * D * (D * L) ≡ R * D * (D * g)
    second x D L R g h = simp (mul_assoc, mul_comm, mul_left_comm) (simp (mul_assoc, mul_comm, mul_left_comm) at (ap (λ (y : ℕ). y * (D * D)) h))

-- what 1 - N / D rounds to, in smallest values
module _ (N D : ℕ) (P : 0 < D) (some : 0 < N) (under : N ≤ D) where
  rest_lt : (D - N) * 2 ^ 149 < 2 ^ 149 * D
  rest_lt =
      subst (λ (x : ℕ). (D - N) * 2 ^ 149 < x) (mul_comm D (2 ^ 149)) (mul-lt-mul_of_pos_right less (pow_pos 149))
    where
      less : D - N < D
      less = omega (arith, P, some)

  rounded_off : gap (grid binary32 (D - N) D * D) ((D - N) * 2 ^ 149) ≤ D * 2 ^ 124
  rounded_off = off_by ((D - N) * 2 ^ 149) D P rest_lt

  rounded_under : grid binary32 (D - N) D < overflow binary32
  rounded_under =
      let R = grid binary32 (D - N) D in
      let e : 2 ^ 149 * D ≡ D * 2 ^ 124 * 33554432 = mul_comm (2 ^ 149) D ∙ sym (mul_assoc D (2 ^ 124) 33554432) in
      let h : R * D ≤ 2 ^ 149 * D * 2 = go (R * D) ((D - N) * 2 ^ 149) (2 ^ 149 * D) (D * 2 ^ 124) rounded_off rest_lt e in
      lt_of_le_of_lt (le_of_mul-le-mul_right (le_trans h (le_of_eq (mul_right_comm (2 ^ 149) D 2))) P) (ltb→lt (2 ^ 150) (overflow binary32) tt)
    where
      go : (x n d v : ℕ) → gap x n ≤ v → n < d → d ≡ v * 33554432 → x ≤ d * 2
      go x n d v g h e = omega arith

positive_back : (m : ℕ) (e : ℤ) → 0 < m * up e → m * up e ≤ down e → add binary32 (fin false m e) (add binary32 (fin true m e) one) ≡ one
unfolding add
positive_back m e some under =
    let N = m * up e in
    let D = down e in
    let P : 0 < D = down_pos e in
    let R = grid binary32 (D - N) D in
    let first : add binary32 (fin true m e) one ≡ round binary32 false (D - N) D =
    ap₂ (λ (a b : ℕ). sum binary32 true a false b (D * 1)) (mul-one N) (one-mul D)
    ∙ ap (λ (c : ℕ). sum binary32 true N false D c) (mul-one D)
    ∙ minus_plus N D D under in
    ap (λ (x : Float). add binary32 (fin false m e) x) first
    ∙ plus_value m e (round binary32 false (D - N) D) R (round_val binary32 (D - N) D (rounded_under N D P some under))
    ∙ near_one (N * 2 ^ 149 + R * D) D P (back_up N D R under (rounded_off N D P some under))

-- ---- each t from 0 to 1
below_zero : (m : ℕ) (e : ℤ) → T (eqb (0 * down e) (suc m * up e * 1) && (false || eqb (0 * down e) 0)) → ⊥
below_zero m e h =
    let n = suc m * up e * 1 in
    ne_of_gt (mul-pos (mul-pos (zero-lt-suc m) (up_pos e)) (pow_pos 0))
    (sym (eqb→eq (0 * down e) n (and_l (eqb (0 * down e) n) (false || eqb (0 * down e) 0) h)) ∙ zero-mul (down e))

at_most_one : (m : ℕ) (e : ℤ) → T (le (fin false (suc m) e) one) → suc m * up e ≤ down e
at_most_one m e k =
    let h : suc m * up e * 1 ≤ 1 * 1 * down e = le→cross (fin false (suc m) e) one (lt→ltb 0 (suc m) (zero-lt-suc m)) tt k in
    subst (λ (x : ℕ). x ≤ down e) (mul-one (suc m * up e)) (subst (λ (x : ℕ). suc m * up e * 1 ≤ x) (one-mul (down e)) h)

back_to_one : (t : Float) → T (le nought t) → T (le t one) → add binary32 t (add binary32 (neg t) one) ≡ one
unfolding neg le
back_to_one nan h k = absurd h
back_to_one (inf true) h k = absurd h
back_to_one (inf false) h k = absurd k
back_to_one (fin s zero e) h k = ap (λ (x : Float). add binary32 (fin s 0 e) x) (zero_plus (not s) e) ∙ zero_plus s e
back_to_one (fin true (suc m) e) h k = absurd (below_zero m e h)
back_to_one (fin false (suc m) e) h k = positive_back (suc m) e (mul-pos (zero-lt-suc m) (up_pos e)) (at_most_one m e k)

pub lerp_ones : (t : Float) → T (le zero32 t) → T (le t one32) → lerp_of t one32 one32 ≡ one32
unfolding lerp_of
lerp_ones t h k =
    fma_one t (fma32 (neg t) one32 one32)
    ∙ ap (λ (x : Float). add binary32 t x) (fma_one (neg t) one32 ∙ ap (λ (x : Float). add binary32 (neg t) x) one_is)
    ∙ back_to_one t (subst (λ (x : Float). T (le x t)) zero_is h) (subst (λ (x : Float). T (le t x)) one_is k)
    ∙ sym one_is

-- ---- weights that all equal 1, at a t from 0 to 1: what the code tests
abbrev within : Float → Bool
within t = le zero32 t && le t one32

within_lerp : (t : Float) → within t ≡ true → lerp_of t one32 one32 ≡ one32
within_lerp t h =
    let p = (and-eq-true_iff (le zero32 t) (le t one32)).0 h in
    lerp_ones t (subst T (sym p.0) tt) (subst T (sym p.1) tt)

ones_quad : (t : Float) → within t ≡ true → quad_at_of t one32 one32 one32 ≡ one32
unfolding quad_at_of
ones_quad t h = ap₂ (λ (x y : Float). lerp_of t x y) (within_lerp t h) (within_lerp t h) ∙ within_lerp t h

ones_cubic : (t : Float) → within t ≡ true → cubic_at_of t one32 one32 one32 one32 ≡ one32
unfolding cubic_at_of
ones_cubic t h = ap₂ (λ (x y : Float). lerp_of t x y) (ones_quad t h) (ones_quad t h) ∙ within_lerp t h

equals_one : (x : Float) → fits binary32 x ≡ true → eq x one32 ≡ true → x ≡ one32
equals_one x F h = equal_one x (subst T (sym F) tt) h

pub quad_ones : (t a b c : Float) → fits binary32 a ≡ true → fits binary32 b ≡ true → fits binary32 c ≡ true
    → within t && eq a one32 && eq b one32 && eq c one32 ≡ true → one32 ≡ quad_at_of t a b c
quad_ones t a b c A B C h =
    let p = (and-eq-true_iff (within t && eq a one32 && eq b one32) (eq c one32)).0 h in
    let q = (and-eq-true_iff (within t && eq a one32) (eq b one32)).0 p.0 in
    let r = (and-eq-true_iff (within t) (eq a one32)).0 q.0 in
    sym
    (ap₂ (λ (x y : Float). quad_at_of t x y c) (equals_one a A r.1) (equals_one b B q.1)
    ∙ ap (λ (x : Float). quad_at_of t one32 one32 x) (equals_one c C p.1)
    ∙ ones_quad t r.0)

pub cubic_ones : (t a b c d : Float) → fits binary32 a ≡ true → fits binary32 b ≡ true → fits binary32 c ≡ true → fits binary32 d ≡ true
    → within t && eq a one32 && eq b one32 && eq c one32 && eq d one32 ≡ true → one32 ≡ cubic_at_of t a b c d
cubic_ones t a b c d A B C D h =
    let p = (and-eq-true_iff (within t && eq a one32 && eq b one32 && eq c one32) (eq d one32)).0 h in
    let q = (and-eq-true_iff (within t && eq a one32 && eq b one32) (eq c one32)).0 p.0 in
    let r = (and-eq-true_iff (within t && eq a one32) (eq b one32)).0 q.0 in
    let s = (and-eq-true_iff (within t) (eq a one32)).0 r.0 in
    sym
    (ap₂ (λ (x y : Float). cubic_at_of t x y c d) (equals_one a A s.1) (equals_one b B r.1)
    ∙ ap₂ (λ (x y : Float). cubic_at_of t one32 one32 x y) (equals_one c C q.1) (equals_one d D p.1)
    ∙ ones_cubic t s.0)
