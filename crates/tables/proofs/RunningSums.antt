-- Laws of a spline's running sum: what a curvature above 1 makes of it when it is added and rounded, its whole number up, and the size of its steps.
-- A value x that is finite and not negative is the fraction num x / den x. Assumes nothing.
use mathlib.Core.Path.{◌≡◌, refl, sym, ap, ap₂, ◌∙◌, subst}
use mathlib.Core.Bool.{Bool, true, false, ◌&&◌, cond, true≢false}
use Prim.Native.Nat.{ℕ, zero, suc, ◌+◌, ◌-◌, ◌*◌, ◌/◌, ◌%◌, ◌^◌, ◌≤◌, ◌<◌, zero-le}
use native.Mathlib.Nat.{le_trans, le_of_eq, le_of_lt, lt_of_le_of_lt, lt_of_lt_of_le, mul-pos, mul-one, one-mul, zero-mul, zero-add, mul_comm}
use native.Mathlib.Nat.{mul_assoc, mul_right_comm, suc-mul, mul-le-mul_right, mul-lt-mul_of_pos_right, le_of_mul-le-mul_right}
use native.Mathlib.Nat.{lt_of_mul-lt-mul_right, lt_of_not-le, lt_irrefl, zero-lt-suc, div-add-mod', mod-lt}
use native.Mathlib.Omega.{arith}
use lib.IntN.{ℤ, pos, negsuc}
use lib.Dec.{T, leb, ltb, eqb, lit≤, lit<, ltb→lt, lt→ltb, leb→le, eqb-suc-zero}
use lib.Pow.{pow-add, pow_pos, pow-lt, pow_mono, shl_lt}
use lib.Ieee.{Float, nan, inf, fin, binary32, up, down, round, add, div, le, lt, eq, of_int, of_bits, fits}
use lib.Ieee.Fits.{down_pos, and_l, and_r, and_i, add-fits}
use lib.Ieee.Bits.{is_true}
use lib.Ieee.Exact.{HasValue, round_exact}
use lib.Ieee.Back.{round_whole}
use lib.Ieee.Order.{round_mono, le_of_values}
use lib.Ieee.Positive.{num, den, positive, den_pos, own_value, value→cross, positive_of_value, values_of_le, between, above, above_of_le}
use lib.Ieee.Scale.{round_same}
use Rattle.facts.proofs.Tests.{same}
use Rattle.leaves.specs.Single.{◌⊕◌, ◌⊘◌, whole32, zero32, half32, one32}
use Rattle.leaves.specs.Whole.{limit32, whole_up_of}

-- an f32, finite, above 1 and at most 65,536
pub record Sum (x : Float) : Type 0 where
  pub held : T (fits binary32 x)
  pub real : T (positive x)
  pub over : den x < num x
  pub most : num x ≤ 65536 * den x

-- y reaches the next whole number above x: of each whole number p at most x, the next one is at most y
abbrev pub Reaches : Float → Float → Type 0
Reaches x y = (p : ℕ) → p * den x ≤ num x → suc p * den y ≤ num y

-- y is x + 1 or more
abbrev pub Grows : Float → Float → Type 0
Grows x y = (num x + den x) * den y ≤ num y * den x

pub grows_reaches : (x y : Float) → Grows x y → Reaches x y
grows_reaches x y G p h =
    le_of_mul-le-mul_right
    (le_trans (le_of_eq (mul_right_comm (suc p) (den y) (den x)))
    (le_trans (mul-le-mul_right (den y) (more (num x) (den x) (p * den x) (suc p * den x) h (suc-mul p (den x)))) G))
    (den_pos x)
  where
    more : (n d a b : ℕ) → a ≤ n → b ≡ a + d → b ≤ n + d
    more n d a b h e = omega arith

-- a quad's own curvature: an f32, finite and above 1
pub record Bent (c : Float) : Type 0 where
  pub held : T (fits binary32 c)
  pub real : T (positive c)
  pub over : den c < num c

-- ---- whole numbers, the limit and zero

pub whole_value : (n : ℕ) → n ≤ 65537 → HasValue (whole32 n) false n 1
unfolding of_int
whole_value n h = round_whole binary32 false n (le_trans h (lit≤ tt))

pub whole_positive : (n : ℕ) → n ≤ 65537 → 0 < n → T (positive (whole32 n))
whole_positive n h N = positive_of_value (whole32 n) n 1 (whole_value n h) N

limit_value : HasValue limit32 false 65536 1
unfolding of_bits
limit_value = (refl, refl)

limit_positive : T (positive limit32)
unfolding of_bits
limit_positive = tt

-- zero or more
abbrev pub natural : Float → Bool
natural nan = false
natural (inf s) = false
natural (fin true m e) = false
natural (fin false m e) = true

pub zero_natural : T (natural zero32)
unfolding of_bits
zero_natural = tt

pub zero_num : num zero32 ≡ 0
unfolding of_bits
zero_num = refl

zero_den : den zero32 ≡ 1
unfolding of_bits
zero_den = refl

pub positive_natural : (x : Float) → T (positive x) → T (natural x)
positive_natural nan h = h
positive_natural (inf s) h = h
positive_natural (fin true m e) h = h
positive_natural (fin false m e) h = tt

-- ---- one more curvature

pub add_is : (x y : Float) → T (natural x) → T (natural y) → x ⊕ y ≡ round binary32 false (num x * den y + num y * den x) (den x * den y)
unfolding add
add_is nan y h k = absurd h
add_is (inf s) y h k = absurd h
add_is (fin true m e) y h k = absurd h
add_is (fin false m e) nan h k = absurd k
add_is (fin false m e) (inf s) h k = absurd k
add_is (fin false m e) (fin true n d) h k = absurd k
add_is (fin false m e) (fin false n d) h k = refl

exact_reach : (p s t c d : ℕ) → p * t ≤ s → d ≤ c → suc p * (t * d) ≤ (s * d + c * t) * 1
exact_reach p s t c d h k =
    le_trans (le_of_eq (suc-mul p (t * d)))
    (join (p * (t * d)) (t * d) (s * d) (c * t) ((s * d + c * t) * 1) (le_trans (le_of_eq (sym (mul_assoc p t d))) (mul-le-mul_right d h))
    (le_trans (le_of_eq (mul_comm t d)) (mul-le-mul_right t k)) (mul-one (s * d + c * t)))
  where
    join : (a b x y z : ℕ) → a ≤ x → b ≤ y → z ≡ x + y → a + b ≤ z
    join a b x y z h k e = omega arith

module _ (s c : Float) (S : T (natural s)) (most : num s ≤ 65536 * den s) (B : Bent c) where
  above_whole : (p : ℕ) → p ≤ 65536 → p * den s ≤ num s → T (le (whole32 (suc p)) (s ⊕ c))
  unfolding of_int
  above_whole p P h =
      subst (λ (z : Float). T (le (whole32 (suc p)) z)) (sym (add_is s c S (positive_natural c B.real)))
      (round_mono binary32 (suc p) 1 (num s * den c + num c * den s) (den s * den c) (zero-lt-suc 0) (mul-pos (den_pos s) (den_pos c))
      (exact_reach p (num s) (den s) (num c) (den c) h (le_of_lt B.over)))

  -- so the sum is not NaN
  pub sum_number : s ⊕ c ≡ nan → ⊥
  sum_number e = subst (λ (z : Float). T (above z)) e
      (above_of_le (whole32 1) (s ⊕ c) (whole_positive 1 (lit≤ tt) (zero-lt-suc 0)) (above_whole 0 zero-le (le_trans (le_of_eq (zero-mul (den s))) zero-le)))

  few : (p : ℕ) → p * den s ≤ num s → p ≤ 65536
  few p h = le_of_mul-le-mul_right (le_trans h most) (den_pos s)

  module _ (fit : T (le (s ⊕ c) limit32)) where
    pub sum_real : T (positive (s ⊕ c))
    sum_real =
        between (whole32 1) (s ⊕ c) limit32 (whole_positive 1 (lit≤ tt) (zero-lt-suc 0)) limit_positive
        (above_whole 0 zero-le (le_trans (le_of_eq (zero-mul (den s))) zero-le)) fit

    pub sum_reaches : Reaches s (s ⊕ c)
    sum_reaches p h =
        let P = few p h in
        le_trans (values_of_le (whole32 (suc p)) (s ⊕ c) (suc p) 1 (num (s ⊕ c)) (den (s ⊕ c))
        (whole_positive (suc p) (one_more p P) (zero-lt-suc p)) sum_real (whole_value (suc p) (one_more p P)) (own_value (s ⊕ c) sum_real)
        (above_whole p P h))
        (le_of_eq (mul-one (num (s ⊕ c))))
      where
        one_more : (p : ℕ) → p ≤ 65536 → suc p ≤ 65537
        one_more p h = omega arith

    pub sum_most : num (s ⊕ c) ≤ 65536 * den (s ⊕ c)
    sum_most =
        le_trans (le_of_eq (sym (mul-one (num (s ⊕ c)))))
        (values_of_le (s ⊕ c) limit32 (num (s ⊕ c)) (den (s ⊕ c)) 65536 1 sum_real limit_positive (own_value (s ⊕ c) sum_real) limit_value fit)

-- a sum above 1 stays above 1 when a quad's curvature is added
pub sum_after : (s c : Float) → Sum s → Bent c → T (le (s ⊕ c) limit32) → Sum (s ⊕ c)
sum_after s c S B fit =
    let n = positive_natural s S.real in
    let r = sum_reaches s c n S.most B fit 1 (le_trans (le_of_eq (one-mul (den s))) (le_of_lt S.over)) in
    record {
      held = add-fits binary32 s c;
      real = sum_real s c n S.most B fit;
      over = twice (den (s ⊕ c)) (num (s ⊕ c)) (den_pos (s ⊕ c)) r;
      most = sum_most s c n S.most B fit;
    }
  where
    twice : (d n : ℕ) → 0 < d → 2 * d ≤ n → d < n
    twice d n D h = omega arith

-- ---- the first sum of a spline is its quad's own curvature

pub fits_shape : (m : ℕ) (e : ℤ) → T (fits binary32 (fin false (suc m) e)) → (suc m < 2 ^ 24) × (down e ≤ 2 ^ 149) × (suc m * up e < 2 ^ 128 * down e)
unfolding fits
fits_shape m e h =
    let a = eqb (suc m % 2) 1 in
    let b = ltb (suc m) (2 ^ 24) in
    let c = leb (down e) (2 ^ 149) in
    let d = ltb (suc m * up e) (2 ^ 128 * down e) in
    let abc = and_l (a && b && c) d h in (
      ltb→lt (suc m) (2 ^ 24) (and_r a b (and_l (a && b) c abc)),
      leb→le (down e) (2 ^ 149) (and_r (a && b) c abc),
      ltb→lt (suc m * up e) (2 ^ 128 * down e)
          (and_r (a && b && c) d h),
    )

pub exponent : (k : ℕ) → 2 ^ suc k ≤ 2 ^ 149 → suc k ≤ 149
exponent k h = le_of_not (lt_of_not-le (λ (g : 150 ≤ suc k). lt_irrefl (2 ^ 149) (lt_of_lt_of_le (pow-lt g) h)))
  where
    le_of_not : suc k < 150 → suc k ≤ 149
    le_of_not g = omega arith

held_exact : (c : Float) → T (fits binary32 c) → T (positive c) → HasValue (round binary32 false (num c) (den c)) false (num c) (den c)
held_exact nan f h = absurd h
held_exact (inf s) f h = absurd h
held_exact (fin true m e) f h = absurd h
held_exact (fin false zero e) f h = absurd h
held_exact (fin false (suc m) (pos k)) f h =
    let z = fits_shape m (pos k) f in
    let e : suc m * 2 ^ k * 2 ^ 149 ≡ suc m * 2 ^ (k + 149) = mul_assoc (suc m) (2 ^ k) (2 ^ 149) ∙ ap (λ (x : ℕ). suc m * x) (sym (pow-add 2 k 149)) in
    round_exact binary32 false (suc m * 2 ^ k) 1 (suc m) (k + 149) (zero-lt-suc 0) z.0
    (lt_of_le_of_lt (le_of_eq (sym e)) (mul-lt-mul_of_pos_right (lt_of_lt_of_le z.2 (le_of_eq (mul-one (2 ^ 128)))) (pow_pos 149)))
    (e ∙ sym (mul-one (suc m * 2 ^ (k + 149))))
held_exact (fin false (suc m) (negsuc k)) f h =
    let z = fits_shape m (negsuc k) f in
    let l = exponent k z.1 in
    let j = 149 - suc k in
    let e : suc m * 1 * 2 ^ 149 ≡ suc m * 2 ^ j * 2 ^ suc k =
    ap (λ (x : ℕ). x * 2 ^ 149) (mul-one (suc m)) ∙ ap (λ (x : ℕ). suc m * x) (ap (λ (x : ℕ). 2 ^ x) (sym (back k l)) ∙ pow-add 2 j (suc k))
    ∙ sym (mul_assoc (suc m) (2 ^ j) (2 ^ suc k)) in
    round_exact binary32 false (suc m * 1) (2 ^ suc k) (suc m) j (pow_pos (suc k)) z.0
    (lt_of_lt_of_le (shl_lt 24 j z.0) (pow_mono (small k))) e
  where
    back : (k : ℕ) → suc k ≤ 149 → 149 - suc k + suc k ≡ 149
    back k h = omega arith

    small : (k : ℕ) → 24 + (149 - suc k) ≤ 277
    small k = omega arith

from_zero : (c : Float) → Bent c → zero32 ⊕ c ≡ round binary32 false (num c) (den c)
from_zero c B =
    add_is zero32 c zero_natural (positive_natural c B.real)
    ∙ ap₂ (λ (a d : ℕ). round binary32 false a d)
    (ap₂ (λ (a b : ℕ). a * den c + num c * b) zero_num zero_den ∙ ap₂ (λ (a b : ℕ). a + b) (zero-mul (den c)) (mul-one (num c)) ∙ zero-add (num c))
    (ap (λ (b : ℕ). b * den c) zero_den ∙ one-mul (den c))

pub sum_first : (c : Float) → Bent c → T (le (zero32 ⊕ c) limit32) → Sum (zero32 ⊕ c)
sum_first c B fit =
    let m : num zero32 ≤ 65536 * den zero32 = le_trans (le_of_eq zero_num) zero-le in
    let r = zero32 ⊕ c in
    let v : HasValue r false (num c) (den c) = subst (λ (z : Float). HasValue z false (num c) (den c)) (sym (from_zero c B))
    (held_exact c B.held B.real) in
    record {
      held = add-fits binary32 zero32 c;
      real = sum_real zero32 c zero_natural m B fit;
      over = lt_of_mul-lt-mul_right (den c)
          (lt_of_lt_of_le (lt_of_le_of_lt (le_of_eq (mul_comm (den r) (den c))) (mul-lt-mul_of_pos_right B.over (den_pos r)))
          (le_of_eq (sym (value→cross r (num c) (den c) v))));
      most = sum_most zero32 c zero_natural m B fit;
    }

-- ---- a sum against a whole number

lt_value : (x y : Float) (p : ℕ) → T (positive x) → HasValue y false p 1 → lt x y ≡ ltb (num x) (p * den x)
unfolding lt
lt_value nan y p h v = absurd h
lt_value (inf s) y p h v = absurd h
lt_value (fin true m e) y p h v = absurd h
lt_value (fin false m e) nan p h v = absurd v
lt_value (fin false m e) (inf s) p h v = absurd v
lt_value (fin false m e) (fin true n d) p h v = absurd (true≢false v.0)
lt_value (fin false m e) (fin false n d) p h v =
    let c : n * up d * down e ≡ p * down e * down d = ap (λ (z : ℕ). z * down e) (sym (mul-one (n * up d)) ∙ v.1) ∙ mul_right_comm p (down d) (down e) in
    let a = m * up e in
    same (ltb (a * down d) (n * up d * down e)) (ltb a (p * down e))
    (λ t. lt→ltb a (p * down e) (lt_of_mul-lt-mul_right (down d) (lt_of_lt_of_le (ltb→lt (a * down d) (n * up d * down e) t) (le_of_eq c))))
    (λ t. lt→ltb (a * down d) (n * up d * down e) (lt_of_lt_of_le (mul-lt-mul_of_pos_right (ltb→lt a (p * down e) t) (down_pos d)) (le_of_eq (sym c))))

pub lt_whole : (x : Float) (p : ℕ) → Sum x → p ≤ 65537 → lt x (whole32 p) ≡ ltb (num x) (p * den x)
lt_whole x p S h = lt_value x (whole32 p) p S.real (whole_value p h)

-- ---- the whole number up

pub no_steps : whole_up_of zero32 ≡ 0
unfolding whole_up_of of_bits le lt eq
no_steps = refl

zero_value : HasValue zero32 false 0 1
unfolding of_bits
zero_value = (refl, refl)

pub up_is : (x : Float) → Sum x → whole_up_of x ≡ (num x + den x - 1) / den x
unfolding whole_up_of
up_is x S =
    let lo : T (le zero32 x) = le_of_values zero32 x 0 1 (num x) (den x) (zero-lt-suc 0) (den_pos x) zero_value (own_value x S.real)
    (le_trans (le_of_eq (zero-mul (den x))) zero-le) in
    let hi : T (le x limit32) = le_of_values x limit32 (num x) (den x) 65536 1 (den_pos x) (zero-lt-suc 0) (own_value x S.real) limit_value
    (le_trans (le_of_eq (mul-one (num x))) S.most) in
    ap (λ (b : Bool). cond b ((num x + den x - 1) / den x) 65537) (is_true (le zero32 x && le x limit32) (and_i (le zero32 x) (le x limit32) lo hi))

-- m is the least whole number not below x
pub record Up (x : Float) (m : ℕ) : Type 0 where
  pub not_below : num x ≤ m * den x
  pub least : m * den x < num x + den x

pub up_bounds : (x : Float) → Sum x → Up x (whole_up_of x)
up_bounds x S =
    let n = num x + den x - 1 in
    let m = n / den x in
    let z = last (num x) (den x) (m * den x) (n % den x) (den_pos x) (div-add-mod' n (den x)) (mod-lt n (den_pos x)) in
    record {
      not_below = subst (λ (k : ℕ). num x ≤ k * den x) (sym (up_is x S)) z.0;
      least = subst (λ (k : ℕ). k * den x < num x + den x) (sym (up_is x S)) z.1;
    }
  where
    last : (n d a r : ℕ) → 0 < d → a + r ≡ n + d - 1 → r < d → (n ≤ a) × (a < n + d)
    last n d a r D e l = omega arith

-- a whole number p below x is below m, and one below m is below x
pub below_up : (x : Float) (m p : ℕ) → Up x m → p * den x < num x → p < m
below_up x m p U h = lt_of_mul-lt-mul_right (den x) (lt_of_lt_of_le h U.not_below)

pub up_below : (x : Float) (m p : ℕ) → Up x m → p < m → p * den x < num x
up_below x m p U h = cut (num x) (den x) (p * den x) (m * den x) (le_trans (le_of_eq (sym (suc-mul p (den x)))) (mul-le-mul_right (den x) h)) U.least
  where
    cut : (n d a b : ℕ) → a + d ≤ b → b < n + d → a < n
    cut n d a b h k = omega arith

pub up_two : (x : Float) (m : ℕ) → Sum x → Up x m → 2 ≤ m
up_two x m S U = below_up x m 1 U (lt_of_le_of_lt (le_of_eq (one-mul (den x))) S.over)

pub up_limit : (x : Float) (m : ℕ) → Sum x → Up x m → m ≤ 65536
up_limit x m S U = cut m
    (lt_of_mul-lt-mul_right (den x) (lt_of_lt_of_le U.least (join (num x) (den x) (65536 * den x) (65537 * den x) S.most (suc-mul 65536 (den x)))))
  where
    cut : (m : ℕ) → m < 65537 → m ≤ 65536
    cut m h = omega arith

    join : (n d a b : ℕ) → n ≤ a → b ≡ a + d → n + d ≤ b
    join n d a b h e = omega arith

-- ---- the size of a step: above 0.5, and at most 1

div_is : (x y : Float) → T (positive x) → T (positive y) → x ⊘ y ≡ round binary32 false (num x * den y) (num y * den x)
unfolding div
div_is nan y h k = absurd h
div_is (inf s) y h k = absurd h
div_is (fin true m e) y h k = absurd h
div_is (fin false m e) nan h k = absurd k
div_is (fin false m e) (inf s) h k = absurd k
div_is (fin false m e) (fin true n d) h k = absurd k
div_is (fin false m e) (fin false zero d) h k = absurd k
div_is (fin false m e) (fin false (suc n) d) h k =
    ap (λ (b : Bool). cond b (cond (eqb m 0) nan (inf false)) (round binary32 false (m * up e * down d) (suc n * up d * down e))) (eqb-suc-zero n)

pub size_is : (x : Float) (m : ℕ) → Sum x → 0 < m → m ≤ 65537 → x ⊘ whole32 m ≡ round binary32 false (num x) (m * den x)
size_is x m S M h =
    let y = whole32 m in
    let p = whole_positive m h M in
    let e : num y ≡ m * den y = sym (mul-one (num y)) ∙ value→cross y m 1 (whole_value m h) in
    div_is x y S.real p
    ∙ round_same binary32 false (num x * den y) (num y * den x) (num x) (m * den x)
    (subst (λ (z : ℕ). 0 < z * den x) (sym e) (mul-pos (mul-pos M (den_pos y)) (den_pos x))) (mul-pos M (den_pos x))
    (swap (num x) (den y) m (den x) ∙ ap (λ (z : ℕ). num x * (z * den x)) (sym e))
  where
    swap : (a b c d : ℕ) → a * b * (c * d) ≡ a * (c * b * d)
    swap a b c d = simp (mul_assoc, mul_comm)

half_is : half32 ≡ round binary32 false 1 2
unfolding of_bits round
half_is = refl

one_is : one32 ≡ round binary32 false 1 1
unfolding of_bits round
one_is = refl

pub size_low : (x : Float) (m : ℕ) → Sum x → Up x m → T (le half32 (x ⊘ whole32 m))
size_low x m S U =
    let M : 0 < m = le_trans (lit≤ tt) (up_two x m S U) in
    subst (λ (z : Float). T (le z (x ⊘ whole32 m))) (sym half_is)
    (subst (λ (z : Float). T (le (round binary32 false 1 2) z)) (sym (size_is x m S M (le_trans (up_limit x m S U) (lit≤ tt))))
    (round_mono binary32 1 2 (num x) (m * den x) (lit< tt) (mul-pos M (den_pos x)) (half (num x) (den x) (m * den x) U.least S.over)))
  where
    half : (n d a : ℕ) → a < n + d → d < n → 1 * a ≤ n * 2
    half n d a h k = omega arith

pub size_high : (x : Float) (m : ℕ) → Sum x → Up x m → T (le (x ⊘ whole32 m) one32)
size_high x m S U =
    let M : 0 < m = le_trans (lit≤ tt) (up_two x m S U) in
    subst (λ (z : Float). T (le (x ⊘ whole32 m) z)) (sym one_is)
    (subst (λ (z : Float). T (le z (round binary32 false 1 1))) (sym (size_is x m S M (le_trans (up_limit x m S U) (lit≤ tt))))
    (round_mono binary32 (num x) (m * den x) 1 1 (mul-pos M (den_pos x)) (zero-lt-suc 0)
    (le_trans (le_of_eq (mul-one (num x))) (le_trans U.not_below (le_of_eq (sym (one-mul (m * den x))))))))

half_positive : T (positive half32)
unfolding of_bits
half_positive = tt

one_positive : T (positive one32)
unfolding of_bits
one_positive = tt

pub size_real : (x : Float) (m : ℕ) → Sum x → Up x m → T (positive (x ⊘ whole32 m))
size_real x m S U = between half32 (x ⊘ whole32 m) one32 half_positive one_positive (size_low x m S U) (size_high x m S U)
