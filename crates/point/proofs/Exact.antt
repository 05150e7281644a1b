-- a - t * a is a * (1 - t). If 1 - t is an f32, the product with it is rounded once too, so the processor's product is the fused operation, except for the sign
-- of a zero. From 1/2 up to 1 the difference 1 - t is an f32 for each t. Assumes nothing.
use mathlib.Core.Path.{◌≡◌, refl, sym, ap, ap₂, ◌∙◌, subst}
use mathlib.Core.Bool.{Bool, true, false, not, ◌&&◌, ◌||◌, beq, cond, or-true}
use Prim.Native.Nat.{ℕ, zero, suc, ◌+◌, ◌-◌, ◌*◌, ◌^◌, ◌≤◌, ◌<◌}
use native.Mathlib.Nat.{mul_assoc, mul_comm, mul_left_comm, mul_right_comm, mul-one, one-mul, zero-mul, mul-sub, mul-pos, zero-lt-suc, ne_of_gt, sub-pos_iff_lt}
use native.Mathlib.Nat.{mul-le-mul_left, mul-le-mul_right, mul-lt-mul_of_pos_right, lt_of_lt_of_le}
use native.Mathlib.Nat.{lt_of_le_of_lt, lt_of_not-le, le_of_lt, eq_of_mul-eq-mul_right}
use native.Mathlib.Omega.{arith}
use borrow.Author.Tests.{lt-ltb}
use lib.IntN.{ℤ, pos, negsuc}
use lib.Dec.{T, ltb, eqb, ltb→lt, eqb→eq}
use lib.Pow.{pow-add, pow_pos, pow_mono}
use lib.Ieee.{Float, nan, inf, fin, binary32, up, down, unlike, round, sum, add, sub, mul, neg, lt, eq, ne, le, fits}
use lib.Ieee.Exact.{HasValue, round_exact}
use lib.Ieee.Fits.{up_pos, down_pos, and_l, and_r, sub-fits}
use lib.Ieee.Positive.{first_pos, above_of_le, le→cross}
use lib.Ieee.Scale.{round_same}
use Rattle.facts.proofs.Tests.{like}
use Rattle.rounding.proofs.Basics.{less_back}
use Rattle.rounding.proofs.Signed.{sum_less}
use Rattle.leaves.specs.Single.{◌⊖◌, ◌⊗◌, zero32, half32, one32}
use Rattle.leaves.specs.Fma.{fma32, fma_of}
use Rattle.point.proofs.Digits.{nought, half, one, zero_is, half_is, one_is, digits_lt}

-- ---- sums with unlike signs
pub larger_last : (s : Bool) (a b c : ℕ) → a < b → sum binary32 (unlike true s) a s b c ≡ round binary32 s (b - a) c
unfolding sum
larger_last true a b c h = ap (λ (t : Bool). cond t (round binary32 true (b - a) c) (round binary32 false (a - b) c)) (lt-ltb a b h)
larger_last false a b c h = ap (λ (t : Bool). cond t (round binary32 false (b - a) c) (round binary32 (ltb b a) (a - b) c)) (lt-ltb a b h)

-- ---- 1 - m / 2 ^ k, of an m that is half of 2 ^ k at least and has 24 digits
exact_rest : (m k : ℕ) → m < 2 ^ 24 → m ≤ 2 ^ k → 2 ^ k ≤ m * 2 → HasValue (round binary32 false (2 ^ k - m) (2 ^ k)) false (2 ^ k - m) (2 ^ k)
exact_rest m k M h l =
    let q = 2 ^ k - m in
    let j = 149 - k in
    let Q : q < 2 ^ 24 = few m (2 ^ k) M l in
    let K : k < 25 = less_back k 25 (lt_of_le_of_lt l (mul-lt-mul_of_pos_right M (pow_pos 1))) in
    round_exact binary32 false q (2 ^ k) q j (pow_pos k) Q
    (lt_of_lt_of_le (mul-lt-mul_of_pos_right Q (pow_pos j)) (mul-le-mul_left (2 ^ 24) (pow_mono (room k))))
    (ap (λ (x : ℕ). q * x) (ap (λ (x : ℕ). 2 ^ x) (sym (back k K)) ∙ pow-add 2 j k) ∙ sym (mul_assoc q (2 ^ j) (2 ^ k)))
  where
    few : (m p : ℕ) → m < 16777216 → p ≤ m * 2 → p - m < 16777216
    few m p h l = omega arith

    room : (k : ℕ) → 149 - k ≤ 253
    room k = omega arith

    back : (k : ℕ) → k < 25 → 149 - k + k ≡ 149
    back k h = omega arith

-- ---- 1 - t of a t from 1/2 up to 1
rest_value : (m : ℕ) (e : ℤ) → T (fits binary32 (fin false m e)) → down e ≤ m * up e * 2 → m * up e < down e
    → HasValue (round binary32 false (down e - m * up e) (down e)) false (down e - m * up e) (down e)
rest_value m (pos k) F l h = absurd (no (m * 2 ^ k) l h)
  where
    no : (a : ℕ) → 1 ≤ a * 2 → a < 1 → ⊥
    no a l h = omega arith
rest_value m (negsuc k) F l h =
    let e : m * 1 ≡ m = mul-one m in
    let D = 2 ^ suc k in
    subst (λ (x : ℕ). HasValue (round binary32 false (D - x) D) false (D - x) D) (sym e)
    (exact_rest m (suc k) (digits_lt false m (negsuc k) F) (le_of_lt (subst (λ (x : ℕ). x < D) e h)) (subst (λ (x : ℕ). D ≤ x * 2) e l))

one_less : (m : ℕ) (e : ℤ) → m * up e ≤ down e → sub binary32 one (fin false m e) ≡ round binary32 false (down e - m * up e) (down e)
unfolding sub add neg
one_less m e h =
    let N = m * up e in
    let D = down e in
    ap₂ (λ (a b : ℕ). sum binary32 false a true b (1 * D)) (one-mul D) (mul-one N)
    ∙ ap (λ (c : ℕ). sum binary32 false D true N c) (one-mul D)
    ∙ sum_less binary32 D N D h

-- ---- a * u, where u is R / D
times_value : (s : Bool) (o : ℕ) (g : ℤ) (u : Float) (R D : ℕ) → 0 < D → HasValue u false R D
    → mul binary32 (fin s o g) u ≡ round binary32 s (o * up g * R) (down g * D)
unfolding mul
times_value s o g nan R D P v = absurd v
times_value s o g (inf t) R D P v = absurd v
times_value s o g (fin t n d) R D P v =
    ap (λ (i : Bool). round binary32 i (o * up g * (n * up d)) (down g * down d)) (ap (λ (i : Bool). unlike s i) v.0 ∙ like s)
    ∙ round_same binary32 s (o * up g * (n * up d)) (down g * down d) (o * up g * R) (down g * D)
    (mul-pos (down_pos g) (down_pos d)) (mul-pos (down_pos g) P)
    (scaled (o * up g) (n * up d) (down g) (down d) R D v.1)
  where
    scaled : (A U G d R D : ℕ) → U * D ≡ R * d → A * U * (G * D) ≡ A * R * (G * d)
    scaled A U G d R D h = simp (mul_assoc, mul_comm, mul_left_comm) (simp (mul_assoc, mul_comm, mul_left_comm) at (ap (λ (y : ℕ). y * (A * G)) h))

-- ---- a - t * a of a t below 1 and an a that is no zero
fused_value : (s : Bool) (o : ℕ) (g : ℤ) (m : ℕ) (e : ℤ) → 0 < o * up g → m * up e < down e
    → fma32 (fin true m e) (fin s o g) (fin s o g) ≡ round binary32 s (o * up g * (down e - m * up e)) (down g * down e)
unfolding fma_of
fused_value s o g m e some under =
    let N = m * up e in
    let D = down e in
    let A = o * up g in
    let G = down g in
    let X = N * A * G in
    let Y = A * (D * G) in
    let scaled-less : N * (A * G) < D * (A * G) = mul-lt-mul_of_pos_right under (mul-pos some (down_pos g)) in
    let less : X < Y = subst (λ (x : ℕ). x < Y) (sym (mul_assoc N A G)) (subst (λ (y : ℕ). N * (A * G) < y) (mul_left_comm D A G) scaled-less) in
    larger_last s X Y (D * G * G) less
    ∙ round_same binary32 s (Y - X) (D * G * G) (A * (D - N)) (G * D)
    (mul-pos (mul-pos (down_pos e) (down_pos g)) (down_pos g)) (mul-pos (down_pos g) (down_pos e))
    (ap (λ (x : ℕ). x * (G * D)) (ap₂ (λ (y x : ℕ). y - x) (last A G D) (first N A G) ∙ sym (mul-sub (A * G) D N)) ∙ scaled A G (D - N) D)
  where
    last : (A G D : ℕ) → A * (D * G) ≡ A * G * D
    last A G D = simp (mul_assoc, mul_comm)

    first : (N A G : ℕ) → N * A * G ≡ A * G * N
    first N A G = simp (mul_assoc, mul_comm, mul_left_comm)

    scaled : (A G R D : ℕ) → A * G * R * (G * D) ≡ A * R * (D * G * G)
    scaled A G R D = simp (mul_assoc, mul_comm, mul_left_comm)

-- ---- what the code tests: t from 1/2 up to 1, and a finite and no zero
-- t is m * 2 ^ e, from 1/2 up to 1
abbrev Upper : Float → Type 0
Upper t = (m : ℕ) × (e : ℤ) × (t ≡ fin false m e) × (down e ≤ m * up e * 2) × (m * up e < down e)

upper : (t : Float) → T (le half t) → T (lt t one) → Upper t
unfolding le lt
upper nan h k = absurd h
upper (inf true) h k = absurd h
upper (inf false) h k = absurd k
upper (fin true m e) h k = absurd (above_of_le half (fin true m e) tt h)
upper (fin false m e) h k =
    let N = m * up e in
    let D = down e in
    let l : 1 * 1 * D ≤ N * 2 = le→cross half (fin false m e) tt (above_of_le half (fin false m e) tt h) h in
    let r : N * 1 < 1 * 1 * D = ltb→lt (N * 1) (1 * 1 * D) k in (
      m,
      e,
      refl,
      subst (λ (x : ℕ). x ≤ N * 2) (one-mul D) l,
      subst (λ (x : ℕ). x < D) (mul-one N) (subst (λ (x : ℕ). N * 1 < x) (one-mul D) r),
    )

-- a is o * 2 ^ g, and no zero
abbrev Some : Float → Type 0
Some a = (s : Bool) × (o : ℕ) × (g : ℤ) × (a ≡ fin s o g) × (0 < o * up g)

zero_equal : (s : Bool) (g : ℤ) → (eqb (0 * up g * 1) (0 * 1 * down g) && (beq s false || eqb (0 * up g * 1) 0)) ≡ true
zero_equal s g =
    ap₂ (λ (a b : ℕ). eqb a b && (beq s false || eqb a 0)) (mul-one (0 * up g) ∙ zero-mul (up g)) (zero-mul (down g)) ∙ or-true (beq s false)

some : (a : Float) → T (ne a nought) → T (eq (sub binary32 a a) nought) → Some a
unfolding ne eq sub add neg
some nan h k = absurd k
some (inf true) h k = absurd k
some (inf false) h k = absurd k
some (fin s zero g) h k = absurd (subst (λ (b : Bool). T (not b)) (zero_equal s g) h)
some (fin s (suc o) g) h k = (s, suc o, g, refl, mul-pos (zero-lt-suc o) (up_pos g))

-- ---- t is N / D below 1, and 1 - t is exact
abbrev Rest : Float → Type 0
Rest t = (m : ℕ) × (e : ℤ) × (t ≡ fin false m e) × (m * up e < down e) × HasValue (sub binary32 one t) false (down e - m * up e) (down e)

upper_value : (t : Float) (m : ℕ) (e : ℤ) → T (fits binary32 t) → t ≡ fin false m e → down e ≤ m * up e * 2 → m * up e < down e
    → HasValue (sub binary32 one t) false (down e - m * up e) (down e)
upper_value t m e F t-is l h =
    subst (λ (x : Float). HasValue x false (down e - m * up e) (down e)) (sym (ap (λ (x : Float). sub binary32 one x) t-is ∙ one_less m e (le_of_lt h)))
    (rest_value m e (subst (λ (x : Float). T (fits binary32 x)) t-is F) l h)

upper_rest : (t : Float) → T (fits binary32 t) → Upper t → Rest t
upper_rest t F (m, e, t-is, l, h) = (m, e, t-is, h, upper_value t m e F t-is l h)

-- below 1/2: where 1 - t rounds to an x that is 1/2 at least, 1 - x is exact, and t where it equals t
equal_value : (x t : Float) (A C : ℕ) → 0 < A → HasValue x false A C → T (eq x t)
    → (m : ℕ) × (e : ℤ) × (t ≡ fin false m e) × (m * up e * C ≡ A * down e)
unfolding eq
equal_value nan t A C P v h = absurd v
equal_value (inf s) t A C P v h = absurd v
equal_value (fin s n d) nan A C P v h = absurd h
equal_value (fin s n d) (inf t) A C P v h = absurd h
equal_value (fin s n d) (fin t m e) A C P v h =
    let X = n * up d * down e in
    let Y = m * up e * down d in
    let p : 0 < X = mul-pos (first_pos (n * up d) C (subst (λ (x : ℕ). 0 < x) (sym v.1) (mul-pos P (down_pos d)))) (down_pos e) in (
      m,
      e,
      ap (λ (i : Bool). fin i m e) (like s t (and_r (eqb X Y) (beq s t || eqb X 0) h) p ∙ v.0),
      eq_of_mul-eq-mul_right (down d) (down_pos d) (m * up e * C) (A * down e)
          (mul_right_comm (m * up e) C (down d)
          ∙ ap (λ (x : ℕ). x * C) (sym (eqb→eq X Y (and_l (eqb X Y) (beq s t || eqb X 0) h)))
          ∙ mul_right_comm (n * up d) (down e) C
          ∙ ap (λ (x : ℕ). x * down e) v.1
          ∙ mul_right_comm A (down d) (down e)),
    )
  where
    like : (s t : Bool) → T (beq s t || eqb (n * up d * down e) 0) → 0 < n * up d * down e → t ≡ s
    like true true h p = refl
    like false false h p = refl
    like true false h p = absurd (ne_of_gt p (eqb→eq (n * up d * down e) 0 h))
    like false true h p = absurd (ne_of_gt p (eqb→eq (n * up d * down e) 0 h))

-- N / D is 1 - M / E, so M / E is 1 - N / D
module _ (N D M E : ℕ) (e : N * E ≡ (E - M) * D) (l : M < E) where
  by_parts : N * E ≡ E * D - M * D
  by_parts = e ∙ mul_comm (E - M) D ∙ mul-sub D E M ∙ ap₂ (λ (x y : ℕ). x - y) (mul_comm D E) (mul_comm D M)

  swapped : M * D ≡ (D - N) * E
  swapped =
      go (E * D) (M * D) (N * E) by_parts (mul-le-mul_right D (le_of_lt l))
      ∙ ap (λ (x : ℕ). E * D - x) (mul_comm N E)
      ∙ sym (mul-sub E D N)
      ∙ mul_comm E (D - N)
    where
      go : (a c b : ℕ) → b ≡ a - c → c ≤ a → c ≡ a - b
      go a c b e l = omega arith

  swapped_lt : 0 < D → 0 < M → N < D
  swapped_lt P Q =
      lt_of_not-le (λ (h : D ≤ N).
      go (E * D) (M * D) (N * E) by_parts (mul-pos Q P) (mul-le-mul_right D (le_of_lt l)) (subst (λ (x : ℕ). x ≤ N * E) (mul_comm D E) (mul-le-mul_right E h)))
    where
      go : (a c b : ℕ) → b ≡ a - c → 0 < c → c ≤ a → a ≤ b → ⊥
      go a c b e p l h = omega arith

lower_rest : (t : Float) → Upper (sub binary32 one t) → T (eq (sub binary32 one (sub binary32 one t)) t) → Rest t
lower_rest t (n, d, x-is, l, k) h =
    let x = sub binary32 one t in
    let M = n * up d in
    let E = down d in
    let q = equal_value (sub binary32 one x) t (E - M) E (sub-pos_iff_lt.1 k) (upper_value x n d (sub-fits binary32 one t) x-is l k) h in
    let m = q.0 in
    let e = q.1 in (
      m,
      e,
      q.2,
      swapped_lt (m * up e) (down e) M E q.3 k (down_pos e) (half_pos M E (down_pos d) l),
      subst (λ (y : Float). HasValue y false (down e - m * up e) (down e)) (sym x-is) (refl, swapped (m * up e) (down e) M E q.3 k),
    )
  where
    half_pos : (M E : ℕ) → 0 < E → E ≤ M * 2 → 0 < M
    half_pos M E p l = omega arith

-- ---- if the tests hold, the product is the fused operation
rest_product : (t a : Float) → Rest t → Some a → mul binary32 a (sub binary32 one t) ≡ fma32 (neg t) a a
unfolding neg
rest_product t a (m, e, t-is, h, v) (s, o, g, a-is, p) =
    ap (λ (x : Float). mul binary32 x (sub binary32 one t)) a-is
    ∙ times_value s o g (sub binary32 one t) (down e - m * up e) (down e) (down_pos e) v
    ∙ sym (fused_value s o g m e p h)
    ∙ sym (ap₂ (λ (x y : Float). fma32 (neg x) y y) t-is a-is)

-- ---- the same by the tests as the code makes them
abbrev upper_test : Float → Bool
upper_test t = le half32 t && lt t one32

abbrev exact_test : Float → Bool
exact_test t = upper_test t || (upper_test (one32 ⊖ t) && eq (one32 ⊖ (one32 ⊖ t)) t)

tested_upper : (t : Float) → T (upper_test t) → Upper t
tested_upper t h =
    let a = le half32 t in
    let b = lt t one32 in
    upper t (subst (λ (x : Float). T (le x t)) half_is (and_l a b h)) (subst (λ (x : Float). T (lt t x)) one_is (and_r a b h))

tested_rest : (t : Float) → T (fits binary32 t) → T (exact_test t) → Rest t
tested_rest t F h =
    go (upper_test t) refl h
  where
    a : Bool
    a = upper_test (one32 ⊖ t)

    b : Bool
    b = eq (one32 ⊖ (one32 ⊖ t)) t

    go : (c : Bool) → upper_test t ≡ c → T (c || (a && b)) → Rest t
    go true e h = upper_rest t F (tested_upper t (subst T (sym e) tt))
    go false e h =
        lower_rest t (subst (λ (x : Float). Upper (sub binary32 x t)) one_is (tested_upper (one32 ⊖ t) (and_l a b h)))
        (subst (λ (x : Float). T (eq (sub binary32 x (sub binary32 x t)) t)) one_is (and_r a b h))

pub product_fused : (t a : Float) → fits binary32 t ≡ true → exact_test t && ne a zero32 && eq (a ⊖ a) zero32 ≡ true
    → a ⊗ (one32 ⊖ t) ≡ fma32 (neg t) a a
product_fused t a F h =
    let p = exact_test t in
    let q = ne a zero32 in
    let r = eq (a ⊖ a) zero32 in
    let all : T (p && q && r) = subst T (sym h) tt in
    let two = and_l (p && q) r all in
    ap (λ (x : Float). a ⊗ (x ⊖ t)) one_is
    ∙ rest_product t a (tested_rest t (subst T (sym F) tt) (and_l p q two))
    (some a (subst (λ (x : Float). T (ne a x)) zero_is (and_r p q two)) (subst (λ (x : Float). T (eq (a ⊖ a) x)) zero_is (and_r (p && q) r all)))
