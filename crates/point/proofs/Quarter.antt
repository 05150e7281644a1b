-- x / 4 is exact where it is far from the smallest values, so x / 4 + c is rounded once in two operations too. Assumes nothing.
use mathlib.Core.Path.{◌≡◌, refl, sym, ap, ◌∙◌, subst}
use mathlib.Core.Bool.{Bool, true, false, ◌&&◌}
use Prim.Native.Nat.{ℕ, zero, suc, ◌+◌, ◌-◌, ◌*◌, ◌^◌, ◌≤◌, ◌<◌}
use native.Mathlib.Nat.{mul_assoc, mul_comm, mul_left_comm, mul-one, one-mul, mul-pos, mul-lt-mul_of_pos_right, mul-le-mul_left, mul-mul-mul_comm}
use native.Mathlib.Nat.{lt_of_lt_of_le, lt_of_le_of_lt}
use native.Mathlib.Omega.{arith}
use lib.IntN.{ℤ, pos, negsuc}
use lib.Dec.{T}
use lib.Pow.{pow-add, pow_pos, pow_mono}
use lib.Ieee.{Float, nan, inf, fin, binary32, up, down, round, sum, add, sub, mul, neg, eq, le, fits, of_bits}
use lib.Ieee.Exact.{HasValue, round_exact}
use lib.Ieee.Fits.{down_pos, and_l, and_r}
use lib.Ieee.Positive.{above_of_le, le→cross}
use Rattle.rounding.proofs.Basics.{less_back}
use Rattle.rounding.proofs.Sums.{sum_same}
use Rattle.leaves.specs.Single.{◌⊕◌, ◌⊖◌, ◌⊗◌, f32, zero32}
use Rattle.leaves.specs.Fma.{fma32, fma_of}
use Rattle.point.proofs.Digits.{nought, quarter, zero_is, quarter_is, digits_lt, size_lt}

-- 2 ^ -100
abbrev least : Float
least = fin false 1 (negsuc 99)

-- ---- x / 4 of an x from 2 ^ -100 on
fourth_value : (m : ℕ) (e : ℤ) → T (fits binary32 (fin false (suc m) e)) → down e ≤ suc m * up e * 2 ^ 100
    → HasValue (round binary32 false (suc m * up e) (down e * 4)) false (suc m * up e) (down e * 4)
fourth_value m (pos k) F l =
    let q = suc m in
    round_exact binary32 false (q * 2 ^ k) (1 * 4) q (k + 147) (pow_pos 2) (digits_lt false q (pos k) F)
    (subst (λ (x : ℕ). x < 2 ^ 277) (apart q k) (lt_of_lt_of_le (mul-lt-mul_of_pos_right (size_lt false m (pos k) F) (pow_pos 147)) (pow_mono more)))
    (sym (ap (λ (x : ℕ). x * 4) (sym (apart q k)) ∙ mul_assoc (q * 2 ^ k) (2 ^ 147) 4))
  where
    apart : (q k : ℕ) → q * 2 ^ k * 2 ^ 147 ≡ q * 2 ^ (k + 147)
    apart q k = mul_assoc q (2 ^ k) (2 ^ 147) ∙ ap (λ (x : ℕ). q * x) (sym (pow-add 2 k 147))

    more : 275 ≤ 277
    more = omega arith
fourth_value m (negsuc k) F l =
    let q = suc m in
    let D = 2 ^ suc k in
    let j = 147 - suc k in
    let Q : q < 2 ^ 24 = digits_lt false q (negsuc k) F in
    let l' : D ≤ q * 2 ^ 100 = subst (λ (x : ℕ). D ≤ x * 2 ^ 100) (mul-one q) l in
    let K : suc k < 124 = less_back (suc k) 124 (lt_of_le_of_lt l' (mul-lt-mul_of_pos_right Q (pow_pos 100))) in
    round_exact binary32 false (q * 1) (D * 4) q j (mul-pos (pow_pos (suc k)) (pow_pos 2)) Q
    (lt_of_lt_of_le (mul-lt-mul_of_pos_right Q (pow_pos j)) (mul-le-mul_left (2 ^ 24) (pow_mono (room (suc k)))))
    (ap (λ (x : ℕ). x * 2 ^ 149) (mul-one q)
    ∙ sym (mul_assoc q (2 ^ 147) 4)
    ∙ ap (λ (x : ℕ). x * 4) (sym (mul_assoc q (2 ^ j) D ∙ ap (λ (x : ℕ). q * x) (sym (pow-add 2 j (suc k)) ∙ ap (λ (x : ℕ). 2 ^ x) (back (suc k) K))))
    ∙ mul_assoc (q * 2 ^ j) D 4)
  where
    room : (k : ℕ) → 147 - k ≤ 253
    room k = omega arith

    back : (k : ℕ) → k < 124 → 147 - k + k ≡ 147
    back k h = omega arith

-- ---- the fused operation of an exact product: the product and then the sum
mul_fourth : (m : ℕ) (e : ℤ) → mul binary32 (fin false m e) quarter ≡ round binary32 false (m * up e) (down e * 4)
unfolding mul
mul_fourth m e = ap (λ (x : ℕ). round binary32 false x (down e * 4)) (mul-one (m * up e))

exact_fused : (m : ℕ) (e : ℤ) (u : Bool) (o : ℕ) (g : ℤ) (p : Float) → HasValue p false (m * up e) (down e * 4)
    → add binary32 p (fin u o g) ≡ fma32 (fin false m e) quarter (fin u o g)
unfolding add fma_of
exact_fused m e u o g nan v = absurd v
exact_fused m e u o g (inf t) v = absurd v
exact_fused m e u o g (fin t n d) v =
    let N = m * up e in
    let D = down e in
    let G = down g in
    ap (λ (i : Bool). sum binary32 i (n * up d * G) u (o * up g * down d) (down d * G)) v.0
    ∙ sum_same binary32 false (n * up d * G) u (o * up g * down d) (down d * G) (N * 1 * G) (o * up g * (D * 4)) (D * 4 * G)
    (mul-pos (down_pos d) (down_pos g)) (mul-pos (mul-pos (down_pos e) (pow_pos 2)) (down_pos g))
    (first (n * up d) N G (D * 4) (down d) v.1 ∙ ap (λ (x : ℕ). x * G * (down d * G)) (sym (mul-one N)))
    (mul-mul-mul_comm (o * up g) (down d) (D * 4) G)
  where
    first : (P N G E d : ℕ) → P * E ≡ N * d → P * G * (E * G) ≡ N * G * (d * G)
    first P N G E d h = simp (mul_assoc, mul_comm) (simp (mul_assoc, mul_comm, mul_left_comm) at (ap (λ (y : ℕ). y * (G * G)) h))

-- ---- by the tests of the code: x from 2 ^ -100 on, and both finite
tested : (x c : Float) → T (fits binary32 x) → T (le least x) → T (eq (sub binary32 x x) nought) → T (eq (sub binary32 c c) nought)
    → add binary32 (mul binary32 x quarter) c ≡ fma32 x quarter c
unfolding eq sub add neg
tested nan c F h k f = absurd k
tested (inf true) c F h k f = absurd k
tested (inf false) c F h k f = absurd k
tested (fin true m e) c F h k f = absurd (above_of_le least (fin true m e) tt h)
tested (fin false zero e) c F h k f = absurd (above_of_le least (fin false zero e) tt h)
tested (fin false (suc m) e) nan F h k f = absurd f
tested (fin false (suc m) e) (inf true) F h k f = absurd f
tested (fin false (suc m) e) (inf false) F h k f = absurd f
tested (fin false (suc m) e) (fin u o g) F h k f =
    let x = fin false (suc m) e in
    let N = suc m * up e in
    let D = down e in
    let l : D ≤ N * 2 ^ 100 = subst (λ (n : ℕ). n ≤ N * 2 ^ 100) (one-mul D) (le→cross least x tt (above_of_le least x tt h) h) in
    exact_fused (suc m) e u o g (mul binary32 x quarter)
    (subst (λ (p : Float). HasValue p false N (D * 4)) (sym (mul_fourth (suc m) e)) (fourth_value m e F l))

least_is : f32 0x0d80_0000 ≡ least
unfolding of_bits
least_is = refl

pub quarter_fused : (x c : Float) → fits binary32 x ≡ true → le (f32 0x0d80_0000) x && eq (x ⊖ x) zero32 && eq (c ⊖ c) zero32 ≡ true
    → x ⊗ f32 0x3e80_0000 ⊕ c ≡ fma32 x (f32 0x3e80_0000) c
quarter_fused x c F h =
    let a = le (f32 0x0d80_0000) x in
    let b = eq (x ⊖ x) zero32 in
    let d = eq (c ⊖ c) zero32 in
    let all : T (a && b && d) = subst T (sym h) tt in
    let first = and_l (a && b) d all in
    ap (λ (q : Float). x ⊗ q ⊕ c) quarter_is
    ∙ tested x c (subst T (sym F) tt) (subst (λ (y : Float). T (le y x)) least_is (and_l a b first))
    (subst (λ (y : Float). T (eq (x ⊖ x) y)) zero_is (and_r a b first)) (subst (λ (y : Float). T (eq (c ⊖ c) y)) zero_is (and_r (a && b) d all))
    ∙ sym (ap (λ (q : Float). fma32 x q c) quarter_is)
