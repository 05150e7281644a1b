-- `leaves::fused::fma_bits` meets its contract. Assumes nothing.
use mathlib.Core.Path.{◌≡◌, refl, sym, ap, ap₂, ◌∙◌, subst}
use mathlib.Core.Logic.{◌⊎◌, inl, inr}
use mathlib.Core.Bool.{Bool, true, false, cond}
use Prim.Native.Nat.{ℕ, ◌+◌, ◌*◌, ◌%◌, ◌^◌, ◌≤◌, ◌<◌}
use native.Mathlib.Nat.{mul_assoc, mul_comm, mul_left_comm, mul-le-mul_left, mul-le-mul_right, mul-mod_left, mod-eq_of_lt, ne_of_gt}
use native.Mathlib.Nat.{lt_of_lt_of_le, lt_of_le_of_lt, le_trans, le_of_eq, mul-one, one-mul, zero-mul, mul-zero, eq-zero-or-pos}
use native.Mathlib.Omega.{arith}
use borrow.Author.Tests.{eq-eqb}
use lib.Dec.{T, eqb, leb, eqb→eq, lit≤, lit<}
use lib.Pow.{pow-add}
use lib.Ieee.{binary32, sum, unlike}
use Rattle.rounding.specs.Parts.{sig, place}
use Rattle.rounding.proofs.Parts.{sig_lt, place_le, leads}
use Rattle.leaves.specs.Aligned.{fma_bits, Aligns}
use Rattle.leaves.proofs.FmaParts.{product_lt}
use Rattle.leaves.proofs.fused.fma_bits.Goals as goal

-- ---- nothing is shifted out
p_is : (x y : ℕ) → x < 16777216 → y < 16777216 → x * y * 8192 % 18446744073709551616 ≡ x * y * 8192
p_is x y X Y = mod-eq_of_lt (wide (x * y) (product_lt x y X Y))
  where
    wide : (n : ℕ) → n < 281474976710656 → n * 8192 < 18446744073709551616
    wide n h = omega arith

q_is : (x : ℕ) → x < 16777216 → x * 137438953472 % 18446744073709551616 ≡ x * 137438953472
q_is x X = mod-eq_of_lt (wide x X)
  where
    wide : (n : ℕ) → n < 16777216 → n * 137438953472 < 18446744073709551616
    wide n h = omega arith

-- ---- the exponent does not count where the product is 0
weighs : (p k : ℕ) → p * 2 ^ cond (eqb p 0) 0 k ≡ p * 2 ^ k
weighs p k = go (eqb p 0) (eqb→eq p 0)
  where
    go : (b : Bool) → (T b → p ≡ 0) → p * 2 ^ cond b 0 k ≡ p * 2 ^ k
    go true h = ap (λ (x : ℕ). x * 2 ^ 0) (h tt) ∙ zero-mul (2 ^ 0) ∙ sym (ap (λ (x : ℕ). x * 2 ^ k) (h tt) ∙ zero-mul (2 ^ k))
    go false h = refl

grouped : (x y i j K : ℕ) → x * y * K * 2 ^ (i + j) ≡ x * 2 ^ i * (y * 2 ^ j) * K
grouped x y i j K = simp (mul_assoc, mul_comm, mul_left_comm, pow-add)

moved : (x j K L M : ℕ) → K * L ≡ M → x * K * (2 ^ j * L) ≡ x * 2 ^ j * M
moved x j K L M e = simp (mul_assoc, mul_comm, mul_left_comm) (simp (mul_assoc, mul_comm, mul_left_comm) at (ap (λ (n : ℕ). x * 2 ^ j * n) e))

-- ---- what `align` requires
module _ (x y i j : ℕ) (X : x < 16777216) (Y : y < 16777216) (I : i ≤ 254) (J : j ≤ 254) (lx : (i ≡ 0) ⊎ (8388608 ≤ x)) (ly : (j ≡ 0) ⊎ (8388608 ≤ y)) where
  big : 0 < x * y → (i + j ≡ 0) ⊎ (8388608 ≤ x * y)
  big h = elim lx [
    | inr a ↦ inr (le_trans a (le_trans (le_of_eq (sym (mul-one x))) (mul-le-mul_left x (second x y h))))
    | inl a ↦ elim ly [
      | inr b ↦ inr (le_trans b (le_trans (le_of_eq (sym (one-mul y))) (mul-le-mul_right y (first x y h))))
      | inl b ↦ inl (both a b)
    ]
  ]
    where
      both : i ≡ 0 → j ≡ 0 → i + j ≡ 0
      both a b = omega arith

      first : (x y : ℕ) → 0 < x * y → 1 ≤ x
      first x y h = elim (eq-zero-or-pos x) [ inl z ↦ absurd (ne_of_gt h (ap (λ (n : ℕ). n * y) z ∙ zero-mul y)) | inr l ↦ l ]

      second : (x y : ℕ) → 0 < x * y → 1 ≤ y
      second x y h = elim (eq-zero-or-pos y) [ inl z ↦ absurd (ne_of_gt h (ap (λ (n : ℕ). x * n) z ∙ mul-zero x)) | inr l ↦ l ]

  leading : (cond (eqb (x * y * 8192) 0) 0 (i + j) ≡ 0) ⊎ (68719476736 ≤ x * y * 8192)
  leading = elim (eq-zero-or-pos (x * y)) [
    | inl z ↦ inl (ap (λ (b : Bool). cond b 0 (i + j)) (eq-eqb (x * y * 8192) 0 (ap (λ (n : ℕ). n * 8192) z)))
    | inr l ↦ elim (big l) [ inl e ↦ inl (either (eqb (x * y * 8192) 0) (i + j) e) | inr g ↦ inr (widen (x * y) g) ]
  ]
    where
      widen : (n : ℕ) → 8388608 ≤ n → 68719476736 ≤ n * 8192
      widen n h = omega arith

      either : (b : Bool) (k : ℕ) → k ≡ 0 → cond b 0 k ≡ 0
      either true k e = refl
      either false k e = e

  weight_lt : cond (eqb (x * y * 8192) 0) 0 (i + j) < 1024
  weight_lt = go (eqb (x * y * 8192) 0)
    where
      go : (b : Bool) → cond b 0 (i + j) < 1024
      go true = lit< tt
      go false = omega (arith, I, J)

  aligned : (v k : ℕ) → v < 16777216 → k ≤ 254 → (k ≡ 0) ⊎ (8388608 ≤ v)
      → Aligns (x * y * 8192) (cond (eqb (x * y * 8192) 0) 0 (i + j)) (v * 137438953472) (k + 125)
  aligned v k Vl K lv = record {
    p_lt = small (x * y) (product_lt x y X Y);
    q_lt = small' v Vl;
    p_zeros = mul-mod_left (x * y) 8192;
    q_zeros = mul-mod_left v 137438953472;
    pe_lt = weight_lt;
    qe_lt = near k K;
    p_leads = leading;
    q_leads = elim lv [ inl z ↦ inl (low k z) | inr l ↦ inr (widen v l) ];
  }
    where
      small : (n : ℕ) → n < 281474976710656 → n * 8192 < 2305843009213693952
      small n h = omega arith

      small' : (n : ℕ) → n < 16777216 → n * 137438953472 < 2305843009213693952
      small' n h = omega arith

      near : (k : ℕ) → k ≤ 254 → k + 125 < 1024
      near k h = omega arith

      low : (k : ℕ) → k ≡ 0 → k + 125 ≤ 160
      low k h = omega arith

      widen : (n : ℕ) → 8388608 ≤ n → 1152921504606846976 ≤ n * 137438953472
      widen n h = omega arith

-- ---- the code's numbers for these: r and r' are what `digits` gave, w what `weight` did, and so on
module _ (a b e : ℕ) where
  P : ℕ
  P = sig binary32 a * sig binary32 b * 8192

  W : ℕ
  W = cond (eqb P 0) 0 (place binary32 a + place binary32 b)

  Q : ℕ
  Q = sig binary32 e * 137438953472

  asked : Aligns P W Q (place binary32 e + 125)
  unfolding P W Q
  asked =
      aligned (sig binary32 a) (sig binary32 b) (place binary32 a) (place binary32 b) (sig_lt binary32 a) (sig_lt binary32 b) (place_le binary32 a)
      (place_le binary32 b) (leads binary32 a) (leads binary32 b)
      (sig binary32 e) (place binary32 e) (sig_lt binary32 e) (place_le binary32 e) (leads binary32 e)

  total_is : sum binary32 (unlike (leb 2147483648 a) (leb 2147483648 b)) (P * 2 ^ W) (leb 2147483648 e) (Q * 2 ^ (place binary32 e + 125))
      (2 ^ 311) ≡ fma_bits a b e
  unfolding P W Q fma_bits
  total_is =
      ap₂ (λ (x y : ℕ). sum binary32 (unlike (leb 2147483648 a) (leb 2147483648 b)) x (leb 2147483648 e) y (2 ^ 311))
      (weighs (sig binary32 a * sig binary32 b * 8192) (place binary32 a + place binary32 b)
      ∙ grouped (sig binary32 a) (sig binary32 b) (place binary32 a) (place binary32 b) 8192)
      (ap (λ (x : ℕ). sig binary32 e * 137438953472 * x) (pow-add 2 (place binary32 e) 125)
      ∙ moved (sig binary32 e) (place binary32 e) 137438953472 (2 ^ 125) (2 ^ 162) refl)

-- what the code has is P, W and Q
p_known : (a b r r' : ℕ) → r ≡ sig binary32 a → r' ≡ sig binary32 b → r * r' * 8192 % 18446744073709551616 ≡ sig binary32 a * sig binary32 b * 8192
p_known a b r r' e e' =
    ap₂ (λ (x y : ℕ). x * y * 8192 % 18446744073709551616) e e' ∙ p_is (sig binary32 a) (sig binary32 b) (sig_lt binary32 a) (sig_lt binary32 b)

q_known : (a r : ℕ) → r ≡ sig binary32 a → r * 137438953472 % 18446744073709551616 ≡ sig binary32 a * 137438953472
q_known a r e = ap (λ (x : ℕ). x * 137438953472 % 18446744073709551616) e ∙ q_is (sig binary32 a) (sig_lt binary32 a)

known : (a b e d d' d'' w k : ℕ) → d ≡ sig binary32 a → d' ≡ sig binary32 b → d'' ≡ sig binary32 e
    → w ≡ cond (eqb (d * d' * 8192 % 18446744073709551616) 0) 0 (place binary32 a + place binary32 b) → k ≡ place binary32 e
    → Aligns (d * d' * 8192 % 18446744073709551616) w (d'' * 137438953472 % 18446744073709551616) (k + 125)
unfolding P W Q
known a b e d d' d'' w k h h' h'' g j =
    let p = p_known a b d d' h h' in
    subst (λ (x : ℕ). Aligns x w (d'' * 137438953472 % 18446744073709551616) (k + 125)) (sym p)
    (subst (λ (x : ℕ). Aligns (P a b e) x (d'' * 137438953472 % 18446744073709551616) (k + 125))
    (sym (g ∙ ap (λ (x : ℕ). cond (eqb x 0) 0 (place binary32 a + place binary32 b)) p))
    (subst (λ (x : ℕ). Aligns (P a b e) (W a b e) x (k + 125)) (sym (q_known e d'' h''))
    (subst (λ (x : ℕ). Aligns (P a b e) (W a b e) (Q a b e) (x + 125)) (sym j) (asked a b e))))

valued : (a b e d d' d'' w k : ℕ) (s t u : Bool) → d ≡ sig binary32 a → d' ≡ sig binary32 b → d'' ≡ sig binary32 e
    → w ≡ cond (eqb (d * d' * 8192 % 18446744073709551616) 0) 0 (place binary32 a + place binary32 b) → k ≡ place binary32 e
    → s ≡ leb 2147483648 a → t ≡ leb 2147483648 b → u ≡ leb 2147483648 e
    → sum binary32 (unlike s t) (d * d' * 8192 % 18446744073709551616 * 2 ^ w) u (d'' * 137438953472 % 18446744073709551616 * 2 ^ (k + 125))
    (2 ^ 311) ≡ fma_bits a b e
unfolding P W Q
valued a b e d d' d'' w k s t u h h' h'' g j x y z =
    let p = p_known a b d d' h h' in
    ap₂ (λ (m n : Bool). sum binary32 (unlike m n) (d * d' * 8192 % 18446744073709551616 * 2 ^ w) u
    (d'' * 137438953472 % 18446744073709551616 * 2 ^ (k + 125)) (2 ^ 311)) x y
    ∙ ap (λ (m : Bool). sum binary32 (unlike (leb 2147483648 a) (leb 2147483648 b)) (d * d' * 8192 % 18446744073709551616 * 2 ^ w) m
    (d'' * 137438953472 % 18446744073709551616 * 2 ^ (k + 125)) (2 ^ 311)) z
    ∙ ap₂ (λ (m n : ℕ). sum binary32 (unlike (leb 2147483648 a) (leb 2147483648 b)) (m * 2 ^ n) (leb 2147483648 e)
    (d'' * 137438953472 % 18446744073709551616 * 2 ^ (k + 125)) (2 ^ 311)) p
    (g ∙ ap (λ (i : ℕ). cond (eqb i 0) 0 (place binary32 a + place binary32 b)) p)
    ∙ ap₂ (λ (m n : ℕ). sum binary32 (unlike (leb 2147483648 a) (leb 2147483648 b)) (P a b e * 2 ^ W a b e) (leb 2147483648 e) (m * 2 ^ (n + 125)) (2 ^ 311))
    (q_known e d'' h'') j
    ∙ total_is a b e

pub overflow_mul-p : goal.overflow_mul-p
overflow_mul-p c =
    let a = c.args in
    record {
      fits = lt_of_lt_of_le
          (product_lt c.digits.result c.digits-2.result (lt_of_le_of_lt (le_of_eq c.digits.ensures) (sig_lt binary32 a.a))
          (lt_of_le_of_lt (le_of_eq c.digits-2.ensures) (sig_lt binary32 a.b)))
          (lit≤ tt);
    }

pub overflow_add-qe : goal.overflow_add-qe
overflow_add-qe c = omega (arith, c.place-qe.ensures, place_le binary32 c.args.c)

pub align-requires : goal.align-requires
align-requires c =
    let a = c.args in
    known a.a a.b a.c c.digits.result c.digits-2.result c.digits-q.result c.weight-pe.result c.place-qe.result c.digits.ensures
    c.digits-2.ensures c.digits-q.ensures c.weight-pe.ensures c.place-qe.ensures

pub returns : goal.returns
returns c =
    let a = c.args in
    c.align.ensures
    ∙ valued a.a a.b a.c c.digits.result c.digits-2.result c.digits-q.result c.weight-pe.result c.place-qe.result
    c.minus.result c.minus-2.result c.minus-t.result c.digits.ensures c.digits-2.ensures c.digits-q.ensures c.weight-pe.ensures
    c.place-qe.ensures c.minus.ensures c.minus-2.ensures c.minus-t.ensures
