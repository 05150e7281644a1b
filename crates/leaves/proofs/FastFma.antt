-- `fma_of binary32` by way of binary64: there the product is exact, and the sum is rounded once, from the same fraction. Assumes nothing.
use mathlib.Core.Path.{◌≡◌, refl, sym, ap, ap₂, ◌∙◌, subst}
use mathlib.Core.Bool.{Bool, true, false, not, beq, cond}
use Prim.Native.Nat.{ℕ, ◌+◌, ◌*◌, ◌/◌, ◌%◌, ◌^◌, ◌<◌, ◌≤◌}
use native.Mathlib.Nat.{mul_assoc, mul_comm, mul_left_comm, mul-pos, mul-le-mul, lt_of_le_of_lt, lt_of_lt_of_le, le_of_lt}
use native.Mathlib.Omega.{arith}
use borrow.Author.Tests.{le-ltb}
use lib.Dec.{T, leb, eqb, lit<, lit≤}
use lib.Pow.{pow-add, pow_pos, pow_mono}
use lib.Ieee.{Float, nan, inf, fin, Format, binary32, binary64, up, down, unlike, round, sum, add, mul, fits, is_nan, nan_bits, to_bits, of_bits}
use lib.Ieee.Fits.{down_pos}
use lib.Ieee.Bits.{nan_bits_above}
use lib.Ieee.Exact.{HasValue, round_exact}
use lib.Ieee.Scale.{finite, round_same}
use Rattle.rounding.specs.Parts.{sig, place}
use Rattle.rounding.specs.Sums.{sum_sign, sum_size}
use Rattle.rounding.proofs.Parts.{decode, sig_lt, place_le}
use Rattle.rounding.proofs.Sums.{sum_same}
use Rattle.rounding.proofs.Signed.{sum_rounds}
use Rattle.rounding.proofs.Double.{Clear, shorter, double, double_zero}
use Rattle.leaves.specs.Fma.{fma_of}
use Rattle.leaves.proofs.FmaParts.{product_lt, fma_value}

-- ---- the law of double rounding, of a sum: one sign and one size in both formats
sum_double : (s : Bool) (a : ℕ) (t : Bool) (b c : ℕ) → 0 < c → Clear (to_bits binary64 (sum binary64 s a t b c))
    → of_bits binary64 (shorter (to_bits binary64 (sum binary64 s a t b c))) ≡ sum binary32 s a t b c
sum_double s a t b c C h =
    let i = sum_rounds binary64 s a t b c in
    ap (λ (r : Float). of_bits binary64 (shorter (to_bits binary64 r))) i
    ∙ double (sum_sign s a t b) (sum_size s a t b) c C (subst (λ (r : Float). Clear (to_bits binary64 r)) i h)
    ∙ sym (sum_rounds binary32 s a t b c)

sum_zero : (s : Bool) (a : ℕ) (t : Bool) (b c : ℕ) → 0 < c → c ≤ 2 ^ 1074 → to_bits binary64 (sum binary64 s a t b c) % 9223372036854775808 ≡ 0
    → sum binary64 s a t b c ≡ sum binary32 s a t b c
sum_zero s a t b c C L h =
    let i = sum_rounds binary64 s a t b c in
    i
    ∙ double_zero (sum_sign s a t b) (sum_size s a t b) c C L (ap (λ (r : Float). to_bits binary64 r % 9223372036854775808) (sym i) ∙ h)
    ∙ sym (sum_rounds binary32 s a t b c)

-- ---- the product of two values of binary32 is one of binary64
module _ (X i Y j : ℕ) (hx : X < 16777216) (hy : Y < 16777216) (hi : i ≤ 254) (hj : j ≤ 254) where
  product_is : X * 2 ^ i * (Y * 2 ^ j) * 2 ^ 1074 ≡ X * Y * 2 ^ (i + j + 776) * 2 ^ 298
  product_is =
      regroup X Y (2 ^ i) (2 ^ j) (2 ^ 1074)
      ∙ last X Y (2 ^ i * 2 ^ j) (2 ^ 776) (2 ^ 298) (2 ^ 1074) refl
      ∙ ap (λ (x : ℕ). X * Y * x * 2 ^ 298) (ap (λ (x : ℕ). x * 2 ^ 776) (sym (pow-add 2 i j)) ∙ sym (pow-add 2 (i + j) 776))
    where
      regroup : (a b x y z : ℕ) → a * x * (b * y) * z ≡ a * b * (x * y) * z
      regroup a b x y z = simp (mul_assoc, mul_left_comm)

      last : (a b x y z c : ℕ) → y * z ≡ c → a * b * x * c ≡ a * b * (x * y) * z
      last a b x y z c e = ap (λ (m : ℕ). a * b * x * m) (sym e) ∙ left a b x y z
        where
          left : (a b x y z : ℕ) → a * b * x * (y * z) ≡ a * b * (x * y) * z
          left a b x y z = simp mul_assoc

  exact : (s : Bool) → HasValue (round binary64 s (X * 2 ^ i * (Y * 2 ^ j)) (2 ^ 298)) s (X * 2 ^ i * (Y * 2 ^ j)) (2 ^ 298)
  exact s =
      round_exact binary64 s (X * 2 ^ i * (Y * 2 ^ j)) (2 ^ 298) (X * Y) (i + j + 776) (pow_pos 298) (lt_of_lt_of_le (product_lt X Y hx hy) (lit≤ tt))
      (lt_of_le_of_lt (mul-le-mul (le_of_lt (product_lt X Y hx hy)) (pow_mono (far i j hi hj))) (lit< tt)) product_is
    where
      far : (i j : ℕ) → i ≤ 254 → j ≤ 254 → i + j + 776 ≤ 1284
      far i j h k = omega arith

  mul_exact : (x y : Float) (s t : Bool) → HasValue x s (X * 2 ^ i) (2 ^ 149) → HasValue y t (Y * 2 ^ j) (2 ^ 149)
      → HasValue (mul binary64 x y) (unlike s t) (X * 2 ^ i * (Y * 2 ^ j)) (2 ^ 298)
  unfolding mul
  mul_exact nan y s t h k = absurd h
  mul_exact (inf a) y s t h k = absurd h
  mul_exact (fin a m e) nan s t h k = absurd k
  mul_exact (fin a m e) (inf b) s t h k = absurd k
  mul_exact (fin a m e) (fin b n d) s t h k =
      subst (λ (v : Float). HasValue v (unlike s t) (X * 2 ^ i * (Y * 2 ^ j)) (2 ^ 298))
      (sym (ap₂ (λ (x y : Bool). round binary64 (unlike x y) (m * up e * (n * up d)) (down e * down d)) h.0 k.0
      ∙ round_same binary64 (unlike s t) (m * up e * (n * up d)) (down e * down d) (X * 2 ^ i * (Y * 2 ^ j)) (2 ^ 298)
      (mul-pos (down_pos e) (down_pos d)) (pow_pos 298)
      (crossed (m * up e) (n * up d) (X * 2 ^ i) (Y * 2 ^ j) (down e) (down d) (2 ^ 149) (2 ^ 149) (2 ^ 298) h.1 k.1 refl)))
      (exact (unlike s t))
    where
      crossed : (x y A B e d L M D : ℕ) → x * L ≡ A * e → y * M ≡ B * d → L * M ≡ D → x * y * D ≡ A * B * (e * d)
      crossed x y A B e d L M D p q r = ap (λ (n : ℕ). x * y * n) (sym r) ∙ four x y L M ∙ ap₂ (λ (m n : ℕ). m * n) p q ∙ sym (four A B e d)
        where
          four : (a b c d : ℕ) → a * b * (c * d) ≡ a * c * (b * d)
          four a b c d = simp (mul_assoc, mul_left_comm)

-- ---- the sum, from the fractions that its parts equal
add-value : (p z : Float) (s u : Bool) (P C : ℕ) → HasValue p s P (2 ^ 298) → HasValue z u C (2 ^ 149)
    → add binary64 p z ≡ sum binary64 s (P * 2 ^ 13) u (C * 2 ^ 162) (2 ^ 311)
unfolding add
add-value nan z s u P C h k = absurd h
add-value (inf a) z s u P C h k = absurd h
add-value (fin a m e) nan s u P C h k = absurd k
add-value (fin a m e) (inf b) s u P C h k = absurd k
add-value (fin a m e) (fin b n d) s u P C h k =
    ap₂ (λ (x y : Bool). sum binary64 x (m * up e * down d) y (n * up d * down e) (down e * down d)) h.0 k.0
    ∙ sum_same binary64 s (m * up e * down d) u (n * up d * down e) (down e * down d) (P * 2 ^ 13) (C * 2 ^ 162) (2 ^ 311)
    (mul-pos (down_pos e) (down_pos d)) (pow_pos 311)
    (crossed (m * up e) (down d) P (down e) (2 ^ 298) (2 ^ 13) (2 ^ 311) h.1 refl)
    (crossed (n * up d) (down e) C (down d) (2 ^ 149) (2 ^ 162) (2 ^ 311) k.1 refl ∙ ap (λ (x : ℕ). C * 2 ^ 162 * x) (mul_comm (down d) (down e)))
  where
    crossed : (x g A e L K D : ℕ) → x * L ≡ A * e → L * K ≡ D → x * g * D ≡ A * K * (e * g)
    crossed x g A e L K D p r = ap (λ (n : ℕ). x * g * n) (sym r) ∙ four x g L K ∙ ap (λ (n : ℕ). n * (g * K)) p ∙ back A e g K
      where
        four : (x g L K : ℕ) → x * g * (L * K) ≡ x * L * (g * K)
        four x g L K = simp (mul_assoc, mul_left_comm)

        back : (A e g K : ℕ) → A * e * (g * K) ≡ A * K * (e * g)
        back A e g K = simp (mul_assoc, mul_comm, mul_left_comm)

-- ---- a finite result comes of finite parts
chosen_not : (b : Bool) (v w : Float) → (T (finite v) → ⊥) → (T (finite w) → ⊥) → T (finite (cond b v w)) → ⊥
chosen_not true v w h k = h
chosen_not false v w h k = k

add_finite : (f : Format) (p z : Float) → T (finite (add f p z)) → T (finite p) × T (finite z)
unfolding add
add_finite f nan z h = absurd h
add_finite f (inf s) nan h = absurd h
add_finite f (inf s) (inf t) h = absurd (chosen_not (beq s t) (inf s) nan (λ k. k) (λ k. k) h)
add_finite f (inf s) (fin t n d) h = absurd h
add_finite f (fin s m e) nan h = absurd h
add_finite f (fin s m e) (inf t) h = absurd h
add_finite f (fin s m e) (fin t n d) h = (tt, tt)

mul_finite : (f : Format) (x y : Float) → T (finite (mul f x y)) → T (finite x) × T (finite y)
unfolding mul
mul_finite f nan y h = absurd h
mul_finite f (inf s) nan h = absurd h
mul_finite f (inf s) (inf t) h = absurd h
mul_finite f (inf s) (fin t n d) h = absurd (chosen_not (eqb n 0) nan (inf (unlike s t)) (λ k. k) (λ k. k) h)
mul_finite f (fin s m e) nan h = absurd h
mul_finite f (fin s m e) (inf t) h = absurd (chosen_not (eqb m 0) nan (inf (unlike s t)) (λ k. k) (λ k. k) h)
mul_finite f (fin s m e) (fin t n d) h = (tt, tt)

-- an infinity's pattern passes neither test
no_field : 2047 ≤ 1149 → ⊥
no_field h = omega arith

no_pattern : ◌≡◌ {A = ℕ} 9218868437227405312 0 → ⊥
no_pattern h = omega arith

clear_finite : (v : Float) → T (not (is_nan v)) → Clear (to_bits binary64 v) → T (finite v)
unfolding to_bits is_nan
clear_finite nan n c = n
clear_finite (inf true) n c = no_field c.to
clear_finite (inf false) n c = no_field c.to
clear_finite (fin s m e) n c = tt

zero_finite : (v : Float) → T (not (is_nan v)) → to_bits binary64 v % 9223372036854775808 ≡ 0 → T (finite v)
unfolding to_bits is_nan
zero_finite nan n c = n
zero_finite (inf true) n c = no_pattern c
zero_finite (inf false) n c = no_pattern c
zero_finite (fin s m e) n c = tt

-- ---- all together: the sum in binary64 and `fma_of` are of one fraction
abbrev pub total : Float → Float → Float → Float
total x y z = add binary64 (mul binary64 x y) z

module _ (x y z : Float) (F : T (fits binary32 x)) (G : T (fits binary32 y)) (H : T (fits binary32 z)) where
  one_sum : T (finite (total x y z))
      → (s : Bool) × (a : ℕ) × (t : Bool) × (b : ℕ) × (total x y z ≡ sum binary64 s a t b (2 ^ 311)) × (fma_of binary32 x y z ≡ sum binary32 s a t b (2 ^ 311))
  one_sum h =
      let q = add_finite binary64 (mul binary64 x y) z h in
      let p = mul_finite binary64 x y q.0 in
      let a = to_bits binary32 x in
      let b = to_bits binary32 y in
      let d = to_bits binary32 z in
      let s = leb 2147483648 a in
      let t = leb 2147483648 b in
      let u = leb 2147483648 d in
      let A = sig binary32 a * 2 ^ place binary32 a in
      let B = sig binary32 b * 2 ^ place binary32 b in
      let C = sig binary32 d * 2 ^ place binary32 d in
      let i = decode binary32 x F p.0 in
      let j = decode binary32 y G p.1 in
      let k = decode binary32 z H q.1 in
      let product = mul_exact (sig binary32 a) (place binary32 a) (sig binary32 b) (place binary32 b) (sig_lt binary32 a) (sig_lt binary32 b)
      (place_le binary32 a) (place_le binary32 b) x y s t i j in (
        unlike s t,
        A * B * 2 ^ 13,
        u,
        C * 2 ^ 162,
        add-value (mul binary64 x y) z (unlike s t) u (A * B) C product k,
        fma_value x y z s t u A B C (2 ^ 149) (2 ^ 13) (2 ^ 162) (2 ^ 311) i j k refl refl (pow_pos 311),
      )

  pub fast : T (not (is_nan (total x y z))) → Clear (to_bits binary64 (total x y z))
      → of_bits binary64 (shorter (to_bits binary64 (total x y z))) ≡ fma_of binary32 x y z
  fast n c =
      let o = one_sum (clear_finite (total x y z) n c) in
      ap (λ (r : Float). of_bits binary64 (shorter (to_bits binary64 r))) o.4
      ∙ sum_double o.0 o.1 o.2 o.3 (2 ^ 311) (pow_pos 311) (subst (λ (r : Float). Clear (to_bits binary64 r)) o.4 c)
      ∙ sym o.5

  pub fast_zero : T (not (is_nan (total x y z))) → to_bits binary64 (total x y z) % 9223372036854775808 ≡ 0 → total x y z ≡ fma_of binary32 x y z
  fast_zero n c =
      let o = one_sum (zero_finite (total x y z) n c) in
      o.4
      ∙ sum_zero o.0 o.1 o.2 o.3 (2 ^ 311) (pow_pos 311) (lit≤ tt)
      (ap (λ (r : Float). to_bits binary64 r % 9223372036854775808) (sym o.4) ∙ c)
      ∙ sym o.5

-- ---- the rounded pattern is no NaN's
pub shorter_no_nan : (u : ℕ) → Clear u → T (not (nan_bits binary64 (shorter u)))
shorter_no_nan u c =
    subst (λ (b : Bool). T (not b))
    (sym (nan_bits_above binary64 (shorter u) ∙ le-ltb 9218868437227405312 (shorter u % 9223372036854775808) (small u c.to))) tt
  where
    small : (u : ℕ) → u / 4503599627370496 % 2048 ≤ 1149 → (u + 268435456) / 536870912 * 536870912 % 9223372036854775808 ≤ 9218868437227405312
    small u h = omega arith
