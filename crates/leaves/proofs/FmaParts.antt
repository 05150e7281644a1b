-- `fma_of` of three finite values, from any fractions that they equal. Assumes nothing.
use mathlib.Core.Path.{◌≡◌, refl, sym, ap, ap₂, ◌∙◌, subst}
use mathlib.Core.Bool.{Bool, true, false, true≢false}
use Prim.Native.Nat.{ℕ, ◌*◌, ◌^◌, ◌<◌}
use native.Mathlib.Nat.{mul_assoc, mul_comm, mul_left_comm, mul-pos, mul-le-mul_left, mul-lt-mul_of_pos_right, lt_of_le_of_lt, le_of_lt}
use lib.Dec.{T, leb}
use lib.Pow.{pow_pos}
use lib.Ieee.{Float, nan, inf, fin, binary32, up, down, unlike, sum, add, mul, fits, to_bits}
use lib.Ieee.Fits.{down_pos}
use lib.Ieee.Exact.{HasValue}
use lib.Ieee.Scale.{finite}
use Rattle.rounding.specs.Parts.{sig, place}
use Rattle.rounding.proofs.Parts.{decode}
use Rattle.rounding.proofs.Sums.{sum_same}
use Rattle.leaves.specs.Fma.{fma_of}
use Rattle.leaves.specs.Aligned.{fma_bits}

-- the digits of a product
pub product_lt : (x y : ℕ) → x < 16777216 → y < 16777216 → x * y < 281474976710656
product_lt x y X Y = lt_of_le_of_lt (mul-le-mul_left x (le_of_lt Y)) (mul-lt-mul_of_pos_right X (pow_pos 24))

product : (x y g A B e d L K D : ℕ) → x * L ≡ A * e → y * L ≡ B * d → L * L * K ≡ D → x * y * g * D ≡ A * B * K * (e * d * g)
product x y g A B e d L K D p q r =
    ap (λ (n : ℕ). x * y * g * n) (sym r)
    ∙ left x y g L K
    ∙ ap₂ (λ (m n : ℕ). m * n * (K * g)) p q
    ∙ right A B e d K g
  where
    left : (x y g L K : ℕ) → x * y * g * (L * L * K) ≡ x * L * (y * L) * (K * g)
    left x y g L K = simp (mul_assoc, mul_comm, mul_left_comm)

    right : (A B e d K g : ℕ) → A * e * (B * d) * (K * g) ≡ A * B * K * (e * d * g)
    right A B e d K g = simp (mul_assoc, mul_comm, mul_left_comm)

addend : (z C e d g L K D : ℕ) → z * L ≡ C * g → L * K ≡ D → z * (e * d) * D ≡ C * K * (e * d * g)
addend z C e d g L K D p r = ap (λ (n : ℕ). z * (e * d) * n) (sym r) ∙ left z e d L K ∙ ap (λ (n : ℕ). n * (K * (e * d))) p ∙ right C g K e d
  where
    left : (z e d L K : ℕ) → z * (e * d) * (L * K) ≡ z * L * (K * (e * d))
    left z e d L K = simp (mul_assoc, mul_comm, mul_left_comm)

    right : (C g K e d : ℕ) → C * g * (K * (e * d)) ≡ C * K * (e * d * g)
    right C g K e d = simp (mul_assoc, mul_comm, mul_left_comm)

pub fma_value : (x y z : Float) (s t u : Bool) (A B C L K M D : ℕ) → HasValue x s A L → HasValue y t B L → HasValue z u C L → L * L * K ≡ D → L * M ≡ D → 0 < D
    → fma_of binary32 x y z ≡ sum binary32 (unlike s t) (A * B * K) u (C * M) D
unfolding fma_of
fma_value nan y z s t u A B C L K M D h k l r q P = absurd h
fma_value (inf i) y z s t u A B C L K M D h k l r q P = absurd h
fma_value (fin i m e) nan z s t u A B C L K M D h k l r q P = absurd k
fma_value (fin i m e) (inf j) z s t u A B C L K M D h k l r q P = absurd k
fma_value (fin i m e) (fin j n d) nan s t u A B C L K M D h k l r q P = absurd l
fma_value (fin i m e) (fin j n d) (inf v) s t u A B C L K M D h k l r q P = absurd l
fma_value (fin i m e) (fin j n d) (fin v o g) s t u A B C L K M D h k l r q P =
    let X = m * up e * (n * up d) * down g in
    let Y = o * up g * (down e * down d) in
    let Z = down e * down d * down g in
    ap₂ (λ (a b : Bool). sum binary32 (unlike a b) X v Y Z) h.0 k.0
    ∙ ap (λ (a : Bool). sum binary32 (unlike s t) X a Y Z) l.0
    ∙ sum_same binary32 (unlike s t) X u Y Z (A * B * K) (C * M) D (mul-pos (mul-pos (down_pos e) (down_pos d)) (down_pos g)) P
    (product (m * up e) (n * up d) (down g) A B (down e) (down d) L K D h.1 k.1 r)
    (addend (o * up g) C (down e) (down d) (down g) L M D l.1 q)

pub fma_bits_lem : (x y z : Float) → T (fits binary32 x) → T (fits binary32 y) → T (fits binary32 z) → finite x ≡ true → finite y ≡ true → finite z ≡ true
    → fma_bits (to_bits binary32 x) (to_bits binary32 y) (to_bits binary32 z) ≡ fma_of binary32 x y z
unfolding fma_bits
fma_bits_lem x y z X Y Z h k l =
    let a = to_bits binary32 x in
    let b = to_bits binary32 y in
    let c = to_bits binary32 z in
    sym (fma_value x y z (leb 2147483648 a) (leb 2147483648 b) (leb 2147483648 c) (sig binary32 a * 2 ^ place binary32 a)
    (sig binary32 b * 2 ^ place binary32 b) (sig binary32 c * 2 ^ place binary32 c)
    (2 ^ 149) (2 ^ 13) (2 ^ 162) (2 ^ 311) (decode binary32 x X (yes x h)) (decode binary32 y Y (yes y k)) (decode binary32 z Z (yes z l)) refl refl
    (pow_pos 311))
  where
    yes : (v : Float) → finite v ≡ true → T (finite v)
    yes v e = subst (λ (b : Bool). T b) (sym e) tt

-- ---- where one of the three is not finite
pub first_not : (x y z : Float) → finite x ≡ false → add binary32 (mul binary32 x y) z ≡ fma_of binary32 x y z
unfolding fma_of add mul
first_not nan y z h = refl
first_not (inf s) y z h = refl
first_not (fin s m e) y z h = absurd (true≢false h)

pub second_not : (x y z : Float) → finite x ≡ true → finite y ≡ false → add binary32 (mul binary32 x y) z ≡ fma_of binary32 x y z
unfolding fma_of add mul
second_not nan y z k h = refl
second_not (inf s) y z k h = refl
second_not (fin s m e) nan z k h = refl
second_not (fin s m e) (inf t) z k h = refl
second_not (fin s m e) (fin t n d) z k h = absurd (true≢false h)

pub third_not : (x y z : Float) → finite x ≡ true → finite y ≡ true → finite z ≡ false → z ≡ fma_of binary32 x y z
unfolding fma_of
third_not nan y z i k h = absurd (true≢false (sym i))
third_not (inf s) y z i k h = absurd (true≢false (sym i))
third_not (fin s m e) nan z i k h = absurd (true≢false (sym k))
third_not (fin s m e) (inf t) z i k h = absurd (true≢false (sym k))
third_not (fin s m e) (fin t n d) nan i k h = refl
third_not (fin s m e) (fin t n d) (inf u) i k h = refl
third_not (fin s m e) (fin t n d) (fin u o g) i k h = absurd (true≢false h)
