-- Of three finite values, `fma` rounds the exact x * y + z: no f32 lies nearer to it, an exact zero is -0 only where product and addend are both negative, and
-- any other result has the exact sum's sign, an underflow to zero too. And fma(x, 1, z) is x + z. Assumes nothing.
use mathlib.Core.Path.{◌≡◌, refl, sym, ap, ap₂, ◌∙◌, subst}
use mathlib.Core.Bool.{Bool, true, false, ◌&&◌, cond}
use Prim.Native.Nat.{ℕ, zero, suc, ◌*◌, ◌+◌, ◌^◌, ◌<◌}
use native.Mathlib.Nat.{mul-one, mul-zero, zero-mul, mul-pos}
use lib.IntN.{ℤ, pos, negsuc, neg_ℤ, nat_abs, ◌+ℤ◌, ◌*ℤ◌}
use lib.Dec.{T, ltb}
use lib.Ieee.{Float, nan, inf, fin, Format, binary32, prec, emax, low, up, down, unlike, odd, units, round, sum, add, mul, of_bits}
use lib.Ieee.Fits.{round_is}
use lib.Ieee.Order.{drop, kept}
use lib.Ieee.Positive.{den_pos}
use lib.Ieee.Scale.{finite}
use Rattle.facts.proofs.Tests.{like}
use Rattle.rounding.specs.Nearest.{signed, NearestTo}
use Rattle.rounding.specs.Sums.{sum_sign, sum_size}
use Rattle.rounding.proofs.Distances.{abs_signed}
use Rattle.rounding.proofs.Signed.{signed_times, sum_rounds, sum_signed, zero_sign}
use Rattle.rounding.proofs.Nearest.{round_nearest}
use Rattle.rounding.proofs.Double.{round_zero}
use Rattle.leaves.specs.Single.{◌⊕◌, one32}
use Rattle.leaves.specs.Fma.{fma32, fma_of}
use Rattle.leaves.specs.Small.{negative_of}
use Rattle.leaves.specs.Exact.{exact_num, exact_den}

-- ---- products with signs
signed_mul : (s : Bool) (a : ℕ) (t : Bool) (b : ℕ) → signed s a *ℤ signed t b ≡ signed (unlike s t) (a * b)
signed_mul true a false b = signed_times true a b
signed_mul false a false b = refl
signed_mul false a true zero = ap pos (mul-zero a) ∙ ap (λ (n : ℕ). neg_ℤ (pos n)) (sym (mul-zero a))
signed_mul false a true (suc b) = refl
signed_mul true zero true zero = refl
signed_mul true zero true (suc b) = ap (λ (n : ℕ). neg_ℤ (pos n)) (zero-mul (suc b)) ∙ ap pos (sym (zero-mul (suc b)))
signed_mul true (suc a) true zero = ap (λ (n : ℕ). neg_ℤ (pos n)) (mul-zero (suc a)) ∙ ap pos (sym (mul-zero (suc a)))
signed_mul true (suc a) true (suc b) = refl

-- ---- fma of finite values is one rounding of the exact sum: its sign S and its size M
pub record Rounds (x y z : Float) : Type 0 where
  pub S : Bool
  pub M : ℕ
  pub is : fma32 x y z ≡ round binary32 S M (exact_den x y z)
  pub exact : signed S M ≡ exact_num x y z
  pub at_zero : M ≡ 0 → S ≡ unlike (negative_of x) (negative_of y) && negative_of z

pub fma_rounds : (x y z : Float) → T (finite x) → T (finite y) → T (finite z) → Rounds x y z
unfolding fma_of exact_num exact_den negative_of
fma_rounds (fin s m e) (fin t n d) (fin u o g) X Y Z =
    let A = m * up e * (n * up d) * down g in
    let C = o * up g * (down e * down d) in
    record {
      S = sum_sign (unlike s t) A u C;
      M = sum_size (unlike s t) A u C;
      is = sum_rounds binary32 (unlike s t) A u C (down e * down d * down g);
      exact =
          sum_signed (unlike s t) A u C
          ∙ sym (ap₂ (λ (a b : ℤ). a +ℤ b)
          (ap (λ (k : ℤ). k *ℤ pos (down g)) (signed_mul s (m * up e) t (n * up d)) ∙ signed_times (unlike s t) (m * up e * (n * up d)) (down g))
          (signed_times u (o * up g) (down e * down d)));
      at_zero = zero_sign (unlike s t) A u C;
    }
fma_rounds nan y z X Y Z = absurd X
fma_rounds (inf s) y z X Y Z = absurd X
fma_rounds (fin s m e) nan z X Y Z = absurd Y
fma_rounds (fin s m e) (inf t) z X Y Z = absurd Y
fma_rounds (fin s m e) (fin t n d) nan X Y Z = absurd Z
fma_rounds (fin s m e) (fin t n d) (inf u) X Y Z = absurd Z

pub exact_den_pos : (x y z : Float) → 0 < exact_den x y z
unfolding exact_den
exact_den_pos x y z = mul-pos (mul-pos (den_pos x) (den_pos y)) (den_pos z)

-- ---- signs
odd_sign : (d : ℕ) (s : Bool) (q k l : ℕ) → negative_of (odd d s q k l) ≡ s
unfolding odd negative_of
odd_sign d s zero k l = refl
odd_sign d s (suc q) k l = refl

units_sign : (f : Format) (s : Bool) (q k : ℕ) → negative_of (units f s q k) ≡ s
unfolding units negative_of
units_sign f s q k = go (ltb (q * 2 ^ k) (2 ^ (low f + suc (emax f))))
  where
    go : (b : Bool) → negative_of (cond b (odd (suc (prec f)) s q k (low f)) (inf s)) ≡ s
    go true = odd_sign (suc (prec f)) s q k (low f)
    go false = refl

pub round_sign : (f : Format) (s : Bool) (a b : ℕ) → negative_of (round f s a b) ≡ s
round_sign f s a b = ap negative_of (round_is f s a b) ∙ units_sign f s (kept (prec f) (a * 2 ^ low f) b) (drop (prec f) (a * 2 ^ low f) b)

-- ---- the laws
module _ (x y z : Float) (X : T (finite x)) (Y : T (finite y)) (Z : T (finite z)) where
  pub fma_nearest : T (finite (fma32 x y z)) → NearestTo binary32 (exact_num x y z) (exact_den x y z) (fma32 x y z)
  fma_nearest h =
      let r = fma_rounds x y z X Y Z in
      subst (λ (v : Float). NearestTo binary32 (exact_num x y z) (exact_den x y z) v) (sym r.is)
      (subst (λ (k : ℤ). NearestTo binary32 k (exact_den x y z) (round binary32 r.S r.M (exact_den x y z))) r.exact
      (round_nearest binary32 r.S r.M (exact_den x y z) (exact_den_pos x y z) (subst (λ (v : Float). T (finite v)) r.is h)))

  -- an exact zero
  pub fma_zero : exact_num x y z ≡ pos 0 → fma32 x y z ≡ fin (unlike (negative_of x) (negative_of y) && negative_of z) 0 (pos 0)
  fma_zero h =
      let r = fma_rounds x y z X Y Z in
      let m : r.M ≡ 0 = sym (abs_signed r.S r.M) ∙ ap nat_abs (r.exact ∙ h) in
      r.is ∙ ap₂ (λ (s : Bool) (a : ℕ). round binary32 s a (exact_den x y z)) (r.at_zero m) m
      ∙ round_zero binary32 (unlike (negative_of x) (negative_of y) && negative_of z) (exact_den x y z) (exact_den_pos x y z)

  -- any other sum: above 0 and below
  pub fma_positive : (n : ℕ) → exact_num x y z ≡ pos (suc n) → negative_of (fma32 x y z) ≡ false
  fma_positive n h =
      let r = fma_rounds x y z X Y Z in ap negative_of r.is ∙ round_sign binary32 r.S r.M (exact_den x y z) ∙ plus r.S r.M (r.exact ∙ h)
    where
      plus : (s : Bool) (a : ℕ) → signed s a ≡ pos (suc n) → s ≡ false
      plus false a e = refl
      plus true zero e = cc
      plus true (suc a) e = cc

  pub fma_negative : (n : ℕ) → exact_num x y z ≡ negsuc n → negative_of (fma32 x y z) ≡ true
  fma_negative n h =
      let r = fma_rounds x y z X Y Z in ap negative_of r.is ∙ round_sign binary32 r.S r.M (exact_den x y z) ∙ minus r.S r.M (r.exact ∙ h)
    where
      minus : (s : Bool) (a : ℕ) → signed s a ≡ negsuc n → s ≡ true
      minus true a e = refl
      minus false a e = cc

-- ---- fma(x, 1, z) is x + z, for every x and z
one_is : one32 ≡ fin false 1 (pos 0)
unfolding of_bits
one_is = refl

by_one : (x z : Float) → fma32 x (fin false 1 (pos 0)) z ≡ x ⊕ z
unfolding fma_of add mul
by_one nan z = refl
by_one (inf s) z = ap (λ (t : Bool). add binary32 (inf t) z) (like s)
by_one (fin s m e) nan = refl
by_one (fin s m e) (inf u) = refl
by_one (fin s m e) (fin u o g) =
    let a : m * up e * (1 * 1) * down g ≡ m * up e * down g = ap (λ (n : ℕ). n * down g) (mul-one (m * up e)) in
    let d : down e * 1 ≡ down e = mul-one (down e) in
    ap₂ (λ (t : Bool) (n : ℕ). sum binary32 t n u (o * up g * (down e * 1)) (down e * 1 * down g)) (like s) a
    ∙ ap (λ (n : ℕ). sum binary32 s (m * up e * down g) u (o * up g * n) (n * down g)) d

pub fma_one : (x z : Float) → fma32 x one32 z ≡ x ⊕ z
fma_one x z = ap (λ (y : Float). fma32 x y z) one_is ∙ by_one x z
