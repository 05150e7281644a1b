-- Laws of the small leaves: which float is the NaN, which bit is the sign, and `abs_of`, `less_of`, `min_of`, `max_of`, `clamp_of` by the tests that the code
-- makes. Assumes nothing.
use mathlib.Core.Path.{◌≡◌, refl, sym, ap, ap₂, ◌∙◌, subst}
use mathlib.Core.Bool.{Bool, true, false, not, ◌&&◌, ◌||◌, cond}
use Prim.Native.Nat.{ℕ, ◌+◌, ◌<◌, ◌≤◌}
use native.Mathlib.Nat.{le-add_right}
use native.Mathlib.Omega.{arith}
use borrow.Author.Tests.{le-leb, lt-leb}
use lib.IntN.{ℤ}
use lib.Dec.{T, leb}
use lib.Ieee.{Float, nan, inf, fin, Format, binary32, round, top, lt, eq, neg, fits, is_nan, to_bits}
use lib.Ieee.Fits.{neg-fits}
use lib.Ieee.Bits.{to_bits-lt}
use Rattle.rounding.proofs.Bounds.{Unsigned, round_unsigned, round_neg}
use Rattle.leaves.specs.Small.{negative_of, abs_of, less_of, min_of, max_of, clamp_of}

pub is_nan_lem : (x : Float) → is_nan x ≡ true → x ≡ nan
unfolding is_nan
is_nan_lem nan h = refl
is_nan_lem (inf s) h = cc
is_nan_lem (fin s m e) h = cc

-- ---- the sign's bit
sign_bit : (f : Format) (m : ℕ) (e : ℤ) → to_bits f (fin true m e) ≡ top f + to_bits f (fin false m e)
unfolding to_bits
sign_bit f m e = over (top f) _ _
  where
    over : (c a b : ℕ) → c + a + b ≡ c + (0 + a + b)
    over c a b = omega arith

fits_true : (f : Format) (m : ℕ) (e : ℤ) → T (fits f (fin false m e)) → T (fits f (fin true m e))
unfolding neg
fits_true f m e h = neg-fits f (fin false m e) h

pub sign_test : (s : Bool) (m : ℕ) (e : ℤ) → T (fits binary32 (fin s m e)) → leb 2147483648 (to_bits binary32 (fin s m e)) ≡ s
sign_test true m e h =
    le-leb 2147483648 (to_bits binary32 (fin true m e))
    (subst (λ (x : ℕ). 2147483648 ≤ x) (sym (sign_bit binary32 m e)) (le-add_right 2147483648 (to_bits binary32 (fin false m e))))
sign_test false m e h =
    lt-leb 2147483648 (to_bits binary32 (fin false m e))
    (half (to_bits binary32 (fin false m e))
    (subst (λ (x : ℕ). x < 4294967296) (sign_bit binary32 m e) (to_bits-lt binary32 (fin true m e) (fits_true binary32 m e h))))
  where
    half : (a : ℕ) → 2147483648 + a < 4294967296 → a < 2147483648
    half a l = omega arith

pub sign_of : (x : Float) → T (fits binary32 x) → T (not (is_nan x)) → leb 2147483648 (to_bits binary32 x) ≡ negative_of x
unfolding negative_of is_nan to_bits
sign_of nan F n = absurd n
sign_of (inf true) F n = refl
sign_of (inf false) F n = refl
sign_of (fin s m e) F n = sign_test s m e F

pub unsigned_nan : (x : Float) → is_nan x ≡ true → false ≡ negative_of x
unfolding negative_of
unsigned_nan x h = sym (ap negative_of (is_nan_lem x h))

-- ---- abs
pub abs_is : (x : Float) (b : Bool) → negative_of x ≡ b → cond b (neg x) x ≡ abs_of x
unfolding negative_of neg abs_of
abs_is nan true h = refl
abs_is nan false h = refl
abs_is (inf true) true h = refl
abs_is (inf true) false h = cc
abs_is (inf false) true h = cc
abs_is (inf false) false h = refl
abs_is (fin true m e) true h = refl
abs_is (fin true m e) false h = cc
abs_is (fin false m e) true h = cc
abs_is (fin false m e) false h = refl

-- ---- less, min, max, clamp
pub less_is : (x y : Float) (l e : Bool) → lt x y ≡ l → eq x y ≡ e → l || (e && (negative_of x && not (negative_of y))) ≡ less_of x y
unfolding less_of
less_is x y l e h k = ap₂ (λ (a b : Bool). a || (b && (negative_of x && not (negative_of y)))) (sym h) (sym k)

pub min_is : (x y : Float) (n l : Bool) → is_nan x ≡ n → less_of y x ≡ l → cond (n || l) y x ≡ min_of x y
unfolding min_of
min_is x y n l h k = ap₂ (λ (a b : Bool). cond (a || b) y x) (sym h) (sym k)

pub max_is : (x y : Float) (n l : Bool) → is_nan x ≡ n → less_of x y ≡ l → cond (n || l) y x ≡ max_of x y
unfolding max_of
max_is x y n l h k = ap₂ (λ (a b : Bool). cond (a || b) y x) (sym h) (sym k)

pub clamp_is : (x lo hi : Float) (t u : Bool) → lt x lo ≡ t → lt hi x ≡ u → cond t lo (cond u hi x) ≡ clamp_of x lo hi
unfolding clamp_of
clamp_is x lo hi t u h k = ap₂ (λ (a b : Bool). cond a lo (cond b hi x)) (sym h) (sym k)

-- ---- what is rounded has the sign it was given, so its size is what is rounded without
pub abs_neg : (x : Float) → abs_of (neg x) ≡ abs_of x
unfolding abs_of neg
abs_neg nan = refl
abs_neg (inf s) = refl
abs_neg (fin s m e) = refl

abs_same : (x : Float) → Unsigned x → abs_of x ≡ x
unfolding abs_of
abs_same nan u = refl
abs_same (inf s) u = ap inf (sym u)
abs_same (fin s m e) u = ap (λ (t : Bool). fin t m e) (sym u)

pub abs_round : (f : Format) (s : Bool) (a c : ℕ) → abs_of (round f s a c) ≡ round f false a c
abs_round f false a c = abs_same (round f false a c) (round_unsigned f a c)
abs_round f true a c = sym (abs_neg (round f true a c)) ∙ ap abs_of (round_neg f a c) ∙ abs_same (round f false a c) (round_unsigned f a c)
