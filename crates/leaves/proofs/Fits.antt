-- What each leaf gives of f32 values is an f32. Assumes nothing.
use mathlib.Core.Path.{sym, subst}
use mathlib.Core.Bool.{Bool, true, false, ◌||◌, cond}
use Prim.Native.Nat.{ℕ, zero, suc, ◌+◌, ◌-◌, ◌*◌, ◌/◌, ◌^◌}
use lib.IntN.{ℤ, pos}
use lib.Dec.{T}
use lib.Ieee.{Float, nan, inf, fin, Format, binary32, up, down, unlike, sum, neg, fits, is_nan, lt}
use lib.Ieee.Bits.{of_bits-fits}
use lib.Ieee.Fits.{round-fits, inf-fits, nan-fits, neg-fits, add-fits, cond-fits}
use Rattle.rounding.specs.Roots.{root, rooted}
use Rattle.rounding.proofs.Cuts.{cut_fits}
use Rattle.rounding.proofs.Packing.{units_in}
use Rattle.rounding.proofs.RootNearest.{kept_root, kept_root_digits, rooted_is}
use Rattle.rounding.specs.Sums.{sum_sign, sum_size}
use Rattle.rounding.proofs.Signed.{sum_rounds}
use Rattle.leaves.specs.Bits.{float_of}
use Rattle.leaves.specs.Fma.{fma32, fma_of}
use Rattle.leaves.specs.Sixth.{sixth_root_of}
use Rattle.leaves.specs.Small.{abs_of, less_of, min_of, max_of, clamp_of, ceil_of}
use Rattle.leaves.specs.Sqrt.{sqrt32, sqrt_of}
use lib.Ieee.{size}

sum_fits_lem : (f : Format) (s : Bool) (a : ℕ) (t : Bool) (b c : ℕ) → T (fits f (sum f s a t b c))
sum_fits_lem f s a t b c = subst (λ (x : Float). T (fits f x)) (sym (sum_rounds f s a t b c)) (round-fits f (sum_sign s a t b) (sum_size s a t b) c)

pub fma_fits : (x y z : Float) → T (fits binary32 (fma32 x y z))
unfolding fma_of
fma_fits nan y z = nan-fits binary32
fma_fits (inf s) y z = add-fits binary32 _ z
fma_fits (fin s m e) nan z = nan-fits binary32
fma_fits (fin s m e) (inf t) z = add-fits binary32 _ z
fma_fits (fin s m e) (fin t n d) nan = nan-fits binary32
fma_fits (fin s m e) (fin t n d) (inf u) = inf-fits binary32 u
fma_fits (fin s m e) (fin t n d) (fin u o g) =
    sum_fits_lem binary32 (unlike s t) (m * up e * (n * up d) * down g) u (o * up g * (down e * down d)) (down e * down d * down g)

rooted_fits : (n : ℕ) → T (fits binary32 (rooted binary32 n))
rooted_fits n =
    subst (λ (x : Float). T (fits binary32 x)) (sym (rooted_is binary32 n))
    (units_in binary32 false (kept_root binary32 n) (size (root 2 n) - 24) (kept_root_digits binary32 n))

pub sqrt_fits : (x : Float) → T (fits binary32 x) → T (fits binary32 (sqrt32 x))
unfolding sqrt_of
sqrt_fits nan h = h
sqrt_fits (inf true) h = nan-fits binary32
sqrt_fits (inf false) h = h
sqrt_fits (fin s zero e) h = h
sqrt_fits (fin true (suc m) e) h = nan-fits binary32
sqrt_fits (fin false (suc m) e) h = rooted_fits (suc m * up e * 2 ^ 149 * 2 ^ 149 / down e)

zero_fits : T (fits binary32 (fin false 0 (pos 0)))
unfolding fits
zero_fits = tt

pub sixth_root_fits : (q : Float) → T (fits binary32 (sixth_root_of q))
unfolding sixth_root_of
sixth_root_fits nan = nan-fits binary32
sixth_root_fits (inf true) = nan-fits binary32
sixth_root_fits (inf false) = inf-fits binary32 false
sixth_root_fits (fin s zero e) = zero_fits
sixth_root_fits (fin true (suc m) e) = nan-fits binary32
sixth_root_fits (fin false (suc m) e) = cut_fits binary32 (root 6 (suc m * up e * 2 ^ 894 / down e))

unsigned : (m : ℕ) (e : ℤ) → T (fits binary32 (fin true m e)) → T (fits binary32 (fin false m e))
unfolding neg
unsigned m e h = neg-fits binary32 (fin true m e) h

pub abs_fits : (x : Float) → T (fits binary32 x) → T (fits binary32 (abs_of x))
unfolding abs_of
abs_fits nan h = h
abs_fits (inf s) h = inf-fits binary32 false
abs_fits (fin false m e) h = h
abs_fits (fin true m e) h = unsigned m e h

pub min_fits : (x y : Float) → T (fits binary32 x) → T (fits binary32 y) → T (fits binary32 (min_of x y))
unfolding min_of
min_fits x y h k = cond-fits binary32 (is_nan x || less_of y x) y x k h

pub max_fits : (x y : Float) → T (fits binary32 x) → T (fits binary32 y) → T (fits binary32 (max_of x y))
unfolding max_of
max_fits x y h k = cond-fits binary32 (is_nan x || less_of x y) y x k h

pub clamp_fits : (x lo hi : Float) → T (fits binary32 x) → T (fits binary32 lo) → T (fits binary32 hi) → T (fits binary32 (clamp_of x lo hi))
unfolding clamp_of
clamp_fits x lo hi h k l = cond-fits binary32 (lt x lo) lo (cond (lt hi x) hi x) k (cond-fits binary32 (lt hi x) hi x l h)

pub ceil_fits : (x : Float) → T (fits binary32 (ceil_of x))
unfolding ceil_of
ceil_fits nan = nan-fits binary32
ceil_fits (inf s) = inf-fits binary32 s
ceil_fits (fin s m e) = round-fits binary32 s (cond s (m * up e / down e) ((m * up e + down e - 1) / down e)) 1

pub float_fits : (b : ℕ) → T (fits binary32 (float_of b))
unfolding float_of
float_fits b = of_bits-fits binary32 b
