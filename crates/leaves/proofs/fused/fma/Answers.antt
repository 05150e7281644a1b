-- `leaves::fused::fma` meets its contract. Assumes nothing.
use mathlib.Core.Path.{◌≡◌, sym, subst}
use mathlib.Core.Bool.{Bool, not, ◌&&◌}
use Prim.Native.Nat.{ℕ, ◌+◌, ◌*◌, ◌/◌, ◌<◌}
use native.Mathlib.Omega.{arith}
use lib.Dec.{T}
use lib.Ieee.{Float, binary32, binary64, mul, fits, is_nan, to_bits, of_bits}
use lib.Ieee.Fits.{and_i, add-fits}
use lib.Ieee.Bits.{to_bits-lt, nan_bits_is}
use Rattle.rounding.proofs.Double.{Clear, shorter}
use Rattle.leaves.specs.Fma.{fma32}
use Rattle.leaves.proofs.Comparisons.{held}
use Rattle.leaves.proofs.Fits.{fma_fits}
use Rattle.leaves.proofs.FastFma.{total, fast, fast_zero, shorter_no_nan}
use Rattle.leaves.proofs.fused.fma.Goals as goal

-- what equals a * b + c is an f32, so the way back is exact
narrows : (a b c v : Float) → v ≡ fma32 a b c → T (not (is_nan v)) → T (fits binary32 v && not (is_nan v))
narrows a b c v e n = and_i (fits binary32 v) (not (is_nan v)) (subst (λ (x : Float). T (fits binary32 x)) (sym e) (fma_fits a b c)) n

-- ---- the sum's 53 digits, rounded to 24
room : (a b c : Float) → Clear (to_bits binary64 (total a b c)) → to_bits binary64 (total a b c) + 268435456 < 18446744073709551616
room a b c k = last (to_bits binary64 (total a b c)) (to_bits-lt binary64 (total a b c) (add-fits binary64 (mul binary64 a b) c)) k
  where
    last : (u : ℕ) → u < 18446744073709551616 → Clear u → u + 268435456 < 18446744073709551616
    last u h k = omega (arith, k.to)

-- ---- a zero
pub returns-then-u-eq0 : goal.returns-then-u-eq0
returns-then-u-eq0 c =
    let a = c.args in
    let w = c.well_formed in
    fast_zero a.a a.b a.c (held a.a w.0.1) (held a.b w.1.0.1) (held a.c w.1.1.0.1) c.if-is_nan-4.ensures.not_nan c.if-u-eq0.true

pub float_to_float-result : goal.float_to_float-result
float_to_float-result c =
    let a = c.args in
    narrows a.a a.b a.c (total a.a a.b a.c) (let w = c.well_formed in fast_zero a.a a.b a.c (held a.a w.0.1) (held a.b w.1.0.1) (held a.c w.1.1.0.1) c.if-is_nan-4.ensures.not_nan c.if-u-eq0.true) c.if-is_nan-4.ensures.not_nan

pub overflow_add-result : goal.overflow_add-result
overflow_add-result c = let a = c.args in record { fits = room a.a a.b a.c (record { from = c.if-e-lt898.false; to = c.if-e-gt1149.false; no_tie = c.if-u-eq268435456.false }) }

pub overflow_mul-result : goal.overflow_mul-result
overflow_mul-result c =
    let a = c.args in record { fits = low (to_bits binary64 (total a.a a.b a.c)) (room a.a a.b a.c (record { from = c.if-e-lt898.false; to = c.if-e-gt1149.false; no_tie = c.if-u-eq268435456.false })) }
  where
    low : (u : ℕ) → u + 268435456 < 18446744073709551616 → (u + 268435456) / 536870912 * 536870912 < 18446744073709551616
    low u h = omega arith

pub float_from_bits-result : goal.float_from_bits-result
float_from_bits-result c = let a = c.args in shorter_no_nan (to_bits binary64 (total a.a a.b a.c)) (record { from = c.if-e-lt898.false; to = c.if-e-gt1149.false; no_tie = c.if-u-eq268435456.false })

pub returns : goal.returns
returns c =
    let a = c.args in
    let w = c.well_formed in
    fast a.a a.b a.c (held a.a w.0.1) (held a.b w.1.0.1) (held a.c w.1.1.0.1) c.if-is_nan-4.ensures.not_nan
    (record { from = c.if-e-lt898.false; to = c.if-e-gt1149.false; no_tie = c.if-u-eq268435456.false })

pub float_to_float-result-2 : goal.float_to_float-result-2
float_to_float-result-2 c =
    let a = c.args in
    let u = to_bits binary64 (total a.a a.b a.c) in
    narrows a.a a.b a.c (of_bits binary64 (shorter u)) (let w = c.well_formed in fast a.a a.b a.c (held a.a w.0.1) (held a.b w.1.0.1) (held a.c w.1.1.0.1) c.if-is_nan-4.ensures.not_nan (record { from = c.if-e-lt898.false; to = c.if-e-gt1149.false; no_tie = c.if-u-eq268435456.false }))
    (subst (λ (b : Bool). T (not b)) (nan_bits_is binary64 (shorter u))
    (shorter_no_nan u (record { from = c.if-e-lt898.false; to = c.if-e-gt1149.false; no_tie = c.if-u-eq268435456.false })))
