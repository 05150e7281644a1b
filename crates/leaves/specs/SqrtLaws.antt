-- RULES, Numbers 4: IEEE 754's squareRoot in binary32, in the standard's words and not by a computation: what r has to be, for r to be the root
-- of x. For any f32 x exactly one r obeys: `sqrt32 x` (`sqrt_lawful` and `sqrt_only`, leaves/proofs/SqrtOnly). Nothing overflows. The
-- numbers are the standard's clauses. Assumes nothing.
use Rattle.std.specs.Prelude.{◌≡◌, false, not, T, Float}
use Rattle.std.specs.Float.{nan, inf, binary32}
use Rattle.std.specs.Float.Ieee.{is_nan, fits}
use Rattle.std.specs.Float.Ieee.Scale.{finite}
use Rattle.leaves.specs.Small.{negative_of, is_zero}
use Rattle.leaves.specs.Sqrt.{NearestRoot}

pub record SqrtLaws (x r : Float) : Type 0 where
  pub held : T (fits binary32 r)
  -- 6.2 and 7.2: a NaN, and what is less than zero, -infinity too
  pub no_number : T (is_nan x) → r ≡ nan
  pub below_zero : T (negative_of x) → T (not (is_zero x)) → r ≡ nan
  -- 5.4.1: a zero is its own root, with its sign
  pub zeros : T (is_zero x) → r ≡ x
  pub infinite : x ≡ inf false → r ≡ inf false
  -- any other root is positive. It never lies in the middle between two f32, so no rule for ties is needed
  pub root : T (finite x) → T (not (is_zero x)) → T (not (negative_of x)) → NearestRoot x r
