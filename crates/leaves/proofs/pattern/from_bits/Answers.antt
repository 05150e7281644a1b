-- `leaves::pattern::from_bits` meets its contract. Assumes nothing.
use mathlib.Core.Path.{◌≡◌, refl, sym, ◌∙◌, subst}
use mathlib.Core.Bool.{Bool}
use Prim.Native.Nat.{ℕ, ◌%◌}
use mathlib.Core.Bool.{not}
use lib.Dec.{T}
use borrow.Author.Tests.{lt-ltb, le-ltb}
use lib.Ieee.{nan, binary32, of_bits}
use lib.Ieee.Bits.{nan_bits_is, nan_bits_above}
use Rattle.leaves.specs.Bits.{float_of}
use Rattle.leaves.proofs.Signs.{is_nan_lem}
use Rattle.leaves.proofs.pattern.from_bits.Goals as goal

nan_is : of_bits binary32 0x7fc0_0000 ≡ nan
unfolding of_bits
nan_is = refl

float_is : (b : ℕ) → of_bits binary32 b ≡ float_of b
unfolding float_of
float_is b = refl

pub returns-then-b-gt2139095040 : goal.returns-then-b-gt2139095040
returns-then-b-gt2139095040 c =
    let b = c.args.b in
    nan_is
    ∙ sym (is_nan_lem (of_bits binary32 b) (sym (nan_bits_is binary32 b) ∙ nan_bits_above binary32 b ∙ lt-ltb 2139095040 (b % 2147483648) c.if-b-gt2139095040.true))
    ∙ float_is b

pub float_from_bits-result : goal.float_from_bits-result
float_from_bits-result c =
    let b = c.args.b in
    subst (λ (t : Bool). T (not t)) (sym (nan_bits_above binary32 b ∙ le-ltb 2139095040 (b % 2147483648) c.if-b-gt2139095040.false)) tt

pub returns : goal.returns
returns c = float_is c.args.b
