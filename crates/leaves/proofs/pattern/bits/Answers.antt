-- `leaves::pattern::bits` meets its contract. Assumes nothing.
use mathlib.Core.Path.{◌≡◌, sym, ap, ◌∙◌}
use mathlib.Core.Bool.{Bool, true, false}
use lib.Ieee.{Float, binary32, is_nan, to_bits}
use mathlib.Core.Bool.{cond}
use Rattle.leaves.specs.Bits.{bits_of}
use Rattle.leaves.proofs.pattern.bits.Goals as goal

bits_is : (x : Float) (b : Bool) → is_nan x ≡ b → cond b 2143289344 (to_bits binary32 x) ≡ bits_of x
unfolding bits_of
bits_is x b h = ap (λ (t : Bool). cond t 2143289344 (to_bits binary32 x)) (sym h)

pub returns-then-is_nan : goal.returns-then-is_nan
returns-then-is_nan c = bits_is c.args.x true (sym c.is_nan.ensures.value ∙ c.if-is_nan.true)

pub returns : goal.returns
returns c = bits_is c.args.x false (sym c.is_nan.ensures.value ∙ c.if-is_nan.false)
