-- `leaves::root::sqrt` meets its contract. Assumes nothing.
use mathlib.Core.Path.{◌≡◌, refl, ap₂, ◌∙◌}
use mathlib.Core.Bool.{true, false}
use Prim.Native.Nat.{ℕ, ◌*◌, ◌^◌}
use lib.Dec.{leb}
use lib.Ieee.{binary32, nan, lt, to_bits, of_bits}
use Rattle.rounding.specs.Parts.{sig, place}
use Rattle.rounding.specs.Roots.{rooted}
use Rattle.leaves.proofs.Comparisons.{plain, above, under, level, held, sig_pos, bits_value}
use Rattle.leaves.proofs.RootParts.{root_value, at_infinity, at_zero, elsewhere}
use Rattle.leaves.proofs.root.sqrt.Goals as goal

nan_is : of_bits binary32 0x7fc0_0000 ≡ nan
unfolding of_bits
nan_is = refl

pub of-requires : goal.of-requires
of-requires c =
    let x = c.args.x in
    sig_pos x (held x c.well_formed.0.1) (above x true c.if-x.true) (under x true c.if-x-2.true)

pub returns-then-x-2 : goal.returns-then-x-2
returns-then-x-2 c =
    let x = c.args.x in
    let b = to_bits binary32 x in
    let h : lt plain x ≡ true = above x true c.if-x.true in
    c.root.ensures
    ∙ ap₂ (λ (m e : ℕ). rooted binary32 (m * 2 ^ e * 2 ^ 149)) c.of.ensures.0 c.of.ensures.1
    ∙ root_value x (leb 2147483648 b) (sig binary32 b * 2 ^ place binary32 b) h
    (bits_value x (held x c.well_formed.0.1) h (under x true c.if-x-2.true))

pub returns-then-x : goal.returns-then-x
returns-then-x c = let x = c.args.x in at_infinity x (above x true c.if-x.true) (under x false c.if-x-2.false)

pub returns-then-x-3 : goal.returns-then-x-3
returns-then-x-3 c = let x = c.args.x in at_zero x (level x true c.if-x-3.true)

pub returns : goal.returns
returns c =
    let x = c.args.x in nan_is ∙ elsewhere x (above x false c.if-x.false) (level x false c.if-x-3.false)
