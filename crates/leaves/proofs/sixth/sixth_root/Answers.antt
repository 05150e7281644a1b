-- `leaves::sixth::sixth_root` meets its contract. Assumes nothing.
use mathlib.Core.Path.{◌≡◌, refl, ap₂, ◌∙◌}
use mathlib.Core.Bool.{true, false}
use Prim.Native.Nat.{ℕ, ◌*◌, ◌^◌}
use lib.Dec.{leb}
use lib.Ieee.{binary32, nan, to_bits, lt, of_bits}
use Rattle.rounding.specs.Parts.{sig, place}
use Rattle.rounding.specs.Roots.{root, cut_to}
use Rattle.leaves.proofs.Comparisons.{plain, zero_is, above, under, level, held, sig_pos, bits_value}
use Rattle.leaves.proofs.SixthParts.{root_value, at_infinity, at_zero, elsewhere}
use Rattle.leaves.proofs.sixth.sixth_root.Goals as goal

nan_is : of_bits binary32 0x7fc0_0000 ≡ nan
unfolding of_bits
nan_is = refl

pub of-requires : goal.of-requires
of-requires c =
    let x = c.args.q in
    sig_pos x (held x c.well_formed.0.1) (above x true c.if-q.true) (under x true c.if-q-2.true)

pub returns-then-q-2 : goal.returns-then-q-2
returns-then-q-2 c =
    let x = c.args.q in
    let b = to_bits binary32 x in
    let h : lt plain x ≡ true = above x true c.if-q.true in
    c.sixth_root.ensures
    ∙ ap₂ (λ (m e : ℕ). cut_to binary32 (root 6 (m * 2 ^ e * 2 ^ 745))) c.of.ensures.0 c.of.ensures.1
    ∙ root_value x (leb 2147483648 b) (sig binary32 b * 2 ^ place binary32 b) h
    (bits_value x (held x c.well_formed.0.1) h (under x true c.if-q-2.true))

pub returns-then-q : goal.returns-then-q
returns-then-q c = let x = c.args.q in at_infinity x (above x true c.if-q.true) (under x false c.if-q-2.false)

pub returns-then-q-3 : goal.returns-then-q-3
returns-then-q-3 c = let x = c.args.q in zero_is ∙ at_zero x (level x true c.if-q-3.true)

pub returns : goal.returns
returns c =
    let x = c.args.q in nan_is ∙ elsewhere x (above x false c.if-q.false) (level x false c.if-q-3.false)
