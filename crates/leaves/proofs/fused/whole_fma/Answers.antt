-- `leaves::fused::whole_fma` meets its contract. Assumes nothing.
use mathlib.Core.Path.{◌≡◌, sym, ◌∙◌}
use mathlib.Core.Bool.{true}
use lib.Ieee.Scale.{finite}
use Rattle.leaves.proofs.FmaParts.{fma_bits_lem, first_not, second_not, third_not}
use Rattle.leaves.proofs.Comparisons.{held, finite_no_nan}
use Rattle.leaves.proofs.fused.whole_fma.Lts as lts
use Rattle.leaves.proofs.fused.whole_fma.Reads as reads
use Rattle.leaves.proofs.fused.whole_fma.Tie as tie
use Rattle.leaves.proofs.fused.whole_fma.Goals as goal

abbrev Else-not-finite : Type 0
Else-not-finite = lts.Else1 tie.the-claims reads.Pre reads.Post

abbrev Else-not-finite-2 : Type 0
Else-not-finite-2 = lts.Else2 tie.the-claims reads.Pre reads.Post

abbrev Else-not-finite-3 : Type 0
Else-not-finite-3 = lts.Else3 tie.the-claims reads.Pre reads.Post

-- the three tests' outcomes
first : (c : Else-not-finite) → finite c.args.a ≡ true
first c = sym c.finite.ensures ∙ c.if-not-finite.false

second : (c : Else-not-finite-2) → finite c.args.b ≡ true
second c = sym c.finite-2.ensures ∙ c.if-not-finite-2.false

third : (c : Else-not-finite-3) → finite c.args.c ≡ true
third c = sym c.finite-3.ensures ∙ c.if-not-finite-3.false

pub returns-then-not-finite : goal.returns-then-not-finite
returns-then-not-finite c =
    let a = c.args in
    first_not a.a a.b a.c (sym c.finite.ensures ∙ c.if-not-finite.true)

pub returns-then-not-finite-2 : goal.returns-then-not-finite-2
returns-then-not-finite-2 c =
    let a = c.args in
    second_not a.a a.b a.c (first c.before.before) (sym c.finite-2.ensures ∙ c.if-not-finite-2.true)

pub returns-then-not-finite-3 : goal.returns-then-not-finite-3
returns-then-not-finite-3 c =
    let a = c.args in
    third_not a.a a.b a.c (first c.before.before.before.before) (second c.before.before)
    (sym c.finite-3.ensures ∙ c.if-not-finite-3.true)

pub float_to_bits-a : goal.float_to_bits-a
float_to_bits-a c = finite_no_nan c.args.a (first c.before.before.before.before)

pub float_to_bits-b : goal.float_to_bits-b
float_to_bits-b c = finite_no_nan c.args.b (second c.before.before)

pub float_to_bits-c : goal.float_to_bits-c
float_to_bits-c c = finite_no_nan c.args.c (third c)

pub returns : goal.returns
returns c =
    let a = c.args in
    c.fma_bits.ensures
    ∙ fma_bits_lem a.a a.b a.c (held a.a c.well_formed.0.1) (held a.b c.well_formed.1.0.1) (held a.c c.well_formed.1.1.0.1)
    (first c.before.before.before.before.before) (second c.before.before.before) (third c.before)
