-- `leaves::small::less` meets its contract. Assumes nothing.
use mathlib.Core.Path.{refl, ap₂, ◌∙◌}
use mathlib.Core.Bool.{Bool, true, false, not, ◌&&◌}
use lib.Ieee.{eq}
use Rattle.leaves.proofs.Signs.{less_is}
use Rattle.leaves.proofs.small.less.Goals as goal

pub returns-then-a-b : goal.returns-then-a-b
returns-then-a-b c = let a = c.args in less_is a.a a.b true (eq a.a a.b) c.if-a-b.true refl

pub returns-then-a-b-2 : goal.returns-then-a-b-2
returns-then-a-b-2 c =
    let a = c.args in
    ap₂ (λ (p q : Bool). p && not q) c.negative.ensures c.negative-then-a-b-2.ensures
    ∙ less_is a.a a.b false true c.if-a-b.false c.if-a-b-2.true

pub returns : goal.returns
returns c = let a = c.args in less_is a.a a.b false false c.if-a-b.false c.if-a-b-2.false
