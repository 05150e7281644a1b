-- `leaves::small::min` meets its contract. Assumes nothing.
use mathlib.Core.Path.{refl, sym, ◌∙◌}
use mathlib.Core.Bool.{true, false}
use Rattle.leaves.specs.Small.{less_of}
use Rattle.leaves.proofs.Signs.{min_is}
use Rattle.leaves.proofs.small.min.Goals as goal

pub returns-then-is_nan : goal.returns-then-is_nan
returns-then-is_nan c = let a = c.args in min_is a.a a.b true (less_of a.b a.a) (sym c.is_nan.ensures.value ∙ c.if-is_nan.true) refl

pub returns-then-less : goal.returns-then-less
returns-then-less c =
    let a = c.args in min_is a.a a.b false true (sym c.is_nan.ensures.value ∙ c.if-is_nan.false) (sym c.less.ensures ∙ c.if-less.true)

pub returns-else-less : goal.returns-else-less
returns-else-less c =
    let a = c.args in min_is a.a a.b false false (sym c.is_nan.ensures.value ∙ c.if-is_nan.false) (sym c.less.ensures ∙ c.if-less.false)
