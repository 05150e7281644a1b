-- `leaves::small::abs` meets its contract. Assumes nothing.
use mathlib.Core.Path.{sym, ◌∙◌}
use mathlib.Core.Bool.{true, false}
use Rattle.leaves.proofs.Signs.{abs_is}
use Rattle.leaves.proofs.small.abs.Goals as goal

pub returns-then-negative : goal.returns-then-negative
returns-then-negative c = abs_is c.args.x true (sym c.negative.ensures ∙ c.if-negative.true)

pub returns-else-negative : goal.returns-else-negative
returns-else-negative c = abs_is c.args.x false (sym c.negative.ensures ∙ c.if-negative.false)
