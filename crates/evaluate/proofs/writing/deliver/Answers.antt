-- `evaluate::writing::deliver` meets its contract: the walk's length is tested before anything is written. Assumes nothing.
use mathlib.Core.Path.{sym, ◌∙◌}
use Rattle.evaluate.proofs.Passes.{delivered_not, delivered}
use Rattle.evaluate.proofs.writing.deliver.Goals as goal

pub returns-then-not-holds-clause-delivered : goal.returns-then-not-holds-clause-delivered
returns-then-not-holds-clause-delivered c = delivered_not _ _ _ _ _ c.walk_length-length.ensures (sym c.holds.ensures ∙ c.if-not-holds.true)

pub returns-clause-delivered : goal.returns-clause-delivered
returns-clause-delivered c =
    delivered _ _ _ _ _ c.walk_length-length.ensures (sym c.holds.ensures ∙ c.if-not-holds.false) c.write_walk.ensures.written
