-- `plot::spot` meets its contract. Assumes nothing.
use mathlib.Core.Path.{sym, ◌∙◌}
use Rattle.plot.proofs.Spots.{no_x, no_y, both}
use Rattle.plot.proofs.spot.Goals as goal

pub returns-in_err-px : goal.returns-in_err-px
returns-in_err-px c = c.from_residual.ensures ∙ no_x _ _ (sym c.whole.ensures ∙ c.in_err-px.was)

pub returns-in_err-py : goal.returns-in_err-py
returns-in_err-py c = c.from_residual-in_err-py.ensures ∙ no_y _ _ (sym c.whole-2.ensures ∙ c.in_err-py.was)

pub returns : goal.returns
returns c = both _ _ _ _ (sym c.whole.ensures ∙ c.in_ok-px.was) (sym c.whole-2.ensures ∙ c.in_ok-py.was)
