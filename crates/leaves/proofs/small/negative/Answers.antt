-- `leaves::small::negative` meets its contract. Assumes nothing.
use mathlib.Core.Path.{sym, ◌∙◌}
use Rattle.leaves.proofs.Comparisons.{held}
use Rattle.leaves.proofs.Signs.{sign_of, unsigned_nan}
use Rattle.leaves.proofs.small.negative.Goals as goal

pub returns-then-is_nan : goal.returns-then-is_nan
returns-then-is_nan c = unsigned_nan c.args.x (sym c.is_nan.ensures.value ∙ c.if-is_nan.true)

pub returns : goal.returns
returns c =
    let x = c.args.x in
    c.minus.ensures ∙ sign_of x (held x c.well_formed.0.1) c.if-is_nan.ensures.not_nan
