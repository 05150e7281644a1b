-- `spline_list::fill` meets its contract: where the lengths agree, there is a row for each record. Assumes nothing.
use mathlib.Core.Path.{sym, ◌∙◌}
use Rattle.tables.specs.Lent.{splines_of}
use Rattle.spline_list.proofs.Agreed.{reached}
use Rattle.spline_list.proofs.fill.Goals as goal

pub returns-clause-filled : goal.returns-clause-filled
returns-clause-filled c =
    let agreed = sym c.agree.ensures ∙ c.if-not-agree.false in
    rw (agreed, ← reached c.args.list.now (splines_of c.args.columns.now) agreed c.loop-i.auto.i-end c.loop-i-test.false) c.loop-i.invariant
