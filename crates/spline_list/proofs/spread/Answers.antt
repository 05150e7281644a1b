-- `spline_list::spread` meets its contract: where the lengths agree, there is a row for each record. Assumes nothing.
use mathlib.Core.Path.{◌≡◌, sym, ◌∙◌, ap}
use mathlib.Core.Bool.{true}
use Rattle.tables.specs.Tables.{SplineTable}
use Rattle.tables.specs.Lent.{splines_mut_of}
use Rattle.spline_list.specs.Rows.{equal_of}
use Rattle.spline_list.proofs.Agreed.{reached}
use Rattle.spline_list.proofs.spread.Goals as goal

pub returns-clause-put : goal.returns-clause-put
returns-clause-put c =
    let t = splines_mut_of c.args.columns.now in
    let agreed : equal_of c.args.list.now t c.args.n ≡ true =
    ap (λ (s : SplineTable). equal_of c.args.list.now s c.args.n) (sym c.view.ensures) ∙ sym c.agree.ensures ∙ c.if-not-agree.false in
    rw (agreed, ← reached c.args.list.now t agreed c.loop-i.auto.i-end c.loop-i-test.false) c.loop-i.invariant.put
