-- `replay::put` meets its contract: what is left of the column is laid after what already is. Assumes nothing.
use Rattle.std.proofs.Common.{◌<◌, ap, ◌∙◌, arith}
use Rattle.std.proofs.Math.ListN.{length-take}
use Rattle.std.proofs.Math.Seq.{get_or-take}
use Rattle.replay.proofs.Laying.{lay_on, lay_all}
use Rattle.replay.proofs.numbers.put.Goals as goal

pub loop-i-preserved : goal.loop-i-preserved
loop-i-preserved g c =
    let column = c.args.column.now in
    let k : c.loop-i.i < c.min.result = omega (arith, c.loop-i-test.true, length-take c.min.result column) in
    lay_on g.T.Entry.number_of _ _ _ _ _ _ c.loop-i.invariant c.v-item.result _ _
    (omega (arith, k, c.min.ensures)) (omega (arith, k, c.min.ensures)) c.put_number.ensures
    (c.number.ensures ∙ ap g.T.Entry.number_of (c.v-item.is ∙ get_or-take c.min.result column c.loop-i.i c.v-item.result k))

pub returns : goal.returns
returns g c =
    lay_all g.T.Entry.number_of _ _ _ _ _ _ c.loop-i.invariant
    (omega (arith, c.loop-i-test.false, c.min.ensures, length-take c.min.result c.args.column.now))
