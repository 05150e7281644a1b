-- `leaves::power::at_most` meets its contract. Assumes nothing.
use Rattle.leaves.proofs.LimbLaws.{low, high, level}
use Rattle.leaves.proofs.power.at_most.Goals as goal

pub returns-then-p-t : goal.returns-then-p-t
returns-then-p-t c = low c.args.p.now c.args.t c.requires c.if-p-t.true

pub returns-then-p-t-2 : goal.returns-then-p-t-2
returns-then-p-t-2 c = high c.args.p.now c.args.t c.if-p-t-2.true

pub returns : goal.returns
returns c =
    level c.args.p.now c.args.t c.if-p-t-2.false c.if-p-t.false
