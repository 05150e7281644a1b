-- `leaves::power::start` meets its contract. Assumes nothing.
use Rattle.leaves.proofs.LimbLaws.{start_is}
use Rattle.leaves.proofs.power.start.Goals as goal

pub returns : goal.returns
returns c = start_is c.args.p.now c.args.s c.told-p c.ranges.s.fits
