-- `leaves::power::times` meets its contract. Assumes nothing.
use Rattle.leaves.proofs.LimbLaws.{top_fits, fourth, times_is}
use Rattle.leaves.proofs.power.times.Goals as goal

pub overflow_mul-d : goal.overflow_mul-d
overflow_mul-d c =
    record { fits = top_fits c.args.p.now c.args.s c.requires.limbs c.ranges.s.fits c.requires.product_bound }

pub overflow_add-d : goal.overflow_add-d
overflow_add-d c = record { fits = fourth c.args.p.now c.args.s c.requires.limbs c.ranges.s.fits c.requires.product_bound }

pub returns : goal.returns
returns c = times_is c.args.p.now c.args.s c.requires.limbs.size
