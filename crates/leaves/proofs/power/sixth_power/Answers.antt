-- `leaves::power::sixth_power` meets its contract. The invariant: p holds the power of s that is reached. Assumes nothing.
use Rattle.leaves.proofs.LimbLaws.{room}
use Rattle.leaves.specs.Power.{number}
use Rattle.leaves.proofs.power.sixth_power.Goals as goal

pub times-requires : goal.times-requires
times-requires c = record { limbs = c.loop.invariant.0; product_bound = room (number c.loop.p) c.args.s c.loop.counter c.requires c.loop-test.true c.loop.invariant.1 }
