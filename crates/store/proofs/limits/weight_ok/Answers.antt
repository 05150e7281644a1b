-- `store::limits::weight_ok` meets its contract: the constants are the definition's bits. Assumes nothing.
use Rattle.std.proofs.Common.{rules, tests}
use lib.Ieee.{of_bits}
use Rattle.store.specs.Drawing.{weight_ok_of}
use Rattle.store.proofs.limits.weight_ok.Goals as goal

pub returns-in-f0p015625-to-f64p0 : goal.returns-in-f0p015625-to-f64p0
unfolding weight_ok_of of_bits
returns-in-f0p015625-to-f64p0 c = search (rules, tests)

pub returns-in_default : goal.returns-in_default
unfolding weight_ok_of of_bits
returns-in_default c = search (rules, tests)
