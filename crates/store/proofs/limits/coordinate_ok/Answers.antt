-- `store::limits::coordinate_ok` meets its contract: the constants are the definition's bits. Assumes nothing.
use Rattle.std.proofs.Common.{rules, tests}
use lib.Ieee.{neg, of_bits}
use Rattle.store.specs.Drawing.{coordinate_ok_of}
use Rattle.store.proofs.limits.coordinate_ok.Goals as goal

pub returns-in-fminus65536p0-to-f65536p0 : goal.returns-in-fminus65536p0-to-f65536p0
unfolding coordinate_ok_of neg of_bits
returns-in-fminus65536p0-to-f65536p0 c = search (rules, tests)

pub returns-in_default : goal.returns-in_default
unfolding coordinate_ok_of neg of_bits
returns-in_default c = search (rules, tests)
