-- `store::reading::stored_ok` meets its contract: the constants are the definition's bits. Assumes nothing.
use Rattle.std.proofs.Common.{rules, tests}
use lib.Ieee.{neg, of_bits}
use Rattle.store.specs.Drawable.{stored_ok_of}
use Rattle.store.proofs.reading.stored_ok.Goals as goal

pub returns-in-fminus4194304p0-to-f4194304p0 : goal.returns-in-fminus4194304p0-to-f4194304p0
unfolding stored_ok_of neg of_bits
returns-in-fminus4194304p0-to-f4194304p0 c = search (rules, tests)

pub returns-in_default : goal.returns-in_default
unfolding stored_ok_of neg of_bits
returns-in_default c = search (rules, tests)
