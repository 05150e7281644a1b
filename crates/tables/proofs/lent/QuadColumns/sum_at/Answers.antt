-- `QuadColumns::sum_at` meets its contract: where the row is not whole both are a NaN. Assumes nothing.
use lib.Ieee.{of_bits}
use borrow.Author.Tests.{lt-ltb, le-ltb}
use Rattle.tables.specs.Tables.{number_at}
use Rattle.tables.proofs.lent.QuadColumns.sum_at.Goals as goal

pub returns-then-i-whole_rows : goal.returns-then-i-whole_rows
unfolding number_at
returns-then-i-whole_rows c = rw (lt-ltb _ _ (rw c.whole_rows.ensures at c.if-i-whole_rows.true))

pub returns : goal.returns
unfolding number_at of_bits
returns c = rw (le-ltb _ _ (rw c.whole_rows.ensures at c.if-i-whole_rows.false))
