-- `SplineColumns::at` meets its contract, column by column. Assumes nothing.
use lib.Ieee.{of_bits}
use Rattle.tables.specs.Tables.{spline_at}
use Rattle.tables.proofs.lent.SplineColumns.at.Goals as goal

pub returns : goal.returns
unfolding spline_at of_bits
returns c =
    rw (
      ← c.read.ensures,
      ← c.read-2.ensures,
      ← c.read-3.ensures,
      ← c.read-4.ensures,
      ← c.read-5.ensures,
      ← c.read-6.ensures,
      ← c.is_flag.ensures,
      ← c.read-7.ensures,
      ← c.read-8.ensures,
    )
