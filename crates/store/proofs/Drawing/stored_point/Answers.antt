-- `store::Drawing::stored_point` meets its contract: three reads. Assumes nothing.
use lib.Ieee.{of_bits}
use Rattle.store.specs.Columns.{stored_point_of}
use Rattle.store.proofs.Drawing.stored_point.Goals as goal

pub returns : goal.returns
unfolding stored_point_of of_bits
returns c = rw (c.read-x.ensures, c.read-y.ensures, c.read-weight.ensures)
