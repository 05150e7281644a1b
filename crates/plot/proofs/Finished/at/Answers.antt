-- `plot::Finished::at` meets its contract. Assumes nothing.
use lib.Ieee.{of_bits}
use Rattle.plot.proofs.Finished.at.Goals as goal

pub returns : goal.returns
unfolding of_bits
returns c = rw (c.read.ensures, c.read-2.ensures)
