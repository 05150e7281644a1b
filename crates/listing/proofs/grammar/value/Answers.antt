-- `listing::value` meets its contract: a NaN constant is the rules' NaN. Assumes nothing.
use lib.Ieee.{of_bits}
use Rattle.listing.proofs.grammar.value.Goals as goal

pub returns : goal.returns
unfolding of_bits
returns c = c.read.ensures
