-- `plot::writing::put_number` meets its contract. Assumes nothing.
use Rattle.plot.proofs.Spots.{widened}
use Rattle.plot.proofs.Writes.{number_written}
use Rattle.plot.proofs.writing.put_number.Goals as goal

pub returns : goal.returns
returns c =
    number_written c.args.n _ _ _ _ c.args.at _ c.args.after (widened c.args.n c.ranges.n c.from.result c.from.ensures) c.put_signed-digits.ensures.0
    c.put_signed-digits.ensures.1 c.put_byte.ensures
