-- `listing::put_line` meets its contract: key, equals sign, value, line end. Assumes nothing.
use native.Mathlib.Omega.{arith}
use Rattle.listing.specs.Writing.{value_of}
use Rattle.listing.proofs.WritingLaws.{line-length, line_written}
use Rattle.listing.proofs.writing.put_line.Goals as goal

pub overflow_add-end : goal.overflow_add-end
overflow_add-end c = omega (arith, line-length c.args.key.now (value_of c.args.value), c.put-width.ensures.0, c.requires)

pub overflow_add-result : goal.overflow_add-result
overflow_add-result c = omega (arith, line-length c.args.key.now (value_of c.args.value), c.put-width.ensures.0, c.requires)

pub returns : goal.returns
returns c =
    line_written _ _ _ _ _ _ _ _ _ c.put-width.ensures.0 c.put_bytes.ensures c.put_bytes-2.ensures c.put-width.ensures.1 c.put_bytes-3.ensures
