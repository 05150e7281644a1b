-- `listing::head_length` meets its contract. Assumes nothing.
use native.Mathlib.Omega.{arith}
use Rattle.text.proofs.Decimals.{decimal_short}
use Rattle.listing.proofs.WritingLaws.{head_length_is}
use Rattle.listing.proofs.writing.head_length.Goals as goal

pub overflow_add-result : goal.overflow_add-result
overflow_add-result c = omega (arith, decimal_short c.args.number)

pub overflow_add-result-2 : goal.overflow_add-result-2
overflow_add-result-2 c = omega (arith, decimal_short c.args.number, decimal_short c.args.line)

pub overflow_add-result-3 : goal.overflow_add-result-3
overflow_add-result-3 c = omega (arith, decimal_short c.args.number, decimal_short c.args.line, decimal_short c.args.points)

pub returns : goal.returns
returns c = omega (arith, head_length_is c.args.number c.args.line c.args.points)
