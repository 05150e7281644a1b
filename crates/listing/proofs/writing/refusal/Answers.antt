-- `listing::refusal` meets its contract: two lines, if they fit. Assumes nothing.
use mathlib.Core.Path.{◌∙◌}
use native.Mathlib.Omega.{arith}
use Rattle.text.specs.Bytes.{bytes}
use Rattle.text.specs.Decimal.{decimal_of}
use Rattle.text.proofs.Decimals.{decimal_short}
use Rattle.listing.proofs.WritingLaws.{line-length, refusal_short, refusal_bytes}
use Rattle.listing.proofs.writing.refusal.Goals as goal

pub overflow_add-needed : goal.overflow_add-needed
overflow_add-needed c = omega (arith, decimal_short c.from-number.result)

pub overflow_add-needed-2 : goal.overflow_add-needed-2
overflow_add-needed-2 c = omega (arith, decimal_short c.from-number.result, decimal_short c.args.line)

pub returns-then-output-needed : goal.returns-then-output-needed
returns-then-output-needed c =
    refusal_short _ _ _ _ _ _ (c.from-number.ensures ∙ c.number.ensures) c.decimal_length.ensures c.decimal_length-2.ensures c.if-output-needed.true

pub put_line-second-requires : goal.put_line-second-requires
put_line-second-requires c =
    omega (
      arith,
      line-length (bytes "answer") (decimal_of c.from-number.result),
      c.decimal_length.ensures,
      c.if-output-needed.false,
    )

pub put_line-requires : goal.put_line-requires
put_line-requires c =
    omega (
      arith,
      line-length (bytes "answer") (decimal_of c.from-number.result),
      line-length (bytes "line") (decimal_of c.args.line),
      c.decimal_length.ensures,
      c.decimal_length-2.ensures,
      c.put_line-second.ensures.next,
      c.put_line-second.auto.buffer,
      c.if-output-needed.false,
    )

pub returns : goal.returns
returns c =
    refusal_bytes _ _ _ _ _ _ (c.from-number.ensures ∙ c.number.ensures) c.decimal_length.ensures c.decimal_length-2.ensures _ _ _ _ c.if-output-needed.false
    c.put_line-second.ensures c.put_line.ensures
