-- `listing::put_head` meets its contract: three lines, one after another. Assumes nothing.
use native.Mathlib.Omega.{arith}
use Rattle.text.specs.Bytes.{bytes}
use Rattle.text.specs.Decimal.{decimal_of}
use Rattle.listing.specs.Writing.{head_of}
use Rattle.listing.proofs.WritingLaws.{head_length_is, line-length}
use Rattle.text.proofs.Written.{written_then}
use Rattle.listing.proofs.writing.put_head.Goals as goal

pub put_line-second-requires : goal.put_line-second-requires
put_line-second-requires c =
    omega (
      arith,
      head_length_is c.args.number c.args.line c.args.points,
      line-length (bytes "answer") (decimal_of c.args.number),
      line-length (bytes "line") (decimal_of c.args.line),
      line-length (bytes "points") (decimal_of c.args.points),
      c.requires,
    )

pub put_line-third-requires : goal.put_line-third-requires
put_line-third-requires c =
    omega (
      arith,
      head_length_is c.args.number c.args.line c.args.points,
      line-length (bytes "answer") (decimal_of c.args.number),
      line-length (bytes "line") (decimal_of c.args.line),
      line-length (bytes "points") (decimal_of c.args.points),
      c.requires,
      c.put_line-second.ensures.next,
      c.put_line-second.auto.buffer,
    )

pub put_line-requires : goal.put_line-requires
put_line-requires c =
    omega (
      arith,
      head_length_is c.args.number c.args.line c.args.points,
      line-length (bytes "answer") (decimal_of c.args.number),
      line-length (bytes "line") (decimal_of c.args.line),
      line-length (bytes "points") (decimal_of c.args.points),
      c.requires,
      c.put_line-second.ensures.next,
      c.put_line-second.auto.buffer,
      c.put_line-third.ensures.next,
      c.put_line-third.auto.buffer,
    )

pub returns : goal.returns
unfolding head_of
returns c = written_then _ _ _ _ _ _ _ _ c.put_line-second.ensures (written_then _ _ _ _ _ _ _ _ c.put_line-third.ensures c.put_line.ensures)
