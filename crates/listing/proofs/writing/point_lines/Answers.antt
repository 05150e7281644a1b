-- `listing::point_lines` meets its contract: three lines of 11, 11 and 6 bytes. Assumes nothing.
use mathlib.Core.Path.{◌≡◌, ap, ◌∙◌}
use Prim.Native.Nat.{ℕ}
use native.Mathlib.Omega.{arith}
use lib.ListN.{length}
use Rattle.columns.specs.Flags.{flag_byte_of}
use Rattle.leaves.specs.Bits.{bits_of}
use Rattle.text.specs.Bytes.{bytes}
use Rattle.text.specs.Decimal.{decimal_of}
use Rattle.listing.specs.Writing.{line_of, point_lines}
use Rattle.text.proofs.Written.{written_then, written_same}
use Rattle.listing.proofs.WritingLaws.{flag_length, hex_line_length, line-length}
use Rattle.listing.proofs.writing.point_lines.Goals as goal

pub put_line-second-requires : goal.put_line-second-requires
put_line-second-requires c = omega (arith, hex_line_length (bytes "x") (bits_of c.args.x))

pub put_line-third-requires : goal.put_line-third-requires
put_line-third-requires c =
    omega (
      arith,
      hex_line_length (bytes "x") (bits_of c.args.x),
      hex_line_length (bytes "y") (bits_of c.args.y),
      c.put_line-second.ensures.next,
      c.put_line-second.auto.buffer,
      c.requires,
    )

pub put_line-requires : goal.put_line-requires
put_line-requires c =
    let one : length (decimal_of c.from.result) ≡ 1 = ap (λ (m : ℕ). length (decimal_of m)) (c.from.ensures ∙ c.flag_byte-flag.ensures) ∙ flag_length c.is_flag.result in
    omega (
      arith,
      hex_line_length (bytes "x") (bits_of c.args.x),
      hex_line_length (bytes "y") (bits_of c.args.y),
      line-length (bytes "end") (decimal_of c.from.result),
      c.put_line-second.ensures.next,
      c.put_line-third.ensures.next,
      c.put_line-second.auto.buffer,
      c.put_line-third.auto.buffer,
      c.requires,
    )

pub returns : goal.returns
unfolding point_lines
returns c =
    written_then _ _ _ _ _ _ _ _ c.put_line-second.ensures
    (written_then _ _ _ _ _ _ _ _ c.put_line-third.ensures
    (written_same _ _ _ _ _ _ (ap (λ (m : ℕ). line_of (bytes "end") (decimal_of m)) (c.from.ensures ∙ c.flag_byte-flag.ensures ∙ ap flag_byte_of c.is_flag.ensures))
    c.put_line.ensures))
