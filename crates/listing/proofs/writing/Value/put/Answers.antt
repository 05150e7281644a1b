-- `listing::Value::put` meets its contract: the digits of a number, or eight of a float's bits. Assumes nothing.
use mathlib.Core.Path.{sym}
use Rattle.leaves.specs.Bits.{bits_of}
use Rattle.listing.proofs.WritingLaws.{hex_length, hex_seen}
use Rattle.listing.proofs.writing.Value.put.Goals as goal

pub returns-in-Bits : goal.returns-in-Bits
returns-in-Bits c = rw c.in-Bits.is (sym (hex_length (bits_of c.in-Bits.v)), hex_seen _ _ _ _ _ c.put_hex.ensures c.bits.ensures)
