-- RULES, Packed words: a command as a word of 32 bits, and back. Assumes nothing.
use Rattle.std.specs.Prelude.{ℕ, ◌+◌, ◌/◌, ◌%◌, cond, eqb}
use Rattle.leaves.specs.Bits.{bits_of, float_of}
use Rattle.command.specs.declared.PointCommand.{PointCommand}
use Rattle.command.specs.declared.PointCommand.TheVariants.{Start, Incr, End}

-- indices are "22 bits": those below 4,194,304
abbrev pub index_limit : ℕ
index_limit = 0x40_0000

-- "Start i is 0x7F800000 + i. End i is 0xFF800000 + i, plus 0x400000 when flagged. Any other word is the bits of a step."
unfoldable pub pack_of : PointCommand → ℕ
pack_of (Start i) = 0x7f80_0000 + i % index_limit
pack_of (Incr step) = bits_of step
pack_of (End i flag) = 0xff80_0000 + i % index_limit + cond flag 0x40_0000 0

-- "Decoding masks indices to 22 bits. The word 0x7FC00000 decodes to Start 0". The eight digits below the sign say that a word is no step
unfoldable pub unpack_of : ℕ → PointCommand
unpack_of word =
    cond (eqb (word / 0x80_0000 % 0x100) 0xff)
    (cond (eqb (word / 0x8000_0000) 0) (Start (word % index_limit)) (End (word % index_limit) (eqb (word / 0x40_0000 % 2) 1)))
    (Incr (float_of word))
