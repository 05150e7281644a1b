-- RULES, Numbers 10: "NaN is stored as 0x7FC00000". The bits of an f32, and the f32 of any bits: every NaN's pattern gives the one NaN. Assumes nothing.
use Rattle.std.specs.Prelude.{ℕ, cond, Float}
use Rattle.std.specs.Float.{binary32}
use Rattle.std.specs.Float.Ieee.{is_nan, to_bits, of_bits}

unfoldable pub bits_of : Float → ℕ
bits_of x = cond (is_nan x) 0x7fc0_0000 (to_bits binary32 x)

unfoldable pub float_of : ℕ → Float
float_of bits = of_bits binary32 bits
