-- RULES, Numbers 2: "Rounded" means nearest, ties to even. The f32 operations, each rounded once, as operators, and an f32 from its bits. Assumes nothing.
use Rattle.std.specs.Prelude.{ℕ, pos, Float}
use Rattle.std.specs.Float.{binary32}
use Rattle.std.specs.Float.Ieee.{add, sub, mul, div, of_int, of_bits}

infixl 60 ◌⊕◌
infixl 60 ◌⊖◌
infixl 70 ◌⊗◌
infixl 70 ◌⊘◌
abbrev pub ◌⊕◌ : Float → Float → Float
x ⊕ y = add binary32 x y

abbrev pub ◌⊖◌ : Float → Float → Float
x ⊖ y = sub binary32 x y

abbrev pub ◌⊗◌ : Float → Float → Float
x ⊗ y = mul binary32 x y

abbrev pub ◌⊘◌ : Float → Float → Float
x ⊘ y = div binary32 x y

-- the f32 with these bits: how a constant of the code is written in a definition
abbrev pub f32 : ℕ → Float
f32 bits = of_bits binary32 bits

-- a whole number as an f32
abbrev pub whole32 : ℕ → Float
whole32 n = of_int binary32 (pos n)

abbrev pub zero32 : Float
zero32 = f32 0x0000_0000

abbrev pub half32 : Float
half32 = f32 0x3f00_0000

abbrev pub one32 : Float
one32 = f32 0x3f80_0000

abbrev pub two32 : Float
two32 = f32 0x4000_0000

-- Rust's x.recip()
abbrev pub recip : Float → Float
recip x = one32 ⊘ x
