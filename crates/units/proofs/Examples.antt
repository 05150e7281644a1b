-- Coordinates computed: halves, just below a half, both ends of the range and what lies beyond. Assumes nothing.
use mathlib.Core.Path.{◌≡◌, refl}
use mathlib.Core.Bool.{true, false}
use lib.IntN.{pos, negsuc}
use lib.Ieee.{of_bits}
use Rattle.leaves.specs.Single.{f32}
use Rattle.leaves.specs.Small.{negative_of}
use Rattle.units.specs.Whole.{whole_of, in_range, printable_of}

-- halves go away from zero, and what is just below a half does not; adding 0.5 in floats would give 1 for the first
pub record Halves : Type 0 where
  pub below_half : whole_of (f32 0x3eff_ffff) ≡ pos 0
  pub half : whole_of (f32 0x3f00_0000) ≡ pos 1
  pub minus_half : whole_of (f32 0xbf00_0000) ≡ negsuc 0
  pub two_and_half : whole_of (f32 0x4020_0000) ≡ pos 3
  pub minus_two_and_half : whole_of (f32 0xc020_0000) ≡ negsuc 2
  -- -0.4
  pub minus_less : whole_of (f32 0xbecc_cccd) ≡ pos 0
  -- the smallest value above 0
  pub smallest : whole_of (f32 1) ≡ pos 0

pub halves : Halves
unfolding of_bits whole_of negative_of
halves = record {
  below_half = refl;
  half = refl;
  minus_half = refl;
  two_and_half = refl;
  minus_two_and_half = refl;
  minus_less = refl;
  smallest = refl;
}

-- the last floats that round into the range, and the first that do not
pub record Ends : Type 0 where
  -- 32,767.49
  pub top : whole_of (f32 0x46ff_fefb) ≡ pos 32767
  pub top_printed : printable_of (f32 0x46ff_fefb) ≡ true
  pub last_above : whole_of (f32 0x46ff_feff) ≡ pos 32767
  pub last_above_printed : printable_of (f32 0x46ff_feff) ≡ true
  -- 32,767.5
  pub beyond_top : printable_of (f32 0x46ff_ff00) ≡ false
  -- -32,768.49
  pub bottom : whole_of (f32 0xc700_007d) ≡ negsuc 32767
  pub bottom_printed : printable_of (f32 0xc700_007d) ≡ true
  pub last_below : whole_of (f32 0xc700_007f) ≡ negsuc 32767
  pub last_below_printed : printable_of (f32 0xc700_007f) ≡ true
  -- -32,768.5
  pub beyond_bottom : printable_of (f32 0xc700_0080) ≡ false

pub ends : Ends
unfolding of_bits whole_of negative_of printable_of in_range
ends = record {
  top = refl;
  top_printed = refl;
  last_above = refl;
  last_above_printed = refl;
  beyond_top = refl;
  bottom = refl;
  bottom_printed = refl;
  last_below = refl;
  last_below_printed = refl;
  beyond_bottom = refl;
}

pub record Refused : Type 0 where
  pub not_a_number : printable_of (f32 0x7fc0_0000) ≡ false
  pub infinity : printable_of (f32 0x7f80_0000) ≡ false
  pub minus_infinity : printable_of (f32 0xff80_0000) ≡ false
  -- 65,536 and 1.0e30
  pub large : printable_of (f32 0x4780_0000) ≡ false
  pub very_large : printable_of (f32 0x7149_f2ca) ≡ false

pub refused : Refused
unfolding of_bits whole_of negative_of printable_of in_range
refused = record { not_a_number = refl; infinity = refl; minus_infinity = refl; large = refl; very_large = refl }
