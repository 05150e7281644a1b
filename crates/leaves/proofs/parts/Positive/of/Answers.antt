-- `leaves::parts::Positive::of` meets its contract: the digits of a pattern are at most 24, and its place is at most 254. Assumes nothing.
use mathlib.Core.Path.{sym}
use native.Mathlib.Nat.{lt_of_lt_of_le, lt_of_le_of_lt, le_of_eq}
use native.Mathlib.Omega.{arith}
use lib.Ieee.{binary32}
use Rattle.rounding.proofs.Parts.{sig_lt, place_le}
use Rattle.leaves.proofs.parts.Positive.of.Goals as goal

pub invariant_of-result : goal.invariant_of-result
invariant_of-result c = record {
  some = lt_of_lt_of_le c.requires (le_of_eq (sym c.digits.ensures));
  digits_bound = lt_of_le_of_lt (le_of_eq c.digits.ensures) (sig_lt binary32 c.args.b);
  place_bound = omega (arith, c.place.ensures, place_le binary32 c.args.b);
}
