-- `text::hex_at` meets its contract: the digits that are left come after those whose number is n. Assumes nothing.
use mathlib.Core.Path.{◌≡◌}
use Prim.Native.Nat.{◌-◌, ◌^◌, ◌<◌}
use lib.ListN.{drop}
use Rattle.text.specs.Hex.{hex_at_of}
use Rattle.text.proofs.Hexes.{digits_in}
use Rattle.text.proofs.hex.hex_at.Given as goal

abbrev pub invariant-loop-b : goal.invariant-loop-b
invariant-loop-b l = record {
  short : l.n < 16 ^ l.b-index;
  whole : hex_at_of l.text l.at ≡ digits_in (drop l.b-index l.digits) (8 - l.b-index) l.n;
}
