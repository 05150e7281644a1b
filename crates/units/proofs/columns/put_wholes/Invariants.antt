-- `units::columns::put_wholes` meets its contract. The loop's invariant: with what is left to write, the column becomes what it has to become. Assumes nothing.
use Rattle.std.proofs.Common.{◌≡◌, map, drop}
use Rattle.std.proofs.lemmas.List.Edits.{sets}
use Rattle.units.specs.Whole.{whole_of}
use Rattle.units.proofs.columns.put_wholes.Given as goal

abbrev pub invariant-loop-i : goal.invariant-loop-i
invariant-loop-i l = sets l.to l.i (map whole_of (drop l.i l.from)) ≡ sets l.initial.to 0 (map whole_of l.from)
