-- `units::columns::put_wholes` meets its contract. The loop's invariant: with what is left to write, the column becomes what it has to become. Assumes nothing.
use mathlib.Core.Path.{sym, subst, ◌∙◌}
use Rattle.std.proofs.Common.{◌≡◌, ◌+◌, map, drop}
use Rattle.std.proofs.lemmas.List.Edits.{sets}
use Rattle.leaves.proofs.Comparisons.{no}
use Rattle.units.specs.Whole.{whole_of}
use Rattle.units.proofs.Points.{unit_beyond, unit_written, printable_at, put_more}
use Rattle.units.proofs.columns.put_wholes.Goals.{in-Some, in_default}
use Rattle.units.proofs.columns.put_wholes.Goals as goal

pub loop-i-preserved : goal.loop-i-preserved
loop-i-preserved c = elim c.match-whole.branch [
  | in-Some w ↦
      subst (λ t. sets t (c.loop-i.i + 1) (map whole_of (drop (c.loop-i.i + 1) c.args.from.now)) ≡ sets c.args.to.now 0 (map whole_of c.args.from.now)) (sym w.to-is)
      (put_more _ c.requires.printable _ _ c.loop-i-test.true _ _ (unit_written _ _ (sym c.whole.ensures ∙ w.in-Some.is)) ∙ c.loop-i.invariant)
  | in_default w ↦
      no (sym (printable_at _ c.requires.printable _ _ c.loop-i-test.true) ∙ unit_beyond _ (sym c.whole.ensures ∙ w.in_default.is))
]
