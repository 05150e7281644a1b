-- `Tables::push_command` meets its contract. Assumes nothing.
use native.Mathlib.Omega.{arith}
use Rattle.store.specs.Lent.{drawing_columns}
use Rattle.tables.specs.Commands.{command_primitives_of}
use Rattle.tables.proofs.Taken.{Short, one_command, cubic_command_lem, read_on}
use Rattle.tables.proofs.lent.Tables.push_command.Goals.{in-0, in-1, in-2}
use Rattle.tables.proofs.lent.Tables.push_command.Goals as goal

pub returns-in_default-clause-ran : goal.returns-in_default-clause-ran
returns-in_default-clause-ran c =
    cubic_command_lem _ _ _ _ _ _ (omega arith) c.saturating_sub-before.ensures c.cubic_from.ensures c.push_cubic.ensures.ran

pub returns-clause-ran : goal.returns-clause-ran
unfolding command_primitives_of
returns-clause-ran c =
    let short : Short (drawing_columns c.args.drawing.now) = record { x = omega arith; y = omega arith; weight = omega arith } in
    one_command _ _ _ (elim c.match-k.branch [
      | in-0 w ↦ rw (w.p-is, w.in-0.is)
      | in-1 w ↦ rw (w.p-is, w.in-1.is, w.stored_point.ensures, w.stored_point-in-1.ensures, c.saturating_sub-before.ensures)
      | in-2 w ↦
          rw (
            w.p-is,
            w.in-2.is,
            w.stored_point-p0.ensures,
            w.stored_point-p1.ensures,
            c.saturating_sub-before.ensures,
            read_on _ short c.args.j 1 w.saturating_add.ensures w.stored_point-in-2.ensures,
          )
    ]) c.push.ensures.ran
