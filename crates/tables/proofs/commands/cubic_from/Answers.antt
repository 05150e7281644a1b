-- `tables::commands::cubic_from` meets its contract. Assumes nothing.
use native.Mathlib.Omega.{arith}
use Rattle.store.specs.Lent.{drawing_columns}
use Rattle.tables.proofs.Taken.{cubic_read}
use Rattle.tables.proofs.commands.cubic_from.Goals as goal

pub returns : goal.returns
returns c =
    cubic_read (drawing_columns c.args.drawing.now) (record { x = omega arith; y = omega arith; weight = omega arith }) c.args.i
    c.stored_point.ensures c.saturating_add.ensures c.stored_point-2.ensures c.saturating_add-2.ensures c.stored_point-3.ensures
    c.saturating_add-3.ensures c.stored_point-4.ensures
