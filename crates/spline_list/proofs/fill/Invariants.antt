-- `spline_list::fill`'s loop: the first i rows are stored to the list. Assumes nothing.
use Rattle.std.proofs.Common.{◌≡◌}
use Rattle.tables.specs.Lent.{splines_of}
use Rattle.spline_list.specs.Rows.{fills}
use Rattle.spline_list.proofs.fill.Given as goal

abbrev pub invariant-loop-i : goal.invariant-loop-i
invariant-loop-i l = l.list ≡ fills (splines_of l.columns) l.i l.initial.list
