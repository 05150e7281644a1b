-- `spline_list::spread`'s loop: the first i records are put to the rows. Assumes nothing.
use Rattle.std.proofs.Common.{◌≡◌}
use Rattle.tables.specs.Lent.{splines_mut_of, SameSplines}
use Rattle.spline_list.specs.Rows.{spreads}
use Rattle.spline_list.proofs.spread.Given as goal

abbrev pub invariant-loop-i : goal.invariant-loop-i
invariant-loop-i l = record {
  lent : SameSplines l.fn.columns l.columns;
  put : splines_mut_of l.columns ≡ spreads l.list l.i (splines_mut_of l.fn.columns);
}
