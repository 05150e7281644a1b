-- `store::Store::put_points` meets its contract. The loop's invariant: putting what is left gives what putting all gives. Assumes nothing.
use Rattle.std.proofs.Common.{◌≡◌, ◌+◌, drop}
use Rattle.store.specs.Drawing.{put_points}
use Rattle.store.specs.Lent.{store_columns, SameColumns}
use Rattle.store.proofs.Store.put_points.Given as goal

abbrev pub invariant-loop-i : goal.invariant-loop-i
invariant-loop-i l =
    SameColumns l.fn.self l.self × (l.self.state ≡ l.fn.self.state)
    × (put_points (l.at + l.i) (drop l.i l.points) (store_columns l.self) ≡ put_points l.at l.points (store_columns l.fn.self))
