-- `plot::Finished::put_moves` meets its contract: the moves that are left, written after those already written. Assumes nothing.
use Rattle.plot.specs.Lent.{points_of}
use Rattle.plot.proofs.Filling.{Filled}
use Rattle.plot.proofs.Finished.put_moves.Given as goal

abbrev pub invariant-loop-i : goal.invariant-loop-i
invariant-loop-i l = Filled (points_of l.self) l.initial.text l.text l.at l.up l.i
