-- `plot::Finished::measured` meets its contract: each point is tested, and its bytes are taken from the room. Assumes nothing.
use Rattle.plot.specs.Lent.{points_of}
use Rattle.plot.proofs.Counting.{Counted}
use Rattle.plot.proofs.Finished.measured.Given as goal

abbrev pub invariant-loop-i : goal.invariant-loop-i
invariant-loop-i l = Counted (points_of l.self) l.room l.left l.i
