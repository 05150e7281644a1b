-- `walk::walk_length` meets its contract: each spline adds at most 65,538. Assumes nothing.
use Rattle.tables.specs.Lent.{splines_of}
use Rattle.walk.proofs.Lengths.{Counted}
use Rattle.walk.proofs.walk_length.Given as goal

abbrev pub invariant-loop-k : goal.invariant-loop-k
invariant-loop-k l = Counted (splines_of l.splines) l.n l.total l.last l.k
