-- What is left of the column is laid after what already is. Assumes nothing.
use Rattle.replay.proofs.Laying.{Left}
use Rattle.replay.proofs.numbers.put.Given as goal

abbrev pub invariant-loop-i : goal.invariant-loop-i
invariant-loop-i g l = Left g.T.Entry.number_of l.n l.at l.column l.initial.numbers l.numbers l.i
