-- What is left of the list is compared as the whole is. Assumes nothing.
use Rattle.std.proofs.Common.{IfSome}
use Rattle.replay.proofs.Following.{Followed}
use Rattle.replay.proofs.reading.follow.Given as goal

abbrev pub invariant-loop-i : goal.invariant-loop-i
invariant-loop-i g l = IfSome (g.R.Read.remaining l.initial.list) (λ bytes. Followed l.n l.at l.numbers bytes l.i l.good (g.R.Read.remaining l.list))
