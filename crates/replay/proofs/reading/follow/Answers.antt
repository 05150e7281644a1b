-- `replay::follow` meets its contract: one more number is read and compared, and at the end all are. Assumes nothing.
use Rattle.replay.proofs.Following.{followed_on, followed_all}
use Rattle.std.proofs.Common.{rules}
use Rattle.replay.proofs.Failing.{followed_err}
use Rattle.replay.proofs.reading.follow.Goals as goal

pub loop-i-preserved : goal.loop-i-preserved
loop-i-preserved g c =
    followed_on _ _ _ _ _ _ _ _ _ _ c.loop-i-test.true c.number_at.ensures c.loop-i.invariant c.in_ok-expected.ensures.value c.in_ok-expected.ensures.rest

pub returns-clause-value : goal.returns-clause-value
returns-clause-value g c = followed_all _ _ _ _ _ _ _ c.loop-i-test.false c.loop-i.invariant

pub returns-in_err-expected-clause-err : goal.returns-in_err-expected-clause-err
returns-in_err-expected-clause-err g c =
    let taken = followed_err _ _ _ _ _ _ _ _ c.loop-i-test.true c.loop-i.invariant c.in_err-expected.ensures.err in
    search (rules, taken)
