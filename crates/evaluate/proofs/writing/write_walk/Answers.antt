-- `evaluate::writing::write_walk` meets its contract: what is left is written as the whole goes on. Assumes nothing.
use borrow.Author.Rules.{rules}
use Rattle.evaluate.proofs.Passes.{walking_start, walking_more, walking_end}
use Rattle.evaluate.proofs.writing.write_walk.Goals as goal

pub loop-k-init : goal.loop-k-init
loop-k-init c = record { lent = search rules; walking = walking_start c.at-last.ensures }

pub loop-k-preserved : goal.loop-k-preserved
loop-k-preserved c = record {
  lent = search rules;
  walking = walking_more c.loop-k.invariant.walking c.loop-k-test.true c.at-row.ensures c.starts_after-starts.ensures c.write_spline-place.ensures.written;
}

pub returns-clause-written : goal.returns-clause-written
returns-clause-written c = walking_end c.loop-k.invariant.walking c.loop-k-test.false
