-- `evaluate::writing::write_steps` meets its contract: what is left is written as the whole goes on. Assumes nothing.
use native.Mathlib.Omega.{arith}
use borrow.Author.Rules.{rules}
use Rattle.tables.specs.Tables.{quad_row_at}
use Rattle.evaluate.proofs.Passes.{stepping_start, stepping_more, stepping_end}
use Rattle.evaluate.proofs.writing.write_steps.Goals as goal

pub loop-p-init : goal.loop-p-init
loop-p-init c = record { lent = search rules; stepping = stepping_start }

pub loop-p-preserved : goal.loop-p-preserved
unfolding quad_row_at
loop-p-preserved c = record {
  lent = search rules;
  stepping =
      stepping_more c.loop-p.invariant.stepping c.loop-p-test.true c.cursor_at-cursor.ensures c.at-quad.ensures
      c.point-point.ensures c.from-word.ensures c.write_entry.ensures.written;
}

pub returns-clause-written : goal.returns-clause-written
returns-clause-written c = stepping_end c.loop-p.invariant.stepping (omega (arith, c.loop-p-test.false))

-- after the last step
pub returns-2-clause-written : goal.returns-2-clause-written
unfolding quad_row_at
returns-2-clause-written c =
    stepping_end
    (stepping_more c.loop-p.invariant.stepping c.loop-p-test.true c.cursor_at-cursor.ensures c.at-quad.ensures
    c.point-point.ensures c.from-word.ensures c.write_entry.ensures.written)
    (omega arith)
