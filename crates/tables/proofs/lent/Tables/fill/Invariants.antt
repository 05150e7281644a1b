-- `Tables::fill` meets its contract: each iteration runs one command more. Assumes nothing.
use Rattle.answer.specs.Answer.{Done}
use Rattle.store.specs.Lent.{drawing_columns}
use Rattle.tables.specs.Lent.{SameTables, SameRun, world_of}
use Rattle.tables.proofs.Taken.{Taking}
use Rattle.tables.proofs.lent.Tables.fill.Given as goal

abbrev pub invariant-loop-k : goal.invariant-loop-k
invariant-loop-k l =
    record {
      same : SameTables l.fn.self l.self;
      goes_on : SameRun l.initial.run l.run;
      taken :
          Taking l.initial.run.setting l.initial.run.caps (drawing_columns l.drawing) l.k-items (world_of Done l.initial.run.st l.fn.self) (world_of Done l.run.st l.self)
          l.k-index l.j;
    }
