-- `Tables::push_cubic` meets its contract: each iteration runs one piece more. Assumes nothing.
use Rattle.answer.specs.Answer.{Done}
use Rattle.tables.specs.Lent.{SameTables, SameRun, world_of}
use Rattle.tables.proofs.Cuts.{Cutting}
use Rattle.tables.proofs.lent.Tables.push_cubic.Given as goal

abbrev pub invariant-loop-i : goal.invariant-loop-i
invariant-loop-i l =
    record {
      same : SameTables l.fn.self l.self;
      goes_on : SameRun l.fn.run l.run;
      cut : Cutting l.fn.run.setting l.fn.run.caps l.c l.n l.incr l.initial.start (world_of Done l.fn.run.st l.fn.self) (world_of Done l.run.st l.self) l.start l.i;
    }
