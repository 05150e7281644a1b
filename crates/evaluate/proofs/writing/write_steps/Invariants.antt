-- `evaluate::writing::write_steps` meets its contract: what is left is written as the whole goes on. Assumes nothing.
use Rattle.tables.specs.Lent.{quads_of}
use Rattle.tables.specs.Tables.{quad_row_at}
use Rattle.evaluate.specs.Lent.{output_of, SameOutputs}
use Rattle.evaluate.proofs.Passes.{Stepping}
use Rattle.evaluate.proofs.writing.write_steps.Given as goal

abbrev pub invariant-loop-p : goal.invariant-loop-p
invariant-loop-p l = record {
  lent : SameOutputs l.fn.outputs l.outputs;
  stepping :
      Stepping (quad_row_at (quads_of l.quads)) l.size l.n l.initial.at l.initial.cursor (output_of l.fn.outputs) (output_of l.outputs) l.at l.cursor l.p;
}
