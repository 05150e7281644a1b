-- `evaluate::writing::write_walk` meets its contract: what is left is written as the whole goes on. Assumes nothing.
use Rattle.tables.specs.Lent.{quads_of, splines_of}
use Rattle.tables.specs.Tables.{quad_row_at}
use Rattle.evaluate.specs.Lent.{output_of, SameOutputs}
use Rattle.evaluate.proofs.Passes.{Walking}
use Rattle.evaluate.proofs.writing.write_walk.Given as goal

abbrev pub invariant-loop-k : goal.invariant-loop-k
invariant-loop-k l = record {
  lent : SameOutputs l.fn.outputs l.outputs;
  walking :
      Walking l.setting (quad_row_at (quads_of l.quads)) (splines_of l.splines) l.n (output_of l.fn.outputs) (output_of l.outputs) l.last l.place l.k;
}
