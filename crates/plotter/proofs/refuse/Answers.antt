-- `plotter::refuse`: what it writes lies in its buffer, which is never too short. Assumes nothing.
use Rattle.std.proofs.Common.{arith, sym, length-take-le}
use Rattle.listing.proofs.WritingLaws.{refusal_fits}
use Rattle.listing.proofs.Outputs.{all_written, count_fits}
use Rattle.plotter.proofs.refuse.Goals as goal

pub unwrap-m-requires : goal.unwrap-m-requires
unwrap-m-requires g c = rw (all_written _ _ _ _ (refusal_fits _ _) c.refusal.ensures)

pub slice_bounds-lines-end : goal.slice_bounds-lines-end
slice_bounds-lines-end g c = omega (arith, c.refusal.auto.output, count_fits _ _ _ _ _ c.refusal.ensures c.unwrap-m.ensures)

pub slice_bounds-write_all-end : goal.slice_bounds-write_all-end
slice_bounds-write_all-end g c =
    sym (length-take-le _ _ (omega (arith, c.refusal.auto.output, count_fits _ _ _ _ _ c.refusal.ensures c.unwrap-m.ensures)))
