-- `flattener::main`: what it writes lies in its output buffer, which is never too short. Assumes nothing.
use Rattle.std.proofs.Common.{arith, sym, length-take-le}
use Rattle.listing.proofs.ProgramLaws.{listing_fits}
use Rattle.listing.proofs.Outputs.{all_written, count_fits}
use Rattle.flattener.proofs.main.Goals as goal

pub unwrap-m-requires : goal.unwrap-m-requires
unwrap-m-requires c = rw (all_written _ _ _ _ (listing_fits _) c.listing.ensures)

pub slice_bounds-output-end : goal.slice_bounds-output-end
slice_bounds-output-end c = omega (arith, c.listing.auto.output, count_fits _ _ _ _ _ c.listing.ensures c.unwrap-m.ensures)

pub slice_bounds-write_all-end : goal.slice_bounds-write_all-end
slice_bounds-write_all-end c =
    sym (length-take-le _ _ (omega (arith, c.listing.auto.output, count_fits _ _ _ _ _ c.listing.ensures c.unwrap-m.ensures)))
