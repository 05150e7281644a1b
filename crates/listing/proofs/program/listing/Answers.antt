-- `listing::listing` meets its contract: what is told in the program's own columns is listed. Assumes nothing.
use Rattle.std.proofs.Common.{refl, sym, Err, arith, length-take-le}
use Rattle.answer.proofs.Laws.{ok_is_done}
use Rattle.listing.specs.Program.{zeros, program_output}
use Rattle.listing.proofs.WritingLaws.{listed_seen}
use Rattle.listing.proofs.ProgramLaws.{listed_few, listed_room, listed_cut, listed_refusal, listed_report}
use Rattle.listing.proofs.program.listing.Goals as goal

pub slice_bounds-finished-end : goal.slice_bounds-finished-end
unfolding zeros program_output
slice_bounds-finished-end c = (listed_room _ _ c.in-Ok.ensures.told).0

pub slice_bounds-finished-end-in-Ok : goal.slice_bounds-finished-end-in-Ok
unfolding zeros program_output
slice_bounds-finished-end-in-Ok c = sym (length-take-le _ _ (listed_room _ _ c.in-Ok.ensures.told).0)

pub slice_bounds-finished-end-in-Ok-2 : goal.slice_bounds-finished-end-in-Ok-2
unfolding zeros program_output
slice_bounds-finished-end-in-Ok-2 c = (listed_room _ _ c.in-Ok.ensures.told).1

pub slice_bounds-finished-end-in-Ok-3 : goal.slice_bounds-finished-end-in-Ok-3
unfolding zeros program_output
slice_bounds-finished-end-in-Ok-3 c = sym (length-take-le _ _ (listed_room _ _ c.in-Ok.ensures.told).1)

pub slice_bounds-finished-end-in-Ok-4 : goal.slice_bounds-finished-end-in-Ok-4
unfolding zeros program_output
slice_bounds-finished-end-in-Ok-4 c = (listed_room _ _ c.in-Ok.ensures.told).2

pub slice_bounds-finished-end-in-Ok-5 : goal.slice_bounds-finished-end-in-Ok-5
unfolding zeros program_output
slice_bounds-finished-end-in-Ok-5 c = sym (length-take-le _ _ (listed_room _ _ c.in-Ok.ensures.told).2)

pub report-requires : goal.report-requires
unfolding zeros program_output
report-requires c = omega (arith, listed_cut _ _ c.in-Ok.ensures.told, listed_few _ _ c.in-Ok.ensures.told)

pub returns-in-Ok : goal.returns-in-Ok
unfolding zeros program_output
returns-in-Ok c = listed_seen _ _ _ _ c.report.ensures (listed_report _ _ c.in-Ok.ensures.told refl)

pub returns-in-Err : goal.returns-in-Err
unfolding zeros program_output
returns-in-Err c = listed_seen _ _ _ _ c.refuse.ensures (listed_refusal _ _ c.in-Err.ensures.told (sym (ok_is_done (Err c.in-Err.refused.refusal))))
