-- `plotting::program::plot_listing` meets its contract: what is told in the program's own columns is plotted. Assumes nothing.
use Rattle.std.proofs.Common.{refl, sym, ap, ◌∙◌, Err, length-take-le}
use Rattle.answer.proofs.Laws.{ok_is_done}
use Rattle.listing.specs.Reading.{on_no_line}
use Rattle.listing.specs.Program.{zeros, program_output}
use Rattle.listing.proofs.CommandLaws.{passed_to, passed_on}
use Rattle.plotting.specs.PlotListing.{account_of, plotting}
use Rattle.plotting.proofs.PlotLaws.{told_room, plot_refused, plot_done}
use Rattle.plotting.proofs.program.plot_listing.Goals as goal

pub returns-in_err-n : goal.returns-in_err-n
unfolding zeros program_output
returns-in_err-n c =
    ap (λ r. plotting (account_of r) c.args.text.now) (passed_on c.from_residual.result _ c.from_residual.ensures.1)
    ∙ plot_refused _ _ _ c.in_err-n.ensures.told _ (sym (ok_is_done (Err c.in_err-n.field-0.0.refusal)))

pub slice_bounds-plot-end : goal.slice_bounds-plot-end
unfolding zeros program_output
slice_bounds-plot-end c = (told_room _ _ _ c.in_ok-n.ensures.told).0

pub slice_bounds-plot-end-2 : goal.slice_bounds-plot-end-2
unfolding zeros program_output
slice_bounds-plot-end-2 c = sym (length-take-le _ _ (told_room _ _ _ c.in_ok-n.ensures.told).0)

pub slice_bounds-plot-end-3 : goal.slice_bounds-plot-end-3
unfolding zeros program_output
slice_bounds-plot-end-3 c = (told_room _ _ _ c.in_ok-n.ensures.told).1

pub slice_bounds-plot-end-4 : goal.slice_bounds-plot-end-4
unfolding zeros program_output
slice_bounds-plot-end-4 c = sym (length-take-le _ _ (told_room _ _ _ c.in_ok-n.ensures.told).1)

pub slice_bounds-plot-end-5 : goal.slice_bounds-plot-end-5
unfolding zeros program_output
slice_bounds-plot-end-5 c = (told_room _ _ _ c.in_ok-n.ensures.told).2

pub slice_bounds-plot-end-6 : goal.slice_bounds-plot-end-6
unfolding zeros program_output
slice_bounds-plot-end-6 c = sym (length-take-le _ _ (told_room _ _ _ c.in_ok-n.ensures.told).2)

pub returns-in_err-written : goal.returns-in_err-written
unfolding zeros program_output
returns-in_err-written c =
    ap (λ r. plotting (account_of r) c.plot.new.text) (passed_to c.in_err-written.field-0.0 on_no_line c.from_residual-in_err-written.result c.from_residual-in_err-written.ensures.1)
    ∙ plot_done _ _ _ c.in_ok-n.ensures.told _ _ _ refl c.in_err-written.ensures

pub returns : goal.returns
unfolding zeros program_output
returns c = plot_done _ _ _ c.in_ok-n.ensures.told _ _ _ refl c.in_ok-written.ensures
