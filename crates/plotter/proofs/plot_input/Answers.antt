-- `plotter::plot_input`: what it writes lies in its buffer. Assumes nothing.
use Rattle.std.proofs.Common.{arith, sym, length-take-le}
use Rattle.plotting.proofs.PlotLaws.{written_fits}
use Rattle.plotter.proofs.plot_input.Goals as goal

pub slice_bounds-text-end : goal.slice_bounds-text-end
slice_bounds-text-end g c = omega (arith, c.plot_listing.auto.text, written_fits _ _ _ _ _ c.in-Ok.ensures)

pub slice_bounds-write_all-end : goal.slice_bounds-write_all-end
slice_bounds-write_all-end g c = sym (length-take-le _ _ (omega (arith, c.plot_listing.auto.text, written_fits _ _ _ _ _ c.in-Ok.ensures)))
