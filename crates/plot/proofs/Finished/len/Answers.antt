-- `plot::Finished::len` meets its contract. Assumes nothing.
use mathlib.Core.Path.{sym, ◌∙◌}
use Rattle.contours.proofs.Finished.{finished-length}
use Rattle.plot.proofs.Finished.len.Goals as goal

pub returns : goal.returns
returns c = let p = c.args.self.now in c.shortest.ensures ∙ sym (finished-length p.x.now p.y.now p.end.now)
