-- `plot::writing::put_pen` meets its contract. Assumes nothing.
use mathlib.Core.Path.{ap, ◌∙◌}
use mathlib.Core.Bool.{true, false}
use lib.Seq.{sets}
use Rattle.plot.specs.Text.{pen_of}
use Rattle.plot.proofs.Writes.{pen_written}
use Rattle.plot.proofs.writing.put_pen.Goals.{then-up, else-up}
use Rattle.plot.proofs.writing.put_pen.Goals as goal

pub returns : goal.returns
unfolding pen_of
returns c = elim c.if-up.branch [
  | then-up w ↦ pen_written c.args.up true _ _ c.args.at w.if-up.true (c.put_bytes.ensures ∙ ap (λ l. sets c.args.text.now c.args.at l.now) w.letters-is)
  | else-up w ↦ pen_written c.args.up false _ _ c.args.at w.if-up.false (c.put_bytes.ensures ∙ ap (λ l. sets c.args.text.now c.args.at l.now) w.letters-is)
]
