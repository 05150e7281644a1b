-- `listing::told` meets its contract: refused on a line, or drawn and flattened into the lent columns. Assumes nothing.
use Rattle.std.proofs.Common.{refl, ap, ◌∙◌}
use mathlib.Core.Path.{ap₂}
use Rattle.evaluate.specs.Lent.{output_of}
use Rattle.listing.specs.Program.{zeros, program_columns, ready}
use Rattle.listing.specs.Told.{account_as, telling}
use Rattle.listing.proofs.CommandLaws.{passed_on}
use Rattle.listing.proofs.ToldLaws.{refused_told, ready_told}
use Rattle.listing.proofs.program.told.Goals as goal

pub draw-requires : goal.draw-requires
unfolding program_columns zeros
draw-requires c = refl

pub returns-in_err-draw-clause-told : goal.returns-in_err-draw-clause-told
returns-in_err-draw-clause-told c =
    ap (λ r. telling (account_as r) (output_of c.args.outputs.now)) (passed_on c.from_residual.result _ c.from_residual.ensures.1)
    ∙ refused_told _ _ _ _ _ c.in_err-draw.ensures.drawn

pub returns-clause-told : goal.returns-clause-told
returns-clause-told c =
    ready_told _ _ _ _ _ _ (ap₂ ready c.drawing.ensures.state c.drawing.ensures.columns ∙ c.in_ok-draw.ensures.drawn) c.flat.ensures.told
