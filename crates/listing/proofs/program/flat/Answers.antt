-- `listing::flat` meets its contract: the tables are the program's, and what is delivered is what the flattening delivers. Assumes nothing.
use Rattle.std.proofs.Common.{ap, ◌∙◌}
use Rattle.evaluate.specs.Lent.{output_of}
use Rattle.flatten.specs.declared.Refused.{Refused}
use Rattle.listing.specs.Reading.{on_no_line}
use Rattle.listing.specs.Program.{zeros, program_quads, program_splines}
use Rattle.listing.specs.Told.{account_as, telling}
use Rattle.listing.proofs.CommandLaws.{passed_to}
use Rattle.listing.proofs.ToldLaws.{flat_told}
use Rattle.listing.proofs.program.flat.Goals as goal

pub returns-in_err-flattened-clause-told : goal.returns-in_err-flattened-clause-told
unfolding zeros program_quads program_splines
returns-in_err-flattened-clause-told c =
    ap (λ r. telling (account_as r) (output_of c.flatten.new.outputs)) (passed_to c.in_err-flattened.field-0.0 (λ (r : Refused). on_no_line r.refusal) c.from_residual.result c.from_residual.ensures.1)
    ∙ flat_told _ _ _ _ _ c.in_err-flattened.ensures.whole

pub returns-clause-told : goal.returns-clause-told
unfolding zeros program_quads program_splines
returns-clause-told c = flat_told _ _ _ _ _ c.in_ok-flattened.ensures.whole
