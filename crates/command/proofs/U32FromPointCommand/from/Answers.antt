-- A command as a word meets its contract: each arm puts together the word that the definition adds up. Assumes nothing.
use mathlib.Core.Path.{sym, ◌∙◌, ap}
use mathlib.Core.Bool.{Bool}
use Rattle.command.specs.Packing.{pack_of}
use Rattle.command.specs.declared.PointCommand.TheVariants.{End}
use Rattle.command.proofs.Fields.{start, end_plain, end_flagged}
use Rattle.command.proofs.U32FromPointCommand.from.Goals as goal

pub returns-in-Start : goal.returns-in-Start
returns-in-Start c = start c.in-Start.i ∙ ap pack_of (sym c.in-Start.is)

pub returns-in-Incr : goal.returns-in-Incr
unfolding pack_of
returns-in-Incr c = c.bits.ensures ∙ ap pack_of (sym c.in-Incr.is)

pub returns-then-flag : goal.returns-then-flag
returns-then-flag c =
    end_flagged c.in-End.i ∙ ap (λ (f : Bool). pack_of (End c.in-End.i f)) (sym c.if-flag.true) ∙ ap pack_of (sym c.in-End.is)

pub returns-else-flag : goal.returns-else-flag
returns-else-flag c =
    end_plain c.in-End.i ∙ ap (λ (f : Bool). pack_of (End c.in-End.i f)) (sym c.if-flag.false) ∙ ap pack_of (sym c.in-End.is)
