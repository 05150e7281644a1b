-- `listing::draw` meets its contract: too long, stopped at a line, or read to the end and built. Assumes nothing.
use Rattle.std.proofs.Common.{ap, ◌∙◌, Err}
use Rattle.store.specs.Drawing.{fresh_of}
use Rattle.store.specs.Lent.{store_columns}
use Rattle.listing.specs.Reading.{on_no_line}
use Rattle.listing.specs.Program.{drawn_as, refused}
use Rattle.listing.proofs.CommandLaws.{passed_to, passed_on}
use Rattle.listing.proofs.ProgramLaws.{fresh_done, read_fresh, too_long, after_stopped, after_finished, build_refused, build_done}
use Rattle.listing.proofs.program.draw.Goals as goal

pub returns-then-listing-gt-LONGEST-clause-drawn : goal.returns-then-listing-gt-LONGEST-clause-drawn
returns-then-listing-gt-LONGEST-clause-drawn c = ap (λ r. refused (Err r.refusal) r.line) c.from.ensures ∙ too_long _ c.if-listing-gt-LONGEST.true

-- the program's columns have room for a fresh drawing
pub returns-in_err-fresh-clause-drawn : goal.returns-in_err-fresh-clause-drawn
returns-in_err-fresh-clause-drawn c =
    let a = ap (λ o. o.answer) (c.in_err-fresh.ensures.fresh ∙ ap fresh_of c.requires) ∙ fresh_done in absurd (cc a)

pub returns-in_err-read-clause-drawn : goal.returns-in_err-read-clause-drawn
returns-in_err-read-clause-drawn c =
    ap (λ r. drawn_as r c.read.new.store.state (store_columns c.read.new.store)) (passed_on c.from_residual-in_err-read.result _ c.from_residual-in_err-read.ensures.1)
    ∙ after_stopped _ c.if-listing-gt-LONGEST.false _ _ (read_fresh _ _ _ _ _ _ c.in_err-read.ensures.read c.fresh.ensures.fresh c.requires)

pub returns-in_err-build-clause-drawn : goal.returns-in_err-build-clause-drawn
returns-in_err-build-clause-drawn c =
    ap (λ r. drawn_as r c.build.new.self.state (store_columns c.build.new.self)) (passed_to _ on_no_line c.from_residual-in_err-build.result c.from_residual-in_err-build.ensures.1)
    ∙ build_refused _ _ _ _ _ c.build.ensures.drawn _ c.in_err-build.was
    ∙ after_finished _ c.if-listing-gt-LONGEST.false _ (read_fresh _ _ _ _ _ _ c.in_ok-read.ensures.read c.fresh.ensures.fresh c.requires)

pub returns-clause-drawn : goal.returns-clause-drawn
returns-clause-drawn c =
    build_done _ _ _ _ _ c.build.ensures.drawn c.in_ok-build.was
    ∙ after_finished _ c.if-listing-gt-LONGEST.false _ (read_fresh _ _ _ _ _ _ c.in_ok-read.ensures.read c.fresh.ensures.fresh c.requires)
