-- `flatten::flatten` meets its contract: each way that it ends is one of those of `Whole`. Assumes nothing.
use Rattle.std.proofs.Common.{rules, ◌≡◌}
use mathlib.Core.Path.{sym, ◌∙◌, refl}
use Rattle.std.specs.Prelude.{Some, None, Result, Ok, Err}
use Rattle.answer.specs.Answer.{Done}
use Rattle.answer.specs.declared.Refusal.TheVariants.{OutputShort}
use Rattle.primitives.specs.Edits.{answered}
use Rattle.tables.specs.declared.lent.Refused.{Refused as Stop}
use Rattle.flatten.specs.declared.Flattened.{Flattened}
use Rattle.flatten.specs.declared.Refused.{Refused}
use Rattle.flatten.proofs.Whole.{unusable, refused, delivered}
use Rattle.flatten.proofs.flatten.Goals as goal

pub returns-then-not-drawable-clause-whole : goal.returns-then-not-drawable-clause-whole
returns-then-not-drawable-clause-whole c = unusable _ _ _ _ _ _ (sym c.drawable.ensures ∙ c.if-not-drawable.true)

pub returns-in_err-state-clause-whole : goal.returns-in_err-state-clause-whole
returns-in_err-state-clause-whole c =
    let told : (stop : Stop) × (c.fill.result ≡ Err stop)
    × (◌≡◌ {A = Result Flattened Refused} c.from_residual.result (Err (record { refusal = stop.refusal; splines = stop.state.splines; quads = stop.state.quads })))
    = search rules in
    let filled = rw told.1 at c.fill.ensures.filled in
    rw told.2 (refused _ _ _ _ _ _ (answered (Err told.0.refusal) told.0.state) _ _ (sym c.drawable.ensures ∙ c.if-not-drawable.false) filled told.0.refusal refl)

pub returns-in_err-points-clause-whole : goal.returns-in_err-points-clause-whole
returns-in_err-points-clause-whole c =
    let state = c.in_ok-state.state in
    let ok : c.fill.result ≡ Ok state = search rules in
    let none : c.deliver.result ≡ None = search rules in
    let told : ◌≡◌ {A = Result Flattened Refused} c.from_residual-in_err-points.result (Err (record { refusal = OutputShort; splines = state.splines; quads = state.quads })) = search rules in
    rw told
    (delivered _ _ _ _ _ _ (answered Done state) _ _ (sym c.drawable.ensures ∙ c.if-not-drawable.false) (rw ok at c.fill.ensures.filled) _ None refl
    c.view.ensures c.view-2.ensures (rw none at c.deliver.ensures.delivered))

pub returns-clause-whole : goal.returns-clause-whole
returns-clause-whole c =
    let state = c.in_ok-state.state in
    let ok : c.fill.result ≡ Ok state = search rules in
    let some : c.deliver.result ≡ Some c.in_ok-points.points = search rules in
    delivered _ _ _ _ _ _ (answered Done state) _ _ (sym c.drawable.ensures ∙ c.if-not-drawable.false) (rw ok at c.fill.ensures.filled) _
    (Some c.in_ok-points.points) refl c.view.ensures c.view-2.ensures (rw some at c.deliver.ensures.delivered)
