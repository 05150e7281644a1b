-- `listing::read` meets its contract: the steps that are left give what all of them give, and more steps than bytes are left. Assumes nothing.
use Rattle.std.proofs.Common.{◌≡◌, refl, sym, ap, ◌∙◌, arith, rules, ◌+◌, ◌-◌, length, Ok, Err}
use Rattle.answer.specs.Answer.{Done}
use Rattle.store.specs.Drawing.{outcome}
use Rattle.store.specs.Lent.{store_columns}
use Rattle.listing.specs.Reading.{read_of, progress_of, bad_text, command_as, going, stopped, step_of}
use Rattle.listing.proofs.CommandLaws.{passed_to, passed_on, err_of_mapped, ok_of_mapped}
use Rattle.listing.proofs.StepLaws.{step_finish, step_fault, step_refused, step_drawn, step_onward, steps_again, steps_end, steps_stop}
use Rattle.listing.proofs.reading.read.Goals as goal
use Rattle.listing.proofs.reading.read.Goals.{In_ok-map_err}

pub loop-call-init : goal.loop-call-init
unfolding read_of
loop-call-init c = record {
  steps = (length c.args.listing.now + 1, refl, omega arith);
  placed = record { inside = omega arith; counted = omega arith };
  op_line = refl;
  same = (refl, refl, refl, refl);
}

pub returns-in_err-call-clause-read : goal.returns-in_err-call-clause-read
returns-in_err-call-clause-read c =
    ap (λ r. progress_of r c.loop-call.store.state (store_columns c.loop-call.store)) (passed_to _ bad_text c.from_residual.result c.from_residual.ensures.1)
    ∙ steps_stop _ _ _ _ (omega arith) c.loop-call.invariant.steps.1 _ _ (step_fault _ _ _ _ _ (sym c.in_err-call.ensures))

pub returns-in_err-map_err-clause-read : goal.returns-in_err-map_err-clause-read
returns-in_err-map_err-clause-read c =
    let e = err_of_mapped _ c.draw.result c.map_err.result c.map_err.ensures.cases (λ e. record { refusal = e; line = c.loop-call.op_line }) (λ e f k. search rules) _ c.in_err-map_err.was in
    ap (λ r. progress_of r c.draw.new.self.state (store_columns c.draw.new.self))
    (passed_on c.from_residual-in_err-map_err.result _ c.from_residual-in_err-map_err.ensures.1 ∙ ap Err e.2)
    ∙ ap (stopped (Err e.0)) c.loop-call.invariant.op_line
    ∙ steps_stop _ _ _ _ (omega arith) c.loop-call.invariant.steps.1 _ _
    (step_refused _ _ _ _ _ _ _ (sym c.in_ok-call.ensures ∙ ap (λ o. command_as (Ok o) c.command_at.new.place) c.in-Some.is) _ _ _ c.draw.ensures.drawn _ e.1)

-- the call is drawn, and the next command comes after it
went : (c : In_ok-map_err)
    → going c.command_at.new.place.at c.command_at.new.place.line (outcome Done c.draw.new.self.state (store_columns c.draw.new.self))
    ≡ step_of c.args.listing.now (going c.loop-call.place.at c.loop-call.place.line (outcome Done c.loop-call.store.state (store_columns c.loop-call.store)))
went c =
    step_drawn _ _ _ _ _ _ _ (sym c.in_ok-call.ensures ∙ ap (λ o. command_as (Ok o) c.command_at.new.place) c.in-Some.is) _ _ _ c.draw.ensures.drawn
    (ok_of_mapped _ c.draw.result c.map_err.result c.map_err.ensures.cases _ c.in_ok-map_err.was)

pub loop-call-smaller : goal.loop-call-smaller
loop-call-smaller c =
    let on = step_onward _ _ _ _ _ _ _ c.loop-call.invariant.placed (went c) in
    omega arith

pub loop-call-preserved : goal.loop-call-preserved
loop-call-preserved c =
    let on = step_onward _ _ _ _ _ _ _ c.loop-call.invariant.placed (went c) in
    let kept = c.loop-call.invariant.same in
    let drew = c.draw.ensures.same in
    record {
      steps = (c.loop-call.invariant.steps.0 - 1, steps_again _ _ _ _ (omega arith) c.loop-call.invariant.steps.1 _ (went c), omega arith);
      placed = on.placed;
      op_line = refl;
      same = (drew.0 ∙ kept.0, drew.1 ∙ kept.1, drew.2 ∙ kept.2, drew.3 ∙ kept.3);
    }

pub returns-clause-read : goal.returns-clause-read
returns-clause-read c =
    steps_end _ _ _ _ (omega arith) c.loop-call.invariant.steps.1 _
    (step_finish _ _ _ _ (sym c.in_ok-call.ensures ∙ ap (λ o. command_as (Ok o) c.command_at.new.place) c.in_default.is))
