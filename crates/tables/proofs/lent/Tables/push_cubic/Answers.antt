-- `Tables::push_cubic` meets its contract: each iteration runs one piece more. Assumes nothing.
use mathlib.Core.Path.{◌≡◌, sym, ap, ◌∙◌}
use mathlib.Core.Bool.{Bool, false, not}
use mathlib.Core.List.{List}
use native.Mathlib.Omega.{arith}
use Rattle.std.proofs.Common.{rules, Err}
use Rattle.std.specs.Result.{is_ok}
use Rattle.std.proofs.lemmas.Result.{err_from_is_err_and}
use Rattle.answer.specs.Answer.{Answer, Done}
use Rattle.answer.specs.Number.{is_done}
use Rattle.answer.proofs.Laws.{done_is, ok_is_done}
use Rattle.point.specs.declared.Setting.{Setting}
use Rattle.primitives.specs.declared.Capacities.{Capacities}
use Rattle.primitives.specs.declared.State as stored
use Rattle.primitives.specs.declared.Primitive.{Primitive}
use Rattle.tables.specs.declared.lent.Tables.{Tables}
use Rattle.tables.specs.Lent.{world_of}
use Rattle.tables.specs.Run.{World, run_of}
use Rattle.tables.proofs.Runs.{run_stop}
use Rattle.tables.proofs.Cuts.{cut_on, cut_stop, cut_end, excess, cut}
use Rattle.tables.proofs.lent.Tables.push_cubic.Goals as goal

tested : (before : Answer) (b : Bool) → is_ok before ≡ not b → is_done before ≡ not b
tested before b h = sym (ok_is_done before) ∙ h

-- where nothing was refused before, the run begins with what is done
after : (setting : Setting) (caps : Capacities) (ps : List Primitive) (st : stored.State) (t : Tables) (w : World) (before : Answer) (b : Bool)
    → is_ok before ≡ not b → b ≡ false → w ≡ run_of setting caps ps (world_of Done st t) → w ≡ run_of setting caps ps (world_of before st t)
after setting caps ps st t w before b h e r =
    r ∙ ap (λ (a : Answer). run_of setting caps ps (world_of a st t)) (sym (done_is before (tested before b h ∙ ap not e)))

pub returns-then-is_err-clause-ran : goal.returns-then-is_err-clause-ran
returns-then-is_err-clause-ran c = sym (run_stop _ _ _ _ (tested c.args.before _ c.is_err.ensures.negation ∙ ap not c.if-is_err.true))

pub returns-then-n-gt-MAX_PIECES-clause-ran : goal.returns-then-n-gt-MAX_PIECES-clause-ran
returns-then-n-gt-MAX_PIECES-clause-ran c =
    after _ _ _ c.args.run.now.st c.args.self.now _ c.args.before _ c.is_err.ensures.negation c.if-is_err.false (excess _ _ _ _ c.pieces-n.ensures c.if-n-gt-MAX_PIECES.true c.push.ensures.ran)

pub returns-in_err-push-clause-ran : goal.returns-in_err-push-clause-ran
returns-in_err-push-clause-ran c =
    let p = err_from_is_err_and c.from_residual.result c.from_residual.ensures.1 in
    let ran = rw (c.loop-i.invariant.goes_on.0, c.loop-i.invariant.goes_on.1) at c.in_err-push.ensures.ran in
    let next = cut_on _ _ _ _ _ _ _ _ _ _ c.loop-i.invariant.cut c.loop-i-test.true c.point-end.ensures c.piece.ensures ran in
    rw (p.1, p.2) (after _ _ _ c.args.run.now.st c.args.self.now _ c.args.before _ c.is_err.ensures.negation c.if-is_err.false (cut _ _ _ _ c.pieces-n.ensures c.if-n-gt-MAX_PIECES.false c.applied-start.ensures
    (cut_stop _ _ _ _ _ _ _ _ _ _ next (sym (ok_is_done (Err c.in_err-push.field-0.0))))))

pub loop-i-preserved : goal.loop-i-preserved
loop-i-preserved c =
    let ran = rw (c.loop-i.invariant.goes_on.0, c.loop-i.invariant.goes_on.1) at c.in_ok-push.ensures.ran in
    record {
      same = search rules;
      goes_on = search rules;
      cut = cut_on _ _ _ _ _ _ _ _ _ _ c.loop-i.invariant.cut (omega arith) c.point-end.ensures c.piece.ensures ran;
    }

pub returns-else-n-gt-MAX_PIECES-clause-ran : goal.returns-else-n-gt-MAX_PIECES-clause-ran
returns-else-n-gt-MAX_PIECES-clause-ran c =
    after _ _ _ c.args.run.now.st c.args.self.now _ c.args.before _ c.is_err.ensures.negation c.if-is_err.false (cut _ _ _ _ c.pieces-n.ensures c.if-n-gt-MAX_PIECES.false c.applied-start.ensures
    (cut_end _ _ _ _ _ _ _ _ _ _ c.loop-i.invariant.cut c.loop-i-test.false))

pub returns-in_ok-push-clause-ran : goal.returns-in_ok-push-clause-ran
returns-in_ok-push-clause-ran c =
    let ran = rw (c.loop-i.invariant.goes_on.0, c.loop-i.invariant.goes_on.1) at c.in_ok-push.ensures.ran in
    let next = cut_on _ _ _ _ _ _ _ _ _ _ c.loop-i.invariant.cut (omega arith) c.point-end.ensures c.piece.ensures ran in
    after _ _ _ c.args.run.now.st c.args.self.now _ c.args.before _ c.is_err.ensures.negation c.if-is_err.false (cut _ _ _ _ c.pieces-n.ensures c.if-n-gt-MAX_PIECES.false c.applied-start.ensures
    (cut_end _ _ _ _ _ _ _ _ _ _ next (omega arith)))
