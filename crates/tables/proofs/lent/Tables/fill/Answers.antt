-- `Tables::fill` meets its contract: each iteration runs one command more. Assumes nothing.
use mathlib.Core.Path.{refl, sym}
use native.Mathlib.Omega.{arith}
use Rattle.std.proofs.Common.{rules, Err}
use Rattle.answer.proofs.Laws.{ok_is_done}
use Rattle.tables.proofs.Taken.{take_on, take_stop, take_end, filled}
use Rattle.tables.proofs.lent.Tables.fill.Goals as goal

pub loop-k-preserved : goal.loop-k-preserved
loop-k-preserved c =
    let ran = rw (c.loop-k.invariant.goes_on.0, c.loop-k.invariant.goes_on.1) at c.in_default.ensures.ran in
    record {
      same = search rules;
      goes_on = search rules;
      taken =
          take_on _ _ _ _ _ _ _ _ c.loop-k.invariant.taken (record { x = omega arith; y = omega arith; weight = omega arith }) c.loop-k-test.true refl
          ran (rw c.uses.ensures at c.saturating_add-j.ensures);
    }

pub returns-in-Err-clause-filled : goal.returns-in-Err-clause-filled
returns-in-Err-clause-filled c =
    let ran = rw (c.loop-k.invariant.goes_on.0, c.loop-k.invariant.goes_on.1) at c.in-Err.ensures.ran in
    let next = take_on _ _ _ _ _ _ _ _ c.loop-k.invariant.taken (record { x = omega arith; y = omega arith; weight = omega arith }) c.loop-k-test.true refl ran refl in
    filled _ _ _ _ _ (rw c.view.ensures at c.capacity.ensures) (rw c.view-2.ensures at c.capacity-2.ensures) c.min-n.ensures refl
    (take_stop _ _ _ _ _ _ _ _ next (sym (ok_is_done (Err c.in-Err.refusal))))

pub returns-clause-filled : goal.returns-clause-filled
returns-clause-filled c =
    filled _ _ _ _ _ (rw c.view.ensures at c.capacity.ensures) (rw c.view-2.ensures at c.capacity-2.ensures) c.min-n.ensures refl
    (take_end _ _ _ _ _ _ _ _ c.loop-k.invariant.taken c.loop-k-test.false)
