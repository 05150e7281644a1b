-- A word as a command meets its contract: its masks keep the fields that the definition reads. Assumes nothing.
use mathlib.Core.Path.{sym, subst}
use mathlib.Core.Bool.{Bool, not}
use native.Mathlib.Omega.{arith}
use lib.Dec.{T}
use Rattle.leaves.specs.Bits.{float_of}
use Rattle.command.proofs.Fields.{is_step, is_start, is_end_lem, step_real, marked, unmarked, index, plus, minus, flag}
use Rattle.command.proofs.PointCommandFromU32.from.Goals as goal

pub float_from_bits-step : goal.float_from_bits-step
float_from_bits-step c = subst (λ (b : Bool). T (not b)) (sym (step_real _ (unmarked _ c.if-mark-ne-START_WORD.true))) tt

pub returns-then-mark-ne-START_WORD : goal.returns-then-mark-ne-START_WORD
unfolding float_of
returns-then-mark-ne-START_WORD c = sym (is_step _ (unmarked _ c.if-mark-ne-START_WORD.true))

pub returns-then-sign-eq0 : goal.returns-then-sign-eq0
returns-then-sign-eq0 c = let w = c.args.word in rw (index w) (sym (is_start w (marked w c.if-mark-ne-START_WORD.false) (plus w (omega arith) c.if-sign-eq0.true)))

pub returns : goal.returns
returns c = let w = c.args.word in rw (index w, flag w) (sym (is_end_lem w (marked w c.if-mark-ne-START_WORD.false) (minus w c.if-sign-eq0.false)))
