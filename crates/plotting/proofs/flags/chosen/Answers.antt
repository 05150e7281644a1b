-- `plotting::flags::chosen` meets its contract: the flag is compared with each name in turn. Assumes nothing.
use Rattle.plotting.proofs.ChoiceLaws.{same, is_knife, is_screen, is_unknown}
use Rattle.plotting.proofs.flags.chosen.Goals as goal

pub returns-then-eq : goal.returns-then-eq
returns-then-eq c = is_knife _ (same _ _ _ _ _ c.eq.ensures c.as_slice.ensures c.if-eq.true)

pub returns-then-eq-2 : goal.returns-then-eq-2
returns-then-eq-2 c =
    is_screen _ (same _ _ _ _ _ c.eq.ensures c.as_slice.ensures c.if-eq.false) (same _ _ _ _ _ c.eq-2.ensures c.as_slice-2.ensures c.if-eq-2.true)

pub returns : goal.returns
returns c =
    is_unknown _ (same _ _ _ _ _ c.eq.ensures c.as_slice.ensures c.if-eq.false) (same _ _ _ _ _ c.eq-2.ensures c.as_slice-2.ensures c.if-eq-2.false)
