-- `leaves::small::clamp` meets its contract. Assumes nothing.
use mathlib.Core.Path.{refl}
use mathlib.Core.Bool.{true, false}
use lib.Ieee.{lt}
use Rattle.leaves.proofs.Signs.{clamp_is}
use Rattle.leaves.proofs.small.clamp.Goals as goal

pub returns-then-x-lo : goal.returns-then-x-lo
returns-then-x-lo c = let a = c.args in clamp_is a.x a.lo a.hi true (lt a.hi a.x) c.if-x-lo.true refl

pub returns-then-hi-x : goal.returns-then-hi-x
returns-then-hi-x c = let a = c.args in clamp_is a.x a.lo a.hi false true c.if-x-lo.false c.if-hi-x.true

pub returns-else-hi-x : goal.returns-else-hi-x
returns-else-hi-x c = let a = c.args in clamp_is a.x a.lo a.hi false false c.if-x-lo.false c.if-hi-x.false
