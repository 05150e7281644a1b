-- `leaves::parts::digits` meets its contract. Assumes nothing.
use mathlib.Core.Path.{refl}
use lib.Ieee.{binary32}
use Rattle.rounding.proofs.Parts.{sig_zero, sig_more}
use Rattle.leaves.proofs.parts.digits.Goals as goal

pub returns-then-b-eq0 : goal.returns-then-b-eq0
returns-then-b-eq0 c = sig_zero binary32 23 8 c.args.b refl refl c.if-b-eq0.true

pub returns-else-b-eq0 : goal.returns-else-b-eq0
returns-else-b-eq0 c = sig_more binary32 23 8 c.args.b refl refl c.if-b-eq0.false
