-- `leaves::parts::place` meets its contract. Assumes nothing.
use mathlib.Core.Path.{refl, sym, ap, ◌∙◌}
use Prim.Native.Nat.{ℕ, ◌-◌}
use lib.Ieee.{binary32}
use Rattle.rounding.proofs.Parts.{place_is}
use Rattle.leaves.proofs.parts.place.Goals as goal

pub returns-then-x-eq0 : goal.returns-then-x-eq0
returns-then-x-eq0 c = ap (λ (x : ℕ). x - 1) (sym c.if-x-eq0.true) ∙ place_is binary32 23 8 c.args.b refl refl

pub returns-else-x-eq0 : goal.returns-else-x-eq0
returns-else-x-eq0 c = place_is binary32 23 8 c.args.b refl refl
