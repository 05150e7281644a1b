-- `leaves::whole::whole_above` meets its contract. Assumes nothing.
use Prim.Native.Nat.{ℕ, ◌^◌, ◌<◌, ◌≤◌}
use native.Mathlib.Omega.{arith}
use native.Mathlib.Nat.{lt_of_lt_of_le, le_of_lt}
use lib.Pow.{pow_mono}
use Rattle.leaves.proofs.WholeUp.{up_one}
use Rattle.leaves.proofs.whole.whole_above.Goals as goal

pub returns-else-t-eq0 : goal.returns-else-t-eq0
returns-else-t-eq0 c =
    let a = c.args in
    up_one a.t (2 ^ a.d) (le_of_lt (lt_of_lt_of_le c.requires (pow_mono (far a.d c.if-d-gt38.true)))) c.if-t-eq0.false
  where
    far : (d : ℕ) → 38 < d → 24 ≤ d
    far d h = omega arith
