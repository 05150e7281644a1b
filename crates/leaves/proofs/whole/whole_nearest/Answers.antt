-- `leaves::whole::whole_nearest` meets its contract. Assumes nothing.
use Prim.Native.Nat.{ℕ, ◌*◌, ◌^◌, ◌<◌, ◌≤◌}
use native.Mathlib.Omega.{arith}
use native.Mathlib.Nat.{lt_of_lt_of_le}
use lib.Pow.{pow_mono}
use Rattle.leaves.proofs.WholeNear.{near_none}
use Rattle.leaves.proofs.whole.whole_nearest.Goals as goal

pub returns-then-d-gt38 : goal.returns-then-d-gt38
returns-then-d-gt38 c =
    let a = c.args in near_none a.t (2 ^ a.d) (lt_of_lt_of_le (twice a.t c.requires) (pow_mono (far a.d c.if-d-gt38.true)))
  where
    far : (d : ℕ) → 38 < d → 25 ≤ d
    far d h = omega arith

    twice : (t : ℕ) → t < 16777216 → 2 * t < 33554432
    twice t h = omega arith
