-- `leaves::whole::whole_below` meets its contract. Assumes nothing.
use mathlib.Core.Path.{sym}
use Prim.Native.Nat.{ℕ, ◌<◌, ◌≤◌}
use native.Mathlib.Omega.{arith}
use native.Mathlib.Nat.{div-eq_of_lt, lt_of_lt_of_le}
use lib.Pow.{pow_mono}
use Rattle.leaves.proofs.whole.whole_below.Goals as goal

pub returns-then-d-gt63 : goal.returns-then-d-gt63
returns-then-d-gt63 c = sym (div-eq_of_lt (lt_of_lt_of_le c.ranges.t.fits (pow_mono (far c.args.d c.if-d-gt63.true))))
  where
    far : (d : ℕ) → 63 < d → 64 ≤ d
    far d h = omega arith
