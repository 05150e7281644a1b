-- `leaves::root::settle` meets its contract. The first loop ends with n ≤ r * r + r, which the second keeps; the second's test is the rest. The measures: how
-- far r is from its bound, and r. Assumes nothing.
use Prim.Native.Nat.{◌+◌, ◌-◌, ◌*◌, ◌<◌, ◌≤◌}
use Rattle.leaves.proofs.root.settle.Given as goal

abbrev pub invariant-loop-r : goal.invariant-loop-r
invariant-loop-r l = l.r < 268435456

abbrev pub decreases-loop-r : goal.decreases-loop-r
decreases-loop-r l = 268435456 - l.r

abbrev pub invariant-loop-r-2 : goal.invariant-loop-r-2
invariant-loop-r-2 l = (l.r < 268435456) × (l.n ≤ l.r * l.r + l.r)

abbrev pub decreases-loop-r-2 : goal.decreases-loop-r-2
decreases-loop-r-2 l = l.r
