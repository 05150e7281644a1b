-- `leaves::sixth::settle` meets its contract. The invariant: the root lies from r up to r + 2 ^ i, which is at most 2 ^ 24. Assumes nothing.
use Prim.Native.Nat.{ℕ, ◌+◌, ◌*◌, ◌^◌, ◌≤◌, ◌<◌}
use Rattle.leaves.proofs.sixth.settle.Given as goal

abbrev pub Inv : ℕ → ℕ → ℕ → Type 0
Inv n r i = (i ≤ 24) × (r ^ 6 ≤ n) × (n < (r + 2 ^ i) ^ 6) × (r + 2 ^ i ≤ 16777216)

abbrev pub invariant-loop-i : goal.invariant-loop-i
invariant-loop-i l = Inv (l.t * 2 ^ 96) l.r l.i
