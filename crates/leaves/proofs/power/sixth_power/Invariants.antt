-- `leaves::power::sixth_power` meets its contract. The invariant: p holds the power of s that is reached. Assumes nothing.
use mathlib.Core.Path.{◌≡◌}
use Prim.Native.Nat.{◌^◌}
use Rattle.leaves.specs.Power.{Limbs, number}
use Rattle.leaves.proofs.power.sixth_power.Given as goal

abbrev pub invariant-loop : goal.invariant-loop
invariant-loop l = Limbs l.p × (number l.p ≡ l.s ^ l.counter)
