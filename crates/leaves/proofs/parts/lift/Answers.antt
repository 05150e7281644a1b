-- `leaves::parts::lift` meets its contract. Assumes nothing.
use mathlib.Core.Path.{◌≡◌, sym, subst}
use Prim.Native.Nat.{ℕ, zero, suc, ◌+◌, ◌-◌, ◌*◌, ◌^◌, ◌≤◌, ◌<◌}
use native.Mathlib.Omega.{arith}
use lib.Count.{count_leading_zeros}
use Rattle.rounding.proofs.Lifts.{lifted}
use Rattle.leaves.proofs.parts.lift.Goals as goal

record Lifted (m d z : ℕ) : Type 0 where
  room : 64 - d ≤ z
  less : z - (64 - d) < d
  low : 2 ^ (d - 1) ≤ m * 2 ^ (z - (64 - d))
  high : m * 2 ^ (z - (64 - d)) < 2 ^ d

to : (m d : ℕ) → 0 < d → d ≤ 64 → 0 < m → m < 2 ^ d → Lifted m d (count_leading_zeros 64 m)
to m zero P T M L = absurd (omega arith)
to m (suc g) P T M L =
    let e : 64 - suc g + g ≡ 63 = omega arith in
    let h = lifted m (64 - suc g) g e M L in
    let s : suc g - 1 ≡ g = omega arith in
    record {
      room = h.0;
      less = omega (arith, h.1);
      low = subst (λ (x : ℕ). 2 ^ x ≤ m * 2 ^ (count_leading_zeros 64 m - (64 - suc g))) (sym s) h.2;
      high = h.3;
    }

pub overflow_sub-result : goal.overflow_sub-result
overflow_sub-result g c = c.requires.most

pub overflow_sub-result-2 : goal.overflow_sub-result-2
overflow_sub-result-2 g c = (to c.args.m g.row.DIGITS c.requires.some c.requires.most c.requires.m_nonzero c.requires.m_bound).room

pub returns : goal.returns
returns g c = let h = to c.args.m g.row.DIGITS c.requires.some c.requires.most c.requires.m_nonzero c.requires.m_bound in (h.less, h.low, h.high)
