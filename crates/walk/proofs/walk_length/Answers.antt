-- `walk::walk_length` meets its contract: each spline adds at most 65,538. Assumes nothing.
use Prim.Native.Nat.{ℕ, ◌≤◌}
use mathlib.Core.Path.{◌≡◌}
use native.Mathlib.Omega.{arith}
use Rattle.primitives.specs.declared.SplineRow.{SplineRow}
use Rattle.walk.specs.Length.{spline_length_of}
use Rattle.walk.proofs.Lengths.{counted_start, counted_more, counted_end, spline_length_bound}
use Rattle.walk.proofs.walk_length.Goals as goal

total_fits : (k : ℕ) (last row : SplineRow) (len : ℕ) → len ≡ spline_length_of k last row → len ≤ 65538
total_fits k last row len e = rw e (spline_length_bound k last row)

pub loop-k-init : goal.loop-k-init
loop-k-init c = counted_start c.at-last.ensures

pub overflow_add-total : goal.overflow_add-total
overflow_add-total c = omega (arith, c.ranges.n, c.loop-k.invariant.small, c.loop-k-test.true, total_fits _ _ _ _ c.spline_length-total.ensures)

pub loop-k-preserved : goal.loop-k-preserved
loop-k-preserved c =
    counted_more c.loop-k.invariant c.loop-k-test.true c.at-row.ensures c.spline_length-total.ensures

pub returns : goal.returns
returns c = counted_end c.loop-k.invariant c.loop-k-test.false
