-- `listing::put_points` meets its contract: the points that are left, written after those already written. Assumes nothing.
use mathlib.Core.Path.{◌≡◌}
use Prim.Native.Nat.{◌+◌, ◌-◌, ◌*◌}
use lib.ListN.{length}
use lib.Seq.{sets}
use Rattle.listing.specs.Writing.{all_point_lines, column_points, points_in}
use Rattle.listing.proofs.writing.put_points.Given as goal

abbrev pub invariant-loop-i : goal.invariant-loop-i
invariant-loop-i l =
    let p = l.points in
    (l.next ≡ l.at + 28 * l.i)
    × (length l.buffer ≡ length l.initial.buffer)
    × (sets l.initial.buffer l.at (all_point_lines (points_in p)) ≡ sets l.buffer l.next (all_point_lines (column_points l.i (length p.x.now - l.i) p.x.now p.y.now p.end.now)))
