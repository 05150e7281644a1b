-- `text::put_bytes` meets its contract: the bytes that are left, written after those already written. Assumes nothing.
use mathlib.Core.Path.{◌≡◌}
use Prim.Native.Nat.{◌+◌, ◌≤◌}
use lib.ListN.{length, drop}
use lib.Seq.{sets}
use Rattle.text.proofs.fixed.put_bytes.Given as goal

abbrev pub invariant-loop-i : goal.invariant-loop-i
invariant-loop-i l = (l.i ≤ length l.bytes) × (sets l.initial.buffer l.at l.bytes ≡ sets l.buffer (l.at + l.i) (drop l.i l.bytes))
