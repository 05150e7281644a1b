-- `QuadColumns::row_at` meets its contract. Assumes nothing.
use mathlib.Core.Path.{refl, ap, ◌∙◌}
use Prim.Native.Nat.{◌*◌}
use native.Mathlib.Omega.{arith}
use lib.Ieee.{of_bits}
use lib.ListN.{take}
use borrow.Author.Tests.{le-ltb}
use Rattle.std.proofs.lemmas.List.{take_all, length-drop}
use Rattle.tables.specs.Lent.{quads_of}
use Rattle.tables.proofs.Written.{row_read, row_not_whole}
use Rattle.tables.proofs.lent.QuadColumns.row_at.Goals as goal

pub returns-then-i-whole_rows : goal.returns-then-i-whole_rows
returns-then-i-whole_rows c =
    let q = quads_of c.args.self.now in
    let i = c.args.i in
    let first = rw c.unwrap.ensures at c.first_chunk.ensures.cases in
    let rest = take_all _ _ (omega (arith, length-drop (15 * i) q.rows)) in
    c.quad_row.ensures ∙ rw c.read-spline.ensures (row_read q i (rw c.whole_rows.ensures at c.if-i-whole_rows.true) (first.same ∙ ap (take 15) rest))

pub returns : goal.returns
unfolding of_bits
returns c =
    let q = quads_of c.args.self.now in
    let i = c.args.i in
    c.quad_row-2.ensures ∙ rw c.read-spline.ensures (row_not_whole q i (le-ltb _ _ (rw c.whole_rows.ensures at c.if-i-whole_rows.false)) refl)
