-- `QuadColumnsMut::put` meets its contract: below the capacity a row is written, past it nothing. Assumes nothing.
use Prim.Native.Nat.{ℕ, ◌+◌, ◌-◌, ◌*◌, ◌≤◌, ◌<◌}
use mathlib.Core.List.{List}
use lib.Ieee.{Float}
use lib.ListN.{length}
use borrow.Rule.Slice.PartMut.{put_mid}
use Rattle.std.proofs.Common.{append_assoc}
use Rattle.std.proofs.lemmas.List.{drop-drop}
use Rattle.std.proofs.lemmas.List.Edits.{sets, sets-eq}
use Rattle.primitives.specs.declared.QuadRow.{QuadRow}
use mathlib.Core.Path.{◌≡◌, ◌∙◌}
use native.Mathlib.Omega.{arith}
use borrow.Author.Tests.{le-ltb}
use Rattle.tables.specs.Tables.{QuadTable, quad_capacity_of, numbers_of}
use Rattle.tables.specs.Lent.{quads_mut_of}
use Rattle.tables.proofs.RowLaws.{within, put_is, put_not}
use Rattle.tables.proofs.lent.QuadColumnsMut.put.Goals as goal

-- there is room for row i below the capacity of what is read
room : (q v : QuadTable) (i n : ℕ) → v ≡ q → n ≡ quad_capacity_of v → i < n → i < quad_capacity_of q
room q v i n e en h = rw (← e, ← en) h

none : (q v : QuadTable) (i n : ℕ) → v ≡ q → n ≡ quad_capacity_of v → n ≤ i → quad_capacity_of q ≤ i
none q v i n e en h = rw (← e, ← en) h

whole : {q v : QuadTable} (i : ℕ) {n : ℕ} → v ≡ q → n ≡ quad_capacity_of v → i < n → 15 * i + 15 ≤ length q.rows
whole {q} {v} i {n} e en h = within q i (room q v i n e en h)

pub overflow_mul-at : goal.overflow_mul-at
overflow_mul-at c = omega (arith, whole c.args.i c.view.ensures c.capacity.ensures c.if-i-capacity.true)

pub overflow_add-at : goal.overflow_add-at
overflow_add-at c = omega (arith, whole c.args.i c.view.ensures c.capacity.ensures c.if-i-capacity.true)

pub offset_bounds-self-at : goal.offset_bounds-self-at
offset_bounds-self-at c = omega (arith, whole c.args.i c.view.ensures c.capacity.ensures c.if-i-capacity.true)

pub slice_bounds-copy_from_slice-end : goal.slice_bounds-copy_from_slice-end
slice_bounds-copy_from_slice-end c = omega (arith, whole c.args.i c.view.ensures c.capacity.ensures c.if-i-capacity.true)

-- a row copied is a row set, number by number
laid : (l : List Float) (i : ℕ) (row : QuadRow) (vs : List Float) → vs ≡ numbers_of row → 15 * i + 15 ≤ length l
    → put_mid (15 * i) (15 * i + 15 - 15 * i) l vs ≡ sets l (15 * i) (numbers_of row)
unfolding numbers_of
laid l i row vs e h =
    let k : 15 * i + 15 - 15 * i ≡ 15 = omega arith in
    rw (k, e, sets-eq (numbers_of row) l (15 * i) h) (simp (append_assoc, drop-drop))

pub returns-then-i-capacity-clause-put : goal.returns-then-i-capacity-clause-put
returns-then-i-capacity-clause-put c =
    let q = quads_mut_of c.args.self.now in
    rw (
      put_is q c.args.i c.args.row (room q _ c.args.i _ c.view.ensures c.capacity.ensures c.if-i-capacity.true),
      c.write.ensures,
      laid c.args.self.now.quad_rows.now c.args.i c.args.row _ (c.copy_from_slice.ensures.after ∙ c.numbers.ensures) (whole c.args.i c.view.ensures c.capacity.ensures c.if-i-capacity.true),
    )

pub returns-else-i-capacity-clause-put : goal.returns-else-i-capacity-clause-put
returns-else-i-capacity-clause-put c =
    let q = quads_mut_of c.args.self.now in
    cc (put_not q c.args.i c.args.row (le-ltb _ _ (none q _ c.args.i _ c.view.ensures c.capacity.ensures c.if-i-capacity.false)))
