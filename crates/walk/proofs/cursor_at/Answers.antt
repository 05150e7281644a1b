-- `walk::cursor_at` meets its contract: where no row is whole the sum is a NaN, which no step exceeds. Assumes nothing.
use Prim.Native.Nat.{ℕ, ◌+◌, ◌*◌, ◌<◌}
use native.Mathlib.Omega.{arith}
use mathlib.Core.Path.{◌≡◌, refl}
use mathlib.Core.Bool.{Bool, true, false, cond}
use mathlib.Core.List.{List}
use lib.Dec.{ltb}
use lib.Ieee.{Float, nan, lt}
use lib.ListN.{get_or}
use borrow.Author.Tests.{ltb-true}
use Rattle.tables.specs.Tables.{whole_rows_of, number_at, sum_at_of}
use Rattle.walk.proofs.cursor_at.Goals as goal

-- a sum that a step exceeds is that of a whole row
whole : (rows : List Float) (p : Float) (cursor : ℕ) → lt (sum_at_of rows cursor) p ≡ true → cursor < whole_rows_of rows
unfolding number_at lt
whole rows p cursor h = go (ltb cursor (whole_rows_of rows)) refl h
  where
    go : (b : Bool) → ltb cursor (whole_rows_of rows) ≡ b → lt (cond b (get_or rows (15 * cursor + 14) nan) nan) p ≡ true → cursor < whole_rows_of rows
    go true e h = ltb-true cursor (whole_rows_of rows) e
    go false e h = absurd (let z : ◌≡◌ {A = ℕ} 0 1 = cc in omega arith)

pub overflow_add-result : goal.overflow_add-result
overflow_add-result c =
    let a = c.args in
    omega (arith, whole a.quads.now.quad_rows.now a.p a.cursor (rw (← c.sum_at.ensures) c.if-p-sum_at.true))
