-- A row of 15 numbers, as it is read, is the table's row. Assumes nothing.
use mathlib.Core.Path.{◌≡◌, ◌∙◌}
use mathlib.Core.List.{List}
use mathlib.Core.Bool.{false}
use Prim.Native.Nat.{ℕ, ◌+◌, ◌*◌, ◌<◌}
use lib.Dec.{ltb, lit<}
use lib.Ieee.{Float, nan}
use lib.ListN.{get_or, take, drop, replicate}
use lib.Seq.{get_or-take, get_or-drop}
use borrow.Author.Tests.{lt-ltb}
use Rattle.tables.specs.Numbers.{row_of}
use Rattle.tables.specs.Tables.{QuadTable, whole_rows_of, number_at, quad_row_at}

module _ (q : QuadTable) (i : ℕ) {numbers : List Float} where
  -- a row that is whole, from its 15 numbers
  pub row_read : i < whole_rows_of q.rows → numbers ≡ take 15 (drop (15 * i) q.rows)
      → row_of numbers (get_or q.partial_splines i 0) ≡ quad_row_at q i
  unfolding quad_row_at number_at
  row_read h e =
      rw (
        e,
        lt-ltb i (whole_rows_of q.rows) h,
        at 0 (lit< tt),
        at 1 (lit< tt),
        at 2 (lit< tt),
        at 3 (lit< tt),
        at 4 (lit< tt),
        at 5 (lit< tt),
        at 6 (lit< tt),
        at 7 (lit< tt),
        at 8 (lit< tt),
        at 9 (lit< tt),
        at 10 (lit< tt),
        at 11 (lit< tt),
        at 12 (lit< tt),
        at 13 (lit< tt),
        at 14 (lit< tt),
      )
    where
      at : (k : ℕ) → k < 15 → get_or (take 15 (drop (15 * i) q.rows)) k nan ≡ get_or q.rows (15 * i + k) nan
      at k h = get_or-take 15 (drop (15 * i) q.rows) k nan h ∙ get_or-drop (15 * i) q.rows k nan

  pub row_not_whole : ltb i (whole_rows_of q.rows) ≡ false → numbers ≡ replicate 15 nan → row_of numbers (get_or q.partial_splines i 0) ≡ quad_row_at q i
  unfolding quad_row_at number_at
  row_not_whole e en = rw (e, en)
