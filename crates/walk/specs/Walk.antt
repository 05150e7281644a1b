-- RULES, The walk: the walk as a list of items, each a command with the step's number and its quad. Assumes nothing.
use Rattle.std.specs.Prelude.{ℕ, zero, suc, ◌+◌, ◌-◌, Bool, ◌||◌, cond, List, [], ◌∷◌, ◌++◌, map, eqb, Float}
use Rattle.std.specs.Float.Ieee.{lt}
use Rattle.leaves.specs.Single.{◌⊘◌, whole32}
use Rattle.leaves.specs.Whole.{whole_up_of}
use Rattle.point.specs.declared.Setting.{Setting}
use Rattle.point.specs.declared.Setting.TheVariants.{Screen, Knife}
use Rattle.point.specs.Point.{minus_of, len_of}
use Rattle.command.specs.declared.PointCommand.{PointCommand}
use Rattle.command.specs.declared.PointCommand.TheVariants.{Start, Incr, End}
use Rattle.command.specs.Packing.{pack_of}
use Rattle.primitives.specs.declared.QuadRow.{QuadRow}
use Rattle.primitives.specs.declared.SplineRow.{SplineRow}
use Rattle.primitives.specs.Splines.{max_error}
use Rattle.tables.specs.Tables.{SplineTable, spline_at}

-- a Start and an End are no step; their items have step and quad 0, as in `populate_buffers`
pub record Item : Type 0 where
  pub command : PointCommand
  pub step : ℕ
  pub quad : ℕ

abbrev pub item : PointCommand → ℕ → ℕ → Item
item command step quad = record { command = command; step = step; quad = quad }

-- "For spline k with sum c, m is c rounded up to whole."
unfoldable pub subdivisions_of : SplineTable → ℕ → ℕ
subdivisions_of s k = whole_up_of (spline_at s k).curvature

-- "steps of size c/m"
unfoldable pub step_size_of : SplineTable → ℕ → Float
step_size_of s k = (spline_at s k).curvature ⊘ whole32 (subdivisions_of s k)

-- "Start k is written for the first spline, after a flagged one, or where the start is more than 0.0625 from the previous end."
abbrev pub starts_after_of : ℕ → SplineRow → SplineRow → Bool
starts_after_of k last row = eqb k 0 || last.contour || lt max_error (len_of (minus_of last.p2 row.p0))

unfoldable pub starts_of : SplineTable → ℕ → Bool
starts_of s k = starts_after_of k (spline_at s (k - 1)) (spline_at s k)

-- The cursor begins a spline where the one before left it. 02, Six: "in the knife setting the cursor begins each spline at that first quad".
unfoldable pub cursor_start_of : Setting → ℕ → ℕ → ℕ
cursor_start_of Screen first cursor = cursor
cursor_start_of Knife first cursor = first

-- "The quad cursor goes on by one at step p when p exceeds the cursor's sum"
abbrev pub cursor_at_of : Float → Float → ℕ → ℕ
cursor_at_of sum p cursor = cond (lt sum p) (cursor + 1) cursor

-- `rows` gives the row of each quad, whatever way the table lies
unfoldable pub cursor_at : (ℕ → QuadRow) → ℕ → ℕ → ℕ
cursor_at rows p cursor = cursor_at_of (rows cursor).partial_curvature (whole32 p) cursor

-- n steps from step p on
unfoldable pub steps_from : (ℕ → QuadRow) → Float → ℕ → ℕ → ℕ → List Item
steps_from rows size zero p cursor = []
steps_from rows size (suc n) p cursor = let i = cursor_at rows p cursor in item (Incr size) p i ∷ steps_from rows size n (p + 1) i

-- the cursor after n steps from step p on
unfoldable pub cursor_from : (ℕ → QuadRow) → ℕ → ℕ → ℕ → ℕ
cursor_from rows zero p cursor = cursor
cursor_from rows (suc n) p cursor = cursor_from rows n (p + 1) (cursor_at rows p cursor)

-- "and by one after each spline with m over 0"
unfoldable pub cursor_after : (ℕ → QuadRow) → SplineTable → ℕ → ℕ → ℕ
cursor_after rows s k cursor = cond (eqb (subdivisions_of s k) 0) cursor (cursor_from rows (subdivisions_of s k - 1) 1 cursor + 1)

-- "Then m-1 steps of size c/m; none when m is 0, and then 0/0 is not stored. Then End k."
unfoldable pub spline_items_of : (ℕ → QuadRow) → SplineTable → ℕ → ℕ → List Item
spline_items_of rows s k cursor =
    cond (starts_of s k) (item (Start k) 0 0 ∷ []) []
    ++ (steps_from rows (step_size_of s k) (subdivisions_of s k - 1) 1 cursor
    ++ (item (End k (spline_at s k).contour) 0 0 ∷ []))

-- n splines from spline k on
unfoldable pub walk_from : Setting → (ℕ → QuadRow) → SplineTable → ℕ → ℕ → ℕ → List Item
walk_from setting rows s zero k cursor = []
walk_from setting rows s (suc n) k cursor =
    let start = cursor_start_of setting (spline_at s k).first_quad cursor in
    spline_items_of rows s k start ++ walk_from setting rows s n (k + 1) (cursor_after rows s k start)

unfoldable pub walk_of : Setting → (ℕ → QuadRow) → SplineTable → ℕ → List Item
walk_of setting rows s n = walk_from setting rows s n 0 0

unfoldable pub word_of : Item → ℕ
word_of i = pack_of i.command

unfoldable pub words_of : List Item → List ℕ
words_of items = map word_of items
