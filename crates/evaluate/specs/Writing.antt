-- Scaffolding: the walk of `deliver_of` (Delivery) written entry by entry, for the contracts of private functions in src/writing.rt; no promise rests on it.
-- Assumes nothing.
use Rattle.std.specs.Prelude.{ℕ, zero, suc, ◌+◌, Bool, false, cond, eqb, Float, set}
use Rattle.leaves.specs.Whole.{whole_up_of}
use Rattle.command.specs.declared.PointCommand.TheVariants.{Start, Incr, End}
use Rattle.command.specs.Packing.{pack_of}
use Rattle.columns.specs.Flags.{flag_byte_of}
use Rattle.point.specs.declared.Point.{Point}
use Rattle.point.specs.declared.Setting.{Setting}
use Rattle.point.specs.declared.Setting.TheVariants.{Screen, Knife}
use Rattle.primitives.specs.declared.QuadRow.{QuadRow}
use Rattle.primitives.specs.declared.SplineRow.{SplineRow}
use Rattle.tables.specs.Tables.{SplineTable, spline_at}
use Rattle.walk.specs.Walk.{cursor_start_of, cursor_at, starts_of}
use Rattle.walk.specs.Length.{steps_of, size_of}
use Rattle.evaluate.specs.declared.Place.{Place}
use Rattle.evaluate.specs.Evaluate.{Finished, finished, step_quad_of, step_point_of}
use Rattle.evaluate.specs.Output.{Output, output}

-- the outputs, and the place that comes next
pub record Written : Type 0 where
  pub output : Output
  pub place : Place

abbrev pub written : Output → Place → Written
written output place = record { output = output; place = place }

abbrev pub place_at : ℕ → ℕ → Place
place_at at cursor = record { at = at; cursor = cursor }

unfoldable pub write_entry_of : ℕ → ℕ → Finished → Output → Output
write_entry_of at word f o =
    output (set o.words at word) (set o.x at f.point.x) (set o.y at f.point.y) (set o.end at (flag_byte_of f.end))

unfoldable pub write_start_of : Bool → ℕ → Point → Place → Output → Written
write_start_of starts k first from o =
    cond starts
    (written (write_entry_of from.at (pack_of (Start k)) (finished first false) o) (place_at (from.at + 1) from.cursor))
    (written o from)

-- n steps from step p on
unfoldable pub write_steps_from : (ℕ → QuadRow) → Float → ℕ → ℕ → Place → Output → Written
write_steps_from rows size zero p from o = written o from
write_steps_from rows size (suc n) p from o =
    let i = cursor_at rows p from.cursor in
    write_steps_from rows size n (p + 1) (place_at (from.at + 1) i)
    (write_entry_of from.at (pack_of (Incr size)) (finished (step_point_of (step_quad_of rows i) size p) false) o)

unfoldable pub write_steps_of : (ℕ → QuadRow) → Float → ℕ → Place → Output → Written
write_steps_of rows size n from o = write_steps_from rows size n 1 from o

-- "and by one after each spline with m over 0". For the knife the next spline begins at its own first quad, so the cursor may stay.
unfoldable pub end_cursor_of : Setting → Float → ℕ → ℕ
end_cursor_of Screen sum cursor = cond (eqb (whole_up_of sum) 0) cursor (cursor + 1)
end_cursor_of Knife sum cursor = cursor

unfoldable pub write_spline_of : Setting → (ℕ → QuadRow) → ℕ → Bool → SplineRow → Place → Output → Written
write_spline_of setting rows k starts row from o =
    let a = write_start_of starts k row.p0 (place_at from.at (cursor_start_of setting row.first_quad from.cursor)) o in
    let b = write_steps_of rows (size_of row.curvature) (steps_of row.curvature) a.place a.output in
    let o' = write_entry_of b.place.at (pack_of (End k row.contour)) (finished row.p2 row.contour) b.output in
    written o' (place_at (b.place.at + 1) (end_cursor_of setting row.curvature b.place.cursor))

-- n splines from spline k on
unfoldable pub write_walk_from : Setting → (ℕ → QuadRow) → SplineTable → ℕ → ℕ → Place → Output → Output
write_walk_from setting rows s zero k from o = o
write_walk_from setting rows s (suc n) k from o =
    let w = write_spline_of setting rows k (starts_of s k) (spline_at s k) from o in
    write_walk_from setting rows s n (k + 1) w.place w.output

unfoldable pub write_walk_of : Setting → (ℕ → QuadRow) → SplineTable → ℕ → Output → Output
write_walk_of setting rows s n o = write_walk_from setting rows s n 0 (place_at 0 0) o
