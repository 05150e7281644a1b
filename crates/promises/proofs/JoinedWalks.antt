-- Contours' tables stand one after the other in those of the whole: the knife's walk over the whole, its points, its commands, its length and the counts
-- are theirs in turn, with quads and splines numbered on. Assumes nothing.
use Prim.Native.Nat.{ℕ, zero, suc, ◌+◌}
use mathlib.Core.Path.{◌≡◌, refl, sym, ap, ap₂, ◌∙◌}
use mathlib.Core.List.{List, [], ◌∷◌, ◌++◌, map, flat_map, append_assoc, map-append}
use native.Mathlib.Nat.{add_assoc, add-zero, zero-add, suc-add}
use lib.ListN.{length, length-append, length-map}
use Rattle.facts.proofs.Numbers.{shift_one}
use Rattle.command.specs.declared.PointCommand.{PointCommand}
use Rattle.command.specs.declared.PointCommand.TheVariants.{Start, Incr, End}
use Rattle.point.specs.declared.Setting.{Setting}
use Rattle.point.specs.declared.Setting.TheVariants.{Knife}
use Rattle.primitives.specs.declared.QuadRow.{QuadRow}
use Rattle.tables.specs.Tables.{SplineTable, quad_row_at, spline_at}
use Rattle.tables.specs.Run.{World}
use Rattle.walk.specs.Walk.{Item, cursor_start_of, cursor_after, spline_items_of, walk_from, walk_of}
use Rattle.walk.proofs.Lengths.{walk_length_lem}
use Rattle.walk.proofs.Cursors.{any_cursor}
use Rattle.evaluate.specs.Evaluate.{Finished, item_point_of, points_of}
use Rattle.promises.specs.Nests.{total, numbered_on}
use Rattle.promises.proofs.Walking.{command_of}
use Rattle.promises.proofs.Flattened.{items_in}
use Rattle.tables.proofs.Standing.{StandFrom}
use Rattle.promises.proofs.ShiftedWalks.{placed_on, item_on, contour_on, contour_used, points_on}

-- the commands of each, with n splines before the first
unfoldable pub commands_from : ℕ → List World → List PointCommand
commands_from n [] = []
commands_from n (a ∷ rest) = map (numbered_on n) (map command_of (items_in Knife a)) ++ commands_from (n + a.state.splines) rest

-- the items of each, with bq quads and bs splines before the first
unfoldable pub items_from : ℕ → ℕ → List World → List Item
items_from bq bs [] = []
items_from bq bs (a ∷ rest) = map (item_on bq bs) (items_in Knife a) ++ items_from (bq + a.state.quads) (bs + a.state.splines) rest

-- ---- the knife's walk may be cut at any spline, since it does not depend on the cursor that it comes with
module _ (rows : ℕ → QuadRow) (s : SplineTable) where
  pub walk_splits : (n m k c c' : ℕ) → walk_from Knife rows s (n + m) k c ≡ walk_from Knife rows s n k c ++ walk_from Knife rows s m (k + n) c'
  unfolding walk_from
  walk_splits zero m k c c' =
      any_cursor rows s (0 + m) k c c'
      ∙ ap₂ (λ (x y : ℕ). walk_from Knife rows s x y c') (zero-add m) (sym (add-zero k))
  walk_splits (suc n) m k c c' =
      let b = cursor_start_of Knife (spline_at s k).first_quad c in
      let items = spline_items_of rows s k b in
      let next = cursor_after rows s k b in
      ap (λ (x : ℕ). walk_from Knife rows s x k c) (suc-add n m)
      ∙ ap (λ (x : List Item). items ++ x)
      (walk_splits n m (k + 1) next c'
      ∙ ap (λ (x : ℕ). walk_from Knife rows s n (k + 1) next ++ walk_from Knife rows s m x c') (shift_one k n))
      ∙ sym (append_assoc items (walk_from Knife rows s n (k + 1) next) (walk_from Knife rows s m (k + suc n) c'))

-- ---- the counts
pub counts_from : (whole : World) (bq bs : ℕ) (alones : List World) → StandFrom whole bq bs alones
    → (whole.state.quads ≡ bq + total (λ a. a.state.quads) alones) × (whole.state.splines ≡ bs + total (λ a. a.state.splines) alones)
unfolding total
counts_from whole bq bs [] h = (h.0 ∙ sym (add-zero bq), h.1 ∙ sym (add-zero bs))
counts_from whole bq bs (a ∷ rest) h =
    let z = counts_from whole (bq + a.state.quads) (bs + a.state.splines) rest h.1 in
    (z.0 ∙ add_assoc bq a.state.quads _, z.1 ∙ add_assoc bs a.state.splines _)

pub counts : (whole : World) (alones : List World) → StandFrom whole 0 0 alones
    → (whole.state.quads ≡ total (λ a. a.state.quads) alones) × (whole.state.splines ≡ total (λ a. a.state.splines) alones)
counts whole alones h =
    let z = counts_from whole 0 0 alones h in
    (z.0 ∙ zero-add _, z.1 ∙ zero-add _)

-- ---- the items
pub walk_from_lem : (whole : World) (bq bs : ℕ) (alones : List World) (c : ℕ) → StandFrom whole bq bs alones
    → walk_from Knife (quad_row_at whole.quads) whole.splines (total (λ a. a.state.splines) alones) bs c ≡ items_from bq bs alones
unfolding total items_from walk_from walk_of
walk_from_lem whole bq bs [] c h = refl
walk_from_lem whole bq bs (a ∷ rest) c h =
    walk_splits (quad_row_at whole.quads) whole.splines a.state.splines (total (λ a. a.state.splines) rest) bs c 0
    ∙ ap₂ (λ (x y : List Item). x ++ y) (contour_on bq bs whole a h.0 c 0)
    (walk_from_lem whole (bq + a.state.quads) (bs + a.state.splines) rest 0 h.1)

pub items_join : (whole : World) (alones : List World) → StandFrom whole 0 0 alones → items_in Knife whole ≡ items_from 0 0 alones
unfolding walk_of
items_join whole alones h =
    ap (λ (n : ℕ). walk_from Knife (quad_row_at whole.quads) whole.splines n 0 0) (counts whole alones h).1 ∙ walk_from_lem whole 0 0 alones 0 h

-- ---- their points
abbrev pub points_in : Setting → World → List Finished
points_in setting w = points_of (quad_row_at w.quads) w.splines (items_in setting w)

points_from : (whole : World) (bq bs : ℕ) (alones : List World) → StandFrom whole bq bs alones
    → points_of (quad_row_at whole.quads) whole.splines (items_from bq bs alones) ≡ flat_map (points_in Knife) alones
unfolding flat_map items_from points_of
points_from whole bq bs [] h = refl
points_from whole bq bs (a ∷ rest) h =
    map-append (item_point_of (quad_row_at whole.quads) whole.splines) (map (item_on bq bs) (items_in Knife a)) _
    ∙ ap₂ (λ (x y : List Finished). x ++ y) (points_on bq bs whole a h.0 (items_in Knife a) (contour_used bq bs whole a h.0))
    (points_from whole (bq + a.state.quads) (bs + a.state.splines) rest h.1)

pub points_join : (whole : World) (alones : List World) → StandFrom whole 0 0 alones → points_in Knife whole ≡ flat_map (points_in Knife) alones
points_join whole alones h =
    ap (points_of (quad_row_at whole.quads) whole.splines) (items_join whole alones h) ∙ points_from whole 0 0 alones h

-- ---- their commands
placed_command : (bq bs : ℕ) (command : PointCommand) (step quad : ℕ) → (placed_on bq bs command step quad).command ≡ numbered_on bs command
placed_command bq bs (Start k) step quad = refl
placed_command bq bs (Incr size) step quad = refl
placed_command bq bs (End k flag) step quad = refl

commands_on : (bq bs : ℕ) (items : List Item) → map command_of (map (item_on bq bs) items) ≡ map (numbered_on bs) (map command_of items)
commands_on bq bs [] = refl
commands_on bq bs (i ∷ items) =
    ap₂ (λ (c : PointCommand) (cs : List PointCommand). c ∷ cs) (placed_command bq bs i.command i.step i.quad) (commands_on bq bs items)

commands_from_lem : (bq bs : ℕ) (alones : List World) → map command_of (items_from bq bs alones) ≡ commands_from bs alones
unfolding commands_from items_from
commands_from_lem bq bs [] = refl
commands_from_lem bq bs (a ∷ rest) =
    map-append command_of (map (item_on bq bs) (items_in Knife a)) _
    ∙ ap₂ (λ (x y : List PointCommand). x ++ y) (commands_on bq bs (items_in Knife a)) (commands_from_lem (bq + a.state.quads) (bs + a.state.splines) rest)

pub commands_join : (whole : World) (alones : List World) → StandFrom whole 0 0 alones → map command_of (items_in Knife whole) ≡ commands_from 0 alones
commands_join whole alones h = ap (map command_of) (items_join whole alones h) ∙ commands_from_lem 0 0 alones

-- ---- how many they are, in both settings
pub same_length : (setting setting' : Setting) (w : World) → length (items_in setting w) ≡ length (items_in setting' w)
same_length setting setting' w =
    walk_length_lem setting (quad_row_at w.quads) w.splines w.state.splines
    ∙ sym (walk_length_lem setting' (quad_row_at w.quads) w.splines w.state.splines)

length_from_lem : (setting : Setting) (bq bs : ℕ) (alones : List World) → length (items_from bq bs alones) ≡ total (λ a. length (items_in setting a)) alones
unfolding total items_from
length_from_lem setting bq bs [] = refl
length_from_lem setting bq bs (a ∷ rest) =
    length-append (map (item_on bq bs) (items_in Knife a)) _
    ∙ ap₂ (λ (x y : ℕ). x + y) (length-map (items_in Knife a) (item_on bq bs) ∙ same_length Knife setting a)
    (length_from_lem setting (bq + a.state.quads) (bs + a.state.splines) rest)

pub length_join : (setting : Setting) (whole : World) (alones : List World) → StandFrom whole 0 0 alones
    → length (items_in setting whole) ≡ total (λ a. length (items_in setting a)) alones
length_join setting whole alones h =
    same_length setting Knife whole ∙ ap length (items_join whole alones h) ∙ length_from_lem setting 0 0 alones
