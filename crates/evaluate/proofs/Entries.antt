-- Writing a walk entry by entry leaves what `write_output` says, and where each part of it ends. Assumes nothing.
use Prim.Native.Nat.{ℕ, zero, suc, ◌+◌, ◌-◌, ◌≤◌}
use native.Mathlib.Nat.{add-zero}
use native.Mathlib.Numerals.{add-one}
use native.Mathlib.Omega.{arith}
use mathlib.Core.Path.{◌≡◌, refl, sym, ◌∙◌, ap, ap₂, subst}
use mathlib.Core.Bool.{Bool, true, false, ◌&&◌, cond, and-eq-true_iff}
use mathlib.Core.List.{List, [], ◌∷◌, ◌++◌, map}
use lib.Dec.{leb, eqb}
use lib.ListN.{length, drop, length-append, length-map}
use lib.Seq.{sets, sets-eq}
use lib.Ieee.{Float, lt}
use borrow.Author.Tests.{leb-true, ne_eqb}
use Rattle.facts.proofs.Numbers.{shift_one}
use Rattle.leaves.specs.Single.{whole32}
use Rattle.columns.specs.Flags.{flag_byte_of}
use Rattle.command.specs.declared.PointCommand.TheVariants.{Start, End}
use Rattle.command.specs.Packing.{pack_of}
use Rattle.point.specs.declared.Setting.{Setting}
use Rattle.point.specs.declared.Setting.TheVariants.{Screen, Knife}
use Rattle.primitives.specs.declared.QuadRow.{QuadRow}
use Rattle.tables.specs.Tables.{SplineTable, spline_at}
use Rattle.walk.specs.Walk.{Item, item, subdivisions_of, step_size_of, starts_of, cursor_start_of, cursor_at, steps_from, cursor_from, cursor_after}
use Rattle.walk.specs.Walk.{spline_items_of, walk_from, walk_of, word_of, words_of}
use Rattle.walk.proofs.Lengths.{steps_length}
use Rattle.walk.proofs.Cursors.{any_cursor}
use Rattle.evaluate.specs.declared.Place.{Place}
use Rattle.evaluate.specs.Evaluate.{Finished, finished, command_point_of, item_point_of, points_of}
use Rattle.evaluate.specs.Output.{Output, output, over, fits_output, write_output}
use Rattle.evaluate.specs.Writing.{Written, written, place_at, write_entry_of, write_start_of, write_steps_from, write_steps_of, end_cursor_of, write_spline_of}
use Rattle.evaluate.specs.Writing.{write_walk_from, write_walk_of}

-- ---- a list of items, written from an entry on
unfoldable pub write_items : (ℕ → QuadRow) → SplineTable → ℕ → List Item → Output → Output
write_items rows s at [] o = o
write_items rows s at (i ∷ items) o = write_items rows s (at + 1) items (write_entry_of at (word_of i) (item_point_of rows s i) o)

items_append : (rows : ℕ → QuadRow) (s : SplineTable) (at : ℕ) (xs ys : List Item) (o : Output)
    → write_items rows s at (xs ++ ys) o ≡ write_items rows s (at + length xs) ys (write_items rows s at xs o)
unfolding write_items
items_append rows s at [] ys o = ap (λ (a : ℕ). write_items rows s a ys o) (sym (add-zero at))
items_append rows s at (x ∷ xs) ys o =
    let o' = write_entry_of at (word_of x) (item_point_of rows s x) o in
    items_append rows s (at + 1) xs ys o' ∙ ap (λ (a : ℕ). write_items rows s a ys (write_items rows s (at + 1) xs o')) (shift_one at (length xs))

-- ---- the parts of a spline
pub cursor_from_bound : (rows : ℕ → QuadRow) (n p cursor : ℕ) → cursor_from rows n p cursor ≤ cursor + n
unfolding cursor_from cursor_at
cursor_from_bound rows zero p cursor = omega arith
cursor_from_bound rows (suc n) p cursor =
    let a = cursor_from_bound rows n (p + 1) (cursor_at rows p cursor) in
    let b = step (lt (rows cursor).partial_curvature (whole32 p)) in
    omega arith
  where
    step : (t : Bool) → cond t (cursor + 1) cursor ≤ cursor + 1
    step true = omega arith
    step false = omega arith

pub steps_place : (rows : ℕ → QuadRow) (size : Float) (n p : ℕ) (from : Place) (o : Output)
    → (write_steps_from rows size n p from o).place ≡ place_at (from.at + n) (cursor_from rows n p from.cursor)
unfolding write_steps_from cursor_from
steps_place rows size zero p from o = ap (λ (a : ℕ). place_at a from.cursor) (sym (add-zero from.at))
steps_place rows size (suc n) p from o =
    let i = cursor_at rows p from.cursor in
    steps_place rows size n (p + 1) (place_at (from.at + 1) i) _ ∙ ap (λ (a : ℕ). place_at a (cursor_from rows n (p + 1) i)) (shift_one from.at n)

steps_output : (rows : ℕ → QuadRow) (s : SplineTable) (size : Float) (n p : ℕ) (from : Place) (o : Output)
    → (write_steps_from rows size n p from o).output ≡ write_items rows s from.at (steps_from rows size n p from.cursor) o
unfolding write_steps_from steps_from write_items word_of item_point_of command_point_of
steps_output rows s size zero p from o = refl
steps_output rows s size (suc n) p from o = steps_output rows s size n (p + 1) (place_at (from.at + 1) (cursor_at rows p from.cursor)) _

module _ (rows : ℕ → QuadRow) (s : SplineTable) (k : ℕ) (from : Place) (o : Output) where
  start_items : List Item
  start_items = cond (starts_of s k) (item (Start k) 0 0 ∷ []) []

  start_written : write_start_of (starts_of s k) k (spline_at s k).p0 from o
      ≡ written (write_items rows s from.at start_items o) (place_at (from.at + length start_items) from.cursor)
  unfolding start_items write_start_of write_items word_of item_point_of command_point_of
  start_written = go (starts_of s k)
    where
      go : (b : Bool)
          → cond b
          (written (write_entry_of from.at (pack_of (Start k)) (finished (spline_at s k).p0 false) o) (place_at (from.at + 1) from.cursor))
          (written o from)
          ≡ written (write_items rows s from.at (cond b (item (Start k) 0 0 ∷ []) []) o)
          (place_at (from.at + length (cond b (item (Start k) 0 0 ∷ []) [])) from.cursor)
      go true = refl
      go false = ap (λ (a : ℕ). written o (place_at a from.cursor)) (sym (add-zero from.at))

finish : (rows : ℕ → QuadRow) (s : SplineTable) (at n : ℕ) (start steps : List Item) (end : Item) (o : Output) → length steps ≡ n
    → write_entry_of (at + length start + n) (word_of end) (item_point_of rows s end) (write_items rows s (at + length start) steps (write_items rows s at start o))
    ≡ write_items rows s at (start ++ (steps ++ (end ∷ []))) o
unfolding write_items
finish rows s at n start steps end o e =
    let o' = write_items rows s at start o in
    sym
    (items_append rows s at start (steps ++ (end ∷ [])) o
    ∙ items_append rows s (at + length start) steps (end ∷ []) o'
    ∙ ap (λ (m : ℕ). write_items rows s (at + length start + m) (end ∷ []) (write_items rows s (at + length start) steps o')) e)

finish_at : (at n : ℕ) (start steps : List Item) (end : Item) → length steps ≡ n → at + length start + n + 1 ≡ at + length (start ++ (steps ++ (end ∷ [])))
finish_at at n start steps end e =
    let a = length-append start (steps ++ (end ∷ [])) in
    let b = length-append steps (end ∷ []) in
    omega arith

-- where a written spline leaves the cursor
unfoldable pub left_at : Setting → (ℕ → QuadRow) → SplineTable → ℕ → ℕ → ℕ
left_at Screen rows s k cursor = cursor_after rows s k cursor
left_at Knife rows s k cursor = cursor_from rows (subdivisions_of s k - 1) 1 cursor

finish_cursor : (setting : Setting) (rows : ℕ → QuadRow) (s : SplineTable) (k cursor : ℕ)
    → end_cursor_of setting (spline_at s k).curvature (cursor_from rows (subdivisions_of s k - 1) 1 cursor) ≡ left_at setting rows s k cursor
unfolding end_cursor_of left_at cursor_after cursor_from subdivisions_of
finish_cursor Screen rows s k cursor = go (subdivisions_of s k)
  where
    go : (m : ℕ) → cond (eqb m 0) (cursor_from rows (m - 1) 1 cursor) (cursor_from rows (m - 1) 1 cursor + 1)
        ≡ cond (eqb m 0) cursor (cursor_from rows (m - 1) 1 cursor + 1)
    go zero = refl
    go (suc m) = let e : eqb (suc m) 0 ≡ false = ne_eqb (suc m) 0 (λ z. omega arith) in rw e
finish_cursor Knife rows s k cursor = refl

-- for the knife it makes no difference where that is
left_anywhere : (setting : Setting) (rows : ℕ → QuadRow) (s : SplineTable) (n k j cursor : ℕ)
    → walk_from setting rows s n k (left_at setting rows s j cursor) ≡ walk_from setting rows s n k (cursor_after rows s j cursor)
unfolding left_at
left_anywhere Screen rows s n k j cursor = refl
left_anywhere Knife rows s n k j cursor = any_cursor rows s n k _ _

module _ (setting : Setting) (rows : ℕ → QuadRow) (s : SplineTable) (k : ℕ) (from : Place) (o : Output) where
  abbrev after_steps : Written → Written
  after_steps b =
      let row = spline_at s k in
      let o' = write_entry_of b.place.at (pack_of (End k row.contour)) (finished row.p2 row.contour) b.output in
      written o' (place_at (b.place.at + 1) (end_cursor_of setting row.curvature b.place.cursor))

  abbrev after_start : Written → Written
  after_start a = after_steps (write_steps_of rows (step_size_of s k) (subdivisions_of s k - 1) a.place a.output)

  -- the cursor at its beginning
  abbrev pub begins : ℕ
  begins = cursor_start_of setting (spline_at s k).first_quad from.cursor

  -- a whole spline
  pub spline_written : write_spline_of setting rows k (starts_of s k) (spline_at s k) from o
      ≡ written (write_items rows s from.at (spline_items_of rows s k begins) o)
      (place_at (from.at + length (spline_items_of rows s k begins)) (left_at setting rows s k begins))
  unfolding start_items write_spline_of write_steps_of spline_items_of subdivisions_of step_size_of word_of item_point_of command_point_of
  spline_written =
      let n = subdivisions_of s k - 1 in
      let begin = place_at from.at begins in
      let start = start_items rows s k begin o in
      let steps = steps_from rows (step_size_of s k) n 1 begins in
      let end = item (End k (spline_at s k).contour) 0 0 in
      let o' = write_items rows s from.at start o in
      let from' = place_at (from.at + length start) begins in
      let e = steps_length rows (step_size_of s k) n 1 begins in
      ap after_start (start_written rows s k begin o)
      ∙ ap after_steps (ap₂ written (steps_output rows s (step_size_of s k) n 1 from' o') (steps_place rows (step_size_of s k) n 1 from' o'))
      ∙ ap₂ written (finish rows s from.at n start steps end o e)
      (ap₂ place_at (finish_at from.at n start steps end e) (finish_cursor setting rows s k begins))

-- ---- the whole walk
walk_from_written : (setting : Setting) (rows : ℕ → QuadRow) (s : SplineTable) (n k : ℕ) (from : Place) (o : Output)
    → write_walk_from setting rows s n k from o ≡ write_items rows s from.at (walk_from setting rows s n k from.cursor) o
unfolding write_walk_from walk_from write_items
walk_from_written setting rows s zero k from o = refl
walk_from_written setting rows s (suc n) k from o =
    let start = cursor_start_of setting (spline_at s k).first_quad from.cursor in
    let items = spline_items_of rows s k start in
    let cursor = left_at setting rows s k start in
    ap (λ (w : Written). write_walk_from setting rows s n (k + 1) w.place w.output) (spline_written setting rows s k from o)
    ∙ walk_from_written setting rows s n (k + 1) (place_at (from.at + length items) cursor) (write_items rows s from.at items o)
    ∙ sym (items_append rows s from.at items (walk_from setting rows s n (k + 1) cursor) o)
    ∙ ap (λ (l : List Item). write_items rows s from.at (items ++ l) o) (left_anywhere setting rows s n (k + 1) k start)

-- ---- the four columns
columns_from : (ℕ → QuadRow) → SplineTable → List Item → Output → ℕ → Output
columns_from rows s items o at =
    let points = points_of rows s items in
    output (sets o.words at (words_of items)) (sets o.x at (map (λ (p : Finished). p.point.x) points))
    (sets o.y at (map (λ (p : Finished). p.point.y) points)) (sets o.end at (map (λ (p : Finished). flag_byte_of p.end) points))

items_columns : (rows : ℕ → QuadRow) (s : SplineTable) (items : List Item) (o : Output) (at : ℕ) → write_items rows s at items o ≡ columns_from rows s items o at
unfolding columns_from write_items words_of points_of write_entry_of
items_columns rows s [] o at = refl
items_columns rows s (i ∷ items) o at =
    let o' = write_entry_of at (word_of i) (item_point_of rows s i) o in
    items_columns rows s items o' (at + 1) ∙ ap (columns_from rows s items o') (add-one at)

sets_over : {A : Type 0} (new old : List A) → length new ≤ length old → sets old 0 new ≡ over new old
unfolding over
sets_over new old h = let e : 0 + length new ≡ length new = omega arith in sets-eq new old 0 (omega arith) ∙ ap (λ (k : ℕ). new ++ drop k old) e

map_over : {A B : Type 0} (f : A → B) (l : List A) (old : List B) (n : ℕ) → length l ≡ n → leb n (length old) ≡ true → sets old 0 (map f l) ≡ over (map f l) old
map_over f l old n e h = sets_over (map f l) old (subst (λ (m : ℕ). m ≤ length old) (sym (length-map l f ∙ e)) (leb-true n (length old) h))

pub written_fits : (rows : ℕ → QuadRow) (s : SplineTable) (items : List Item) (o : Output) → fits_output (length items) o ≡ true
    → write_items rows s 0 items o ≡ write_output rows s items o
unfolding columns_from write_output fits_output words_of points_of
written_fits rows s items o h =
    let n = length items in
    let points = points_of rows s items in
    let e : length points ≡ n = length-map items (item_point_of rows s) in
    let a = (and-eq-true_iff (leb n (length o.words) && leb n (length o.x) && leb n (length o.y)) (leb n (length o.end))).0 h in
    let b = (and-eq-true_iff (leb n (length o.words) && leb n (length o.x)) (leb n (length o.y))).0 a.0 in
    let c = (and-eq-true_iff (leb n (length o.words)) (leb n (length o.x))).0 b.0 in
    items_columns rows s items o 0
    ∙ rw (
      map_over word_of items o.words n refl c.0,
      map_over (λ (p : Finished). p.point.x) points o.x n e c.1,
      map_over (λ (p : Finished). p.point.y) points o.y n e b.1,
      map_over (λ (p : Finished). flag_byte_of p.end) points o.end n e a.1,
    )

pub walk_written : (setting : Setting) (rows : ℕ → QuadRow) (s : SplineTable) (n : ℕ) (o : Output) → fits_output (length (walk_of setting rows s n)) o ≡ true
    → write_walk_of setting rows s n o ≡ write_output rows s (walk_of setting rows s n) o
unfolding write_walk_of walk_of
walk_written setting rows s n o e = walk_from_written setting rows s n 0 (place_at 0 0) o ∙ written_fits rows s (walk_of setting rows s n) o e
