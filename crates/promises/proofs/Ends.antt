-- What the walk writes for the two ends of a spline: its End always, its Start where one is due, each with the spline's point. Assumes nothing.
use Prim.Native.Nat.{ℕ, zero, suc, ◌+◌, ◌-◌, ◌<◌}
use mathlib.Core.Path.{◌≡◌, refl, sym, ap, ◌∙◌, subst}
use mathlib.Core.Bool.{Bool, true, false, cond, true≢false}
use mathlib.Core.List.{List, [], ◌∷◌, ◌++◌, map, append_assoc}
use native.Mathlib.Nat.{le_of_eq, lt_of_lt_of_le, le_of_suc-le-suc, not-suc-le-zero, zero-add, add-zero}
use native.Mathlib.Omega.{arith}
use lib.ListN.{length, get_or, drop, length-append}
use Rattle.facts.proofs.Numbers.{shift_one}
use Rattle.leaves.specs.Single.{zero32}
use Rattle.command.specs.declared.PointCommand.{PointCommand}
use Rattle.command.specs.declared.PointCommand.TheVariants.{Start, End}
use Rattle.command.specs.Packing.{pack_of}
use Rattle.point.specs.declared.Point.{Point}
use Rattle.point.specs.declared.Setting.{Setting}
use Rattle.primitives.specs.declared.QuadRow.{QuadRow}
use Rattle.tables.specs.Tables.{SplineTable, quad_row_at, spline_at}
use Rattle.tables.specs.Run.{World}
use Rattle.tables.proofs.Flags.{flag_at}
use Rattle.walk.specs.Walk.{Item, item, starts_of, cursor_start_of, subdivisions_of, step_size_of, steps_from, cursor_after, spline_items_of, walk_from, walk_of, word_of, words_of}
use Rattle.evaluate.specs.Evaluate.{Finished, command_point_of, item_point_of, points_of}
use Rattle.flatten.specs.Flatten.{Output, over, write_output, walked}
use Rattle.promises.specs.Accepted.{Job}
use Rattle.promises.specs.Corners.{Written}
use Rattle.promises.proofs.Flattened.{world_of, items_in, finished_of}

-- ---- a command among the items
record In (c : PointCommand) (items : List Item) : Type 0 where
  before : List Item
  after : List Item
  is : items ≡ before ++ (item c 0 0 ∷ after)

in_left : (c : PointCommand) (x y : List Item) → In c x → In c (x ++ y)
in_left c x y E =
    record {
      before = E.before;
      after = E.after ++ y;
      is = ap (λ (z : List Item). z ++ y) E.is ∙ append_assoc E.before (item c 0 0 ∷ E.after) y;
    }

in_right : (c : PointCommand) (x y : List Item) → In c y → In c (x ++ y)
in_right c x y E =
    record {
      before = x ++ E.before;
      after = E.after;
      is = ap (λ (z : List Item). x ++ z) E.is ∙ sym (append_assoc x E.before (item c 0 0 ∷ E.after));
    }

module _ (setting : Setting) (rows : ℕ → QuadRow) (s : SplineTable) where
  spline_end : (k cursor : ℕ) → In (End k (flag_at s k)) (spline_items_of rows s k cursor)
  unfolding spline_items_of
  spline_end k cursor =
      in_right (End k (flag_at s k)) (cond (starts_of s k) (item (Start k) 0 0 ∷ []) []) _
      (in_right (End k (flag_at s k)) (steps_from rows (step_size_of s k) (subdivisions_of s k - 1) 1 cursor) _ (record { before = []; after = []; is = refl }))

  spline_start : (k cursor : ℕ) → starts_of s k ≡ true → In (Start k) (spline_items_of rows s k cursor)
  unfolding spline_items_of
  spline_start k cursor h = in_left (Start k) (cond (starts_of s k) (item (Start k) 0 0 ∷ []) []) _ (go (starts_of s k) h)
    where
      go : (b : Bool) → b ≡ true → In (Start k) (cond b (item (Start k) 0 0 ∷ []) [])
      go true h = record { before = []; after = []; is = refl }
      go false h = absurd (true≢false (sym h))

  -- what a spline has is in the walk
  walk_in_lem : (c : PointCommand) (n k cursor i : ℕ) → i < n → ((cursor : ℕ) → In c (spline_items_of rows s (k + i) cursor)) → In c (walk_from setting rows s n k cursor)
  unfolding walk_from
  walk_in_lem c zero k cursor i h has = absurd (not-suc-le-zero h)
  walk_in_lem c (suc n) k cursor zero h has =
      let start = cursor_start_of setting (spline_at s k).first_quad cursor in
      in_left c (spline_items_of rows s k start) _ (subst (λ (j : ℕ). In c (spline_items_of rows s j start)) (add-zero k) (has start))
  walk_in_lem c (suc n) k cursor (suc i) h has =
      let start = cursor_start_of setting (spline_at s k).first_quad cursor in
      in_right c (spline_items_of rows s k start) _
      (walk_in_lem c n (k + 1) (cursor_after rows s k start) i (le_of_suc-le-suc h)
      (λ d. subst (λ (j : ℕ). In c (spline_items_of rows s j d)) (sym (shift_one k i)) (has d)))

-- ---- what is written for it
reads : {A B : Type 0} (f : A → B) (before : List A) (x : A) (after : List A) (rest : List B) (d : B)
    → get_or (map f (before ++ (x ∷ after)) ++ rest) (length before) d ≡ f x
reads f [] x after rest d = refl
reads f (b ∷ before) x after rest d = reads f before x after rest d

reads_twice : {A B C : Type 0} (f : A → B) (g : B → C) (before : List A) (x : A) (after : List A) (rest : List C) (d : C)
    → get_or (map g (map f (before ++ (x ∷ after))) ++ rest) (length before) d ≡ g (f x)
reads_twice f g [] x after rest d = refl
reads_twice f g (b ∷ before) x after rest d = reads_twice f g before x after rest d

module _ (rows : ℕ → QuadRow) (s : SplineTable) (o : Output) (c : PointCommand) (items : List Item) (E : In c items) where
  abbrev place : ℕ
  place = length E.before

  inside : place < length items
  inside = lt_of_lt_of_le (more place (length E.after)) (le_of_eq (sym (ap length E.is ∙ length-append E.before (item c 0 0 ∷ E.after))))
    where
      more : (a b : ℕ) → a < a + suc b
      more a b = omega arith

  word_at : get_or (write_output rows s items o).words place 0 ≡ pack_of c
  unfolding write_output over words_of word_of
  word_at =
      ap (λ (l : List Item). get_or (map word_of l ++ drop (length (map word_of items)) o.words) place 0) E.is
      ∙ reads word_of E.before (item c 0 0) E.after (drop (length (map word_of items)) o.words) 0

  x_at_lem : get_or (write_output rows s items o).x place zero32 ≡ (command_point_of rows s c 0 0).point.x
  unfolding write_output over points_of item_point_of
  x_at_lem =
      let rest = drop (length (map (λ (p : Finished). p.point.x) (map (item_point_of rows s) items))) o.x in
      ap (λ (l : List Item). get_or (map (λ (p : Finished). p.point.x) (map (item_point_of rows s) l) ++ rest) place zero32) E.is
      ∙ reads_twice (item_point_of rows s) (λ (p : Finished). p.point.x) E.before (item c 0 0) E.after rest zero32

  y_at_lem : get_or (write_output rows s items o).y place zero32 ≡ (command_point_of rows s c 0 0).point.y
  unfolding write_output over points_of item_point_of
  y_at_lem =
      let rest = drop (length (map (λ (p : Finished). p.point.y) (map (item_point_of rows s) items))) o.y in
      ap (λ (l : List Item). get_or (map (λ (p : Finished). p.point.y) (map (item_point_of rows s) l) ++ rest) place zero32) E.is
      ∙ reads_twice (item_point_of rows s) (λ (p : Finished). p.point.y) E.before (item c 0 0) E.after rest zero32

-- ---- the ends of spline k in the output
module _ (job : Job) where
  abbrev w : World
  w = world_of job

  abbrev items : List Item
  items = items_in job.setting w

  in_output : (c : PointCommand) (p : Point) → (command_point_of (quad_row_at w.quads) w.splines c 0 0).point ≡ p → In c items → Written (finished_of job) c p
  unfolding walked
  in_output c p e E =
      let rows = quad_row_at w.quads in
      record {
        place = place rows w.splines job.output c items E;
        counted = inside rows w.splines job.output c items E;
        word = word_at rows w.splines job.output c items E;
        x = x_at_lem rows w.splines job.output c items E ∙ ap (λ (q : Point). q.x) e;
        y = y_at_lem rows w.splines job.output c items E ∙ ap (λ (q : Point). q.y) e;
      }

  in_walk : (c : PointCommand) (k : ℕ) → k < w.state.splines → ((cursor : ℕ) → In c (spline_items_of (quad_row_at w.quads) w.splines k cursor)) → In c items
  unfolding walk_of
  in_walk c k h has =
      walk_in_lem job.setting (quad_row_at w.quads) w.splines c w.state.splines 0 0 k h
      (λ d. subst (λ (j : ℕ). In c (spline_items_of (quad_row_at w.quads) w.splines j d)) (sym (zero-add k)) (has d))

  pub end_written : (k : ℕ) → k < w.state.splines → Written (finished_of job) (End k (flag_at w.splines k)) (spline_at w.splines k).p2
  unfolding command_point_of
  end_written k h =
      in_output (End k (flag_at w.splines k)) (spline_at w.splines k).p2 refl
      (in_walk (End k (flag_at w.splines k)) k h (spline_end job.setting (quad_row_at w.quads) w.splines k))

  pub start_written : (k : ℕ) → k < w.state.splines → starts_of w.splines k ≡ true → Written (finished_of job) (Start k) (spline_at w.splines k).p0
  unfolding command_point_of
  start_written k h e =
      in_output (Start k) (spline_at w.splines k).p0 refl
      (in_walk (Start k) k h (λ d. spline_start job.setting (quad_row_at w.quads) w.splines k d e))
