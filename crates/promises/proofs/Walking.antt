-- Laws of the walk: cut after each End it falls into the items of each spline in turn, whose commands are Start, steps and End as the rules say, whatever the cursor is; and over
-- sound tables every command of it can be packed. Assumes nothing.
use mathlib.Core.Path.{◌≡◌, refl, sym, ap, ap₂, ◌∙◌, subst}
use mathlib.Core.Logic.{inl, inr}
use mathlib.Core.Bool.{Bool, true, false, cond}
use mathlib.Core.List.{List, [], ◌∷◌, ◌++◌, map, append_assoc, map-append}
use Prim.Native.Nat.{ℕ, zero, suc, ◌+◌, ◌-◌, ◌≤◌, ◌<◌}
use native.Mathlib.Nat.{le_trans, le_of_eq, lt_of_lt_of_le, le_of_suc-le-suc, not-suc-le-zero, zero-lt-suc, add-zero}
use native.Mathlib.Omega.{arith}
use lib.ListN.{length, get_or, replicate}
use lib.Ieee.{Float, binary32}
use lib.Ieee.Fits.{div-fits}
use lib.Ieee.Positive.{positive-finite}
use native.Mathlib.Numerals.{suc-eq-add-one}
use Rattle.facts.proofs.Numbers.{shift_one}
use Rattle.leaves.specs.Single.{◌⊘◌, whole32}
use Rattle.leaves.specs.Whole.{whole_up_of}
use Rattle.command.specs.declared.PointCommand.{PointCommand}
use Rattle.command.specs.declared.PointCommand.TheVariants.{Start, Incr, End}
use Rattle.command.specs.Packing.{index_limit}
use Rattle.command.proofs.Laws.{Packs}
use Rattle.point.specs.declared.Setting.{Setting}
use Rattle.primitives.specs.declared.Capacities.{Capacities}
use Rattle.primitives.specs.declared.QuadRow.{QuadRow}
use Rattle.tables.specs.Tables.{SplineTable, quad_row_at, spline_at}
use Rattle.tables.specs.Run.{World}
use Rattle.tables.proofs.RunningSums.{no_steps, up_bounds, size_real}
use Rattle.tables.proofs.Spans.{span_total}
use Rattle.tables.proofs.Sound.{Sound}
use Rattle.walk.specs.Walk.{Item, item, subdivisions_of, step_size_of, starts_of, cursor_start_of, cursor_at, steps_from, cursor_after, spline_items_of, walk_from}
use Rattle.promises.specs.Words.{is_end}
use Rattle.contours.specs.Cutting.{cut_after}
use Rattle.promises.specs.Accepted.{steps_of, piece_of}
use Rattle.facts.specs.Every.{All}
use Rattle.facts.proofs.Every.{all_append}
use Rattle.contours.proofs.Cutting.{cut_piece}

abbrev pub command_of : Item → PointCommand
command_of i = i.command

abbrev pub ends_item : Item → Bool
ends_item i = is_end i.command

-- ---- the items of a spline
module _ (rows : ℕ → QuadRow) (s : SplineTable) where
  start_items : ℕ → List Item
  start_items k = cond (starts_of s k) (item (Start k) 0 0 ∷ []) []

  step_items : ℕ → ℕ → List Item
  step_items k cursor = steps_from rows (step_size_of s k) (steps_of s k) 1 cursor

  end_item : ℕ → Item
  end_item k = item (End k (spline_at s k).contour) 0 0

  start_no_end : (k : ℕ) → All (λ (i : Item). ends_item i ≡ false) (start_items k)
  unfolding start_items
  start_no_end k = go (starts_of s k)
    where
      go : (b : Bool) → All (λ (i : Item). ends_item i ≡ false) (cond b (item (Start k) 0 0 ∷ []) [])
      go true = (refl, tt)
      go false = tt

  steps_no_end : (size : Float) (n p cursor : ℕ) → All (λ (i : Item). ends_item i ≡ false) (steps_from rows size n p cursor)
  unfolding steps_from
  steps_no_end size zero p cursor = tt
  steps_no_end size (suc n) p cursor = (refl, steps_no_end size n (p + 1) (cursor_at rows p cursor))

  items_are : (k cursor : ℕ) → spline_items_of rows s k cursor ≡ (start_items k ++ step_items k cursor) ++ (end_item k ∷ [])
  unfolding spline_items_of start_items step_items end_item
  items_are k cursor = sym (append_assoc (start_items k) (step_items k cursor) (end_item k ∷ []))

  cut_spline : (k cursor : ℕ) (rest : List Item) → cut_after ends_item (spline_items_of rows s k cursor ++ rest) ≡ spline_items_of rows s k cursor ∷ cut_after ends_item rest
  unfolding step_items end_item
  cut_spline k cursor rest =
      ap (λ (x : List Item). cut_after ends_item (x ++ rest)) (items_are k cursor)
      ∙ ap (cut_after ends_item) (append_assoc (start_items k ++ step_items k cursor) (end_item k ∷ []) rest)
      ∙ cut_piece ends_item (start_items k ++ step_items k cursor) rest (end_item k)
      (all_append (λ (i : Item). ends_item i ≡ false) (start_items k) (step_items k cursor) (start_no_end k) (steps_no_end (step_size_of s k) (steps_of s k) 1 cursor)) refl
      ∙ ap (λ (x : List Item). x ∷ cut_after ends_item rest) (sym (items_are k cursor))

  -- ---- n splines from k on
  pub pieces_count : (setting : Setting) (n k cursor : ℕ) → length (cut_after ends_item (walk_from setting rows s n k cursor)) ≡ n
  unfolding walk_from cut_after
  pieces_count setting zero k cursor = refl
  pieces_count setting (suc n) k cursor =
      let start = cursor_start_of setting (spline_at s k).first_quad cursor in
      let next = cursor_after rows s k start in
      ap length (cut_spline k start (walk_from setting rows s n (k + 1) next)) ∙ ap suc (pieces_count setting n (k + 1) next)

  -- piece i has the items of spline k, and some cursor at which `inv` holds
  pub record Piece (inv : ℕ → ℕ → Type 0) (pieces : List (List Item)) (i k : ℕ) : Type 0 where
    pub cursor : ℕ
    pub is : get_or pieces i [] ≡ spline_items_of rows s k cursor
    pub holds : inv k cursor

  -- `comes` holds of the cursor as it comes to a spline, and `inv` as it begins there
  pub piece_at : (setting : Setting) (comes inv : ℕ → ℕ → Type 0) (n k cursor : ℕ) → comes k cursor
      → ((j c : ℕ) → j < k + n → comes j c → inv j (cursor_start_of setting (spline_at s j).first_quad c))
      → ((j c : ℕ) → j < k + n → inv j c → comes (suc j) (cursor_after rows s j c)) → (i : ℕ) → i < n
      → Piece inv (cut_after ends_item (walk_from setting rows s n k cursor)) i (k + i)
  unfolding walk_from
  piece_at setting comes inv zero k cursor h begin step i l = absurd (not-suc-le-zero l)
  piece_at setting comes inv (suc n) k cursor h begin step zero l =
      let c = cursor_start_of setting (spline_at s k).first_quad cursor in
      record {
        cursor = c;
        is =
            ap (λ (x : List (List Item)). get_or x 0 []) (cut_spline k c (walk_from setting rows s n (k + 1) (cursor_after rows s k c)))
            ∙ ap (λ (x : ℕ). spline_items_of rows s x c) (sym (add-zero k));
        holds = subst (λ (x : ℕ). inv x c) (sym (add-zero k)) (begin k cursor (far k n) h);
      }
    where
      far : (k n : ℕ) → k < k + suc n
      far k n = omega arith
  piece_at setting comes inv (suc n) k cursor h begin step (suc i) l =
      let c = cursor_start_of setting (spline_at s k).first_quad cursor in
      let next = cursor_after rows s k c in
      let z =
      piece_at setting comes inv n (k + 1) next (subst (λ (x : ℕ). comes x next) (suc-eq-add-one k) (step k c (far k n) (begin k cursor (far k n) h)))
      (λ j d m. begin j d (lt_of_lt_of_le m (le_of_eq (shift_one k n))))
      (λ j d m. step j d (lt_of_lt_of_le m (le_of_eq (shift_one k n)))) i (le_of_suc-le-suc l) in
      record {
        cursor = z.cursor;
        is = ap (λ (x : List (List Item)). get_or x (suc i) []) (cut_spline k c (walk_from setting rows s n (k + 1) next)) ∙ z.is ∙ ap (λ (x : ℕ). spline_items_of rows s x z.cursor) (shift_one k i);
        holds = subst (λ (x : ℕ). inv x z.cursor) (shift_one k i) z.holds;
      }
    where
      far : (k n : ℕ) → k < k + suc n
      far k n = omega arith

  -- ---- the commands of a spline
  steps_commands : (size : Float) (n p cursor : ℕ) → map command_of (steps_from rows size n p cursor) ≡ replicate n (Incr size)
  unfolding steps_from
  steps_commands size zero p cursor = refl
  steps_commands size (suc n) p cursor = ap (λ (x : List PointCommand). Incr size ∷ x) (steps_commands size n (p + 1) (cursor_at rows p cursor))

  pub piece_commands : (k cursor : ℕ) → map command_of (spline_items_of rows s k cursor) ≡ piece_of s k
  unfolding spline_items_of piece_of
  piece_commands k cursor =
      map-append command_of (cond (starts_of s k) (item (Start k) 0 0 ∷ []) []) _
      ∙ ap₂ (λ (x y : List PointCommand). x ++ y) (start (starts_of s k))
      (map-append command_of (steps_from rows (step_size_of s k) (steps_of s k) 1 cursor) _
      ∙ ap (λ (x : List PointCommand). x ++ (End k (spline_at s k).contour ∷ [])) (steps_commands (step_size_of s k) (steps_of s k) 1 cursor))
    where
      start : (b : Bool) → map command_of (cond b (item (Start k) 0 0 ∷ []) []) ≡ cond b (Start k ∷ []) []
      start true = refl
      start false = refl

-- ---- over sound tables every command can be packed
abbrev pub Packed : Item → Type 0
Packed i = Packs i.command

module _ (caps : Capacities) (w : World) (S : Sound caps w) (limit : caps.splines ≤ index_limit) where
  step_packs : (k : ℕ) → k < w.state.splines → 0 < steps_of w.splines k → Packs (Incr (step_size_of w.splines k))
  unfolding subdivisions_of step_size_of
  step_packs k h p = elim (span_total (quad_row_at w.quads) _ _ _ k (S.span k h)) [
    | inl z ↦ absurd (no_step (whole_up_of (spline_at w.splines k).curvature) (ap whole_up_of z.1 ∙ no_steps) p)
    | inr z ↦
        let c = (spline_at w.splines k).curvature in
        (div-fits binary32 c (whole32 (whole_up_of c)), positive-finite (c ⊘ whole32 (whole_up_of c)) (size_real c (whole_up_of c) z.sum (up_bounds c z.sum)))
  ]
    where
      no_step : (m : ℕ) → m ≡ 0 → 0 < m - 1 → ⊥
      no_step m e h = omega arith

  steps_packed : (size : Float) (n p cursor : ℕ) → (0 < n → Packs (Incr size)) → All Packed (steps_from (quad_row_at w.quads) size n p cursor)
  unfolding steps_from
  steps_packed size zero p cursor h = tt
  steps_packed size (suc n) p cursor h = (h (zero-lt-suc n), steps_packed size n (p + 1) (cursor_at (quad_row_at w.quads) p cursor) (λ k. h (zero-lt-suc n)))

  index : (k : ℕ) → k < w.state.splines → k < index_limit
  index k h = lt_of_lt_of_le h (le_trans S.room.splines limit)

  spline_packed : (k cursor : ℕ) → k < w.state.splines → All Packed (spline_items_of (quad_row_at w.quads) w.splines k cursor)
  unfolding spline_items_of
  spline_packed k cursor h =
      all_append Packed (cond (starts_of w.splines k) (item (Start k) 0 0 ∷ []) []) _ (start (starts_of w.splines k))
      (all_append Packed (steps_from (quad_row_at w.quads) (step_size_of w.splines k) (steps_of w.splines k) 1 cursor) _
      (steps_packed (step_size_of w.splines k) (steps_of w.splines k) 1 cursor (step_packs k h)) (index k h, tt))
    where
      start : (b : Bool) → All Packed (cond b (item (Start k) 0 0 ∷ []) [])
      start true = (index k h, tt)
      start false = tt

  pub walk_packed : (setting : Setting) (n k cursor : ℕ) → k + n ≤ w.state.splines → All Packed (walk_from setting (quad_row_at w.quads) w.splines n k cursor)
  unfolding walk_from
  walk_packed setting zero k cursor h = tt
  walk_packed setting (suc n) k cursor h =
      let start = cursor_start_of setting (spline_at w.splines k).first_quad cursor in
      all_append Packed (spline_items_of (quad_row_at w.quads) w.splines k start) _ (spline_packed k start (le_trans (far k n) h))
      (walk_packed setting n (k + 1) (cursor_after (quad_row_at w.quads) w.splines k start) (le_trans (le_of_eq (shift_one k n)) h))
    where
      far : (k n : ℕ) → k < k + suc n
      far k n = omega arith
