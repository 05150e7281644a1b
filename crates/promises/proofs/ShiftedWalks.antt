-- A contour's tables stand in those of the whole: the knife's walk over them there is its walk alone, with quads and splines numbered on, and each item of it
-- has the same point. Assumes nothing.
use Prim.Native.Nat.{ℕ, zero, suc, ◌+◌, ◌-◌, ◌≤◌, ◌<◌}
use mathlib.Core.Path.{◌≡◌, refl, sym, ap, ap₂, ◌∙◌, subst}
use mathlib.Core.Logic.{inl, inr}
use mathlib.Core.Bool.{Bool, true, false, cond}
use mathlib.Core.List.{List, [], ◌∷◌, ◌++◌, map, map-append}
use native.Mathlib.Nat.{le_trans, le_of_eq, le_of_lt, lt_of_lt_of_le, lt_of_le_of_lt, add_assoc, add-zero, add_left_cancel, zero-add}
use native.Mathlib.Nat.{le-add_right, lt_irrefl}
use native.Mathlib.Omega.{arith}
use lib.Dec.{eqb, leb, eqb-suc-zero, eqb→eq, le→leb}
use lib.Ieee.{Float, lt}
use lib.Ieee.Bits.{is_true}
use lib.Ieee.Fits.{eq→eqb}
use borrow.Author.Tests.{ne_eqb}
use Rattle.facts.proofs.Tests.{same}
use Rattle.facts.proofs.Numbers.{shift_one}
use Rattle.leaves.specs.Single.{◌⊘◌, zero32, whole32}
use Rattle.leaves.specs.Whole.{whole_up_of}
use Rattle.command.specs.declared.PointCommand.{PointCommand}
use Rattle.command.specs.declared.PointCommand.TheVariants.{Start, Incr, End}
use Rattle.point.specs.declared.Setting.TheVariants.{Knife}
use Rattle.primitives.specs.declared.QuadRow.{QuadRow}
use Rattle.primitives.specs.declared.SplineRow.{SplineRow}
use Rattle.tables.specs.Tables.{SplineTable, quad_row_at, spline_at}
use Rattle.tables.specs.Run.{World}
use Rattle.tables.proofs.RunningSums.{Sum, Up}
use Rattle.tables.proofs.Spans.{sum_at, same_sum, same_owner}
use Rattle.tables.proofs.Sound.{cut_le}
use Rattle.walk.specs.Walk.{Item, item, subdivisions_of, step_size_of, starts_of, cursor_start_of, cursor_at_of, cursor_at, steps_from, cursor_after}
use Rattle.walk.specs.Walk.{spline_items_of, walk_from, walk_of}
use Rattle.evaluate.specs.declared.StepQuad.{StepQuad}
use Rattle.evaluate.specs.Evaluate.{Finished, finished, previous_sum_of, step_quad_of, step_point_of, command_point_of, item_point_of, points_of}
use Rattle.facts.specs.Every.{All}
use Rattle.facts.proofs.Every.{all_append, all_map}
use Rattle.promises.proofs.Cursor.{cursor_under, steps_under}
use Rattle.promises.proofs.Arrivals.{all_steps, none_left, ends, starts_exact}
use Rattle.promises.proofs.Flattened.{items_in}
use Rattle.tables.proofs.Standing.{Stands}

-- an item with bq quads and bs splines before; a Start and an End have no quad
abbrev pub placed_on : ℕ → ℕ → PointCommand → ℕ → ℕ → Item
placed_on bq bs (Start k) step quad = item (Start (bs + k)) 0 0
placed_on bq bs (Incr size) step quad = item (Incr size) step (bq + quad)
placed_on bq bs (End k flag) step quad = item (End (bs + k) flag) 0 0

abbrev pub item_on : ℕ → ℕ → Item → Item
item_on bq bs i = placed_on bq bs i.command i.step i.quad

-- ---- steps 1 to m - 1 of a spline that ends at quad l; the sums up to l are those of rows', bq further on
module _ (rows rows' : ℕ → QuadRow) (bq bs l m : ℕ) (S : Sum (sum_at rows l)) (U : Up (sum_at rows l) m)
    (A : (i : ℕ) → i ≤ l → sum_at rows' (bq + i) ≡ sum_at rows i) where
  cursor_on : (p c : ℕ) → c ≤ l → cursor_at rows' p (bq + c) ≡ bq + cursor_at rows p c
  unfolding cursor_at
  cursor_on p c h = ap (λ (x : Float). cursor_at_of x (whole32 p) (bq + c)) (A c h) ∙ go (lt (sum_at rows c) (whole32 p))
    where
      go : (b : Bool) → cond b (bq + c + 1) (bq + c) ≡ bq + cond b (c + 1) c
      go true = add_assoc bq c 1
      go false = refl

  steps_on : (size : Float) (n p c : ℕ) → c ≤ l → p + n ≤ m → steps_from rows' size n p (bq + c) ≡ map (item_on bq bs) (steps_from rows size n p c)
  unfolding steps_from
  steps_on size zero p c h k = refl
  steps_on size (suc n) p c h k =
      ap (λ (i : ℕ). item (Incr size) p i ∷ steps_from rows' size n (p + 1) i) (cursor_on p c h)
      ∙ ap (λ (items : List Item). item (Incr size) p (bq + cursor_at rows p c) ∷ items)
      (steps_on size n (p + 1) (cursor_at rows p c) (cursor_under rows l m S U p c h (first p n m k)) (rest p n m k))
    where
      first : (p n m : ℕ) → p + suc n ≤ m → p < m
      first p n m k = omega arith

      rest : (p n m : ℕ) → p + suc n ≤ m → p + 1 + n ≤ m
      rest p n m k = omega arith

module _ (bq bs : ℕ) (whole alone : World) (S : Stands bq bs whole alone) where
  abbrev rows : ℕ → QuadRow
  rows = quad_row_at alone.quads

  abbrev rows' : ℕ → QuadRow
  rows' = quad_row_at whole.quads

  abbrev s : SplineTable
  s = alone.splines

  abbrev s' : SplineTable
  s' = whole.splines

  abbrev ups : ℕ → ℕ
  ups k = subdivisions_of s k

  abbrev InSplines : ℕ → Type 0
  InSplines k = k < alone.state.splines

  abbrev InQuads : ℕ → Type 0
  InQuads i = i < alone.state.quads

  -- ---- a spline
  ups_on : (k : ℕ) → InSplines k → subdivisions_of s' (bs + k) ≡ ups k
  unfolding subdivisions_of
  ups_on k h = ap (λ (r : SplineRow). whole_up_of r.curvature) (S.splines k h)

  size_on : (k : ℕ) → InSplines k → step_size_of s' (bs + k) ≡ step_size_of s k
  unfolding step_size_of subdivisions_of
  size_on k h = ap (λ (r : SplineRow). r.curvature ⊘ whole32 (whole_up_of r.curvature)) (S.splines k h)

  flag_on : (k : ℕ) → InSplines k → (spline_at s' (bs + k)).contour ≡ (spline_at s k).contour
  flag_on k h = ap (λ (r : SplineRow). r.contour) (S.splines k h)

  -- a contour's first spline has a Start alone, since it is the first, and in the whole, since it is the first or the one before is flagged
  first_starts : starts_of s' (bs + 0) ≡ true
  unfolding starts_of
  first_starts = ap (starts_of s') (add-zero bs) ∙ go bs S.flagged
    where
      go : (n : ℕ) → ((k : ℕ) → suc k ≡ n → (spline_at s' k).contour ≡ true) → starts_of s' n ≡ true
      go zero f = refl
      go (suc n) f = let e : suc n - 1 ≡ n = omega arith in rw (e, eqb-suc-zero n, f n refl)

  starts_on : (k : ℕ) → InSplines k → starts_of s' (bs + k) ≡ starts_of s k
  unfolding starts_of
  starts_on zero h = first_starts
  starts_on (suc k) h =
      let e : bs + suc k - 1 ≡ bs + k = omega arith in
      let d : suc k - 1 ≡ k = omega arith in
      let z : bs + suc k ≡ 0 → ⊥ = λ y. omega arith in
      rw (e, d, S.splines k (le_of_lt h), S.splines (suc k) h, ne_eqb (bs + suc k) 0 z, eqb-suc-zero k)

  -- ---- the items of a spline. What an item reads is in use: a step's quad, and the spline of a Start or an End
  abbrev pub Used : PointCommand → ℕ → Type 0
  Used (Start k) quad = InSplines k
  Used (Incr size) quad = InQuads quad
  Used (End k flag) quad = InSplines k

  abbrev pub InUse : Item → Type 0
  InUse i = Used i.command i.quad

  sum_on : (i : ℕ) → InQuads i → sum_at rows' (bq + i) ≡ sum_at rows i
  sum_on i h = same_sum (S.quads i h)

  used_steps : (size : Float) (n p c : ℕ) → All (λ (i : Item). InQuads i.quad) (steps_from rows size n p c) → All InUse (steps_from rows size n p c)
  unfolding steps_from
  used_steps size zero p c u = tt
  used_steps size (suc n) p c u = (u.0, used_steps size n (p + 1) (cursor_at rows p c) u.1)

  record Stepped (k n : ℕ) : Type 0 where
    steps : steps_from rows' (step_size_of s k) n 1 (bq + S.sound.cut k) ≡ map (item_on bq bs) (steps_from rows (step_size_of s k) n 1 (S.sound.cut k))
    used : All InUse (steps_from rows (step_size_of s k) n 1 (S.sound.cut k))

  stepped : (k : ℕ) → InSplines k → Stepped k (ups k - 1)
  unfolding steps_from
  stepped k h = elim (ends S.caps alone S.sound k h) [
    | inl z ↦ subst (Stepped k) (sym (none_left (ups k) z.1)) (record { steps = refl; used = tt })
    | inr L ↦
        let last : InQuads L.at = le_trans (le_of_eq L.next) (cut_le S.caps alone S.sound (suc k) h) in
        let most = all_steps (ups k) L.many in
        let c = S.sound.cut k in
        let size = step_size_of s k in
        record {
          steps =
              steps_on rows rows' bq bs L.at (ups k) L.sum L.up (λ i u. sum_on i (lt_of_le_of_lt u last)) size (ups k - 1) 1 c L.inside most;
          used =
              used_steps size (ups k - 1) 1 c
              (all_map (λ (i : Item). i.quad ≤ L.at) (λ (i : Item). InQuads i.quad) (λ i u. lt_of_le_of_lt u last) (steps_from rows size (ups k - 1) 1 c)
              (steps_under rows L.at (ups k) L.sum L.up size (ups k - 1) 1 c L.inside most));
        }
  ]

  abbrev start_items : Bool → ℕ → List Item
  start_items b k = cond b (item (Start k) 0 0 ∷ []) []

  start_item_on : (b : Bool) (k : ℕ) → start_items b (bs + k) ≡ map (item_on bq bs) (start_items b k)
  start_item_on true k = refl
  start_item_on false k = refl

  start_item_used : (b : Bool) (k : ℕ) → InSplines k → All InUse (start_items b k)
  start_item_used true k h = (h, tt)
  start_item_used false k h = tt

  items_on : (k : ℕ) → InSplines k → spline_items_of rows' s' (bs + k) (bq + S.sound.cut k) ≡ map (item_on bq bs) (spline_items_of rows s k (S.sound.cut k))
  unfolding spline_items_of
  items_on k h =
      let c = S.sound.cut k in
      let steps = steps_from rows (step_size_of s k) (ups k - 1) 1 c in
      let end = item (End k (spline_at s k).contour) 0 0 ∷ [] in
      ap₂ (λ (size : Float) (m : ℕ). start_items (starts_of s' (bs + k)) (bs + k) ++ (steps_from rows' size (m - 1) 1 (bq + c)
      ++ (item (End (bs + k) (spline_at s' (bs + k)).contour) 0 0 ∷ []))) (size_on k h) (ups_on k h)
      ∙ ap₂ (λ (b flag : Bool). start_items b (bs + k) ++ (steps_from rows' (step_size_of s k) (ups k - 1) 1 (bq + c)
      ++ (item (End (bs + k) flag) 0 0 ∷ []))) (starts_on k h) (flag_on k h)
      ∙ ap₂ (λ (x y : List Item). x ++ (y ++ map (item_on bq bs) end)) (start_item_on (starts_of s k) k) (stepped k h).steps
      ∙ ap (λ (x : List Item). map (item_on bq bs) (start_items (starts_of s k) k) ++ x) (sym (map-append (item_on bq bs) steps end))
      ∙ sym (map-append (item_on bq bs) (start_items (starts_of s k) k) (steps ++ end))

  items_used : (k : ℕ) → InSplines k → All InUse (spline_items_of rows s k (S.sound.cut k))
  unfolding spline_items_of
  items_used k h =
      all_append InUse (start_items (starts_of s k) k) _ (start_item_used (starts_of s k) k h)
      (all_append InUse (steps_from rows (step_size_of s k) (ups k - 1) 1 (S.sound.cut k)) _ (stepped k h).used (h, tt))

  -- ---- the walk, from whatever cursors
  begins : (k c : ℕ) → InSplines k → cursor_start_of Knife (spline_at s k).first_quad c ≡ S.sound.cut k
  begins k c h = starts_exact S.caps alone S.sound k c h

  begins_on : (k c : ℕ) → InSplines k → cursor_start_of Knife (spline_at s' (bs + k)).first_quad c ≡ bq + S.sound.cut k
  unfolding cursor_start_of
  begins_on k c h = ap (λ (r : SplineRow). r.first_quad) (S.splines k h) ∙ ap (λ (x : ℕ). bq + x) (begins k c h)

  far : (k n m : ℕ) → k + suc n ≤ m → k < m
  far k n m h = omega arith

  walk_on : (n k c c' : ℕ) → k + n ≤ alone.state.splines → walk_from Knife rows' s' n (bs + k) c' ≡ map (item_on bq bs) (walk_from Knife rows s n k c)
  unfolding walk_from
  walk_on zero k c c' h = refl
  walk_on (suc n) k c c' h =
      let l = far k n alone.state.splines h in
      let b = S.sound.cut k in
      let next = cursor_after rows s k b in
      let next' = cursor_after rows' s' (bs + k) (bq + b) in
      ap (λ (x : ℕ). spline_items_of rows' s' (bs + k) x ++ walk_from Knife rows' s' n (bs + k + 1) (cursor_after rows' s' (bs + k) x)) (begins_on k c' l)
      ∙ ap₂ (λ (x y : List Item). x ++ y) (items_on k l)
      (ap (λ (x : ℕ). walk_from Knife rows' s' n x next') (add_assoc bs k 1) ∙ walk_on n (k + 1) next next' (le_trans (le_of_eq (shift_one k n)) h))
      ∙ sym (map-append (item_on bq bs) (spline_items_of rows s k b) (walk_from Knife rows s n (k + 1) next))
      ∙ ap (λ (x : ℕ). map (item_on bq bs) (spline_items_of rows s k x ++ walk_from Knife rows s n (k + 1) (cursor_after rows s k x))) (sym (begins k c l))

  walk_used : (n k c : ℕ) → k + n ≤ alone.state.splines → All InUse (walk_from Knife rows s n k c)
  unfolding walk_from
  walk_used zero k c h = tt
  walk_used (suc n) k c h =
      let l = far k n alone.state.splines h in
      let b = cursor_start_of Knife (spline_at s k).first_quad c in
      all_append InUse (spline_items_of rows s k b) _ (subst (λ (x : ℕ). All InUse (spline_items_of rows s k x)) (sym (begins k c l)) (items_used k l))
      (walk_used n (k + 1) (cursor_after rows s k b) (le_trans (le_of_eq (shift_one k n)) h))

  -- the whole contour
  pub contour_on : (c c' : ℕ) → walk_from Knife rows' s' alone.state.splines bs c ≡ map (item_on bq bs) (walk_from Knife rows s alone.state.splines 0 c')
  contour_on c c' =
      let n = alone.state.splines in
      ap (λ (k : ℕ). walk_from Knife rows' s' n k c) (sym (add-zero bs)) ∙ walk_on n 0 c' c (le_of_eq (zero-add n))

  pub contour_used : All InUse (items_in Knife alone)
  unfolding walk_of
  contour_used = walk_used alone.state.splines 0 0 (le_of_eq (zero-add alone.state.splines))

  -- ---- the points: a step reads its quad, and the one before. The quad before a contour's first is of an earlier spline, so its sum is not taken
  has_before : (i : ℕ) → 1 ≤ i → leb 1 i ≡ true
  has_before i h = is_true (leb 1 i) (le→leb 1 i h)

  first_previous : InQuads 0 → previous_sum_of rows' (bq + 0) ≡ zero32
  unfolding previous_sum_of
  first_previous h = ap (previous_sum_of rows') (add-zero bq) ∙ go bq S.earlier own
    where
      own : bs ≤ (rows' bq).spline
      own =
          subst (λ (i : ℕ). bs ≤ (rows' i).spline) (add-zero bq)
          (le_trans (le-add_right bs (rows 0).spline) (le_of_eq (sym (same_owner (S.quads 0 h)))))

      go : (n : ℕ) → ((i : ℕ) → suc i ≡ n → (rows' i).spline < bs) → bs ≤ (rows' n).spline → previous_sum_of rows' n ≡ zero32
      go zero f g = refl
      go (suc n) f g =
          let e : suc n - 1 ≡ n = omega arith in
          let z : (rows' n).spline ≡ (rows' (suc n)).spline → ⊥ = λ y. lt_irrefl (rows' n).spline (lt_of_lt_of_le (f n refl) (le_trans g (le_of_eq (sym y)))) in
          rw (e, has_before (suc n) (omega arith), ne_eqb (rows' n).spline (rows' (suc n)).spline z)

  previous_on : (i : ℕ) → InQuads i → previous_sum_of rows' (bq + i) ≡ previous_sum_of rows i
  unfolding previous_sum_of
  previous_on zero h = first_previous h
  previous_on (suc i) h =
      let e : bq + suc i - 1 ≡ bq + i = omega arith in
      let d : suc i - 1 ≡ i = omega arith in
      rw (
        e,
        d,
        has_before (bq + suc i) (omega arith),
        has_before (suc i) (omega arith),
        S.quads i (le_of_lt h),
        S.quads (suc i) h,
        same_test (rows i).spline (rows (suc i)).spline,
      )
    where
      same_test : (a b : ℕ) → eqb (bs + a) (bs + b) ≡ eqb a b
      same_test a b =
          same (eqb (bs + a) (bs + b)) (eqb a b) (λ t. eq→eqb (add_left_cancel bs (eqb→eq (bs + a) (bs + b) t)))
          (λ t. eq→eqb (ap (λ (x : ℕ). bs + x) (eqb→eq a b t)))

  step_quad_on : (i : ℕ) → InQuads i → step_quad_of rows' (bq + i) ≡ step_quad_of rows i
  step_quad_on i h = rw (previous_on i h, S.quads i h)

  command_on : (command : PointCommand) (p i : ℕ) → Used command i
      → item_point_of rows' s' (placed_on bq bs command p i) ≡ command_point_of rows s command p i
  unfolding item_point_of command_point_of
  command_on (Start k) p i u = ap (λ (r : SplineRow). finished r.p0 false) (S.splines k u)
  command_on (Incr size) p i u = ap (λ (quad : StepQuad). finished (step_point_of quad size p) false) (step_quad_on i u)
  command_on (End k flag) p i u = ap (λ (r : SplineRow). finished r.p2 flag) (S.splines k u)

  pub points_on : (items : List Item) → All InUse items → points_of rows' s' (map (item_on bq bs) items) ≡ points_of rows s items
  unfolding points_of item_point_of
  points_on [] u = refl
  points_on (i ∷ items) u =
      ap₂ (λ (p : Finished) (ps : List Finished). p ∷ ps) (command_on i.command i.step i.quad u.0) (points_on items u.1)
