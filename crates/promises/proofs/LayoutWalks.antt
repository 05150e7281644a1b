-- Over sound tables the walk and its points read the rows in use and no other: rows that agree there give the same walk and the same outputs. Assumes
-- nothing.
use Prim.Native.Nat.{ℕ, zero, suc, ◌+◌, ◌-◌, ◌≤◌, ◌<◌, zero-le, suc-le-suc}
use mathlib.Core.Path.{◌≡◌, refl, sym, ap, ap₂, ◌∙◌, subst}
use mathlib.Core.Logic.{inl, inr}
use mathlib.Core.Bool.{false, cond}
use mathlib.Core.List.{List, [], ◌∷◌, ◌++◌, map}
use native.Mathlib.Nat.{le_trans, le_of_eq, lt_of_lt_of_le, lt_of_le_of_lt, sub-le, zero-add}
use native.Mathlib.Numerals.{suc-eq-add-one}
use native.Mathlib.Omega.{arith}
use lib.Dec.{T, eqb}
use lib.Ieee.{Float}
use Rattle.facts.proofs.Numbers.{shift_one}
use Rattle.columns.specs.Flags.{flag_byte_of}
use Rattle.leaves.specs.Single.{whole32}
use Rattle.command.specs.declared.PointCommand.{PointCommand}
use Rattle.command.specs.declared.PointCommand.TheVariants.{Start, Incr, End}
use Rattle.point.specs.declared.Setting.{Setting}
use Rattle.primitives.specs.declared.Capacities.{Capacities}
use Rattle.primitives.specs.declared.QuadRow.{QuadRow}
use Rattle.tables.specs.Tables.{SplineTable, quad_row_at, spline_at}
use Rattle.tables.specs.Run.{World}
use Rattle.tables.proofs.RunningSums.{Sum, Up}
use Rattle.tables.proofs.Spans.{Agree, sum_at}
use Rattle.tables.proofs.Sound.{Sound, cut_le}
use Rattle.walk.specs.Walk.{Item, item, subdivisions_of, step_size_of, starts_of, cursor_start_of, cursor_at_of, cursor_at, steps_from, cursor_from, cursor_after}
use Rattle.walk.specs.Walk.{spline_items_of, walk_from, walk_of, words_of}
use Rattle.evaluate.specs.declared.StepQuad.{StepQuad}
use Rattle.evaluate.specs.Evaluate.{Finished, finished, previous_sum_of, step_quad_of, step_point_of, command_point_of, item_point_of, points_of}
use Rattle.evaluate.specs.Output.{Output, output, over, write_output}
use Rattle.promises.specs.Words.{is_step}
use Rattle.facts.specs.Every.{All}
use Rattle.facts.proofs.Every.{all_append, all_map}
use Rattle.promises.proofs.Cursor.{cursor_under, steps_under}
use Rattle.promises.proofs.Arrivals.{all_steps, none_left, ends, Early, starts_early, stays_early}
use Rattle.promises.proofs.Steps.{Steps, spline_steps}

-- ---- steps 1 to m - 1 of a spline that ends at quad l, read up to l
module _ (rows rows' : ℕ → QuadRow) (l m : ℕ) (S : Sum (sum_at rows l)) (U : Up (sum_at rows l) m) (A : Agree rows rows' (suc l)) where
  cursor_same : (p c : ℕ) → c ≤ l → cursor_at rows' p c ≡ cursor_at rows p c
  unfolding cursor_at
  cursor_same p c h = ap (λ (r : QuadRow). cursor_at_of r.partial_curvature (whole32 p) c) (A c (suc-le-suc h))

  first : (p n : ℕ) → p + suc n ≤ m → p < m
  first p n k = omega arith

  rest : (p n : ℕ) → p + suc n ≤ m → p + 1 + n ≤ m
  rest p n k = omega arith

  steps_same : (size : Float) (n p c : ℕ) → c ≤ l → p + n ≤ m → steps_from rows' size n p c ≡ steps_from rows size n p c
  unfolding steps_from
  steps_same size zero p c h k = refl
  steps_same size (suc n) p c h k =
      ap (λ (i : ℕ). item (Incr size) p i ∷ steps_from rows' size n (p + 1) i) (cursor_same p c h)
      ∙ ap (λ (items : List Item). item (Incr size) p (cursor_at rows p c) ∷ items)
      (steps_same size n (p + 1) (cursor_at rows p c) (cursor_under rows l m S U p c h (first p n k)) (rest p n k))

  from_same : (n p c : ℕ) → c ≤ l → p + n ≤ m → cursor_from rows' n p c ≡ cursor_from rows n p c
  unfolding cursor_from
  from_same zero p c h k = refl
  from_same (suc n) p c h k =
      ap (cursor_from rows' n (p + 1)) (cursor_same p c h)
      ∙ from_same n (p + 1) (cursor_at rows p c) (cursor_under rows l m S U p c h (first p n k)) (rest p n k)

-- ---- the walk over sound tables, with rows' for those of the table
module _ (setting : Setting) (caps : Capacities) (w : World) (S : Sound caps w) (rows' : ℕ → QuadRow)
    (A : Agree (quad_row_at w.quads) rows' w.state.quads) where
  abbrev rows : ℕ → QuadRow
  rows = quad_row_at w.quads

  abbrev s : SplineTable
  s = w.splines

  abbrev ups : ℕ → ℕ
  ups k = subdivisions_of s k

  -- a step's quad is in use
  abbrev InUse : Item → Type 0
  InUse i = i.quad < w.state.quads

  -- n steps of spline k
  record Stepped (k n c : ℕ) : Type 0 where
    steps : steps_from rows' (step_size_of s k) n 1 c ≡ steps_from rows (step_size_of s k) n 1 c
    cursor : cursor_from rows' n 1 c ≡ cursor_from rows n 1 c
    used : All InUse (steps_from rows (step_size_of s k) n 1 c)

  stepped : (k c : ℕ) → k < w.state.splines → Early caps w S k c → Stepped k (ups k - 1) c
  unfolding steps_from cursor_from
  stepped k c h e = elim (ends caps w S k h) [
    | inl z ↦ subst (λ (n : ℕ). Stepped k n c) (sym (none_left (ups k) z.1)) (record { steps = refl; cursor = refl; used = tt })
    | inr L ↦
        let last : L.at < w.state.quads = le_trans (le_of_eq L.next) (cut_le caps w S (suc k) h) in
        let agree : Agree rows rows' (suc L.at) = λ i u. A i (lt_of_lt_of_le u last) in
        let low = le_trans e L.inside in
        let most = all_steps (ups k) L.many in
        record {
          steps = steps_same rows rows' L.at (ups k) L.sum L.up agree (step_size_of s k) (ups k - 1) 1 c low most;
          cursor = from_same rows rows' L.at (ups k) L.sum L.up agree (ups k - 1) 1 c low most;
          used =
              all_map (λ (i : Item). i.quad ≤ L.at) InUse (λ i u. lt_of_le_of_lt u last) (steps_from rows (step_size_of s k) (ups k - 1) 1 c)
              (steps_under rows L.at (ups k) L.sum L.up (step_size_of s k) (ups k - 1) 1 c low most);
        }
  ]

  items_same : (k c : ℕ) → Stepped k (ups k - 1) c → spline_items_of rows' s k c ≡ spline_items_of rows s k c
  unfolding spline_items_of
  items_same k c Z =
      ap (λ (items : List Item). cond (starts_of s k) (item (Start k) 0 0 ∷ []) [] ++ (items ++ (item (End k (spline_at s k).contour) 0 0 ∷ []))) Z.steps

  after_same : (k c : ℕ) → Stepped k (ups k - 1) c → cursor_after rows' s k c ≡ cursor_after rows s k c
  unfolding cursor_after
  after_same k c Z = ap (λ (i : ℕ). cond (eqb (ups k) 0) c (i + 1)) Z.cursor

  -- n splines from spline k on
  record Walked (n k c : ℕ) : Type 0 where
    same : walk_from setting rows' s n k c ≡ walk_from setting rows s n k c
    used : All (Steps InUse) (walk_from setting rows s n k c)

  walked : (n k c : ℕ) → k + n ≤ w.state.splines → Early caps w S k c → Walked n k c
  unfolding walk_from
  walked zero k c h e = record { same = refl; used = tt }
  walked (suc n) k c h e =
      let l = le_trans (far k n) h in
      let b = cursor_start_of setting (spline_at s k).first_quad c in
      let g = starts_early caps w S setting k c l e in
      let Z = stepped k b l g in
      let next = cursor_after rows s k b in
      let R =
      walked n (k + 1) next (le_trans (le_of_eq (shift_one k n)) h)
      (subst (λ (x : ℕ). Early caps w S x next) (suc-eq-add-one k) (stays_early caps w S k b l g)) in
      record {
        same = ap₂ (λ (x y : List Item). x ++ y) (items_same k b Z) (ap (walk_from setting rows' s n (k + 1)) (after_same k b Z) ∙ R.same);
        used =
            all_append (Steps InUse) (spline_items_of rows s k b) (walk_from setting rows s n (k + 1) next)
            (spline_steps InUse rows s k b Z.used) R.used;
      }
    where
      far : (k n : ℕ) → k < k + suc n
      far k n = omega arith

  -- ---- the points: a step reads its quad, and the one before
  previous_same : (i : ℕ) → i < w.state.quads → previous_sum_of rows' i ≡ previous_sum_of rows i
  unfolding previous_sum_of
  previous_same i h = rw (A i h, A (i - 1) (lt_of_le_of_lt (sub-le i 1) h))

  step_quad_same : (i : ℕ) → i < w.state.quads → step_quad_of rows' i ≡ step_quad_of rows i
  step_quad_same i h = rw (previous_same i h, A i h)

  command_same : (command : PointCommand) (p i : ℕ) → (T (is_step command) → i < w.state.quads)
      → command_point_of rows' s command p i ≡ command_point_of rows s command p i
  unfolding command_point_of
  command_same (Start k) p i u = refl
  command_same (Incr size) p i u = ap (λ (quad : StepQuad). finished (step_point_of quad size p) false) (step_quad_same i (u tt))
  command_same (End k flag) p i u = refl

  points_same : (items : List Item) → All (Steps InUse) items → points_of rows' s items ≡ points_of rows s items
  unfolding points_of item_point_of
  points_same [] u = refl
  points_same (i ∷ items) u =
      ap₂ (λ (p : Finished) (ps : List Finished). p ∷ ps) (command_same i.command i.step i.quad u.0) (points_same items u.1)

  -- ---- the whole walk, and what it writes
  whole : Walked w.state.splines 0 0
  whole = walked w.state.splines 0 0 (le_of_eq (zero-add w.state.splines)) zero-le

  pub walk_same : walk_of setting rows' s w.state.splines ≡ walk_of setting rows s w.state.splines
  unfolding walk_of
  walk_same = whole.same

  pub written_same : (o : Output) → let items = walk_of setting rows s w.state.splines in write_output rows' s items o ≡ write_output rows s items o
  unfolding walk_of write_output
  written_same o =
      ap (λ (points : List Finished).
      output (over (words_of (walk_from setting rows s w.state.splines 0 0)) o.words) (over (map (λ p. p.point.x) points) o.x)
      (over (map (λ p. p.point.y) points) o.y) (over (map (λ p. flag_byte_of p.end) points) o.end))
      (points_same (walk_from setting rows s w.state.splines 0 0) whole.used)
