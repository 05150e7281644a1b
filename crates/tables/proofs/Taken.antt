-- The loop over the commands of a store. Its invariant: running what is left gives what running the whole gives. There is no point past every column, so the
-- number of points used up may stop there. Assumes nothing.
use mathlib.Core.Path.{◌≡◌, refl, sym, ap, ◌∙◌}
use mathlib.Core.Bool.{Bool, true, false}
use mathlib.Core.List.{List, [], ◌∷◌}
use Prim.Native.Nat.{ℕ, zero, suc, ◌+◌, ◌-◌, ◌*◌, ◌^◌, ◌≤◌, ◌<◌, min}
use native.Mathlib.Omega.{arith}
use native.Mathlib.Nat.{min-eq_left, min-eq_right, le_of_lt}
use native.Mathlib.Numerals.{add-one}
use lib.Dec.{leb}
use lib.Ieee.{nan}
use lib.ListN.{length, get_or, take, drop, drop_of_length-le, get_or-eq_default}
use lib.Seq.{drop-cons, take_all, take-length}
use borrow.Author.Tests.{leb-true, leb-false}
use Rattle.answer.specs.Number.{is_done}
use Rattle.point.specs.declared.WeightedPoint.{WeightedPoint}
use Rattle.point.specs.Point.{point_at, weighted}
use Rattle.point.specs.declared.Setting.{Setting}
use Rattle.primitives.specs.declared.Capacities.{Capacities}
use Rattle.primitives.specs.declared.Cubic.{Cubic}
use Rattle.primitives.specs.declared.Primitive.{Primitive}
use Rattle.primitives.specs.Cubics.{cubic_quads_of}
use Rattle.store.specs.declared.StoreState.{StoreState}
use Rattle.store.specs.Columns.{Columns, uses_of, stored_point_of}
use Rattle.tables.specs.Tables.{QuadTable, SplineTable, quad_capacity_of, spline_capacity_of, capacities_of}
use Rattle.tables.specs.Run.{World, world, run_of, start_state}
use Rattle.tables.specs.Commands.{cubic_from, command_primitives_of, primitives_from, primitives_of, tables_of}
use Rattle.tables.proofs.Runs.{run_stop, run_append}

-- ---- points past the columns: four bytes each, so that no lent column is longer
pub record Short (c : Columns) : Type 0 where
  pub x : length c.x * 4 < 2 ^ 63
  pub y : length c.y * 4 < 2 ^ 63
  pub weight : length c.weight * 4 < 2 ^ 63

abbrev nowhere : WeightedPoint
nowhere = weighted (point_at nan nan) nan

short_past : (n i : ℕ) → n * 4 < 2 ^ 63 → 2 ^ 62 ≤ i + 1 → n ≤ i
short_past n i h k = omega arith

module _ (c : Columns) (s : Short c) where
  past : (i : ℕ) → 2 ^ 62 ≤ i + 1 → stored_point_of c i ≡ nowhere
  unfolding stored_point_of
  past i h =
      rw (
        get_or-eq_default c.x nan (short_past (length c.x) i s.x h),
        get_or-eq_default c.y nan (short_past (length c.y) i s.y h),
        get_or-eq_default c.weight nan (short_past (length c.weight) i s.weight h),
      )

  module _ (j : ℕ) (h : 2 ^ 62 ≤ j) where
    p0 : stored_point_of c (j - 1) ≡ nowhere
    p0 = past (j - 1) (omega arith)

    p1 : stored_point_of c j ≡ nowhere
    p1 = past j (omega arith)

    p2 : stored_point_of c (j + 1) ≡ nowhere
    p2 = past (j + 1) (omega arith)

    cubic_past : cubic_from c (j - 1) ≡ record { p0 = nowhere; p1 = nowhere; p2 = nowhere; p3 = nowhere }
    unfolding cubic_from
    cubic_past = rw (p0, past (j - 1 + 1) (omega arith), past (j - 1 + 2) (omega arith), past (j - 1 + 3) (omega arith))

  command_past : (k i j : ℕ) → 2 ^ 62 ≤ i → 2 ^ 62 ≤ j → command_primitives_of c k i ≡ command_primitives_of c k j
  unfolding command_primitives_of
  command_past zero i j h g = refl
  command_past (suc zero) i j h g = rw (p0 i h, p1 i h, p0 j g, p1 j g)
  command_past (suc (suc zero)) i j h g = rw (p0 i h, p1 i h, p2 i h, p0 j g, p1 j g, p2 j g)
  command_past (suc (suc (suc k))) i j h g = ap cubic_quads_of (cubic_past i h ∙ sym (cubic_past j g))

  primitives_past : (ks : List ℕ) (i j : ℕ) → 2 ^ 62 ≤ i → 2 ^ 62 ≤ j → primitives_from c ks i ≡ primitives_from c ks j
  unfolding primitives_from
  primitives_past [] i j h g = refl
  primitives_past (k ∷ ks) i j h g =
      rw (command_past k i j h g, primitives_past ks (i + uses_of k) (j + uses_of k) (omega arith) (omega arith))

  -- the number of points used up may stop at the largest: both numbers are past the columns then
  advanced : (ks : List ℕ) (m : ℕ) → primitives_from c ks m ≡ primitives_from c ks (min m (2 ^ 64 - 1))
  advanced ks m = go (leb m (2 ^ 64 - 1)) refl
    where
      go : (b : Bool) → leb m (2 ^ 64 - 1) ≡ b → primitives_from c ks m ≡ primitives_from c ks (min m (2 ^ 64 - 1))
      go true e = ap (λ (k : ℕ). primitives_from c ks k) (sym (min-eq_left (leb-true m (2 ^ 64 - 1) e)))
      go false e =
          let h : 2 ^ 64 - 1 < m = leb-false m (2 ^ 64 - 1) e in
          let e' = min-eq_right (le_of_lt h) in
          primitives_past ks m (min m (2 ^ 64 - 1)) (omega arith) (omega arith)

  pub read_on : (i k : ℕ) {n : ℕ} {p : WeightedPoint} → n ≡ min (i + k) (2 ^ 64 - 1) → p ≡ stored_point_of c n → p ≡ stored_point_of c (i + k)
  read_on i k en ep = ep ∙ ap (λ (n : ℕ). stored_point_of c n) en ∙ go (leb (i + k) (2 ^ 64 - 1)) refl
    where
      go : (b : Bool) → leb (i + k) (2 ^ 64 - 1) ≡ b → stored_point_of c (min (i + k) (2 ^ 64 - 1)) ≡ stored_point_of c (i + k)
      go true e = ap (λ (n : ℕ). stored_point_of c n) (min-eq_left (leb-true (i + k) (2 ^ 64 - 1) e))
      go false e =
          let h : 2 ^ 64 - 1 < i + k = leb-false (i + k) (2 ^ 64 - 1) e in
          let e' = min-eq_right (le_of_lt h) in
          past (min (i + k) (2 ^ 64 - 1)) (omega arith) ∙ sym (past (i + k) (omega arith))

-- ---- one command
module _ (c : Columns) (s : Short c) where
  pub cubic_read :
      (i : ℕ) {a b d : ℕ} {p0 p1 p2 p3 : WeightedPoint}
      → p0 ≡ stored_point_of c i
      → a ≡ min (i + 1) (2 ^ 64 - 1)
      → p1 ≡ stored_point_of c a
      → b ≡ min (i + 2) (2 ^ 64 - 1)
      → p2 ≡ stored_point_of c b
      → d ≡ min (i + 3) (2 ^ 64 - 1)
      → p3 ≡ stored_point_of c d
      → record { p0 = p0; p1 = p1; p2 = p2; p3 = p3 } ≡ cubic_from c i
  unfolding cubic_from
  cubic_read i e0 ea e1 eb e2 ed e3 = rw (e0, read_on c s i 1 ea e1, read_on c s i 2 eb e2, read_on c s i 3 ed e3)

module _ (setting : Setting) (caps : Capacities) (w₀ : World) where
  pub one_command : {p : Primitive} {ps : List Primitive} {w : World} → p ∷ [] ≡ ps → w ≡ run_of setting caps (p ∷ []) w₀ → w ≡ run_of setting caps ps w₀
  one_command e ew = rw (← e) ew

  pub cubic_command_lem :
      (c : Columns) (k j : ℕ) {i : ℕ} {cubic : Cubic} {w : World}
      → 3 ≤ k
      → i ≡ j - 1
      → cubic ≡ cubic_from c i
      → w ≡ run_of setting caps (cubic_quads_of cubic) w₀
      → w ≡ run_of setting caps (command_primitives_of c k j) w₀
  unfolding command_primitives_of
  cubic_command_lem c zero j h ei ec ew = absurd (omega arith)
  cubic_command_lem c (suc zero) j h ei ec ew = absurd (omega arith)
  cubic_command_lem c (suc (suc zero)) j h ei ec ew = absurd (omega arith)
  cubic_command_lem c (suc (suc (suc k))) j h ei ec ew = rw (← ei, ← ec) ew

-- the invariant: the commands from the i-th on are left, after j points
pub record Taking (setting : Setting) (caps : Capacities) (c : Columns) (ks : List ℕ) (w₀ w : World) (i j : ℕ) : Type 0 where
  pub same : run_of setting caps (primitives_from c ks 0) w₀ ≡ run_of setting caps (primitives_from c (drop i ks) j) w

module _
    (setting : Setting) (caps : Capacities) (c : Columns) (ks : List ℕ) (w₀ w : World) (i j : ℕ)
    (g : Taking setting caps c ks w₀ w i j)
  where
    next : {k : ℕ} → i < length ks → k ≡ get_or ks i 0 → drop i ks ≡ k ∷ drop (i + 1) ks
    next h ek = rw (add-one, ek) (drop-cons ks i 0 h)

    pub take_on :
        {k : ℕ} {w' : World} {j' : ℕ}
        → Short c
        → i < length ks
        → k ≡ get_or ks i 0
        → w' ≡ run_of setting caps (command_primitives_of c k j) w
        → j' ≡ min (j + uses_of k) (2 ^ 64 - 1)
        → Taking setting caps c ks w₀ w' (i + 1) j'
    unfolding primitives_from
    take_on {k} {w'} {j'} s h ek ew ej =
        let rest = drop (i + 1) ks in
        record {
          same =
              g.same
              ∙ ap (λ (l : List ℕ). run_of setting caps (primitives_from c l j) w) (next h ek)
              ∙ run_append setting caps (command_primitives_of c k j) (primitives_from c rest (j + uses_of k)) w
              ∙ ap (λ (v : World). run_of setting caps (primitives_from c rest (j + uses_of k)) v) (sym ew)
              ∙ ap (λ (ps : List Primitive). run_of setting caps ps w') (advanced c s rest (j + uses_of k) ∙ ap (λ (m : ℕ). primitives_from c rest m) (sym ej));
        }

    -- after a refusal the commands left change nothing
    pub take_stop : is_done w.state.answer ≡ false → w ≡ run_of setting caps (primitives_from c ks 0) w₀
    take_stop e = sym (g.same ∙ run_stop setting caps (primitives_from c (drop i ks) j) w e)

    pub take_end : length ks ≤ i → w ≡ run_of setting caps (primitives_from c ks 0) w₀
    unfolding primitives_from run_of
    take_end h = sym (g.same ∙ ap (λ (l : List ℕ). run_of setting caps (primitives_from c l j) w) (drop_of_length-le ks {i = i} h))

-- ---- the whole drawing
take_least : (m : ℕ) (l : List ℕ) → take (min m (length l)) l ≡ take m l
take_least m l = go (leb m (length l)) refl
  where
    go : (b : Bool) → leb m (length l) ≡ b → take (min m (length l)) l ≡ take m l
    go true e = ap (λ (k : ℕ). take k l) (min-eq_left (leb-true m (length l) e))
    go false e =
        let h : length l ≤ m = le_of_lt (leb-false m (length l) e) in
        ap (λ (k : ℕ). take k l) (min-eq_right h) ∙ take-length l ∙ sym (take_all m l h)

pub filled :
    (setting : Setting) (store : StoreState) (c : Columns) (q : QuadTable) (s : SplineTable) {a b n : ℕ} {ks : List ℕ} {w : World}
    → a ≡ quad_capacity_of q
    → b ≡ spline_capacity_of s
    → n ≡ min store.commands (length c.commands)
    → ks ≡ take n c.commands
    → w ≡ run_of setting (record { quads = a; splines = b }) (primitives_from c ks 0) (world start_state q s)
    → w ≡ tables_of setting store c q s
unfolding tables_of primitives_of capacities_of
filled setting store c q s ea eb en ek e = rw (← ea, ← eb, ← take_least store.commands c.commands, ← en, ← ek) e
