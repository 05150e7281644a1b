-- How many items the walk has: the sum over its splines, that it fits, and the loop that adds it up. Assumes nothing.
use Prim.Native.Nat.{ℕ, zero, suc, ◌+◌, ◌-◌, ◌*◌, ◌/◌, ◌≤◌, ◌<◌}
use native.Mathlib.Omega.{arith}
use native.Mathlib.Nat.{le_of_lt, le_refl, le_trans, div-lt_iff_lt-mul}
use mathlib.Core.Path.{◌≡◌, refl, sym, ◌∙◌, ap, ap₂, subst}
use mathlib.Core.Bool.{Bool, true, false, cond}
use mathlib.Core.List.{List, [], ◌∷◌, ◌++◌}
use lib.ListN.{length, length-append}
use lib.Dec.{T, le→leb}
use lib.IntN.{pos}
use lib.Ieee.{Float, binary32, le, in_float}
use lib.Ieee.Positive.{num, den, den_pos}
use Rattle.leaves.specs.Single.{zero32}
use Rattle.leaves.specs.Whole.{limit32, whole_up_of}
use Rattle.leaves.proofs.WholeUp.{in_range_lem, whole_up_is}
use Rattle.command.specs.declared.PointCommand.TheVariants.{Start, End}
use Rattle.point.specs.declared.Setting.{Setting}
use Rattle.primitives.specs.declared.QuadRow.{QuadRow}
use Rattle.primitives.specs.declared.SplineRow.{SplineRow}
use Rattle.tables.specs.Tables.{SplineTable, spline_at}
use Rattle.walk.specs.Walk.{Item, item, subdivisions_of, step_size_of, starts_after_of, starts_of, cursor_start_of, steps_from, spline_items_of, cursor_after}
use Rattle.walk.specs.Walk.{walk_from, walk_of}
use Rattle.walk.specs.Length.{steps_of, spline_length_of, length_from, walk_length_of}

-- ---- bounds
up_bound : (n d : ℕ) → 0 < d → n ≤ 65536 * d → (n + d - 1) / d ≤ 65537
up_bound n d p h = le_of_lt ((div-lt_iff_lt-mul p).1 (omega arith))

pub whole_up_bound : (x : Float) → whole_up_of x ≤ 65537
whole_up_bound x = go (le zero32 x) (le x limit32) refl refl
  where
    go : (a b : Bool) → le zero32 x ≡ a → le x limit32 ≡ b → whole_up_of x ≤ 65537
    go true true h k = subst (λ (n : ℕ). n ≤ 65537) (whole_up_is x true true h k) (up_bound (num x) (den x) (den_pos x) (in_range_lem x h k).1)
    go true false h k = subst (λ (n : ℕ). n ≤ 65537) (whole_up_is x true false h k) (le_refl 65537)
    go false true h k = subst (λ (n : ℕ). n ≤ 65537) (whole_up_is x false true h k) (le_refl 65537)
    go false false h k = subst (λ (n : ℕ). n ≤ 65537) (whole_up_is x false false h k) (le_refl 65537)

-- a number so small is an f32
pub small_exact : (n : ℕ) → n ≤ 65537 → T (in_float binary32 (pos n))
unfolding in_float
small_exact n h = le→leb n 16777216 (le_trans h (omega arith))

pub steps_bound : (x : Float) → steps_of x ≤ 65536
steps_bound x = let h = whole_up_bound x in omega arith

pub spline_length_bound : (k : ℕ) (last row : SplineRow) → spline_length_of k last row ≤ 65538
unfolding spline_length_of
spline_length_bound k last row = go (starts_after_of k last row) (steps_of row.curvature) (steps_bound row.curvature)
  where
    go : (b : Bool) (n : ℕ) → n ≤ 65536 → cond b (n + 2) (n + 1) ≤ 65538
    go true n h = omega arith
    go false n h = omega arith

-- ---- the length of the walk, for all rows of quads
pub steps_length : (rows : ℕ → QuadRow) (size : Float) (n p cursor : ℕ) → length (steps_from rows size n p cursor) ≡ n
unfolding steps_from
steps_length rows size zero p cursor = refl
steps_length rows size (suc n) p cursor = ap suc (steps_length rows size n (p + 1) _)

around : (start end : Item) (steps : List Item) (n : ℕ) (b : Bool) → length steps ≡ n
    → length (cond b (start ∷ []) [] ++ (steps ++ (end ∷ []))) ≡ cond b (n + 2) (n + 1)
around start end steps n true h = let e = length-append steps (end ∷ []) in omega arith
around start end steps n false h = let e = length-append steps (end ∷ []) in omega arith

pub spline_length : (rows : ℕ → QuadRow) (s : SplineTable) (k cursor : ℕ)
    → length (spline_items_of rows s k cursor) ≡ spline_length_of k (spline_at s (k - 1)) (spline_at s k)
unfolding spline_items_of spline_length_of starts_of subdivisions_of
spline_length rows s k cursor =
    around (item (Start k) 0 0) (item (End k (spline_at s k).contour) 0 0)
    (steps_from rows (step_size_of s k) (subdivisions_of s k - 1) 1 cursor) (subdivisions_of s k - 1) (starts_of s k)
    (steps_length rows (step_size_of s k) (subdivisions_of s k - 1) 1 cursor)

walk_from-length : (setting : Setting) (rows : ℕ → QuadRow) (s : SplineTable) (n k cursor : ℕ) → length (walk_from setting rows s n k cursor) ≡ length_from s n k
unfolding walk_from length_from
walk_from-length setting rows s zero k cursor = refl
walk_from-length setting rows s (suc n) k cursor =
    let start = cursor_start_of setting (spline_at s k).first_quad cursor in
    length-append (spline_items_of rows s k start) (walk_from setting rows s n (k + 1) (cursor_after rows s k start))
    ∙ ap₂ (λ (a b : ℕ). a + b) (spline_length rows s k start) (walk_from-length setting rows s n (k + 1) (cursor_after rows s k start))

pub walk_length_lem : (setting : Setting) (rows : ℕ → QuadRow) (s : SplineTable) (n : ℕ) → length (walk_of setting rows s n) ≡ walk_length_of s n
unfolding walk_of walk_length_of
walk_length_lem setting rows s n = walk_from-length setting rows s n 0 0

-- ---- the loop that counts: what is counted and what is left add up to the whole
pub record Counted (s : SplineTable) (n total : ℕ) (last : SplineRow) (k : ℕ) : Type 0 where
  pub within : k ≤ n
  pub small : total ≤ 65538 * k
  pub before : last ≡ spline_at s (k - 1)
  pub same : walk_length_of s n ≡ total + length_from s (n - k) k

pub counted_start : {s : SplineTable} {n : ℕ} {last : SplineRow} → last ≡ spline_at s 0 → Counted s n 0 last 0
unfolding walk_length_of
counted_start {s} {n} e = record { within = omega arith; small = omega arith; before = e; same = let i : n - 0 ≡ n = omega arith in rw i (omega arith) }

length_more : (s : SplineTable) (left k : ℕ) → 0 < left
    → length_from s left k ≡ spline_length_of k (spline_at s (k - 1)) (spline_at s k) + length_from s (left - 1) (k + 1)
unfolding length_from
length_more s zero k h = absurd (let z : ◌≡◌ {A = ℕ} 0 1 = omega arith in omega arith)
length_more s (suc n) k h = let e : suc n - 1 ≡ n = omega arith in rw e

module _ {s : SplineTable} {n total : ℕ} {last : SplineRow} {k : ℕ} (g : Counted s n total last k) where
  pub counted_more : {row : SplineRow} {len : ℕ} → k < n → row ≡ spline_at s k → len ≡ spline_length_of k last row
      → Counted s n (total + len) row (k + 1)
  counted_more {row} {len} h r l =
      let b : len ≤ 65538 = subst (λ (x : ℕ). x ≤ 65538) (sym l) (spline_length_bound k last row) in
      let e : k + 1 - 1 ≡ k = omega arith in
      let i : n - k - 1 ≡ n - (k + 1) = omega arith in
      let m : length_from s (n - k) k ≡ len + length_from s (n - k - 1) (k + 1) = rw (l, r, g.before) (length_more s (n - k) k (omega (arith, h))) in
      record { within = omega (arith, h); small = let w = g.small in omega arith; before = rw e r; same = rw (← i) (let w = g.same in omega arith) }

  pub counted_end : n ≤ k → total ≡ walk_length_of s n
  unfolding length_from
  counted_end h = let e : n - k ≡ 0 = omega arith in let w = g.same ∙ ap (λ (m : ℕ). total + length_from s m k) e in omega arith
