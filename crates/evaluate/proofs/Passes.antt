-- The two loops that write. Their invariant: writing what is left, from here, leaves the same as writing the whole; and the place stays small. Assumes nothing.
use Prim.Native.Nat.{ℕ, zero, suc, ◌+◌, ◌-◌, ◌*◌, ◌≤◌, ◌<◌}
use native.Mathlib.Omega.{arith}
use mathlib.Core.Path.{◌≡◌, refl, sym, ◌∙◌, ap, subst}
use mathlib.Core.Bool.{Bool, true, false, cond}
use lib.Dec.{eqb}
use lib.ListN.{length}
use Rattle.std.specs.Prelude.{Some, None}
use lib.Ieee.{Float}
use Rattle.command.specs.declared.PointCommand.TheVariants.{Incr, End}
use Rattle.command.specs.Packing.{pack_of}
use Rattle.point.specs.declared.Point.{Point}
use Rattle.point.specs.declared.Setting.{Setting}
use Rattle.point.specs.declared.Setting.TheVariants.{Screen}
use Rattle.primitives.specs.declared.SplineRow.{SplineRow}
use Rattle.primitives.specs.declared.QuadRow.{QuadRow}
use Rattle.tables.specs.Tables.{SplineTable, spline_at}
use Rattle.leaves.specs.Single.{whole32}
use Rattle.walk.specs.Walk.{cursor_start_of, cursor_at_of, cursor_at, cursor_from, cursor_after, starts_after_of, starts_of, subdivisions_of, walk_of}
use Rattle.walk.specs.Length.{steps_of, size_of, walk_length_of}
use Rattle.walk.proofs.Lengths.{whole_up_bound, steps_bound, spline_length, spline_length_bound, walk_length_lem}
use Rattle.evaluate.specs.declared.Place.{Place}
use Rattle.evaluate.specs.declared.StepQuad.{StepQuad}
use Rattle.evaluate.specs.Evaluate.{finished, step_quad_of, step_point_of}
use Rattle.evaluate.specs.Output.{Output, fits_output, write_output}
use Rattle.evaluate.specs.Writing.{Written, written, place_at, write_entry_of, write_start_of, write_steps_from, write_steps_of, end_cursor_of}
use Rattle.evaluate.specs.Writing.{write_spline_of, write_walk_from, write_walk_of}
use Rattle.evaluate.specs.Delivery.{delivery, delivers, deliver_of}
use Rattle.evaluate.proofs.Entries.{cursor_from_bound, steps_place, left_at, spline_written, walk_written}

-- ---- the steps of a spline
pub record Stepping (rows : ℕ → QuadRow) (size : Float) (n at₀ cursor₀ : ℕ) (o₀ o : Output) (at cursor p : ℕ) : Type 0 where
  pub below : (1 ≤ p) × (p ≤ n + 1)
  pub room : at + 1 ≡ at₀ + p
  pub same : write_steps_of rows size n (place_at at₀ cursor₀) o₀ ≡ write_steps_from rows size (n + 1 - p) p (place_at at cursor) o

pub stepping_start : {rows : ℕ → QuadRow} {size : Float} {n at cursor : ℕ} {o : Output} → Stepping rows size n at cursor o o at cursor 1
unfolding write_steps_of
stepping_start {n} = record { below = (omega arith, omega arith); room = refl; same = let e : n + 1 - 1 ≡ n = omega arith in rw e }

steps_more : (rows : ℕ → QuadRow) (size : Float) (left p at cursor : ℕ) (o : Output) → 0 < left
    → write_steps_from rows size left p (place_at at cursor) o
    ≡ write_steps_from rows size (left - 1) (p + 1) (place_at (at + 1) (cursor_at rows p cursor))
    (write_entry_of at (pack_of (Incr size)) (finished (step_point_of (step_quad_of rows (cursor_at rows p cursor)) size p) false) o)
unfolding write_steps_from
steps_more rows size zero p at cursor o h = absurd (let z : ◌≡◌ {A = ℕ} 0 1 = omega arith in omega arith)
steps_more rows size (suc n) p at cursor o h = let e : suc n - 1 ≡ n = omega arith in rw e

module _
    {rows : ℕ → QuadRow} {size : Float} {n at₀ cursor₀ : ℕ} {o₀ o : Output} {at cursor p : ℕ}
    (g : Stepping rows size n at₀ cursor₀ o₀ o at cursor p) where
  pub stepping_more : {cursor' : ℕ} {quad : StepQuad} {point : Point} {word : ℕ} {o' : Output} → p ≤ n
      → cursor' ≡ cursor_at_of (rows cursor).partial_curvature (whole32 p) cursor → quad ≡ step_quad_of rows cursor'
      → point ≡ step_point_of quad size p → word ≡ pack_of (Incr size)
      → o' ≡ write_entry_of at word (finished point false) o
      → Stepping rows size n at₀ cursor₀ o₀ o' (at + 1) cursor' (p + 1)
  unfolding cursor_at
  stepping_more h ec eq ep ew eo =
      let e : n + 1 - p - 1 ≡ n + 1 - (p + 1) = omega arith in
      record {
        below = (omega arith, omega (arith, h));
        room = let w = g.room in omega arith;
        same = g.same ∙ steps_more rows size (n + 1 - p) p at cursor o (omega (arith, h)) ∙ rw (eo, ew, ep, eq, ec, e);
      }

  pub stepping_end : n + 1 ≤ p → written o (place_at at cursor) ≡ write_steps_of rows size n (place_at at₀ cursor₀) o₀
  unfolding write_steps_from
  stepping_end h = let e : n + 1 - p ≡ 0 = omega arith in sym (g.same ∙ ap (λ (m : ℕ). write_steps_from rows size m p (place_at at cursor) o) e)

-- ---- one spline
screen_starts : (first cursor : ℕ) → cursor_start_of Screen first cursor ≡ cursor
unfolding cursor_start_of
screen_starts first cursor = refl

pub few : (n : ℕ) (sum : Float) → n ≡ steps_of sum → n ≤ 65536
few n sum e = rw e (steps_bound sum)

pub start_place : (starts : Bool) (k : ℕ) (first : Point) (from to : Place) (o₀ o : Output) → written o to ≡ write_start_of starts k first from o₀
    → (to.at ≤ from.at + 1) × (to.cursor ≡ from.cursor)
unfolding write_start_of
start_place starts k first from to o₀ o e = go starts _ e
  where
    go : (b : Bool) (o' : Output) → written o to ≡ cond b (written o' (place_at (from.at + 1) from.cursor)) (written o₀ from)
        → (to.at ≤ from.at + 1) × (to.cursor ≡ from.cursor)
    go true o' h = let a = ap (λ (w : Written). w.place.at) h in (omega arith, ap (λ (w : Written). w.place.cursor) h)
    go false o' h = let a = ap (λ (w : Written). w.place.at) h in (omega arith, ap (λ (w : Written). w.place.cursor) h)

pub end_place : (setting : Setting) (rows : ℕ → QuadRow) (size : Float) (n first cursor : ℕ) (from start to : Place) (o₀ o : Output) → n ≤ 65536
    → (from.at ≤ 0x4000_0000_0000_0000) × (setting ≡ Screen → from.cursor ≤ 0x4000_0000_0000_0000)
    → cursor ≡ cursor_start_of setting first from.cursor
    → (start.at ≤ from.at + 1) × (start.cursor ≡ cursor)
    → written o to ≡ write_steps_of rows size n start o₀
    → (to.at ≤ 0x4000_0000_0002_0000) × (setting ≡ Screen → to.cursor ≤ 0x4000_0000_0002_0000)
unfolding write_steps_of
end_place setting rows size n first cursor from start to o₀ o h f b g e =
    let p = ap (λ (w : Written). w.place) e ∙ steps_place rows size n 1 start o₀ in
    let a = ap (λ (x : Place). x.at) p in
    let c = ap (λ (x : Place). x.cursor) p in
    (omega (arith, f.0, g.0), λ z. omega (arith, cursor_from_bound rows n 1 start.cursor, f.1 z, c, g.1, same z))
  where
    same : setting ≡ Screen → cursor ≡ from.cursor
    same z = b ∙ ap (λ (x : Setting). cursor_start_of x first from.cursor) z ∙ screen_starts first from.cursor

pub spline_passes : (setting : Setting) (rows : ℕ → QuadRow) (k : ℕ) (starts : Bool) (row : SplineRow) (from start to : Place) (o₀ o₁ o₂ o₃ : Output) (size : Float)
    (n word cursor next : ℕ)
    → cursor ≡ cursor_start_of setting row.first_quad from.cursor
    → written o₁ start ≡ write_start_of starts k row.p0 (place_at from.at cursor) o₀
    → size ≡ size_of row.curvature
    → n ≡ steps_of row.curvature
    → written o₂ to ≡ write_steps_of rows size n start o₁
    → word ≡ pack_of (End k row.contour)
    → o₃ ≡ write_entry_of to.at word (finished row.p2 row.contour) o₂
    → next ≡ end_cursor_of setting row.curvature to.cursor
    → written o₃ (place_at (to.at + 1) next) ≡ write_spline_of setting rows k starts row from o₀
unfolding write_spline_of
spline_passes setting rows k starts row from start to o₀ o₁ o₂ o₃ size n word cursor next hb hs hz hn ht hw ho he =
    rw (← hb, ← hs, ← hz, ← hn, ← ht, ← hw, ← ho, ← he)

-- ---- all splines
pub record Walking (setting : Setting) (rows : ℕ → QuadRow) (s : SplineTable) (n : ℕ) (o₀ o : Output) (last : SplineRow) (place : Place) (k : ℕ) : Type 0 where
  pub within : k ≤ n
  pub entry : place.at ≤ 65538 * k
  pub cursor : setting ≡ Screen → place.cursor ≤ 65538 * k
  pub before : last ≡ spline_at s (k - 1)
  pub same : write_walk_of setting rows s n o₀ ≡ write_walk_from setting rows s (n - k) k place o

pub walking_start : {setting : Setting} {rows : ℕ → QuadRow} {s : SplineTable} {n : ℕ} {o : Output} {last : SplineRow}
    → last ≡ spline_at s 0 → Walking setting rows s n o o last (place_at 0 0) 0
unfolding write_walk_of
walking_start {n} e =
    record { within = omega arith; entry = omega arith; cursor = λ z. omega arith; before = e; same = let i : n - 0 ≡ n = omega arith in rw i }

after_bound : (rows : ℕ → QuadRow) (s : SplineTable) (k cursor : ℕ) → cursor_after rows s k cursor ≤ cursor + 65537
unfolding cursor_after subdivisions_of
after_bound rows s k cursor =
    let m = subdivisions_of s k in
    let h : m ≤ 65537 = whole_up_bound (spline_at s k).curvature in
    go (eqb m 0) m (cursor_from rows (m - 1) 1 cursor) h (cursor_from_bound rows (m - 1) 1 cursor)
  where
    go : (b : Bool) (m c : ℕ) → m ≤ 65537 → c ≤ cursor + (m - 1) → cond b cursor (c + 1) ≤ cursor + 65537
    go true m c h l = omega arith
    go false m c h l = omega arith

left_screen : (rows : ℕ → QuadRow) (s : SplineTable) (k cursor : ℕ) → left_at Screen rows s k (cursor_start_of Screen (spline_at s k).first_quad cursor) ≤ cursor + 65537
unfolding left_at cursor_start_of
left_screen rows s k cursor = after_bound rows s k cursor

left_bound : (setting : Setting) (rows : ℕ → QuadRow) (s : SplineTable) (k cursor : ℕ) → setting ≡ Screen
    → left_at setting rows s k (cursor_start_of setting (spline_at s k).first_quad cursor) ≤ cursor + 65537
left_bound setting rows s k cursor z = subst (λ (x : Setting). left_at x rows s k (cursor_start_of x (spline_at s k).first_quad cursor) ≤ cursor + 65537) (sym z)
    (left_screen rows s k cursor)

walk_more : (setting : Setting) (rows : ℕ → QuadRow) (s : SplineTable) (left k : ℕ) (from : Place) (o : Output) → 0 < left
    → write_walk_from setting rows s left k from o
    ≡ write_walk_from setting rows s (left - 1) (k + 1) (write_spline_of setting rows k (starts_of s k) (spline_at s k) from o).place
    (write_spline_of setting rows k (starts_of s k) (spline_at s k) from o).output
unfolding write_walk_from
walk_more setting rows s zero k from o h = absurd (let z : ◌≡◌ {A = ℕ} 0 1 = omega arith in omega arith)
walk_more setting rows s (suc n) k from o h = let e : suc n - 1 ≡ n = omega arith in rw e

module _
    {setting : Setting} {rows : ℕ → QuadRow} {s : SplineTable} {n : ℕ} {o₀ o : Output} {last : SplineRow} {place : Place} {k : ℕ}
    (g : Walking setting rows s n o₀ o last place k) where
  pub walking_more : {row : SplineRow} {starts : Bool} {place' : Place} {o' : Output} → k < n
      → row ≡ spline_at s k → starts ≡ starts_after_of k last row → written o' place' ≡ write_spline_of setting rows k starts row place o
      → Walking setting rows s n o₀ o' row place' (k + 1)
  unfolding starts_of
  walking_more {row} {starts} {place'} {o'} h hr hs hw =
      let e : k + 1 - 1 ≡ k = omega arith in
      let i : n - k - 1 ≡ n - (k + 1) = omega arith in
      let w : written o' place' ≡ write_spline_of setting rows k (starts_of s k) (spline_at s k) place o = rw (← g.before, ← hr, ← hs) hw in
      let p = ap (λ (x : Written). x.place) (w ∙ spline_written setting rows s k place o) in
      let pa = ap (λ (x : Place). x.at) p in
      let pc = ap (λ (x : Place). x.cursor) p in
      let start = cursor_start_of setting (spline_at s k).first_quad place.cursor in
      let la = spline_length rows s k start in
      let lb = spline_length_bound k (spline_at s (k - 1)) (spline_at s k) in
      record {
        within = omega (arith, h);
        entry = let x = g.entry in omega arith;
        cursor = λ z. let x = g.cursor z in let lc = left_bound setting rows s k place.cursor z in omega arith;
        before = rw e hr;
        same = g.same ∙ walk_more setting rows s (n - k) k place o (omega (arith, h)) ∙ rw (← w, i);
      }

  pub walking_end : n ≤ k → o ≡ write_walk_of setting rows s n o₀
  unfolding write_walk_from
  walking_end h = let e : n - k ≡ 0 = omega arith in sym (g.same ∙ ap (λ (m : ℕ). write_walk_from setting rows s m k place o) e)

-- ---- the length tested, then all written
module _ (setting : Setting) (rows : ℕ → QuadRow) (s : SplineTable) (n : ℕ) {len : ℕ} (o : Output) (hl : len ≡ walk_length_of s n) where
  counted : length (walk_of setting rows s n) ≡ len
  counted = walk_length_lem setting rows s n ∙ sym hl

  pub delivered_not : fits_output len o ≡ false → delivers None o ≡ deliver_of setting rows s n o
  unfolding deliver_of
  delivered_not h = rw (counted, h)

  pub delivered : {o' : Output} → fits_output len o ≡ true → o' ≡ write_walk_of setting rows s n o → delivers (Some len) o' ≡ deliver_of setting rows s n o
  unfolding deliver_of
  delivered {o'} h e =
      let f : fits_output (length (walk_of setting rows s n)) o ≡ true = ap (λ (m : ℕ). fits_output m o) counted ∙ h in
      let o'' = write_output rows s (walk_of setting rows s n) o in
      rw f (ap (λ (x : Output). delivery true len x) (e ∙ walk_written setting rows s n o f) ∙ ap (λ (m : ℕ). delivery true m o'') (sym counted))
