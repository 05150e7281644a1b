-- A drawing's contours as jobs of their own: their tables are those that stand in the whole's, whatever is known of the whole or of them; and what an accepted
-- one leaves, by its walk. Assumes nothing.
use Prim.Native.Nat.{ℕ, zero, suc, ◌≤◌, zero-le}
use mathlib.Core.Path.{◌≡◌, refl, ap, ◌∙◌}
use mathlib.Core.Bool.{true, ◌&&◌}
use mathlib.Core.List.{List, [], ◌∷◌, map}
use mathlib.Mathlib.Data.Bool.Basic.{and_elim_left, and_elim_right}
use native.Mathlib.Nat.{le_refl}
use lib.Dec.{leb}
use lib.ListN.{length, take, get_or, length-map}
use lib.Seq.{take_at}
use borrow.Author.Tests.{leb-true, le-leb}
use Rattle.columns.specs.Flags.{flag_byte_of}
use Rattle.store.specs.Contours.{Drawing, contours_of}
use Rattle.store.specs.Drawable.{drawable_of}
use Rattle.store.proofs.Sound.{sound as store-sound}
use Rattle.tables.specs.Tables.{QuadTable, SplineTable, capacities_of}
use Rattle.tables.specs.Run.{World, world, start_state}
use Rattle.tables.specs.Commands.{primitives_of, tables_of}
use Rattle.tables.proofs.Sound.{sound_start}
use Rattle.tables.proofs.Flags.{flagged_start}
use Rattle.tables.proofs.Slices.{Moves}
use Rattle.tables.proofs.Nested.{worlds_from, AllGiven, Joins, nested}
use Rattle.evaluate.specs.Evaluate.{Finished, points_of}
use Rattle.flatten.specs.Flatten.{Output, over, fits_output, write_output, walked}
use Rattle.promises.specs.Accepted.{Job, flattening_of, Accepted}
use Rattle.promises.specs.Nests.{Lent, job_of, alones_from, alones_of, x_in, y_in, end_in}
use Rattle.promises.proofs.Flattened.{world_of, items_in, passed}
use Rattle.promises.proofs.Decoding.{caps_of}
use Rattle.promises.proofs.JoinedWalks.{points_in}

-- ---- the tables of the contours
module _ (job : Job) (lent : ℕ → Lent) where
  abbrev pub tables_q : ℕ → QuadTable
  tables_q i = (lent i).quads

  abbrev pub tables_s : ℕ → SplineTable
  tables_s i = (lent i).splines

  abbrev pub start : World
  start = world start_state job.quads job.splines

  abbrev pub worlds_of : List World
  worlds_of = worlds_from job.setting (caps_of job) tables_q tables_s 0 (contours_of job.state job.columns)

  worlds_from_lem : (i : ℕ) (ds : List Drawing)
      → map world_of (alones_from job.setting lent i ds) ≡ worlds_from job.setting (caps_of job) tables_q tables_s i ds
  unfolding alones_from worlds_from
  worlds_from_lem i [] = refl
  worlds_from_lem i (d ∷ ds) = ap (λ (r : List World). world_of (job_of job.setting (lent i) d) ∷ r) (worlds_from_lem (suc i) ds)

  pub worlds_are : map world_of (alones_of job lent) ≡ worlds_of
  worlds_are = worlds_from_lem 0 (contours_of job.state job.columns)

  -- a drawing begins with a Move
  begins : (n : ℕ) (l : List ℕ) → get_or l 0 0 ≡ 0 → Moves (take n l)
  begins zero l e = tt
  begins (suc n) [] e = tt
  begins (suc n) (k ∷ ks) e = e

  pub joins : drawable_of job.state job.columns ≡ true
      → AllGiven job.setting (caps_of job) tables_q tables_s 0 0 (world_of job) worlds_of
      → Joins job.setting (caps_of job) tables_q tables_s start (world_of job) worlds_of
  unfolding tables_of primitives_of contours_of capacities_of
  joins e g =
      let ks = take job.state.commands job.columns.commands in
      nested job.setting (caps_of job) tables_q tables_s job.columns (length ks) ks 0 0 start (λ (m : ℕ). ⊥) (le_refl (length ks))
      (begins job.state.commands job.columns.commands (store-sound job.state job.columns e).first) (sound_start job.quads job.splines)
      (flagged_start job.quads job.splines) (record { quads = le_refl _; splines = le_refl _; within = zero-le }) refl g

-- ---- the room of outputs
pub record Fits (n : ℕ) (o : Output) : Type 0 where
  pub words : n ≤ length o.words
  pub x : n ≤ length o.x
  pub y : n ≤ length o.y
  pub end : n ≤ length o.end

pub fits_told : (n : ℕ) (o : Output) → fits_output n o ≡ true → Fits n o
unfolding fits_output
fits_told n o e =
    let t₀ = leb n (length o.words) in
    let t₁ = t₀ && leb n (length o.x) in
    let t₂ = t₁ && leb n (length o.y) in
    let e₂ = and_elim_left t₂ _ e in
    let e₁ = and_elim_left t₁ _ e₂ in
    record {
      words = leb-true n (length o.words) (and_elim_left t₀ _ e₁);
      x = leb-true n (length o.x) (and_elim_right t₀ _ e₁);
      y = leb-true n (length o.y) (and_elim_right t₁ _ e₂);
      end = leb-true n (length o.end) (and_elim_right t₂ _ e);
    }

pub fits_holds : (n : ℕ) (o : Output) → Fits n o → fits_output n o ≡ true
unfolding fits_output
fits_holds n o f =
    rw (le-leb n (length o.words) f.words, le-leb n (length o.x) f.x, le-leb n (length o.y) f.y, le-leb n (length o.end) f.end)

-- ---- the finished points of an accepted drawing are its walk's
module _ (job : Job) where
  abbrev pub walked_points : List Finished
  walked_points = points_in job.setting (world_of job)

  column : {A : Type 0} (f : Finished → A) (old : List A) → take (length (items_in job.setting (world_of job))) (over (map f walked_points) old) ≡ map f walked_points
  unfolding over points_of
  column f old =
      take_at (map f walked_points) _ _ (length-map walked_points f ∙ length-map (items_in job.setting (world_of job)) _)

  pub xs_are : Accepted job → x_in (flattening_of job) ≡ map (λ (p : Finished). p.point.x) walked_points
  unfolding walked write_output
  xs_are h = ap x_in (passed job h).result ∙ column (λ (p : Finished). p.point.x) job.output.x

  pub ys_are : Accepted job → y_in (flattening_of job) ≡ map (λ (p : Finished). p.point.y) walked_points
  unfolding walked write_output
  ys_are h = ap y_in (passed job h).result ∙ column (λ (p : Finished). p.point.y) job.output.y

  pub ends_are : Accepted job → end_in (flattening_of job) ≡ map (λ (p : Finished). flag_byte_of p.end) walked_points
  unfolding walked write_output
  ends_are h = ap end_in (passed job h).result ∙ column (λ (p : Finished). flag_byte_of p.end) job.output.end
