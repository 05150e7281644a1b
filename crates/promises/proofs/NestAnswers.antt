-- 02, Eight: with rooms no smaller each contour alone is accepted if the whole is; and the whole is accepted if each alone is, and there is room for the sums. Assumes
-- nothing.
use Prim.Native.Nat.{ℕ, suc, ◌+◌, ◌≤◌}
use mathlib.Core.Path.{◌≡◌, refl, sym, ap, ◌∙◌, subst}
use mathlib.Core.List.{List, [], ◌∷◌}
use native.Mathlib.Nat.{le_trans, le_of_eq, zero-add}
use native.Mathlib.Omega.{arith}
use lib.ListN.{length}
use Rattle.point.specs.declared.Setting.{Setting}
use Rattle.store.specs.Contours.{Drawing, contours_of}
use Rattle.store.proofs.AloneDrawable.{AllDrawable, contours_drawable}
use Rattle.tables.specs.Tables.{capacities_of}
use Rattle.tables.specs.Run.{World}
use Rattle.tables.proofs.Nested.{worlds_from, AllDone, quads_in, splines_in, from_whole, from_alones}
use Rattle.flatten.specs.Flatten.{Flattening}
use Rattle.promises.specs.Accepted.{Job, Accepted}
use Rattle.promises.specs.Nests.{Lent, lent_to, job_of, alones_from, alones_of, total, NoSmaller, AlonesAccepted, WholeAccepted, WholeTells, PiecesTell}
use Rattle.facts.specs.Every.{All}
use Rattle.promises.proofs.Flattened.{world_of, items_in, passed, accepts, drawable_unless}
use Rattle.promises.proofs.Decoding.{caps_of}
use Rattle.facts.proofs.Every.{all_map}
use Rattle.promises.proofs.JoinedWalks.{length_join}
use Rattle.promises.proofs.NestTables.{tables_q, tables_s, worlds_of, worlds_are, joins, Fits, fits_told, fits_holds}
use Rattle.promises.proofs.Nests.{all_two, settings, all_done, totals, splines_are, quads_are, points_are, nests_join, spread_alike}

-- ---- each alone
module _ (job : Job) (lent : ℕ → Lent) (room : (i : ℕ) → NoSmaller (lent_to job) (lent i)) (n : ℕ) (fits : Fits n job.output) where
  abbrev len : World → ℕ
  len w = length (items_in job.setting w)

  abbrev worlds : ℕ → List Drawing → List World
  worlds i ds = worlds_from job.setting (caps_of job) (tables_q job lent) (tables_s job lent) i ds

  each_accepted : (i : ℕ) (ds : List Drawing) → AllDone (worlds i ds) → AllDrawable ds → total len (worlds i ds) ≤ n
      → All Accepted (alones_from job.setting lent i ds)
  unfolding alones_from worlds_from total
  each_accepted i [] d e l = tt
  each_accepted i (x ∷ ds) d e l =
      let a = job_of job.setting (lent i) x in
      let m = len (world_of a) in
      let s = first m (total len (worlds (suc i) ds)) l in (
        accepts a e.0 d.0
            (fits_holds m (lent i).output
            (record {
              words = le_trans s (le_trans fits.words (room i).words);
              x = le_trans s (le_trans fits.x (room i).x);
              y = le_trans s (le_trans fits.y (room i).y);
              end = le_trans s (le_trans fits.end (room i).end);
            })),
        each_accepted (suc i) ds d.1 e.1 (rest m (total len (worlds (suc i) ds)) l),
      )
    where
      first : (a b : ℕ) → a + b ≤ n → a ≤ n
      first a b h = omega arith

      rest : (a b : ℕ) → a + b ≤ n → b ≤ n
      rest a b h = omega arith

pub alones_accepted : AlonesAccepted
unfolding capacities_of
alones_accepted job lent h room =
    let P = passed job h in
    let J = joins job lent P.drawable (from_whole P.done (λ i. (room i).quads) (λ i. (room i).splines)) in
    let n = length (items_in job.setting (world_of job)) in
    each_accepted job lent room n (fits_told n job.output P.fits) 0 (contours_of job.state job.columns) J.alones_done
    (contours_drawable job.state job.columns P.drawable)
    (le_of_eq (sym (length_join job.setting (world_of job) (worlds_of job lent) J.stand)))

-- ---- the whole
quads_total : (ws : List World) → quads_in ws ≡ total (λ (w : World). w.state.quads) ws
unfolding total
quads_total [] = refl
quads_total (w ∷ ws) = ap (λ (x : ℕ). w.state.quads + x) (quads_total ws)

splines_total : (ws : List World) → splines_in ws ≡ total (λ (w : World). w.state.splines) ws
unfolding total
splines_total [] = refl
splines_total (w ∷ ws) = ap (λ (x : ℕ). w.state.splines + x) (splines_total ws)

pub whole_accepted : WholeAccepted
unfolding capacities_of
whole_accepted job lent usable each room =
    let e = drawable_unless job usable in
    let jobs = alones_of job lent in
    let W = worlds_of job lent in
    let are = worlds_are job lent in
    let quads = quads_total W ∙ ap (total (λ (w : World). w.state.quads)) (sym are)
    ∙ sym (totals (λ (f : Flattening). f.result.quads) (λ (w : World). w.state.quads) jobs (all_map Accepted _ quads_are jobs each)) in
    let splines = splines_total W ∙ ap (total (λ (w : World). w.state.splines)) (sym are)
    ∙ sym (totals (λ (f : Flattening). f.result.splines) (λ (w : World). w.state.splines) jobs (all_map Accepted _ splines_are jobs each)) in
    let J =
    joins job lent e
    (from_alones (subst AllDone are (all_done jobs each)) (le_trans (le_of_eq (zero-add (quads_in W) ∙ quads)) room.quads)
    (le_trans (le_of_eq (zero-add (splines_in W) ∙ splines)) room.splines)) in
    let len : (World → ℕ) = λ w. length (items_in job.setting w) in
    let points = length_join job.setting (world_of job) W J.stand ∙ ap (total len) (sym are)
    ∙ sym (totals (λ (f : Flattening). f.result.points) len jobs
    (all_map (λ (a : Job). Accepted a × (a.setting ≡ job.setting)) _
    (λ a z. points_are a z.0 ∙ ap (λ (x : Setting). length (items_in x (world_of a))) z.1) jobs
    (all_two Accepted (λ (a : Job). a.setting ≡ job.setting) jobs each (settings job.setting lent 0 (contours_of job.state job.columns))))) in
    accepts job e J.whole_done
    (fits_holds (len (world_of job)) job.output
    (record {
      words = le_trans (le_of_eq points) room.words;
      x = le_trans (le_of_eq points) room.x;
      y = le_trans (le_of_eq points) room.y;
      end = le_trans (le_of_eq points) room.end;
    }))

-- ---- the whole tells of the pieces, and the pieces of the whole
pub whole_tells : WholeTells
whole_tells job lent h room spread = nests_join job lent h (alones_accepted job lent h room) spread

pub pieces_tell : PiecesTell
pieces_tell job lent usable each room spread =
    let h = whole_accepted job lent usable each room in
    (h, nests_join job lent h each (λ e. (spread_alike job lent h each).1 (spread e)))
