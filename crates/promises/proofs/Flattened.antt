-- Of an accepted drawing: the test for answer 3 finds no fault, the run ends with Done, and the walk fits; so the words are the walk's, packed. Assumes
-- nothing.
use mathlib.Core.Path.{◌≡◌, refl, sym, ap, ◌∙◌}
use mathlib.Core.Bool.{Bool, true, false, true≢false}
use mathlib.Core.List.{List}
use Prim.Native.Nat.{ℕ}
use native.Mathlib.Omega.{arith}
use lib.ListN.{length, length-map}
use lib.Seq.{take_at}
use Rattle.answer.specs.Answer.{Done, Unusable, OutputShort}
use Rattle.answer.specs.Number.{number_of, is_done}
use Rattle.point.specs.declared.Setting.{Setting}
use Rattle.store.specs.Drawable.{drawable_of}
use Rattle.tables.specs.Tables.{quad_row_at}
use Rattle.tables.specs.Run.{World}
use Rattle.tables.specs.Commands.{tables_of}
use Rattle.walk.specs.Walk.{Item, walk_of, word_of, words_of}
use Rattle.flatten.specs.Flatten.{Flattening, over, fits_output, write_output, walked, tabled, flatten_drawable, flatten_of}
use Rattle.promises.specs.Accepted.{Job, flattening_of, Accepted, words_in}

-- the tables of a job's run
abbrev pub world_of : Job → World
world_of job = tables_of job.setting job.state job.columns job.quads job.splines

abbrev pub items_in : Setting → World → List Item
items_in setting w = walk_of setting (quad_row_at w.quads) w.splines w.state.splines

-- what an accepted drawing leaves
abbrev pub finished_of : Job → Flattening
finished_of job = walked true (world_of job) (items_in job.setting (world_of job)) job.output

pub record Passed (job : Job) : Type 0 where
  pub drawable : drawable_of job.state job.columns ≡ true
  pub done : is_done (world_of job).state.answer ≡ true
  pub fits : fits_output (length (items_in job.setting (world_of job))) job.output ≡ true
  pub result : flattening_of job ≡ finished_of job

not_three : Unusable ≡ Done → ⊥
not_three e = let z : ◌≡◌ {A = ℕ} 3 0 = ap number_of e in omega arith

not_nine : OutputShort ≡ Done → ⊥
not_nine e = let z : ◌≡◌ {A = ℕ} 9 0 = ap number_of e in omega arith

pub passed : (job : Job) → Accepted job → Passed job
unfolding flatten_of flatten_drawable tabled walked
passed job h = by_drawable (drawable_of job.state job.columns) refl h
  where
    w : World
    w = world_of job

    by_room : (b : Bool) → (walked b w (items_in job.setting w) job.output).result.answer ≡ Done
        → (b ≡ true) × (walked b w (items_in job.setting w) job.output ≡ finished_of job)
    by_room true h = (refl, refl)
    by_room false h = absurd (not_nine h)

    by_done : (b : Bool) → is_done w.state.answer ≡ b → (tabled job.setting b w job.output).result.answer ≡ Done
        → (is_done w.state.answer ≡ true) × (fits_output (length (items_in job.setting w)) job.output ≡ true)
        × (tabled job.setting b w job.output ≡ finished_of job)
    by_done true e h = let z = by_room (fits_output (length (items_in job.setting w)) job.output) h in (e, z.0, z.1)
    by_done false e h = absurd (true≢false (sym (ap is_done h) ∙ e))

    by_drawable : (b : Bool) → drawable_of job.state job.columns ≡ b
        → (flatten_drawable b job.setting job.state job.columns job.quads job.splines job.output).result.answer ≡ Done → Passed job
    by_drawable true e h =
        let z = by_done (is_done w.state.answer) refl h in
        record {
          drawable = e;
          done = z.0;
          fits = z.1;
          result = ap (λ (b : Bool). flatten_drawable b job.setting job.state job.columns job.quads job.splines job.output) e ∙ z.2;
        }
    by_drawable false e h = absurd (not_three h)

-- and where these hold the drawing is accepted
pub accepts : (job : Job) → drawable_of job.state job.columns ≡ true → is_done (world_of job).state.answer ≡ true
    → fits_output (length (items_in job.setting (world_of job))) job.output ≡ true → Accepted job
unfolding flatten_of flatten_drawable tabled walked
accepts job e d f =
    let w = world_of job in
    ap (λ (b : Bool). (flatten_drawable b job.setting job.state job.columns job.quads job.splines job.output).result.answer) e
    ∙ ap (λ (b : Bool). (tabled job.setting b w job.output).result.answer) d
    ∙ ap (λ (b : Bool). (walked b w (items_in job.setting w) job.output).result.answer) f

-- a drawing that is not refused with 3 passes its test
pub drawable_unless : (job : Job) → ((flattening_of job).result.answer ≡ Unusable → ⊥) → drawable_of job.state job.columns ≡ true
unfolding flatten_of flatten_drawable
drawable_unless job h = go (drawable_of job.state job.columns) refl
  where
    go : (b : Bool) → drawable_of job.state job.columns ≡ b → drawable_of job.state job.columns ≡ true
    go true e = e
    go false e =
        absurd (h (ap (λ (b : Bool). (flatten_drawable b job.setting job.state job.columns job.quads job.splines job.output).result.answer) e))

-- its words are the walk's
pub words_are : (job : Job) → words_in (finished_of job) ≡ words_of (items_in job.setting (world_of job))
unfolding walked write_output over words_of
words_are job = take_at (words_of (items_in job.setting (world_of job))) _ (length (items_in job.setting (world_of job))) (length-map (items_in job.setting (world_of job)) word_of)
