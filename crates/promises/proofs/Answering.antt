-- Which answers can be given: a drawing call gives 0 to 4, and no 3 if the store is usable; the build then gives 0 or 4; a flattening gives 0 or 5 to 9 if the
-- test for answer 3 finds no fault. A store drawn by these calls alone is usable, and that test finds no fault in it. Assumes nothing.
use Prim.Native.Nat.{◌≤◌}
use mathlib.Core.Path.{◌≡◌, refl, sym, ap, ◌∙◌, subst}
use mathlib.Core.Logic.{◌⊎◌, inl, inr, ◌≢◌}
use mathlib.Core.Bool.{Bool, true, false, not, cond, true≢false}
use mathlib.Core.List.{List}
use native.Mathlib.Nat.{le_trans}
use lib.Dec.{lit≤}
use Rattle.answer.specs.Answer.{Answer}
use Rattle.answer.specs.Answer.{Done, BadCoordinate, BadWeight, Unusable, StoreFull, OutputShort}
use Rattle.answer.specs.Number.{number_of, is_done}
use Rattle.answer.proofs.Laws.{done_is}
use Rattle.store.specs.declared.StoreState.{StoreState}
use Rattle.store.specs.declared.Call.{Call}
use Rattle.store.specs.declared.Call.TheVariants.{Build}
use Rattle.store.specs.Columns.{Columns, usable_of}
use Rattle.store.specs.Drawable.{drawable_of}
use Rattle.store.specs.Drawing.{coordinate_ok_of, weight_ok_of, every, coordinates_of, weights_of, writes_of, room_of, answer_of, draw_of}
use Rattle.store.proofs.Laws.{draw_answer, drawn_drawable, replay_drawable, replay_usable}
use Rattle.flatten.specs.Flatten.{fits_output}
use Rattle.listing.specs.Printing.{TextCommand, calls_in}
use Rattle.listing.specs.Program.{program_columns}
use Rattle.listing.proofs.ProgramLaws.{fresh_done}
use Rattle.promises.specs.Accepted.{Job, flattening_of}
use Rattle.promises.specs.DrawingAnswers.{UnusableStore}
use Rattle.promises.specs.FlattenAnswers.{Refused, walk_length}
use Rattle.promises.specs.ListingAnswers.{drawing_of, built_of}
use Rattle.promises.proofs.Flattened.{world_of}
use Rattle.promises.proofs.Telling.{passes}
use Rattle.promises.proofs.DrawingAnswers.{tells_usable, drawing_answers}
use Rattle.promises.proofs.FlattenAnswers.{which, answer_in, answer_is, run_cause}

pub not_done : (a : Answer) → a ≢ Done → is_done a ≡ false
not_done a h = go (is_done a) refl
  where
    go : (b : Bool) → is_done a ≡ b → is_done a ≡ false
    go true e = absurd (h (done_is a e))
    go false e = e

pub undone : (a : Answer) → is_done a ≡ false → a ≢ Done
undone a e h = true≢false (sym (ap is_done h) ∙ e)

-- ---- a drawing call
pub call_number : (call : Call) (st : StoreState) (c : Columns) → number_of (draw_of call st c).answer ≤ 4
unfolding answer_of
call_number call st c =
    subst (λ (a : Answer). number_of a ≤ 4) (sym (draw_answer call st c))
    (go (usable_of st c) (every coordinate_ok_of (coordinates_of call)) (every weight_ok_of (weights_of call)) (room_of (writes_of call st c) st c))
  where
    go : (u v w r : Bool) → number_of (cond (not u) Unusable (cond (not v) BadCoordinate (cond (not w) BadWeight (cond (not r) StoreFull Done)))) ≤ 4
    go false v w r = lit≤ tt
    go true false w r = lit≤ tt
    go true true false r = lit≤ tt
    go true true true false = lit≤ tt
    go true true true true = lit≤ tt

module _ (st : StoreState) (c : Columns) (u : usable_of st c ≡ true) where
  pub not_three : (call : Call) → (draw_of call st c).answer ≢ Unusable
  not_three call e = passes (usable_of st c) (UnusableStore st c) (tells_usable st c) u ((drawing_answers call st c).three.0 e)

  -- the build has no coordinate and no weight
  pub build_four : is_done (draw_of Build st c).answer ≡ false → (draw_of Build st c).answer ≡ StoreFull
  unfolding answer_of every coordinates_of weights_of
  build_four e = draw_answer Build st c ∙ go (usable_of st c) (room_of (writes_of Build st c) st c) u (sym (ap is_done (draw_answer Build st c)) ∙ e)
    where
      by : Bool → Bool → Answer
      by u r = cond (not u) Unusable (cond (not r) StoreFull Done)

      go : (u r : Bool) → u ≡ true → is_done (by u r) ≡ false → by u r ≡ StoreFull
      go false r u e = absurd (true≢false (sym u))
      go true false u e = refl
      go true true u e = absurd (true≢false e)

-- ---- a flattening
abbrev pub FiveToNine : Answer → Type 0
FiveToNine a = (5 ≤ number_of a) × (number_of a ≤ 9)

pub flat_number : (job : Job) → drawable_of job.state job.columns ≡ true → is_done (flattening_of job).result.answer ≡ false
    → FiveToNine (flattening_of job).result.answer
unfolding answer_in
flat_number job d h = subst FiveToNine (sym at) (go (is_done run) (fits_output (walk_length job) job.output) refl (sym (ap is_done at) ∙ h))
  where
    run : Answer
    run = (world_of job).state.answer

    at : (flattening_of job).result.answer ≡ cond (is_done run) (cond (fits_output (walk_length job) job.output) Done OutputShort) run
    at = answer_is job ∙ ap (λ (b : Bool). answer_in job b (is_done run) (fits_output (walk_length job) job.output)) d

    by_cause : is_done run ≡ false → (run ≡ Done) ⊎ Refused job run → FiveToNine run
    by_cause e (inl q) = absurd (undone run e q)
    by_cause e (inr R) = let z = which R.cause in (z.0, le_trans z.1 (lit≤ tt))

    go : (e f : Bool) → is_done run ≡ e → is_done (cond e (cond f Done OutputShort) run) ≡ false → FiveToNine (cond e (cond f Done OutputShort) run)
    go true true q h = absurd (true≢false h)
    go true false q h = (lit≤ tt, lit≤ tt)
    go false f q h = by_cause q (run_cause job)

-- ---- what the calls of a listing draw, and what is then built
pub usable_drawing : (cs : List TextCommand) → usable_of (drawing_of cs).state (drawing_of cs).columns ≡ true
usable_drawing cs = replay_usable (calls_in cs) program_columns (ap is_done fresh_done)

pub drawable_built : (cs : List TextCommand) → drawable_of (built_of cs).state (built_of cs).columns ≡ true
drawable_built cs =
    drawn_drawable Build (drawing_of cs).state (drawing_of cs).columns (replay_drawable (calls_in cs) program_columns (ap is_done fresh_done))
