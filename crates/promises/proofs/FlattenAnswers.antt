-- The answers of flattening are exact. There are three tests: the test for answer 3, the run, and the room for the walk. Each fails exactly on its faults, so
-- the answer says which fault there is. Assumes nothing.
use Prim.Native.Nat.{ℕ, zero, suc, ◌+◌, ◌-◌, ◌≤◌, ◌<◌}
use mathlib.Core.Path.{◌≡◌, refl, sym, ap, ◌∙◌, subst}
use mathlib.Core.Logic.{◌⊎◌, inl, inr, ◌≢◌, ◌↔◌}
use mathlib.Core.Bool.{Bool, true, false, not, cond, true≢false}
use mathlib.Core.List.Memᴰ
use mathlib.Core.List.{[], ◌∷◌, map, Memᴰ}
use native.Mathlib.Nat.{lt_of_lt_of_le, lt_irrefl}
use native.Mathlib.Omega.{arith, by_contra}
use lib.Dec.{T, lit≤, lit<, leb, leb→le, nleb→lt}
use lib.Ieee.{Float}
use lib.ListN.{length, length-map}
use borrow.Author.Tests.{eqb-false}
use Rattle.answer.proofs.Laws.{done_is}
use Rattle.answer.specs.Answer.{Answer}
use Rattle.answer.specs.Answer.{Done, Unusable, TooManyPieces, QuadsFull, SplinesFull, SumTooLarge, OutputShort}
use Rattle.answer.specs.Number.{number_of, is_done}
use Rattle.point.specs.declared.Setting.{Setting}
use Rattle.point.specs.declared.Point.{Point}
use Rattle.primitives.specs.declared.Capacities.{Capacities}
use Rattle.primitives.specs.declared.Cubic.{Cubic}
use Rattle.primitives.specs.declared.Primitive.{Primitive}
use Rattle.primitives.specs.declared.Primitive.TheVariants.{Contour, Line, Quad, Excess}
use Rattle.primitives.specs.Cubics.{cubic_pieces_of, quads_from, cut_of, cubic_quads_of}
use Rattle.primitives.specs.Plan.{refused_of}
use Rattle.store.specs.Drawable.{drawable_of}
use Rattle.tables.specs.Tables.{capacities_of, quad_row_at}
use Rattle.tables.specs.Run.{World, world, start_state}
use Rattle.tables.specs.Commands.{cubic_from, command_primitives_of, primitives_of, tables_of}
use Rattle.tables.proofs.RowLaws.{quads_self}
use Rattle.tables.proofs.Sound.{sound_start}
use Rattle.walk.specs.Walk.{word_of, words_of}
use Rattle.evaluate.specs.Evaluate.{item_point_of, points_of}
use Rattle.flatten.specs.Flatten.{Output, Flattening, flattened, flattening, fits_output, write_output, walked, tabled, flatten_drawable, flatten_of}
use Rattle.promises.specs.Accepted.{Job, flattening_of}
use Rattle.promises.specs.FlattenAnswers.{Undrawable, Refuses, too_many, quads_full, line_full, straight_full, curve_full, sum_over, ExcessIs}
use Rattle.promises.specs.FlattenAnswers.{Refused, walk_length, Short, words, x, y, end, AnswerOf, FlatteningAnswers}
use Rattle.promises.specs.FlattenAnswers.{RefusedWritesNothing, OutputPast, PastCounts, run_over, held_by, TablesHeld}
use Rattle.promises.proofs.Flattened.{world_of, items_in}
use Rattle.promises.proofs.Telling.{Tells, tells_as, passes, tells_and, tells_leb, both_hold, neither}
use Rattle.promises.proofs.DrawingAnswers.{differ}
use Rattle.promises.proofs.Refusing.{refuses_not_done}
use Rattle.promises.proofs.Refusals.{refused_answer, refused_world, run_told, tells_drawable}
use Rattle.promises.proofs.Past.{past_over, TablesPast, run_past, splines_self, output_self}

-- ---- 9
tells_fits : (n : ℕ) (o : Output) → Tells (fits_output n o) (Short n o)
unfolding fits_output
tells_fits n o =
    tells_as _ _ _ to from
    (tells_and _ _ _ _ (tells_and _ _ _ _ (tells_and _ _ _ _ (tells_leb n (length o.words)) (tells_leb n (length o.x))) (tells_leb n (length o.y))) (tells_leb n (length o.end)))
  where
    to : (((length o.words < n) ⊎ (length o.x < n)) ⊎ (length o.y < n)) ⊎ (length o.end < n) → Short n o
    to (inl (inl (inl h))) = words h
    to (inl (inl (inr h))) = x h
    to (inl (inr h)) = y h
    to (inr h) = end h

    from : Short n o → (((length o.words < n) ⊎ (length o.x < n)) ⊎ (length o.y < n)) ⊎ (length o.end < n)
    from (words h) = inl (inl (inl h))
    from (x h) = inl (inl (inr h))
    from (y h) = inl (inr h)
    from (end h) = inr h

-- ---- the causes give 5 to 8 and no other answer
pub which : {setting : Setting} {caps : Capacities} {w : World} {p : Primitive} {a : Answer} → Refuses setting caps w p a → (5 ≤ number_of a) × (number_of a ≤ 8)
which too_many = (lit≤ tt, lit≤ tt)
which (quads_full p0 p1 p2 C h) = (lit≤ tt, lit≤ tt)
which (line_full p0 p1 o f) = (lit≤ tt, lit≤ tt)
which (straight_full p0 p1 p2 C o f) = (lit≤ tt, lit≤ tt)
which (curve_full p0 p1 p2 C h o f) = (lit≤ tt, lit≤ tt)
which (sum_over p0 p1 p2 C h o f) = (lit≤ tt, lit≤ tt)

low : (n m : ℕ) → 5 ≤ n → m < 5 → n ≢ m
low n m h k e = omega arith

high : (n m : ℕ) → n ≤ 8 → 8 < m → n ≢ m
high n m h k e = omega arith

module _ (job : Job) where
  unfoldable pub answer_in : Bool → Bool → Bool → Answer
  answer_in d e f = cond d (cond e (cond f Done OutputShort) (world_of job).state.answer) Unusable

  pub answer_is : (flattening_of job).result.answer ≡ answer_in (drawable_of job.state job.columns) (is_done (world_of job).state.answer) (fits_output (walk_length job) job.output)
  unfolding flatten_of flatten_drawable tabled walked answer_in
  answer_is = first (drawable_of job.state job.columns)
    where
      room : (f : Bool) → (walked f (world_of job) (items_in job.setting (world_of job)) job.output).result.answer ≡ cond f Done OutputShort
      room true = refl
      room false = refl

      run : (e : Bool) → (tabled job.setting e (world_of job) job.output).result.answer ≡ cond e (cond (fits_output (walk_length job) job.output) Done OutputShort) (world_of job).state.answer
      run true = room (fits_output (walk_length job) job.output)
      run false = refl

      first : (d : Bool)
          → (flatten_drawable d job.setting job.state job.columns job.quads job.splines job.output).result.answer
          ≡ answer_in d (is_done (world_of job).state.answer) (fits_output (walk_length job) job.output)
      first true = run (is_done (world_of job).state.answer)
      first false = refl

  -- ---- the run's answer has a cause, and a cause is the run's answer
  pub run_cause : ((world_of job).state.answer ≡ Done) ⊎ Refused job (world_of job).state.answer
  unfolding tables_of
  run_cause =
      run_told job.setting (capacities_of job.quads job.splines) (primitives_of job.state job.columns)
      (world start_state job.quads job.splines) (sound_start job.quads job.splines) refl

  cause_run : (a : Answer) → Refused job a → (world_of job).state.answer ≡ a
  unfolding tables_of
  cause_run a R = refused_answer job.setting (capacities_of job.quads job.splines) (primitives_of job.state job.columns) (world start_state job.quads job.splines) a R

  record Answers (answer : Answer) : Type 0 where
    three : (answer ≡ Unusable) ↔ Undrawable job.state job.columns
    some : (a : Answer) → 5 ≤ number_of a → number_of a ≤ 8 → (answer ≡ a) ↔ ((¬ Undrawable job.state job.columns) × Refused job a)
    nine : (answer ≡ OutputShort) ↔ ((¬ Undrawable job.state job.columns) × ((a : Answer) → ¬ Refused job a) × Short (walk_length job) job.output)
    zero : (answer ≡ Done) ↔ ((¬ Undrawable job.state job.columns) × ((a : Answer) → ¬ Refused job a) × (¬ Short (walk_length job) job.output))

  answers : (d e f : Bool) → Tells d (Undrawable job.state job.columns) → is_done (world_of job).state.answer ≡ e → Tells f (Short (walk_length job) job.output) → Answers (answer_in d e f)
  unfolding answer_in
  answers false e f t r s =
      let h = t.0 refl in
      record {
        three = both_hold refl h;
        some = λ a l u. neither (differ (λ q. low (number_of a) 3 l (lit< tt) (sym q))) (λ z. z.0 h);
        nine = neither (differ (eqb-false 3 9 refl)) (λ z. z.0 h);
        zero = neither (differ (eqb-false 3 0 refl)) (λ z. z.0 h);
      }
  answers true false f t r s = refusal run_cause
    where
      n : Undrawable job.state job.columns → ⊥
      n = passes true (Undrawable job.state job.columns) t refl

      refusal : ((world_of job).state.answer ≡ Done) ⊎ Refused job (world_of job).state.answer → Answers (world_of job).state.answer
      refusal (inl d) = absurd (true≢false (sym (ap is_done d) ∙ r))
      refusal (inr R) =
          let z = which R.cause in
          record {
            three = neither (differ (low (number_of (world_of job).state.answer) 3 z.0 (lit< tt))) n;
            some = λ a l u. (λ q. (n, subst (Refused job) q R), λ k. cause_run a k.1);
            nine = neither (differ (high (number_of (world_of job).state.answer) 9 z.1 (lit< tt))) (λ k. k.1 (world_of job).state.answer R);
            zero = neither (differ (low (number_of (world_of job).state.answer) 0 z.0 (lit< tt))) (λ k. k.1 (world_of job).state.answer R);
          }
  answers true true f t r s = complete f s
    where
      n : Undrawable job.state job.columns → ⊥
      n = passes true (Undrawable job.state job.columns) t refl

      d : (world_of job).state.answer ≡ Done
      d = done_is (world_of job).state.answer r

      none : (a : Answer) → Refused job a → ⊥
      none a R = low (number_of a) 0 (which R.cause).0 (lit< tt) (ap number_of (sym (cause_run a R) ∙ d))

      complete : (f : Bool) → Tells f (Short (walk_length job) job.output) → Answers (cond f Done OutputShort)
      complete true s =
          record {
            three = neither (differ (eqb-false 0 3 refl)) n;
            some = λ a l u. neither (differ (λ q. low (number_of a) 0 l (lit< tt) (sym q))) (λ z. none a z.1);
            nine = neither (differ (eqb-false 0 9 refl)) (λ z. passes true (Short (walk_length job) job.output) s refl z.2);
            zero = both_hold refl (n, none, passes true (Short (walk_length job) job.output) s refl);
          }
      complete false s =
          record {
            three = neither (differ (eqb-false 9 3 refl)) n;
            some = λ a l u. neither (differ (λ q. high (number_of a) 9 u (lit< tt) (sym q))) (λ z. none a z.1);
            nine = both_hold refl (n, none, s.0 refl);
            zero = neither (differ (eqb-false 9 0 refl)) (λ z. z.2 (s.0 refl));
          }

  all_answers : Answers (flattening_of job).result.answer
  all_answers =
      subst Answers (sym answer_is)
      (answers (drawable_of job.state job.columns) (is_done (world_of job).state.answer) (fits_output (walk_length job) job.output)
      (tells_drawable job.state job.columns) refl (tells_fits (walk_length job) job.output))

pub flattening_answers : FlatteningAnswers
flattening_answers job =
    let A = all_answers job in
    record {
      three = A.three;
      five = A.some TooManyPieces (lit≤ tt) (lit≤ tt);
      six = A.some QuadsFull (lit≤ tt) (lit≤ tt);
      seven = A.some SplinesFull (lit≤ tt) (lit≤ tt);
      eight = A.some SumTooLarge (lit≤ tt) (lit≤ tt);
      nine = A.nine;
      zero = A.zero;
    }

-- ---- 1c
pub refused_writes_nothing : RefusedWritesNothing
unfolding flatten_of flatten_drawable tabled walked
refused_writes_nothing job h = first (drawable_of job.state job.columns) h
  where
    Nothing : Flattening → Type 0
    Nothing f = (f.output ≡ job.output) × (f.result.points ≡ 0)

    room : (f : Bool) → (walked f (world_of job) (items_in job.setting (world_of job)) job.output).result.answer ≢ Done
        → Nothing (walked f (world_of job) (items_in job.setting (world_of job)) job.output)
    room true h = absurd (h refl)
    room false h = (refl, refl)

    run : (e : Bool) → (tabled job.setting e (world_of job) job.output).result.answer ≢ Done → Nothing (tabled job.setting e (world_of job) job.output)
    run true h = room (fits_output (walk_length job) job.output) h
    run false h = (refl, refl)

    first : (d : Bool) → (flatten_drawable d job.setting job.state job.columns job.quads job.splines job.output).result.answer ≢ Done
        → Nothing (flatten_drawable d job.setting job.state job.columns job.quads job.splines job.output)
    first true h = run (is_done (world_of job).state.answer) h
    first false h = (refl, refl)

-- ---- what the tables hold
module _ (job : Job) where
  three_held : AnswerOf job Unusable → flattening_of job ≡ flattening (flattened Unusable 0 0 0) job.quads job.splines job.output
  unfolding flatten_of flatten_drawable
  three_held h =
      ap (λ (d : Bool). flatten_drawable d job.setting job.state job.columns job.quads job.splines job.output)
      ((tells_drawable job.state job.columns).1 ((all_answers job).three.0 h))

  refused_held : (a : Answer) (r : Refused job a) → AnswerOf job a → flattening_of job ≡ held_by a (run_over job r.before) job.output
  unfolding flatten_of flatten_drawable tabled tables_of refused_of
  refused_held a r h = first (drawable_of job.state job.columns) h
    where
      run : tabled job.setting (is_done (world_of job).state.answer) (world_of job) job.output ≡ held_by a (run_over job r.before) job.output
      run =
          ap (λ (e : Bool). tabled job.setting e (world_of job) job.output) (ap is_done (cause_run job a r) ∙ refuses_not_done r.cause)
          ∙ ap (λ (w : World). tabled job.setting false w job.output)
          (refused_world job.setting (capacities_of job.quads job.splines) (primitives_of job.state job.columns)
          (world start_state job.quads job.splines) a r)

      first : (d : Bool) → (flatten_drawable d job.setting job.state job.columns job.quads job.splines job.output).result.answer ≡ a
          → flatten_drawable d job.setting job.state job.columns job.quads job.splines job.output ≡ held_by a (run_over job r.before) job.output
      first true h = run
      first false h = absurd (low (number_of a) 3 (which r.cause).0 (lit< tt) (ap number_of (sym h)))

  nine_held : AnswerOf job OutputShort → flattening_of job ≡ held_by OutputShort (run_over job (primitives_of job.state job.columns)) job.output
  unfolding flatten_of flatten_drawable tabled walked tables_of
  nine_held h =
      let z = (all_answers job).nine.0 h in
      ap (λ (d : Bool). flatten_drawable d job.setting job.state job.columns job.quads job.splines job.output)
      (passing (drawable_of job.state job.columns) (λ e. z.0 ((tells_drawable job.state job.columns).0 e)))
      ∙ ap (λ (e : Bool). tabled job.setting e (world_of job) job.output) (done z.1 (run_cause job))
      ∙ ap (λ (f : Bool). walked f (world_of job) (items_in job.setting (world_of job)) job.output) ((tells_fits (walk_length job) job.output).1 z.2)
    where
      done : ((a : Answer) → Refused job a → ⊥) → ((world_of job).state.answer ≡ Done) ⊎ Refused job (world_of job).state.answer → is_done (world_of job).state.answer ≡ true
      done n (inl d) = ap is_done d
      done n (inr r) = absurd (n (world_of job).state.answer r)

      passing : (b : Bool) → (b ≡ false → ⊥) → b ≡ true
      passing true h = refl
      passing false h = absurd (h refl)

  run_held : TablesPast job.quads job.splines (world_of job)
  unfolding tables_of
  run_held =
      let caps = capacities_of job.quads job.splines in
      run_past caps job.quads job.splines job.setting (primitives_of job.state job.columns) (world start_state job.quads job.splines) (sound_start job.quads job.splines)
      (record { quads = quads_self 0 job.quads; splines = splines_self 0 job.splines })

  written_past : fits_output (walk_length job) job.output ≡ true
      → OutputPast (walk_length job) job.output (write_output (quad_row_at (world_of job).quads) (world_of job).splines (items_in job.setting (world_of job)) job.output)
  unfolding write_output words_of points_of
  written_past e =
      let items = items_in job.setting (world_of job) in
      let n = walk_length job in
      let rows = quad_row_at (world_of job).quads in
      let s = (world_of job).splines in
      let short = passes (fits_output n job.output) (Short n job.output) (tells_fits n job.output) e in
      record {
        words = past_over n job.output.words _ (length-map items word_of) (by_contra n (length job.output.words) (λ h. short (words h)));
        x = past_over n job.output.x _ (length-map (map (item_point_of rows s) items) _ ∙ length-map items (item_point_of rows s)) (by_contra n (length job.output.x) (λ h. short (x h)));
        y = past_over n job.output.y _ (length-map (map (item_point_of rows s) items) _ ∙ length-map items (item_point_of rows s)) (by_contra n (length job.output.y) (λ h. short (y h)));
        end = past_over n job.output.end _ (length-map (map (item_point_of rows s) items) _ ∙ length-map items (item_point_of rows s)) (by_contra n (length job.output.end) (λ h. short (end h)));
      }

  past_held : PastCounts job (flattening_of job)
  unfolding flatten_of flatten_drawable tabled walked
  past_held = first (drawable_of job.state job.columns)
    where
      room : (f : Bool) → fits_output (walk_length job) job.output ≡ f → PastCounts job (walked f (world_of job) (items_in job.setting (world_of job)) job.output)
      room true e = record { quads = run_held.quads; splines = run_held.splines; output = written_past e }
      room false e = record { quads = run_held.quads; splines = run_held.splines; output = output_self 0 job.output }

      run : (e : Bool) → PastCounts job (tabled job.setting e (world_of job) job.output)
      run true = room (fits_output (walk_length job) job.output) refl
      run false = record { quads = run_held.quads; splines = run_held.splines; output = output_self 0 job.output }

      first : (d : Bool) → PastCounts job (flatten_drawable d job.setting job.state job.columns job.quads job.splines job.output)
      first true = run (is_done (world_of job).state.answer)
      first false = record { quads = quads_self 0 job.quads; splines = splines_self 0 job.splines; output = output_self 0 job.output }

pub tables_held : TablesHeld
tables_held job = record { three = three_held job; five_to_eight = refused_held job; nine = nine_held job; past = past_held job }

-- ---- 5 and its primitive
abbrev is_excess : Primitive → Bool
is_excess Contour = false
is_excess (Line p0 p1) = false
is_excess (Quad p0 p1 p2) = false
is_excess Excess = true

not_in : (p : Primitive) → is_excess p ≡ false → Memᴰ Excess (p ∷ []) → ⊥
not_in p h m = elim (Memᴰ.cases_cons m) [ inl e ↦ true≢false (ap is_excess e ∙ h) | inr k ↦ Memᴰ.not-nil k ]

no_excess : (n i : ℕ) (start : Point) (incr : Float) (c : Cubic) → Memᴰ Excess (quads_from n i start incr c) → ⊥
unfolding quads_from
no_excess zero i start incr c m = Memᴰ.not-nil m
no_excess (suc n) i start incr c m = elim (Memᴰ.cases_cons m) [ inl e ↦ true≢false (ap is_excess e) | inr k ↦ no_excess n (i + 1) _ incr c k ]

in_cubic : (c : Cubic) → Memᴰ Excess (cubic_quads_of c) ↔ (1024 < cubic_pieces_of c)
unfolding cubic_quads_of cut_of
in_cubic c = go (leb (cubic_pieces_of c) 1024) (leb→le (cubic_pieces_of c) 1024) (nleb→lt (cubic_pieces_of c) 1024)
  where
    go : (b : Bool) → (T b → cubic_pieces_of c ≤ 1024) → (T (not b) → 1024 < cubic_pieces_of c) → Memᴰ Excess (cut_of b (cubic_pieces_of c) c) ↔ (1024 < cubic_pieces_of c)
    go true f g = neither (no_excess (cubic_pieces_of c) 1 _ _ c) (λ h. lt_irrefl 1024 (lt_of_lt_of_le h (f tt)))
    go false f g = both_hold (Memᴰ.head refl) (g tt)

pub excess_is : ExcessIs
unfolding command_primitives_of
excess_is c zero j = neither (not_in Contour refl) (λ z. small 0 z.0 (lit< tt))
  where
    small : (k : ℕ) → 3 ≤ k → k < 3 → ⊥
    small k h l = omega arith
excess_is c (suc zero) j = neither (not_in _ refl) (λ z. small 1 z.0 (lit< tt))
  where
    small : (k : ℕ) → 3 ≤ k → k < 3 → ⊥
    small k h l = omega arith
excess_is c (suc (suc zero)) j = neither (not_in _ refl) (λ z. small 2 z.0 (lit< tt))
  where
    small : (k : ℕ) → 3 ≤ k → k < 3 → ⊥
    small k h l = omega arith
excess_is c (suc (suc (suc k))) j = let z = in_cubic (cubic_from c (j - 1)) in (λ m. (three k, z.0 m), λ h. z.1 h.1)
  where
    three : (k : ℕ) → 3 ≤ suc (suc (suc k))
    three k = omega arith
