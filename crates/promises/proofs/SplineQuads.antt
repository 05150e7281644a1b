-- 02, Six: each spline knows its quads. Over sound tables `cut j` is the number of quads before spline j, and each row tells its two cuts. For the knife the cursor
-- begins each spline at its cut, so each step falls on a quad of its own spline; where a whole number lies between the last two sums, so does the screen's. Assumes
-- nothing.
use Prim.Native.Nat.{ℕ, zero, suc, ◌+◌, ◌*◌, ◌/◌, ◌≤◌, ◌<◌}
use mathlib.Core.Path.{◌≡◌, refl, sym, ap, ap₂, ◌∙◌, subst}
use mathlib.Core.Logic.{◌↔◌, inl, inr}
use mathlib.Core.Bool.{Bool, true, false}
use mathlib.Core.List.{List, ◌++◌, map, map-append, map-map}
use native.Mathlib.Nat.{le_trans, le_of_eq, le_refl, le_of_lt, lt_of_lt_of_le, lt_of_le_of_lt, lt_irrefl, eq-or-lt_of_le, not-suc-le-zero, zero-add}
use native.Mathlib.Nat.{div-mul-le_self, div-lt_iff_lt-mul, mul-le-mul_right, lt_of_mul-lt-mul_right}
use native.Mathlib.Numerals.{suc-eq-add-one}
use native.Mathlib.Omega.{arith}
use lib.ListN.{length}
use lib.Ieee.{Float}
use lib.Ieee.Positive.{num, den, den_pos}
use Rattle.facts.proofs.Numbers.{shift_one}
use Rattle.answer.specs.Answer.{Answer}
use Rattle.answer.specs.Answer.{Done, Unusable, OutputShort}
use Rattle.answer.specs.Number.{is_done}
use Rattle.command.specs.declared.PointCommand.{PointCommand}
use Rattle.command.specs.Packing.{pack_of}
use Rattle.point.specs.declared.Setting.{Setting}
use Rattle.point.specs.declared.Setting.TheVariants.{Screen, Knife}
use Rattle.primitives.specs.declared.Capacities.{Capacities}
use Rattle.primitives.specs.declared.Kind.TheVariants.{Straight}
use Rattle.primitives.specs.declared.QuadRow.{QuadRow}
use Rattle.primitives.specs.declared.SplineRow.{SplineRow}
use Rattle.primitives.specs.Splines.{spline_kind_of}
use Rattle.store.specs.Drawable.{drawable_of}
use Rattle.tables.specs.Tables.{SplineTable, quad_row_at, spline_at}
use Rattle.tables.specs.Run.{World}
use Rattle.tables.proofs.RunningSums.{Grows, grows_reaches, up_below}
use Rattle.tables.proofs.Growth.{whole_before}
use Rattle.tables.proofs.Spans.{sum_at, span_total, few_quads}
use Rattle.tables.proofs.Sound.{Sound, cut_le}
use Rattle.tables.proofs.Owners.{home, home_owner, owned, sum_round, zero_straight, not_both}
use Rattle.walk.specs.Walk.{Item, subdivisions_of, step_size_of, starts_of, cursor_start_of, cursor_after, spline_items_of, walk_from, walk_of, word_of, words_of}
use Rattle.flatten.specs.Flatten.{Flattening, Output, flattened, flattening, fits_output, write_output, walked, tabled, flatten_drawable, flatten_of}
use Rattle.promises.specs.Accepted.{Job, flattening_of, walk_in}
use Rattle.promises.specs.Demand3.{StepOf, LastQuad, spline_of_quad, sum_of_quad, Between, Spread, QuadHasStep}
use Rattle.promises.specs.StraightRound.{FirstQuad}
use Rattle.promises.specs.SplineQuads.{first_quad_at, quad_count_at, InRange, Ranges, RangesHold, LinesHaveNone, KnifeStays, KnifeSteps, StepsOfQuads, KnifeQuads}
use Rattle.promises.specs.SplineQuads.{SumsGrow, GrownByOne, FailsWhereWhole, NoWordChanges, NoPointChanges, retold, ScreenReadsNeither}
use Rattle.promises.proofs.Flattened.{world_of, items_in, finished_of, passed}
use Rattle.promises.proofs.Decoding.{caps_of, job_sound}
use Rattle.promises.proofs.Walking.{command_of, piece_commands}
use Rattle.promises.proofs.Arrivals.{Ends, starts_exactly}
use Rattle.promises.proofs.Cursor.{Reached, reached_first, reached_early, reached_last}
use Rattle.promises.proofs.Steps.{Exact, span_to, step_falls, step_inside, step_stays, gets_step, home_ends, knife_exact, stays_exact, demand3f}

-- ---- what holds of the tables of a run, whatever else, and of the tables as they came if the drawing is not usable, holds on every answer
on_every : (job : Job) (P : Flattening → Type 0)
    → P (flattening (flattened Unusable 0 0 0) job.quads job.splines job.output)
    → ((answer : Answer) (points : ℕ) (o : Output)
    → P (flattening (flattened answer (world_of job).state.splines (world_of job).state.quads points) (world_of job).quads (world_of job).splines o))
    → P (flattening_of job)
unfolding flatten_of flatten_drawable tabled walked
on_every job P none run = by_drawable (drawable_of job.state job.columns)
  where
    w : World
    w = world_of job

    by_room : (b : Bool) → P (walked b w (items_in job.setting w) job.output)
    by_room true = run Done (length (items_in job.setting w)) (write_output (quad_row_at w.quads) w.splines (items_in job.setting w) job.output)
    by_room false = run OutputShort 0 job.output

    by_done : (b : Bool) → P (tabled job.setting b w job.output)
    by_done true = by_room (fits_output (length (items_in job.setting w)) job.output)
    by_done false = run w.state.answer 0 job.output

    by_drawable : (b : Bool) → P (flatten_drawable b job.setting job.state job.columns job.quads job.splines job.output)
    by_drawable true = by_done (is_done w.state.answer)
    by_drawable false = none

-- ---- the ranges
module _ (caps : Capacities) (w : World) (S : Sound caps w) (answer : Answer) (points : ℕ) (o : Output) where
  abbrev f : Flattening
  f = flattening (flattened answer w.state.splines w.state.quads points) w.quads w.splines o

  range_end : (k : ℕ) → k < w.state.splines → first_quad_at f k + quad_count_at f k ≡ S.cut (suc k)
  range_end k h = ap (λ (x : ℕ). x + quad_count_at f k) (S.ranged k h).first ∙ (S.ranged k h).count

  -- a range is what lies between two cuts
  in_range_lem : (k i : ℕ) → k < w.state.splines → S.cut k ≤ i → i < S.cut (suc k) → InRange f k i
  in_range_lem k i h l u =
      record { spline = h; from = le_trans (le_of_eq (S.ranged k h).first) l; below = lt_of_lt_of_le u (le_of_eq (sym (range_end k h))) }

  ranges : Ranges f
  ranges =
      record {
        first = λ h. (S.ranged 0 h).first ∙ S.first;
        next = λ k h. (S.ranged (suc k) h).first ∙ sym (range_end k (le_of_lt h));
        last = λ k e. sym S.all ∙ ap S.cut (sym e) ∙ sym (range_end k (le_of_eq e));
        none = λ e. sym S.all ∙ ap S.cut e ∙ S.first;
        few = λ k h.
            at_most (S.cut k) (quad_count_at f k) (S.cut (suc k)) (S.ranged k h).count
            (few_quads (quad_row_at w.quads) (spline_at w.splines k).curvature (S.cut k) (S.cut (suc k)) k (S.span k h));
        own = λ i h.
            let H = home caps w S i h in
            subst (λ (k : ℕ). InRange f k i) (sym (home_owner caps w S i H)) (in_range_lem H.spline i H.inside H.low H.high);
        alone = λ k i R.
            let h = R.spline in
            let l = le_trans (le_of_eq (sym (S.ranged k h).first)) R.from in
            let u = lt_of_lt_of_le R.below (le_of_eq (range_end k h)) in
            (lt_of_lt_of_le u (cut_le caps w S (suc k) h), (S.span k h).owned i l u);
      }
    where
      at_most : (lo n hi : ℕ) → lo + n ≡ hi → hi ≤ lo + 65536 → n ≤ 65536
      at_most lo n hi e h = omega arith

  lines_none : (k : ℕ) → k < w.state.splines → (spline_kind_of (spline_at w.splines k) ≡ Straight) ↔ (quad_count_at f k ≡ 0)
  lines_none k h = elim (span_total (quad_row_at w.quads) row.curvature (S.cut k) (S.cut (suc k)) k (S.span k h)) [
    | inl z ↦ (λ e. empty (S.cut k) (quad_count_at f k) (S.cut (suc k)) (S.ranged k h).count z.0, λ e. zero_straight row z.1)
    | inr z ↦ (
      λ e. absurd (not_both e (sum_round row z.sum)),
      λ e. absurd (some (S.cut k) (quad_count_at f k) (S.cut (suc k)) z.at (S.ranged k h).count e z.inside z.next),
    )
  ]
    where
      row : SplineRow
      row = spline_at w.splines k

      empty : (lo n hi : ℕ) → lo + n ≡ hi → lo ≡ hi → n ≡ 0
      empty lo n hi e z = omega arith

      some : (lo n hi at : ℕ) → lo + n ≡ hi → n ≡ 0 → lo ≤ at → suc at ≡ hi → ⊥
      some lo n hi at e z l u = omega arith

  -- ---- where no whole number lies strictly between two sums that follow each other
  module _ (i : ℕ) (h : suc i < w.state.quads) (e : spline_of_quad f (suc i) ≡ spline_of_quad f i) where
    abbrev x : Float
    x = sum_of_quad f i

    abbrev y : Float
    y = sum_of_quad f (suc i)

    grown : Grows x y
    grown =
        let k = spline_of_quad f i in
        let a = owned caps w S i k (le_of_lt h) refl in
        let b = owned caps w S (suc i) k h e in
        (S.span k a.0).grows i a.1 b.2

    -- the next whole number above x is at most y; if it is not below y, it is y, and x was whole
    fails : (Between x y → ⊥) → GrownByOne x y
    fails none =
        let p = num x / den x in
        let low = div-mul-le_self (num x) (den x) in
        let up = grows_reaches x y grown p low in
        let over : num x < suc p * den x = (div-lt_iff_lt-mul (den_pos x)).0 (le_refl (suc p)) in
        let e = level (suc p * den y) (num y) up (λ u. none (record { whole = suc p; over = over; under = u })) in
        record { whole = p; before = whole_before x y grown p low e; after = e }
      where
        level : (a n : ℕ) → a ≤ n → (a < n → ⊥) → n ≡ a
        level a n h k = omega arith

    holds_not : GrownByOne x y → Between x y → ⊥
    holds_not G B =
        let d = den_pos x in
        let p = less B.whole G.whole (den x) (lt_of_le_of_lt (le_of_eq (sym G.before)) B.over) in
        lt_irrefl (num y) (lt_of_le_of_lt (le_trans (le_of_eq G.after) (mul-le-mul_right (den y) p)) B.under)
      where
        less : (a b d : ℕ) → b * d < a * d → b < a
        less a b d h = lt_of_mul-lt-mul_right d h

    fails_where_whole : (Between x y → ⊥) ↔ GrownByOne x y
    fails_where_whole = (fails, holds_not)

nothing : (job : Job) → Ranges (flattening (flattened Unusable 0 0 0) job.quads job.splines job.output)
nothing job =
    record {
      first = λ h. absurd (not-suc-le-zero h);
      next = λ k h. absurd (not-suc-le-zero h);
      last = λ k e. absurd (not-suc-le-zero (le_of_eq e));
      none = λ e. refl;
      few = λ k h. absurd (not-suc-le-zero h);
      own = λ i h. absurd (not-suc-le-zero h);
      alone = λ k i R. absurd (not-suc-le-zero R.spline);
    }

pub ranges_hold : RangesHold
ranges_hold job = on_every job Ranges (nothing job) (ranges (caps_of job) (world_of job) (job_sound job))

pub lines_have_none : LinesHaveNone
lines_have_none job =
    on_every job (λ (f : Flattening). (k : ℕ) → k < f.result.splines → (spline_kind_of (spline_at f.splines k) ≡ Straight) ↔ (quad_count_at f k ≡ 0))
    (λ k h. absurd (not-suc-le-zero h)) (lines_none (caps_of job) (world_of job) (job_sound job))

pub sums_grow : SumsGrow
sums_grow job =
    on_every job (λ (f : Flattening). (i : ℕ) → suc i < f.result.quads → spline_of_quad f (suc i) ≡ spline_of_quad f i → Grows (sum_of_quad f i) (sum_of_quad f (suc i)))
    (λ i h. absurd (not-suc-le-zero h)) (grown (caps_of job) (world_of job) (job_sound job))

pub condition_fails : FailsWhereWhole
condition_fails job =
    on_every job (λ (f : Flattening). (i : ℕ) → suc i < f.result.quads → spline_of_quad f (suc i) ≡ spline_of_quad f i
    → (Between (sum_of_quad f i) (sum_of_quad f (suc i)) → ⊥) ↔ GrownByOne (sum_of_quad f i) (sum_of_quad f (suc i)))
    (λ i h. absurd (not-suc-le-zero h)) (fails_where_whole (caps_of job) (world_of job) (job_sound job))

-- ---- the steps of the knife
module _ (setting : Setting) (knife : setting ≡ Knife) (caps : Capacities) (w : World) (S : Sound caps w) (points : ℕ) (o : Output) where
  abbrev left : Flattening
  left = flattening (flattened Done w.state.splines w.state.quads points) w.quads w.splines o

  abbrev rows : ℕ → QuadRow
  rows = quad_row_at w.quads

  abbrev ups : ℕ → ℕ
  ups k = subdivisions_of w.splines k

  abbrev total : ℕ → Float
  total k = (spline_at w.splines k).curvature

  exact : Exact setting caps w S points o
  exact = knife_exact setting caps w S points o knife

  knife_stays : (k : ℕ) (i : Item) → StepOf setting left k i → InRange left k i.quad
  knife_stays k i T = let g = step_inside setting caps w S points o exact k i T in in_range_lem caps w S Done points o k i.quad T.spline g.0 g.1

  -- spline k, which has quad i, ends at or after it
  owner_ends : (k i : ℕ) → i < w.state.quads → spline_of_quad left i ≡ k
      → (h : k < w.state.splines) × (S.cut k ≤ i) × (L : Ends caps w S k) × (i ≤ L.at)
  owner_ends k i h e =
      let a = owned caps w S i k h e in
      let E = home_ends setting caps w S points o i (record { spline = k; inside = a.0; low = a.1; high = a.2 }) in
      (a.0, a.1, E.0, E.1)

  gets_first : (k i : ℕ) → FirstQuad left k i → QuadHasStep setting left i
  gets_first k i F =
      let a = owner_ends k i F.stored F.own in
      let L = a.2 in
      gets_step setting caps w S points o exact k a.0 L i
      (subst (λ (x : ℕ). Reached rows (total k) (S.cut k) L.at k (ups k) (span_to setting caps w S points o k a.0 L) L.inside L.sum L.up x) (begins k i F a.0 a.1)
      (reached_first rows (total k) (S.cut k) L.at k (ups k) (span_to setting caps w S points o k a.0 L) L.inside L.sum L.up))
    where
      begins : (k i : ℕ) → FirstQuad left k i → k < w.state.splines → S.cut k ≤ i → S.cut k ≡ i
      begins k i F h l = elim (eq-or-lt_of_le l) [
        | inl e ↦ e
        | inr u ↦
            let a = owned caps w S i k F.stored F.own in
            absurd (F.first (S.cut k) u ((S.span k h).owned (S.cut k) (le_refl (S.cut k)) (lt_of_le_of_lt l a.2)))
      ]

  -- the spline that a quad and a later one share ends after the first of them
  gets_inner : (k i j : ℕ) → i < j → j < w.state.quads → spline_of_quad left i ≡ k → spline_of_quad left j ≡ k → QuadHasStep setting left i
  gets_inner k i j l h e g =
      let a = owner_ends k i (lt_of_lt_of_le l (le_of_lt h)) e in
      let L = a.2 in
      let b = owned caps w S j k h g in
      gets_step setting caps w S points o exact k a.0 L i
      (reached_early rows (total k) (S.cut k) L.at k (ups k) (span_to setting caps w S points o k a.0 L) L.inside L.sum L.up i a.1
      (before i j L.at (S.cut (suc k)) l b.2 L.next))
    where
      before : (i j at hi : ℕ) → i < j → j < hi → suc at ≡ hi → i < at
      before i j at hi l h e = omega arith

  -- the last of two or more
  module _ (k i : ℕ) (Q : LastQuad left k (suc i)) (e : spline_of_quad left i ≡ k) where
    abbrev own : (k < w.state.splines) × (S.cut k ≤ suc i) × (L : Ends caps w S k) × (suc i ≤ L.at)
    own = owner_ends k (suc i) Q.stored Q.own

    abbrev h : k < w.state.splines
    h = own.0

    abbrev L : Ends caps w S k
    L = own.2

    at_last : suc i ≡ L.at
    at_last = elim (eq-or-lt_of_le own.3) [
      | inl z ↦ z
      | inr u ↦
          let b = le_of_eq L.next in
          absurd (Q.last L.at u (lt_of_lt_of_le b (cut_le caps w S (suc k) h)) ((S.span k h).owned L.at L.inside b))
    ]

    low : S.cut k ≤ i
    low = (owned caps w S i k (lt_of_lt_of_le (le_refl (suc i)) (le_of_lt Q.stored)) e).1

    step_between : QuadHasStep setting left (suc i) → Between (sum_of_quad left i) (sum_of_quad left (suc i))
    step_between G =
        let stays = (step_stays setting caps w S points o exact G.spline G.item G.stepped).1 in
        let same : G.spline ≡ k = sym stays ∙ ap (spline_of_quad left) G.uses ∙ Q.own in
        let F = step_falls setting caps w S points o exact k h L G.item (subst (λ (j : ℕ). StepOf setting left j G.item) same G.stepped) in
        let p = G.item.step in
        record {
          whole = p;
          over = F.0.above i (sym G.uses) low;
          under = subst (λ (j : ℕ). p * den (sum_at rows j) < num (sum_at rows j)) (sym at_last) (up_below (sum_at rows L.at) (ups k) p L.up F.1);
        }

    between_step : Between (sum_of_quad left i) (sum_of_quad left (suc i)) → QuadHasStep setting left (suc i)
    between_step B =
        subst (QuadHasStep setting left) (sym at_last)
        (gets_step setting caps w S points o exact k h L L.at
        (reached_last rows (total k) (S.cut k) L.at k (ups k) (span_to setting caps w S points o k h L) L.inside L.sum L.up i low at_last
        (B.whole, B.over, subst (λ (j : ℕ). B.whole * den (sum_at rows j) < num (sum_at rows j)) at_last B.under)))

  knife_quads : StepsOfQuads setting left
  knife_quads = record { first = gets_first; inner = gets_inner; last = λ k i Q e. (step_between k i Q e, between_step k i Q e) }

-- ---- for an accepted drawing
pub stays_in_range : KnifeStays
unfolding walked
stays_in_range job h knife k i =
    subst (λ (f : Flattening). StepOf job.setting f k i → InRange f k i.quad) (sym (passed job h).result)
    (knife_stays job.setting knife (caps_of job) (world_of job) (job_sound job) (finished_of job).result.points (finished_of job).output k i)

-- that half of demand 3f, which holds in both settings
pub steps_where_spread : KnifeSteps
steps_where_spread job h knife s = (demand3f job h s).has_step

pub steps_of_quads : KnifeQuads
unfolding walked
steps_of_quads job h knife =
    subst (StepsOfQuads job.setting) (sym (passed job h).result)
    (knife_quads job.setting knife (caps_of job) (world_of job) (job_sound job) (finished_of job).result.points (finished_of job).output)

-- ---- what the knife's beginning changes
-- the commands of a spline are the same from every cursor
walk_commands : (setting setting' : Setting) (rows : ℕ → QuadRow) (s : SplineTable) (n k c c' : ℕ)
    → map command_of (walk_from setting rows s n k c) ≡ map command_of (walk_from setting' rows s n k c')
unfolding walk_from
walk_commands setting setting' rows s zero k c c' = refl
walk_commands setting setting' rows s (suc n) k c c' =
    let b = cursor_start_of setting (spline_at s k).first_quad c in
    let b' = cursor_start_of setting' (spline_at s k).first_quad c' in
    map-append command_of (spline_items_of rows s k b) _
    ∙ ap₂ (λ (x y : List PointCommand). x ++ y) (piece_commands rows s k b ∙ sym (piece_commands rows s k b'))
    (walk_commands setting setting' rows s n (k + 1) (cursor_after rows s k b) (cursor_after rows s k b'))
    ∙ sym (map-append command_of (spline_items_of rows s k b') _)

pub same_commands : (setting setting' : Setting) (rows : ℕ → QuadRow) (s : SplineTable) (n : ℕ)
    → map command_of (walk_of setting rows s n) ≡ map command_of (walk_of setting' rows s n)
unfolding walk_of
same_commands setting setting' rows s n = walk_commands setting setting' rows s n 0 0 0

pub packed : (items : List Item) → words_of items ≡ map pack_of (map command_of items)
unfolding words_of word_of
packed items = sym (map-map pack_of command_of items)

pub no_word_changes : NoWordChanges
no_word_changes rows s n = packed (walk_of Knife rows s n) ∙ ap (map pack_of) (same_commands Knife Screen rows s n) ∙ sym (packed (walk_of Screen rows s n))

-- where the cursor comes to each spline at its first quad, the walk is the screen's
module _ (setting : Setting) (caps : Capacities) (w : World) (S : Sound caps w) (points : ℕ) (o : Output)
    (spread : Spread (flattening (flattened Done w.state.splines w.state.quads points) w.quads w.splines o)) where
  abbrev from : Setting → ℕ → ℕ → ℕ → List Item
  from x n k c = walk_from x (quad_row_at w.quads) w.splines n k c

  walk_same : (n k c : ℕ) → k + n ≤ w.state.splines → c ≡ S.cut k → from setting n k c ≡ from Screen n k c
  unfolding walk_from cursor_start_of
  walk_same zero k c h e = refl
  walk_same (suc n) k c h e =
      let l = le_trans (far k n) h in
      let items = spline_items_of (quad_row_at w.quads) w.splines k in
      let next = cursor_after (quad_row_at w.quads) w.splines k in
      let z = stays_exact setting caps w S points o spread k c l e in
      ap (λ (b : ℕ). items b ++ from setting n (k + 1) (next b)) (starts_exactly caps w S setting k c l e ∙ sym e)
      ∙ ap (λ (r : List Item). items c ++ r)
      (walk_same n (k + 1) (next c) (le_trans (le_of_eq (shift_one k n)) h) (z ∙ ap S.cut (suc-eq-add-one k)))
    where
      far : (k n : ℕ) → k < k + suc n
      far k n = omega arith

  pub items_same : items_in setting w ≡ items_in Screen w
  unfolding walk_of
  items_same = walk_same w.state.splines 0 0 (le_of_eq (zero-add w.state.splines)) (sym S.first)

pub no_point_changes : NoPointChanges
unfolding walked
no_point_changes job h =
    let w = world_of job in
    subst (λ (f : Flattening). Spread f → f.output ≡ write_output (quad_row_at f.quads) f.splines (walk_in Screen f) job.output) (sym (passed job h).result)
    (λ s. ap (λ (items : List Item). write_output (quad_row_at w.quads) w.splines items job.output)
    (items_same job.setting (caps_of job) w (job_sound job) (finished_of job).result.points (finished_of job).output s))

-- ---- the screen
screen_from : (rows : ℕ → QuadRow) (s : SplineTable) (first_quad quad_count : List ℕ) (n k c : ℕ)
    → walk_from Screen rows (retold s first_quad quad_count) n k c ≡ walk_from Screen rows s n k c
unfolding walk_from cursor_start_of spline_items_of cursor_after subdivisions_of step_size_of starts_of spline_at
screen_from rows s first_quad quad_count zero k c = refl
screen_from rows s first_quad quad_count (suc n) k c =
    ap (λ (r : List Item). spline_items_of rows s k c ++ r) (screen_from rows s first_quad quad_count n (k + 1) (cursor_after rows s k c))

pub screen_reads_neither : ScreenReadsNeither
unfolding walk_of
screen_reads_neither rows s first_quad quad_count n = screen_from rows s first_quad quad_count n 0 0
