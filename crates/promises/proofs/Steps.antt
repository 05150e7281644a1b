-- Demands 3e and 3f. The cursor comes to each spline at or before its first quad, and so passes no last quad (3e). Where a whole number lies strictly between the last two
-- sums of each spline of two or more quads it comes to each spline at its first quad, some step falls on each quad, and none strays (3f). Assumes nothing.
use mathlib.Core.Path.{◌≡◌, sym, ap, ◌∙◌, subst}
use mathlib.Core.Logic.{inl, inr}
use mathlib.Core.Bool.{Bool, true, false, cond}
use mathlib.Core.List.Memᴰ
use mathlib.Core.List.{List, [], ◌∷◌, Memᴰ}
use Prim.Native.Nat.{ℕ, suc, ◌+◌, ◌-◌, ◌*◌, ◌≤◌, ◌<◌, zero-le}
use native.Mathlib.Nat.{le_trans, le_of_eq, lt_of_lt_of_le, lt_of_le_of_lt, lt_irrefl, zero-add}
use native.Mathlib.Omega.{arith}
use lib.Dec.{T}
use lib.Ieee.{Float}
use lib.Ieee.Positive.{num, den}
use lib.ListN.{get_or}
use Rattle.answer.specs.Answer.{Done}
use Rattle.command.specs.declared.PointCommand.TheVariants.{Start, Incr, End}
use Rattle.point.specs.declared.Setting.{Setting}
use Rattle.point.specs.declared.Setting.TheVariants.{Knife}
use Rattle.primitives.specs.declared.Capacities.{Capacities}
use Rattle.primitives.specs.declared.QuadRow.{QuadRow}
use Rattle.tables.specs.Tables.{SplineTable, quad_row_at, spline_at}
use Rattle.tables.specs.Run.{World}
use Rattle.tables.proofs.Spans.{sum_at, Span}
use Rattle.tables.proofs.Sound.{Sound, cut_le}
use Rattle.tables.proofs.Owners.{Home, home, home_owner}
use Rattle.walk.specs.Walk.{Item, item, subdivisions_of, step_size_of, starts_of, cursor_start_of, cursor_at, steps_from, cursor_from, cursor_after, spline_items_of, walk_of}
use Rattle.flatten.specs.Flatten.{Flattening, Output, flattened, flattening, walked}
use Rattle.promises.specs.Words.{is_step, is_end}
use Rattle.contours.specs.Cutting.{cut_after}
use Rattle.promises.specs.Accepted.{walk_in, steps_of}
use Rattle.promises.specs.Demand3.{StepOf, spline_of_quad, LastQuad, NotAfterLast, Demand3e, Spread, QuadHasStep, NoStray, Demand3f}
use Rattle.promises.proofs.Flattened.{world_of, finished_of, passed}
use Rattle.promises.proofs.Decoding.{caps_of, job_sound}
use Rattle.facts.specs.Every.{All}
use Rattle.facts.proofs.Every.{all_append, all_map, all_member}
use Rattle.promises.proofs.Walking.{Piece, piece_at}
use Rattle.promises.proofs.Cursor.{Below, steps_under, Falls, first_falls, StepAt, step_at, steps_fall, cursor_ends, Reached, reached, falls_once}
use Rattle.promises.proofs.Arrivals.{all_steps, none_left, Ends, ends, after_none, after_some, Early, starts_early, starts_exact, starts_exactly, stays_early}

-- ---- a statement about the steps of a spline's items
abbrev pub Steps : (Item → Type 0) → Item → Type 0
Steps P i = T (is_step i.command) → P i

pub spline_steps : (P : Item → Type 0) (rows : ℕ → QuadRow) (s : SplineTable) (k c : ℕ)
    → All P (steps_from rows (step_size_of s k) (steps_of s k) 1 c) → All (Steps P) (spline_items_of rows s k c)
unfolding spline_items_of
spline_steps P rows s k c h =
    all_append (Steps P) (cond (starts_of s k) (item (Start k) 0 0 ∷ []) []) _ (start (starts_of s k))
    (all_append (Steps P) (steps_from rows (step_size_of s k) (steps_of s k) 1 c) _ (all_map P (Steps P) (λ i p t. p) (steps_from rows (step_size_of s k) (steps_of s k) 1 c) h) ((λ t. absurd t), tt))
  where
    start : (b : Bool) → All (Steps P) (cond b (item (Start k) 0 0 ∷ []) [])
    start true = ((λ t. absurd t), tt)
    start false = tt

module _ (setting : Setting) (caps : Capacities) (w : World) (S : Sound caps w) (points : ℕ) (o : Output) where
  -- the tables that the run leaves, and the walk
  abbrev left : Flattening
  left = flattening (flattened Done w.state.splines w.state.quads points) w.quads w.splines o

  abbrev rows : ℕ → QuadRow
  rows = quad_row_at w.quads

  abbrev s : SplineTable
  s = w.splines

  -- the number m of spline k
  abbrev ups : ℕ → ℕ
  ups k = subdivisions_of s k

  -- the walk, cut after each End
  abbrev pieces : List (List Item)
  pieces = cut_after (λ (i : Item). is_end i.command) (walk_in setting left)

  -- ---- the last quad of spline k
  last_quad : (k : ℕ) (h : k < w.state.splines) (L : Ends caps w S k) → LastQuad left k L.at
  last_quad k h L =
      record {
        stored = le_trans (le_of_eq L.next) (cut_le caps w S (suc k) h);
        own = (S.span k h).owned L.at L.inside (le_of_eq L.next);
        last = λ j l u e.
            let H = home caps w S j u in
            lt_irrefl j
            (lt_of_lt_of_le (subst (λ (x : ℕ). j < S.cut (suc x)) (sym (home_owner caps w S j H) ∙ e) H.high) (le_trans (le_of_eq (sym L.next)) l));
      }

  -- a spline without quads has no step
  no_step : (k c : ℕ) → ups k ≡ 0 → (i : Item) → Memᴰ i (spline_items_of rows s k c) → T (is_step i.command) → ⊥
  unfolding steps_from
  no_step k c e i =
      all_member (Steps (λ (x : Item). ⊥)) (spline_items_of rows s k c) i
      (spline_steps (λ (x : Item). ⊥) rows s k c
      (subst (λ (n : ℕ). All (λ (x : Item). ⊥) (steps_from rows (step_size_of s k) n 1 c)) (sym (none_left (ups k) e)) tt))

  -- ---- 3e
  piece : (comes inv : ℕ → ℕ → Type 0) → comes 0 0
      → ((k c : ℕ) → k < w.state.splines → comes k c → inv k (cursor_start_of setting (spline_at s k).first_quad c))
      → ((k c : ℕ) → k < w.state.splines → inv k c → comes (suc k) (cursor_after rows s k c))
      → (k : ℕ) → k < w.state.splines → Piece rows s inv pieces k k
  unfolding walk_of
  piece comes inv first begin next k h =
      let n = w.state.splines in
      subst (Piece rows s inv pieces k) (zero-add k)
      (piece_at rows s setting comes inv n 0 0 first (λ j c l u. begin j c (lt_of_lt_of_le l (le_of_eq (zero-add n))) u)
      (λ j c l u. next j c (lt_of_lt_of_le l (le_of_eq (zero-add n))) u) k h)

  pub not_after : (k : ℕ) (i : Item) → StepOf setting left k i → NotAfterLast left k i
  not_after k i T = elim (ends caps w S k h) [
    | inl e ↦ absurd (no_step k z.cursor e.1 i member T.step)
    | inr L ↦
        record {
          last = L.at;
          is_last = last_quad k h L;
          not_after =
              all_member (Steps (λ (x : Item). x.quad ≤ L.at)) (spline_items_of rows s k z.cursor) i
              (spline_steps (λ (x : Item). x.quad ≤ L.at) rows s k z.cursor
              (steps_under rows L.at (ups k) L.sum L.up (step_size_of s k) (ups k - 1) 1 z.cursor (le_trans z.holds L.inside)
              (all_steps (ups k) L.many)))
              member T.step;
        }
  ]
    where
      h : k < w.state.splines
      h = T.spline

      z : Piece rows s (Early caps w S) pieces k k
      z = piece (Early caps w S) (Early caps w S) zero-le (starts_early caps w S setting) (stays_early caps w S) k h

      member : Memᴰ i (spline_items_of rows s k z.cursor)
      member = subst (Memᴰ i) z.is T.member

  -- ---- a cursor that begins each spline at its first quad
  abbrev pub exactly : ℕ → ℕ → Type 0
  exactly k c = c ≡ S.cut k

  abbrev pub Exact : Type 0
  Exact = (k : ℕ) → k < w.state.splines → Piece rows s exactly pieces k k

  abbrev pub total : ℕ → Float
  total k = (spline_at s k).curvature

  -- the quads of a spline that has some end at its last one
  pub span_to : (k : ℕ) (h : k < w.state.splines) (L : Ends caps w S k) → Span rows (total k) (S.cut k) (suc L.at) k
  span_to k h L = subst (λ (x : ℕ). Span rows (total k) (S.cut k) x k) (sym L.next) (S.span k h)

  -- step p of spline k falls on quad i, and some step of it falls there
  abbrev pub FallsIn : (k : ℕ) (h : k < w.state.splines) → Ends caps w S k → ℕ → ℕ → Type 0
  FallsIn k h L p i = Falls rows (total k) (S.cut k) L.at k (ups k) (span_to k h L) L.inside L.sum L.up p i

  abbrev pub ReachedIn : (k : ℕ) (h : k < w.state.splines) → Ends caps w S k → ℕ → Type 0
  ReachedIn k h L i = Reached rows (total k) (S.cut k) L.at k (ups k) (span_to k h L) L.inside L.sum L.up i

  begin_falls : (k : ℕ) (h : k < w.state.splines) (L : Ends caps w S k) → FallsIn k h L 1 (cursor_at rows 1 (S.cut k))
  begin_falls k h L = first_falls rows (total k) (S.cut k) L.at k (ups k) (span_to k h L) L.inside L.sum L.up

  module _ (exact : Exact) where
    -- a step of spline k falls on its quad
    pub step_falls : (k : ℕ) (h : k < w.state.splines) (L : Ends caps w S k) (i : Item) → StepOf setting left k i
        → FallsIn k h L i.step i.quad × (i.step < ups k)
    step_falls k h L i T =
        all_member (Steps falls) (spline_items_of rows s k z.cursor) i
        (spline_steps falls rows s k z.cursor (subst (λ (c : ℕ). All falls (steps_from rows (step_size_of s k) (ups k - 1) 1 c)) (sym z.holds) steps))
        (subst (Memᴰ i) z.is T.member) T.step
      where
        falls : Item → Type 0
        falls x = FallsIn k h L x.step x.quad × (x.step < ups k)

        z : Piece rows s exactly pieces k k
        z = exact k h

        steps : All falls (steps_from rows (step_size_of s k) (ups k - 1) 1 (S.cut k))
        steps =
            steps_fall rows (total k) (S.cut k) L.at k (ups k) (span_to k h L) L.inside L.sum L.up (step_size_of s k) (ups k - 1) 1 (S.cut k)
            (λ u. begin_falls k h L) (all_steps (ups k) L.many)

    pub step_inside : (k : ℕ) (i : Item) → StepOf setting left k i → (S.cut k ≤ i.quad) × (i.quad < S.cut (suc k))
    step_inside k i T = elim (ends caps w S k T.spline) [
      | inl e ↦
          let z = exact k T.spline in
          absurd (no_step k z.cursor e.1 i (subst (Memᴰ i) z.is T.member) T.step)
      | inr L ↦ let F = (step_falls k T.spline L i T).0 in (F.low, lt_of_le_of_lt F.high (le_of_eq L.next))
    ]

    pub step_stays : (k : ℕ) (i : Item) → StepOf setting left k i → (i.quad < w.state.quads) × (spline_of_quad left i.quad ≡ k)
    step_stays k i T =
        let g = step_inside k i T in
        (lt_of_lt_of_le g.1 (cut_le caps w S (suc k) T.spline), (S.span k T.spline).owned i.quad g.0 g.1)

    in_items : (k c : ℕ) (i : Item) → Memᴰ i (steps_from rows (step_size_of s k) (steps_of s k) 1 c) → Memᴰ i (spline_items_of rows s k c)
    unfolding spline_items_of
    in_items k c i m =
        Memᴰ.append_right (cond (starts_of s k) (item (Start k) 0 0 ∷ []) []) (Memᴰ.append_left (item (End k (spline_at s k).contour) 0 0 ∷ []) m)

    -- a quad that some step falls on gets it
    pub gets_step : (k : ℕ) (h : k < w.state.splines) (L : Ends caps w S k) (quad : ℕ) → ReachedIn k h L quad → QuadHasStep setting left quad
    gets_step k h L quad R =
        record {
          spline = k;
          item = item (Incr (step_size_of s k)) R.step A.quad;
          stepped = record { spline = h; member = member (item (Incr (step_size_of s k)) R.step A.quad) A.member; step = tt };
          uses =
              falls_once rows (total k) (S.cut k) L.at k (ups k) (span_to k h L) L.inside L.sum L.up R.step A.quad quad A.falls R.falls;
        }
      where
        z : Piece rows s exactly pieces k k
        z = exact k h

        below : (p m : ℕ) → p < m → p < 1 + (m - 1)
        below p m h = omega arith

        member : (i : Item) → Memᴰ i (steps_from rows (step_size_of s k) (steps_of s k) 1 (S.cut k)) → Memᴰ i (get_or pieces k [])
        member i m = subst (Memᴰ i) (sym z.is) (subst (λ (c : ℕ). Memᴰ i (spline_items_of rows s k c)) (sym z.holds) (in_items k (S.cut k) i m))

        A : StepAt rows (total k) (S.cut k) L.at k (ups k) (span_to k h L) L.inside L.sum L.up (step_size_of s k)
            (steps_from rows (step_size_of s k) (ups k - 1) 1 (S.cut k)) R.step
        A =
            step_at rows (total k) (S.cut k) L.at k (ups k) (span_to k h L) L.inside L.sum L.up (step_size_of s k) (ups k - 1) 1 (S.cut k)
            (λ g. begin_falls k h L) (all_steps (ups k) L.many) R.step R.least (below R.step (ups k) R.most)

  -- for the knife that is so without condition
  pub knife_exact : setting ≡ Knife → Exact
  knife_exact e =
      piece (λ (k c : ℕ). Unit {0}) exactly tt
      (λ k c h u. ap (λ (x : Setting). cursor_start_of x (spline_at s k).first_quad c) e ∙ starts_exact caps w S k c h) (λ k c h u. tt)

  -- the spline of a quad ends at some quad, at or after it
  pub home_ends : (quad : ℕ) (H : Home caps w S quad) → (L : Ends caps w S H.spline) × (quad ≤ L.at)
  home_ends quad H = elim (ends caps w S H.spline H.inside) [
    | inl e ↦ absurd (empty (S.cut H.spline) (S.cut (suc H.spline)) quad e.0 H.low H.high)
    | inr L ↦ (L, upto quad L.at (S.cut (suc H.spline)) L.next H.high)
  ]
    where
      empty : (lo hi i : ℕ) → lo ≡ hi → lo ≤ i → i < hi → ⊥
      empty lo hi i e a b = omega arith

      upto : (i a hi : ℕ) → suc a ≡ hi → i < hi → i ≤ a
      upto i a hi e b = omega arith

  -- ---- 3f
  module _ (spread : Spread left) where
    between : (k : ℕ) (h : k < w.state.splines) (L : Ends caps w S k) → (b : ℕ) → suc b ≡ L.at → S.cut k ≤ b
        → (p : ℕ) × Below (sum_at rows b) p × (p * den (sum_at rows L.at) < num (sum_at rows L.at))
    between k h L b e g =
        let B = spread k b (subst (LastQuad left k) (sym e) (last_quad k h L)) ((S.span k h).owned b g (under b L.at (S.cut (suc k)) e L.next)) in
        (B.whole, B.over, subst (λ (x : ℕ). B.whole * den (sum_at rows x) < num (sum_at rows x)) e B.under)
      where
        under : (b a hi : ℕ) → suc b ≡ a → suc a ≡ hi → b < hi
        under b a hi e f = omega arith

    -- the cursor leaves each spline past its last quad, and so comes to the next one at its first
    pub stays_exact : (k c : ℕ) → k < w.state.splines → exactly k c → exactly (suc k) (cursor_after rows s k c)
    stays_exact k c h e = elim (ends caps w S k h) [
      | inl z ↦ after_none caps w S k c z.1 ∙ e ∙ z.0
      | inr L ↦
          after_some caps w S k c L.many
          ∙ ap suc (ap (cursor_from rows (ups k - 1) 1) e
          ∙ cursor_ends rows (total k) (S.cut k) L.at k (ups k) (span_to k h L) L.inside L.sum L.up (between k h L))
          ∙ L.next
    ]

    spread_exact : Exact
    spread_exact = piece exactly exactly (sym S.first) (starts_exactly caps w S setting) stays_exact

    spread_steps : (quad : ℕ) → quad < w.state.quads → QuadHasStep setting left quad
    spread_steps quad l =
        let H = home caps w S quad l in
        let E = home_ends quad H in
        let k = H.spline in
        let L = E.0 in
        gets_step spread_exact k H.inside L quad
        (reached rows (total k) (S.cut k) L.at k (ups k) (span_to k H.inside L) L.inside L.sum L.up (between k H.inside L) quad H.low E.1)

    pub no_stray : NoStray setting left
    no_stray = record { has_step = spread_steps; stays = step_stays spread_exact }

-- ---- 3e and 3f for an accepted drawing
pub demand3e : Demand3e
unfolding walked
demand3e job h k i =
    subst (λ (f : Flattening). StepOf job.setting f k i → NotAfterLast f k i) (sym (passed job h).result)
    (not_after job.setting (caps_of job) (world_of job) (job_sound job) (finished_of job).result.points (finished_of job).output k i)

pub demand3f : Demand3f
unfolding walked
demand3f job h =
    subst (λ (f : Flattening). Spread f → NoStray job.setting f) (sym (passed job h).result)
    (no_stray job.setting (caps_of job) (world_of job) (job_sound job) (finished_of job).result.points (finished_of job).output)
