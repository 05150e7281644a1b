-- 02, Two: in the knife setting every spline is of one kind, a round one begins and ends at its quads, and where straight meets round there is a joint.
-- The plan: what a primitive counts as says what it writes (`here`); a spline keeps its kind through the run, so the kind of what goes to it is the kind it ends
-- with; and one of the other kind opens a spline, which is a joint as a corner is. Assumes nothing.
use Prim.Native.Nat.{ℕ, suc, ◌+◌, ◌-◌, ◌≤◌, ◌<◌}
use mathlib.Core.Path.{◌≡◌, refl, sym, ap, ap₂, ◌∙◌, subst}
use mathlib.Core.Logic.{inl, inr, ◌≢◌}
use mathlib.Core.Bool.{true}
use mathlib.Core.List.Memᴰ
use mathlib.Core.List.{List, [], ◌∷◌, ◌++◌}
use native.Mathlib.Nat.{le_of_eq, le_refl, lt_of_lt_of_le, lt_irrefl}
use native.Mathlib.Omega.{arith}
use lib.ListN.{take}
use Rattle.answer.specs.Number.{is_done}
use Rattle.command.specs.declared.PointCommand.TheVariants.{Start, End}
use Rattle.point.specs.declared.Point.{Point}
use Rattle.point.specs.declared.Setting.{Setting}
use Rattle.point.specs.declared.Setting.TheVariants.{Knife}
use Rattle.primitives.specs.declared.Kind.{Kind}
use Rattle.primitives.specs.declared.Kind.TheVariants as kind
use Rattle.primitives.specs.declared.Primitive.{Primitive}
use Rattle.primitives.specs.declared.Primitive.TheVariants.{Line, Quad}
use Rattle.primitives.specs.Splines.{spline_kind_of, apart_of}
use Rattle.primitives.proofs.Opening.{opens_apart}
use Rattle.tables.specs.Tables.{quad_row_at, quad_start_of, quad_end_of, spline_at}
use Rattle.tables.specs.Run.{World, push_of, run_of}
use Rattle.store.specs.Columns.{stored_point_of}
use Rattle.tables.specs.Commands.{command_primitives_of, primitives_from, primitives_of, tables_of}
use Rattle.tables.proofs.Pushes.{last_of, pushed}
use Rattle.tables.proofs.Sound.{Sound, sound_push, sound_run, sound_start, last_is, cut_le}
use Rattle.tables.proofs.Runs.{next_is, run_append}
use Rattle.tables.proofs.Moves.{taken}
use Rattle.tables.proofs.Owners.{owned_round, round_quads, not_both}
use Rattle.tables.proofs.Rounds.{Rounds, rounds}
use Rattle.tables.proofs.Drawn.{Drew, after_drawn}
use Rattle.tables.proofs.KindLaws.{kind_at, drawn_kind, kinds_run}
use Rattle.walk.specs.Walk.{subdivisions_of}
use Rattle.flatten.specs.Flatten.{Flattening, walked}
use Rattle.promises.specs.Accepted.{Job}
use Rattle.promises.specs.Demand3.{LastQuad}
use Rattle.promises.specs.Corners.{used_before, Written, Joint}
use Rattle.promises.specs.StraightRound.{line, quad, splines_after, GoesTo}
use Rattle.promises.specs.StraightRound.{OneKind, NeverShare}
use Rattle.promises.specs.StraightRound.{KindTold, KindsTold, FirstQuad, RoundEnds, RoundsEnd, Meet, JointsStay}
use Rattle.promises.specs.StraightRound.{LineAndQuad, line_first, quad_first, BeltEndsStay}
use Rattle.promises.proofs.Flattened.{world_of, finished_of, Passed, passed}
use Rattle.promises.proofs.Decoding.{caps_of, job_sound}
use Rattle.promises.proofs.Arrivals.{ends}
use Rattle.promises.proofs.Joints.{now, Pair}
use Rattle.promises.proofs.Ends.{start_written, end_written}
use Rattle.promises.proofs.Corners.{start, turned_in, turned_joint, rest, primitives_split}
use Rattle.promises.proofs.Counting.{Here, here, dropped_run, not_mark}

-- ---- the kind of a spline, by what goes to it
module _ (job : Job) (P : Passed job) (knife : job.setting ≡ Knife) where
  abbrev run : List Primitive → World
  run l = run_of job.setting (caps_of job) l (start job)

  kinds_job : (ps : List Primitive) (w : World) → Sound (caps_of job) w → (k : ℕ) → k < w.state.splines
      → kind_at (run_of job.setting (caps_of job) ps w) k ≡ kind_at w k
  kinds_job ps w S k h = subst (λ (s : Setting). kind_at (run_of s (caps_of job) ps w) k ≡ kind_at w k) (sym knife) (kinds_run (caps_of job) ps w S k h)

  kind_here : {is : Kind} {from to : Point} {w w' : World} → Here job.setting is from to w w' → Sound (caps_of job) w'
      → kind_at w' (w'.state.splines - 1) ≡ is
  kind_here {is} {from} {to} {w} {w'} H S =
      drawn_kind is (subst (λ (s : Setting). Drew s is from to H.first H.after w w') knife H.drew) S

  goes_kind : (k : ℕ) (is : Kind) → GoesTo job k is → kind_at (world_of job) k ≡ is
  unfolding tables_of splines_after run_of
  goes_kind k is G =
      let caps = caps_of job in
      let v = run G.before in
      let v' = push_of job.setting caps G.primitive v in
      let S = sound_run job.setting caps G.before (start job) (sound_start job.quads job.splines) in
      let X = ap run G.split ∙ run_append job.setting caps G.before (G.primitive ∷ G.after) (start job) in
      let N = taken job.setting caps G.primitive G.after v (ap (λ (u : World). is_done u.state.answer) (sym X) ∙ P.done) in
      let S' = sound_push caps v S (pushed job.setting caps v G.primitive) in
      let e : v'.state.splines ≡ suc k =
      ap (λ (u : World). u.state.splines)
      (sym (run_append job.setting caps G.before (G.primitive ∷ []) (start job) ∙ next_is job.setting caps G.primitive [] v N.0)) ∙ G.last in
      ap (λ (u : World). kind_at u k) (X ∙ N.2) ∙ kinds_job G.after v' S' k (le_of_eq (sym e))
      ∙ ap (kind_at v') (top k v'.state.splines e) ∙ kind_here (here job.setting caps v G.drawn N.1 S) S'
    where
      top : (k n : ℕ) → n ≡ suc k → k ≡ n - 1
      top k n e = omega arith

pub one_kind : OneKind
unfolding walked
one_kind job h knife k is G =
    let P = passed job h in
    subst (λ (f : Flattening). spline_kind_of (spline_at f.splines k) ≡ is) (sym P.result) (goes_kind job P knife k is G)

pub never_share : NeverShare
never_share job h knife k a b = not_both (one_kind job h knife k kind.Straight a) (one_kind job h knife k kind.Round b)

-- ---- the kind of a spline, by its quads and its steps
module _ (job : Job) (k : ℕ) (h : k < (world_of job).state.splines) where
  abbrev w : World
  w = world_of job

  abbrev S : Sound (caps_of job) w
  S = job_sound job

  own : (i : ℕ) → S.cut k ≤ i → i < S.cut (suc k) → (quad_row_at w.quads i).spline ≡ k
  own i l u = (S.span k h).owned i l u

  early : (i : ℕ) → i < S.cut (suc k) → i < w.state.quads
  early i u = lt_of_lt_of_le u (cut_le (caps_of job) w S (suc k) h)

  told : KindTold (finished_of job) k
  unfolding walked
  told =
      record {
        by_quads = (
          λ r.
              let l = round_quads (caps_of job) w S k h r in
              record { quad = S.cut k; stored = early (S.cut k) l; own = own (S.cut k) (le_refl (S.cut k)) l },
          λ q. owned_round (caps_of job) w S q.quad k q.stored q.own,
        );
        by_steps = (
          λ r. elim (ends (caps_of job) w S k h) [
            | inl z ↦ absurd (lt_irrefl (S.cut k) (lt_of_lt_of_le (round_quads (caps_of job) w S k h r) (le_of_eq (sym z.0))))
            | inr L ↦ steps (subdivisions_of w.splines k) L.many
          ],
          λ s. elim (ends (caps_of job) w S k h) [
            | inl z ↦ absurd (no_steps (subdivisions_of w.splines k) s z.1)
            | inr L ↦
                owned_round (caps_of job) w S L.at k (early L.at (le_of_eq L.next)) (own L.at L.inside (le_of_eq L.next))
          ],
        );
      }
    where
      steps : (m : ℕ) → 2 ≤ m → 0 < m - 1
      steps m h = omega arith

      no_steps : (m : ℕ) → 0 < m - 1 → m ≡ 0 → ⊥
      no_steps m h e = omega arith

  -- ---- the ends of a round spline
  module _ (knife : job.setting ≡ Knife) where
    ends_at : Rounds (caps_of job) w
    unfolding tables_of
    ends_at =
        let ps = primitives_of job.state job.columns in
        subst (λ (s : Setting). Rounds (caps_of job) (run_of s (caps_of job) ps (start job))) (sym knife) (rounds ps job.quads job.splines)

    round_ends : RoundEnds (finished_of job) k
    unfolding walked
    round_ends =
        let begins : ((i : ℕ) → FirstQuad (finished_of job) k i → (spline_at w.splines k).p0 ≡ quad_start_of (quad_row_at w.quads i)) =
        λ i F. ends_at.begins k i (record { stored = F.stored; own = F.own; first = F.first }) in
        let ends : ((i : ℕ) → LastQuad (finished_of job) k i → (spline_at w.splines k).p2 ≡ quad_end_of (quad_row_at w.quads i)) =
        λ i L. ends_at.ends k i (record { stored = L.stored; own = L.own; last = L.last }) in
        record {
          begins = begins;
          ends = ends;
          start_written = λ i F e. subst (Written (finished_of job) (Start k)) (begins i F) (start_written job k h e);
          end_written = λ i L. subst (Written (finished_of job) (End k (spline_at w.splines k).contour)) (ends i L) (end_written job k h);
        }

pub kinds_told : KindsTold
unfolding walked
kinds_told job h k l =
    let P = passed job h in
    subst (λ (f : Flattening). KindTold f k) (sym P.result)
    (told job k (subst (λ (f : Flattening). k < f.result.splines) P.result l))

pub rounds_end : RoundsEnd
unfolding walked
rounds_end job h knife k l =
    let P = passed job h in
    subst (λ (f : Flattening). RoundEnds f k) (sym P.result)
    (round_ends job k (subst (λ (f : Flattening). k < f.result.splines) P.result l) knife)

-- ---- the joint
unlike_apart : (a b : Kind) → a ≢ b → apart_of Knife b a ≡ true
unfolding apart_of
unlike_apart kind.Straight kind.Straight n = absurd (n refl)
unlike_apart kind.Straight kind.Round n = refl
unlike_apart kind.Round kind.Straight n = refl
unlike_apart kind.Round kind.Round n = absurd (n refl)

module _ (job : Job) (P : Passed job) (knife : job.setting ≡ Knife) (p q : Point) (M : Meet job p q) where
  pair : Pair job.setting (caps_of job) M.first M.second p q (λ (v : World). spline_kind_of (last_of v) ≡ M.one) M.between
  pair =
      let setting = job.setting in
      let caps = caps_of job in
      record {
        drawn = λ v S W d.
            let v' = push_of setting caps M.first v in
            let H = here setting caps v M.first_drawn d S in
            let S' = sound_push caps v S (pushed setting caps v M.first) in
            let A = after_drawn H.drew S' W in
            (now A, ap spline_kind_of (last_is v' (S'.waits A.mark)) ∙ kind_here job P knife H S');
        nothing = λ v. dropped_run setting caps v M.between M.dropped;
        no_mark = not_mark M.second_drawn;
        opens = λ v S d holds.
            let H = here setting caps v M.second_drawn d S in
            record {
              kind = M.other;
              end = M.end;
              first = H.first;
              after = H.after;
              drew = H.drew;
              opens =
                  opens_apart setting M.other v.state (last_of v) H.first q
                  (ap (λ (s : Setting). apart_of s M.other (spline_kind_of (last_of v))) knife ∙ ap (apart_of Knife M.other) holds
                  ∙ unlike_apart M.one M.other M.unlike);
            };
      }

pub joints_stay : JointsStay
joints_stay job h knife p q M =
    let P = passed job h in
    subst (λ (f : Flattening). Joint f p q) (sym P.result)
    (turned_joint job p q (turned_in job P p q _ M.before M.between M.after (pair job P knife p q M) M.split))

-- ---- a line and a quad among the commands
meets : (job : Job) → Passed job → (i : ℕ) (p : Point) → LineAndQuad job i p → Meet job p p
unfolding command_primitives_of
meets job P i _ (line_first L C) =
    let c = job.columns in
    let n = used_before job i in
    record {
      before = primitives_from c (take i c.commands) 0;
      first = Line (stored_point_of c (n - 1)) (stored_point_of c n);
      between = [];
      second = Quad (stored_point_of c n) (stored_point_of c (n + 1)) (stored_point_of c (n + 2));
      after = primitives_from c (rest job P i L) (n + 1 + 2);
      split =
          primitives_split job P i L
          ∙ ap₂ (λ (x y : ℕ). primitives_from c (take i c.commands) 0
          ++ (Line (stored_point_of c (n - 1)) (stored_point_of c n)
          ∷ Quad (stored_point_of c x) (stored_point_of c (n + 1)) (stored_point_of c y) ∷ primitives_from c (rest job P i L) (n + 1 + 2)))
          (back n) (on n);
      dropped = λ d m. absurd (Memᴰ.not-nil m);
      one = kind.Straight;
      other = kind.Round;
      unlike = λ e. not_both refl e;
      start = _;
      end = _;
      first_drawn = line _ _;
      second_drawn = quad _ _ _ C;
    }
  where
    back : (n : ℕ) → n + 1 - 1 ≡ n
    back n = omega arith

    on : (n : ℕ) → n + 1 + 1 ≡ n + 2
    on n = omega arith
meets job P i _ (quad_first L C) =
    let c = job.columns in
    let n = used_before job i in
    record {
      before = primitives_from c (take i c.commands) 0;
      first = Quad (stored_point_of c (n - 1)) (stored_point_of c n) (stored_point_of c (n + 1));
      between = [];
      second = Line (stored_point_of c (n + 1)) (stored_point_of c (n + 2));
      after = primitives_from c (rest job P i L) (n + 2 + 1);
      split =
          primitives_split job P i L
          ∙ ap (λ (x : ℕ). primitives_from c (take i c.commands) 0
          ++ (Quad (stored_point_of c (n - 1)) (stored_point_of c n) (stored_point_of c (n + 1))
          ∷ Line (stored_point_of c x) (stored_point_of c (n + 2)) ∷ primitives_from c (rest job P i L) (n + 2 + 1)))
          (back n);
      dropped = λ d m. absurd (Memᴰ.not-nil m);
      one = kind.Round;
      other = kind.Straight;
      unlike = λ e. not_both e refl;
      start = _;
      end = _;
      first_drawn = quad _ _ _ C;
      second_drawn = line _ _;
    }
  where
    back : (n : ℕ) → n + 2 - 1 ≡ n + 1
    back n = omega arith

pub belt_ends_stay : BeltEndsStay
belt_ends_stay job h knife i p L = joints_stay job h knife p p (meets job (passed job h) i p L)
