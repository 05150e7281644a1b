-- Two primitives, drawn one after the other, of which the second opens a spline, make a joint of two splines: one ends where the first primitive does, and has no
-- flag, and the next begins where the second does. The rest of the run leaves a joint as it is. Two lines that turn are such a pair. Assumes nothing.
use Prim.Native.Nat.{ℕ, suc, ◌-◌, ◌≤◌, ◌<◌}
use mathlib.Core.Path.{◌≡◌, refl, sym, ap, ◌∙◌, subst}
use mathlib.Core.Logic.{◌⊎◌, inl, inr}
use mathlib.Core.Bool.{Bool, true, false, cond, true≢false}
use mathlib.Core.List.{List, [], ◌∷◌, ◌++◌}
use native.Mathlib.Nat.{le_trans, le_of_eq, lt_of_lt_of_le, lt_irrefl}
use native.Mathlib.Numerals.{add-one}
use native.Mathlib.Omega.{arith}
use lib.Dec.{T}
use Rattle.answer.specs.Number.{is_done}
use Rattle.point.specs.declared.Point.{Point}
use Rattle.point.specs.declared.WeightedPoint.{WeightedPoint}
use Rattle.point.specs.Angle.{Angle}
use Rattle.std.specs.Prelude.{None, Some}
use Rattle.point.specs.declared.Setting.{Setting}
use Rattle.point.specs.declared.Setting.TheVariants.{Screen, Knife}
use Rattle.point.specs.Point.{applied_of, minus_of}
use Rattle.point.specs.Angle.{angle_of, changed_of}
use Rattle.primitives.specs.declared.Capacities.{Capacities}
use Rattle.primitives.specs.declared.Kind.{Kind}
use Rattle.primitives.specs.declared.Kind.TheVariants.{Straight}
use Rattle.primitives.specs.declared.Primitive.{Primitive}
use Rattle.primitives.specs.declared.Primitive.TheVariants.{Line}
use Rattle.primitives.specs.declared.SplineRow.{SplineRow}
use Rattle.primitives.specs.Edits.{SplineEdit}
use Rattle.primitives.specs.Splines.{opens_of, line_angle_of, spline_edit_of}
use Rattle.primitives.specs.Plan.{refused_of, marked_of}
use Rattle.primitives.specs.Shapes.{shape_of}
use Rattle.primitives.proofs.Opening.{opens_changed}
use Rattle.tables.specs.Tables.{QuadTable, put_spline, spline_at}
use Rattle.tables.specs.Run.{World, world, apply_of, push_of, run_of}
use Rattle.tables.proofs.Pushes.{last_of, is_mark, spline_edit, Pushed, kept, marked, lined, bent, pushed}
use Rattle.tables.proofs.Sound.{Sound, sound_push, sound_run, last_is, pred_suc}
use Rattle.tables.proofs.Flags.{flag_at, Closes, Flagged, next_of, Met, flagged_run}
use Rattle.tables.proofs.Runs.{next_is, run_append}
use Rattle.tables.proofs.Moves.{taken, run_grows}
use Rattle.tables.proofs.Ends.{Wide, start_new, start_same, start_stays, end_stays}
use Rattle.tables.proofs.Drawn.{Drew, After, drew_straight, after_drawn}

-- ---- a joint: spline k ends in p, and the next one begins in q
pub record Joint (k : ℕ) (p q : Point) (w : World) : Type 0 where
  pub stored : suc k < w.state.splines
  pub ends : (spline_at w.splines k).p2 ≡ p
  pub begins : (spline_at w.splines (suc k)).p0 ≡ q

module _ (k : ℕ) (p q : Point) (w : World) (J : Joint k p q w) where
  opened : (edit : SplineEdit) (table : QuadTable) → edit.at ≡ w.state.splines → edit.next.splines ≡ suc w.state.splines
      → Joint k p q (world edit.next table (put_spline w.splines edit))
  opened edit table at next =
      let s = w.splines in
      record {
        stored = grown w.state.splines edit.next.splines J.stored next;
        ends = end_stays s edit k (under w.state.splines edit.at J.stored at) ∙ J.ends;
        begins = start_stays s edit (suc k) (beside w.state.splines edit.at J.stored at) ∙ J.begins;
      }
    where
      grown : (n m : ℕ) → suc k < n → m ≡ suc n → suc k < m
      grown n m h e = omega arith

      under : (n at : ℕ) → suc k < n → at ≡ n → k ≡ at → ⊥
      under n at h e f = omega arith

      beside : (n at : ℕ) → suc k < n → at ≡ n → suc k ≡ at → ⊥
      beside n at h e f = omega arith

  joined : (edit : SplineEdit) (table : QuadTable) → edit.at ≡ w.state.splines - 1 → edit.next.splines ≡ w.state.splines
      → edit.row.p0 ≡ (last_of w).p0 → Joint k p q (world edit.next table (put_spline w.splines edit))
  joined edit table at next row =
      let s = w.splines in
      record {
        stored = lt_of_lt_of_le J.stored (le_of_eq (sym next));
        ends = end_stays s edit k (under w.state.splines edit.at J.stored at) ∙ J.ends;
        begins =
            start_same s edit
            (row ∙ ap (λ (r : SplineRow). r.p0) (last_is w (some w.state.splines J.stored)) ∙ ap (λ (i : ℕ). (spline_at s i).p0) (sym at)) (suc k)
            ∙ J.begins;
      }
    where
      under : (n at : ℕ) → suc k < n → at ≡ n - 1 → k ≡ at → ⊥
      under n at h e f = omega arith

      some : (n : ℕ) → suc k < n → 0 < n
      some n h = omega arith

  joint_push : (caps : Capacities) {setting : Setting} {b : Bool} {w' : World} → Pushed setting caps w b w' → Joint k p q w'
  unfolding refused_of marked_of apply_of spline_edit_of
  joint_push caps (kept answer) = record { stored = J.stored; ends = J.ends; begins = J.begins }
  joint_push caps marked = record { stored = J.stored; ends = J.ends; begins = J.begins }
  joint_push caps (lined true start end angle A) = opened _ _ refl (add-one w.state.splines)
  joint_push caps (lined false start end angle A) = joined _ _ refl refl refl
  joint_push caps (bent true start end angle c row A B K fit R) = opened _ _ refl (add-one w.state.splines)
  joint_push caps (bent false start end angle c row A B K fit R) = joined _ _ refl refl refl

pub joint_run : (k : ℕ) (p q : Point) (setting : Setting) (caps : Capacities) (ps : List Primitive) (w : World) → Joint k p q w
    → Joint k p q (run_of setting caps ps w)
unfolding run_of
joint_run k p q setting caps [] w J = J
joint_run k p q setting caps (x ∷ ps) w J =
    joint_run k p q setting caps ps (cond (is_done w.state.answer) (push_of setting caps x w) w) (go (is_done w.state.answer))
  where
    go : (b : Bool) → Joint k p q (cond b (push_of setting caps x w) w)
    go true = joint_push k p q w J caps (pushed setting caps w x)
    go false = J

-- ---- a primitive that is drawn from q on and opens a spline
pub record Opens (setting : Setting) (q : Point) (w w' : World) : Type 0 where
  pub kind : Kind
  pub end : Point
  pub first : Angle
  pub after : Angle
  pub drew : Drew setting kind q end first after w w'
  pub opens : opens_of setting kind w.state (last_of w) first q ≡ true

module _ {setting : Setting} {caps : Capacities} {p q : Point} {w w' : World} {last : Angle} (O : Opens setting q w w') (A : After last p w) (S : Sound caps w)
    (S' : Sound caps w') (W : Wide caps.splines w.splines) where
  pub joint_opened : Joint (w.state.splines - 1) p q w'
  unfolding spline_edit_of
  joint_opened = subst (Joint (n - 1) p q) (sym is) made
    where
      D : Drew setting O.kind q O.end O.first O.after w w'
      D = O.drew

      n : ℕ
      n = w.state.splines

      edit : Bool → SplineEdit
      edit o = spline_edit w o q O.end D.sum D.quads O.after

      is : w' ≡ world (edit true).next D.table (put_spline w.splines (edit true))
      is = D.is ∙ ap (λ (o : Bool). world (edit o).next D.table (put_spline w.splines (edit o))) O.opens

      some : 0 < n
      some = S.waits A.mark

      room : n < caps.splines
      room = le_trans (le_of_eq (sym (add-one n))) (subst (Sound caps) is S').room.splines

      apart : (n : ℕ) → 0 < n → n - 1 ≡ n → ⊥
      apart n h e = omega arith

      made : Joint (n - 1) p q (world (edit true).next D.table (put_spline w.splines (edit true)))
      made =
          let s = w.splines in
          record {
            stored = le_of_eq (ap suc (pred_suc n some) ∙ sym (add-one n));
            ends = end_stays s (edit true) (n - 1) (apart n some) ∙ A.ends;
            begins =
                subst (λ (i : ℕ). (spline_at (put_spline s (edit true)) i).p0 ≡ q) (sym (pred_suc n some))
                (start_new s (edit true) (lt_of_lt_of_le room W.p0x) (lt_of_lt_of_le room W.p0y));
          }

-- ---- a run
module _ (setting : Setting) (caps : Capacities) where
  -- at a Move there are no fewer splines than at first
  met_late : (ps : List Primitive) (w : World) (m : ℕ) → Met setting caps ps w m → w.state.splines ≤ m
  unfolding run_of
  met_late [] w m h = absurd h
  met_late (p ∷ ps) w m (inl h) = le_of_eq h.1.1
  met_late (p ∷ ps) w m (inr h) = le_trans (run_grows setting caps (p ∷ []) w) (met_late ps (next_of setting caps p w) m h)

  -- the last spline, where no mark waits, is not flagged after the next one is opened
  passed_by : (E : ℕ → Type 0) (p : Primitive) (ps : List Primitive) (w : World) (k : ℕ) → is_mark p ≡ false → Sound caps w → Flagged E w
      → w.state.mark ≡ false → suc k ≡ w.state.splines → suc k < (next_of setting caps p w).state.splines
      → flag_at (run_of setting caps (p ∷ ps) w).splines k ≡ false
  unfolding run_of
  passed_by E p ps w k no_mark S F free e l = go (flag_at (run_of setting caps (p ∷ ps) w).splines k) refl
    where
      more : suc k < (run_of setting caps (p ∷ ps) w).state.splines
      more = lt_of_lt_of_le l (run_grows setting caps ps (next_of setting caps p w))

      early : (k n : ℕ) → suc k < n → k < n
      early k n h = omega arith

      none : Closes (λ (m : ℕ). E m ⊎ Met setting caps (p ∷ ps) w m) (run_of setting caps (p ∷ ps) w).state.splines k → ⊥
      none (inl z) = lt_irrefl (suc k) (lt_of_lt_of_le more (le_of_eq (sym z)))
      none (inr (inl z)) = F.free free (subst E e z)
      none (inr (inr (inl z))) = subst T no_mark z.1.0
      none (inr (inr (inr z))) = lt_irrefl (suc k) (lt_of_lt_of_le l (met_late ps (next_of setting caps p w) (suc k) z))

      go : (b : Bool) → flag_at (run_of setting caps (p ∷ ps) w).splines k ≡ b → flag_at (run_of setting caps (p ∷ ps) w).splines k ≡ false
      go false z = z
      go true z =
          absurd (none ((flagged_run setting caps (p ∷ ps) E w S F).closed k (early k (run_of setting caps (p ∷ ps) w).state.splines more) z))

-- ---- two primitives, the first up to p and the second from q on
pub record Turned (p q : Point) (w : World) : Type 0 where
  pub spline : ℕ
  pub joint : Joint spline p q w
  pub unflagged : flag_at w.splines spline ≡ false

-- `first` is drawn up to p, what is between changes nothing, and `second` opens a spline at q wherever Q holds, as it does after `first`
module _ (setting : Setting) (caps : Capacities) (first second : Primitive) (p q : Point) (Q : World → Type 0) where
  pub record Pair (between : List Primitive) : Type 0 where
    pub drawn : (v : World) → Sound caps v → Wide caps.splines v.splines → is_done (push_of setting caps first v).state.answer ≡ true
        → After (push_of setting caps first v).state.last p (push_of setting caps first v) × Q (push_of setting caps first v)
    pub nothing : (v : World) → run_of setting caps between v ≡ v
    pub no_mark : is_mark second ≡ false
    pub opens : (v : World) → Sound caps v → is_done (push_of setting caps second v).state.answer ≡ true → Q v
        → Opens setting q v (push_of setting caps second v)

  module _ (w : World) (ps between qs : List Primitive) (P : Pair between) where
    abbrev run : List Primitive → World
    run l = run_of setting caps l w

    -- from the second on
    turned_from : (E : ℕ → Type 0) (v : World) → Sound caps v → Flagged E v → Wide caps.splines v.splines → After v.state.last p v → Q v
        → is_done (run_of setting caps (second ∷ qs) v).state.answer ≡ true → Turned p q (run_of setting caps (second ∷ qs) v)
    turned_from E v S F W A holds d =
        let N = taken setting caps second qs v d in
        let v' = push_of setting caps second v in
        let k = v.state.splines - 1 in
        let J = joint_opened (P.opens v S N.1 holds) A S (sound_push caps v S (pushed setting caps v second)) W in
        record {
          spline = k;
          joint = subst (Joint k p q) (sym N.2) (joint_run k p q setting caps qs v' J);
          unflagged =
              passed_by setting caps E second qs v k P.no_mark S F A.mark (pred_suc v.state.splines (S.waits A.mark))
              (subst (λ (t : Bool). suc k < (cond t v' v).state.splines) (sym N.0) J.stored);
        }

    pub turned : (E : ℕ → Type 0) → Sound caps w → Flagged E w → ((l : List Primitive) → Wide caps.splines (run l).splines)
        → is_done (run (ps ++ (first ∷ (between ++ (second ∷ qs))))).state.answer ≡ true → Turned p q (run (ps ++ (first ∷ (between ++ (second ∷ qs)))))
    unfolding run_of
    turned E S F W d =
        let rest = second ∷ qs in
        let start = ps ++ (first ∷ []) in
        let v = run ps in
        let v' = push_of setting caps first v in
        let X = run_append setting caps ps (first ∷ (between ++ rest)) w in
        let N = taken setting caps first (between ++ rest) v (ap (λ (u : World). is_done u.state.answer) (sym X) ∙ d) in
        let skipped : run_of setting caps (between ++ rest) v' ≡ run_of setting caps rest v' =
        run_append setting caps between rest v' ∙ ap (run_of setting caps rest) (P.nothing v') in
        let whole = X ∙ N.2 ∙ skipped in
        let e : run start ≡ v' = run_append setting caps ps (first ∷ []) w ∙ alone v N.0 in
        let E' : (ℕ → Type 0) = λ m. E m ⊎ Met setting caps start w m in
        let A = P.drawn v (sound_run setting caps ps w S) (W ps) N.1 in
        subst (Turned p q) (sym whole)
        (turned_from E' v' (subst (Sound caps) e (sound_run setting caps start w S)) (subst (Flagged E') e (flagged_run setting caps start E w S F))
        (subst (λ (u : World). Wide caps.splines u.splines) e (W start)) A.0 A.1
        (ap (λ (u : World). is_done u.state.answer) (sym whole) ∙ d))
      where
        alone : (v : World) → is_done v.state.answer ≡ true → run_of setting caps (first ∷ []) v ≡ push_of setting caps first v
        alone v d = next_is setting caps first [] v d

-- the last angle itself
pub now : {last : Angle} {p : Point} {w : World} → After last p w → After w.state.last p w
now A = record { mark = A.mark; last = refl; ends = A.ends }

-- ---- two lines that turn
changed_known : (setting : Setting) (last a b : Angle) → changed_of setting a b ≡ true → line_angle_of setting last a ≡ a
unfolding changed_of line_angle_of
changed_known setting last None b h = absurd (true≢false (sym h))
changed_known Screen last (Some a) b h = refl
changed_known Knife last (Some a) b h = refl

module _ (setting : Setting) (caps : Capacities) (a b c : WeightedPoint) where
  abbrev pub out : Angle
  out = angle_of (minus_of (applied_of b) (applied_of a))

  abbrev pub on : Angle
  on = angle_of (minus_of (applied_of c) (applied_of b))

  pub two_lines : changed_of setting out on ≡ true → Pair setting caps (Line a b) (Line b c) (applied_of b) (applied_of b) (λ (v : World). v.state.last ≡ out) []
  unfolding run_of shape_of
  two_lines h =
      record {
        drawn = λ v S W d.
            let D = drew_straight setting caps v (Line a b) (applied_of a) (applied_of b) refl d in
            let A = after_drawn D (sound_push caps v S (pushed setting caps v (Line a b))) W in
            (now A, A.last ∙ changed_known setting v.state.last out on h);
        nothing = λ v. refl;
        no_mark = refl;
        opens = λ v S d holds.
            record {
              kind = Straight;
              end = applied_of c;
              first = on;
              after = line_angle_of setting v.state.last on;
              drew = drew_straight setting caps v (Line b c) (applied_of b) (applied_of c) refl d;
              opens =
                  opens_changed setting Straight v.state (last_of v) on (applied_of b) (ap (λ (x : Angle). changed_of setting x on) holds ∙ h);
            };
      }
