-- Something of the drawing goes to each spline: a push opens at most one, and only for what is drawn. Assumes nothing.
use Prim.Native.Nat.{ℕ, suc, ◌≤◌, ◌<◌, zero-le}
use mathlib.Core.Path.{◌≡◌, refl, sym, ap, ◌∙◌, subst}
use mathlib.Core.Logic.{◌⊎◌, inl, inr}
use mathlib.Core.Bool.{Bool, true, false}
use mathlib.Core.List.{List, [], ◌∷◌, ◌++◌}
use native.Mathlib.Nat.{le_of_eq, lt_of_lt_of_le, lt_of_le_of_lt, lt_irrefl}
use native.Mathlib.Decide.{dec_lt}
use native.Mathlib.Numerals.{add-one}
use native.Mathlib.Omega.{arith, by_contra}
use Rattle.answer.specs.Number.{is_done}
use Rattle.point.specs.declared.Point.{Point}
use Rattle.point.specs.declared.WeightedPoint.{WeightedPoint}
use Rattle.point.specs.Angle.{Angle}
use Rattle.std.specs.Prelude.{None, Some}
use Rattle.point.specs.declared.Setting.{Setting}
use Rattle.primitives.specs.declared.Capacities.{Capacities}
use Rattle.primitives.specs.declared.Kind.{Kind}
use Rattle.primitives.specs.declared.Primitive.{Primitive}
use Rattle.primitives.specs.declared.Primitive.TheVariants.{Contour, Line, Quad, Excess}
use Rattle.primitives.specs.Splines.{spline_edit_of}
use Rattle.primitives.specs.Plan.{refused_of, marked_of, plan_of}
use Rattle.tables.specs.Run.{World, apply_of, push_of, run_of}
use Rattle.tables.specs.Commands.{primitives_of, tables_of}
use Rattle.tables.proofs.Runs.{next_is}
use Rattle.tables.proofs.Moves.{taken}
use Rattle.tables.proofs.Pushes.{Pushed, kept, marked, lined, bent, pushed}
use Rattle.flatten.specs.Flatten.{Flattening, walked}
use Rattle.promises.specs.FlattenAnswers.{leg_of, first_missing, second_missing}
use Rattle.promises.specs.StraightRound.{DrawnAs, line, as_line, quad, Dropped, both_missing, splines_after, NoneEmpty}
use Rattle.promises.proofs.Flattened.{passed}
use Rattle.promises.proofs.Decoding.{caps_of}
use Rattle.promises.proofs.Corners.{start}
use Rattle.promises.proofs.Counting.{dropped_push}

-- ---- what is drawn
record Drawn (p : Primitive) : Type 0 where
  is : Kind
  from : Point
  to : Point
  drawn : DrawnAs p is from to

quad_drawn : (a b c : WeightedPoint) (x y : Angle) → leg_of a b ≡ x → leg_of b c ≡ y → Drawn (Quad a b c) ⊎ Dropped (Quad a b c)
quad_drawn a b c None None e f = inr (both_missing a b c e f)
quad_drawn a b c None (Some y) e f = inl (record { is = _; from = _; to = _; drawn = as_line a b c (first_missing y e f) })
quad_drawn a b c (Some x) None e f = inl (record { is = _; from = _; to = _; drawn = as_line a b c (second_missing x e f) })
quad_drawn a b c (Some x) (Some y) e f =
    inl (record { is = _; from = _; to = _; drawn = quad a b c (record { first = x; second = y; first_leg = e; second_leg = f }) })

more : (n : ℕ) → n ≤ suc n
more n = omega arith

module _ (setting : Setting) (caps : Capacities) where
  -- a push opens at most one spline
  one_more : (w : World) {b : Bool} {w' : World} → Pushed setting caps w b w' → w'.state.splines ≤ suc w.state.splines
  unfolding refused_of marked_of apply_of spline_edit_of
  one_more w (kept answer) = more w.state.splines
  one_more w marked = more w.state.splines
  one_more w (lined true start end angle A) = le_of_eq (add-one w.state.splines)
  one_more w (lined false start end angle A) = more w.state.splines
  one_more w (bent true start end angle c row A B K fit R) = le_of_eq (add-one w.state.splines)
  one_more w (bent false start end angle c row A B K fit R) = more w.state.splines

  -- only what is drawn opens one
  opener : (p : Primitive) (w : World) → w.state.splines < (push_of setting caps p w).state.splines → Drawn p
  unfolding push_of plan_of marked_of refused_of apply_of
  opener Contour w h = absurd (lt_irrefl w.state.splines h)
  opener (Line a b) w h = record { is = _; from = _; to = _; drawn = line a b }
  opener (Quad a b c) w h = elim (quad_drawn a b c (leg_of a b) (leg_of b c) refl refl) [
    | inl D ↦ D
    | inr D ↦ absurd (lt_irrefl w.state.splines (lt_of_lt_of_le h (le_of_eq (ap (λ (v : World). v.state.splines) (dropped_push setting caps w _ D)))))
  ]
  opener Excess w h = absurd (lt_irrefl w.state.splines h)

  record Found (ps : List Primitive) (w : World) (k : ℕ) : Type 0 where
    before : List Primitive
    primitive : Primitive
    after : List Primitive
    split : ps ≡ before ++ (primitive ∷ after)
    drawn : Drawn primitive
    last : (run_of setting caps (before ++ (primitive ∷ [])) w).state.splines ≡ suc k

  found : (ps : List Primitive) (w : World) (k : ℕ) → is_done (run_of setting caps ps w).state.answer ≡ true → w.state.splines ≤ k
      → k < (run_of setting caps ps w).state.splines → Found ps w k
  unfolding run_of
  found [] w k d l u = absurd (lt_irrefl k (lt_of_lt_of_le u l))
  found (p ∷ ps) w k d l u = go (dec_lt k v.state.splines) (λ e f g. found ps v k e f g)
    where
      v : World
      v = push_of setting caps p w

      N : (is_done w.state.answer ≡ true) × (is_done v.state.answer ≡ true) × (run_of setting caps (p ∷ ps) w ≡ run_of setting caps ps v)
      N = taken setting caps p ps w d

      go : Dec (k < v.state.splines)
          → (is_done (run_of setting caps ps v).state.answer ≡ true → v.state.splines ≤ k → k < (run_of setting caps ps v).state.splines → Found ps v k)
          → Found (p ∷ ps) w k
      go (yes z) later =
          record {
            before = [];
            primitive = p;
            after = ps;
            split = refl;
            drawn = opener p w (lt_of_le_of_lt l z);
            last =
                ap (λ (x : World). x.state.splines) (next_is setting caps p [] w N.0)
                ∙ exact k w.state.splines v.state.splines l z (one_more w (pushed setting caps w p));
          }
        where
          exact : (k n m : ℕ) → n ≤ k → k < m → m ≤ suc n → m ≡ suc k
          exact k n m h i j = omega arith
      go (no z) later =
          let F =
          later (ap (λ (x : World). is_done x.state.answer) (sym N.2) ∙ d) (by_contra v.state.splines k z)
          (lt_of_lt_of_le u (le_of_eq (ap (λ (x : World). x.state.splines) N.2))) in
          record {
            before = p ∷ F.before;
            primitive = F.primitive;
            after = F.after;
            split = ap (λ (x : List Primitive). p ∷ x) F.split;
            drawn = F.drawn;
            last = ap (λ (x : World). x.state.splines) (next_is setting caps p (F.before ++ (F.primitive ∷ [])) w N.0) ∙ F.last;
          }

pub none_empty : NoneEmpty
unfolding walked tables_of splines_after
none_empty job h k l =
    let P = passed job h in
    let F =
    found job.setting (caps_of job) (primitives_of job.state job.columns) (start job) k P.done zero-le
    (subst (λ (f : Flattening). k < f.result.splines) P.result l) in
    record {
      is = F.drawn.is;
      goes =
          record {
            before = F.before;
            primitive = F.primitive;
            after = F.after;
            split = F.split;
            start = F.drawn.from;
            end = F.drawn.to;
            drawn = F.drawn.drawn;
            last = F.last;
          };
    }
