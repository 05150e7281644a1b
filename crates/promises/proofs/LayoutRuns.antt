-- A run in any lawful layout goes with the library's: the plan reads no quad table, so every edit is the same, and each quad is stored after the last one,
-- where both tables have room. So states and spline tables are the same, and so is each row in use. Assumes nothing.
use Prim.Native.Nat.{ℕ, suc, ◌+◌, ◌≤◌, ◌<◌}
use mathlib.Core.Path.{◌≡◌, refl, sym, ap, ◌∙◌, subst}
use mathlib.Core.Logic.{inl, inr}
use mathlib.Core.Bool.{Bool, true, false, not, ◌&&◌, cond}
use mathlib.Core.List.{List, [], ◌∷◌}
use native.Mathlib.Nat.{le_trans, le_of_eq, lt_of_lt_of_le, eq-or-lt_of_le, le_of_suc-le-suc, ne_of_lt}
use native.Mathlib.Numerals.{add-one}
use lib.Dec.{leb}
use lib.Ieee.{Float, le}
use borrow.Author.Tests.{leb-false}
use Rattle.leaves.specs.Single.{◌⊕◌}
use Rattle.leaves.specs.Whole.{limit32}
use Rattle.answer.specs.Number.{is_done}
use Rattle.point.specs.declared.Point.{Point}
use Rattle.point.specs.declared.WeightedPoint.{WeightedPoint}
use Rattle.point.specs.Angle.{Angle}
use Rattle.std.specs.Prelude.{None, Some}
use Rattle.point.specs.Point.{applied_of, minus_of}
use Rattle.point.specs.Angle.{angle_of}
use Rattle.point.specs.declared.Setting.{Setting}
use Rattle.primitives.specs.declared.Capacities.{Capacities}
use Rattle.primitives.specs.Edits.{State, SplineEdit, Edit, Keep, Extend, Bend}
use Rattle.primitives.specs.declared.Primitive.{Primitive}
use Rattle.primitives.specs.declared.Primitive.TheVariants.{Contour, Line, Quad, Excess}
use Rattle.primitives.specs.declared.Kind.TheVariants.{Straight, Round}
use Rattle.primitives.specs.declared.QuadRow.{QuadRow}
use Rattle.primitives.specs.declared.SplineRow.{SplineRow}
use Rattle.primitives.specs.Quads.{curve_of}
use Rattle.primitives.specs.Splines.{opens_of, sum_before, spline_edit_of}
use Rattle.primitives.specs.Plan.{refused_of, marked_of, plan_line_of, plan_curve_of, plan_legs_of, plan_quad_of, plan_of}
use Rattle.tables.specs.Tables.{QuadTable, quad_capacity_of, put_quad, quad_row_at, last_spline_of}
use Rattle.tables.specs.Run.{World, apply_of, push_of, run_of}
use Rattle.tables.proofs.RowLaws.{row_put, row_stays, capacity_stays}
use Rattle.tables.proofs.Spans.{Agree}
use Rattle.promises.specs.Layouts.{Layout, in_rows, Laid, laid, apply_in, push_in, run_in, Lawful}

-- ---- what a plan does to the number of quads: it stays, or one quad is stored, after the last
data Planned (caps : Capacities) (st : State) : Edit → Type 0 where
  keeps : (next : State) → next.quads ≡ st.quads → Planned caps st (Keep next)
  extends : (edit : SplineEdit) → edit.next.quads ≡ st.quads → Planned caps st (Extend edit)
  bends : (edit : SplineEdit) (row : QuadRow) → st.quads < caps.quads → edit.next.quads ≡ st.quads + 1 → Planned caps st (Bend edit st.quads row)

module _ (setting : Setting) (caps : Capacities) (st : State) (last : SplineRow) where
  tested : (b : Bool) {e e' : Edit} → Planned caps st e → (b ≡ false → Planned caps st e') → Planned caps st (cond b e e')
  tested true p q = p
  tested false p q = q refl

  edit_quads : (opens : Bool) (start end : Point) (sum : Float) (quads : ℕ) (angle : Angle)
      → (spline_edit_of opens st last start end sum quads angle).next.quads ≡ quads
  unfolding spline_edit_of
  edit_quads true start end sum quads angle = refl
  edit_quads false start end sum quads angle = refl

  line_planned : (start end : Point) → Planned caps st (plan_line_of setting caps st last start end)
  unfolding plan_line_of refused_of
  line_planned start end =
      let opens = opens_of setting Straight st last (angle_of (minus_of end start)) start in
      tested (opens && leb caps.splines st.splines) (keeps _ refl) (λ z. extends _ (edit_quads opens start end _ st.quads _))

  curve_planned : (p0 p1 p2 : WeightedPoint) (a b : Angle) → Planned caps st (plan_curve_of setting caps st last p0 p1 p2 a b)
  unfolding plan_curve_of refused_of
  curve_planned p0 p1 p2 a b =
      let start = applied_of p0 in
      let end = applied_of p2 in
      let opens = opens_of setting Round st last a start in
      let sum = sum_before opens last ⊕ (curve_of start (applied_of p1) end).curvature in
      tested (leb caps.quads st.quads) (keeps _ refl)
      (λ room. tested (opens && leb caps.splines st.splines) (keeps _ refl)
      (λ z. tested (not (le sum limit32)) (keeps _ refl)
      (λ z. bends _ _ (leb-false caps.quads st.quads room) (edit_quads opens start end sum (st.quads + 1) b))))

  legs_planned : (p0 p1 p2 : WeightedPoint) (a b : Angle) → Planned caps st (plan_legs_of setting caps st last p0 p1 p2 a b)
  unfolding plan_legs_of
  legs_planned p0 p1 p2 None None = keeps st refl
  legs_planned p0 p1 p2 None (Some b) = line_planned (applied_of p0) (applied_of p2)
  legs_planned p0 p1 p2 (Some a) None = line_planned (applied_of p0) (applied_of p2)
  legs_planned p0 p1 p2 (Some a) (Some b) = curve_planned p0 p1 p2 (Some a) (Some b)

  planned : (p : Primitive) → Planned caps st (plan_of setting caps st last p)
  unfolding plan_of plan_quad_of marked_of refused_of
  planned Contour = keeps _ refl
  planned (Line p0 p1) = line_planned (applied_of p0) (applied_of p1)
  planned (Quad p0 p1 p2) = legs_planned p0 p1 p2 _ _
  planned Excess = keeps _ refl

-- ---- a quad table in a lawful layout beside the library's
module _ (Q : Type 0) (L : Layout Q) (law : Lawful L) (caps : Capacities) where
  -- both have the room that the plan counts on, and the same rows in use
  pub record Beside (w : World) (q : Q) : Type 0 where
    pub rows : Agree (quad_row_at w.quads) (L.row q) w.state.quads
    pub own : caps.quads ≤ quad_capacity_of w.quads
    pub other : caps.quads ≤ L.capacity q

  -- v has the state and the spline table of w, and a quad table beside its own
  pub record Follows (w : World) (v : Laid Q) : Type 0 where
    pub quads : Q
    pub same : v ≡ laid w.state quads w.splines
    pub beside : Beside w quads

  -- row k is put into both
  put_agrees : (q₀ : QuadTable) (q : Q) (k : ℕ) (row : QuadRow) → Agree (quad_row_at q₀) (L.row q) k → k < quad_capacity_of q₀ → k < L.capacity q
      → Agree (quad_row_at (put_quad q₀ k row)) (L.row (L.put q k row)) (suc k)
  put_agrees q₀ q k row A own other i h = elim (eq-or-lt_of_le (le_of_suc-le-suc h)) [
    | inl e ↦
        subst (λ (j : ℕ). L.row (L.put q k row) j ≡ quad_row_at (put_quad q₀ k row) j) (sym e) (law.put q k row other ∙ sym (row_put q₀ k row own))
    | inr l ↦ law.others q k i row (ne_of_lt l) ∙ A i l ∙ sym (row_stays q₀ k row i (ne_of_lt l))
  ]

  apply_follows : (w : World) (q : Q) → Beside w q → {e : Edit} → Planned caps w.state e
      → Follows (apply_of e w.quads w.splines) (apply_in L e q w.splines)
  unfolding apply_of apply_in
  apply_follows w q B (keeps next e) =
      record { quads = q; same = refl; beside = record { rows = λ i h. B.rows i (lt_of_lt_of_le h (le_of_eq e)); own = B.own; other = B.other } }
  apply_follows w q B (extends edit e) =
      record { quads = q; same = refl; beside = record { rows = λ i h. B.rows i (lt_of_lt_of_le h (le_of_eq e)); own = B.own; other = B.other } }
  apply_follows w q B (bends edit row room e) =
      let k = w.state.quads in
      let A = put_agrees w.quads q k row B.rows (lt_of_lt_of_le room B.own) (lt_of_lt_of_le room B.other) in
      record {
        quads = L.put q k row;
        same = refl;
        beside =
            record {
              rows = λ i h. A i (lt_of_lt_of_le h (le_of_eq (e ∙ add-one k)));
              own = le_trans B.own (le_of_eq (sym (capacity_stays w.quads k row)));
              other = le_trans B.other (le_of_eq (sym (law.capacity q k row)));
            };
      }

  push_follows : (setting : Setting) (p : Primitive) (w : World) (q : Q) → Beside w q
      → Follows (push_of setting caps p w) (push_in L setting caps p (laid w.state q w.splines))
  unfolding push_of push_in
  push_follows setting p w q B = apply_follows w q B (planned setting caps w.state (last_spline_of w.splines w.state.splines) p)

  pub run_follows : (setting : Setting) (ps : List Primitive) (w : World) (q : Q) → Beside w q
      → Follows (run_of setting caps ps w) (run_in L setting caps ps (laid w.state q w.splines))
  unfolding run_of run_in
  run_follows setting [] w q B = record { quads = q; same = refl; beside = B }
  run_follows setting (p ∷ ps) w q B =
      let F = step (is_done w.state.answer) in
      subst (λ (x : Laid Q). Follows (run_of setting caps ps (next (is_done w.state.answer))) (run_in L setting caps ps x)) (sym F.same)
      (run_follows setting ps (next (is_done w.state.answer)) F.quads F.beside)
    where
      next : Bool → World
      next b = cond b (push_of setting caps p w) w

      step : (b : Bool) → Follows (next b) (cond b (push_in L setting caps p (laid w.state q w.splines)) (laid w.state q w.splines))
      step true = push_follows setting p w q B
      step false = record { quads = q; same = refl; beside = B }

-- ---- the run that is told of the rows is the library's
abbrev pub laid_of : World → Laid QuadTable
laid_of w = laid w.state w.quads w.splines

apply_rows : (e : Edit) (w : World) → apply_in in_rows e w.quads w.splines ≡ laid_of (apply_of e w.quads w.splines)
unfolding apply_in apply_of
apply_rows (Keep st) w = refl
apply_rows (Extend edit) w = refl
apply_rows (Bend edit i row) w = refl

pub run_rows : (setting : Setting) (caps : Capacities) (ps : List Primitive) (w : World)
    → run_in in_rows setting caps ps (laid_of w) ≡ laid_of (run_of setting caps ps w)
unfolding run_in run_of push_in push_of
run_rows setting caps [] w = refl
run_rows setting caps (p ∷ ps) w =
    ap (run_in in_rows setting caps ps) (step (is_done w.state.answer))
    ∙ run_rows setting caps ps (cond (is_done w.state.answer) (push_of setting caps p w) w)
  where
    step : (b : Bool) → cond b (push_in in_rows setting caps p (laid_of w)) (laid_of w) ≡ laid_of (cond b (push_of setting caps p w) w)
    step true = apply_rows _ w
    step false = refl
