-- What a primitive is planned as where something was refused before it. In src/ no state holds an answer, so `Run::plan` is given such a state without it: its
-- contract tells what the plan is where nothing was refused, and the law here what it is with the refusal. A state that is kept keeps the refusal, unless the
-- primitive is refused itself; a line or a quad that is stored is planned alike. Assumes nothing.
use mathlib.Core.Path.{◌≡◌, refl, ap, ◌∙◌}
use mathlib.Core.Bool.{Bool, true, false, cond}
use Prim.Native.Nat.{ℕ}
use lib.Ieee.{Float}
use Rattle.std.specs.Prelude.{Result, None, Some}
use Rattle.answer.specs.declared.Refusal.{Refusal}
use Rattle.answer.specs.Answer.{Answer, Done, QuadsFull, SplinesFull, SumTooLarge}
use Rattle.answer.specs.Number.{is_done}
use Rattle.point.specs.Angle.{Angle}
use Rattle.point.specs.Point.{applied_of}
use Rattle.point.specs.declared.Setting.{Setting}
use Rattle.point.specs.declared.Point.{Point}
use Rattle.point.specs.declared.WeightedPoint.{WeightedPoint}
use Rattle.primitives.specs.declared.Capacities.{Capacities}
use Rattle.primitives.specs.declared.State as stored
use Rattle.primitives.specs.declared.Edit as planned
use Rattle.primitives.specs.declared.SplineRow.{SplineRow}
use Rattle.primitives.specs.declared.Primitive.{Primitive}
use Rattle.primitives.specs.declared.Primitive.TheVariants as primitive
use Rattle.primitives.specs.Edits.{SplineEdit, Edit, Keep, Extend, Bend, answered, edited_or}
use Rattle.primitives.specs.Quads.{curve_of}
use Rattle.primitives.specs.Splines.{state_of, opens_of, spline_edit_of}
use Rattle.primitives.specs.Plan.{refused_of, marked_of, plan_line_of, quad_row_of, plan_curve_of, plan_legs_of, plan_quad_of, plan_of}

-- an edit of a state where nothing was refused, as it is after this answer
unfoldable pub after : Answer → Edit → Edit
after answer (Keep st) = Keep (state_of (cond (is_done st.answer) answer st.answer) st.splines st.quads st.mark st.last)
after answer (Extend edit) = Extend edit
after answer (Bend edit i row) = Bend edit i row

module _ (setting : Setting) (caps : Capacities) (answer : Answer) (st : stored.State) (last : SplineRow) where
  edit_same : (opens : Bool) (start end : Point) (sum : Float) (quads : ℕ) (angle : Angle)
      → spline_edit_of opens (answered Done st) last start end sum quads angle ≡ spline_edit_of opens (answered answer st) last start end sum quads angle
  unfolding spline_edit_of
  edit_same true start end sum quads angle = refl
  edit_same false start end sum quads angle = refl

  line_after : (start end : Point)
      → after answer (plan_line_of setting caps (answered Done st) last start end) ≡ plan_line_of setting caps (answered answer st) last start end
  unfolding after plan_line_of refused_of opens_of
  line_after start end = go _ (edit_same _ _ _ _ _ _)
    where
      go : (full : Bool) {e e' : SplineEdit} → e ≡ e'
          → after answer (cond full (Keep (refused_of (answered Done st) SplinesFull)) (Extend e)) ≡ cond full (Keep (refused_of (answered answer st) SplinesFull)) (Extend e')
      go true h = refl
      go false h = ap Extend h

  curve_after : (p0 p1 p2 : WeightedPoint) (a b : Angle)
      → after answer (plan_curve_of setting caps (answered Done st) last p0 p1 p2 a b) ≡ plan_curve_of setting caps (answered answer st) last p0 p1 p2 a b
  unfolding after plan_curve_of refused_of opens_of
  curve_after p0 p1 p2 a b = go _ _ _ (edit_same _ _ _ _ _ _)
    where
      go : (none full over : Bool) {e e' : SplineEdit} → e ≡ e'
          → after answer
          (cond none (Keep (refused_of (answered Done st) QuadsFull))
          (cond full (Keep (refused_of (answered Done st) SplinesFull))
          (cond over (Keep (refused_of (answered Done st) SumTooLarge))
          (Bend e st.quads (quad_row_of p0 p1 p2 (curve_of (applied_of p0) (applied_of p1) (applied_of p2)) e)))))
          ≡ cond none (Keep (refused_of (answered answer st) QuadsFull))
          (cond full (Keep (refused_of (answered answer st) SplinesFull))
          (cond over (Keep (refused_of (answered answer st) SumTooLarge))
          (Bend e' st.quads (quad_row_of p0 p1 p2 (curve_of (applied_of p0) (applied_of p1) (applied_of p2)) e'))))
      go true full over h = refl
      go false true over h = refl
      go false false true h = refl
      go false false false h = ap (λ (e : SplineEdit). Bend e st.quads (quad_row_of p0 p1 p2 (curve_of (applied_of p0) (applied_of p1) (applied_of p2)) e)) h

  legs_after : (p0 p1 p2 : WeightedPoint) (a b : Angle)
      → after answer (plan_legs_of setting caps (answered Done st) last p0 p1 p2 a b) ≡ plan_legs_of setting caps (answered answer st) last p0 p1 p2 a b
  unfolding after plan_legs_of
  legs_after p0 p1 p2 None None = refl
  legs_after p0 p1 p2 None (Some b) = line_after _ _
  legs_after p0 p1 p2 (Some a) None = line_after _ _
  legs_after p0 p1 p2 (Some a) (Some b) = curve_after p0 p1 p2 (Some a) (Some b)

  pub plan_after : (p : Primitive) → after answer (plan_of setting caps (answered Done st) last p) ≡ plan_of setting caps (answered answer st) last p
  unfolding after plan_of plan_quad_of marked_of refused_of
  plan_after primitive.Contour = refl
  plan_after (primitive.Line p0 p1) = line_after _ _
  plan_after (primitive.Quad p0 p1 p2) = legs_after p0 p1 p2 _ _
  plan_after primitive.Excess = refl

  -- what `Run::plan` gives in this state is, with its contract, the plan after any answer
  pub planned_after : (p : Primitive) (result : Result planned.Edit Refusal) → edited_or st result ≡ plan_of setting caps (answered Done st) last p
      → after answer (edited_or st result) ≡ plan_of setting caps (answered answer st) last p
  planned_after p result h = ap (after answer) h ∙ plan_after p
