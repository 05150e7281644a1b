-- What one primitive answers: the answer of a push, by the tests that it makes; and it refuses exactly for the causes that the rules give. Assumes nothing.
use Prim.Native.Nat.{ℕ, ◌+◌, ◌≤◌, ◌<◌}
use mathlib.Core.Path.{◌≡◌, refl, sym, ap, ap₂, ◌∙◌, subst}
use mathlib.Core.Logic.{◌⊎◌, inl, inr}
use mathlib.Core.Bool.{Bool, true, false, not, ◌&&◌, cond}
use lib.Dec.{T, leb, leb→le, nleb→lt}
use lib.Ieee.{Float, nan, lt, le, of_bits}
use lib.Ieee.Bits.{is_true}
use lib.Ieee.Scale.{finite}
use borrow.Author.Tests.{le-leb, lt-leb}
use Rattle.leaves.specs.Whole.{limit32}
use Rattle.answer.specs.Answer.{Answer}
use Rattle.answer.specs.Answer.{Done, TooManyPieces, QuadsFull, SplinesFull, SumTooLarge}
use Rattle.answer.specs.Number.{is_done}
use Rattle.point.specs.declared.WeightedPoint.{WeightedPoint}
use Rattle.point.specs.Angle.{Angle}
use Rattle.std.specs.Prelude.{None, Some}
use Rattle.point.specs.Point.{applied_of}
use Rattle.point.specs.declared.Setting.{Setting}
use Rattle.primitives.specs.declared.Capacities.{Capacities}
use Rattle.primitives.specs.Edits.{SplineEdit, Keep, Extend, Bend}
use Rattle.primitives.specs.declared.Primitive.{Primitive}
use Rattle.primitives.specs.declared.Primitive.TheVariants.{Contour, Line, Quad, Excess}
use Rattle.primitives.specs.declared.Kind.TheVariants as kind
use Rattle.primitives.specs.Quads.{curve_of}
use Rattle.primitives.specs.Splines.{line_angle_of, sum_before, spline_edit_of}
use Rattle.primitives.specs.Plan.{refused_of, marked_of, plan_line_of, quad_row_of, plan_curve_of, plan_legs_of, plan_quad_of, plan_of}
use Rattle.primitives.proofs.Opening.{joins}
use Rattle.tables.specs.Run.{World, apply_of, push_of}
use Rattle.tables.proofs.Pushes.{last_of, curve_bent}
use Rattle.tables.proofs.RunningSums.{sum_number}
use Rattle.tables.proofs.Sound.{Sound, sum_before_lem}
use Rattle.promises.specs.FlattenAnswers.{leg_of, Curved, Straight, first_missing, second_missing, opens_at, sum_with, Refuses, too_many, quads_full}
use Rattle.promises.specs.FlattenAnswers.{line_full, straight_full, curve_full, sum_over}
use Rattle.promises.proofs.Telling.{tells_under}

module _ (setting : Setting) (caps : Capacities) (w : World) where
  full : Bool
  full = leb caps.splines w.state.splines

  -- whether a line opens a spline, and whether a curve does whose first leg has this angle
  abbrev line_opens : WeightedPoint → WeightedPoint → Bool
  line_opens p0 p1 = opens_at setting kind.Straight w (leg_of p0 p1) p0

  abbrev curve_opens : WeightedPoint → Angle → Bool
  curve_opens p0 a = opens_at setting kind.Round w a p0

  -- and whether the sum with the curve is within its limit
  abbrev sum_fits : WeightedPoint → WeightedPoint → WeightedPoint → Angle → Bool
  sum_fits p0 p1 p2 a = le (sum_with setting w p0 p1 p2 a) limit32

  -- ---- the tests, in order
  line_answer : WeightedPoint → WeightedPoint → Answer
  line_answer p0 p1 = cond (line_opens p0 p1 && full) SplinesFull Done

  curve_answer : WeightedPoint → WeightedPoint → WeightedPoint → Angle → Answer
  curve_answer p0 p1 p2 a =
      cond (leb caps.quads w.state.quads) QuadsFull
      (cond (curve_opens p0 a && full) SplinesFull (cond (not (sum_fits p0 p1 p2 a)) SumTooLarge Done))

  quad_answer : WeightedPoint → WeightedPoint → WeightedPoint → Angle → Angle → Answer
  quad_answer p0 p1 p2 None None = w.state.answer
  quad_answer p0 p1 p2 None (Some b) = line_answer p0 p2
  quad_answer p0 p1 p2 (Some a) None = line_answer p0 p2
  quad_answer p0 p1 p2 (Some a) (Some b) = curve_answer p0 p1 p2 (Some a)

  push_answer : Primitive → Answer
  push_answer Contour = w.state.answer
  push_answer (Line p0 p1) = line_answer p0 p1
  push_answer (Quad p0 p1 p2) = quad_answer p0 p1 p2 (leg_of p0 p1) (leg_of p1 p2)
  push_answer Excess = TooManyPieces

  line_is : (p0 p1 : WeightedPoint) → (apply_of (plan_line_of setting caps w.state (last_of w) (applied_of p0) (applied_of p1)) w.quads w.splines).state.answer ≡ line_answer p0 p1
  unfolding plan_line_of apply_of spline_edit_of refused_of line_answer full
  line_is p0 p1 = go (line_opens p0 p1) (leb caps.splines w.state.splines)
    where
      go : (o f : Bool)
          → (apply_of (cond (o && f) (Keep (refused_of w.state SplinesFull)) (Extend (spline_edit_of o w.state (last_of w) (applied_of p0) (applied_of p1) (sum_before o (last_of w)) w.state.quads (line_angle_of setting w.state.last (leg_of p0 p1))))) w.quads w.splines).state.answer
          ≡ cond (o && f) SplinesFull Done
      go true true = refl
      go true false = refl
      go false f = refl

  curve_is : (p0 p1 p2 : WeightedPoint) (a b : Angle) → (apply_of (plan_curve_of setting caps w.state (last_of w) p0 p1 p2 a b) w.quads w.splines).state.answer ≡ curve_answer p0 p1 p2 a
  unfolding plan_curve_of apply_of spline_edit_of refused_of curve_answer full
  curve_is p0 p1 p2 a b =
      go (leb caps.quads w.state.quads) (curve_opens p0 a) (leb caps.splines w.state.splines) (sum_fits p0 p1 p2 a) (sum_with setting w p0 p1 p2 a)
      w.state.quads
    where
      edit : Bool → Float → SplineEdit
      edit o sum = spline_edit_of o w.state (last_of w) (applied_of p0) (applied_of p2) sum (w.state.quads + 1) b

      go : (q o f l : Bool) (sum : Float) (i : ℕ)
          → (apply_of (cond q (Keep (refused_of w.state QuadsFull)) (cond (o && f) (Keep (refused_of w.state SplinesFull)) (cond (not l) (Keep (refused_of w.state SumTooLarge)) (Bend (edit o sum) i (quad_row_of p0 p1 p2 (curve_of (applied_of p0) (applied_of p1) (applied_of p2)) (edit o sum)))))) w.quads w.splines).state.answer
          ≡ cond q QuadsFull (cond (o && f) SplinesFull (cond (not l) SumTooLarge Done))
      go true o f l sum i = refl
      go false true true l sum i = refl
      go false true false true sum i = refl
      go false true false false sum i = refl
      go false false f true sum i = refl
      go false false f false sum i = refl

  legs_is : (p0 p1 p2 : WeightedPoint) (a b : Angle) → (apply_of (plan_legs_of setting caps w.state (last_of w) p0 p1 p2 a b) w.quads w.splines).state.answer ≡ quad_answer p0 p1 p2 a b
  unfolding plan_legs_of apply_of quad_answer
  legs_is p0 p1 p2 None None = refl
  legs_is p0 p1 p2 None (Some b) = line_is p0 p2
  legs_is p0 p1 p2 (Some a) None = line_is p0 p2
  legs_is p0 p1 p2 (Some a) (Some b) = curve_is p0 p1 p2 (Some a) (Some b)

  push_answer_lem : (p : Primitive) → (push_of setting caps p w).state.answer ≡ push_answer p
  unfolding push_of plan_of plan_quad_of apply_of marked_of refused_of push_answer
  push_answer_lem Contour = refl
  push_answer_lem (Line p0 p1) = line_is p0 p1
  push_answer_lem (Quad p0 p1 p2) = legs_is p0 p1 p2 (leg_of p0 p1) (leg_of p1 p2)
  push_answer_lem Excess = refl

  -- ---- a cause gives its answer

  line_refused : (p0 p1 : WeightedPoint) → T (line_opens p0 p1) → caps.splines ≤ w.state.splines → line_answer p0 p1 ≡ SplinesFull
  unfolding line_answer full
  line_refused p0 p1 o f =
      ap₂ (λ (x y : Bool). cond (x && y) SplinesFull Done) (is_true (line_opens p0 p1) o) (le-leb caps.splines w.state.splines f)

  quads_refused : (p0 p1 p2 : WeightedPoint) (a : Angle) → caps.quads ≤ w.state.quads → curve_answer p0 p1 p2 a ≡ QuadsFull
  unfolding curve_answer
  quads_refused p0 p1 p2 a h =
      ap (λ (x : Bool). cond x QuadsFull (cond (curve_opens p0 a && full) SplinesFull (cond (not (sum_fits p0 p1 p2 a)) SumTooLarge Done)))
      (le-leb caps.quads w.state.quads h)

  -- the two later tests, past the first
  past_quads : (p0 p1 p2 : WeightedPoint) (a : Angle) → w.state.quads < caps.quads
      → curve_answer p0 p1 p2 a ≡ cond (curve_opens p0 a && full) SplinesFull (cond (not (sum_fits p0 p1 p2 a)) SumTooLarge Done)
  unfolding curve_answer
  past_quads p0 p1 p2 a h =
      ap (λ (x : Bool). cond x QuadsFull (cond (curve_opens p0 a && full) SplinesFull (cond (not (sum_fits p0 p1 p2 a)) SumTooLarge Done)))
      (lt-leb caps.quads w.state.quads h)

  splines_refused : (p0 p1 p2 : WeightedPoint) (a : Angle) → w.state.quads < caps.quads → T (curve_opens p0 a) → caps.splines ≤ w.state.splines
      → curve_answer p0 p1 p2 a ≡ SplinesFull
  unfolding full
  splines_refused p0 p1 p2 a h o f =
      past_quads p0 p1 p2 a h
      ∙ ap₂ (λ (x y : Bool). cond (x && y) SplinesFull (cond (not (sum_fits p0 p1 p2 a)) SumTooLarge Done)) (is_true (curve_opens p0 a) o)
      (le-leb caps.splines w.state.splines f)

  both_not : (o f : Bool) → (T o → f ≡ false) → o && f ≡ false
  both_not true f h = h tt
  both_not false f h = refl

  limit_number : T (finite limit32)
  unfolding of_bits
  limit_number = tt

  sum_refused : (p0 p1 p2 : WeightedPoint) (a : Angle) → w.state.quads < caps.quads → (T (curve_opens p0 a) → w.state.splines < caps.splines)
      → T (lt limit32 (sum_with setting w p0 p1 p2 a)) → curve_answer p0 p1 p2 a ≡ SumTooLarge
  unfolding full
  sum_refused p0 p1 p2 a h o f =
      past_quads p0 p1 p2 a h
      ∙ ap₂ (λ (x y : Bool). cond x SplinesFull (cond (not y) SumTooLarge Done))
      (both_not (curve_opens p0 a) (leb caps.splines w.state.splines) (λ t. lt-leb caps.splines w.state.splines (o t)))
      ((tells_under (sum_with setting w p0 p1 p2 a) limit32 limit_number).1 (inr f))

  curved_answer : (p0 p1 p2 : WeightedPoint) (C : Curved p0 p1 p2) → push_answer (Quad p0 p1 p2) ≡ curve_answer p0 p1 p2 (leg_of p0 p1)
  unfolding push_answer quad_answer
  curved_answer p0 p1 p2 C = ap₂ (quad_answer p0 p1 p2) C.first_leg C.second_leg ∙ ap (curve_answer p0 p1 p2) (sym C.first_leg)

  straight_answer : (p0 p1 p2 : WeightedPoint) → Straight p0 p1 p2 → push_answer (Quad p0 p1 p2) ≡ line_answer p0 p2
  unfolding push_answer quad_answer
  straight_answer p0 p1 p2 (first_missing b e f) = ap₂ (quad_answer p0 p1 p2) e f
  straight_answer p0 p1 p2 (second_missing a e f) = ap₂ (quad_answer p0 p1 p2) e f

  cause_answer : {p : Primitive} {a : Answer} → Refuses setting caps w p a → push_answer p ≡ a
  unfolding push_answer
  cause_answer too_many = refl
  cause_answer (quads_full p0 p1 p2 C h) = curved_answer p0 p1 p2 C ∙ quads_refused p0 p1 p2 (leg_of p0 p1) h
  cause_answer (line_full p0 p1 o f) = line_refused p0 p1 o f
  cause_answer (straight_full p0 p1 p2 C o f) = straight_answer p0 p1 p2 C ∙ line_refused p0 p2 o f
  cause_answer (curve_full p0 p1 p2 C h o f) = curved_answer p0 p1 p2 C ∙ splines_refused p0 p1 p2 (leg_of p0 p1) h o f
  cause_answer (sum_over p0 p1 p2 C h o f) = curved_answer p0 p1 p2 C ∙ sum_refused p0 p1 p2 (leg_of p0 p1) h o f

  pub refuses_answer : {p : Primitive} {a : Answer} → Refuses setting caps w p a → (push_of setting caps p w).state.answer ≡ a
  refuses_answer {p} r = push_answer_lem p ∙ cause_answer r

  -- ---- each refusal has its cause
  line_told : (p0 p1 : WeightedPoint)
      → (line_answer p0 p1 ≡ Done) ⊎ (T (line_opens p0 p1) × (caps.splines ≤ w.state.splines) × (line_answer p0 p1 ≡ SplinesFull))
  unfolding line_answer full
  line_told p0 p1 = go (line_opens p0 p1) (leb caps.splines w.state.splines) (leb→le caps.splines w.state.splines)
    where
      go : (o f : Bool) → (T f → caps.splines ≤ w.state.splines) → (cond (o && f) SplinesFull Done ≡ Done) ⊎ (T o × (caps.splines ≤ w.state.splines) × (cond (o && f) SplinesFull Done ≡ SplinesFull))
      go true true h = inr (tt, h tt, refl)
      go true false h = inl refl
      go false f h = inl refl

  Cause : WeightedPoint → WeightedPoint → WeightedPoint → Answer → Type 0
  Cause p0 p1 p2 a = (a ≡ Done) ⊎ Refuses setting caps w (Quad p0 p1 p2) a

  straight_told : (p0 p1 p2 : WeightedPoint) → Straight p0 p1 p2 → Cause p0 p1 p2 (line_answer p0 p2)
  unfolding Cause
  straight_told p0 p1 p2 C = elim (line_told p0 p2) [ inl e ↦ inl e | inr z ↦ inr (subst (Refuses setting caps w (Quad p0 p1 p2)) (sym z.2) (straight_full p0 p1 p2 C z.0 z.1)) ]

  curve_told : (p0 p1 p2 : WeightedPoint) → Curved p0 p1 p2 → (sum_with setting w p0 p1 p2 (leg_of p0 p1) ≡ nan → ⊥) → Cause p0 p1 p2 (curve_answer p0 p1 p2 (leg_of p0 p1))
  unfolding curve_answer full Cause
  curve_told p0 p1 p2 C n =
      go (leb caps.quads w.state.quads) (curve_opens p0 (leg_of p0 p1)) (leb caps.splines w.state.splines) (sum_fits p0 p1 p2 (leg_of p0 p1))
      (leb→le caps.quads w.state.quads) (nleb→lt caps.quads w.state.quads) (λ t. t) (λ t. t) (leb→le caps.splines w.state.splines)
      (nleb→lt caps.splines w.state.splines) (tells_under (sum_with setting w p0 p1 p2 (leg_of p0 p1)) limit32 limit_number).0
    where
      over : (sum_with setting w p0 p1 p2 (leg_of p0 p1) ≡ nan) ⊎ T (lt limit32 (sum_with setting w p0 p1 p2 (leg_of p0 p1))) → T (lt limit32 (sum_with setting w p0 p1 p2 (leg_of p0 p1)))
      over (inl e) = absurd (n e)
      over (inr t) = t

      go : (q o f l : Bool) → (T q → caps.quads ≤ w.state.quads) → (T (not q) → w.state.quads < caps.quads)
          → (T o → T (curve_opens p0 (leg_of p0 p1))) → (T (curve_opens p0 (leg_of p0 p1)) → T o) → (T f → caps.splines ≤ w.state.splines)
          → (T (not f) → w.state.splines < caps.splines)
          → (l ≡ false → (sum_with setting w p0 p1 p2 (leg_of p0 p1) ≡ nan) ⊎ T (lt limit32 (sum_with setting w p0 p1 p2 (leg_of p0 p1))))
          → (cond q QuadsFull (cond (o && f) SplinesFull (cond (not l) SumTooLarge Done)) ≡ Done)
          ⊎ Refuses setting caps w (Quad p0 p1 p2) (cond q QuadsFull (cond (o && f) SplinesFull (cond (not l) SumTooLarge Done)))
      go true o f l a b c k d e h = inr (quads_full p0 p1 p2 C (a tt))
      go false true true l a b c k d e h = inr (curve_full p0 p1 p2 C (b tt) (c tt) (d tt))
      go false true false true a b c k d e h = inl refl
      go false true false false a b c k d e h = inr (sum_over p0 p1 p2 C (b tt) (λ t. e tt) (over (h refl)))
      go false false f true a b c k d e h = inl refl
      go false false f false a b c k d e h = inr (sum_over p0 p1 p2 C (b tt) (λ t. absurd (k t)) (over (h refl)))

  module _ (S : Sound caps w) (D : w.state.answer ≡ Done) where
    sum_is_number : (p0 p1 p2 : WeightedPoint) (a : Angle) → sum_with setting w p0 p1 p2 a ≡ nan → ⊥
    sum_is_number p0 p1 p2 a =
        let z = sum_before_lem caps w S (curve_opens p0 a) (λ e. (joins setting kind.Round w.state (last_of w) a (applied_of p0) e).0) in
        sum_number (sum_before (curve_opens p0 a) (last_of w)) (curve_of (applied_of p0) (applied_of p1) (applied_of p2)).curvature z.0 z.1
        (curve_bent (applied_of p0) (applied_of p1) (applied_of p2))

    quad_told : (p0 p1 p2 : WeightedPoint) (a b : Angle) → leg_of p0 p1 ≡ a → leg_of p1 p2 ≡ b → Cause p0 p1 p2 (quad_answer p0 p1 p2 a b)
    unfolding quad_answer Cause
    quad_told p0 p1 p2 None None e f = inl D
    quad_told p0 p1 p2 None (Some b) e f = straight_told p0 p1 p2 (first_missing b e f)
    quad_told p0 p1 p2 (Some a) None e f = straight_told p0 p1 p2 (second_missing a e f)
    quad_told p0 p1 p2 (Some a) (Some b) e f =
        subst (λ (x : Angle). Cause p0 p1 p2 (curve_answer p0 p1 p2 x)) e
        (curve_told p0 p1 p2 (record { first = a; second = b; first_leg = e; second_leg = f }) (sum_is_number p0 p1 p2 (leg_of p0 p1)))

    told : (p : Primitive) → (push_answer p ≡ Done) ⊎ Refuses setting caps w p (push_answer p)
    unfolding push_answer Cause
    told Contour = inl D
    told (Line p0 p1) = elim (line_told p0 p1) [ inl e ↦ inl e | inr z ↦ inr (subst (Refuses setting caps w (Line p0 p1)) (sym z.2) (line_full p0 p1 z.0 z.1)) ]
    told (Quad p0 p1 p2) = quad_told p0 p1 p2 (leg_of p0 p1) (leg_of p1 p2) refl refl
    told Excess = inr too_many

    pub push_told : (p : Primitive) → ((push_of setting caps p w).state.answer ≡ Done) ⊎ Refuses setting caps w p (push_of setting caps p w).state.answer
    push_told p = subst (λ (a : Answer). (a ≡ Done) ⊎ Refuses setting caps w p a) (sym (push_answer_lem p)) (told p)

-- no cause gives Done
pub refuses_not_done : {setting : Setting} {caps : Capacities} {w : World} {p : Primitive} {a : Answer} → Refuses setting caps w p a → is_done a ≡ false
refuses_not_done too_many = refl
refuses_not_done (quads_full p0 p1 p2 C h) = refl
refuses_not_done (line_full p0 p1 o f) = refl
refuses_not_done (straight_full p0 p1 p2 C o f) = refl
refuses_not_done (curve_full p0 p1 p2 C h o f) = refl
refuses_not_done (sum_over p0 p1 p2 C h o f) = refl
