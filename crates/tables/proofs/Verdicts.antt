-- What a primitive that comes to a line or a curve needs in order not to be refused, and that with it the edit is stored. Assumes nothing.
use Prim.Native.Nat.{◌+◌, ◌<◌}
use mathlib.Core.Path.{◌≡◌, refl, sym, ap, ◌∙◌}
use mathlib.Core.Bool.{Bool, true, false, not, ◌&&◌, cond, true≢false}
use lib.Dec.{T, leb}
use lib.Ieee.{Float, le}
use lib.Ieee.Bits.{is_true}
use borrow.Author.Tests.{leb-false, lt-leb}
use Rattle.leaves.specs.Single.{◌⊕◌}
use Rattle.leaves.specs.Whole.{limit32}
use Rattle.answer.specs.Answer.{Answer}
use Rattle.answer.specs.Answer.{QuadsFull, SplinesFull, SumTooLarge}
use Rattle.answer.specs.Number.{is_done}
use Rattle.point.specs.declared.Point.{Point}
use Rattle.point.specs.declared.WeightedPoint.{WeightedPoint}
use Rattle.point.specs.Angle.{Angle}
use Rattle.point.specs.declared.Setting.{Setting}
use Rattle.point.specs.Point.{applied_of, minus_of}
use Rattle.point.specs.Angle.{angle_of}
use Rattle.primitives.specs.declared.Capacities.{Capacities}
use Rattle.primitives.specs.declared.Kind.TheVariants.{Straight, Round}
use Rattle.primitives.specs.declared.Curve.{Curve}
use Rattle.primitives.specs.Edits.{SplineEdit, Edit, Keep, Extend, Bend}
use Rattle.primitives.specs.Quads.{curve_of}
use Rattle.primitives.specs.Splines.{opens_of, line_angle_of, sum_before}
use Rattle.primitives.specs.Plan.{refused_of, plan_line_of, quad_row_of, plan_curve_of}
use Rattle.tables.specs.Run.{World, apply_of}
use Rattle.tables.proofs.Pushes.{last_of, spline_edit}

-- room for the spline that is opened, if one is
abbrev pub Opening : Capacities → World → Bool → Type 0
Opening caps w opens = opens ≡ true → w.state.splines < caps.splines

opening_is : (caps : Capacities) (w : World) (opens : Bool) → opens && leb caps.splines w.state.splines ≡ false → Opening caps w opens
opening_is caps w true h e = leb-false caps.splines w.state.splines h
opening_is caps w false h e = absurd (true≢false (sym e))

opening_passes : (caps : Capacities) (w : World) (opens : Bool) → Opening caps w opens → opens && leb caps.splines w.state.splines ≡ false
opening_passes caps w true h = lt-leb caps.splines w.state.splines (h refl)
opening_passes caps w false h = refl

module _ (setting : Setting) (caps : Capacities) (w : World) where
  -- a test that was passed, since nothing was refused
  passes : (t : Bool) (a : Answer) (x : Edit) → is_done a ≡ false
      → is_done (apply_of (cond t (Keep (refused_of w.state a)) x) w.quads w.splines).state.answer ≡ true → t ≡ false
  unfolding apply_of refused_of
  passes true a x n d = absurd (true≢false (sym d ∙ n))
  passes false a x n d = refl

  -- ---- a line
  module _ (start end : Point) where
    abbrev pub line_opens : Bool
    line_opens = opens_of setting Straight w.state (last_of w) (angle_of (minus_of end start)) start

    abbrev pub line_edit : Bool → SplineEdit
    line_edit opens =
        spline_edit w opens start end (sum_before opens (last_of w)) w.state.quads (line_angle_of setting w.state.last (angle_of (minus_of end start)))

    pub line_needs : is_done (apply_of (plan_line_of setting caps w.state (last_of w) start end) w.quads w.splines).state.answer ≡ true
        → Opening caps w line_opens
    unfolding plan_line_of
    line_needs d = opening_is caps w line_opens (passes _ SplinesFull (Extend (line_edit line_opens)) refl d)

    pub line_stored : Opening caps w line_opens → plan_line_of setting caps w.state (last_of w) start end ≡ Extend (line_edit line_opens)
    unfolding plan_line_of
    line_stored h =
        ap (λ (b : Bool). cond b (Keep (refused_of w.state SplinesFull)) (Extend (line_edit line_opens))) (opening_passes caps w line_opens h)

  -- ---- a curve
  module _ (p0 p1 p2 : WeightedPoint) (a b : Angle) where
    abbrev pub curve_opens : Bool
    curve_opens = opens_of setting Round w.state (last_of w) a (applied_of p0)

    abbrev pub own_curve : Curve
    own_curve = curve_of (applied_of p0) (applied_of p1) (applied_of p2)

    abbrev pub curve_sum : Bool → Float
    curve_sum opens = sum_before opens (last_of w) ⊕ own_curve.curvature

    abbrev pub curve_edit : Bool → SplineEdit
    curve_edit opens = spline_edit w opens (applied_of p0) (applied_of p2) (curve_sum opens) (w.state.quads + 1) b

    abbrev pub bend_edit : Bool → Edit
    bend_edit opens = Bend (curve_edit opens) w.state.quads (quad_row_of p0 p1 p2 own_curve (curve_edit opens))

    pub record CurveNeeds : Type 0 where
      pub quads : w.state.quads < caps.quads
      pub opening : Opening caps w curve_opens
      pub fits : T (le (curve_sum curve_opens) limit32)

    -- the plan, by its three tests
    abbrev tested : Bool → Bool → Bool → Edit
    tested full none over =
        cond full (Keep (refused_of w.state QuadsFull))
        (cond none (Keep (refused_of w.state SplinesFull)) (cond over (Keep (refused_of w.state SumTooLarge)) (bend_edit curve_opens)))

    pub curve_needs : is_done (apply_of (plan_curve_of setting caps w.state (last_of w) p0 p1 p2 a b) w.quads w.splines).state.answer ≡ true
        → CurveNeeds
    unfolding plan_curve_of
    curve_needs d =
        let full = leb caps.quads w.state.quads in
        let none = curve_opens && leb caps.splines w.state.splines in
        let over = not (le (curve_sum curve_opens) limit32) in
        let answer : (Edit → Bool) = λ e. is_done (apply_of e w.quads w.splines).state.answer in
        let t₁ = passes full QuadsFull (tested false none over) refl d in
        let d₂ = ap (λ (t : Bool). answer (tested t none over)) (sym t₁) ∙ d in
        let t₂ = passes none SplinesFull (tested false false over) refl d₂ in
        let d₃ = ap (λ (t : Bool). answer (tested false t over)) (sym t₂) ∙ d₂ in
        let t₃ = passes over SumTooLarge (bend_edit curve_opens) refl d₃ in
        record {
          quads = leb-false caps.quads w.state.quads t₁;
          opening = opening_is caps w curve_opens t₂;
          fits = not_over (le (curve_sum curve_opens) limit32) t₃;
        }
      where
        not_over : (b : Bool) → not b ≡ false → T b
        not_over true h = tt
        not_over false h = absurd (true≢false h)

    pub curve_stored : CurveNeeds → plan_curve_of setting caps w.state (last_of w) p0 p1 p2 a b ≡ bend_edit curve_opens
    unfolding plan_curve_of
    curve_stored n =
        ap (λ (t : Bool). tested t (curve_opens && leb caps.splines w.state.splines) (not (le (curve_sum curve_opens) limit32)))
        (lt-leb caps.quads w.state.quads n.quads)
        ∙ ap (λ (t : Bool). tested false t (not (le (curve_sum curve_opens) limit32))) (opening_passes caps w curve_opens n.opening)
        ∙ ap (λ (t : Bool). tested false false (not t)) (is_true (le (curve_sum curve_opens) limit32) n.fits)
