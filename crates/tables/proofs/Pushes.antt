-- What one primitive does to the tables, in the few forms that laws about a run distinguish: nothing but the state changes, or a spline is opened or joined,
-- with or without a quad whose own curvature is above 1. Assumes nothing.
use mathlib.Core.Path.{◌≡◌, refl, sym, ◌∙◌, subst}
use mathlib.Core.Logic.{◌≢◌}
use mathlib.Core.Bool.{Bool, true, false, not, ◌&&◌, ◌||◌, cond, true≢false}
use Prim.Native.Nat.{ℕ, ◌+◌, ◌*◌, ◌≤◌, ◌<◌}
use native.Mathlib.Nat.{mul-one, one-mul, zero-lt-suc, le_trans, le_of_lt}
use native.Mathlib.Omega.{arith}
use lib.Dec.{T, lit<, leb, ltb, eqb, nltb→le, lt→ltb, T_not}
use lib.Ieee.{Float, nan, inf, fin, binary32, up, down, le, fits, of_bits}
use lib.Ieee.Fits.{mul-fits, down_pos, eq→eqb}
use lib.Ieee.Bits.{of_bits-fits}
use lib.Ieee.Positive.{num, den, positive, first_pos}
use lib.Ieee.Scale.{finite}
use mir.Facts.{or_no}
use borrow.Author.Tests.{leb-false}
use Rattle.leaves.specs.Single.{◌⊕◌, one32, two32}
use Rattle.leaves.specs.Whole.{limit32}
use Rattle.point.specs.declared.Point.{Point}
use Rattle.primitives.specs.declared.Curve.{Curve}
use Rattle.primitives.specs.Quads.{own_curvature_of, straight_of, straight_curve, curve_of}
use Rattle.answer.specs.Answer.{Answer}
use Rattle.answer.specs.Answer.{TooManyPieces, QuadsFull, SplinesFull, SumTooLarge}
use Rattle.point.specs.declared.WeightedPoint.{WeightedPoint}
use Rattle.point.specs.Angle.{Angle}
use Rattle.std.specs.Prelude.{None, Some}
use Rattle.point.specs.Point.{applied_of, minus_of}
use Rattle.point.specs.Angle.{angle_of}
use Rattle.point.specs.declared.Setting.{Setting}
use Rattle.primitives.specs.declared.Capacities.{Capacities}
use Rattle.primitives.specs.declared.Primitive.{Primitive}
use Rattle.primitives.specs.declared.Primitive.TheVariants.{Contour, Line, Quad, Excess}
use Rattle.primitives.specs.declared.Kind.{Kind}
use Rattle.primitives.specs.declared.Kind.TheVariants.{Straight, Round}
use Rattle.primitives.specs.declared.QuadRow.{QuadRow}
use Rattle.primitives.specs.declared.SplineRow.{SplineRow}
use Rattle.primitives.specs.Edits.{SplineEdit, Keep, Extend, Bend}
use Rattle.primitives.specs.Splines.{spline_kind_of, apart_of, opens_of, line_angle_of, sum_before, spline_edit_of}
use Rattle.primitives.specs.Plan.{refused_of, marked_of, plan_line_of, quad_row_of, plan_curve_of, plan_legs_of, plan_quad_of, plan_of}
use Rattle.primitives.proofs.Opening.{joins}
use Rattle.tables.specs.Tables.{quad_start_of, quad_end_of, last_spline_of}
use Rattle.tables.specs.Run.{World, world, apply_of, push_of}
use Rattle.tables.proofs.RunningSums.{Bent}

-- ---- "A curvature not finite or at most 1.0 becomes 2.0": so a quad's own is above 1

two_bent : Bent two32
unfolding of_bits
two_bent = record { held = of_bits-fits binary32 0x4000_0000; real = tt; over = lit< tt }

not_right : (a b : Bool) → T (not (a || (b && true))) → T (not b)
not_right true b h = absurd h
not_right false true h = h
not_right false false h = tt

strictly : (a d : ℕ) → T (not (ltb (a * 1) (1 * d) || (eqb (a * 1) (1 * d) && true))) → d < a
strictly a d h =
    less a d (a * 1) (1 * d) (mul-one a) (one-mul d) (nltb→le (a * 1) (1 * d) (or_no (ltb (a * 1) (1 * d)) (eqb (a * 1) (1 * d) && true) h).0)
    (λ (e : a * 1 ≡ 1 * d). T_not (eqb (a * 1) (1 * d)) (not_right (ltb (a * 1) (1 * d)) (eqb (a * 1) (1 * d)) h) (eq→eqb e))
  where
    less : (a d x y : ℕ) → x ≡ a → y ≡ d → y ≤ x → x ≢ y → d < a
    less a d x y e f h n = omega arith

above_one : (c : Float) → T (finite c) → T (not (le c one32)) → T (positive c) × (den c < num c)
unfolding le of_bits
above_one nan f h = absurd f
above_one (inf s) f h = absurd f
above_one (fin true m e) f h =
    absurd
    (T_not (ltb 0 (m * up e * 1 + 1 * down e)) (or_no (ltb 0 (m * up e * 1 + 1 * down e)) _ h).0
    (lt→ltb 0 (m * up e * 1 + 1 * down e) (more (m * up e * 1) (down e) (1 * down e) (down_pos e) (one-mul (down e)))))
  where
    more : (a d x : ℕ) → 0 < d → x ≡ d → 0 < a + x
    more a d x h e = omega arith
above_one (fin false m e) f h =
    let o = strictly (m * up e) (down e) h in
    (lt→ltb 0 m (first_pos m (up e) (le_trans (zero-lt-suc 0) (le_trans (down_pos e) (le_of_lt o)))), o)

-- not straight: finite, and not at most 1
not_straight : (c : Float) → straight_of c ≡ false → T (finite c) × T (not (le c one32))
unfolding straight_of
not_straight c h = go (finite c) (le c one32) h
  where
    go : (f l : Bool) → not f || l ≡ false → T f × T (not l)
    go true true h = absurd (true≢false h)
    go true false h = (tt, tt)
    go false l h = absurd (true≢false h)

picked : (c : Float) → T (fits binary32 c) → (b : Bool) → straight_of c ≡ b → (k : Curve) → k.curvature ≡ c → Bent (cond b straight_curve k).curvature
picked c f true h k e = two_bent
picked c f false h k e =
    let z = not_straight c h in
    let o = above_one c z.0 z.1 in
    subst Bent (sym e) (record { held = f; real = o.0; over = o.1 })

pub curve_bent : (p0 p1 p2 : Point) → Bent (curve_of p0 p1 p2).curvature
unfolding curve_of own_curvature_of
curve_bent p0 p1 p2 = picked _ (mul-fits binary32 _ _) _ refl _ refl

-- ---- the forms of a push

abbrev pub last_of : World → SplineRow
last_of w = last_spline_of w.splines w.state.splines

-- a Move's primitive
abbrev pub is_mark : Primitive → Bool
is_mark Contour = true
is_mark (Line p0 p1) = false
is_mark (Quad p0 p1 p2) = false
is_mark Excess = false

-- a spline is joined only where no mark waits, by its own kind as far as the setting asks for it, and opened only where there is room
pub record Allowed (setting : Setting) (kind : Kind) (caps : Capacities) (w : World) (opens : Bool) : Type 0 where
  pub joins : opens ≡ false → w.state.mark ≡ false
  pub alike : opens ≡ false → apart_of setting kind (spline_kind_of (last_of w)) ≡ false
  pub room : opens ≡ true → w.state.splines < caps.splines

abbrev pub spline_edit : World → Bool → Point → Point → Float → ℕ → Angle → SplineEdit
spline_edit w opens start end sum quads angle = spline_edit_of opens w.state (last_of w) start end sum quads angle

-- a row is that of a quad from start to end, which brings the sum of this spline to this
pub record RowOf (row : QuadRow) (start end : Point) (sum : Float) (spline : ℕ) : Type 0 where
  pub begins : quad_start_of row ≡ start
  pub ends : quad_end_of row ≡ end
  pub total : row.partial_curvature ≡ sum
  pub owner : row.spline ≡ spline

-- the second argument says whether the primitive is a Move's
pub data Pushed (setting : Setting) (caps : Capacities) (w : World) : Bool → World → Type 0 where
  kept : (answer : Answer) → Pushed setting caps w false (world (refused_of w.state answer) w.quads w.splines)
  marked : Pushed setting caps w true (world (marked_of setting w.state) w.quads w.splines)
  lined : (opens : Bool) (start end : Point) (angle : Angle) → Allowed setting Straight caps w opens
      → Pushed setting caps w false
      (apply_of (Extend (spline_edit w opens start end (sum_before opens (last_of w)) w.state.quads angle)) w.quads w.splines)
  bent : (opens : Bool) (start end : Point) (angle : Angle) (c : Float) (row : QuadRow) → Allowed setting Round caps w opens → Bent c
      → w.state.quads < caps.quads → T (le (sum_before opens (last_of w) ⊕ c) limit32)
      → RowOf row start end (sum_before opens (last_of w) ⊕ c)
      (spline_edit w opens start end (sum_before opens (last_of w) ⊕ c) (w.state.quads + 1) angle).at
      → Pushed setting caps w false
      (apply_of (Bend (spline_edit w opens start end (sum_before opens (last_of w) ⊕ c) (w.state.quads + 1) angle) w.state.quads row) w.quads
      w.splines)

-- ---- each push has one of them

allowed : (setting : Setting) (kind : Kind) (caps : Capacities) (w : World) (angle : Angle) (start : Point) (opens full : Bool)
    → opens_of setting kind w.state (last_of w) angle start ≡ opens → leb caps.splines w.state.splines ≡ full → opens && full ≡ false
    → Allowed setting kind caps w opens
allowed setting kind caps w angle start true full e f h =
    record {
      joins = λ k. absurd (true≢false k);
      alike = λ k. absurd (true≢false k);
      room = λ k. leb-false caps.splines w.state.splines (f ∙ h);
    }
allowed setting kind caps w angle start false full e f h =
    let j = joins setting kind w.state (last_of w) angle start e in
    record { joins = λ k. j.0; alike = λ k. j.1; room = λ k. absurd (true≢false (sym k)) }

module _ (setting : Setting) (caps : Capacities) (w : World) where
  line_pushed : (start end : Point) → Pushed setting caps w false (apply_of (plan_line_of setting caps w.state (last_of w) start end) w.quads w.splines)
  unfolding plan_line_of apply_of
  line_pushed start end = go (opens_of setting Straight w.state (last_of w) angle start) (leb caps.splines w.state.splines) refl refl
    where
      angle : Angle
      angle = angle_of (minus_of end start)

      go : (opens full : Bool) → opens_of setting Straight w.state (last_of w) angle start ≡ opens → leb caps.splines w.state.splines ≡ full
          → Pushed setting caps w false
          (apply_of (cond (opens && full) (Keep (refused_of w.state SplinesFull))
          (Extend (spline_edit w opens start end (sum_before opens (last_of w)) w.state.quads (line_angle_of setting w.state.last angle)))) w.quads
          w.splines)
      go true true e f = kept SplinesFull
      go true false e f = lined true start end _ (allowed setting Straight caps w angle start true false e f refl)
      go false full e f = lined false start end _ (allowed setting Straight caps w angle start false full e f refl)

  curve_pushed : (p0 p1 p2 : WeightedPoint) (a b : Angle)
      → Pushed setting caps w false (apply_of (plan_curve_of setting caps w.state (last_of w) p0 p1 p2 a b) w.quads w.splines)
  unfolding plan_curve_of apply_of quad_row_of spline_edit_of quad_start_of quad_end_of applied_of
  curve_pushed p0 p1 p2 a b = go (opens_of setting Round w.state (last_of w) a start) (leb caps.splines w.state.splines)
      (leb caps.quads w.state.quads) (le (sum (opens_of setting Round w.state (last_of w) a start)) limit32) refl refl refl refl
    where
      start : Point
      start = applied_of p0

      curve : Curve
      curve = curve_of start (applied_of p1) (applied_of p2)

      sum : Bool → Float
      sum opens = sum_before opens (last_of w) ⊕ curve.curvature

      edit : Bool → SplineEdit
      edit opens = spline_edit w opens start (applied_of p2) (sum opens) (w.state.quads + 1) b

      fit : (b : Bool) (x : Float) → le x limit32 ≡ b → b ≡ true → T (le x limit32)
      fit b x e f = subst T (sym (e ∙ f)) tt

      go : (opens full qfull low : Bool) → opens_of setting Round w.state (last_of w) a start ≡ opens → leb caps.splines w.state.splines ≡ full
          → leb caps.quads w.state.quads ≡ qfull → le (sum opens) limit32 ≡ low
          → Pushed setting caps w false
          (apply_of
          (cond qfull (Keep (refused_of w.state QuadsFull))
          (cond (opens && full) (Keep (refused_of w.state SplinesFull))
          (cond (not low) (Keep (refused_of w.state SumTooLarge))
          (Bend (edit opens) w.state.quads (quad_row_of p0 p1 p2 curve (edit opens))))))
          w.quads w.splines)
      go opens full true low e f g h = kept QuadsFull
      go true true false low e f g h = kept SplinesFull
      go true false false false e f g h = kept SumTooLarge
      go true false false true e f g h =
          bent true start (applied_of p2) b curve.curvature (quad_row_of p0 p1 p2 curve (edit true)) (allowed setting Round caps w a start true false e f refl)
          (curve_bent start (applied_of p1) (applied_of p2)) (leb-false caps.quads w.state.quads g)
          (fit true (sum true) h refl) (record { begins = refl; ends = refl; total = refl; owner = refl })
      go false full false false e f g h = kept SumTooLarge
      go false full false true e f g h =
          bent false start (applied_of p2) b curve.curvature (quad_row_of p0 p1 p2 curve (edit false)) (allowed setting Round caps w a start false full e f refl)
          (curve_bent start (applied_of p1) (applied_of p2)) (leb-false caps.quads w.state.quads g)
          (fit true (sum false) h refl) (record { begins = refl; ends = refl; total = refl; owner = refl })

  legs_pushed : (p0 p1 p2 : WeightedPoint) (a b : Angle)
      → Pushed setting caps w false (apply_of (plan_legs_of setting caps w.state (last_of w) p0 p1 p2 a b) w.quads w.splines)
  unfolding plan_legs_of apply_of refused_of
  legs_pushed p0 p1 p2 None None = kept w.state.answer
  legs_pushed p0 p1 p2 None (Some b) = line_pushed (applied_of p0) (applied_of p2)
  legs_pushed p0 p1 p2 (Some a) None = line_pushed (applied_of p0) (applied_of p2)
  legs_pushed p0 p1 p2 (Some a) (Some b) = curve_pushed p0 p1 p2 (Some a) (Some b)

  pub pushed : (p : Primitive) → Pushed setting caps w (is_mark p) (push_of setting caps p w)
  unfolding push_of plan_of plan_quad_of apply_of
  pushed Contour = marked
  pushed (Line p0 p1) = line_pushed (applied_of p0) (applied_of p1)
  pushed (Quad p0 p1 p2) = legs_pushed p0 p1 p2 _ _
  pushed Excess = kept TooManyPieces
