-- What a primitive does that is drawn, straight or round: the spline's row that it writes, by the test whether it opens a spline; and one that is dropped, which
-- does nothing. Assumes nothing.
use Prim.Native.Nat.{ℕ, suc, ◌+◌, ◌-◌, ◌<◌}
use mathlib.Core.Path.{◌≡◌, refl, sym, ap, ◌∙◌, subst}
use mathlib.Core.Bool.{Bool, true, false}
use native.Mathlib.Nat.{le_of_eq, lt_of_lt_of_le, lt_of_le_of_lt}
use native.Mathlib.Numerals.{add-one}
use native.Mathlib.Omega.{arith}
use lib.Ieee.{Float}
use Rattle.std.specs.Prelude.{Some}
use Rattle.answer.specs.Number.{is_done}
use Rattle.point.specs.declared.Point.{Point}
use Rattle.point.specs.declared.WeightedPoint.{WeightedPoint}
use Rattle.point.specs.Angle.{Angle}
use Rattle.point.specs.declared.Setting.{Setting}
use Rattle.point.specs.Point.{applied_of, minus_of}
use Rattle.point.specs.Angle.{angle_of}
use Rattle.primitives.specs.declared.Capacities.{Capacities}
use Rattle.primitives.specs.declared.Primitive.{Primitive}
use Rattle.primitives.specs.declared.Kind.{Kind}
use Rattle.primitives.specs.declared.Kind.TheVariants.{Straight, Round}
use Rattle.primitives.specs.declared.Shape.{Shape}
use Rattle.primitives.specs.declared.Shape.TheVariants as shape
use Rattle.primitives.specs.Edits.{SplineEdit, Edit}
use Rattle.primitives.specs.Splines.{opens_of, line_angle_of, sum_before, spline_edit_of}
use Rattle.primitives.specs.Plan.{quad_row_of}
use Rattle.primitives.specs.Shapes.{shape_of}
use Rattle.primitives.proofs.Shapes.{plan_shape_of, planned}
use Rattle.tables.specs.Tables.{QuadTable, put_quad, quad_row_at, put_spline, spline_at}
use Rattle.tables.specs.Run.{World, world, apply_of, push_of}
use Rattle.tables.proofs.Pushes.{last_of, spline_edit}
use Rattle.tables.proofs.Sound.{Sound, pred_lt}
use Rattle.tables.proofs.RowLaws.{row_put}
use Rattle.tables.proofs.Spans.{owner_at, same_owner}
use Rattle.tables.proofs.Owners.{not_both}
use Rattle.tables.proofs.Verdicts.{line_opens, line_needs, line_stored, curve_opens, own_curve, curve_sum, curve_edit, curve_needs, curve_stored}
use Rattle.tables.proofs.Ends.{Wide, end_new}

-- the edit of a primitive of this kind from start to end: `first` is the angle that decides, `after` the last angle then
abbrev pub drawn_edit : Setting → World → Kind → Point → Point → Angle → Angle → Float → ℕ → SplineEdit
drawn_edit setting w kind start end first after sum quads =
    spline_edit w (opens_of setting kind w.state (last_of w) first start) start end sum quads after

-- a straight one leaves the spline's sum as it is, a round one stores a quad of the spline
pub record Drew (setting : Setting) (kind : Kind) (start end : Point) (first after : Angle) (w w' : World) : Type 0 where
  pub sum : Float
  pub quads : ℕ
  pub table : QuadTable
  pub is : w' ≡ world (drawn_edit setting w kind start end first after sum quads).next table
      (put_spline w.splines (drawn_edit setting w kind start end first after sum quads))
  pub flat : kind ≡ Straight → sum ≡ sum_before (opens_of setting kind w.state (last_of w) first start) (last_of w)
  pub curved : kind ≡ Round → (quads ≡ suc w.state.quads)
      × (owner_at (quad_row_at table) w.state.quads ≡ (drawn_edit setting w kind start end first after sum quads).at)

module _ (setting : Setting) (caps : Capacities) (w : World) where
  -- ---- a primitive by what it comes to
  comes_to : (p : Primitive) (x : Shape) → shape_of p ≡ x
      → push_of setting caps p w ≡ apply_of (plan_shape_of setting caps w.state (last_of w) x) w.quads w.splines
  unfolding push_of
  comes_to p x e =
      ap (λ (y : Edit). apply_of y w.quads w.splines)
      (planned setting caps w.state (last_of w) p ∙ ap (plan_shape_of setting caps w.state (last_of w)) e)

  -- "A quad with both legs' angles missing is dropped."
  pub dropped : (p : Primitive) → shape_of p ≡ shape.Nothing → push_of setting caps p w ≡ w
  unfolding plan_shape_of apply_of
  dropped p e = comes_to p shape.Nothing e

  pub drew_straight : (p : Primitive) (start end : Point) → shape_of p ≡ shape.Straight start end → is_done (push_of setting caps p w).state.answer ≡ true
      → Drew setting Straight start end (angle_of (minus_of end start)) (line_angle_of setting w.state.last (angle_of (minus_of end start))) w
      (push_of setting caps p w)
  unfolding plan_shape_of apply_of
  drew_straight p start end e d =
      let c = comes_to p (shape.Straight start end) e in
      let n = line_needs setting caps w start end (ap (λ (v : World). is_done v.state.answer) (sym c) ∙ d) in
      record {
        sum = sum_before (line_opens setting caps w start end) (last_of w);
        quads = w.state.quads;
        table = w.quads;
        is = c ∙ ap (λ (y : Edit). apply_of y w.quads w.splines) (line_stored setting caps w start end n);
        flat = λ z. refl;
        curved = λ z. absurd (not_both refl z);
      }

  pub drew_round : (p : Primitive) (p0 p1 p2 : WeightedPoint) (in-angle out-angle : Float) → shape_of p ≡ shape.Curved p0 p1 p2 in-angle out-angle
      → is_done (push_of setting caps p w).state.answer ≡ true → Sound caps w
      → Drew setting Round (applied_of p0) (applied_of p2) (Some in-angle) (Some out-angle) w (push_of setting caps p w)
  unfolding plan_shape_of apply_of quad_row_of
  drew_round p p0 p1 p2 in-angle out-angle e d S =
      let a : Angle = Some in-angle in
      let b : Angle = Some out-angle in
      let c = comes_to p (shape.Curved p0 p1 p2 in-angle out-angle) e in
      let n = curve_needs setting caps w p0 p1 p2 a b (ap (λ (v : World). is_done v.state.answer) (sym c) ∙ d) in
      let opens = curve_opens setting caps w p0 p1 p2 a b in
      let row = quad_row_of p0 p1 p2 (own_curve setting caps w p0 p1 p2 a b) (curve_edit setting caps w p0 p1 p2 a b opens) in
      record {
        sum = curve_sum setting caps w p0 p1 p2 a b opens;
        quads = w.state.quads + 1;
        table = put_quad w.quads w.state.quads row;
        is = c ∙ ap (λ (y : Edit). apply_of y w.quads w.splines) (curve_stored setting caps w p0 p1 p2 a b n);
        flat = λ z. absurd (not_both z refl);
        curved = λ z. (
          add-one w.state.quads,
          same_owner (row_put w.quads w.state.quads row (lt_of_lt_of_le n.quads S.room.rows)),
        );
      }

-- ---- what any edit sets
module _ (w : World) (start end : Point) (sum : Float) (quads : ℕ) (after : Angle) where
  abbrev edit : Bool → SplineEdit
  edit o = spline_edit w o start end sum quads after

  -- the spline that is written is the last one then
  pub at_last : (o : Bool) → (edit o).at ≡ (edit o).next.splines - 1
  unfolding spline_edit_of
  at_last true = top w.state.splines
    where
      top : (n : ℕ) → n ≡ n + 1 - 1
      top n = omega arith
  at_last false = refl

  pub edit_sets : (o : Bool)
      → ((edit o).next.mark ≡ false) × ((edit o).next.last ≡ after) × ((edit o).row.p2 ≡ end) × ((edit o).row.curvature ≡ sum) × ((edit o).next.quads ≡ quads)
  unfolding spline_edit_of
  edit_sets true = (refl, refl, refl, refl, refl)
  edit_sets false = (refl, refl, refl, refl, refl)

-- ---- after a primitive that is drawn up to p: no mark waits, and the last spline ends in p
pub record After (after : Angle) (p : Point) (w : World) : Type 0 where
  pub mark : w.state.mark ≡ false
  pub last : w.state.last ≡ after
  pub ends : (spline_at w.splines (w.state.splines - 1)).p2 ≡ p

module _ {setting : Setting} {caps : Capacities} {kind : Kind} {start end : Point} {first after : Angle} {w w' : World}
    (D : Drew setting kind start end first after w w') (S : Sound caps w') where
  abbrev opens : Bool
  opens = opens_of setting kind w.state (last_of w) first start

  abbrev made : SplineEdit
  made = spline_edit w opens start end D.sum D.quads after

  abbrev sets : (made.next.mark ≡ false) × (made.next.last ≡ after) × (made.row.p2 ≡ end) × (made.row.curvature ≡ D.sum) × (made.next.quads ≡ D.quads)
  sets = edit_sets w start end D.sum D.quads after opens

  abbrev at_top : made.at ≡ made.next.splines - 1
  at_top = at_last w start end D.sum D.quads after opens

  made_sound : Sound caps (world made.next D.table (put_spline w.splines made))
  made_sound = subst (Sound caps) D.is S

  made_room : made.at < caps.splines
  made_room = lt_of_le_of_lt (le_of_eq at_top) (lt_of_lt_of_le (pred_lt made.next.splines (made_sound.waits sets.0)) made_sound.room.splines)

  pub after_drawn : Wide caps.splines w.splines → After after end w'
  after_drawn W =
      subst (After after end) (sym D.is)
      (record {
        mark = sets.0;
        last = sets.1;
        ends =
            subst (λ (i : ℕ). (spline_at (put_spline w.splines made) i).p2 ≡ made.row.p2) at_top
            (end_new w.splines made (lt_of_lt_of_le made_room W.p2x) (lt_of_lt_of_le made_room W.p2y))
            ∙ sets.2;
      })
