-- What a primitive that joins the last spline knows of it, and what makes one open a spline; on the screen its kind does not. Assumes nothing.
use mathlib.Core.Path.{◌≡◌, refl, sym}
use mathlib.Core.Bool.{Bool, true, false, ◌||◌, true≢false}
use mathlib.Mathlib.Data.Bool.Basic.{or-eq-false-eq-eq-false-and-eq-false as or-false}
use Rattle.point.specs.declared.Point.{Point}
use Rattle.point.specs.Angle.{Angle}
use Rattle.point.specs.declared.Setting.{Setting}
use Rattle.point.specs.declared.Setting.TheVariants.{Screen, Knife}
use Rattle.point.specs.Angle.{changed_of}
use Rattle.primitives.specs.Edits.{State}
use Rattle.primitives.specs.declared.Kind.{Kind}
use Rattle.primitives.specs.declared.Kind.TheVariants.{Straight, Round}
use Rattle.primitives.specs.declared.SplineRow.{SplineRow}
use Rattle.primitives.specs.Splines.{far_of, spline_kind_of, apart_of, opens_of}

-- for the knife kinds that need not be kept apart are the same
pub same_kind : (a b : Kind) → apart_of Knife a b ≡ false → b ≡ a
unfolding apart_of
same_kind Straight Straight h = refl
same_kind Straight Round h = absurd (true≢false h)
same_kind Round Straight h = absurd (true≢false h)
same_kind Round Round h = refl

pub screen_opens : (kind : Kind) (st : State) (last : SplineRow) (angle : Angle) (start : Point)
    → opens_of Screen kind st last angle start ≡ st.mark || changed_of Screen st.last angle || far_of start last
unfolding opens_of apart_of
screen_opens kind st last angle start = go (st.mark || changed_of Screen st.last angle || far_of start last)
  where
    go : (x : Bool) → x || false ≡ x
    go true = refl
    go false = refl

module _ (setting : Setting) (kind : Kind) (st : State) (last : SplineRow) (angle : Angle) (start : Point) where
  -- no mark waits, and the last spline is of the same kind as far as the setting asks for it
  pub joins : opens_of setting kind st last angle start ≡ false → (st.mark ≡ false) × (apart_of setting kind (spline_kind_of last) ≡ false)
  unfolding opens_of
  joins h =
      let z = (or-false (st.mark || changed_of setting st.last angle || far_of start last) (apart_of setting kind (spline_kind_of last))).0 h in
      let y = (or-false (st.mark || changed_of setting st.last angle) (far_of start last)).0 z.0 in
      (((or-false st.mark (changed_of setting st.last angle)).0 y.0).0, z.1)

  pub opens_changed : changed_of setting st.last angle ≡ true → opens_of setting kind st last angle start ≡ true
  unfolding opens_of
  opens_changed h = go st.mark (changed_of setting st.last angle) (far_of start last) (apart_of setting kind (spline_kind_of last)) h
    where
      go : (m c f a : Bool) → c ≡ true → m || c || f || a ≡ true
      go true c f a h = refl
      go false true f a h = refl
      go false false f a h = absurd (true≢false (sym h))

  pub opens_apart : apart_of setting kind (spline_kind_of last) ≡ true → opens_of setting kind st last angle start ≡ true
  unfolding opens_of
  opens_apart h = go (st.mark || changed_of setting st.last angle || far_of start last) (apart_of setting kind (spline_kind_of last)) h
    where
      go : (x a : Bool) → a ≡ true → x || a ≡ true
      go true a h = refl
      go false a h = h
