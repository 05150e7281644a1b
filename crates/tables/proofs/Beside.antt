-- A contour in the whole beside the same contour alone: their rows are the same, numbered on, and so is what decides of the state. An edit of the one and the same edit
-- of the other, numbered on, keep that, and no row before the contour changes. Assumes nothing.
use Prim.Native.Nat.{ℕ, suc, ◌+◌, ◌-◌, ◌≤◌, ◌<◌, min}
use mathlib.Core.Path.{◌≡◌, refl, sym, ap, ◌∙◌}
use mathlib.Core.Bool.{Bool, true, false, not, ◌||◌, true≢false}
use native.Mathlib.Nat.{le_of_eq}
use native.Mathlib.Numerals.{add-one}
use native.Mathlib.Omega.{arith}
use lib.Ieee.{Float}
use Rattle.answer.specs.Number.{is_done}
use Rattle.point.specs.declared.Point.{Point}
use Rattle.point.specs.Angle.{Angle}
use Rattle.point.specs.declared.Setting.{Setting}
use Rattle.point.specs.Angle.{changed_of}
use Rattle.primitives.specs.declared.Capacities.{Capacities}
use Rattle.primitives.specs.declared.Kind.{Kind}
use Rattle.primitives.specs.declared.SplineRow.{SplineRow}
use Rattle.primitives.specs.Edits.{SplineEdit}
use Rattle.primitives.specs.Splines.{far_of, spline_kind_of, apart_of, opens_of, line_angle_of, sum_before, quad_count_of, spline_edit_of}
use Rattle.primitives.proofs.Opening.{joins}
use Rattle.tables.specs.Tables.{quad_capacity_of, spline_capacity_of, quad_row_at, spline_at}
use Rattle.tables.specs.Run.{World}
use Rattle.tables.proofs.Pushes.{last_of, spline_edit}
use Rattle.tables.proofs.Sound.{last_is}
use Rattle.tables.proofs.Standing.{spline_on, quad_on}

abbrev pub done : World → Type 0
done w = is_done w.state.answer ≡ true

-- the capacities are within what the tables take, and the splines within the capacity
pub record Holds (caps : Capacities) (w : World) : Type 0 where
  pub quads : caps.quads ≤ quad_capacity_of w.quads
  pub splines : caps.splines ≤ spline_capacity_of w.splines
  pub within : w.state.splines ≤ caps.splines

-- the rows of the first bq quads and bs splines are as they were
pub record Kept (bq bs : ℕ) (w w' : World) : Type 0 where
  pub splines : (k : ℕ) → k < bs → spline_at w'.splines k ≡ spline_at w.splines k
  pub quads : (i : ℕ) → i < bq → quad_row_at w'.quads i ≡ quad_row_at w.quads i

pub kept_self : (bq bs : ℕ) (w : World) → Kept bq bs w w
kept_self bq bs w = record { splines = λ k h. refl; quads = λ i h. refl }

pub kept_then : {bq bs : ℕ} {u v w : World} → Kept bq bs u v → Kept bq bs v w → Kept bq bs u w
kept_then K L = record { splines = λ k h. L.splines k h ∙ K.splines k h; quads = λ i h. L.quads i h ∙ K.quads i h }

-- ---- a contour in the whole W, from quad bq and spline bs on, and alone in A
module _ (setting : Setting) (bq bs : ℕ) where
  pub record Beside (W A : World) : Type 0 where
    pub splines : W.state.splines ≡ bs + A.state.splines
    pub quads : W.state.quads ≡ bq + A.state.quads
    pub mark : W.state.mark ≡ A.state.mark
    -- while a mark waits the last angle may be another, but none that a line without angle would keep
    pub angle : (a : Angle) → line_angle_of setting W.state.last a ≡ line_angle_of setting A.state.last a
    pub last : A.state.mark ≡ false → W.state.last ≡ A.state.last
    pub some : A.state.mark ≡ false → 0 < A.state.splines
    pub spline_rows : (k : ℕ) → k < A.state.splines → spline_at W.splines (bs + k) ≡ spline_on bq (spline_at A.splines k)
    pub quad_rows : (i : ℕ) → i < A.state.quads → quad_row_at W.quads (bq + i) ≡ quad_on bs (quad_row_at A.quads i)

  -- ---- the same decision
  module _ (W A : World) (B : Beside W A) where
    before_on : (b w a : ℕ) → w ≡ b + a → 0 < a → w - 1 ≡ b + (a - 1)
    before_on b w a e h = omega arith

    last_on : A.state.mark ≡ false → last_of W ≡ spline_on bq (last_of A)
    last_on m =
        let h = B.some m in
        last_is W (some W.state.splines A.state.splines B.splines h)
        ∙ ap (spline_at W.splines) (before_on bs W.state.splines A.state.splines B.splines h)
        ∙ B.spline_rows (A.state.splines - 1) (less A.state.splines h)
        ∙ ap (spline_on bq) (sym (last_is A h))
      where
        some : (w a : ℕ) → w ≡ bs + a → 0 < a → 0 < w
        some w a e h = omega arith

        less : (a : ℕ) → 0 < a → a - 1 < a
        less a h = omega arith

    pub opens_same : (kind : Kind) (angle : Angle) (start : Point)
        → opens_of setting kind W.state (last_of W) angle start ≡ opens_of setting kind A.state (last_of A) angle start
    unfolding opens_of far_of spline_kind_of
    opens_same kind angle start = go A.state.mark refl
      where
        test : Bool → Angle → SplineRow → Bool
        test m l r = m || changed_of setting l angle || far_of start r || apart_of setting kind (spline_kind_of r)

        go : (m : Bool) → A.state.mark ≡ m → test W.state.mark W.state.last (last_of W) ≡ test A.state.mark A.state.last (last_of A)
        go true e =
            ap (λ (m : Bool). test m W.state.last (last_of W)) (B.mark ∙ e) ∙ sym (ap (λ (m : Bool). test m A.state.last (last_of A)) e)
        go false e =
            ap (λ (m : Bool). test m W.state.last (last_of W)) B.mark
            ∙ ap (λ (l : Angle). test A.state.mark l (last_of W)) (B.last e)
            ∙ ap (test A.state.mark A.state.last) (last_on e)

    pub free : (kind : Kind) (angle : Angle) (start : Point) → opens_of setting kind A.state (last_of A) angle start ≡ false → A.state.mark ≡ false
    free kind angle start h = (joins setting kind A.state (last_of A) angle start h).0

    pub sum_same : (opens : Bool) → (opens ≡ false → A.state.mark ≡ false) → sum_before opens (last_of W) ≡ sum_before opens (last_of A)
    unfolding sum_before
    sum_same true f = refl
    sum_same false f = ap (λ (r : SplineRow). r.curvature) (last_on (f refl))

    -- ---- the same edit, numbered on
    pub record EditOn (e_w e_a : SplineEdit) : Type 0 where
      pub at : e_w.at ≡ bs + e_a.at
      pub clears : e_w.clears ≡ e_a.clears
      pub row : e_w.row ≡ spline_on bq e_a.row
      pub splines : e_w.next.splines ≡ bs + e_a.next.splines
      pub quads : e_w.next.quads ≡ bq + e_a.next.quads
      pub last : e_w.next.last ≡ e_a.next.last

    count_on : (x y : ℕ) → quad_count_of (bq + x) (bq + y) ≡ quad_count_of x y
    unfolding quad_count_of
    count_on x y = ap (λ (n : ℕ). min n 0xffff_ffff) (less bq x y)
      where
        less : (b x y : ℕ) → (b + y) - (b + x) ≡ y - x
        less b x y = omega arith

    pub edit_on : (opens : Bool) → (opens ≡ false → A.state.mark ≡ false) → (start end : Point) {sum sum' : Float} → sum ≡ sum' → (n m : ℕ) → n ≡ bq + m
        → {a a' : Angle} → a ≡ a' → EditOn (spline_edit W opens start end sum n a) (spline_edit A opens start end sum' m a')
    unfolding spline_edit_of
    edit_on true f start end es n m en ea =
        record {
          at = B.splines;
          clears = ap not B.mark;
          row =
              rw (es, en, B.quads, count_on A.state.quads m);
          splines = next W.state.splines A.state.splines B.splines;
          quads = en;
          last = ea;
        }
      where
        next : (w a : ℕ) → w ≡ bs + a → w + 1 ≡ bs + (a + 1)
        next w a e = omega arith
    edit_on false f start end es n m en ea =
        let l = last_on (f refl) in
        record {
          at = before_on bs W.state.splines A.state.splines B.splines (B.some (f refl));
          clears = refl;
          row = rw (es, en, l, count_on (last_of A).first_quad m);
          splines = B.splines;
          quads = en;
          last = ea;
        }

-- ---- what an edit comes to, in any world
pub record Top (w : World) (e : SplineEdit) : Type 0 where
  pub next : e.next.splines ≡ suc e.at
  pub low : e.at ≤ w.state.splines
  pub made : is_done e.next.answer ≡ true
  pub mark : e.next.mark ≡ false
  pub one : e.clears ≡ true → 0 < e.at

pub top : (w : World) (opens : Bool) → (opens ≡ false → w.state.mark ≡ false) → (w.state.mark ≡ false → 0 < w.state.splines)
    → (start end : Point) (sum : Float) (quads : ℕ) (a : Angle) → Top w (spline_edit w opens start end sum quads a)
unfolding spline_edit_of
top w true f h start end sum quads a =
    record {
      next = add-one w.state.splines;
      low = le_of_eq refl;
      made = refl;
      mark = refl;
      one = λ c. h (unmarked w.state.mark c);
    }
  where
    unmarked : (m : Bool) → not m ≡ true → m ≡ false
    unmarked true e = sym e
    unmarked false e = refl
top w false f h start end sum quads a =
    record {
      next = back w.state.splines (h (f refl));
      low = less w.state.splines;
      made = refl;
      mark = refl;
      one = λ c. absurd (true≢false (sym c));
    }
  where
    back : (n : ℕ) → 0 < n → n ≡ suc (n - 1)
    back n h = omega arith

    less : (n : ℕ) → n - 1 ≤ n
    less n = omega arith
