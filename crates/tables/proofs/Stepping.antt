-- One primitive of a contour, pushed in the whole and alone. Where both are done, or one is and the other has the room, both are done, they stay beside each other,
-- and no row before the contour changes. Assumes nothing.
use Prim.Native.Nat.{ℕ, suc, ◌+◌, ◌-◌, ◌≤◌, ◌<◌}
use mathlib.Core.Path.{◌≡◌, refl, sym, ap, ◌∙◌}
use mathlib.Core.Logic.{inl, inr, ◌≢◌}
use mathlib.Core.Bool.{Bool, true, false}
use native.Mathlib.Nat.{le_trans, le_of_eq, le_of_lt, lt_of_lt_of_le, eq-or-lt_of_le, le_of_suc-le-suc, ne_of_lt}
use native.Mathlib.Omega.{arith}
use Rattle.point.specs.Angle.{Angle}
use Rattle.point.specs.declared.Setting.{Setting}
use Rattle.primitives.specs.declared.Capacities.{Capacities}
use Rattle.primitives.specs.Edits.{SplineEdit}
use Rattle.primitives.specs.Splines.{line_angle_of}
use Rattle.tables.specs.Tables.{QuadTable, quad_capacity_of, spline_capacity_of, quad_row_at, put_spline, spline_at}
use Rattle.tables.specs.Run.{World, world}
use Rattle.tables.proofs.SplineRows.{flagged_as, spline_capacity_stays, row_new, row_kept, row_far, row_cleared}
use Rattle.tables.proofs.Standing.{spline_on, quad_on}
use Rattle.tables.proofs.Beside.{done, Holds, Kept, Beside, EditOn, Top}

module _ (setting : Setting) (bq bs : ℕ) (capsW caps_a : Capacities) where
  -- what a step, or a run, comes to: W was the whole before it
  pub record Stepped (W W' A' : World) : Type 0 where
    pub whole_done : done W'
    pub alone_done : done A'
    pub beside : Beside setting bq bs W' A'
    pub kept : Kept bq bs W W'
    pub whole_holds : Holds capsW W'
    pub alone_holds : Holds caps_a A'

  -- both are done, or one of them is, and the other has no less room
  pub data Given (W' A' : World) : Type 0 where
    both : done W' → done A' → Given W' A'
    whole : done W' → capsW.quads ≤ bq + caps_a.quads → capsW.splines ≤ bs + caps_a.splines → Given W' A'
    alone : done A' → bq + A'.state.quads ≤ capsW.quads → bs + A'.state.splines ≤ capsW.splines → Given W' A'

  -- ---- an edit stored in both, with quad tables that are beside each other too
  module _ (W A : World) (B : Beside setting bq bs W A) (HW : Holds capsW W) (HA : Holds caps_a A) (e_w e_a : SplineEdit)
      (E : EditOn setting bq bs W A B e_w e_a) (TW : Top W e_w) (TA : Top A e_a) (rW : e_w.at < capsW.splines) (rA : e_a.at < caps_a.splines) where
    room_whole : e_w.at < spline_capacity_of W.splines
    room_whole = lt_of_lt_of_le rW HW.splines

    room_alone : e_a.at < spline_capacity_of A.splines
    room_alone = lt_of_lt_of_le rA HA.splines

    apart : (k : ℕ) → k < e_a.at → bs + k ≢ e_w.at
    apart k l e = go e_w.at E.at e
      where
        go : (at : ℕ) → at ≡ bs + e_a.at → bs + k ≡ at → ⊥
        go at f e = omega arith

    old_row : (k : ℕ) → k < e_a.at → spline_at W.splines (bs + k) ≡ spline_on bq (spline_at A.splines k)
    old_row k l = B.spline_rows k (lt_of_lt_of_le l TA.low)

    -- a row before the edit's own
    old : (k : ℕ) → k < e_a.at → (c : Bool) → e_a.clears ≡ c
        → spline_at (put_spline W.splines e_w) (bs + k) ≡ spline_on bq (spline_at (put_spline A.splines e_a) k)
    old k l false c =
        row_kept W.splines e_w (bs + k) (apart k l) (E.clears ∙ c) ∙ old_row k l
        ∙ sym (ap (spline_on bq) (row_kept A.splines e_a k (ne_of_lt l) c))
    old k l true c = elim (eq-or-lt_of_le l) [
      | inl e ↦
          row_cleared W.splines e_w (bs + k) (apart k l) (just_before e_w.at e_a.at E.at e) (lt_of_lt_of_le (below e_w.at e_a.at E.at l) (le_of_lt room_whole)) (E.clears ∙ c)
          ∙ ap (flagged_as false) (old_row k l)
          ∙ sym (ap (spline_on bq) (row_cleared A.splines e_a k (ne_of_lt l) (before_it e_a.at e) (lt_of_lt_of_le l (le_of_lt room_alone)) c))
      | inr u ↦
          row_far W.splines e_w (bs + k) (apart k l) (far e_w.at e_a.at E.at u) ∙ old_row k l
          ∙ sym (ap (spline_on bq) (row_far A.splines e_a k (ne_of_lt l) (not_before e_a.at u)))
    ]
      where
        just_before : (w a : ℕ) → w ≡ bs + a → suc k ≡ a → bs + k ≡ w - 1
        just_before w a e f = omega arith

        below : (w a : ℕ) → w ≡ bs + a → k < a → bs + k < w
        below w a e f = omega arith

        before_it : (a : ℕ) → suc k ≡ a → k ≡ a - 1
        before_it a e = omega arith

        far : (w a : ℕ) → w ≡ bs + a → suc k < a → bs + k ≢ w - 1
        far w a e u f = omega arith

        not_before : (a : ℕ) → suc k < a → k ≢ a - 1
        not_before a u f = omega arith

    rows_after : (k : ℕ) → k < e_a.next.splines
        → spline_at (put_spline W.splines e_w) (bs + k) ≡ spline_on bq (spline_at (put_spline A.splines e_a) k)
    rows_after k h = elim (eq-or-lt_of_le (le_of_suc-le-suc (lt_of_lt_of_le h (le_of_eq TA.next)))) [
      | inl e ↦
          ap (spline_at (put_spline W.splines e_w)) (ap (λ (x : ℕ). bs + x) e ∙ sym E.at)
          ∙ row_new W.splines e_w room_whole ∙ E.row
          ∙ sym (ap (spline_on bq) (row_new A.splines e_a room_alone))
          ∙ ap (λ (x : ℕ). spline_on bq (spline_at (put_spline A.splines e_a) x)) (sym e)
      | inr l ↦ old k l e_a.clears refl
    ]

    -- the splines before the contour
    before_stays : (k : ℕ) → k < bs → spline_at (put_spline W.splines e_w) k ≡ spline_at W.splines k
    before_stays k h = go e_a.clears refl
      where
        off : (w a : ℕ) → w ≡ bs + a → k ≢ w
        off w a e f = omega arith

        off_too : (w a : ℕ) → w ≡ bs + a → 0 < a → k ≢ w - 1
        off_too w a e p f = omega arith

        go : (c : Bool) → e_a.clears ≡ c → spline_at (put_spline W.splines e_w) k ≡ spline_at W.splines k
        go true c = row_far W.splines e_w k (off e_w.at e_a.at E.at) (off_too e_w.at e_a.at E.at (TA.one c))
        go false c = row_kept W.splines e_w k (off e_w.at e_a.at E.at) (E.clears ∙ c)

    pub edited : (qW qA : QuadTable) → quad_capacity_of qW ≡ quad_capacity_of W.quads → quad_capacity_of qA ≡ quad_capacity_of A.quads
        → ((i : ℕ) → i < e_a.next.quads → quad_row_at qW (bq + i) ≡ quad_on bs (quad_row_at qA i))
        → ((i : ℕ) → i < bq → quad_row_at qW i ≡ quad_row_at W.quads i)
        → Stepped W (world e_w.next qW (put_spline W.splines e_w)) (world e_a.next qA (put_spline A.splines e_a))
    edited qW qA cW cA rows before =
        record {
          whole_done = TW.made;
          alone_done = TA.made;
          beside =
              record {
                splines = E.splines;
                quads = E.quads;
                mark = TW.mark ∙ sym TA.mark;
                angle = λ a. ap (λ (l : Angle). line_angle_of setting l a) E.last;
                last = λ m. E.last;
                some = λ m. lt_of_lt_of_le (pos e_a.at) (le_of_eq (sym TA.next));
                spline_rows = rows_after;
                quad_rows = rows;
              };
          kept = record { splines = before_stays; quads = before };
          whole_holds =
              record {
                quads = le_trans HW.quads (le_of_eq (sym cW));
                splines = le_trans HW.splines (le_of_eq (sym (spline_capacity_stays W.splines e_w)));
                within = le_trans (le_of_eq TW.next) rW;
              };
          alone_holds =
              record {
                quads = le_trans HA.quads (le_of_eq (sym cA));
                splines = le_trans HA.splines (le_of_eq (sym (spline_capacity_stays A.splines e_a)));
                within = le_trans (le_of_eq TA.next) rA;
              };
        }
      where
        pos : (n : ℕ) → 0 < suc n
        pos n = omega arith
