-- In the knife setting a spline keeps its kind, and what goes to it is of that kind. Assumes nothing.
use Prim.Native.Nat.{ℕ, ◌-◌, ◌<◌}
use mathlib.Core.Path.{◌≡◌, refl, sym, ap, ◌∙◌, subst}
use mathlib.Core.Logic.{◌≢◌}
use mathlib.Core.List.{List, [], ◌∷◌}
use mathlib.Core.Bool.{Bool, true, false, cond}
use native.Mathlib.Nat.{le_trans, le_of_eq, lt_of_lt_of_le, lt_of_le_of_lt, ne_of_lt}
use native.Mathlib.Omega.{arith}
use native.Mathlib.Decide.{ℕ_discrete}
use native.Mathlib.Numerals.{add-one}
use lib.Ieee.{Float, eq}
use Rattle.leaves.specs.Single.{zero32}
use Rattle.answer.specs.Number.{is_done}
use Rattle.point.specs.declared.Point.{Point}
use Rattle.point.specs.Angle.{Angle}
use Rattle.point.specs.declared.Setting.TheVariants.{Knife}
use Rattle.primitives.specs.declared.Capacities.{Capacities}
use Rattle.primitives.specs.declared.Kind.{Kind}
use Rattle.primitives.specs.declared.Kind.TheVariants.{Straight, Round}
use Rattle.primitives.specs.declared.Primitive.{Primitive}
use Rattle.primitives.specs.declared.SplineRow.{SplineRow}
use Rattle.primitives.specs.Edits.{SplineEdit}
use Rattle.primitives.specs.Splines.{spline_kind_of, opens_of, sum_before, spline_edit_of}
use Rattle.primitives.specs.Plan.{refused_of, marked_of}
use Rattle.primitives.proofs.Opening.{joins, same_kind}
use Rattle.tables.specs.Tables.{put_spline, spline_at}
use Rattle.tables.specs.Run.{World, world, apply_of, push_of, run_of}
use Rattle.tables.proofs.Pushes.{last_of, Pushed, kept, marked, lined, bent, pushed}
use Rattle.tables.proofs.RowLaws.{row_put}
use Rattle.tables.proofs.Spans.{same_owner}
use Rattle.tables.proofs.Sound.{Sound, sound_push, total_same, total_other, totals_length, last_is, pred_lt}
use Rattle.tables.proofs.Moves.{push_grows}
use Rattle.tables.proofs.Owners.{zero_straight, owned_round}
use Rattle.tables.proofs.Drawn.{Drew, drawn_edit, at_last, edit_sets}

abbrev pub kind_at : World → ℕ → Kind
kind_at w k = spline_kind_of (spline_at w.splines k)

-- the sum decides
by_sum : (a b : SplineRow) → a.curvature ≡ b.curvature → spline_kind_of a ≡ spline_kind_of b
unfolding spline_kind_of
by_sum a b e = ap (λ (x : Float). cond (eq x zero32) Straight Round) e

module _ (caps : Capacities) (w : World) (S : Sound caps w) (k : ℕ) (h : k < w.state.splines) where
  other : (edit : SplineEdit) → k ≢ edit.at → spline_kind_of (spline_at (put_spline w.splines edit) k) ≡ kind_at w k
  other edit n = by_sum _ _ (total_other w.splines edit k n)

  -- the last spline, written with another sum
  top : (edit : SplineEdit) → edit.at ≡ w.state.splines - 1
      → (0 < w.state.splines → spline_kind_of (spline_at (put_spline w.splines edit) edit.at) ≡ spline_kind_of (last_of w))
      → spline_kind_of (spline_at (put_spline w.splines edit) k) ≡ kind_at w k
  top edit e same = go (ℕ_discrete k edit.at)
    where
      some : 0 < w.state.splines
      some = positive k w.state.splines h
        where
          positive : (k n : ℕ) → k < n → 0 < n
          positive k n h = omega arith

      go : Dec (k ≡ edit.at) → spline_kind_of (spline_at (put_spline w.splines edit) k) ≡ kind_at w k
      go (no n) = other edit n
      go (yes z) =
          ap (λ (i : ℕ). spline_kind_of (spline_at (put_spline w.splines edit) i)) z ∙ same some
          ∙ ap spline_kind_of (last_is w some) ∙ ap (λ (i : ℕ). kind_at w i) (sym (z ∙ e))

  pub kind_push : {b : Bool} {w' : World} → Pushed Knife caps w b w' → Sound caps w' → kind_at w' k ≡ kind_at w k
  unfolding refused_of marked_of apply_of spline_edit_of sum_before
  kind_push (kept answer) S' = refl
  kind_push marked S' = refl
  kind_push (lined true start end angle A) S' = other _ (ne_of_lt h)
  kind_push (lined false start end angle A) S' =
      top _ refl
      (λ some.
      by_sum _ _
      (total_same w.splines _ (lt_of_lt_of_le (pred_lt w.state.splines some) (le_trans S.room.splines S.room.totals))))
  kind_push (bent true start end angle c row A B K fit O) S' = other _ (ne_of_lt h)
  kind_push (bent false start end angle c row A B K fit O) S' =
      top _ refl
      (λ some.
      owned_round caps _ S' w.state.quads _ (le_of_eq (sym (add-one w.state.quads)))
      (same_owner (row_put w.quads w.state.quads row (lt_of_lt_of_le K S.room.rows)) ∙ O.owner)
      ∙ sym (same_kind Round (spline_kind_of (last_of w)) (A.alike refl)))

-- ---- the last spline is of the kind of what was drawn last
module _ {caps : Capacities} {start end : Point} {first after : Angle} {w w' : World} where
  straight_kind : (D : Drew Knife Straight start end first after w w') → Sound caps w' → kind_at w' (w'.state.splines - 1) ≡ Straight
  unfolding sum_before
  straight_kind D S = subst (λ (v : World). kind_at v (v.state.splines - 1) ≡ Straight) (sym D.is) (go opens refl)
    where
      opens : Bool
      opens = opens_of Knife Straight w.state (last_of w) first start

      edit : SplineEdit
      edit = drawn_edit Knife w Straight start end first after D.sum D.quads

      row : SplineRow
      row = spline_at (put_spline w.splines edit) (edit.next.splines - 1)

      sum_is : row.curvature ≡ sum_before opens (last_of w)
      sum_is =
          let U : Sound caps (world edit.next D.table (put_spline w.splines edit)) = subst (Sound caps) D.is S in
          let sets = edit_sets w start end D.sum D.quads after opens in
          let at = at_last w start end D.sum D.quads after opens in
          let low = pred_lt edit.next.splines (U.waits sets.0) in
          subst (λ (i : ℕ). (spline_at (put_spline w.splines edit) i).curvature ≡ edit.row.curvature) at
          (total_same w.splines edit
          (lt_of_le_of_lt (le_of_eq at) (lt_of_lt_of_le low (le_trans U.room.splines (le_trans U.room.totals (le_of_eq (totals_length w.splines edit)))))))
          ∙ sets.3 ∙ D.flat refl

      go : (o : Bool) → opens_of Knife Straight w.state (last_of w) first start ≡ o → spline_kind_of row ≡ Straight
      go true e = zero_straight row (sum_is ∙ ap (λ (o : Bool). sum_before o (last_of w)) e)
      go false e =
          by_sum row (last_of w) (sum_is ∙ ap (λ (o : Bool). sum_before o (last_of w)) e)
          ∙ same_kind Straight (spline_kind_of (last_of w)) (joins Knife Straight w.state (last_of w) first start e).1

  round_kind : (D : Drew Knife Round start end first after w w') → Sound caps w' → kind_at w' (w'.state.splines - 1) ≡ Round
  round_kind D S =
      let opens = opens_of Knife Round w.state (last_of w) first start in
      let sets = edit_sets w start end D.sum D.quads after opens in
      let z = D.curved refl in
      subst (λ (v : World). kind_at v (v.state.splines - 1) ≡ Round) (sym D.is)
      (owned_round caps _ (subst (Sound caps) D.is S) w.state.quads _ (le_of_eq (sym (sets.4 ∙ z.0)))
      (z.1 ∙ at_last w start end D.sum D.quads after opens))

  pub drawn_kind : (kind : Kind) → Drew Knife kind start end first after w w' → Sound caps w' → kind_at w' (w'.state.splines - 1) ≡ kind
  drawn_kind Straight D S = straight_kind D S
  drawn_kind Round D S = round_kind D S

-- ---- a run
pub kinds_run : (caps : Capacities) (ps : List Primitive) (w : World) → Sound caps w → (k : ℕ) → k < w.state.splines
    → kind_at (run_of Knife caps ps w) k ≡ kind_at w k
unfolding run_of
kinds_run caps [] w S k h = refl
kinds_run caps (p ∷ ps) w S k h =
    let z = go (is_done w.state.answer) in
    kinds_run caps ps (cond (is_done w.state.answer) (push_of Knife caps p w) w) z.0 k z.1 ∙ z.2
  where
    go : (b : Bool) → let v = cond b (push_of Knife caps p w) w in Sound caps v × (k < v.state.splines) × (kind_at v k ≡ kind_at w k)
    go true =
        let P = pushed Knife caps w p in
        let U = sound_push caps w S P in
        (U, lt_of_lt_of_le h (push_grows Knife caps w P), kind_push caps w S k h P U)
    go false = (S, h, refl)
