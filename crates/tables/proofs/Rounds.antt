-- In the knife setting a spline with quads begins where its first quad begins and ends where its last one ends, bit for bit, at every moment of a run: no line
-- joins it. Assumes nothing.
use Prim.Native.Nat.{ℕ, suc, ◌-◌, ◌<◌}
use mathlib.Core.Path.{◌≡◌, refl, sym, ap, ◌∙◌, subst}
use mathlib.Core.Logic.{◌⊎◌, inl, inr, ◌≢◌}
use mathlib.Core.List.{List, [], ◌∷◌}
use mathlib.Core.Bool.{Bool, true, false, cond}
use native.Mathlib.Nat.{le_trans, le_of_eq, le_refl, le_of_lt, lt_of_lt_of_le, lt_irrefl, ne_of_lt, eq-or-lt_of_le, le_of_suc-le-suc, not-suc-le-zero}
use native.Mathlib.Decide.{ℕ_discrete}
use native.Mathlib.Numerals.{add-one}
use Rattle.answer.specs.Number.{is_done}
use Rattle.point.specs.declared.Point.{Point}
use Rattle.point.specs.declared.Setting.TheVariants.{Knife}
use Rattle.primitives.specs.declared.Capacities.{Capacities}
use Rattle.primitives.specs.declared.Kind.TheVariants.{Straight, Round}
use Rattle.primitives.specs.declared.Primitive.{Primitive}
use Rattle.primitives.specs.declared.QuadRow.{QuadRow}
use Rattle.primitives.specs.declared.SplineRow.{SplineRow}
use Rattle.primitives.specs.Edits.{SplineEdit, State}
use Rattle.primitives.specs.Splines.{spline_kind_of, spline_edit_of}
use Rattle.primitives.specs.Plan.{refused_of, marked_of}
use Rattle.primitives.proofs.Opening.{same_kind}
use Rattle.tables.specs.Tables.{QuadTable, SplineTable, capacities_of, put_quad, quad_row_at, quad_start_of, quad_end_of, put_spline, spline_at}
use Rattle.tables.specs.Run.{World, world, apply_of, push_of, run_of, start_state}
use Rattle.tables.proofs.Pushes.{last_of, Pushed, kept, marked, lined, bent, pushed}
use Rattle.tables.proofs.RowLaws.{row_put, row_stays}
use Rattle.tables.proofs.Spans.{owner_at, same_owner}
use Rattle.tables.proofs.Sound.{Sound, sound_push, sound_start, cut_le, last_is, pred_lt}
use Rattle.tables.proofs.Ends.{Wide, start_new, end_new, start_stays, end_stays, put_wide, table_wide}
use Rattle.tables.proofs.Owners.{owned, owned_round, round_quads, not_both}

-- ---- quad i is the first, or the last, of spline k
pub record First (w : World) (k i : ℕ) : Type 0 where
  pub stored : i < w.state.quads
  pub own : owner_at (quad_row_at w.quads) i ≡ k
  pub first : (j : ℕ) → j < i → owner_at (quad_row_at w.quads) j ≢ k

pub record Last (w : World) (k i : ℕ) : Type 0 where
  pub stored : i < w.state.quads
  pub own : owner_at (quad_row_at w.quads) i ≡ k
  pub last : (j : ℕ) → i < j → j < w.state.quads → owner_at (quad_row_at w.quads) j ≢ k

pub record Rounds (caps : Capacities) (w : World) : Type 0 where
  pub wide : Wide caps.splines w.splines
  pub begins : (k i : ℕ) → First w k i → (spline_at w.splines k).p0 ≡ quad_start_of (quad_row_at w.quads i)
  pub ends : (k i : ℕ) → Last w k i → (spline_at w.splines k).p2 ≡ quad_end_of (quad_row_at w.quads i)

module _ (caps : Capacities) (w : World) (S : Sound caps w) (R : Rounds caps w) where
  abbrev rows : ℕ → QuadRow
  rows = quad_row_at w.quads

  abbrev s : SplineTable
  s = w.splines

  -- ---- a spline is written that has no quad
  straight_put : (edit : SplineEdit) → edit.next.quads ≡ w.state.quads → ((i : ℕ) → i < w.state.quads → owner_at rows i ≢ edit.at)
      → Rounds caps (world edit.next w.quads (put_spline s edit))
  straight_put edit e none =
      record {
        wide = put_wide caps.splines s edit R.wide;
        begins = λ k i F.
            let h = lt_of_lt_of_le F.stored (le_of_eq e) in
            start_stays s edit k (λ z. none i h (F.own ∙ z)) ∙ R.begins k i (record { stored = h; own = F.own; first = F.first });
        ends = λ k i L.
            let h = lt_of_lt_of_le L.stored (le_of_eq e) in
            end_stays s edit k (λ z. none i h (L.own ∙ z))
            ∙ R.ends k i (record { stored = h; own = L.own; last = λ j l u. L.last j l (lt_of_lt_of_le u (le_of_eq (sym e))) });
      }

  -- ---- a quad is written, and its spline
  module _ (edit : SplineEdit) (row : QuadRow) (start end : Point) (stored : quad_row_at (put_quad w.quads w.state.quads row) w.state.quads ≡ row)
      (counted : edit.next.quads ≡ suc w.state.quads) (owner : row.spline ≡ edit.at) (begins : quad_start_of row ≡ start) (ends : quad_end_of row ≡ end)
      (room : edit.at < caps.splines) (to : edit.row.p2 ≡ end)
      (from-new : ((j : ℕ) → j < w.state.quads → owner_at rows j ≢ edit.at) → edit.row.p0 ≡ start)
      (from_old : (j : ℕ) → j < w.state.quads → owner_at rows j ≡ edit.at → edit.row.p0 ≡ (spline_at s edit.at).p0) where
    abbrev m : ℕ
    m = w.state.quads

    abbrev rows' : ℕ → QuadRow
    rows' = quad_row_at (put_quad w.quads m row)

    abbrev next : World
    next = world edit.next (put_quad w.quads m row) (put_spline s edit)

    old : (i : ℕ) → i < m → rows' i ≡ rows i
    old i h = row_stays w.quads m row i (ne_of_lt h)

    new_owner : owner_at rows' m ≡ edit.at
    new_owner = same_owner stored ∙ owner

    start_is : (spline_at (put_spline s edit) edit.at).p0 ≡ edit.row.p0
    start_is = start_new s edit (lt_of_lt_of_le room R.wide.p0x) (lt_of_lt_of_le room R.wide.p0y)

    end_is : (spline_at (put_spline s edit) edit.at).p2 ≡ edit.row.p2
    end_is = end_new s edit (lt_of_lt_of_le room R.wide.p2x) (lt_of_lt_of_le room R.wide.p2y)

    below : (i : ℕ) → i < edit.next.quads → (i ≡ m) ⊎ (i < m)
    below i h = eq-or-lt_of_le (le_of_suc-le-suc (lt_of_lt_of_le h (le_of_eq counted)))

    -- the new quad
    first_new : (k : ℕ) → First next k m → (spline_at (put_spline s edit) k).p0 ≡ quad_start_of (rows' m)
    first_new k F =
        let e = sym F.own ∙ new_owner in
        subst (λ (x : ℕ). (spline_at (put_spline s edit) x).p0 ≡ quad_start_of (rows' m)) (sym e)
        (start_is ∙ from-new (λ j h z. F.first j h (same_owner (old j h) ∙ z ∙ sym e)) ∙ sym begins ∙ ap quad_start_of (sym stored))

    last_new : (k : ℕ) → Last next k m → (spline_at (put_spline s edit) k).p2 ≡ quad_end_of (rows' m)
    last_new k L =
        subst (λ (x : ℕ). (spline_at (put_spline s edit) x).p2 ≡ quad_end_of (rows' m)) (sym (sym L.own ∙ new_owner))
        (end_is ∙ to ∙ sym ends ∙ ap quad_end_of (sym stored))

    -- one that was there
    first_old : (k i : ℕ) → i < m → First next k i → (spline_at (put_spline s edit) k).p0 ≡ quad_start_of (rows' i)
    first_old k i h F =
        let own = sym (same_owner (old i h)) ∙ F.own in
        let F' : First w k i =
        record { stored = h; own = own; first = λ j l z. F.first j l (same_owner (old j (lt_of_lt_of_le l (le_of_lt h))) ∙ z) } in
        go k own (ℕ_discrete k edit.at) ∙ R.begins k i F' ∙ ap quad_start_of (sym (old i h))
      where
        go : (k : ℕ) → owner_at rows i ≡ k → Dec (k ≡ edit.at) → (spline_at (put_spline s edit) k).p0 ≡ (spline_at s k).p0
        go k own (yes z) =
            subst (λ (x : ℕ). (spline_at (put_spline s edit) x).p0 ≡ (spline_at s x).p0) (sym z) (start_is ∙ from_old i h (own ∙ z))
        go k own (no z) = start_stays s edit k z

    last_old : (k i : ℕ) → i < m → Last next k i → (spline_at (put_spline s edit) k).p2 ≡ quad_end_of (rows' i)
    last_old k i h L =
        end_stays s edit k (λ z. L.last m h (le_of_eq (sym counted)) (new_owner ∙ sym z))
        ∙ R.ends k i
        (record {
          stored = h;
          own = sym (same_owner (old i h)) ∙ L.own;
          last = λ j l u z. L.last j l (lt_of_lt_of_le u (le_trans (le_of_lt (le_refl (suc m))) (le_of_eq (sym counted)))) (same_owner (old j u) ∙ z);
        })
        ∙ ap quad_end_of (sym (old i h))

    round_put : Rounds caps next
    round_put =
        record {
          wide = put_wide caps.splines s edit R.wide;
          begins = λ k i F. elim (below i F.stored) [
            | inl z ↦
                subst (λ (x : ℕ). (spline_at (put_spline s edit) k).p0 ≡ quad_start_of (rows' x)) (sym z) (first_new k (subst (First next k) z F))
            | inr h ↦ first_old k i h F
          ];
          ends = λ k i L. elim (below i L.stored) [
            | inl z ↦ subst (λ (x : ℕ). (spline_at (put_spline s edit) k).p2 ≡ quad_end_of (rows' x)) (sym z) (last_new k (subst (Last next k) z L))
            | inr h ↦ last_old k i h L
          ];
        }

  -- ---- each form of a push
  same_rounds : (st : State) → st.quads ≡ w.state.quads → Rounds caps (world st w.quads s)
  same_rounds st e =
      record {
        wide = R.wide;
        begins = λ k i F. R.begins k i (record { stored = lt_of_lt_of_le F.stored (le_of_eq e); own = F.own; first = F.first });
        ends = λ k i L.
            R.ends k i
            (record {
              stored = lt_of_lt_of_le L.stored (le_of_eq e);
              own = L.own;
              last = λ j l u. L.last j l (lt_of_lt_of_le u (le_of_eq (sym e)));
            });
      }

  -- the spline after the last has no quad yet
  none_next : (i : ℕ) → i < w.state.quads → owner_at rows i ≢ w.state.splines
  none_next i h e = lt_irrefl w.state.splines (owned caps w S i w.state.splines h e).0

  module _ (some : 0 < w.state.splines) where
    abbrev top : ℕ
    top = w.state.splines - 1

    top_kind : spline_kind_of (last_of w) ≡ spline_kind_of (spline_at s top)
    top_kind = ap spline_kind_of (last_is w some)

    none_straight : spline_kind_of (last_of w) ≡ Straight → (i : ℕ) → i < w.state.quads → owner_at rows i ≢ top
    none_straight straight i h e = not_both (sym top_kind ∙ straight) (owned_round caps w S i top h e)

    one_round : spline_kind_of (last_of w) ≡ Round → ((i : ℕ) → i < w.state.quads → owner_at rows i ≢ top) → ⊥
    one_round round none =
        let h = pred_lt w.state.splines some in
        let l = round_quads caps w S top h (sym top_kind ∙ round) in
        none (S.cut top) (lt_of_lt_of_le l (cut_le caps w S (suc top) h)) ((S.span top h).owned (S.cut top) (le_refl (S.cut top)) l)

  pub rounds_push : {b : Bool} {w' : World} → Pushed Knife caps w b w' → Rounds caps w'
  unfolding refused_of marked_of apply_of spline_edit_of
  rounds_push (kept answer) = same_rounds (refused_of w.state answer) refl
  rounds_push marked = same_rounds (marked_of Knife w.state) refl
  rounds_push (lined true start end angle A) = straight_put _ refl none_next
  rounds_push (lined false start end angle A) =
      straight_put _ refl (none_straight (S.waits (A.joins refl)) (same_kind Straight (spline_kind_of (last_of w)) (A.alike refl)))
  rounds_push (bent true start end angle c row A B K fit O) =
      round_put _ row start end (row_put w.quads w.state.quads row (lt_of_lt_of_le K S.room.rows)) (add-one w.state.quads) O.owner
      O.begins O.ends (A.room refl) refl (λ none. refl) (λ j h e. absurd (none_next j h e))
  rounds_push (bent false start end angle c row A B K fit O) =
      let some = S.waits (A.joins refl) in
      let round = same_kind Round (spline_kind_of (last_of w)) (A.alike refl) in
      round_put _ row start end (row_put w.quads w.state.quads row (lt_of_lt_of_le K S.room.rows)) (add-one w.state.quads) O.owner
      O.begins O.ends (lt_of_lt_of_le (pred_lt w.state.splines some) S.room.splines) refl (λ none. absurd (one_round some round none))
      (λ j h e. ap (λ (r : SplineRow). r.p0) (last_is w some))

-- ---- a run
pub rounds_run : (caps : Capacities) (ps : List Primitive) (w : World) → Sound caps w → Rounds caps w → Rounds caps (run_of Knife caps ps w)
unfolding run_of
rounds_run caps [] w S R = R
rounds_run caps (p ∷ ps) w S R =
    let z = go (is_done w.state.answer) in
    rounds_run caps ps (cond (is_done w.state.answer) (push_of Knife caps p w) w) z.0 z.1
  where
    go : (b : Bool) → Sound caps (cond b (push_of Knife caps p w) w) × Rounds caps (cond b (push_of Knife caps p w) w)
    go true = let P = pushed Knife caps w p in (sound_push caps w S P, rounds_push caps w S R P)
    go false = (S, R)

pub rounds : (ps : List Primitive) (q : QuadTable) (s : SplineTable)
    → Rounds (capacities_of q s) (run_of Knife (capacities_of q s) ps (world start_state q s))
unfolding capacities_of
rounds ps q s =
    rounds_run (capacities_of q s) ps (world start_state q s) (sound_start q s)
    (record { wide = table_wide s; begins = λ k i F. absurd (not-suc-le-zero F.stored); ends = λ k i L. absurd (not-suc-le-zero L.stored) })
