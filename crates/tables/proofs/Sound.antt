-- What holds of the tables at every moment of a run, in both settings, whatever the tables held before: the quads up to the count belong to the splines up to
-- the count, spline by spline and in order, each spline as `Span` says; and each row tells its own quads.
-- The plan: `cut j` is the number of quads before spline j. A push keeps every spline but the last one, which is opened or joined; `put` says so once, for a
-- spline t that is either the next one, just opened, or the last. `sound_push` is that for each form of a push, and `sound_run` goes through a list. Assumes
-- nothing.
use mathlib.Core.Path.{◌≡◌, refl, sym, ap, ap₂, ◌∙◌, subst, subst₂}
use mathlib.Core.Logic.{inl, inr, ◌≢◌}
use mathlib.Core.List.{List, [], ◌∷◌}
use mathlib.Core.Bool.{Bool, true, false, cond, true≢false}
use Prim.Native.Nat.{ℕ, zero, suc, ◌+◌, ◌-◌, ◌*◌, ◌≤◌, ◌<◌, zero-le, min}
use native.Mathlib.Nat.{le_trans, le_of_eq, le_refl, le_of_lt, lt_of_lt_of_le, lt_of_le_of_lt, lt_irrefl, eq-or-lt_of_le, le_of_suc-le-suc, min-le_left}
use native.Mathlib.Nat.{min-le_right, ne_of_lt, add-zero, add-sub_of_le, sub-le, not-suc-le-zero}
use native.Mathlib.Numerals.{add-one}
use native.Mathlib.Omega.{arith}
use lib.Dec.{T, leb, eqb, le→leb, eqb-suc-zero}
use lib.Ieee.{Float, nan, le}
use lib.Ieee.Bits.{is_true, is_false}
use lib.Ieee.Positive.{num, den}
use lib.Arith.{lt→nleb}
use lib.ListN.{length, length-set}
use lib.Seq.{get_or-set_same, get_or-set_other}
use Rattle.facts.proofs.Numbers.{shift}
use Rattle.leaves.specs.Single.{◌⊕◌, zero32}
use Rattle.leaves.specs.Whole.{limit32}
use Rattle.answer.specs.Number.{is_done}
use Rattle.point.specs.declared.Setting.{Setting}
use Rattle.primitives.specs.declared.Capacities.{Capacities}
use Rattle.primitives.specs.declared.Kind.{Kind}
use Rattle.primitives.specs.declared.Primitive.{Primitive}
use Rattle.primitives.specs.declared.SplineRow.{SplineRow}
use Rattle.primitives.specs.Edits.{State, Extend, Bend, SplineEdit}
use Rattle.point.specs.declared.Point.{Point}
use Rattle.point.specs.Angle.{Angle}
use Rattle.command.specs.Packing.{index_limit}
use Rattle.primitives.specs.declared.QuadRow.{QuadRow}
use Rattle.primitives.specs.Splines.{sum_before, quad_count_of, spline_edit_of}
use Rattle.primitives.specs.Plan.{refused_of, marked_of}
use Rattle.tables.specs.Tables.{QuadTable, SplineTable, quad_capacity_of, spline_capacity_of, capacities_of, put_quad, quad_row_at, clear_flag, put_spline}
use Rattle.tables.specs.Tables.{spline_at, no_spline, last_spline_of}
use Rattle.tables.specs.Run.{World, world, apply_of, push_of, run_of, start_state}
use Rattle.tables.proofs.RunningSums.{Bent, natural, zero_natural, zero_num, positive_natural}
use Rattle.tables.proofs.Pushes.{last_of, Allowed, spline_edit, RowOf, Pushed, kept, marked, lined, bent, pushed}
use Rattle.tables.proofs.Spans.{Span, Agree, same_sum, same_owner, span_none, span_agree, span_more, span_total, few_quads}
use Rattle.tables.proofs.RowLaws.{row_put, row_stays, capacity_stays}
use Rattle.tables.proofs.SplineRows.{clear_length}

-- the counts are within the capacities, and these within what the tables take
pub record Room (caps : Capacities) (w : World) : Type 0 where
  pub quads : w.state.quads ≤ caps.quads
  pub splines : w.state.splines ≤ caps.splines
  pub rows : caps.quads ≤ quad_capacity_of w.quads
  pub totals : caps.splines ≤ length w.splines.curvature
  pub flags : caps.splines ≤ length w.splines.contour
  pub firsts : caps.splines ≤ length w.splines.first_quad
  pub counts : caps.splines ≤ length w.splines.quad_count

-- a row says that its quads are those from lo to below hi
pub record Ranged (row : SplineRow) (lo hi : ℕ) : Type 0 where
  pub first : row.first_quad ≡ lo
  pub count : lo + row.quad_count ≡ hi

pub record Sound (caps : Capacities) (w : World) : Type 0 where
  pub cut : ℕ → ℕ
  pub first : cut 0 ≡ 0
  pub all : cut w.state.splines ≡ w.state.quads
  pub span : (j : ℕ) → j < w.state.splines → Span (quad_row_at w.quads) (spline_at w.splines j).curvature (cut j) (cut (suc j)) j
  pub ranged : (j : ℕ) → j < w.state.splines → Ranged (spline_at w.splines j) (cut j) (cut (suc j))
  pub room : Room caps w
  pub waits : w.state.mark ≡ false → 0 < w.state.splines

-- ---- the numbers of quads before the splines grow
module _ (caps : Capacities) (w : World) (S : Sound caps w) where
  cut_up : (d j : ℕ) → j + d ≡ w.state.splines → S.cut j ≤ S.cut w.state.splines
  cut_up zero j e = le_of_eq (ap S.cut (sym (add-zero j) ∙ e))
  cut_up (suc d) j e =
      le_trans (S.span j (less j d w.state.splines e)).ordered (cut_up d (suc j) (shift j d ∙ e))
    where
      less : (j d n : ℕ) → j + suc d ≡ n → j < n
      less j d n e = omega arith

  pub cut_le : (j : ℕ) → j ≤ w.state.splines → S.cut j ≤ w.state.quads
  cut_le j h = le_trans (cut_up (w.state.splines - j) j (add-sub_of_le h)) (le_of_eq S.all)

-- ---- the cut with a new top: up to t as before, then k
abbrev pub topped : (ℕ → ℕ) → ℕ → ℕ → ℕ → ℕ
topped cut t k j = cond (leb j t) (cut j) k

topped_low : (cut : ℕ → ℕ) (t k j : ℕ) → j ≤ t → topped cut t k j ≡ cut j
topped_low cut t k j h = ap (λ (b : Bool). cond b (cut j) k) (is_true (leb j t) (le→leb j t h))

topped_high : (cut : ℕ → ℕ) (t k j : ℕ) → t < j → topped cut t k j ≡ k
topped_high cut t k j h = ap (λ (b : Bool). cond b (cut j) k) (is_false (leb j t) (lt→nleb j t h))

-- ---- a spline t is written, and the quads are then those of q'

module _ (s : SplineTable) (edit : SplineEdit) where
  pub total_same : edit.at < length s.curvature → (spline_at (put_spline s edit) edit.at).curvature ≡ edit.row.curvature
  unfolding put_spline spline_at
  total_same h = get_or-set_same s.curvature edit.at edit.row.curvature nan h

  pub total_other : (j : ℕ) → j ≢ edit.at → (spline_at (put_spline s edit) j).curvature ≡ (spline_at s j).curvature
  unfolding put_spline spline_at
  total_other j h = get_or-set_other s.curvature edit.at j edit.row.curvature nan h

  pub totals_length : length (put_spline s edit).curvature ≡ length s.curvature
  unfolding put_spline
  totals_length = length-set s.curvature edit.at edit.row.curvature

  pub flags_length : length (put_spline s edit).contour ≡ length s.contour
  unfolding put_spline
  flags_length = length-set (clear_flag edit.clears s.contour edit.at) edit.at _ ∙ clear_length s edit edit.clears

  pub firsts_length : length (put_spline s edit).first_quad ≡ length s.first_quad
  unfolding put_spline
  firsts_length = length-set s.first_quad edit.at edit.row.first_quad

  pub counts_length : length (put_spline s edit).quad_count ≡ length s.quad_count
  unfolding put_spline
  counts_length = length-set s.quad_count edit.at edit.row.quad_count

  pub ranged_new : (lo hi : ℕ) → edit.at < length s.first_quad → edit.at < length s.quad_count → Ranged edit.row lo hi
      → Ranged (spline_at (put_spline s edit) edit.at) lo hi
  unfolding put_spline spline_at
  ranged_new lo hi h k R =
      record {
        first = get_or-set_same s.first_quad edit.at edit.row.first_quad 0 h ∙ R.first;
        count = ap (λ (x : ℕ). lo + x) (get_or-set_same s.quad_count edit.at edit.row.quad_count 0 k) ∙ R.count;
      }

  pub ranged_other : (j lo hi : ℕ) → j ≢ edit.at → Ranged (spline_at s j) lo hi → Ranged (spline_at (put_spline s edit) j) lo hi
  unfolding put_spline spline_at
  ranged_other j lo hi h R =
      record {
        first = get_or-set_other s.first_quad edit.at j edit.row.first_quad 0 h ∙ R.first;
        count = ap (λ (x : ℕ). lo + x) (get_or-set_other s.quad_count edit.at j edit.row.quad_count 0 h) ∙ R.count;
      }

-- the number of quads fits, since a spline has no more than its sum
count_fits : (lo hi : ℕ) → lo ≤ hi → hi ≤ lo + 65536 → lo + quad_count_of lo hi ≡ hi
unfolding quad_count_of
count_fits lo hi h k = omega arith

-- ---- the last spline, where there is one
pub last_is : (w : World) → 0 < w.state.splines → last_of w ≡ spline_at w.splines (w.state.splines - 1)
unfolding last_spline_of
last_is w h = go w.state.splines h
  where
    go : (n : ℕ) → 0 < n → cond (eqb n 0) no_spline (spline_at w.splines (n - 1)) ≡ spline_at w.splines (n - 1)
    go zero h = absurd (lt_irrefl 0 h)
    go (suc n) h = ap (λ (b : Bool). cond b no_spline (spline_at w.splines (suc n - 1))) (eqb-suc-zero n)

pub pred_suc : (n : ℕ) → 0 < n → suc (n - 1) ≡ n
pred_suc n h = omega arith

pub pred_lt : (n : ℕ) → 0 < n → n - 1 < n
pred_lt n h = omega arith

-- ---- a quad k is written
agree_self : (rows : ℕ → QuadRow) (k : ℕ) → Agree rows rows k
agree_self rows k i h = refl

agree_put : (q : QuadTable) (k : ℕ) (row : QuadRow) → Agree (quad_row_at q) (quad_row_at (put_quad q k row)) k
agree_put q k row i h = row_stays q k row i (ne_of_lt h)

module _ (caps : Capacities) (w : World) (S : Sound caps w) where
  put : (edit : SplineEdit) (q' : QuadTable) (t k' : ℕ) (total : Float) → t ≤ w.state.splines → t < caps.splines → k' ≤ caps.quads
      → edit.at ≡ t → edit.row.curvature ≡ total → edit.row.first_quad ≡ S.cut t → edit.row.quad_count ≡ quad_count_of (S.cut t) k'
      → edit.next.splines ≡ suc t → edit.next.quads ≡ k'
      → Agree (quad_row_at w.quads) (quad_row_at q') w.state.quads → quad_capacity_of q' ≡ quad_capacity_of w.quads
      → Span (quad_row_at q') total (S.cut t) k' t
      → Sound caps (world edit.next q' (put_spline w.splines edit))
  put edit q' t k' total T≤ T< K at row first count next quads A l R =
      let s = w.splines in
      let W = world edit.next q' (put_spline s edit) in
      record {
        cut = topped S.cut t k';
        first = topped_low S.cut t k' 0 zero-le ∙ S.first;
        all = ap (topped S.cut t k') next ∙ topped_high S.cut t k' (suc t) (le_refl (suc t)) ∙ sym quads;
        span = λ j h. elim (eq-or-lt_of_le (le_of_suc-le-suc (lt_of_lt_of_le h (le_of_eq next)))) [
          | inl e ↦
              subst (λ (x : ℕ). Span (quad_row_at q') (spline_at (put_spline s edit) x).curvature (topped S.cut t k' x) (topped S.cut t k' (suc x)) x)
              (sym e)
              (subst₂ (λ (x y : ℕ). Span (quad_row_at q') (spline_at (put_spline s edit) t).curvature x y t) (sym (topped_low S.cut t k' t (le_refl t)))
              (sym (topped_high S.cut t k' (suc t) (le_refl (suc t))))
              (subst (λ (x : Float). Span (quad_row_at q') x (S.cut t) k' t) (sym (new_total at row)) R))
          | inr l ↦
              subst₂ (λ (x y : ℕ). Span (quad_row_at q') (spline_at (put_spline s edit) j).curvature x y j) (sym (topped_low S.cut t k' j (le_of_lt l)))
              (sym (topped_low S.cut t k' (suc j) l))
              (span_agree (quad_row_at w.quads) (quad_row_at q') (spline_at s j).curvature (spline_at (put_spline s edit) j).curvature (S.cut j)
              (S.cut (suc j)) j
              (below (S.cut (suc j)) (cut_le caps w S (suc j) (le_trans l T≤)))
              (total_other s edit j (λ e. ne_of_lt l (e ∙ at)))
              (S.span j (lt_of_lt_of_le l T≤)))
        ];
        ranged = λ j h. elim (eq-or-lt_of_le (le_of_suc-le-suc (lt_of_lt_of_le h (le_of_eq next)))) [
          | inl e ↦
              subst (λ (x : ℕ). Ranged (spline_at (put_spline s edit) x) (topped S.cut t k' x) (topped S.cut t k' (suc x))) (sym e)
              (subst₂ (λ (x y : ℕ). Ranged (spline_at (put_spline s edit) t) x y) (sym (topped_low S.cut t k' t (le_refl t)))
              (sym (topped_high S.cut t k' (suc t) (le_refl (suc t))))
              (new_range at first count R.ordered (few_quads (quad_row_at q') total (S.cut t) k' t R)))
          | inr l ↦
              subst₂ (λ (x y : ℕ). Ranged (spline_at (put_spline s edit) j) x y) (sym (topped_low S.cut t k' j (le_of_lt l)))
              (sym (topped_low S.cut t k' (suc j) l))
              (ranged_other s edit j (S.cut j) (S.cut (suc j)) (λ e. ne_of_lt l (e ∙ at)) (S.ranged j (lt_of_lt_of_le l T≤)))
        ];
        room =
            record {
              quads = le_trans (le_of_eq quads) K;
              splines = le_trans (le_of_eq next) T<;
              rows = le_trans S.room.rows (le_of_eq (sym l));
              totals = le_trans S.room.totals (le_of_eq (sym (totals_length s edit)));
              flags = le_trans S.room.flags (le_of_eq (sym (flags_length s edit)));
              firsts = le_trans S.room.firsts (le_of_eq (sym (firsts_length s edit)));
              counts = le_trans S.room.counts (le_of_eq (sym (counts_length s edit)));
            };
        waits = λ e. lt_of_lt_of_le (pos t) (le_of_eq (sym next));
      }
    where
      pos : (t : ℕ) → 0 < suc t
      pos t = omega arith

      new_total : edit.at ≡ t → edit.row.curvature ≡ total → (spline_at (put_spline w.splines edit) t).curvature ≡ total
      new_total at row =
          subst (λ (x : ℕ). (spline_at (put_spline w.splines edit) x).curvature ≡ edit.row.curvature) at
          (total_same w.splines edit (lt_of_le_of_lt (le_of_eq at) (lt_of_lt_of_le T< S.room.totals))) ∙ row

      new_range : edit.at ≡ t → edit.row.first_quad ≡ S.cut t → edit.row.quad_count ≡ quad_count_of (S.cut t) k'
          → S.cut t ≤ k' → k' ≤ S.cut t + 65536 → Ranged (spline_at (put_spline w.splines edit) t) (S.cut t) k'
      new_range at first count up few =
          subst (λ (x : ℕ). Ranged (spline_at (put_spline w.splines edit) x) (S.cut t) k') at
          (ranged_new w.splines edit (S.cut t) k' (lt_of_le_of_lt (le_of_eq at) (lt_of_lt_of_le T< S.room.firsts))
          (lt_of_le_of_lt (le_of_eq at) (lt_of_lt_of_le T< S.room.counts))
          (record { first = first; count = ap (λ (x : ℕ). S.cut t + x) count ∙ count_fits (S.cut t) k' up few }))

      below : (hi : ℕ) → hi ≤ w.state.quads → Agree (quad_row_at w.quads) (quad_row_at q') hi
      below hi h i l = A i (lt_of_lt_of_le l h)

  -- ---- the spline that is opened or joined, as it was
  before_open : Span (quad_row_at w.quads) zero32 (S.cut w.state.splines) w.state.quads w.state.splines
  before_open = subst (λ (x : ℕ). Span (quad_row_at w.quads) zero32 (S.cut w.state.splines) x w.state.splines) S.all
      (span_none (quad_row_at w.quads) (S.cut w.state.splines) w.state.splines)

  before_join : 0 < w.state.splines
      → Span (quad_row_at w.quads) (last_of w).curvature (S.cut (w.state.splines - 1)) w.state.quads (w.state.splines - 1)
  before_join h =
      let n = w.state.splines in
      let p = pred_suc n h in
      subst₂ (λ (x : Float) (y : ℕ). Span (quad_row_at w.quads) x (S.cut (n - 1)) y (n - 1)) (sym (ap (λ (r : SplineRow). r.curvature) (last_is w h)))
      (ap S.cut p ∙ S.all)
      (S.span (n - 1) (le_of_eq p))

  -- the first quad of a spline that is opened, and of the last one
  opened_first : w.state.quads ≡ S.cut w.state.splines
  opened_first = sym S.all

  joined_first : 0 < w.state.splines → (last_of w).first_quad ≡ S.cut (w.state.splines - 1)
  joined_first h =
      ap (λ (r : SplineRow). r.first_quad) (last_is w h) ∙ (S.ranged (w.state.splines - 1) (le_of_eq (pred_suc w.state.splines h))).first

  -- the sum that a spline has before one more quad: zero, or a running sum
  pub sum_before_lem : (opens : Bool) → (opens ≡ false → w.state.mark ≡ false)
      → T (natural (sum_before opens (last_of w))) × (num (sum_before opens (last_of w)) ≤ 65536 * den (sum_before opens (last_of w)))
  unfolding sum_before
  sum_before_lem true h = (zero_natural, le_trans (le_of_eq zero_num) zero-le)
  sum_before_lem false h = elim (span_total (quad_row_at w.quads) (last_of w).curvature _ _ _ (before_join (S.waits (h refl)))) [
    | inl z ↦ subst (λ (x : Float). T (natural x) × (num x ≤ 65536 * den x)) (sym z.1) (zero_natural, le_trans (le_of_eq zero_num) zero-le)
    | inr z ↦ (positive_natural (last_of w).curvature z.sum.real, z.sum.most)
  ]

  sound_lined : {setting : Setting} {kind : Kind} (opens : Bool) (start end : Point) (angle : Angle) → Allowed setting kind caps w opens
      → Sound caps (apply_of (Extend (spline_edit w opens start end (sum_before opens (last_of w)) w.state.quads angle)) w.quads w.splines)
  unfolding apply_of spline_edit_of sum_before
  sound_lined true start end angle A =
      let n = w.state.splines in
      put (spline_edit w true start end zero32 w.state.quads angle) w.quads n w.state.quads zero32 (le_refl n) (A.room refl)
      S.room.quads refl refl opened_first (ap (λ (x : ℕ). quad_count_of x w.state.quads) opened_first) (add-one n) refl
      (agree_self (quad_row_at w.quads) w.state.quads) refl before_open
  sound_lined false start end angle A =
      let n = w.state.splines in
      let N = S.waits (A.joins refl) in
      put (spline_edit w false start end (last_of w).curvature w.state.quads angle) w.quads (n - 1) w.state.quads (last_of w).curvature (sub-le n 1)
      (lt_of_lt_of_le (pred_lt n N) S.room.splines) S.room.quads refl refl (joined_first N)
      (ap (λ (x : ℕ). quad_count_of x w.state.quads) (joined_first N)) (sym (pred_suc n N)) refl
      (agree_self (quad_row_at w.quads) w.state.quads) refl (before_join N)

  sound_bent : {setting : Setting} {kind : Kind} (opens : Bool) (start end : Point) (angle : Angle) (c : Float) (row : QuadRow)
      → Allowed setting kind caps w opens → Bent c → w.state.quads < caps.quads → T (le (sum_before opens (last_of w) ⊕ c) limit32)
      → RowOf row start end (sum_before opens (last_of w) ⊕ c)
      (spline_edit w opens start end (sum_before opens (last_of w) ⊕ c) (w.state.quads + 1) angle).at
      → Sound caps (apply_of (Bend (spline_edit w opens start end (sum_before opens (last_of w) ⊕ c) (w.state.quads + 1) angle) w.state.quads row)
      w.quads w.splines)
  unfolding apply_of spline_edit_of sum_before
  sound_bent true start end angle c row A B K fit R =
      let n = w.state.splines in
      let k = w.state.quads in
      let q = w.quads in
      let stored = row_put q k row (lt_of_lt_of_le K S.room.rows) in
      put (spline_edit w true start end (zero32 ⊕ c) (k + 1) angle) (put_quad q k row) n (suc k) (zero32 ⊕ c) (le_refl n) (A.room refl) K refl refl opened_first
      (ap₂ quad_count_of opened_first (add-one k)) (add-one n) (add-one k)
      (agree_put q k row) (capacity_stays q k row)
      (span_more (quad_row_at q) (quad_row_at (put_quad q k row)) zero32 c (S.cut n) k n before_open (agree_put q k row) B fit (same_sum stored ∙ R.total)
      (same_owner stored ∙ R.owner))
  sound_bent false start end angle c row A B K fit R =
      let n = w.state.splines in
      let k = w.state.quads in
      let q = w.quads in
      let N = S.waits (A.joins refl) in
      let stored = row_put q k row (lt_of_lt_of_le K S.room.rows) in
      put (spline_edit w false start end ((last_of w).curvature ⊕ c) (k + 1) angle) (put_quad q k row) (n - 1) (suc k) ((last_of w).curvature ⊕ c) (sub-le n 1)
      (lt_of_lt_of_le (pred_lt n N) S.room.splines) K refl refl (joined_first N) (ap₂ quad_count_of (joined_first N) (add-one k)) (sym (pred_suc n N)) (add-one k)
      (agree_put q k row) (capacity_stays q k row)
      (span_more (quad_row_at q) (quad_row_at (put_quad q k row)) (last_of w).curvature c (S.cut (n - 1)) k (n - 1) (before_join N) (agree_put q k row) B fit
      (same_sum stored ∙ R.total) (same_owner stored ∙ R.owner))

  same_tables : (st : State) → st.splines ≡ w.state.splines → st.quads ≡ w.state.quads → (st.mark ≡ false → w.state.mark ≡ false)
      → Sound caps (world st w.quads w.splines)
  same_tables st e f m =
      record {
        cut = S.cut;
        first = S.first;
        all = ap S.cut e ∙ S.all ∙ sym f;
        span = λ j h. S.span j (lt_of_lt_of_le h (le_of_eq e));
        ranged = λ j h. S.ranged j (lt_of_lt_of_le h (le_of_eq e));
        room =
            record {
              quads = le_trans (le_of_eq f) S.room.quads;
              splines = le_trans (le_of_eq e) S.room.splines;
              rows = S.room.rows;
              totals = S.room.totals;
              flags = S.room.flags;
              firsts = S.room.firsts;
              counts = S.room.counts;
            };
        waits = λ h. lt_of_lt_of_le (S.waits (m h)) (le_of_eq (sym e));
      }

  pub sound_push : {setting : Setting} {b : Bool} {w' : World} → Pushed setting caps w b w' → Sound caps w'
  unfolding refused_of marked_of
  sound_push (kept answer) = same_tables (refused_of w.state answer) refl refl (λ h. h)
  sound_push {setting} marked = same_tables (marked_of setting w.state) refl refl (λ h. absurd (true≢false h))
  sound_push (lined opens start end angle A) = sound_lined opens start end angle A
  sound_push (bent opens start end angle c row A B K fit R) = sound_bent opens start end angle c row A B K fit R

-- ---- a run
pub sound_run : (setting : Setting) (caps : Capacities) (ps : List Primitive) (w : World) → Sound caps w → Sound caps (run_of setting caps ps w)
unfolding run_of
sound_run setting caps [] w S = S
sound_run setting caps (p ∷ ps) w S = sound_run setting caps ps (cond (is_done w.state.answer) (push_of setting caps p w) w) (go (is_done w.state.answer))
  where
    go : (b : Bool) → Sound caps (cond b (push_of setting caps p w) w)
    go true = sound_push caps w S (pushed setting caps w p)
    go false = S

-- ---- where it starts, with any tables
skip : (a b c : ℕ) → b ≤ c → min a b ≤ c
skip a b c h = omega arith

module _ (q : QuadTable) (s : SplineTable) where
  ranges_room : (spline_capacity_of s ≤ length s.first_quad) × (spline_capacity_of s ≤ length s.quad_count)
  unfolding spline_capacity_of
  ranges_room =
      let firsts = skip _ _ _ (skip _ _ _ (skip _ _ _ (skip _ _ _ (skip _ _ _ (skip _ _ _ (skip _ _ _ (min-le_left _ _))))))) in
      let counts = skip _ _ _ (skip _ _ _ (skip _ _ _ (skip _ _ _ (skip _ _ _ (skip _ _ _ (skip _ _ _ (min-le_right _ _))))))) in
      (firsts, counts)

  pub splines_room : (spline_capacity_of s ≤ length s.curvature) × (spline_capacity_of s ≤ length s.contour) × (spline_capacity_of s ≤ index_limit)
  unfolding spline_capacity_of
  splines_room = (skip _ _ _ (min-le_left _ _), skip _ _ _ (skip _ _ _ (skip _ _ _ (skip _ _ _ (skip _ _ _ (skip _ _ _ (min-le_left _ _)))))), min-le_left _ _)

  pub sound_start : Sound (capacities_of q s) (world start_state q s)
  unfolding capacities_of
  sound_start =
      record {
        cut = λ j. 0;
        first = refl;
        all = refl;
        span = λ j h. absurd (not-suc-le-zero h);
        ranged = λ j h. absurd (not-suc-le-zero h);
        room =
            record {
              quads = zero-le;
              splines = zero-le;
              rows = le_refl (quad_capacity_of q);
              totals = splines_room.0;
              flags = splines_room.1;
              firsts = ranges_room.0;
              counts = ranges_room.1;
            };
        waits = λ h. absurd (true≢false h);
      }

pub sound : (setting : Setting) (ps : List Primitive) (q : QuadTable) (s : SplineTable)
    → Sound (capacities_of q s) (run_of setting (capacities_of q s) ps (world start_state q s))
sound setting ps q s = sound_run setting (capacities_of q s) ps (world start_state q s) (sound_start q s)
