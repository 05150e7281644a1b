-- The spline that a quad belongs to, and what that says of the spline's sum: it is 0 exactly if the spline has no quad. Assumes nothing.
use Prim.Native.Nat.{ℕ, zero, suc, ◌*◌, ◌≤◌, ◌<◌}
use mathlib.Core.Path.{◌≡◌, refl, sym, ap, ◌∙◌, subst}
use mathlib.Core.Logic.{inl, inr}
use mathlib.Core.Bool.{Bool, true, false, ◌&&◌, cond, true≢false}
use native.Mathlib.Nat.{le_trans, le_of_eq, le_refl, le_of_lt, lt_of_lt_of_le, lt_of_le_of_lt, lt_irrefl, not-suc-le-zero, mul-pos, zero-mul}
use native.Mathlib.Decide.{dec_lt}
use native.Mathlib.Omega.{by_contra}
use lib.Dec.{T, ltb→lt}
use lib.Ieee.{Float, nan, inf, fin, up, down, eq, of_bits}
use lib.Ieee.Fits.{up_pos}
use lib.Ieee.Positive.{positive}
use borrow.Author.Tests.{ne_eqb}
use Rattle.leaves.specs.Single.{zero32}
use Rattle.primitives.specs.declared.Capacities.{Capacities}
use Rattle.primitives.specs.declared.Kind.{Kind}
use Rattle.primitives.specs.declared.Kind.TheVariants.{Straight, Round}
use Rattle.primitives.specs.declared.QuadRow.{QuadRow}
use Rattle.primitives.specs.declared.SplineRow.{SplineRow}
use Rattle.primitives.specs.Splines.{spline_kind_of}
use Rattle.tables.specs.Tables.{quad_row_at, spline_at}
use Rattle.tables.specs.Run.{World}
use Rattle.tables.proofs.RunningSums.{Sum}
use Rattle.tables.proofs.Spans.{owner_at, span_total}
use Rattle.tables.proofs.Sound.{Sound}

-- ---- a spline's kind by its sum
above_zero : (x : Float) → T (positive x) → eq x zero32 ≡ false
unfolding eq of_bits
above_zero nan h = absurd h
above_zero (inf s) h = absurd h
above_zero (fin true m e) h = absurd h
above_zero (fin false m e) h =
    ap (λ (b : Bool). b && true)
    (ne_eqb (m * up e * 1) (0 * down e) (λ z. lt_irrefl 0 (lt_of_lt_of_le (some m (up e) (ltb→lt 0 m h) (up_pos e)) (le_of_eq (z ∙ zero-mul (down e))))))
  where
    some : (m u : ℕ) → 0 < m → 0 < u → 0 < m * u * 1
    some m u h k = mul-pos (mul-pos h k) (le_refl 1)

pub sum_round : (row : SplineRow) → Sum row.curvature → spline_kind_of row ≡ Round
unfolding spline_kind_of
sum_round row S = ap (λ (b : Bool). cond b Straight Round) (above_zero row.curvature S.real)

zero_same : eq zero32 zero32 ≡ true
unfolding eq of_bits
zero_same = refl

pub zero_straight : (row : SplineRow) → row.curvature ≡ zero32 → spline_kind_of row ≡ Straight
unfolding spline_kind_of
zero_straight row e = ap (λ (b : Bool). cond b Straight Round) (ap (λ (x : Float). eq x zero32) e ∙ zero_same)

unfoldable straight : Kind → Bool
straight Straight = true
straight Round = false

pub not_both : {kind : Kind} → kind ≡ Straight → kind ≡ Round → ⊥
unfolding straight
not_both e f = true≢false (ap straight (sym e ∙ f))

module _ (caps : Capacities) (w : World) (S : Sound caps w) where
  abbrev rows : ℕ → QuadRow
  rows = quad_row_at w.quads

  -- ---- the spline of a quad
  pub record Home (i : ℕ) : Type 0 where
    pub spline : ℕ
    pub inside : spline < w.state.splines
    pub low : S.cut spline ≤ i
    pub high : i < S.cut (suc spline)

  pub home : (i : ℕ) → i < w.state.quads → Home i
  home i h = go w.state.splines (le_refl w.state.splines) (lt_of_lt_of_le h (le_of_eq (sym S.all)))
    where
      step : (n : ℕ) → suc n ≤ w.state.splines → i < S.cut (suc n) → Dec (i < S.cut n) → (i < S.cut n → Home i) → Home i
      step n l g (yes z) f = f z
      step n l g (no z) f = record { spline = n; inside = l; low = by_contra (S.cut n) i z; high = g }

      go : (n : ℕ) → n ≤ w.state.splines → i < S.cut n → Home i
      go zero l g = absurd (not-suc-le-zero (lt_of_lt_of_le g (le_of_eq S.first)))
      go (suc n) l g = step n l g (dec_lt i (S.cut n)) (go n (le_trans (le_of_lt (le_refl (suc n))) l))

  pub home_owner : (i : ℕ) (H : Home i) → owner_at rows i ≡ H.spline
  home_owner i H = (S.span H.spline H.inside).owned i H.low H.high

  -- ---- quad i is one of spline k
  pub owned : (i k : ℕ) → i < w.state.quads → owner_at rows i ≡ k → (k < w.state.splines) × (S.cut k ≤ i) × (i < S.cut (suc k))
  owned i k h e =
      let H = home i h in
      subst (λ (x : ℕ). (x < w.state.splines) × (S.cut x ≤ i) × (i < S.cut (suc x))) (sym (home_owner i H) ∙ e) (H.inside, H.low, H.high)

  pub owned_round : (i k : ℕ) → i < w.state.quads → owner_at rows i ≡ k → spline_kind_of (spline_at w.splines k) ≡ Round
  owned_round i k h e =
      let z = owned i k h e in
      elim (span_total rows (spline_at w.splines k).curvature (S.cut k) (S.cut (suc k)) k (S.span k z.0)) [
        | inl y ↦ absurd (lt_irrefl i (lt_of_lt_of_le z.2 (le_trans (le_of_eq (sym y.0)) z.1)))
        | inr y ↦ sum_round (spline_at w.splines k) y.sum
      ]

  -- a round spline has a first quad
  pub round_quads : (k : ℕ) → k < w.state.splines → spline_kind_of (spline_at w.splines k) ≡ Round → S.cut k < S.cut (suc k)
  round_quads k h e = elim (span_total rows (spline_at w.splines k).curvature (S.cut k) (S.cut (suc k)) k (S.span k h)) [
    | inl y ↦ absurd (not_both (zero_straight (spline_at w.splines k) y.1) e)
    | inr y ↦ lt_of_le_of_lt y.inside (le_of_eq y.next)
  ]
