-- Over sound tables each spline has no quad and no step, or it ends at a quad whose sum no step of it reaches. So the cursor comes to each spline at or before
-- its first quad. Assumes nothing.
use mathlib.Core.Path.{◌≡◌, ap, ◌∙◌, subst}
use mathlib.Core.Logic.{◌⊎◌, inl, inr}
use mathlib.Core.Bool.{Bool, cond}
use Prim.Native.Nat.{ℕ, suc, ◌+◌, ◌-◌, ◌≤◌, ◌<◌}
use native.Mathlib.Nat.{le_trans, le_of_eq}
use native.Mathlib.Numerals.{add-one}
use native.Mathlib.Omega.{arith}
use lib.Dec.{eqb, eqb→eq, not_T}
use lib.Ieee.{Float}
use lib.Ieee.Bits.{is_true, is_false}
use lib.Ieee.Fits.{eq→eqb}
use Rattle.leaves.specs.Single.{zero32}
use Rattle.leaves.specs.Whole.{whole_up_of}
use Rattle.point.specs.declared.Setting.{Setting}
use Rattle.point.specs.declared.Setting.TheVariants.{Screen, Knife}
use Rattle.primitives.specs.declared.Capacities.{Capacities}
use Rattle.primitives.specs.declared.QuadRow.{QuadRow}
use Rattle.tables.specs.Tables.{quad_row_at, spline_at}
use Rattle.tables.specs.Run.{World}
use Rattle.tables.proofs.RunningSums.{Sum, Up, no_steps, up_bounds, up_two}
use Rattle.tables.proofs.Spans.{sum_at, LastOf, span_total}
use Rattle.tables.proofs.Sound.{Sound}
use Rattle.walk.specs.Walk.{subdivisions_of, cursor_start_of, cursor_from, cursor_after}
use Rattle.promises.proofs.Cursor.{cursor_from_under}

-- m is over 1 where there is a quad, and then the steps are 1 to m - 1
pub all_steps : (m : ℕ) → 2 ≤ m → 1 + (m - 1) ≤ m
all_steps m h = omega arith

pub none_left : (m : ℕ) → m ≡ 0 → m - 1 ≡ 0
none_left m e = omega arith

module _ (caps : Capacities) (w : World) (S : Sound caps w) where
  abbrev rows : ℕ → QuadRow
  rows = quad_row_at w.quads

  -- the number m of spline k
  abbrev ups : ℕ → ℕ
  ups k = subdivisions_of w.splines k

  -- spline k ends at quad `at`
  pub record Ends (k : ℕ) : Type 0 where
    pub at : ℕ
    pub inside : S.cut k ≤ at
    pub next : suc at ≡ S.cut (suc k)
    pub sum : Sum (sum_at rows at)
    pub up : Up (sum_at rows at) (ups k)
    pub many : 2 ≤ ups k

  pub ends : (k : ℕ) → k < w.state.splines → ((S.cut k ≡ S.cut (suc k)) × (ups k ≡ 0)) ⊎ Ends k
  unfolding subdivisions_of
  ends k h = go (span_total rows total (S.cut k) (S.cut (suc k)) k (S.span k h))
    where
      total : Float
      total = (spline_at w.splines k).curvature

      go : ((S.cut k ≡ S.cut (suc k)) × (total ≡ zero32)) ⊎ LastOf rows total (S.cut k) (S.cut (suc k))
          → ((S.cut k ≡ S.cut (suc k)) × (ups k ≡ 0)) ⊎ Ends k
      go (inl z) = inl (z.0, ap whole_up_of z.1 ∙ no_steps)
      go (inr L) =
          let sum = subst Sum L.same L.sum in
          let up = subst (λ (x : Float). Up x (whole_up_of total)) L.same (up_bounds total L.sum) in
          inr (record { at = L.at; inside = L.inside; next = L.next; sum = sum; up = up; many = up_two (sum_at rows L.at) (ups k) sum up })

  -- ---- the cursor after spline k
  pub after_none : (k c : ℕ) → ups k ≡ 0 → cursor_after rows w.splines k c ≡ c
  unfolding cursor_after
  after_none k c e = ap (λ (b : Bool). cond b c (cursor_from rows (ups k - 1) 1 c + 1)) (is_true (eqb (ups k) 0) (eq→eqb e))

  pub after_some : (k c : ℕ) → 2 ≤ ups k → cursor_after rows w.splines k c ≡ suc (cursor_from rows (ups k - 1) 1 c)
  unfolding cursor_after
  after_some k c h =
      ap (λ (b : Bool). cond b c (cursor_from rows (ups k - 1) 1 c + 1))
      (is_false (eqb (ups k) 0) (not_T (eqb (ups k) 0) (λ t. no (ups k) h (eqb→eq (ups k) 0 t))))
      ∙ add-one _
    where
      no : (m : ℕ) → 2 ≤ m → m ≡ 0 → ⊥
      no m h e = omega arith

  abbrev pub Early : ℕ → ℕ → Type 0
  Early k c = c ≤ S.cut k

  pub starts_early : (setting : Setting) (k c : ℕ) → k < w.state.splines → Early k c → Early k (cursor_start_of setting (spline_at w.splines k).first_quad c)
  unfolding cursor_start_of
  starts_early Screen k c h e = e
  starts_early Knife k c h e = le_of_eq (S.ranged k h).first

  -- for the knife it begins just there
  pub starts_exact : (k c : ℕ) → k < w.state.splines → cursor_start_of Knife (spline_at w.splines k).first_quad c ≡ S.cut k
  unfolding cursor_start_of
  starts_exact k c h = (S.ranged k h).first

  pub starts_exactly : (setting : Setting) (k c : ℕ) → k < w.state.splines → c ≡ S.cut k → cursor_start_of setting (spline_at w.splines k).first_quad c ≡ S.cut k
  unfolding cursor_start_of
  starts_exactly Screen k c h e = e
  starts_exactly Knife k c h e = starts_exact k c h

  pub stays_early : (k c : ℕ) → k < w.state.splines → Early k c → Early (suc k) (cursor_after rows w.splines k c)
  stays_early k c h e = elim (ends k h) [
    | inl z ↦ le_trans (le_of_eq (after_none k c z.1)) (le_trans e (le_of_eq z.0))
    | inr L ↦
        le_trans (le_of_eq (after_some k c L.many))
        (le_trans (up (cursor_from_under rows L.at (ups k) L.sum L.up (ups k - 1) 1 c (le_trans e L.inside) (all_steps (ups k) L.many)))
        (le_of_eq L.next))
  ]
    where
      up : {a b : ℕ} → a ≤ b → suc a ≤ suc b
      up h = omega arith
