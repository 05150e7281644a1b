-- The way there and back: a list that `spread` wrote to the columns is what `fill` then reads from them, whatever the list that it fills held.
-- Assumes nothing.
use mathlib.Core.Path.{◌≡◌, sym, ◌∙◌, ap}
use mathlib.Core.Bool.{Bool, true, cond}
use Prim.Native.Nat.{ℕ, ◌≤◌, ◌<◌}
use native.Mathlib.Nat.{le_of_eq}
use native.Mathlib.Omega.{arith}
use mathlib.Core.List.{List}
use lib.Ieee.{nan}
use lib.ListN.{length, get_or}
use lib.Seq.{ext_get_or}
use Rattle.columns.proofs.Flags.{flag_back}
use Rattle.tables.specs.Tables.{SplineTable, spline_table, spline_at}
use Rattle.primitives.specs.declared.SplineRow.{SplineRow}
use Rattle.spline_list.specs.Rows.{blank, equal_of, fills, spreads, fill_of, spread_of}
use Rattle.spline_list.proofs.Laws.{stores-length, stores_at, curvature_of_lem, p0x_of, p0y_of, p2x_of, p2y_of, contour_of, first_quad_of, quad_count_of_lem}
use Rattle.spline_list.proofs.Laws.{puts, puts_length, puts_spreads}
use Rattle.spline_list.proofs.Agreed.{Equal, equal}

-- the columns once the list is spread
abbrev written : List SplineRow → ℕ → SplineTable → SplineTable
written ys n t =
    spline_table (puts curvature_of_lem n ys t.curvature) (puts p0x_of n ys t.p0x) (puts p0y_of n ys t.p0y) (puts p2x_of n ys t.p2x)
    (puts p2y_of n ys t.p2y) (puts contour_of n ys t.contour) (puts first_quad_of n ys t.first_quad)
    (puts quad_count_of_lem n ys t.quad_count)

module _ (ys : List SplineRow) (t : SplineTable) (n : ℕ) (e : Equal ys t n) where
  reads : {X : Type 0} (g : SplineRow → X) (xs : List X) (d : X) → n ≤ length xs → (i : ℕ) → i < n → get_or (puts g n ys xs) i d ≡ g (get_or ys i blank)
  reads g xs d has i less = stores_at (λ (j : ℕ). g (get_or ys j blank)) xs d n i less has

  row_back : (i : ℕ) → i < n → spline_at (written ys n t) i ≡ get_or ys i blank
  unfolding spline_at
  row_back i less =
      rw (
        reads curvature_of_lem t.curvature nan e.curvature_has i less,
        reads p0x_of t.p0x nan e.p0x_has i less,
        reads p0y_of t.p0y nan e.p0y_has i less,
        reads p2x_of t.p2x nan e.p2x_has i less,
        reads p2y_of t.p2y nan e.p2y_has i less,
        reads contour_of t.contour 0 e.contour_has i less,
        reads first_quad_of t.first_quad 0 e.first_quad_has i less,
        reads quad_count_of_lem t.quad_count 0 e.quad_count_has i less,
        flag_back (get_or ys i blank).contour,
      )

  fills_back : (zs : List SplineRow) → n ≡ length zs → fills (written ys n t) n zs ≡ ys
  fills_back zs l = ext_get_or blank (fills (written ys n t) n zs) ys (long ∙ sym l ∙ e.list_is) same
    where
      long : length (fills (written ys n t) n zs) ≡ length zs
      long = stores-length (spline_at (written ys n t)) zs n

      same : (i : ℕ) → i < length (fills (written ys n t) n zs) → get_or (fills (written ys n t) n zs) i blank ≡ get_or ys i blank
      same i less = stores_at (spline_at (written ys n t)) zs blank n i below (le_of_eq l) ∙ row_back i below
        where
          below : i < n
          below = let h : length (fills (written ys n t) n zs) ≡ length zs = long in omega (arith, h, l, less)

  lengths : (zs : List SplineRow) → n ≡ length zs → equal_of zs (written ys n t) n ≡ equal_of ys t n
  lengths zs l =
      rw (
        sym l,
        sym e.list_is,
        puts_length curvature_of_lem n ys t.curvature,
        puts_length p0x_of n ys t.p0x,
        puts_length p0y_of n ys t.p0y,
        puts_length p2x_of n ys t.p2x,
        puts_length p2y_of n ys t.p2y,
        puts_length contour_of n ys t.contour,
        puts_length first_quad_of n ys t.first_quad,
        puts_length quad_count_of_lem n ys t.quad_count,
      )

pub round_trip : (ys zs : List SplineRow) (t : SplineTable) (n : ℕ) → equal_of ys t n ≡ true → n ≡ length zs → fill_of (spread_of ys n t) n zs ≡ ys
round_trip ys zs t n e l =
    ap (λ (s : SplineTable). fill_of s n zs) (ap (λ (b : Bool). cond b (spreads ys n t) t) e ∙ sym (puts_spreads ys t n))
    ∙ ap (λ (b : Bool). cond b (fills (written ys n t) n zs) zs) (lengths ys t n same zs l ∙ e) ∙ fills_back ys t n same zs l
  where
    same : Equal ys t n
    same = equal ys t n e
