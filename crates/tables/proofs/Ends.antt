-- The ends of the splines: what is written there, and that the columns have room for them. Assumes nothing.
use Prim.Native.Nat.{ℕ, ◌≤◌, ◌<◌, min}
use mathlib.Core.Path.{◌≡◌, sym, ap, ap₂, ◌∙◌}
use mathlib.Core.Logic.{◌≢◌}
use mathlib.Core.List.{List}
use native.Mathlib.Nat.{le_trans, le_of_eq, min-le_left, min-le_right}
use lib.Ieee.{Float, nan}
use lib.ListN.{length, get_or, set, length-set}
use lib.Seq.{get_or-set_same, get_or-set_other, set-get_or}
use Rattle.point.specs.declared.Point.{Point}
use Rattle.point.specs.Point.{point_at}
use Rattle.primitives.specs.Edits.{SplineEdit}
use Rattle.tables.specs.Tables.{SplineTable, spline_capacity_of, put_spline, spline_at}

-- ---- the rows after a spline is written
module _ (s : SplineTable) (edit : SplineEdit) where
  pub end_new : edit.at < length s.p2x → edit.at < length s.p2y → (spline_at (put_spline s edit) edit.at).p2 ≡ edit.row.p2
  unfolding put_spline spline_at
  end_new h k =
      ap₂ (λ (x y : Float). point_at x y) (get_or-set_same s.p2x edit.at edit.row.p2.x nan h)
      (get_or-set_same s.p2y edit.at edit.row.p2.y nan k)

  pub start_new : edit.at < length s.p0x → edit.at < length s.p0y → (spline_at (put_spline s edit) edit.at).p0 ≡ edit.row.p0
  unfolding put_spline spline_at
  start_new h k =
      ap₂ (λ (x y : Float). point_at x y) (get_or-set_same s.p0x edit.at edit.row.p0.x nan h)
      (get_or-set_same s.p0y edit.at edit.row.p0.y nan k)

  -- a row that is written with the start that it has
  pub start_same : edit.row.p0 ≡ (spline_at s edit.at).p0 → (j : ℕ) → (spline_at (put_spline s edit) j).p0 ≡ (spline_at s j).p0
  unfolding put_spline spline_at
  start_same e j =
      ap₂ (λ (x y : Float). point_at x y)
      (ap (λ (p : Point). get_or (set s.p0x edit.at p.x) j nan) e ∙ ap (λ (l : List Float). get_or l j nan) (set-get_or s.p0x edit.at nan))
      (ap (λ (p : Point). get_or (set s.p0y edit.at p.y) j nan) e ∙ ap (λ (l : List Float). get_or l j nan) (set-get_or s.p0y edit.at nan))

  -- another row
  module _ (j : ℕ) (h : j ≢ edit.at) where
    pub end_stays : (spline_at (put_spline s edit) j).p2 ≡ (spline_at s j).p2
    unfolding put_spline spline_at
    end_stays =
        ap₂ (λ (x y : Float). point_at x y) (get_or-set_other s.p2x edit.at j edit.row.p2.x nan h)
        (get_or-set_other s.p2y edit.at j edit.row.p2.y nan h)

    pub start_stays : (spline_at (put_spline s edit) j).p0 ≡ (spline_at s j).p0
    unfolding put_spline spline_at
    start_stays =
        ap₂ (λ (x y : Float). point_at x y) (get_or-set_other s.p0x edit.at j edit.row.p0.x nan h)
        (get_or-set_other s.p0y edit.at j edit.row.p0.y nan h)

-- ---- the columns of the ends take as many splines as the capacity says
pub record Wide (n : ℕ) (s : SplineTable) : Type 0 where
  pub p0x : n ≤ length s.p0x
  pub p0y : n ≤ length s.p0y
  pub p2x : n ≤ length s.p2x
  pub p2y : n ≤ length s.p2y

skip : (a b c : ℕ) → b ≤ c → min a b ≤ c
skip a b c h = le_trans (min-le_right a b) h

pub table_wide : (s : SplineTable) → Wide (spline_capacity_of s) s
unfolding spline_capacity_of
table_wide s =
    record {
      p0x = skip _ _ _ (skip _ _ _ (min-le_left _ _));
      p0y = skip _ _ _ (skip _ _ _ (skip _ _ _ (min-le_left _ _)));
      p2x = skip _ _ _ (skip _ _ _ (skip _ _ _ (skip _ _ _ (min-le_left _ _))));
      p2y = skip _ _ _ (skip _ _ _ (skip _ _ _ (skip _ _ _ (skip _ _ _ (min-le_left _ _)))));
    }

pub put_wide : (n : ℕ) (s : SplineTable) (edit : SplineEdit) → Wide n s → Wide n (put_spline s edit)
unfolding put_spline
put_wide n s edit W =
    record {
      p0x = le_trans W.p0x (le_of_eq (sym (length-set s.p0x edit.at _)));
      p0y = le_trans W.p0y (le_of_eq (sym (length-set s.p0y edit.at _)));
      p2x = le_trans W.p2x (le_of_eq (sym (length-set s.p2x edit.at _)));
      p2y = le_trans W.p2y (le_of_eq (sym (length-set s.p2y edit.at _)));
    }
