-- The rows of the spline table after an edit is stored: the edit's own row; the one before it, which loses its flag where the edit clears that; and the others, which
-- stay. The capacity stays too. Assumes nothing.
use Prim.Native.Nat.{ℕ, ◌-◌, ◌<◌, min}
use mathlib.Core.Path.{◌≡◌, refl, sym, ap, ◌∙◌}
use mathlib.Core.Logic.{◌≢◌}
use mathlib.Core.Bool.{Bool, true, false}
use native.Mathlib.Nat.{le_of_eq, lt_of_lt_of_le, min-le_left, min-le_right}
use lib.Ieee.{nan}
use lib.ListN.{length, get_or, set, length-set}
use lib.Seq.{get_or-set_same, get_or-set_other}
use Rattle.columns.proofs.Flags.{flag_back}
use Rattle.columns.specs.Flags.{flag_byte_of, is_flag_of}
use Rattle.primitives.specs.declared.SplineRow.{SplineRow}
use Rattle.primitives.specs.Edits.{SplineEdit}
use Rattle.tables.specs.Tables.{SplineTable, spline_capacity_of, clear_flag, put_spline, spline_at}

-- a row with this flag
abbrev pub flagged_as : Bool → SplineRow → SplineRow
flagged_as flag row =
    record {
      curvature = row.curvature;
      p0 = row.p0;
      p2 = row.p2;
      contour = flag;
      first_quad = row.first_quad;
      quad_count = row.quad_count;
    }

-- every column has spline k
record Takes (s : SplineTable) (k : ℕ) : Type 0 where
  curvature : k < length s.curvature
  p0x : k < length s.p0x
  p0y : k < length s.p0y
  p2x : k < length s.p2x
  p2y : k < length s.p2y
  contour : k < length s.contour
  first_quad : k < length s.first_quad
  quad_count : k < length s.quad_count

under : {k a b : ℕ} → k < min a b → (k < a) × (k < b)
under {k} {a} {b} h = (lt_of_lt_of_le h (min-le_left a b), lt_of_lt_of_le h (min-le_right a b))

takes : (s : SplineTable) (k : ℕ) → k < spline_capacity_of s → Takes s k
unfolding spline_capacity_of
takes s k h =
    let a = under (under h).1 in
    let b = under a.1 in
    let c = under b.1 in
    let d = under c.1 in
    let e = under d.1 in
    let f = under e.1 in
    let g = under f.1 in
    record {
      curvature = a.0;
      p0x = b.0;
      p0y = c.0;
      p2x = d.0;
      p2y = e.0;
      contour = f.0;
      first_quad = g.0;
      quad_count = g.1;
    }

module _ (s : SplineTable) (edit : SplineEdit) where
  pub clear_length : (b : Bool) → length (clear_flag b s.contour edit.at) ≡ length s.contour
  unfolding clear_flag
  clear_length true = length-set s.contour (edit.at - 1) (flag_byte_of false)
  clear_length false = refl

  pub spline_capacity_stays : spline_capacity_of (put_spline s edit) ≡ spline_capacity_of s
  unfolding spline_capacity_of put_spline
  spline_capacity_stays =
      rw (
        length-set s.curvature edit.at edit.row.curvature,
        length-set s.p0x edit.at edit.row.p0.x,
        length-set s.p0y edit.at edit.row.p0.y,
        length-set s.p2x edit.at edit.row.p2.x,
        length-set s.p2y edit.at edit.row.p2.y,
        length-set (clear_flag edit.clears s.contour edit.at) edit.at (flag_byte_of edit.row.contour),
        clear_length edit.clears,
        length-set s.first_quad edit.at edit.row.first_quad,
        length-set s.quad_count edit.at edit.row.quad_count,
      )

  pub row_new : edit.at < spline_capacity_of s → spline_at (put_spline s edit) edit.at ≡ edit.row
  unfolding put_spline spline_at
  row_new h =
      let t = takes s edit.at h in
      let flags = clear_flag edit.clears s.contour edit.at in
      rw (
        get_or-set_same s.curvature edit.at edit.row.curvature nan t.curvature,
        get_or-set_same s.p0x edit.at edit.row.p0.x nan t.p0x,
        get_or-set_same s.p0y edit.at edit.row.p0.y nan t.p0y,
        get_or-set_same s.p2x edit.at edit.row.p2.x nan t.p2x,
        get_or-set_same s.p2y edit.at edit.row.p2.y nan t.p2y,
        get_or-set_same flags edit.at (flag_byte_of edit.row.contour) 0 (lt_of_lt_of_le t.contour (le_of_eq (sym (clear_length edit.clears)))),
        flag_back edit.row.contour,
        get_or-set_same s.first_quad edit.at edit.row.first_quad 0 t.first_quad,
        get_or-set_same s.quad_count edit.at edit.row.quad_count 0 t.quad_count,
      )

  -- another row: all but its flag stays
  module _ (j : ℕ) (n : j ≢ edit.at) where
    row_rest : spline_at (put_spline s edit) j ≡ flagged_as (is_flag_of (get_or (clear_flag edit.clears s.contour edit.at) j 0)) (spline_at s j)
    unfolding put_spline spline_at
    row_rest =
        rw (
          get_or-set_other s.curvature edit.at j edit.row.curvature nan n,
          get_or-set_other s.p0x edit.at j edit.row.p0.x nan n,
          get_or-set_other s.p0y edit.at j edit.row.p0.y nan n,
          get_or-set_other s.p2x edit.at j edit.row.p2.x nan n,
          get_or-set_other s.p2y edit.at j edit.row.p2.y nan n,
          get_or-set_other (clear_flag edit.clears s.contour edit.at) edit.at j (flag_byte_of edit.row.contour) 0 n,
          get_or-set_other s.first_quad edit.at j edit.row.first_quad 0 n,
          get_or-set_other s.quad_count edit.at j edit.row.quad_count 0 n,
        )

    pub row_kept : edit.clears ≡ false → spline_at (put_spline s edit) j ≡ spline_at s j
    unfolding clear_flag spline_at
    row_kept c = row_rest ∙ ap (λ (b : Bool). flagged_as (is_flag_of (get_or (clear_flag b s.contour edit.at) j 0)) (spline_at s j)) c

    pub row_far : j ≢ edit.at - 1 → spline_at (put_spline s edit) j ≡ spline_at s j
    unfolding clear_flag spline_at
    row_far m = row_rest ∙ ap (λ (x : ℕ). flagged_as (is_flag_of x) (spline_at s j)) (go edit.clears)
      where
        go : (b : Bool) → get_or (clear_flag b s.contour edit.at) j 0 ≡ get_or s.contour j 0
        go true = get_or-set_other s.contour (edit.at - 1) j (flag_byte_of false) 0 m
        go false = refl

    pub row_cleared : j ≡ edit.at - 1 → j < spline_capacity_of s → edit.clears ≡ true → spline_at (put_spline s edit) j ≡ flagged_as false (spline_at s j)
    unfolding clear_flag
    row_cleared m h c =
        row_rest
        ∙ ap (λ (b : Bool). flagged_as (is_flag_of (get_or (clear_flag b s.contour edit.at) j 0)) (spline_at s j)) c
        ∙ ap (λ (x : ℕ). flagged_as (is_flag_of (get_or (set s.contour x (flag_byte_of false)) j 0)) (spline_at s j)) (sym m)
        ∙ ap (λ (x : ℕ). flagged_as (is_flag_of x) (spline_at s j)) (get_or-set_same s.contour j (flag_byte_of false) 0 (takes s j h).contour)
        ∙ ap (λ (x : Bool). flagged_as x (spline_at s j)) (flag_back false)
