-- Both layouts of the quad table keep the three laws: a row that is put is read, every other row is as it was, and so is the capacity. Assumes nothing.
use Prim.Native.Nat.{ℕ, ◌+◌, ◌*◌, ◌/◌, ◌<◌, min}
use mathlib.Core.Path.{◌≡◌, refl, ap, ap₂, ◌∙◌}
use mathlib.Core.Logic.{◌≢◌}
use mathlib.Core.List.{List}
use native.Mathlib.Nat.{min-le_left, min-le_right, lt_of_lt_of_le}
use native.Mathlib.Omega.{arith}
use lib.Ieee.{Float, nan}
use lib.ListN.{length, get_or, set, length-set}
use lib.Seq.{get_or-set_same, get_or-set_other}
use Rattle.primitives.specs.declared.Three.{Three}
use Rattle.primitives.specs.declared.QuadRow.{QuadRow}
use Rattle.tables.proofs.RowLaws.{row_put, row_stays, capacity_stays}
use Rattle.promises.specs.Layouts.{QuadColumns, columns_capacity_of, set_three, put_columns, three_in, columns_row_at, Lawful, in_rows, in_columns}

pub rows_lawful : Lawful in_rows
rows_lawful = record { put = row_put; others = λ q i j row n. row_stays q i row j n; capacity = capacity_stays }

-- ---- three numbers of a column
threes : {u v : Three} → u.a ≡ v.a → u.b ≡ v.b → u.c ≡ v.c → u ≡ v
threes {u} {v} e f g =
    ap₂ (λ (a b : Float). record { a = a; b = b; c = u.c }) e f ∙ ap (λ (c : Float). record { a = v.a; b = v.b; c = c }) g

module _ (column : List Float) (i : ℕ) (v : Three) where
  abbrev first : List Float
  first = set column (3 * i) v.a

  abbrev second : List Float
  second = set first (3 * i + 1) v.b

  three_length : length (set_three column i v) ≡ length column
  three_length = length-set second (3 * i + 2) v.c ∙ length-set first (3 * i + 1) v.b ∙ length-set column (3 * i) v.a

  -- a number of another place
  apart : (j : ℕ) → j ≢ 3 * i → j ≢ 3 * i + 1 → j ≢ 3 * i + 2 → get_or (set_three column i v) j nan ≡ get_or column j nan
  apart j a b c =
      get_or-set_other second (3 * i + 2) j v.c nan c ∙ get_or-set_other first (3 * i + 1) j v.b nan b ∙ get_or-set_other column (3 * i) j v.a nan a

  three_stays : (j : ℕ) → j ≢ i → three_in (set_three column i v) j ≡ three_in column j
  three_stays j n =
      threes
      (apart (3 * j) (λ e. n (omega arith)) (λ e. n (omega arith)) (λ e. n (omega arith)))
      (apart (3 * j + 1) (λ e. n (omega arith)) (λ e. n (omega arith)) (λ e. n (omega arith)))
      (apart (3 * j + 2) (λ e. n (omega arith)) (λ e. n (omega arith)) (λ e. n (omega arith)))

  three_put : i < length column / 3 → three_in (set_three column i v) i ≡ v
  three_put h =
      threes
      (get_or-set_other second (3 * i + 2) (3 * i) v.c nan (λ e. omega arith)
      ∙ get_or-set_other first (3 * i + 1) (3 * i) v.b nan (λ e. omega arith)
      ∙ get_or-set_same column (3 * i) v.a nan (room (3 * i) (length column) (omega arith) refl))
      (get_or-set_other second (3 * i + 2) (3 * i + 1) v.c nan (λ e. omega arith)
      ∙ get_or-set_same first (3 * i + 1) v.b nan (room (3 * i + 1) (length first) (omega arith) (length-set column (3 * i) v.a)))
      (get_or-set_same second (3 * i + 2) v.c nan
      (room (3 * i + 2) (length second) (omega arith) (length-set first (3 * i + 1) v.b ∙ length-set column (3 * i) v.a)))
    where
      room : (k n : ℕ) → k < length column → n ≡ length column → k < n
      room k n h e = omega arith

-- ---- a row that is put, and every other one
module _ (q : QuadColumns) (i : ℕ) (row : QuadRow) where
  put : i < columns_capacity_of q → columns_row_at (put_columns q i row) i ≡ row
  unfolding columns_capacity_of put_columns columns_row_at
  put h =
      let x = under h in
      let y = under x.1 in
      let weight = under y.1 in
      let x0 = under weight.1 in
      let dx_recip = under x0.1 in
      let k0 = under dx_recip.1 in
      let dk = under k0.1 in
      let recip = under dk.1 in
      let sum = under recip.1 in
      rw (
        three_put q.x i row.x x.0,
        three_put q.y i row.y y.0,
        three_put q.weight i row.weight weight.0,
        get_or-set_same q.x0 i row.x0 nan x0.0,
        get_or-set_same q.dx_recip i row.dx_recip nan dx_recip.0,
        get_or-set_same q.k0 i row.k0 nan k0.0,
        get_or-set_same q.dk i row.dk nan dk.0,
        get_or-set_same q.curvatures_recip i row.curvature_recip nan recip.0,
        get_or-set_same q.partial_curvatures i row.partial_curvature nan sum.0,
        get_or-set_same q.partial_splines i row.spline 0 sum.1,
      )
    where
      under : {a b : ℕ} → i < min a b → (i < a) × (i < b)
      under {a} {b} h = (lt_of_lt_of_le h (min-le_left a b), lt_of_lt_of_le h (min-le_right a b))

  others : (j : ℕ) → j ≢ i → columns_row_at (put_columns q i row) j ≡ columns_row_at q j
  unfolding put_columns columns_row_at
  others j n =
      rw (
        three_stays q.x i row.x j n,
        three_stays q.y i row.y j n,
        three_stays q.weight i row.weight j n,
        get_or-set_other q.x0 i j row.x0 nan n,
        get_or-set_other q.dx_recip i j row.dx_recip nan n,
        get_or-set_other q.k0 i j row.k0 nan n,
        get_or-set_other q.dk i j row.dk nan n,
        get_or-set_other q.curvatures_recip i j row.curvature_recip nan n,
        get_or-set_other q.partial_curvatures i j row.partial_curvature nan n,
        get_or-set_other q.partial_splines i j row.spline 0 n,
      )

  capacity : columns_capacity_of (put_columns q i row) ≡ columns_capacity_of q
  unfolding columns_capacity_of put_columns
  capacity =
      rw (
        three_length q.x i row.x,
        three_length q.y i row.y,
        three_length q.weight i row.weight,
        length-set q.x0 i row.x0,
        length-set q.dx_recip i row.dx_recip,
        length-set q.k0 i row.k0,
        length-set q.dk i row.dk,
        length-set q.curvatures_recip i row.curvature_recip,
        length-set q.partial_curvatures i row.partial_curvature,
        length-set q.partial_splines i row.spline,
      )

pub columns_lawful : Lawful in_columns
columns_lawful = record { put = put; others = λ q i j row n. others q i row j n; capacity = capacity }
