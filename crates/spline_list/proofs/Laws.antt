-- What a list holds once `stores` has stored to it: as many elements, g j at each place j below n, and what it had at the others. What `spreads` writes
-- row by row, `puts` writes column by column.
-- Assumes nothing.
use mathlib.Core.Path.{◌≡◌, refl, sym, ◌∙◌, ap, subst}
use mathlib.Core.Logic.{◌⊎◌, inl, inr}
use Prim.Native.Nat.{ℕ, zero, suc, ◌≤◌, ◌<◌}
use native.Mathlib.Nat.{eq-or-lt_of_le, lt_irrefl, not-suc-le-zero, le_of_suc-le-suc}
use native.Mathlib.Omega.{arith}
use mathlib.Core.List.{List}
use lib.Ieee.{Float}
use lib.ListN.{length, get_or, set, length-set}
use lib.Seq.{get_or-set_same, get_or-set_other}
use Rattle.columns.specs.Flags.{flag_byte_of}
use Rattle.tables.specs.Tables.{SplineTable, spline_table}
use Rattle.primitives.specs.declared.SplineRow.{SplineRow}
use Rattle.spline_list.specs.Rows.{blank, put_row_of, stores, spreads}

pub stores-length : {X : Type 0} (g : ℕ → X) (xs : List X) (n : ℕ) → length (stores g n xs) ≡ length xs
stores-length g xs zero = refl
stores-length g xs (suc i) = length-set (stores g i xs) i (g i) ∙ stores-length g xs i

module _ {X : Type 0} (g : ℕ → X) (xs : List X) (d : X) where
  pub stores_past : (n j : ℕ) → n ≤ j → get_or (stores g n xs) j d ≡ get_or xs j d
  stores_past zero j h = refl
  stores_past (suc i) j h = get_or-set_other (stores g i xs) i j (g i) d (λ e. lt_irrefl j (subst (λ (m : ℕ). m < j) (sym e) h)) ∙ stores_past i j
      (omega (arith, h))

  pub stores_at : (n j : ℕ) → j < n → n ≤ length xs → get_or (stores g n xs) j d ≡ g j
  stores_at zero j h l = absurd (not-suc-le-zero h)
  stores_at (suc i) j h l = at (λ less. stores_at i j less (omega (arith, l))) (eq-or-lt_of_le (le_of_suc-le-suc h))
    where
      inside : i < length (stores g i xs)
      inside = let e : length (stores g i xs) ≡ length xs = stores-length g xs i in omega (arith, e, l)

      at : (j < i → get_or (stores g i xs) j d ≡ g j) → (j ≡ i) ⊎ (j < i) → get_or (set (stores g i xs) i (g i)) j d ≡ g j
      at ih (inl e) = ap (λ (m : ℕ). get_or (set (stores g i xs) i (g i)) m d) e ∙ get_or-set_same (stores g i xs) i (g i) d inside ∙ ap g (sym e)
      at ih (inr less) = get_or-set_other (stores g i xs) i j (g i) d (λ e. lt_irrefl j (subst (λ (m : ℕ). j < m) (sym e) less)) ∙ ih less

-- what a record stores to each column
abbrev pub curvature_of_lem : SplineRow → Float
curvature_of_lem v = v.curvature

abbrev pub p0x_of : SplineRow → Float
p0x_of v = v.p0.x

abbrev pub p0y_of : SplineRow → Float
p0y_of v = v.p0.y

abbrev pub p2x_of : SplineRow → Float
p2x_of v = v.p2.x

abbrev pub p2y_of : SplineRow → Float
p2y_of v = v.p2.y

abbrev pub contour_of : SplineRow → ℕ
contour_of v = flag_byte_of v.contour

abbrev pub first_quad_of : SplineRow → ℕ
first_quad_of v = v.first_quad

abbrev pub quad_count_of_lem : SplineRow → ℕ
quad_count_of_lem v = v.quad_count

-- the first n records are stored to one column
abbrev pub puts : {X : Type 0} → (SplineRow → X) → ℕ → List SplineRow → List X → List X
puts g n ys xs = stores (λ (i : ℕ). g (get_or ys i blank)) n xs

pub puts_length : {X : Type 0} (g : SplineRow → X) (n : ℕ) (ys : List SplineRow) (xs : List X) → length (puts g n ys xs) ≡ length xs
puts_length g n ys xs = stores-length (λ (i : ℕ). g (get_or ys i blank)) xs n

pub puts_spreads : (ys : List SplineRow) (t : SplineTable) (n : ℕ)
    → spline_table (puts curvature_of_lem n ys t.curvature) (puts p0x_of n ys t.p0x) (puts p0y_of n ys t.p0y) (puts p2x_of n ys t.p2x)
    (puts p2y_of n ys t.p2y) (puts contour_of n ys t.contour) (puts first_quad_of n ys t.first_quad)
    (puts quad_count_of_lem n ys t.quad_count) ≡ spreads ys n t
puts_spreads ys t zero = refl
puts_spreads ys t (suc i) = ap (λ (s : SplineTable). put_row_of s i (get_or ys i blank)) (puts_spreads ys t i)
