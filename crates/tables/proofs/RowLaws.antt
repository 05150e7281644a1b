-- The four laws of the quad table: a row that is put is read, every other row is as it was, and so are the capacity and the lengths; and what is past a count.
-- Nothing above `tables` looks into the rows' column: it cites these. Assumes nothing.
use Prim.Native.Nat.{ℕ, zero, suc, ◌+◌, ◌*◌, ◌/◌, ◌≤◌, ◌<◌, min}
use mathlib.Core.Path.{◌≡◌, refl, sym, ap, ap₂, ◌∙◌}
use mathlib.Core.Logic.{◌≢◌, ◌⊎◌, inl, inr}
use mathlib.Core.Bool.{Bool, true, false, cond}
use mathlib.Core.List.{List, [], ◌∷◌}
use native.Mathlib.Nat.{le_trans, lt_of_lt_of_le, min-le_left, min-le_right, not-suc-le-zero, le-add_right, eq-or-lt_of_le}
use native.Mathlib.Omega.{arith}
use lib.Dec.{ltb, lit<}
use lib.Ieee.{Float, nan}
use lib.ListN.{length, get_or, set, length-set}
use lib.Seq.{sets, length-sets, get_or-set_same, get_or-set_other}
use borrow.Author.Tests.{ltb-true, ltb-false, lt-ltb}
use Rattle.primitives.specs.declared.QuadRow.{QuadRow}
use Rattle.tables.specs.Tables.{QuadTable, quad_table, quad_capacity_of, numbers_of, put_quad, number_at, quad_row_at}
use Rattle.tables.specs.Past.{Past, QuadsPast}

-- ---- a run of numbers in a column
module _ {A : Type 0} where
  pub sets_other : (vs l : List A) (i j : ℕ) (d : A) → (j < i) ⊎ (i + length vs ≤ j) → get_or (sets l i vs) j d ≡ get_or l j d
  sets_other [] l i j d h = refl
  sets_other (a ∷ vs) l i j d h =
      sets_other vs (set l i a) (suc i) j d (next h) ∙ get_or-set_other l i j a d (apart h)
    where
      next : (j < i) ⊎ (i + suc (length vs) ≤ j) → (j < suc i) ⊎ (suc i + length vs ≤ j)
      next (inl k) = inl (omega arith)
      next (inr k) = inr (omega arith)

      apart : (j < i) ⊎ (i + suc (length vs) ≤ j) → j ≢ i
      apart (inl k) e = omega arith
      apart (inr k) e = omega arith

  pub sets_same : (vs l : List A) (i k : ℕ) (d : A) → i + length vs ≤ length l → k < length vs → get_or (sets l i vs) (i + k) d ≡ get_or vs k d
  sets_same [] l i k d h m = absurd (not-suc-le-zero m)
  sets_same (a ∷ vs) l i zero d h m =
      ap (λ (j : ℕ). get_or (sets (set l i a) (suc i) vs) j d) (here i)
      ∙ sets_other vs (set l i a) (suc i) i d (inl (omega arith))
      ∙ get_or-set_same l i a d (omega arith)
    where
      here : (i : ℕ) → i + 0 ≡ i
      here i = omega arith
  sets_same (a ∷ vs) l i (suc k) d h m =
      ap (λ (j : ℕ). get_or (sets (set l i a) (suc i) vs) j d) (next i k)
      ∙ sets_same vs (set l i a) (suc i) k d (room (length vs) (length l) (length (set l i a)) h (length-set l i a)) (less (length vs) m)
    where
      next : (i k : ℕ) → i + suc k ≡ suc i + k
      next i k = omega arith

      room : (n a b : ℕ) → i + suc n ≤ a → b ≡ a → suc i + n ≤ b
      room n a b h e = omega arith

      less : (n : ℕ) → suc k < suc n → k < n
      less n m = omega arith

-- ---- tables whose columns are equally long
pub record QuadLengths (a b : QuadTable) : Type 0 where
  pub rows : length a.rows ≡ length b.rows
  pub partial_splines : length a.partial_splines ≡ length b.partial_splines

-- ---- a row below the capacity is whole
fits : (q : QuadTable) (i : ℕ) → i < quad_capacity_of q → i < length q.rows / 15
unfolding quad_capacity_of
fits q i h = lt_of_lt_of_le h (min-le_left (length q.rows / 15) (length q.partial_splines))

owned : (q : QuadTable) (i : ℕ) → i < quad_capacity_of q → i < length q.partial_splines
unfolding quad_capacity_of
owned q i h = lt_of_lt_of_le h (min-le_right (length q.rows / 15) (length q.partial_splines))

pub row_room : (i n : ℕ) → i < n / 15 → 15 * i + 15 ≤ n
row_room i n h = omega arith

pub within : (q : QuadTable) (i : ℕ) → i < quad_capacity_of q → 15 * i + 15 ≤ length q.rows
within q i h = row_room i (length q.rows) (fits q i h)

-- the table with row i put
abbrev stored : QuadTable → ℕ → QuadRow → QuadTable
stored q i row = quad_table (sets q.rows (15 * i) (numbers_of row)) (set q.partial_splines i row.spline)

below : (j i k : ℕ) → j < i → k < 15 → 15 * j + k < 15 * i
below j i k h m = omega arith

above : (j i k : ℕ) → i ≤ j → j ≢ i → 15 * i + 15 ≤ 15 * j + k
above j i k h n = go (eq-or-lt_of_le h)
  where
    go : (i ≡ j) ⊎ (i < j) → 15 * i + 15 ≤ 15 * j + k
    go (inl e) = absurd (n (sym e))
    go (inr l) = omega arith

module _ (q : QuadTable) (i : ℕ) (row : QuadRow) where
  -- ---- the two cases of a put
  pub put_is : i < quad_capacity_of q → put_quad q i row ≡ stored q i row
  unfolding put_quad
  put_is h = rw (lt-ltb i (quad_capacity_of q) h)

  pub put_not : ltb i (quad_capacity_of q) ≡ false → put_quad q i row ≡ q
  unfolding put_quad
  put_not e = rw e

  -- ---- lengths and capacity
  rows_length : length (put_quad q i row).rows ≡ length q.rows
  unfolding put_quad
  rows_length = go (ltb i (quad_capacity_of q))
    where
      go : (b : Bool) → length (cond b (stored q i row) q).rows ≡ length q.rows
      go true = length-sets q.rows (15 * i) (numbers_of row)
      go false = refl

  owners_length : length (put_quad q i row).partial_splines ≡ length q.partial_splines
  unfolding put_quad
  owners_length = go (ltb i (quad_capacity_of q))
    where
      go : (b : Bool) → length (cond b (stored q i row) q).partial_splines ≡ length q.partial_splines
      go true = length-set q.partial_splines i row.spline
      go false = refl

  pub lengths_stay : QuadLengths (put_quad q i row) q
  lengths_stay = record { rows = rows_length; partial_splines = owners_length }

  pub capacity_stays : quad_capacity_of (put_quad q i row) ≡ quad_capacity_of q
  unfolding quad_capacity_of
  capacity_stays = ap₂ (λ (m n : ℕ). min (m / 15) n) rows_length owners_length

  -- ---- one number of a row
  put_number : (k : ℕ) → i < quad_capacity_of q → k < 15 → number_at (put_quad q i row).rows i k ≡ get_or (numbers_of row) k nan
  unfolding number_at numbers_of
  put_number k h m =
      ap (λ (b : Bool). cond b (get_or (put_quad q i row).rows (15 * i + k) nan) nan) (lt-ltb i _ (whole (fits q i h)))
      ∙ ap (λ (t : QuadTable). get_or t.rows (15 * i + k) nan) (put_is h)
      ∙ sets_same (numbers_of row) q.rows (15 * i) k nan (within q i h) m
    where
      whole : i < length q.rows / 15 → i < length (put_quad q i row).rows / 15
      whole h = rw rows_length h

  stay_number : (j k : ℕ) → j ≢ i → k < 15 → number_at (put_quad q i row).rows j k ≡ number_at q.rows j k
  unfolding number_at put_quad numbers_of
  stay_number j k n m = ap (λ (l : ℕ). cond (ltb j (l / 15)) (get_or (put_quad q i row).rows (15 * j + k) nan) nan) rows_length ∙ go (ltb i (quad_capacity_of q))
    where
      apart : (b : Bool) → ltb j i ≡ b → (15 * j + k < 15 * i) ⊎ (15 * i + 15 ≤ 15 * j + k)
      apart true e = inl (below j i k (ltb-true j i e) m)
      apart false e = inr (above j i k (ltb-false j i e) n)

      go : (b : Bool)
          → cond (ltb j (length q.rows / 15)) (get_or (cond b (stored q i row) q).rows (15 * j + k) nan) nan
          ≡ cond (ltb j (length q.rows / 15)) (get_or q.rows (15 * j + k) nan) nan
      go true = ap (λ (v : Float). cond (ltb j (length q.rows / 15)) v nan)
          (sets_other (numbers_of row) q.rows (15 * i) (15 * j + k) nan (apart (ltb j i) refl))
      go false = refl

  -- ---- whole rows
  pub row_put : i < quad_capacity_of q → quad_row_at (put_quad q i row) i ≡ row
  unfolding quad_row_at numbers_of
  row_put h =
      rw (
        put_number 0 h (lit< tt),
        put_number 1 h (lit< tt),
        put_number 2 h (lit< tt),
        put_number 3 h (lit< tt),
        put_number 4 h (lit< tt),
        put_number 5 h (lit< tt),
        put_number 6 h (lit< tt),
        put_number 7 h (lit< tt),
        put_number 8 h (lit< tt),
        put_number 9 h (lit< tt),
        put_number 10 h (lit< tt),
        put_number 11 h (lit< tt),
        put_number 12 h (lit< tt),
        put_number 13 h (lit< tt),
        put_number 14 h (lit< tt),
        put_owner h,
      )
    where
      put_owner : i < quad_capacity_of q → get_or (put_quad q i row).partial_splines i 0 ≡ row.spline
      put_owner h = ap (λ (t : QuadTable). get_or t.partial_splines i 0) (put_is h) ∙ get_or-set_same q.partial_splines i row.spline 0 (owned q i h)

  stay_owner : (j : ℕ) → j ≢ i → get_or (put_quad q i row).partial_splines j 0 ≡ get_or q.partial_splines j 0
  unfolding put_quad
  stay_owner j n = go (ltb i (quad_capacity_of q))
    where
      go : (b : Bool) → get_or (cond b (stored q i row) q).partial_splines j 0 ≡ get_or q.partial_splines j 0
      go true = get_or-set_other q.partial_splines i j row.spline 0 n
      go false = refl

  pub row_stays : (j : ℕ) → j ≢ i → quad_row_at (put_quad q i row) j ≡ quad_row_at q j
  unfolding quad_row_at
  row_stays j n =
      rw (
        stay_number j 0 n (lit< tt),
        stay_number j 1 n (lit< tt),
        stay_number j 2 n (lit< tt),
        stay_number j 3 n (lit< tt),
        stay_number j 4 n (lit< tt),
        stay_number j 5 n (lit< tt),
        stay_number j 6 n (lit< tt),
        stay_number j 7 n (lit< tt),
        stay_number j 8 n (lit< tt),
        stay_number j 9 n (lit< tt),
        stay_number j 10 n (lit< tt),
        stay_number j 11 n (lit< tt),
        stay_number j 12 n (lit< tt),
        stay_number j 13 n (lit< tt),
        stay_number j 14 n (lit< tt),
        stay_owner j n,
      )

-- ---- past a count
pub past_self : {A : Type 0} (n : ℕ) (l : List A) → Past n l l
past_self n l = record { as_long = refl; entries = λ i d h. refl }

pub quads_self : (n : ℕ) (q : QuadTable) → QuadsPast n q q
quads_self n q = record { rows = past_self (15 * n) q.rows; partial_splines = past_self n q.partial_splines }

-- row n is the first past n rows
pub put_past : (n : ℕ) (row : QuadRow) (q₀ q : QuadTable) → QuadsPast n q₀ q → QuadsPast (n + 1) q₀ (put_quad q n row)
unfolding put_quad numbers_of
put_past n row q₀ q P =
    record {
      rows = record { as_long = rows_length q n row ∙ P.rows.as_long; entries = λ j d h. other j d h ∙ P.rows.entries j d (more j h) };
      partial_splines =
          record {
            as_long = owners_length q n row ∙ P.partial_splines.as_long;
            entries = λ j d h. owner j d h
                ∙ P.partial_splines.entries j d (le_trans (le-add_right n 1) h);
          };
    }
  where
    more : (j : ℕ) → 15 * (n + 1) ≤ j → 15 * n ≤ j
    more j h = omega arith

    other : (j : ℕ) (d : Float) → 15 * (n + 1) ≤ j → get_or (put_quad q n row).rows j d ≡ get_or q.rows j d
    other j d h = go (ltb n (quad_capacity_of q))
      where
        go : (b : Bool) → get_or (cond b (stored q n row) q).rows j d ≡ get_or q.rows j d
        go true = sets_other (numbers_of row) q.rows (15 * n) j d (inr (omega arith))
        go false = refl

    owner : (j d : ℕ) → n + 1 ≤ j → get_or (put_quad q n row).partial_splines j d ≡ get_or q.partial_splines j d
    owner j d h = go (ltb n (quad_capacity_of q))
      where
        apart : (j : ℕ) → n + 1 ≤ j → j ≢ n
        apart j h e = omega arith

        go : (b : Bool) → get_or (cond b (stored q n row) q).partial_splines j d ≡ get_or q.partial_splines j d
        go true = get_or-set_other q.partial_splines n j row.spline d (apart j h)
        go false = refl
