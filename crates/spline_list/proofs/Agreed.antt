-- What is known of the lengths if rows are copied: the list has a record for each of the n splines, and no column ends before the nth.
-- Assumes nothing.
use mathlib.Core.Path.{◌≡◌}
use mathlib.Core.Bool.{Bool, true, ◌&&◌, and-eq-true_iff}
use Prim.Native.Nat.{ℕ, ◌≤◌}
use native.Mathlib.Omega.{arith}
use mathlib.Core.List.{List}
use lib.Dec.{eqb, leb}
use lib.ListN.{length}
use borrow.Author.Tests.{eqb-true, leb-true}
use Rattle.tables.specs.Tables.{SplineTable}
use Rattle.primitives.specs.declared.SplineRow.{SplineRow}
use Rattle.spline_list.specs.Rows.{equal_of}

-- the list has n records, and no column ends before n
pub record Equal (ys : List SplineRow) (t : SplineTable) (n : ℕ) : Type 0 where
  pub list_is : n ≡ length ys
  pub curvature_has : n ≤ length t.curvature
  pub p0x_has : n ≤ length t.p0x
  pub p0y_has : n ≤ length t.p0y
  pub p2x_has : n ≤ length t.p2x
  pub p2y_has : n ≤ length t.p2y
  pub contour_has : n ≤ length t.contour
  pub first_quad_has : n ≤ length t.first_quad
  pub quad_count_has : n ≤ length t.quad_count

all_true : (a b c d e f g p q : Bool) → (a && b && c && d && e && f && g && p && q) ≡ true
    → (a ≡ true) × (b ≡ true) × (c ≡ true) × (d ≡ true) × (e ≡ true) × (f ≡ true) × (g ≡ true) × (p ≡ true) × (q ≡ true)
all_true a b c d e f g p q h =
    let h8 = (and-eq-true_iff (a && b && c && d && e && f && g && p) q).0 h in
    let h7 = (and-eq-true_iff (a && b && c && d && e && f && g) p).0 h8.0 in
    let h6 = (and-eq-true_iff (a && b && c && d && e && f) g).0 h7.0 in
    let h5 = (and-eq-true_iff (a && b && c && d && e) f).0 h6.0 in
    let h4 = (and-eq-true_iff (a && b && c && d) e).0 h5.0 in
    let h3 = (and-eq-true_iff (a && b && c) d).0 h4.0 in
    let h2 = (and-eq-true_iff (a && b) c).0 h3.0 in
    let h1 = (and-eq-true_iff a b).0 h2.0 in
    (h1.0, h1.1, h2.1, h3.1, h4.1, h5.1, h6.1, h7.1, h8.1)

pub equal : (ys : List SplineRow) (t : SplineTable) (n : ℕ) → equal_of ys t n ≡ true → Equal ys t n
equal ys t n e =
    let h =
    all_true (eqb n (length ys)) (leb n (length t.curvature)) (leb n (length t.p0x)) (leb n (length t.p0y)) (leb n (length t.p2x))
    (leb n (length t.p2y)) (leb n (length t.contour)) (leb n (length t.first_quad)) (leb n (length t.quad_count)) e in
    record {
      list_is = eqb-true n (length ys) h.0;
      curvature_has = leb-true n (length t.curvature) h.1;
      p0x_has = leb-true n (length t.p0x) h.2;
      p0y_has = leb-true n (length t.p0y) h.3;
      p2x_has = leb-true n (length t.p2x) h.4;
      p2y_has = leb-true n (length t.p2y) h.5;
      contour_has = leb-true n (length t.contour) h.6;
      first_quad_has = leb-true n (length t.first_quad) h.7;
      quad_count_has = leb-true n (length t.quad_count) h.8;
    }

-- a loop over the whole list has copied n rows
pub reached : (ys : List SplineRow) (t : SplineTable) {n i : ℕ} → equal_of ys t n ≡ true → i ≤ length ys → length ys ≤ i → i ≡ n
reached ys t e below over = omega (arith, (equal ys t _ e).list_is, below, over)
