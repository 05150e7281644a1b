-- RULES, Answers 12: "entries past the count are unchanged". Assumes nothing.
use Rattle.std.specs.Prelude.{ℕ, ◌*◌, ◌≤◌, ◌≡◌, List, length, get_or}
use Rattle.tables.specs.Tables.{QuadTable, SplineTable}

-- the entries from entry n on are as they were, and the column is as long as it was
pub record Past {A : Type 0} (n : ℕ) (old new : List A) : Type 0 where
  pub as_long : length new ≡ length old
  pub entries : (i : ℕ) (d : A) → n ≤ i → get_or new i d ≡ get_or old i d

-- n quads are counted, 15 numbers for each; an incomplete row is past them
pub record QuadsPast (n : ℕ) (old new : QuadTable) : Type 0 where
  pub rows : Past (15 * n) old.rows new.rows
  pub partial_splines : Past n old.partial_splines new.partial_splines

pub record SplinesPast (n : ℕ) (old new : SplineTable) : Type 0 where
  pub curvature : Past n old.curvature new.curvature
  pub p0x : Past n old.p0x new.p0x
  pub p0y : Past n old.p0y new.p0y
  pub p2x : Past n old.p2x new.p2x
  pub p2y : Past n old.p2y new.p2y
  pub contour : Past n old.contour new.contour
  pub first_quad : Past n old.first_quad new.first_quad
  pub quad_count : Past n old.quad_count new.quad_count
