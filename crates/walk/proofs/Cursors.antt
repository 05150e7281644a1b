-- For the knife the walk does not depend on the cursor that it comes with: each spline begins at its own first quad. Assumes nothing.
use Prim.Native.Nat.{ℕ, zero, suc}
use mathlib.Core.Path.{◌≡◌, refl}
use Rattle.point.specs.declared.Setting.TheVariants.{Knife}
use Rattle.primitives.specs.declared.QuadRow.{QuadRow}
use Rattle.tables.specs.Tables.{SplineTable}
use Rattle.walk.specs.Walk.{cursor_start_of, walk_from}

pub any_cursor : (rows : ℕ → QuadRow) (s : SplineTable) (n k c c' : ℕ) → walk_from Knife rows s n k c ≡ walk_from Knife rows s n k c'
unfolding walk_from cursor_start_of
any_cursor rows s zero k c c' = refl
any_cursor rows s (suc n) k c c' = refl
