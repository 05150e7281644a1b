-- RULES, Commands: "Then commands are taken in order". The primitives of a store's commands, and the tables of a drawing. Assumes nothing.
use Rattle.std.specs.Prelude.{ℕ, zero, suc, ◌+◌, ◌-◌, List, [], ◌∷◌, ◌++◌, take}
use Rattle.point.specs.declared.Setting.{Setting}
use Rattle.primitives.specs.declared.Cubic.{Cubic}
use Rattle.primitives.specs.declared.Primitive.{Primitive}
use Rattle.primitives.specs.declared.Primitive.TheVariants.{Contour, Line, Quad}
use Rattle.primitives.specs.Cubics.{cubic_quads_of}
use Rattle.store.specs.declared.StoreState.{StoreState}
use Rattle.store.specs.Columns.{Columns, uses_of, stored_point_of}
use Rattle.tables.specs.Tables.{QuadTable, SplineTable, capacities_of}
use Rattle.tables.specs.Run.{World, world, run_of, start_state}

-- the cubic whose start is point i
unfoldable pub cubic_from : Columns → ℕ → Cubic
cubic_from c i = record { p0 = stored_point_of c i; p1 = stored_point_of c (i + 1); p2 = stored_point_of c (i + 2); p3 = stored_point_of c (i + 3) }

-- the primitives of command k, before which j points are used up: it starts from the last of them
unfoldable pub command_primitives_of : Columns → ℕ → ℕ → List Primitive
command_primitives_of c zero j = Contour ∷ []
command_primitives_of c (suc zero) j = Line (stored_point_of c (j - 1)) (stored_point_of c j) ∷ []
command_primitives_of c (suc (suc zero)) j = Quad (stored_point_of c (j - 1)) (stored_point_of c j) (stored_point_of c (j + 1)) ∷ []
command_primitives_of c (suc (suc (suc k))) j = cubic_quads_of (cubic_from c (j - 1))

unfoldable pub primitives_from : Columns → List ℕ → ℕ → List Primitive
primitives_from c [] j = []
primitives_from c (k ∷ ks) j = command_primitives_of c k j ++ primitives_from c ks (j + uses_of k)

unfoldable pub primitives_of : StoreState → Columns → List Primitive
primitives_of st c = primitives_from c (take st.commands c.commands) 0

-- the tables of a drawing that is not refused with 3
unfoldable pub tables_of : Setting → StoreState → Columns → QuadTable → SplineTable → World
tables_of setting st c q s = run_of setting (capacities_of q s) (primitives_of st c) (world start_state q s)
