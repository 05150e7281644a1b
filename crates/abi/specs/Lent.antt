-- What C lends to a drawing call, the columns of a store, its counts and its open index, and to a flattening for its counts. Scaffolding: only contracts of private
-- functions name it, and no promise rests on it. Assumes nothing.
use Rattle.std.specs.Prelude.{◌≡◌}
use Rattle.store.specs.declared.StoreState.{StoreState}
use Rattle.store.specs.Columns.{Columns, columns, state_at}
use Rattle.abi.specs.declared.drawing.Lent.{Lent}
use Rattle.abi.specs.declared.flattening.Counts.{Counts}

abbrev pub lent_state : Lent → StoreState
lent_state l = state_at l.points.now l.used.now l.opening.now

abbrev pub lent_columns : Lent → Columns
lent_columns l = columns l.x.now l.y.now l.weight.now l.commands.now

-- both hold the same references
abbrev pub SameLent : Lent → Lent → Type 0
SameLent a b =
    (b.x.ghost_name ≡ a.x.ghost_name) × (b.y.ghost_name ≡ a.y.ghost_name) × (b.weight.ghost_name ≡ a.weight.ghost_name)
    × (b.commands.ghost_name ≡ a.commands.ghost_name) × (b.points.ghost_name ≡ a.points.ghost_name) × (b.used.ghost_name ≡ a.used.ghost_name)
    × (b.opening.ghost_name ≡ a.opening.ghost_name)

abbrev pub SameCounts : Counts → Counts → Type 0
SameCounts a b = (b.splines.ghost_name ≡ a.splines.ghost_name) × (b.quads.ghost_name ≡ a.quads.ghost_name) × (b.length.ghost_name ≡ a.length.ghost_name)
