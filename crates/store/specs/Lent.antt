-- What the lent columns of a store and of a drawing hold. Assumes nothing.
use Rattle.std.specs.Prelude.{◌≡◌}
use Rattle.store.specs.declared.Drawing.{Drawing}
use Rattle.store.specs.declared.Store.{Store}
use Rattle.store.specs.Columns.{Columns, columns}

abbrev pub drawing_columns : Drawing → Columns
drawing_columns d = columns d.x.now d.y.now d.weight.now d.commands.now

abbrev pub store_columns : Store → Columns
store_columns s = columns s.x.now s.y.now s.weight.now s.commands.now

-- both hold the same four references
abbrev pub SameColumns : Store → Store → Type 0
SameColumns a b =
    (b.x.ghost_name ≡ a.x.ghost_name) × (b.y.ghost_name ≡ a.y.ghost_name) × (b.weight.ghost_name ≡ a.weight.ghost_name)
    × (b.commands.ghost_name ≡ a.commands.ghost_name)
