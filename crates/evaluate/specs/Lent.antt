-- The lent outputs as lists, and that a struct of references holds the caller's still. Assumes nothing.
use Rattle.std.specs.Prelude.{◌≡◌}
use Rattle.evaluate.specs.declared.Outputs.{Outputs}
use Rattle.evaluate.specs.Output.{Output, output}

abbrev pub output_of : Outputs → Output
output_of o = output o.words.now o.x.now o.y.now o.end.now

-- what is written goes to the columns that were lent
abbrev pub SameOutputs : Outputs → Outputs → Type 0
SameOutputs old new =
    (new.words.ghost_name ≡ old.words.ghost_name)
    × (new.x.ghost_name ≡ old.x.ghost_name)
    × (new.y.ghost_name ≡ old.y.ghost_name)
    × (new.end.ghost_name ≡ old.end.ghost_name)
