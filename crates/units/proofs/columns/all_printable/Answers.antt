-- `units::columns::all_printable` meets its contract: `all` of the numbers. Assumes nothing.
use mathlib.Core.Path.{◌∙◌}
use Rattle.std.proofs.Common.{rules}
use Rattle.std.proofs.lemmas.Iterator.{YieldsList-from_slice}
use Rattle.std.proofs.lemmas.Iterator.Search.{all_from_yields_List}
use Rattle.units.specs.Whole.{printable_of}
use Rattle.units.proofs.Points.{some_printable, all_of_each}
use Rattle.units.proofs.columns.all_printable.Goals as goal

pub returns : goal.returns
returns c =
    all_from_yields_List printable_of _ _ _ c.all.ensures.ran (YieldsList-from_slice c.args.column.now cc) (λ x b q k. search (rules, some_printable))
    ∙ all_of_each c.args.column.now
