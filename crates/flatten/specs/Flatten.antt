-- RULES, Flattening and Answers 11: the whole flattening, from all that is lent to the result and what the lent columns then hold. Assumes nothing.
use Rattle.std.specs.Prelude.{ℕ, Bool, true, false, List, length}
use Rattle.answer.specs.Answer.{Answer}
use Rattle.answer.specs.Answer.{Done, Unusable, OutputShort}
use Rattle.answer.specs.Number.{is_done}
use Rattle.point.specs.declared.Setting.{Setting}
use Rattle.store.specs.declared.StoreState.{StoreState}
use Rattle.store.specs.Columns.{Columns}
use Rattle.store.specs.Drawable.{drawable_of}
use Rattle.tables.specs.Tables.{QuadTable, SplineTable, quad_row_at}
use Rattle.tables.specs.Run.{World}
use Rattle.tables.specs.Commands.{tables_of}
use Rattle.walk.specs.Walk.{Item, walk_of}
pub use Rattle.evaluate.specs.Output.{Output, output}
unfoldable pub use Rattle.evaluate.specs.Output.{over, fits_output, write_output}

-- the answer, and how many splines, quads and points there are
pub record Flattened : Type 0 where
  pub answer : Answer
  pub splines : ℕ
  pub quads : ℕ
  pub points : ℕ

-- what the caller gets: the result, and the tables and outputs after the call
pub record Flattening : Type 0 where
  pub result : Flattened
  pub quads : QuadTable
  pub splines : SplineTable
  pub output : Output

abbrev pub flattened : Answer → ℕ → ℕ → ℕ → Flattened
flattened answer splines quads points = record { answer = answer; splines = splines; quads = quads; points = points }

abbrev pub flattening : Flattened → QuadTable → SplineTable → Output → Flattening
flattening result q s o = record { result = result; quads = q; splines = s; output = o }

-- "9 comes last": the walk fits, or the tables are complete and nothing else is written
unfoldable pub walked : Bool → World → List Item → Output → Flattening
walked false w items o = flattening (flattened OutputShort w.state.splines w.state.quads 0) w.quads w.splines o
walked true w items o =
    flattening (flattened Done w.state.splines w.state.quads (length items)) w.quads w.splines (write_output (quad_row_at w.quads) w.splines items o)

-- "On 5 to 8 the tables hold all that was pushed before the refused primitive"
unfoldable pub tabled : Setting → Bool → World → Output → Flattening
tabled setting false w o = flattening (flattened w.state.answer w.state.splines w.state.quads 0) w.quads w.splines o
tabled setting true w o = let items = walk_of setting (quad_row_at w.quads) w.splines w.state.splines in walked (fits_output (length items) o) w items o

-- "On 3 no buffer is written and all counts are 0."
unfoldable pub flatten_drawable : Bool → Setting → StoreState → Columns → QuadTable → SplineTable → Output → Flattening
flatten_drawable false setting st c q s o = flattening (flattened Unusable 0 0 0) q s o
flatten_drawable true setting st c q s o = let w = tables_of setting st c q s in tabled setting (is_done w.state.answer) w o

unfoldable pub flatten_of : Setting → StoreState → Columns → QuadTable → SplineTable → Output → Flattening
flatten_of setting st c q s o = flatten_drawable (drawable_of st c) setting st c q s o
