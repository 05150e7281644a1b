-- An accepted drawing is one whose flattening answers 0, in either setting, with any tables and buffers lent. Then its words, walk and tables; and its
-- contours, which are defined by the Moves of the command list, not by flags. Assumes nothing.
use Rattle.std.specs.Prelude.{ℕ, suc, ◌-◌, ◌≤◌, ◌<◌, ◌≡◌, ◌⊎◌, ◌≢◌, List, ◌++◌, [], ◌∷◌, cond, take, get_or, replicate}
use Rattle.answer.specs.Answer.{Done}
use Rattle.command.specs.declared.PointCommand.{PointCommand}
use Rattle.command.specs.declared.PointCommand.TheVariants.{Start, Incr, End}
use Rattle.point.specs.declared.Setting.{Setting}
use Rattle.store.specs.declared.StoreState.{StoreState}
use Rattle.store.specs.Columns.{Columns, move_command}
use Rattle.tables.specs.Tables.{QuadTable, SplineTable, capacities_of, quad_row_at, spline_at}
use Rattle.tables.specs.Run.{world, start_state, run_of}
use Rattle.tables.specs.Commands.{primitives_from}
use Rattle.walk.specs.Walk.{Item, walk_of, starts_of, subdivisions_of, step_size_of}
use Rattle.flatten.specs.Flatten.{Output, Flattening, flatten_of}

-- a drawing, and all that is lent to flatten it
pub record Job : Type 0 where
  pub setting : Setting
  pub state : StoreState
  pub columns : Columns
  pub quads : QuadTable
  pub splines : SplineTable
  pub output : Output

abbrev pub flattening_of : Job → Flattening
flattening_of job = flatten_of job.setting job.state job.columns job.quads job.splines job.output

abbrev pub Accepted : Job → Type 0
Accepted job = (flattening_of job).result.answer ≡ Done

-- ---- what a flattening leaves
abbrev pub words_in : Flattening → List ℕ
words_in f = take f.result.points f.output.words

-- the walk over the tables that it leaves
abbrev pub walk_in : Setting → Flattening → List Item
walk_in setting f = walk_of setting (quad_row_at f.quads) f.splines f.result.splines

-- ---- contours: "the splines opened between two Moves of the command list"
abbrev pub command_at : Job → ℕ → ℕ
command_at job i = get_or job.columns.commands i 0

-- how many splines are open when the first i commands are done
unfoldable pub splines_before : Job → ℕ → ℕ
splines_before job i =
    (run_of job.setting (capacities_of job.quads job.splines) (primitives_from job.columns (take i job.columns.commands) 0) (world start_state job.quads job.splines)
    ).state.splines

-- from the Move at a on, up to the next Move at b, or to the end of the commands
pub record Contour (job : Job) (a b : ℕ) : Type 0 where
  pub order : a < b
  pub inside : b ≤ job.state.commands
  pub opens : command_at job a ≡ move_command
  pub between : (i : ℕ) → a < i → i < b → command_at job i ≢ move_command
  pub closes : (b ≡ job.state.commands) ⊎ (command_at job b ≡ move_command)

-- spline k is opened in this contour
pub record Within (job : Job) (a b k : ℕ) : Type 0 where
  pub contour : Contour job a b
  pub from : splines_before job a ≤ k
  pub below : k < splines_before job b

-- spline k is the last one opened in its contour
pub record ContourLast (job : Job) (k : ℕ) : Type 0 where
  pub a : ℕ
  pub b : ℕ
  pub within : Within job a b k
  pub last : suc k ≡ splines_before job b

-- ---- spline k in words: "with its Start and its number and size of steps"
abbrev pub steps_of : SplineTable → ℕ → ℕ
steps_of s k = subdivisions_of s k - 1

unfoldable pub piece_of : SplineTable → ℕ → List PointCommand
piece_of s k = cond (starts_of s k) (Start k ∷ []) [] ++ (replicate (steps_of s k) (Incr (step_size_of s k)) ++ (End k (spline_at s k).contour ∷ []))
