-- What the comparison of angles is for: where two lines meet in a corner, the corner is a vertex of the cut; and in the knife setting the far end of a slit is
-- such a corner. Proved in proofs/Corners and proofs/Slits. Assumes nothing.
use Rattle.std.specs.Prelude.{ℕ, suc, ◌-◌, ◌<◌, ◌≡◌, true, false, T, take, get_or}
use Rattle.leaves.specs.Single.{zero32}
use Rattle.command.specs.declared.PointCommand.{PointCommand}
use Rattle.command.specs.declared.PointCommand.TheVariants.{Start, End}
use Rattle.command.specs.Packing.{pack_of}
use Rattle.point.specs.declared.Point.{Point}
use Rattle.point.specs.declared.Setting.TheVariants.{Knife}
use Rattle.point.specs.Point.{applied_of, minus_of}
use Rattle.point.specs.Angle.{angle_of, changed_of}
use Rattle.point.specs.Turning.{known_of}
use Rattle.store.specs.Columns.{line_command, stored_point_of}
use Rattle.store.specs.Drawable.{total_uses_of}
use Rattle.tables.specs.Tables.{spline_at}
use Rattle.walk.specs.Walk.{starts_of}
use Rattle.flatten.specs.Flatten.{Flattening}
use Rattle.promises.specs.Accepted.{Job, flattening_of, Accepted, command_at}

-- how many points the first i commands use; two lines that follow go from `before_of` to `corner_of` and on to `after_of`, as applied
abbrev pub used_before : Job → ℕ → ℕ
used_before job i = total_uses_of (take i job.columns.commands)

abbrev pub before_of : Job → ℕ → Point
before_of job i = applied_of (stored_point_of job.columns (used_before job i - 1))

abbrev pub corner_of : Job → ℕ → Point
corner_of job i = applied_of (stored_point_of job.columns (used_before job i))

abbrev pub after_of : Job → ℕ → Point
after_of job i = applied_of (stored_point_of job.columns (suc (used_before job i)))

-- commands i and i + 1 are a and b
pub record TwoCommands (job : Job) (i a b : ℕ) : Type 0 where
  pub inside : suc i < job.state.commands
  pub first : command_at job i ≡ a
  pub second : command_at job (suc i) ≡ b

abbrev pub TwoLines : Job → ℕ → Type 0
TwoLines job i = TwoCommands job i line_command line_command

-- they meet in a corner
pub record Corner (job : Job) (i : ℕ) : Type 0 where
  pub lines : TwoLines job i
  pub turns : changed_of job.setting (angle_of (minus_of (corner_of job i) (before_of job i))) (angle_of (minus_of (after_of job i) (corner_of job i))) ≡ true

-- they are a line out, long enough to have an angle, and the same line back
pub record Slit (job : Job) (i : ℕ) : Type 0 where
  pub lines : TwoLines job i
  pub long : T (known_of (angle_of (minus_of (corner_of job i) (before_of job i))))
  pub back : after_of job i ≡ before_of job i

-- the command is written, and its point is p
pub record Written (f : Flattening) (command : PointCommand) (p : Point) : Type 0 where
  pub place : ℕ
  pub counted : place < f.result.points
  pub word : get_or f.output.words place 0 ≡ pack_of command
  pub x : get_or f.output.x place zero32 ≡ p.x
  pub y : get_or f.output.y place zero32 ≡ p.y

-- one spline ends in p and the next begins in q, bit for bit; the End between them is written as p, and a Start after it, where one is due, as q
pub record Joint (f : Flattening) (p q : Point) : Type 0 where
  pub spline : ℕ
  pub stored : suc spline < f.result.splines
  pub ends : (spline_at f.splines spline).p2 ≡ p
  pub begins : (spline_at f.splines (suc spline)).p0 ≡ q
  pub end_written : Written f (End spline false) p
  pub start_written : starts_of f.splines (suc spline) ≡ true → Written f (Start (suc spline)) q

-- both are the same point
abbrev pub Vertex : Flattening → Point → Type 0
Vertex f p = Joint f p p

abbrev pub CornersStay : Type 0
CornersStay = (job : Job) → Accepted job → (i : ℕ) → Corner job i → Vertex (flattening_of job) (corner_of job i)

-- "P5 in the knife setting must keep (10,0)", of every slit
abbrev pub SlitsStay : Type 0
SlitsStay = (job : Job) → Accepted job → job.setting ≡ Knife → (i : ℕ) → Slit job i → Vertex (flattening_of job) (corner_of job i)
