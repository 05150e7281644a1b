-- 02, Two, the joint between straight and round: "In the knife setting a line and a quad must never share a spline, and a quad that 01 treats as a line counts as
-- a line." What holds of every accepted drawing, and what users get by it: every such joint is a vertex of the cut. Proved in proofs/StraightRound. Assumes
-- nothing.
use Rattle.std.specs.Prelude.{ℕ, suc, ◌+◌, ◌-◌, ◌<◌, ◌≡◌, ◌≢◌, ◌↔◌, true}
use mathlib.Core.List.{List, [], ◌∷◌, ◌++◌, Memᴰ}
use Rattle.command.specs.declared.PointCommand.TheVariants.{Start, End}
use Rattle.point.specs.declared.Point.{Point}
use Rattle.point.specs.declared.WeightedPoint.{WeightedPoint}
use Rattle.std.specs.Prelude.{None}
use Rattle.point.specs.declared.Setting.TheVariants.{Knife}
use Rattle.point.specs.Point.{applied_of}
use Rattle.primitives.specs.declared.Kind.{Kind}
use Rattle.primitives.specs.declared.Kind.TheVariants as kind
use Rattle.primitives.specs.declared.Primitive.{Primitive}
use Rattle.primitives.specs.declared.Primitive.TheVariants.{Line, Quad}
use Rattle.primitives.specs.Splines.{spline_kind_of}
use Rattle.store.specs.Columns.{line_command, quad_command, stored_point_of}
use Rattle.tables.specs.Tables.{capacities_of, quad_row_at, quad_start_of, quad_end_of, spline_at}
use Rattle.tables.specs.Run.{world, start_state, run_of}
use Rattle.tables.specs.Commands.{primitives_of}
use Rattle.walk.specs.Walk.{starts_of}
use Rattle.flatten.specs.Flatten.{Flattening}
use Rattle.promises.specs.Accepted.{Job, flattening_of, Accepted, steps_of}
use Rattle.promises.specs.FlattenAnswers.{leg_of, Curved, Straight}
use Rattle.promises.specs.Demand3.{spline_of_quad, LastQuad}
use Rattle.promises.specs.Corners.{used_before, TwoCommands, Written, Joint, Vertex}

-- ---- what is drawn
-- what a primitive counts as, and from where to where it goes
pub data DrawnAs : Primitive → Kind → Point → Point → Type 0 where
  line : (a b : WeightedPoint) → DrawnAs (Line a b) kind.Straight (applied_of a) (applied_of b)
  -- "a quad that 01 treats as a line counts as a line"
  as_line : (a b c : WeightedPoint) → Straight a b c → DrawnAs (Quad a b c) kind.Straight (applied_of a) (applied_of c)
  quad : (a b c : WeightedPoint) → Curved a b c → DrawnAs (Quad a b c) kind.Round (applied_of a) (applied_of c)

-- "A quad with both legs' angles missing is dropped."
pub data Dropped : Primitive → Type 0 where
  both_missing : (a b c : WeightedPoint) → leg_of a b ≡ None → leg_of b c ≡ None → Dropped (Quad a b c)

-- how many splines are open once these primitives are pushed
unfoldable pub splines_after : Job → List Primitive → ℕ
splines_after job ps =
    (run_of job.setting (capacities_of job.quads job.splines) ps (world start_state job.quads job.splines)).state.splines

-- ---- the kind of a spline
-- a primitive of the drawing that counts as this kind goes to spline k, which is the last one then; a cubic's primitives are its pieces
pub record GoesTo (job : Job) (k : ℕ) (is : Kind) : Type 0 where
  pub before : List Primitive
  pub primitive : Primitive
  pub after : List Primitive
  pub split : primitives_of job.state job.columns ≡ before ++ (primitive ∷ after)
  pub start : Point
  pub end : Point
  pub drawn : DrawnAs primitive is start end
  pub last : splines_after job (before ++ (primitive ∷ [])) ≡ suc k

pub record Filled (job : Job) (k : ℕ) : Type 0 where
  pub is : Kind
  pub goes : GoesTo job k is

-- in either setting something goes to each spline
abbrev pub NoneEmpty : Type 0
NoneEmpty = (job : Job) → Accepted job → (k : ℕ) → k < (flattening_of job).result.splines → Filled job k

-- every spline is all lines or all quads, and its sum tells which
abbrev pub OneKind : Type 0
OneKind = (job : Job) → Accepted job → job.setting ≡ Knife → (k : ℕ) (is : Kind) → GoesTo job k is → spline_kind_of (spline_at (flattening_of job).splines k) ≡ is

-- "a line and a quad must never share a spline"
abbrev pub NeverShare : Type 0
NeverShare = (job : Job) → Accepted job → job.setting ≡ Knife → (k : ℕ) → GoesTo job k kind.Straight → GoesTo job k kind.Round → ⊥

pub record HasQuad (f : Flattening) (k : ℕ) : Type 0 where
  pub quad : ℕ
  pub stored : quad < f.result.quads
  pub own : spline_of_quad f quad ≡ k

-- in either setting: a spline's sum is 0 exactly if it has no quad, and then alone it has no step
pub record KindTold (f : Flattening) (k : ℕ) : Type 0 where
  pub by_quads : (spline_kind_of (spline_at f.splines k) ≡ kind.Round) ↔ HasQuad f k
  pub by_steps : (spline_kind_of (spline_at f.splines k) ≡ kind.Round) ↔ (0 < steps_of f.splines k)

abbrev pub KindsTold : Type 0
KindsTold = (job : Job) → Accepted job → (k : ℕ) → k < (flattening_of job).result.splines → KindTold (flattening_of job) k

-- ---- the ends of a round spline
pub record FirstQuad (f : Flattening) (k i : ℕ) : Type 0 where
  pub stored : i < f.result.quads
  pub own : spline_of_quad f i ≡ k
  pub first : (j : ℕ) → j < i → spline_of_quad f j ≢ k

-- it begins bit-same at its first quad's start, which is written where a Start is due, and ends at its last quad's end, which is always written
pub record RoundEnds (f : Flattening) (k : ℕ) : Type 0 where
  pub begins : (i : ℕ) → FirstQuad f k i → (spline_at f.splines k).p0 ≡ quad_start_of (quad_row_at f.quads i)
  pub ends : (i : ℕ) → LastQuad f k i → (spline_at f.splines k).p2 ≡ quad_end_of (quad_row_at f.quads i)
  pub start_written : (i : ℕ) → FirstQuad f k i → starts_of f.splines k ≡ true → Written f (Start k) (quad_start_of (quad_row_at f.quads i))
  pub end_written : (i : ℕ) → LastQuad f k i → Written f (End k (spline_at f.splines k).contour) (quad_end_of (quad_row_at f.quads i))

abbrev pub RoundsEnd : Type 0
RoundsEnd = (job : Job) → Accepted job → job.setting ≡ Knife → (k : ℕ) → k < (flattening_of job).result.splines → RoundEnds (flattening_of job) k

-- ---- the joint
-- one after the other, but for what is dropped between them, come two primitives of unlike kinds; the first ends in p, the second begins in q
pub record Meet (job : Job) (p q : Point) : Type 0 where
  pub before : List Primitive
  pub first : Primitive
  pub between : List Primitive
  pub second : Primitive
  pub after : List Primitive
  pub split : primitives_of job.state job.columns ≡ before ++ (first ∷ (between ++ (second ∷ after)))
  pub dropped : (d : Primitive) → Memᴰ d between → Dropped d
  pub one : Kind
  pub other : Kind
  pub unlike : one ≢ other
  pub start : Point
  pub end : Point
  pub first_drawn : DrawnAs first one start p
  pub second_drawn : DrawnAs second other q end

-- "the meeting point gets no vertex and the knife takes a chord across it": now a spline ends there, and its End is written
abbrev pub JointsStay : Type 0
JointsStay = (job : Job) → Accepted job → job.setting ≡ Knife → (p q : Point) → Meet job p q → Joint (flattening_of job) p q

-- ---- the same of two commands
-- point n of the drawing, as stored
abbrev pub point_in : Job → ℕ → WeightedPoint
point_in job n = stored_point_of job.columns n

-- commands i and i + 1 are a line and a quad with both angles, in either order; they meet in p
pub data LineAndQuad (job : Job) (i : ℕ) : Point → Type 0 where
  line_first : TwoCommands job i line_command quad_command
      → Curved (point_in job (used_before job i)) (point_in job (used_before job i + 1)) (point_in job (used_before job i + 2))
      → LineAndQuad job i (applied_of (point_in job (used_before job i)))
  quad_first : TwoCommands job i quad_command line_command
      → Curved (point_in job (used_before job i - 1)) (point_in job (used_before job i)) (point_in job (used_before job i + 1))
      → LineAndQuad job i (applied_of (point_in job (used_before job i + 1)))

-- "every joint of straight and round is a vertex of the cut"
abbrev pub BeltEndsStay : Type 0
BeltEndsStay = (job : Job) → Accepted job → job.setting ≡ Knife → (i : ℕ) (p : Point) → LineAndQuad job i p → Vertex (flattening_of job) p
