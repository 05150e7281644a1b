-- RULES, Answers, of flattening: each answer, if and only if what the rules say of the drawing, of what was pushed before, and of the buffers. Assumes nothing.
use Rattle.std.specs.Prelude.{ℕ, ◌-◌, ◌≤◌, ◌<◌, ◌≡◌, ◌≢◌, ◌↔◌, Bool, true, T, Float, length, get_or, take}
use mathlib.Core.List.{List, ◌++◌, ◌∷◌, Memᴰ}
use Rattle.std.specs.Float.{nan}
use Rattle.std.specs.Float.Ieee.{lt}
use Rattle.leaves.specs.Single.{f32, ◌⊕◌}
use Rattle.leaves.specs.Whole.{limit32}
use Rattle.answer.specs.Answer.{Answer}
use Rattle.answer.specs.Answer.{Done, Unusable, TooManyPieces, QuadsFull, SplinesFull, SumTooLarge, OutputShort}
use Rattle.answer.specs.Number.{is_done}
use Rattle.point.specs.declared.WeightedPoint.{WeightedPoint}
use Rattle.point.specs.Angle.{Angle}
use Rattle.std.specs.Prelude.{None, Some}
use Rattle.point.specs.Point.{applied_of, minus_of}
use Rattle.point.specs.Angle.{angle_of}
use Rattle.point.specs.declared.Setting.{Setting}
use Rattle.primitives.specs.declared.Capacities.{Capacities}
use Rattle.primitives.specs.declared.Primitive.{Primitive}
use Rattle.primitives.specs.declared.Primitive.TheVariants.{Line, Quad, Excess}
use Rattle.primitives.specs.declared.Kind.{Kind}
use Rattle.primitives.specs.declared.Kind.TheVariants as kind
use Rattle.primitives.specs.Cubics.{cubic_pieces_of}
use Rattle.primitives.specs.Quads.{curve_of}
use Rattle.primitives.specs.Splines.{opens_of, sum_before}
use Rattle.store.specs.declared.StoreState.{StoreState}
use Rattle.store.specs.Columns.{Columns, move_command, cubic_command}
use Rattle.store.specs.Drawable.{total_uses_of}
use Rattle.tables.specs.Tables.{capacities_of, last_spline_of, quad_row_at}
use Rattle.tables.specs.Past.{Past, QuadsPast, SplinesPast}
use Rattle.tables.specs.Run.{World, world, run_of, start_state}
use Rattle.tables.specs.Commands.{cubic_from, command_primitives_of, primitives_of, tables_of}
use Rattle.walk.specs.Walk.{walk_of}
use Rattle.flatten.specs.Flatten.{Output, Flattening, flattened, flattening}
use Rattle.promises.specs.DrawingAnswers.{UnusableStore, Outside}
use Rattle.promises.specs.Accepted.{Job, flattening_of}

-- ---- 3: "for all of these, and also when any command is over 3, the first isn't Move, the commands' points don't sum to the point count, a weight is NaN or outside
-- 1/64..64, or a stored coordinate is NaN or beyond ±4,194,304"
pub data Undrawable (st : StoreState) (c : Columns) : Type 0 where
  unusable : UnusableStore st c → Undrawable st c
  unknown : (i : ℕ) → i < st.commands → 3 < get_or c.commands i 0 → Undrawable st c
  no_move : get_or c.commands 0 0 ≢ move_command → Undrawable st c
  other_sum : total_uses_of (take st.commands c.commands) ≢ st.points → Undrawable st c
  weight_outside : (i : ℕ) → i < st.points → Outside (f32 0x3c80_0000) (f32 0x4280_0000) (get_or c.weight i nan) → Undrawable st c
  x_outside : (i : ℕ) → i < st.points → Outside (f32 0xca80_0000) (f32 0x4a80_0000) (get_or c.x i nan) → Undrawable st c
  y_outside : (i : ℕ) → i < st.points → Outside (f32 0xca80_0000) (f32 0x4a80_0000) (get_or c.y i nan) → Undrawable st c

-- ---- 5 to 8, of one primitive and the tables as they are before it
abbrev pub leg_of : WeightedPoint → WeightedPoint → Angle
leg_of from to = angle_of (minus_of (applied_of to) (applied_of from))

-- both legs have an angle
pub record Curved (p0 p1 p2 : WeightedPoint) : Type 0 where
  pub first : Float
  pub second : Float
  pub first_leg : leg_of p0 p1 ≡ Some first
  pub second_leg : leg_of p1 p2 ≡ Some second

-- "With one missing it is a line."
pub data Straight (p0 p1 p2 : WeightedPoint) : Type 0 where
  first_missing : (b : Float) → leg_of p0 p1 ≡ None → leg_of p1 p2 ≡ Some b → Straight p0 p1 p2
  second_missing : (a : Float) → leg_of p0 p1 ≡ Some a → leg_of p1 p2 ≡ None → Straight p0 p1 p2

-- RULES, Opening: whether a primitive of this kind opens a spline, for one that begins at p0 with this angle
abbrev pub opens_at : Setting → Kind → World → Angle → WeightedPoint → Bool
opens_at setting kind w angle p0 = opens_of setting kind w.state (last_spline_of w.splines w.state.splines) angle (applied_of p0)

-- the spline's running sum, as rounded, with this quad
abbrev pub sum_with : Setting → World → WeightedPoint → WeightedPoint → WeightedPoint → Angle → Float
sum_with setting w p0 p1 p2 angle =
    sum_before (opens_at setting kind.Round w angle p0) (last_spline_of w.splines w.state.splines)
    ⊕ (curve_of (applied_of p0) (applied_of p1) (applied_of p2)).curvature

-- "each primitive tests 5, 6, 7, 8, as far as it would store there": 7 only where a spline is opened, 6 and 8 only for a quad that is curved
pub data Refuses (setting : Setting) (caps : Capacities) (w : World) : Primitive → Answer → Type 0 where
  -- "a cubic needs over 1,024 pieces": such a cubic is this primitive
  too_many : Refuses setting caps w Excess TooManyPieces
  -- "the quad table is full"
  quads_full : (p0 p1 p2 : WeightedPoint) → Curved p0 p1 p2 → caps.quads ≤ w.state.quads → Refuses setting caps w (Quad p0 p1 p2) QuadsFull
  -- "the spline table is full, or holds 4,194,304", which its capacity counts in
  line_full : (p0 p1 : WeightedPoint) → T (opens_at setting kind.Straight w (leg_of p0 p1) p0) → caps.splines ≤ w.state.splines
      → Refuses setting caps w (Line p0 p1) SplinesFull
  straight_full : (p0 p1 p2 : WeightedPoint) → Straight p0 p1 p2 → T (opens_at setting kind.Straight w (leg_of p0 p2) p0)
      → caps.splines ≤ w.state.splines → Refuses setting caps w (Quad p0 p1 p2) SplinesFull
  curve_full : (p0 p1 p2 : WeightedPoint) → Curved p0 p1 p2 → w.state.quads < caps.quads → T (opens_at setting kind.Round w (leg_of p0 p1) p0)
      → caps.splines ≤ w.state.splines → Refuses setting caps w (Quad p0 p1 p2) SplinesFull
  -- "a spline's running sum, as rounded, would pass 65,536"
  sum_over : (p0 p1 p2 : WeightedPoint) → Curved p0 p1 p2 → w.state.quads < caps.quads
      → (T (opens_at setting kind.Round w (leg_of p0 p1) p0) → w.state.splines < caps.splines)
      → T (lt limit32 (sum_with setting w p0 p1 p2 (leg_of p0 p1))) → Refuses setting caps w (Quad p0 p1 p2) SumTooLarge

-- `Excess` is among the primitives of command k exactly if that is a cubic of over 1,024 pieces; j points are used up before it
abbrev pub ExcessIs : Type 0
ExcessIs = (c : Columns) (k j : ℕ) → Memᴰ Excess (command_primitives_of c k j) ↔ ((cubic_command ≤ k) × (1024 < cubic_pieces_of (cubic_from c (j - 1))))

-- ---- "Then commands are taken in order": the first refused primitive, with all before it pushed
pub record RefusedIn (setting : Setting) (caps : Capacities) (ps : List Primitive) (w : World) (a : Answer) : Type 0 where
  pub before : List Primitive
  pub primitive : Primitive
  pub after : List Primitive
  pub split : ps ≡ before ++ (primitive ∷ after)
  pub pushed : is_done (run_of setting caps before w).state.answer ≡ true
  pub cause : Refuses setting caps (run_of setting caps before w) primitive a

abbrev pub Refused : Job → Answer → Type 0
Refused job a =
    RefusedIn job.setting (capacities_of job.quads job.splines) (primitives_of job.state job.columns) (world start_state job.quads job.splines) a

-- ---- 9: "words or outputs are shorter than the walk", the one over the complete tables
abbrev pub walk_length : Job → ℕ
walk_length job = let w = tables_of job.setting job.state job.columns job.quads job.splines in length (walk_of job.setting (quad_row_at w.quads) w.splines w.state.splines)

pub data Short (n : ℕ) (o : Output) : Type 0 where
  words : length o.words < n → Short n o
  x : length o.x < n → Short n o
  y : length o.y < n → Short n o
  end : length o.end < n → Short n o

-- ---- the answers of flattening
abbrev pub AnswerOf : Job → Answer → Type 0
AnswerOf job a = (flattening_of job).result.answer ≡ a

pub record FlattenAnswers (job : Job) : Type 0 where
  pub three : AnswerOf job Unusable ↔ Undrawable job.state job.columns
  pub five : AnswerOf job TooManyPieces ↔ ((¬ Undrawable job.state job.columns) × Refused job TooManyPieces)
  pub six : AnswerOf job QuadsFull ↔ ((¬ Undrawable job.state job.columns) × Refused job QuadsFull)
  pub seven : AnswerOf job SplinesFull ↔ ((¬ Undrawable job.state job.columns) × Refused job SplinesFull)
  pub eight : AnswerOf job SumTooLarge ↔ ((¬ Undrawable job.state job.columns) × Refused job SumTooLarge)
  pub nine : AnswerOf job OutputShort ↔ ((¬ Undrawable job.state job.columns) × ((a : Answer) → ¬ Refused job a) × Short (walk_length job) job.output)
  pub zero : AnswerOf job Done ↔ ((¬ Undrawable job.state job.columns) × ((a : Answer) → ¬ Refused job a) × (¬ Short (walk_length job) job.output))

abbrev pub FlatteningAnswers : Type 0
FlatteningAnswers = (job : Job) → FlattenAnswers job

-- ---- 1c. what a flattening leaves, on each answer
-- "A refused flattening writes no word and no point"
abbrev pub RefusedWritesNothing : Type 0
RefusedWritesNothing = (job : Job) → (flattening_of job).result.answer ≢ Done → ((flattening_of job).output ≡ job.output) × ((flattening_of job).result.points ≡ 0)

-- "entries past the count are unchanged"
pub record OutputPast (n : ℕ) (old new : Output) : Type 0 where
  pub words : Past n old.words new.words
  pub x : Past n old.x new.x
  pub y : Past n old.y new.y
  pub end : Past n old.end new.end

pub record PastCounts (job : Job) (f : Flattening) : Type 0 where
  pub quads : QuadsPast f.result.quads job.quads f.quads
  pub splines : SplinesPast f.result.splines job.splines f.splines
  pub output : OutputPast f.result.points job.output f.output

-- a run of these primitives from the start
abbrev pub run_over : Job → List Primitive → World
run_over job ps = run_of job.setting (capacities_of job.quads job.splines) ps (world start_state job.quads job.splines)

-- the counts and the tables of a run, with an answer; no point is counted, and words and outputs are as they were
abbrev pub held_by : Answer → World → Output → Flattening
held_by a w o = flattening (flattened a w.state.splines w.state.quads 0) w.quads w.splines o

pub record Holds (job : Job) : Type 0 where
  -- "On 3 no buffer is written and all counts are 0."
  pub three : AnswerOf job Unusable → flattening_of job ≡ flattening (flattened Unusable 0 0 0) job.quads job.splines job.output
  -- "On 5 to 8 the tables hold all that was pushed before the refused primitive, pieces of its own cubic included." `FlattenAnswers` says that there is such an r
  pub five_to_eight : (a : Answer) (r : Refused job a) → AnswerOf job a → flattening_of job ≡ held_by a (run_over job r.before) job.output
  -- "On 9 they are complete."
  pub nine : AnswerOf job OutputShort → flattening_of job ≡ held_by OutputShort (run_over job (primitives_of job.state job.columns)) job.output
  -- "entries past the count are unchanged, on every answer in the tables too"
  pub past : PastCounts job (flattening_of job)

abbrev pub TablesHeld : Type 0
TablesHeld = (job : Job) → Holds job
