-- 02, Six: each spline knows its quads, and for the knife the cursor begins each spline at its first one. Proved in proofs/. Assumes nothing.
use Rattle.std.specs.Prelude.{ℕ, suc, ◌+◌, ◌*◌, ◌≤◌, ◌<◌, ◌≡◌, ◌↔◌, List, Float}
use Rattle.std.specs.Float.Ieee.Positive.{num, den}
use Rattle.point.specs.declared.Setting.{Setting}
use Rattle.point.specs.declared.Setting.TheVariants.{Screen, Knife}
use Rattle.primitives.specs.declared.Kind.TheVariants.{Straight}
use Rattle.primitives.specs.declared.QuadRow.{QuadRow}
use Rattle.primitives.specs.Splines.{spline_kind_of}
use Rattle.tables.specs.Tables.{SplineTable, spline_table, quad_row_at, spline_at}
use Rattle.walk.specs.Walk.{Item, walk_of, words_of}
use Rattle.flatten.specs.Flatten.{Flattening, write_output}
use Rattle.promises.specs.Accepted.{Job, flattening_of, Accepted, walk_in}
use Rattle.promises.specs.Demand3.{StepOf, spline_of_quad, sum_of_quad, LastQuad, Between, Spread, QuadHasStep}
use Rattle.promises.specs.StraightRound.{FirstQuad}

-- ---- the ranges, on every answer
abbrev pub first_quad_at : Flattening → ℕ → ℕ
first_quad_at f k = (spline_at f.splines k).first_quad

abbrev pub quad_count_at : Flattening → ℕ → ℕ
quad_count_at f k = (spline_at f.splines k).quad_count

-- quad i is one of those that spline k tells
pub record InRange (f : Flattening) (k i : ℕ) : Type 0 where
  pub spline : k < f.result.splines
  pub from : first_quad_at f k ≤ i
  pub below : i < first_quad_at f k + quad_count_at f k

-- "the ranges in order cover the quad table"; "A spline without quads stores the next quad's number and 0", so an empty range shares its number with the next
pub record Ranges (f : Flattening) : Type 0 where
  pub first : 0 < f.result.splines → first_quad_at f 0 ≡ 0
  pub next : (k : ℕ) → suc k < f.result.splines → first_quad_at f (suc k) ≡ first_quad_at f k + quad_count_at f k
  pub last : (k : ℕ) → suc k ≡ f.result.splines → f.result.quads ≡ first_quad_at f k + quad_count_at f k
  pub none : f.result.splines ≡ 0 → f.result.quads ≡ 0
  -- no count comes near the largest u32
  pub few : (k : ℕ) → k < f.result.splines → quad_count_at f k ≤ 65536
  -- "A quad range belongs to exactly one spline": a quad is in the range of its spline number, and in no other
  pub own : (i : ℕ) → i < f.result.quads → InRange f (spline_of_quad f i) i
  pub alone : (k i : ℕ) → InRange f k i → (i < f.result.quads) × (spline_of_quad f i ≡ k)

abbrev pub RangesHold : Type 0
RangesHold = (job : Job) → Ranges (flattening_of job)

-- a spline is of lines, as its sum tells, exactly if it has no quad
abbrev pub LinesHaveNone : Type 0
LinesHaveNone =
    (job : Job) (k : ℕ) → let f = flattening_of job in
    k < f.result.splines → (spline_kind_of (spline_at f.splines k) ≡ Straight) ↔ (quad_count_at f k ≡ 0)

-- ---- demand 3f in the knife setting, in two parts
-- "without it no step strays any more"
abbrev pub KnifeStays : Type 0
KnifeStays =
    (job : Job) → Accepted job → job.setting ≡ Knife → (k : ℕ) (i : Item)
    → StepOf job.setting (flattening_of job) k i → InRange (flattening_of job) k i.quad

-- it "then needs a whole number between the last two sums only for each quad to get a step"
abbrev pub KnifeSteps : Type 0
KnifeSteps =
    (job : Job) → Accepted job → job.setting ≡ Knife → Spread (flattening_of job)
    → (quad : ℕ) → quad < (flattening_of job).result.quads → QuadHasStep job.setting (flattening_of job) quad

-- a spline's first quad, and every one after which another of its spline comes, always gets a step; the last of two or more exactly if a whole number lies between
pub record StepsOfQuads (setting : Setting) (f : Flattening) : Type 0 where
  pub first : (k i : ℕ) → FirstQuad f k i → QuadHasStep setting f i
  pub inner : (k i j : ℕ) → i < j → j < f.result.quads → spline_of_quad f i ≡ k → spline_of_quad f j ≡ k → QuadHasStep setting f i
  pub last : (k i : ℕ) → LastQuad f k (suc i) → spline_of_quad f i ≡ k → QuadHasStep setting f (suc i) ↔ Between (sum_of_quad f i) (sum_of_quad f (suc i))

abbrev pub KnifeQuads : Type 0
KnifeQuads = (job : Job) → Accepted job → job.setting ≡ Knife → StepsOfQuads job.setting (flattening_of job)

-- ---- where the condition fails, for two quads of one spline that follow each other, on every answer
-- the second sum is the first plus 1, or more
abbrev pub SumsGrow : Type 0
SumsGrow =
    (job : Job) (i : ℕ) → let f = flattening_of job in
    suc i < f.result.quads → spline_of_quad f (suc i) ≡ spline_of_quad f i
    → (num (sum_of_quad f i) + den (sum_of_quad f i)) * den (sum_of_quad f (suc i)) ≤ num (sum_of_quad f (suc i)) * den (sum_of_quad f i)

-- x is a whole number, and y the next one
pub record GrownByOne (x y : Float) : Type 0 where
  pub whole : ℕ
  pub before : num x ≡ whole * den x
  pub after : num y ≡ suc whole * den y

-- so no whole number lies strictly between them exactly where a whole sum has grown by exactly 1
abbrev pub FailsWhereWhole : Type 0
FailsWhereWhole =
    (job : Job) (i : ℕ) → let f = flattening_of job in
    suc i < f.result.quads → spline_of_quad f (suc i) ≡ spline_of_quad f i
    → (Between (sum_of_quad f i) (sum_of_quad f (suc i)) → ⊥) ↔ GrownByOne (sum_of_quad f i) (sum_of_quad f (suc i))

-- ---- what the knife's beginning changes: no word, over any tables,
abbrev pub NoWordChanges : Type 0
NoWordChanges = (rows : ℕ → QuadRow) (s : SplineTable) (n : ℕ) → words_of (walk_of Knife rows s n) ≡ words_of (walk_of Screen rows s n)

-- and where the condition holds no point: what is written is what the screen's walk over the same tables would write
abbrev pub NoPointChanges : Type 0
NoPointChanges =
    (job : Job) → Accepted job → let f = flattening_of job in
    Spread f → f.output ≡ write_output (quad_row_at f.quads) f.splines (walk_in Screen f) job.output

-- on the screen the walk reads neither column
abbrev pub retold : SplineTable → List ℕ → List ℕ → SplineTable
retold s first_quad quad_count = spline_table s.curvature s.p0x s.p0y s.p2x s.p2y s.contour first_quad quad_count

abbrev pub ScreenReadsNeither : Type 0
ScreenReadsNeither =
    (rows : ℕ → QuadRow) (s : SplineTable) (first_quad quad_count : List ℕ) (n : ℕ) → walk_of Screen rows (retold s first_quad quad_count) n ≡ walk_of Screen rows s n
