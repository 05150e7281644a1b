-- The third demand, each sentence as a type: what holds of every accepted drawing, in both settings. Proved in proofs/. Assumes nothing.
use Rattle.std.specs.Prelude.{ℕ, suc, ◌*◌, ◌≤◌, ◌<◌, ◌≡◌, ◌≢◌, ◌↔◌, true, T, Float, length, get_or}
use mathlib.Core.List.{List, [], map, Memᴰ}
use Rattle.std.specs.Float.Ieee.Positive.{num, den}
use Rattle.point.specs.declared.Setting.{Setting}
use Rattle.tables.specs.Tables.{quad_row_at}
use Rattle.walk.specs.Walk.{Item, starts_of, step_size_of}
use Rattle.flatten.specs.Flatten.{Flattening}
use Rattle.promises.specs.Words.{is_step, is_end, decoded, pieces_in, is_flagged}
use Rattle.contours.specs.Cutting.{cut_after}
use Rattle.promises.specs.Accepted.{Job, flattening_of, Accepted, words_in, walk_in, ContourLast, Within, steps_of, piece_of}

-- 3a. "the packed words alone tell every Start, step size and End": decoded, they are the walk's commands
abbrev pub Demand3a : Type 0
Demand3a = (job : Job) → Accepted job → decoded (words_in (flattening_of job)) ≡ map (λ (i : Item). i.command) (walk_in job.setting (flattening_of job))

-- "The word 0x7FC00000 decodes to Start 0 but is never written."
abbrev pub NeverNan : Type 0
NeverNan = (job : Job) → Accepted job → (i : ℕ) → i < length (words_in (flattening_of job)) → get_or (words_in (flattening_of job)) i 0 ≢ 0x7fc0_0000

-- 3b. "Cut after each End: piece k is spline k, with its Start and its number and size of steps"
pub record PiecesAreSplines (f : Flattening) : Type 0 where
  pub as_many : length (pieces_in (words_in f)) ≡ f.result.splines
  pub each : (k : ℕ) → k < f.result.splines → decoded (get_or (pieces_in (words_in f)) k []) ≡ piece_of f.splines k

abbrev pub Demand3b : Type 0
Demand3b = (job : Job) → Accepted job → PiecesAreSplines (flattening_of job)

-- 3c. "and a flag exactly if spline k is its contour's last". Each spline is in exactly one contour
pub record FlagsAreLast (job : Job) (k : ℕ) : Type 0 where
  pub a : ℕ
  pub b : ℕ
  pub within : Within job a b k
  pub alone : (c d : ℕ) → Within job c d k → (c ≡ a) × (d ≡ b)
  pub flag : (is_flagged (decoded (get_or (pieces_in (words_in (flattening_of job))) k [])) ≡ true) ↔ ContourLast job k

abbrev pub Demand3c : Type 0
Demand3c = (job : Job) → Accepted job → (k : ℕ) → k < (flattening_of job).result.splines → FlagsAreLast job k

-- 3d. "Walks that differ in any of these never share words": of two accepted drawings with the same words, each spline has the same Start, number of steps, size of
-- steps where there are any, and place in its contour
pub record SameSpline (job job' : Job) (k : ℕ) : Type 0 where
  pub start : starts_of (flattening_of job).splines k ≡ starts_of (flattening_of job').splines k
  pub steps : steps_of (flattening_of job).splines k ≡ steps_of (flattening_of job').splines k
  pub size : 0 < steps_of (flattening_of job).splines k → step_size_of (flattening_of job).splines k ≡ step_size_of (flattening_of job').splines k
  pub last : ContourLast job k ↔ ContourLast job' k

pub record SameWalk (job job' : Job) : Type 0 where
  pub as_many : (flattening_of job).result.splines ≡ (flattening_of job').result.splines
  pub each : (k : ℕ) → k < (flattening_of job).result.splines → SameSpline job job' k

abbrev pub Demand3d : Type 0
Demand3d = (job job' : Job) → Accepted job → Accepted job' → words_in (flattening_of job) ≡ words_in (flattening_of job') → SameWalk job job'

-- ---- the quads that steps use. The walk is cut after each End too, so that piece k has the steps of spline k
abbrev pub items_of : Setting → Flattening → ℕ → List Item
items_of setting f k = get_or (cut_after (λ (i : Item). is_end i.command) (walk_in setting f)) k []

-- i is a step of spline k
pub record StepOf (setting : Setting) (f : Flattening) (k : ℕ) (i : Item) : Type 0 where
  pub spline : k < f.result.splines
  pub member : Memᴰ i (items_of setting f k)
  pub step : T (is_step i.command)

-- "a quad's spline is its number in the quad table"
abbrev pub spline_of_quad : Flattening → ℕ → ℕ
spline_of_quad f i = (quad_row_at f.quads i).spline

abbrev pub sum_of_quad : Flattening → ℕ → Float
sum_of_quad f i = (quad_row_at f.quads i).partial_curvature

-- quad i is the last one of spline k
pub record LastQuad (f : Flattening) (k i : ℕ) : Type 0 where
  pub stored : i < f.result.quads
  pub own : spline_of_quad f i ≡ k
  pub last : (j : ℕ) → i < j → j < f.result.quads → spline_of_quad f j ≢ k

-- 3e. "No step uses a quad after its spline's last."
pub record NotAfterLast (f : Flattening) (k : ℕ) (i : Item) : Type 0 where
  pub last : ℕ
  pub is_last : LastQuad f k last
  pub not_after : i.quad ≤ last

abbrev pub Demand3e : Type 0
Demand3e = (job : Job) → Accepted job → (k : ℕ) (i : Item) → StepOf job.setting (flattening_of job) k i → NotAfterLast (flattening_of job) k i

-- p lies strictly between x and y: a finite x that is not negative is num x / den x
pub record Between (x y : Float) : Type 0 where
  pub whole : ℕ
  pub over : num x < whole * den x
  pub under : whole * den y < num y

-- "in every spline of two or more quads a whole number lies strictly between the last two running sums"
abbrev pub Spread : Flattening → Type 0
Spread f = (k i : ℕ) → LastQuad f k (suc i) → spline_of_quad f i ≡ k → Between (sum_of_quad f i) (sum_of_quad f (suc i))

-- 3f. "If" so, "each quad in the quad table gets a step and no step strays to another spline."
pub record QuadHasStep (setting : Setting) (f : Flattening) (quad : ℕ) : Type 0 where
  pub spline : ℕ
  pub item : Item
  pub stepped : StepOf setting f spline item
  pub uses : item.quad ≡ quad

pub record NoStray (setting : Setting) (f : Flattening) : Type 0 where
  pub has_step : (quad : ℕ) → quad < f.result.quads → QuadHasStep setting f quad
  pub stays : (k : ℕ) (i : Item) → StepOf setting f k i → (i.quad < f.result.quads) × (spline_of_quad f i.quad ≡ k)

abbrev pub Demand3f : Type 0
Demand3f = (job : Job) → Accepted job → Spread (flattening_of job) → NoStray job.setting (flattening_of job)
