-- 02, Eight, contours that don't know each other: "flattening such a drawing gives the points of the contours, each flattened as a drawing by itself, joined in
-- order". When the whole is accepted and when each contour is. Proved in proofs/Nests. Assumes nothing.
use Rattle.std.specs.Prelude.{ℕ, suc, ◌+◌, ◌≤◌, ◌≡◌, ◌≢◌, ◌↔◌, Float, length, take}
use mathlib.Core.List.{List, [], ◌∷◌, ◌++◌, map, flat_map}
use Rattle.facts.specs.Every.{All}
use Rattle.answer.specs.Answer.{Unusable}
use Rattle.point.specs.declared.Setting.{Setting}
use Rattle.point.specs.declared.Setting.TheVariants.{Screen}
use Rattle.command.specs.declared.PointCommand.{PointCommand}
use Rattle.command.specs.declared.PointCommand.TheVariants.{Start, Incr, End}
use Rattle.command.specs.Packing.{pack_of, unpack_of}
use Rattle.store.specs.Contours.{Drawing, contours_of}
use Rattle.tables.specs.Tables.{QuadTable, SplineTable, quad_capacity_of, spline_capacity_of}
use Rattle.flatten.specs.Flatten.{Output, Flattening}
use Rattle.promises.specs.Accepted.{Job, flattening_of, Accepted, words_in}
use Rattle.promises.specs.Demand3.{Spread}

-- ---- each contour alone
-- what is lent to flatten a drawing
pub record Lent : Type 0 where
  pub quads : QuadTable
  pub splines : SplineTable
  pub output : Output

abbrev pub lent_to : Job → Lent
lent_to job = record { quads = job.quads; splines = job.splines; output = job.output }

abbrev pub job_of : Setting → Lent → Drawing → Job
job_of setting lent d =
    record { setting = setting; state = d.state; columns = d.columns; quads = lent.quads; splines = lent.splines; output = lent.output }

-- "each flattened as a drawing by itself", the i-th with what `lent i` is
unfoldable pub alones_from : Setting → (ℕ → Lent) → ℕ → List Drawing → List Job
alones_from setting lent i [] = []
alones_from setting lent i (d ∷ ds) = job_of setting (lent i) d ∷ alones_from setting lent (suc i) ds

abbrev pub alones_of : Job → (ℕ → Lent) → List Job
alones_of job lent = alones_from job.setting lent 0 (contours_of job.state job.columns)

unfoldable pub total : {A : Type 0} → (A → ℕ) → List A → ℕ
total f [] = 0
total f (a ∷ rest) = f a + total f rest

-- ---- "joined in order"
-- the finished points: x, y, and whether a contour ends
abbrev pub x_in : Flattening → List Float
x_in f = take f.result.points f.output.x

abbrev pub y_in : Flattening → List Float
y_in f = take f.result.points f.output.y

abbrev pub end_in : Flattening → List ℕ
end_in f = take f.result.points f.output.end

-- a command whose spline has n splines before it
abbrev pub numbered_on : ℕ → PointCommand → PointCommand
numbered_on n (Start k) = Start (n + k)
numbered_on n (Incr size) = Incr size
numbered_on n (End k flag) = End (n + k) flag

-- the contours' words, their splines numbered on
unfoldable pub words_from : ℕ → List Flattening → List ℕ
words_from n [] = []
words_from n (f ∷ fs) = map (λ (word : ℕ). pack_of (numbered_on n (unpack_of word))) (words_in f) ++ words_from (n + f.result.splines) fs

-- the words, the ends of contours, and how many there are of each
pub record WordsJoined (whole : Flattening) (parts : List Flattening) : Type 0 where
  pub words : words_in whole ≡ words_from 0 parts
  pub end : end_in whole ≡ flat_map end_in parts
  pub splines : whole.result.splines ≡ total (λ (f : Flattening). f.result.splines) parts
  pub quads : whole.result.quads ≡ total (λ (f : Flattening). f.result.quads) parts
  pub points : whole.result.points ≡ total (λ (f : Flattening). f.result.points) parts

-- all of it
pub record Joined (whole : Flattening) (parts : List Flattening) : Type 0 where
  pub x : x_in whole ≡ flat_map x_in parts
  pub y : y_in whole ≡ flat_map y_in parts
  pub told : WordsJoined whole parts

-- "as long as each alone and the whole are accepted and, in the screen setting, demand 3's condition on sums holds"
abbrev pub NestsJoin : Type 0
NestsJoin =
    (job : Job) (lent : ℕ → Lent) → Accepted job → All Accepted (alones_of job lent) → (job.setting ≡ Screen → Spread (flattening_of job))
    → Joined (flattening_of job) (map flattening_of (alones_of job lent))

-- for all but x and y no condition is needed, on the screen either
abbrev pub NestsTell : Type 0
NestsTell =
    (job : Job) (lent : ℕ → Lent) → Accepted job → All Accepted (alones_of job lent) → WordsJoined (flattening_of job) (map flattening_of (alones_of job lent))

-- the condition on the whole is the same as on each alone
abbrev pub SpreadAlike : Type 0
SpreadAlike =
    (job : Job) (lent : ℕ → Lent) → Accepted job → All Accepted (alones_of job lent)
    → Spread (flattening_of job) ↔ All (λ (alone : Job). Spread (flattening_of alone)) (alones_of job lent)

-- ---- when each alone is accepted: with rooms no smaller, if the whole is
pub record NoSmaller (a b : Lent) : Type 0 where
  pub quads : quad_capacity_of a.quads ≤ quad_capacity_of b.quads
  pub splines : spline_capacity_of a.splines ≤ spline_capacity_of b.splines
  pub words : length a.output.words ≤ length b.output.words
  pub x : length a.output.x ≤ length b.output.x
  pub y : length a.output.y ≤ length b.output.y
  pub end : length a.output.end ≤ length b.output.end

abbrev pub AlonesAccepted : Type 0
AlonesAccepted = (job : Job) (lent : ℕ → Lent) → Accepted job → ((i : ℕ) → NoSmaller (lent_to job) (lent i)) → All Accepted (alones_of job lent)

-- ---- when the whole is accepted: if each alone is, and there is room for the sums; a spline table's capacity is at most the spline limit
pub record RoomFor (lent : Lent) (parts : List Flattening) : Type 0 where
  pub quads : total (λ (f : Flattening). f.result.quads) parts ≤ quad_capacity_of lent.quads
  pub splines : total (λ (f : Flattening). f.result.splines) parts ≤ spline_capacity_of lent.splines
  pub words : total (λ (f : Flattening). f.result.points) parts ≤ length lent.output.words
  pub x : total (λ (f : Flattening). f.result.points) parts ≤ length lent.output.x
  pub y : total (λ (f : Flattening). f.result.points) parts ≤ length lent.output.y
  pub end : total (λ (f : Flattening). f.result.points) parts ≤ length lent.output.end

abbrev pub WholeAccepted : Type 0
WholeAccepted =
    (job : Job) (lent : ℕ → Lent) → (flattening_of job).result.answer ≢ Unusable → All Accepted (alones_of job lent)
    → RoomFor (lent_to job) (map flattening_of (alones_of job lent)) → Accepted job

-- ---- so a user may look at the whole alone,
abbrev pub WholeTells : Type 0
WholeTells =
    (job : Job) (lent : ℕ → Lent) → Accepted job → ((i : ℕ) → NoSmaller (lent_to job) (lent i)) → (job.setting ≡ Screen → Spread (flattening_of job))
    → Joined (flattening_of job) (map flattening_of (alones_of job lent))

-- or at the pieces alone
abbrev pub PiecesTell : Type 0
PiecesTell =
    (job : Job) (lent : ℕ → Lent) → (flattening_of job).result.answer ≢ Unusable → All Accepted (alones_of job lent)
    → RoomFor (lent_to job) (map flattening_of (alones_of job lent))
    → (job.setting ≡ Screen → All (λ (alone : Job). Spread (flattening_of alone)) (alones_of job lent))
    → Accepted job × Joined (flattening_of job) (map flattening_of (alones_of job lent))
