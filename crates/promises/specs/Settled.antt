-- PROMISES, "What the contracts settle": "That two outcomes allowed by a contract coincide is proved". A contract is one equation between all that a call gives back or leaves in
-- what it was lent, and a definition over what it was given. So for each form that a contract has: two outcomes that satisfy it are the same, part by part. Which public
-- function has which form is a table of docs/PROMISES.md, held to the sources by tests/settled/run.
-- All NaNs are one value here; which bytes a NaN then has in an f32 column is not settled, and that is the one exception. Assumes nothing.
use Rattle.std.specs.Prelude.{ℕ, ◌+◌, ◌≤◌, ◌<◌, ◌≡◌, ◌⊎◌, Bool, List, ◌++◌, Option, None, Some, Result, ℤ, Float, length, drop, [], ◌∷◌, Ok, Err}
use Rattle.answer.specs.declared.Refusal.{Refusal}
use Rattle.answer.specs.Answer.{Answer}
use Rattle.primitives.specs.declared.State as stored
use Rattle.primitives.specs.declared.Edit as planned
use Rattle.primitives.specs.Edits.{edited_or}
use Rattle.primitives.specs.Edits.{State}
use Rattle.store.specs.declared.Call.{Call}
use Rattle.store.specs.declared.Call.TheVariants as calls
use Rattle.point.specs.declared.Point.{Point}
use Rattle.store.specs.declared.StoreState.{StoreState}
use Rattle.store.specs.Columns.{Columns, columns, state_at}
use Rattle.store.specs.Drawing.{outcome}
use Rattle.tables.specs.Tables.{QuadTable, SplineTable, quad_table, spline_table}
use Rattle.tables.specs.Run.{World, world}
use Rattle.tables.specs.declared.lent.Tables.{Tables}
use Rattle.tables.specs.declared.lent.Refused as filling
use Rattle.tables.specs.Lent.{quads_mut_of, splines_mut_of, world_of, filled_world}
use Rattle.evaluate.specs.Delivery.{delivery, delivers}
use Rattle.flatten.specs.Answer.{answered}
use Rattle.flatten.specs.Flatten.{Flattened, Output, output, flattening}
use Rattle.listing.specs.declared.Op.TheVariants as ops
use Rattle.listing.specs.declared.BadLine.{BadLine}
use Rattle.listing.specs.declared.Place.{Place}
use Rattle.listing.specs.declared.Refused as stopping
use Rattle.listing.specs.Grammar.{quad_keys, cubic_keys}
use Rattle.listing.specs.Reading.{FieldsCalled, wrong, read, Fields, Command, Fault, Finish, call_as, command_as, Progress, stopped, progress_of}
use Rattle.listing.specs.Reading.{fields_from}
use Rattle.text.specs.Bytes.{bytes}
use Rattle.listing.specs.Writing.{listed, listed_as}
use Rattle.listing.specs.Program.{listing_of}
use Rattle.listing.specs.Told.{account_as, telling}
use Rattle.abi.specs.Reply.{reply, flat_reply, plot_reply, whole_reply}
use Rattle.units.specs.Columns.{rounding, wholes_of}
use Rattle.plot.specs.Plot.{plot, plotted_of}
use Rattle.plotting.specs.PlotListing.{account_of, plotting}

-- a form puts the parts of an outcome together, and a contract of that form says `form parts ≡ d`
abbrev pub Settles : {A D : Type 0} → (A → D) → Type 0
Settles {A} {D} form = (d : D) (parts parts' : A) → form parts ≡ d → form parts' ≡ d → parts ≡ parts'

-- ---- the result alone, or one lent column alone
abbrev pub ValueSettled : Type 1
ValueSettled = (A : Type 0) → Settles (λ (r : A). r)

-- ---- the result, and beside it what a lent list or table then holds: `(r ≡ d) × (kept ≡ e)`
abbrev pub ResultAndKeptSettled : Type 1
ResultAndKeptSettled = (A B : Type 0) (d r r' : A) (e kept kept' : B) → (r ≡ d) × (kept ≡ e) → (r' ≡ d) × (kept' ≡ e) → (r ≡ r') × (kept ≡ kept')

-- ---- lent columns, as the records that the forms below have for them
abbrev pub Floats : Type 0
Floats = List Float

abbrev pub ColumnsSettled : Type 0
ColumnsSettled = Settles (λ (c : Floats × Floats × Floats × List ℕ). columns c.0 c.1 c.2 c.3)

abbrev pub QuadsSettled : Type 0
QuadsSettled = Settles (λ (q : Floats × List ℕ). quad_table q.0 q.1)

abbrev pub SplinesSettled : Type 0
SplinesSettled =
    Settles (λ (s : Floats × Floats × Floats × Floats × Floats × List ℕ × List ℕ × List ℕ). spline_table s.0 s.1 s.2 s.3 s.4 s.5 s.6 s.7)

abbrev pub OutputSettled : Type 0
OutputSettled = Settles (λ (o : List ℕ × Floats × Floats × List ℕ). output o.0 o.1 o.2 o.3)

-- ---- a drawing call, the tables, the walk delivered, flattening
abbrev pub DrawnSettled : Type 0
DrawnSettled = Settles (λ (o : Answer × StoreState × Columns). outcome o.0 o.1 o.2)

abbrev pub TablesSettled : Type 0
TablesSettled = Settles (λ (w : State × QuadTable × SplineTable). world w.0 w.1 w.2)

-- what the code has for them: the result, what a run then has in its state, and the lent tables
abbrev pub RanSettled : Type 0
RanSettled =
    (d : World) (a a' : Answer) (st st' : stored.State) (t t' : Tables) → world_of a st t ≡ d → world_of a' st' t' ≡ d
    → (a ≡ a') × (st ≡ st') × (quads_mut_of t.quads.now ≡ quads_mut_of t'.quads.now) × (splines_mut_of t.splines.now ≡ splines_mut_of t'.splines.now)

abbrev pub FilledSettled : Type 0
FilledSettled =
    (d : World) (r r' : Result stored.State filling.Refused) (t t' : Tables) → filled_world r t ≡ d → filled_world r' t' ≡ d
    → (r ≡ r') × (quads_mut_of t.quads.now ≡ quads_mut_of t'.quads.now) × (splines_mut_of t.splines.now ≡ splines_mut_of t'.splines.now)

-- what one primitive changes, or how it is refused in this state
abbrev pub PlannedSettled : Type 0
PlannedSettled = (st : stored.State) → Settles (λ (r : Result planned.Edit Refusal). edited_or st r)

abbrev pub DeliveredSettled : Type 0
DeliveredSettled = Settles (λ (o : Bool × ℕ × Output). delivery o.0 o.1 o.2)

abbrev pub DeliversSettled : Type 0
DeliversSettled = Settles (λ (o : Option ℕ × Output). delivers o.0 o.1)

abbrev pub FlattenSettled : Type 0
FlattenSettled = Settles (λ (f : Flattened × QuadTable × SplineTable × Output). flattening f.0 f.1 f.2 f.3)

abbrev pub AnsweredSettled : Type 0
AnsweredSettled = Settles answered

-- ---- the C interface: the answer's number, then each count beside it
abbrev pub ReplySettled : Type 0
ReplySettled = Settles (λ (o : ℕ × ℕ × ℕ × ℕ × Columns). reply o.0 (state_at o.1 o.2 o.3) o.4)

abbrev pub FlatReplySettled : Type 0
FlatReplySettled = Settles (λ (f : ℕ × ℕ × ℕ × ℕ × QuadTable × SplineTable × Output). flat_reply f.0 f.1 f.2 f.3 f.4 f.5 f.6)

abbrev pub PlotReplySettled : Type 0
PlotReplySettled = Settles (λ (p : ℕ × ℕ × List ℕ). plot_reply p.0 p.1 p.2)

abbrev pub WholeReplySettled : Type 0
WholeReplySettled = Settles (λ (w : ℕ × ℕ × List ℤ × List ℤ). whole_reply w.0 w.1 w.2 w.3)

-- ---- finished points: in whole units, and as a plot; a listing as a plot
abbrev pub RoundingSettled : Type 0
RoundingSettled = Settles (λ (w : Result ℕ Refusal × List ℤ × List ℤ). rounding (wholes_of w.0) w.1 w.2)

abbrev pub PlotSettled : Type 0
PlotSettled = Settles (λ (p : Result ℕ Refusal × List ℕ). plot (plotted_of p.0) p.1)

abbrev pub PlottingSettled : Type 0
PlottingSettled = Settles (λ (p : Result ℕ stopping.Refused × List ℕ). plotting (account_of p.0) p.1)

-- ---- the program's front half: the result, and words and points
abbrev pub TellingSettled : Type 0
TellingSettled = Settles (λ (t : Result ℕ stopping.Refused × Output). telling (account_as t.0) t.1)

-- ---- the program's listing: the result, and the whole output
abbrev pub ListingSettled : Type 0
ListingSettled = Settles (λ (l : Option ℕ × List ℕ). listed l.0 l.1)

-- a text that does not fit is not written; one that does is written, and the output after it is as it was
pub record Lists (text given : List ℕ) (r : Option ℕ) (left : List ℕ) : Type 0 where
  pub short : length given < length text → (r ≡ None) × (left ≡ given)
  pub fits : length text ≤ length given → (r ≡ Some (length text)) × (left ≡ text ++ drop (length text) given)

abbrev pub ListingLists : Type 0
ListingLists = (input given left : List ℕ) (r : Option ℕ) → listed r left ≡ listed_as (listing_of input) given → Lists (listing_of input) given r left

-- ---- the fields of a listing: two values, two points or three points as they were read, or the line of the first fault
abbrev pub pair_fields : Result (Float × Float) ℕ → ℕ → ℕ → Fields
pair_fields (Ok v) at line = read (v.0 ∷ v.1 ∷ []) at line
pair_fields (Err line') at line = wrong line'

abbrev pub two_points_fields : Result (Point × Point) ℕ → ℕ → ℕ → Fields
two_points_fields (Ok p) at line = read (p.0.x ∷ p.0.y ∷ p.1.x ∷ p.1.y ∷ []) at line
two_points_fields (Err line') at line = wrong line'

abbrev pub three_points_fields : Result (Point × Point × Point) ℕ → ℕ → ℕ → Fields
three_points_fields (Ok p) at line = read (p.0.x ∷ p.0.y ∷ p.1.x ∷ p.1.y ∷ p.2.x ∷ p.2.y ∷ []) at line
three_points_fields (Err line') at line = wrong line'

abbrev pub PairSettled : Type 0
PairSettled = (end line : ℕ) → Settles (λ (r : Result (Float × Float) ℕ). pair_fields r end line)

abbrev pub TwoPointsSettled : Type 0
TwoPointsSettled = (end line : ℕ) → Settles (λ (r : Result (Point × Point) ℕ). two_points_fields r end line)

abbrev pub ThreePointsSettled : Type 0
ThreePointsSettled = (end line : ℕ) → Settles (λ (r : Result (Point × Point × Point) ℕ). three_points_fields r end line)

-- ---- the same values in the call that is made of them, as `call_at` (listing) promises it
-- a call's coordinates, points or weights, or the line of the fault; for a call of another op 0, which is no line
abbrev pub pair_in : Result Call BadLine → Result (Float × Float) ℕ
pair_in (Ok (calls.Move p)) = Ok (p.x, p.y)
pair_in (Ok (calls.Line p)) = Ok (p.x, p.y)
pair_in (Ok other) = Err 0
pair_in (Err bad) = Err bad.0

abbrev pub two_points_in : Result Call BadLine → Result (Point × Point) ℕ
two_points_in (Ok (calls.Quad first second)) = Ok (first, second)
two_points_in (Ok (calls.RatQuad first second w)) = Ok (first, second)
two_points_in (Ok other) = Err 0
two_points_in (Err bad) = Err bad.0

abbrev pub three_points_in : Result Call BadLine → Result (Point × Point × Point) ℕ
three_points_in (Ok (calls.Cubic first second third)) = Ok (first, second, third)
three_points_in (Ok (calls.RatCubic first second third w1 w2)) = Ok (first, second, third)
three_points_in (Ok other) = Err 0
three_points_in (Err bad) = Err bad.0

abbrev pub weights_in : Result Call BadLine → Result (Float × Float) ℕ
weights_in (Ok (calls.RatCubic first second third w1 w2)) = Ok (w1, w2)
weights_in (Ok other) = Err 0
weights_in (Err bad) = Err bad.0

-- so the call has the values in the order of their keys, and the place is the one behind them; or the line is that of the first fault
abbrev pub PairRead : Type 0
PairRead =
    (text : List ℕ) (at line : ℕ) (r : Result Call BadLine) (p : Place)
    → FieldsCalled text at line ops.Move r p ⊎ FieldsCalled text at line ops.Line r p
    → pair_fields (pair_in r) p.at p.line ≡ fields_from text at line [] (bytes "x" ∷ bytes "y" ∷ [])

abbrev pub TwoPointsRead : Type 0
TwoPointsRead =
    (text : List ℕ) (at line : ℕ) (r : Result Call BadLine) (p : Place) → FieldsCalled text at line ops.Quad r p
    → two_points_fields (two_points_in r) p.at p.line ≡ fields_from text at line [] quad_keys

abbrev pub ThreePointsRead : Type 0
ThreePointsRead =
    (text : List ℕ) (at line : ℕ) (r : Result Call BadLine) (p : Place) → FieldsCalled text at line ops.Cubic r p
    → three_points_fields (three_points_in r) p.at p.line ≡ fields_from text at line [] cubic_keys

-- where weights follow, the same of the points before them, whose fields are lines of twelve bytes; unless the fault is at a weight
abbrev pub bad_at : ℕ → Result Call BadLine
bad_at line = Err (record { 0 = line })

abbrev pub WeightedTwoPointsRead : Type 0
WeightedTwoPointsRead =
    (text : List ℕ) (at line : ℕ) (r : Result Call BadLine) (p : Place) → FieldsCalled text at line ops.RatQuad r p
    → (two_points_fields (two_points_in r) (at + 48) (line + 4) ≡ fields_from text at line [] quad_keys) ⊎ (r ≡ bad_at (line + 4))

abbrev pub WeightedThreePointsRead : Type 0
WeightedThreePointsRead =
    (text : List ℕ) (at line : ℕ) (r : Result Call BadLine) (p : Place) → FieldsCalled text at line ops.RatCubic r p
    → (three_points_fields (three_points_in r) (at + 72) (line + 6) ≡ fields_from text at line [] cubic_keys)
    ⊎ ((r ≡ bad_at (line + 6)) ⊎ (r ≡ bad_at (line + 7)))

-- and two weights are read as a pair is, from where three points have ended
abbrev pub WeightsRead : Type 0
WeightsRead =
    (text : List ℕ) (at line : ℕ) (r : Result Call BadLine) (p : Place) → FieldsCalled text at line ops.RatCubic r p
    → (values : List Float) (at' line' : ℕ) → fields_from text at line [] cubic_keys ≡ read values at' line'
    → pair_fields (weights_in r) p.at p.line ≡ fields_from text at' line' [] (bytes "w1" ∷ bytes "w2" ∷ [])

-- ---- inside the program: a command of a listing. It settles the result, and the place after the command unless there is none
pub data NoCall : Command → Type 0 where
  at_fault : (line : ℕ) → NoCall (Fault line)
  at_end : NoCall Finish

abbrev pub CallSettled : Type 0
CallSettled = (d : Command) (r r' : Result Call BadLine) (p p' : Place) → call_as r p ≡ d → call_as r' p' ≡ d → (r ≡ r') × (NoCall d ⊎ (p ≡ p'))

abbrev pub CommandSettled : Type 0
CommandSettled =
    (d : Command) (r r' : Result (Option Call) BadLine) (p p' : Place) → command_as r p ≡ d → command_as r' p' ≡ d → (r ≡ r') × (NoCall d ⊎ (p ≡ p'))

-- ---- inside the program: reading, `progress_of r state columns ≡ d`. It settles the result, and the store unless reading stopped at a fault or a refused command
pub data HasStopped : Progress → Type 0 where
  has_stopped : (a : Answer) (line : ℕ) → HasStopped (stopped a line)

abbrev pub ReadSettled : Type 0
ReadSettled =
    (d : Progress) (r r' : Result Unit stopping.Refused) (s s' : StoreState) (c c' : Columns)
    → progress_of r s c ≡ d → progress_of r' s' c' ≡ d → (r ≡ r') × (HasStopped d ⊎ ((s ≡ s') × (c ≡ c')))
