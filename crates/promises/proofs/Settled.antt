-- What the contracts settle: two outcomes that satisfy one equation are equal, and so are their parts. And the fields of a command are found again in the call
-- that is made of them. Assumes nothing.
use Prim.Native.Nat.{ℕ, ◌+◌, ◌≤◌}
use mathlib.Core.Path.{◌≡◌, refl, sym, ap, ◌∙◌, subst}
use mathlib.Core.Logic.{◌⊎◌, inl, inr}
use mathlib.Core.Bool.{Bool, true, false, cond}
use mathlib.Core.List.{List, [], ◌∷◌, ◌++◌}
use native.Mathlib.Nat.{zero-add, le_of_eq, le_trans}
use native.Mathlib.Omega.{arith}
use lib.Dec.{leb, le→leb}
use lib.Arith.{lt→nleb}
use lib.Ieee.Bits.{is_true, is_false}
use lib.ListN.{length, drop, get_or}
use lib.Seq.{sets, sets-eq}
use lib.Ieee.{nan, Float}
use Rattle.point.specs.declared.Point.{Point}
use Rattle.point.specs.Point.{point_at}
use Rattle.std.specs.Prelude.{Option, None, Some, Result, Ok, Err}
use Rattle.answer.specs.declared.Refusal.{Refusal}
use Rattle.answer.specs.Answer.{Answer}
use Rattle.primitives.specs.declared.State as stored
use Rattle.primitives.specs.declared.SplineEdit as changed
use Rattle.primitives.specs.declared.Edit as planned
use Rattle.primitives.specs.declared.Edit.TheVariants as variant
use Rattle.primitives.specs.Edits.{State, SplineEdit, Edit, Keep, Extend, Bend, edited_or}
use Rattle.tables.specs.Run.{World}
use Rattle.tables.specs.declared.lent.Tables.{Tables}
use Rattle.tables.specs.declared.lent.Refused as filling
use Rattle.tables.specs.Lent.{quads_mut_of, splines_mut_of, filled_world}
use Rattle.evaluate.specs.Delivery.{Delivery, delivers}
use Rattle.flatten.specs.declared.Flattened as counts
use Rattle.flatten.specs.declared.Refused.{Refused}
use Rattle.flatten.specs.Answer.{answered}
use Rattle.flatten.specs.Flatten.{Flattened, Output}
use Rattle.units.specs.Columns.{wholes_of}
use Rattle.plot.specs.Plot.{plotted_of}
use Rattle.store.specs.declared.Call.{Call}
use Rattle.store.specs.declared.StoreState.{StoreState}
use Rattle.store.specs.Columns.{Columns}
use Rattle.listing.specs.declared.Op.{Op}
use Rattle.listing.specs.declared.Op.TheVariants as ops
use Rattle.listing.specs.declared.BadLine.{BadLine}
use Rattle.listing.specs.declared.Place.{Place}
use Rattle.listing.specs.declared.Refused as stopping
use Rattle.text.specs.Bytes.{bytes}
use Rattle.listing.specs.Grammar.{quad_keys, cubic_keys, keys_of, call_of}
use Rattle.listing.specs.Reading.{Command, Drawing, Fault, Finish, call_as, command_as, Progress, going, finished, stopped, progress_of}
use Rattle.listing.specs.Reading.{Fields, read, wrong, fields_from, with_fields}
use Rattle.listing.specs.Writing.{Listing, listed, listed_as}
use Rattle.listing.specs.Program.{listing_of}
use Rattle.listing.specs.Told.{account_as}
use Rattle.plotting.specs.PlotListing.{account_of}
use Rattle.promises.specs.Settled.{Settles, ValueSettled, ResultAndKeptSettled, ColumnsSettled, QuadsSettled, SplinesSettled, OutputSettled, PlotReplySettled, WholeReplySettled, RoundingSettled, PlotSettled, PlottingSettled, pair_fields, two_points_fields, three_points_fields, PairSettled, TwoPointsSettled, ThreePointsSettled}
use Rattle.promises.specs.Settled.{DrawnSettled, TablesSettled, RanSettled, FilledSettled, PlannedSettled, DeliveredSettled, DeliversSettled, AnsweredSettled, FlattenSettled, ReplySettled, FlatReplySettled}
use Rattle.promises.specs.Settled.{TellingSettled, ListingSettled, Lists, ListingLists, NoCall, at_fault, at_end, CallSettled, CommandSettled, HasStopped}
use Rattle.promises.specs.Settled.{has_stopped, ReadSettled}
use Rattle.promises.specs.Settled.{pair_in, two_points_in, three_points_in, weights_in, bad_at, PairRead, TwoPointsRead, ThreePointsRead}
use Rattle.promises.specs.Settled.{WeightedTwoPointsRead, WeightedThreePointsRead, WeightsRead}

-- a form settles an outcome if the outcome's parts can be found again in what the form puts together
told : {A D : Type 0} (form : A → D) (back : D → A) → ((a : A) → back (form a) ≡ a) → Settles form
told form back same d parts parts' h k = sym (same parts) ∙ ap back (h ∙ sym k) ∙ same parts'

pub value_settled : ValueSettled
value_settled A d r r' h k = h ∙ sym k

pub result_and_kept_settled : ResultAndKeptSettled
result_and_kept_settled A B d r r' e kept kept' h k = (h.0 ∙ sym k.0, h.1 ∙ sym k.1)

pub columns_settled : ColumnsSettled
columns_settled = told _ (λ c. (c.x, c.y, c.weight, c.commands)) (λ a. refl)

pub quads_settled : QuadsSettled
quads_settled = told _ (λ q. (q.rows, q.partial_splines)) (λ a. refl)

pub splines_settled : SplinesSettled
splines_settled = told _ (λ s. (s.curvature, s.p0x, s.p0y, s.p2x, s.p2y, s.contour, s.first_quad, s.quad_count)) (λ a. refl)

pub output_settled : OutputSettled
output_settled = told _ (λ o. (o.words, o.x, o.y, o.end)) (λ a. refl)

pub drawn_settled : DrawnSettled
drawn_settled = told _ (λ o. (o.answer, o.state, o.columns)) (λ a. refl)

pub tables_settled : TablesSettled
tables_settled = told _ (λ w. (w.state, w.quads, w.splines)) (λ a. refl)

-- a run's state, without the answer
plain : State → stored.State
plain st = record { splines = st.splines; quads = st.quads; mark = st.mark; last = st.last }

pub ran_settled : RanSettled
unfolding plain
ran_settled d a a' st st' t t' h k =
    let e = h ∙ sym k in (
      ap (λ (w : World). w.state.answer) e,
      ap (λ (w : World). plain w.state) e,
      ap (λ (w : World). w.quads) e,
      ap (λ (w : World). w.splines) e,
    )

plain_edit : SplineEdit → changed.SplineEdit
plain_edit e = record { clears = e.clears; at = e.at; row = e.row; next = plain e.next }

filled_back : World → Result stored.State filling.Refused
filled_back w = back w.state.answer
  where
    back : Answer → Result stored.State filling.Refused
    back (Ok done) = Ok (plain w.state)
    back (Err r) = Err (record { refusal = r; state = plain w.state })

filled_same : (r : Result stored.State filling.Refused) (t : Tables) → filled_back (filled_world r t) ≡ r
unfolding filled_back plain
filled_same (Ok st) t = refl
filled_same (Err r) t = refl

pub filled_settled : FilledSettled
filled_settled d r r' t t' h k =
    let e = h ∙ sym k in (
      sym (filled_same r t) ∙ ap filled_back e ∙ filled_same r' t',
      sym (tables_of r t).0 ∙ ap (λ (w : World). w.quads) e ∙ (tables_of r' t').0,
      sym (tables_of r t).1 ∙ ap (λ (w : World). w.splines) e ∙ (tables_of r' t').1,
    )
  where
    tables_of : (r : Result stored.State filling.Refused) (t : Tables) → ((filled_world r t).quads ≡ quads_mut_of t.quads.now) × ((filled_world r t).splines ≡ splines_mut_of t.splines.now)
    tables_of (Ok st) t = (refl, refl)
    tables_of (Err r) t = (refl, refl)

edit_back : Edit → Result planned.Edit Refusal
edit_back (Keep st) = back st.answer
  where
    back : Answer → Result planned.Edit Refusal
    back (Ok done) = Ok (variant.Keep (plain st))
    back (Err r) = Err r
edit_back (Extend e) = Ok (variant.Extend (plain_edit e))
edit_back (Bend e i row) = Ok (variant.Bend (plain_edit e) i row)

edit_same : (st : stored.State) (r : Result planned.Edit Refusal) → edit_back (edited_or st r) ≡ r
unfolding edit_back plain plain_edit
edit_same st (Ok (variant.Keep st')) = refl
edit_same st (Ok (variant.Extend e)) = refl
edit_same st (Ok (variant.Bend e i row)) = refl
edit_same st (Err r) = refl

pub planned_settled : PlannedSettled
planned_settled st = told _ edit_back (edit_same st)

pub delivered_settled : DeliveredSettled
delivered_settled = told _ (λ o. (o.result.fits, o.result.points, o.output)) (λ a. refl)

-- how many points were delivered, if the walk fits
unfoldable points_back : Delivery → Option ℕ
points_back d = cond d.result.fits (Some d.result.points) None

delivers_same : (r : Option ℕ) (o : Output) → ◌≡◌ {A = Option ℕ × Output} (points_back (delivers r o), (delivers r o).output) (r, o)
unfolding points_back
delivers_same None o = refl
delivers_same (Some n) o = refl

pub delivers_settled : DeliversSettled
delivers_settled = told _ (λ d. (points_back d, d.output)) (λ a. delivers_same a.0 a.1)

-- a flattening's result is found again in its answer and its counts
unfoldable result_back : Flattened → Result counts.Flattened Refused
result_back f = result_of f.answer f
  where
    result_of : Answer → Flattened → Result counts.Flattened Refused
    result_of (Ok done) f = Ok (record { splines = f.splines; quads = f.quads; points = f.points })
    result_of (Err r) f = Err (record { refusal = r; splines = f.splines; quads = f.quads })

answered_same : (r : Result counts.Flattened Refused) → result_back (answered r) ≡ r
unfolding result_back
answered_same (Ok f) = refl
answered_same (Err r) = refl

pub answered_settled : AnsweredSettled
answered_settled = told answered result_back answered_same

pub flatten_settled : FlattenSettled
flatten_settled = told _ (λ f. (f.result, f.quads, f.splines, f.output)) (λ a. refl)

pub reply_settled : ReplySettled
reply_settled = told _ (λ o. (o.answer, o.state.points, o.state.commands, o.state.opening, o.columns)) (λ a. refl)

pub flat_reply_settled : FlatReplySettled
flat_reply_settled = told _ (λ f. (f.answer, f.splines, f.quads, f.points, f.quad_table, f.spline_table, f.output)) (λ a. refl)

pub plot_reply_settled : PlotReplySettled
plot_reply_settled = told _ (λ p. (p.answer, p.written, p.text)) (λ a. refl)

pub whole_reply_settled : WholeReplySettled
whole_reply_settled = told _ (λ w. (w.answer, w.points, w.x, w.y)) (λ a. refl)

-- a result is found again in its answer and its count
unfoldable counted : Answer → ℕ → Result ℕ Refusal
counted (Ok done) n = Ok n
counted (Err r) n = Err r

whole_back : (r : Result ℕ Refusal) → counted (wholes_of r).answer (wholes_of r).points ≡ r
unfolding counted
whole_back (Ok n) = refl
whole_back (Err r) = refl

plot_back : (r : Result ℕ Refusal) → counted (plotted_of r).answer (plotted_of r).written ≡ r
unfolding counted
plot_back (Ok n) = refl
plot_back (Err r) = refl

pub rounding_settled : RoundingSettled
rounding_settled =
    told _ (λ w. (counted w.result.answer w.result.points, w.x, w.y)) (λ a. ap (λ (r : Result ℕ Refusal). (r, a.1, a.2)) (whole_back a.0))

pub plot_settled : PlotSettled
plot_settled = told _ (λ p. (counted p.result.answer p.result.written, p.text)) (λ a. ap (λ (r : Result ℕ Refusal). (r, a.1)) (plot_back a.0))

-- and in its answer, its line and its count
unfoldable blamed : Answer → ℕ → ℕ → Result ℕ stopping.Refused
blamed (Ok done) line n = Ok n
blamed (Err r) line n = Err (record { refusal = r; line = line })

plotting_back : (r : Result ℕ stopping.Refused) → blamed (account_of r).answer (account_of r).line (account_of r).written ≡ r
unfolding blamed
plotting_back (Ok n) = refl
plotting_back (Err r) = refl

told_back : (r : Result ℕ stopping.Refused) → blamed (account_as r).answer (account_as r).line (account_as r).points ≡ r
unfolding blamed
told_back (Ok n) = refl
told_back (Err r) = refl

pub plotting_settled : PlottingSettled
plotting_settled =
    told _ (λ p. (blamed p.result.answer p.result.line p.result.written, p.text)) (λ a. ap (λ (r : Result ℕ stopping.Refused). (r, a.1)) (plotting_back a.0))

-- ---- the program's front half, and its listing
pub telling_settled : TellingSettled
telling_settled =
    told _ (λ t. (blamed t.result.answer t.result.line t.result.points, t.output)) (λ a. ap (λ (r : Result ℕ stopping.Refused). (r, a.1)) (told_back a.0))

pub listing_settled : ListingSettled
listing_settled = told _ (λ l. (l.result, l.output)) (λ a. refl)

lists : (text given left : List ℕ) (r : Option ℕ) → listed r left ≡ listed_as text given → Lists text given r left
unfolding listed_as
lists text given left r h =
    record {
      short = λ l. parts None given (h ∙ ap chosen (is_false (leb (length text) (length given)) (lt→nleb (length text) (length given) l)));
      fits = λ l. parts (Some (length text)) (text ++ drop (length text) given)
          (h ∙ ap chosen (is_true (leb (length text) (length given)) (le→leb (length text) (length given) l)) ∙ ap (listed (Some (length text))) (written l));
    }
  where
    chosen : Bool → Listing
    chosen b = cond b (listed (Some (length text)) (sets given 0 text)) (listed None given)

    parts : (r' : Option ℕ) (left' : List ℕ) → listed r left ≡ listed r' left' → (r ≡ r') × (left ≡ left')
    parts r' left' e = (ap (λ (l : Listing). l.result) e, ap (λ (l : Listing). l.output) e)

    written : length text ≤ length given → sets given 0 text ≡ text ++ drop (length text) given
    written l =
        sets-eq text given 0 (le_trans (le_of_eq (zero-add (length text))) l) ∙ ap (λ (n : ℕ). text ++ drop n given) (zero-add (length text))

pub listing_lists : ListingLists
listing_lists input given left r = lists (listing_of input) given left r

-- ---- the fields, back from the values that were read
pair_back : Fields → Result (Float × Float) ℕ
pair_back (read v at line) = Ok (get_or v 0 nan, get_or v 1 nan)
pair_back (wrong line) = Err line

two_back : Fields → Result (Point × Point) ℕ
two_back (read v at line) = Ok (point_at (get_or v 0 nan) (get_or v 1 nan), point_at (get_or v 2 nan) (get_or v 3 nan))
two_back (wrong line) = Err line

three_back : Fields → Result (Point × Point × Point) ℕ
three_back (read v at line) = Ok (point_at (get_or v 0 nan) (get_or v 1 nan), point_at (get_or v 2 nan) (get_or v 3 nan), point_at (get_or v 4 nan) (get_or v 5 nan))
three_back (wrong line) = Err line

pair_same : (r : Result (Float × Float) ℕ) (end line : ℕ) → pair_back (pair_fields r end line) ≡ r
unfolding pair_back
pair_same (Ok v) end line = refl
pair_same (Err l) end line = refl

two_same : (r : Result (Point × Point) ℕ) (end line : ℕ) → two_back (two_points_fields r end line) ≡ r
unfolding two_back
two_same (Ok p) end line = refl
two_same (Err l) end line = refl

three_same : (r : Result (Point × Point × Point) ℕ) (end line : ℕ) → three_back (three_points_fields r end line) ≡ r
unfolding three_back
three_same (Ok p) end line = refl
three_same (Err l) end line = refl

pub pair_settled : PairSettled
pair_settled end line = told _ pair_back (λ r. pair_same r end line)

pub two_points_settled : TwoPointsSettled
two_points_settled end line = told _ two_back (λ r. two_same r end line)

pub three_points_settled : ThreePointsSettled
three_points_settled end line = told _ three_back (λ r. three_same r end line)

-- ---- a command, back from what is read of it
line_back : ℕ → BadLine
line_back line = record { 0 = line }

call_back : Command → Result Call BadLine
call_back (Drawing call at line) = Ok call
call_back (Fault line) = Err (line_back line)
call_back Finish = Err (line_back 0)

call_same : (r : Result Call BadLine) (p : Place) → call_back (call_as r p) ≡ r
unfolding call_back line_back
call_same (Ok call) p = refl
call_same (Err bad) p = refl

command_back : Command → Result (Option Call) BadLine
command_back (Drawing call at line) = Ok (Some call)
command_back (Fault line) = Err (line_back line)
command_back Finish = Ok None

command_same : (r : Result (Option Call) BadLine) (p : Place) → command_back (command_as r p) ≡ r
unfolding command_back line_back
command_same (Ok (Some call)) p = refl
command_same (Ok None) p = refl
command_same (Err bad) p = refl

-- the place after the command; or another place, if there is none
place_back : Place → Command → Place
place_back p (Drawing call at line) = record { at = at; line = line }
place_back p (Fault line) = p
place_back p Finish = p

-- where each of two outcomes tells its place, and both are the same, the places are
either_told : {A D : Type 0} (Nothing : D → Type 0) (back : A → D → A) (d e f : D) (p p' : A) → e ≡ d → f ≡ d
    → Nothing e ⊎ (back p' e ≡ p) → Nothing f ⊎ (back p' f ≡ p') → Nothing d ⊎ (p ≡ p')
either_told Nothing back d e f p p' h k (inl n) t = inl (subst Nothing h n)
either_told Nothing back d e f p p' h k (inr q) (inl n) = inl (subst Nothing k n)
either_told Nothing back d e f p p' h k (inr q) (inr q') = inr (sym q ∙ ap (back p') (h ∙ sym k) ∙ q')

call_told : (r : Result Call BadLine) (p other : Place) → NoCall (call_as r p) ⊎ (place_back other (call_as r p) ≡ p)
unfolding place_back
call_told (Ok call) p other = inr refl
call_told (Err bad) p other = inl (at_fault bad.0)

command_told : (r : Result (Option Call) BadLine) (p other : Place) → NoCall (command_as r p) ⊎ (place_back other (command_as r p) ≡ p)
unfolding place_back
command_told (Ok (Some call)) p other = inr refl
command_told (Ok None) p other = inl at_end
command_told (Err bad) p other = inl (at_fault bad.0)

pub call_settled : CallSettled
call_settled d r r' p p' h k = (
  sym (call_same r p) ∙ ap call_back (h ∙ sym k) ∙ call_same r' p',
  either_told NoCall place_back d (call_as r p) (call_as r' p') p p' h k (call_told r p p') (call_told r' p' p'),
)

pub command_settled : CommandSettled
command_settled d r r' p p' h k = (
  sym (command_same r p) ∙ ap command_back (h ∙ sym k) ∙ command_same r' p',
  either_told NoCall place_back d (command_as r p) (command_as r' p') p p' h k (command_told r p p') (command_told r' p' p'),
)

-- ---- the fields, back from the call that is made of them
place_same : (r : Result Call BadLine) (p : Place) → place_back p (call_as r p) ≡ p
unfolding place_back
place_same (Ok call) p = refl
place_same (Err bad) p = refl

-- what a call and its place tell of some of its fields, `y`, where all of them are `x`: it is shown test by test, as the fields are read
record Told (op : Op) (Tells : Result Call BadLine → Place → Fields → Type 0) (x y : Fields) : Type 0 where
  tells : (p : Place) → Tells (call_back (with_fields op x)) (place_back p (with_fields op x)) y

module _ {op : Op} {Tells : Result Call BadLine → Place → Fields → Type 0} where
  told_if : {x x' y y' : Fields} (b : Bool) → Told op Tells x y → Told op Tells x' y' → Told op Tells (cond b x x') (cond b y y')
  told_if true t t' = t
  told_if false t t' = t'

  told_by : {x y : Fields} (r : Result Call BadLine) (p : Place) → Told op Tells x y → call_as r p ≡ with_fields op x → Tells r p y
  told_by {x} {y} r p t h =
      let place : place_back p (with_fields op x) ≡ p = ap (place_back p) (sym h) ∙ place_same r p in
      subst (λ (q : Place). Tells r q y) place
      (subst (λ (s : Result Call BadLine). Tells s (place_back p (with_fields op x)) y) (ap call_back (sym h) ∙ call_same r p) (t.tells p))

-- one point, two or three, or the weights alone
abbrev TellPair : Result Call BadLine → Place → Fields → Type 0
TellPair r p y = pair_fields (pair_in r) p.at p.line ≡ y

abbrev TellTwo : Result Call BadLine → Place → Fields → Type 0
TellTwo r p y = two_points_fields (two_points_in r) p.at p.line ≡ y

abbrev TellThree : Result Call BadLine → Place → Fields → Type 0
TellThree r p y = three_points_fields (three_points_in r) p.at p.line ≡ y

abbrev TellWeights : Result Call BadLine → Place → Fields → Type 0
TellWeights r p y = pair_fields (weights_in r) p.at p.line ≡ y

module _ {op : Op} {line : ℕ} where
  pair_wrong : Told op TellPair (wrong line) (wrong line)
  unfolding call_back line_back with_fields
  pair_wrong = record { tells = λ p. refl }

  two_wrong : Told op TellTwo (wrong line) (wrong line)
  unfolding call_back line_back with_fields
  two_wrong = record { tells = λ p. refl }

  three_wrong : Told op TellThree (wrong line) (wrong line)
  unfolding call_back line_back with_fields
  three_wrong = record { tells = λ p. refl }

  weights_wrong : Told op TellWeights (wrong line) (wrong line)
  unfolding call_back line_back with_fields
  weights_wrong = record { tells = λ p. refl }

module _ {at line : ℕ} {a b : Float} where
  move_told : Told ops.Move TellPair (read (a ∷ b ∷ []) at line) (read (a ∷ b ∷ []) at line)
  unfolding call_back place_back with_fields call_of
  move_told = record { tells = λ p. refl }

  line_told : Told ops.Line TellPair (read (a ∷ b ∷ []) at line) (read (a ∷ b ∷ []) at line)
  unfolding call_back place_back with_fields call_of
  line_told = record { tells = λ p. refl }

  two_told : {c d : Float} → Told ops.Quad TellTwo (read (a ∷ b ∷ c ∷ d ∷ []) at line) (read (a ∷ b ∷ c ∷ d ∷ []) at line)
  unfolding call_back place_back with_fields call_of
  two_told = record { tells = λ p. refl }

  three_told : {c d e f : Float}
      → Told ops.Cubic TellThree (read (a ∷ b ∷ c ∷ d ∷ e ∷ f ∷ []) at line) (read (a ∷ b ∷ c ∷ d ∷ e ∷ f ∷ []) at line)
  unfolding call_back place_back with_fields call_of
  three_told = record { tells = λ p. refl }

  weights_told : {c d e f g h : Float}
      → Told ops.RatCubic TellWeights (read (c ∷ d ∷ e ∷ f ∷ g ∷ h ∷ a ∷ b ∷ []) at line) (read (a ∷ b ∷ []) at line)
  unfolding call_back place_back with_fields call_of
  weights_told = record { tells = λ p. refl }

module _ (text : List ℕ) (at line : ℕ) where
  abbrev pair : Fields
  pair = fields_from text at line [] (bytes "x" ∷ bytes "y" ∷ [])

  abbrev two : Fields
  two = fields_from text at line [] quad_keys

  abbrev three : Fields
  three = fields_from text at line [] cubic_keys

  move_pair : Told ops.Move TellPair pair pair
  unfolding fields_from
  move_pair = search (told_if, move_told, pair_wrong)

  line_pair : Told ops.Line TellPair pair pair
  unfolding fields_from
  line_pair = search (told_if, line_told, pair_wrong)

  all_two : Told ops.Quad TellTwo two two
  unfolding fields_from quad_keys
  all_two = search (told_if, two_told, two_wrong)

  all_three : Told ops.Cubic TellThree three three
  unfolding fields_from quad_keys cubic_keys
  all_three = search (told_if, three_told, three_wrong) depth 9

pub pair_read : PairRead
unfolding keys_of
pair_read text at line r p (inl h) = told_by r p (move_pair text at line) h
pair_read text at line r p (inr h) = told_by r p (line_pair text at line) h

pub two_points_read : TwoPointsRead
unfolding keys_of
two_points_read text at line r p h = told_by r p (all_two text at line) h

pub three_points_read : ThreePointsRead
unfolding keys_of
three_points_read text at line r p h = told_by r p (all_three text at line) h

-- ---- the same of the points before a weight or two
module _ (at line : ℕ) where
  abbrev TellTwoBefore : Result Call BadLine → Place → Fields → Type 0
  TellTwoBefore r p y = (two_points_fields (two_points_in r) (at + 48) (line + 4) ≡ y) ⊎ (r ≡ bad_at (line + 4))

  abbrev TellThreeBefore : Result Call BadLine → Place → Fields → Type 0
  TellThreeBefore r p y =
      (three_points_fields (three_points_in r) (at + 72) (line + 6) ≡ y) ⊎ ((r ≡ bad_at (line + 6)) ⊎ (r ≡ bad_at (line + 7)))

  two_before_wrong : {line' : ℕ} → Told ops.RatQuad TellTwoBefore (wrong line') (wrong line')
  unfolding call_back line_back with_fields
  two_before_wrong = record { tells = λ p. inl refl }

  three_before_wrong : {line' : ℕ} → Told ops.RatCubic TellThreeBefore (wrong line') (wrong line')
  unfolding call_back line_back with_fields
  three_before_wrong = record { tells = λ p. inl refl }

  module _ (a b c d e : Float) (at' line' : ℕ) where
    two_before : (w : Bool)
        → Told ops.RatQuad TellTwoBefore (cond w (read (a ∷ b ∷ c ∷ d ∷ e ∷ []) at' line') (wrong (line + 1 + 1 + 1 + 1)))
        (read (a ∷ b ∷ c ∷ d ∷ []) (at + 12 + 12 + 12 + 12) (line + 1 + 1 + 1 + 1))
    unfolding call_back line_back with_fields call_of
    two_before true =
        let i : at + 48 ≡ at + 12 + 12 + 12 + 12 = omega arith in
        let j : line + 4 ≡ line + 1 + 1 + 1 + 1 = omega arith in
        record { tells = λ p. inl (rw (i, j)) }
    two_before false = let j : line + 1 + 1 + 1 + 1 ≡ line + 4 = omega arith in record { tells = λ p. inr (ap bad_at j) }

    three_before : (f g h : Float) (w w' : Bool)
        → Told ops.RatCubic TellThreeBefore
        (cond w
        (cond w' (read (a ∷ b ∷ c ∷ d ∷ e ∷ f ∷ g ∷ h ∷ []) at' line') (wrong (line + 1 + 1 + 1 + 1 + 1 + 1 + 1)))
        (wrong (line + 1 + 1 + 1 + 1 + 1 + 1)))
        (read (a ∷ b ∷ c ∷ d ∷ e ∷ f ∷ []) (at + 12 + 12 + 12 + 12 + 12 + 12) (line + 1 + 1 + 1 + 1 + 1 + 1))
    unfolding call_back line_back with_fields call_of
    three_before f g h true true =
        let i : at + 72 ≡ at + 12 + 12 + 12 + 12 + 12 + 12 = omega arith in
        let j : line + 6 ≡ line + 1 + 1 + 1 + 1 + 1 + 1 = omega arith in
        record { tells = λ p. inl (rw (i, j)) }
    three_before f g h true false =
        let j : line + 1 + 1 + 1 + 1 + 1 + 1 + 1 ≡ line + 7 = omega arith in record { tells = λ p. inr (inr (ap bad_at j)) }
    three_before f g h false w' = let j : line + 1 + 1 + 1 + 1 + 1 + 1 ≡ line + 6 = omega arith in record { tells = λ p. inr (inl (ap bad_at j)) }

  two_weighted : (text : List ℕ) → Told ops.RatQuad TellTwoBefore (fields_from text at line [] (keys_of ops.RatQuad)) (two text at line)
  unfolding fields_from keys_of quad_keys
  two_weighted text = search (told_if, two_before, two_before_wrong) depth 9

  three_weighted : (text : List ℕ) → Told ops.RatCubic TellThreeBefore (fields_from text at line [] (keys_of ops.RatCubic)) (three text at line)
  unfolding fields_from keys_of quad_keys cubic_keys
  three_weighted text = search (told_if, three_before, three_before_wrong) depth 9

pub weighted_two_points_read : WeightedTwoPointsRead
weighted_two_points_read text at line r p h = told_by r p (two_weighted at line text) h

pub weighted_three_points_read : WeightedThreePointsRead
weighted_three_points_read text at line r p h = told_by r p (three_weighted at line text) h

-- and of two weights, from where the points before them have ended
module _ (text : List ℕ) where
  abbrev from_weights : ℕ → ℕ → List Float → Fields
  from_weights at line values = fields_from text at line values (bytes "w1" ∷ bytes "w2" ∷ [])

  abbrev TellBehind : Result Call BadLine → Place → Fields → Type 0
  TellBehind r p y = (values : List Float) (at line : ℕ) → y ≡ read values at line → TellWeights r p (from_weights at line [])

  behind_wrong : {line : ℕ} → Told ops.RatCubic TellBehind (wrong line) (wrong line)
  behind_wrong = record { tells = λ p values at line' e. cc }

  module _ (a b c d e f : Float) (at line : ℕ) where
    weights : Told ops.RatCubic TellWeights (from_weights at line (a ∷ b ∷ c ∷ d ∷ e ∷ f ∷ [])) (from_weights at line [])
    unfolding fields_from
    weights = search (told_if, weights_told, weights_wrong)

    behind : Told ops.RatCubic TellBehind (from_weights at line (a ∷ b ∷ c ∷ d ∷ e ∷ f ∷ [])) (read (a ∷ b ∷ c ∷ d ∷ e ∷ f ∷ []) at line)
    behind = record {
      tells = λ p values at' line' same.
          let i : at ≡ at' = cc in
          let j : line ≡ line' = cc in
          weights.tells p ∙ ap (λ (n : ℕ). from_weights n line []) i ∙ ap (λ (n : ℕ). from_weights at' n []) j;
    }

  all_behind : (at line : ℕ) → Told ops.RatCubic TellBehind (fields_from text at line [] (keys_of ops.RatCubic)) (three text at line)
  unfolding fields_from keys_of quad_keys cubic_keys
  all_behind at line = search (told_if, behind, behind_wrong) depth 9

pub weights_read : WeightsRead
weights_read text at line r p h = told_by r p (all_behind text at line) h

-- ---- the reading
read_back : Progress → Result Unit stopping.Refused
read_back (going at line o) = Ok tt
read_back (finished o) = Ok tt
read_back (stopped (Ok done) line) = Ok tt
read_back (stopped (Err refusal) line) = Err (record { refusal = refusal; line = line })

read_same : (r : Result Unit stopping.Refused) (s : StoreState) (c : Columns) → read_back (progress_of r s c) ≡ r
unfolding read_back
read_same (Ok done) s c = refl
read_same (Err r) s c = refl

-- what the store holds; or another, if the result says nothing of it
store_back : StoreState × Columns → Progress → StoreState × Columns
store_back other (going at line o) = (o.state, o.columns)
store_back other (finished o) = (o.state, o.columns)
store_back other (stopped a line) = other

store_told : (r : Result Unit stopping.Refused) (s : StoreState) (c : Columns) (other : StoreState × Columns)
    → HasStopped (progress_of r s c) ⊎ (store_back other (progress_of r s c) ≡ (s, c))
unfolding store_back
store_told (Ok done) s c other = inr refl
store_told (Err r) s c other = inl (has_stopped (Err r.refusal) r.line)

apart : {d : Progress} {s s' : StoreState} {c c' : Columns} → HasStopped d ⊎ ◌≡◌ {A = StoreState × Columns} (s, c) (s', c') → HasStopped d ⊎ ((s ≡ s') × (c ≡ c'))
apart (inl n) = inl n
apart (inr q) = inr (ap (λ (p : StoreState × Columns). p.0) q, ap (λ (p : StoreState × Columns). p.1) q)

pub read_settled : ReadSettled
read_settled d r r' s s' c c' h k = (
  sym (read_same r s c) ∙ ap read_back (h ∙ sym k) ∙ read_same r' s' c',
  apart (either_told HasStopped store_back d (progress_of r s c) (progress_of r' s' c') (s, c) (s', c') h k
      (store_told r s c (s', c')) (store_told r' s' c' (s', c'))),
)
