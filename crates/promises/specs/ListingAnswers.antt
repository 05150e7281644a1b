-- RULES, The program: each answer and its line, if and only if what holds of the text. A good text is one that the printer of listing/specs/Printing
-- gives; all else goes by the calls of its commands on a fresh drawing. DrawingAnswers says when a call gives which answer, and FlattenAnswers when a
-- flattening does. "11 is tested first, then the first fault in text order wins; a command is drawn once its last line is read. Lines count from 1." Assumes
-- nothing.
use Rattle.std.specs.Prelude.{ℕ, ◌+◌, ◌≤◌, ◌<◌, ◌≡◌, ◌⊎◌, ◌≢◌, ◌↔◌, cond, List, [], ◌∷◌, ◌++◌, length}
use Rattle.answer.specs.Answer.{Answer}
use Rattle.answer.specs.Answer.{Done, BadCoordinate, BadWeight, Unusable, StoreFull, TooManyPieces, QuadsFull, SplinesFull, SumTooLarge, OutputShort, BadText, InputTooLong, NotPrintable, BufferShort}
use Rattle.answer.specs.Number.{is_done}
use Rattle.point.specs.declared.Setting.TheVariants.{Screen}
use Rattle.store.specs.declared.Call.{Call}
use Rattle.store.specs.declared.Call.TheVariants.{Build}
use Rattle.store.specs.Drawing.{Outcome, draw_of, fresh_of}
use Rattle.store.specs.Replay.{replay_of}
use Rattle.tables.specs.Tables.{quad_row_at}
use Rattle.evaluate.specs.Evaluate.{Finished, points_of}
use Rattle.flatten.specs.Flatten.{Flattening}
use Rattle.text.specs.Places.{LongestBeginning, newlines}
use Rattle.listing.specs.Printing.{TextCommand, command_lines, printed, ProperCommand, Proper, Good, call_in, calls_in}
use Rattle.listing.specs.Reading.{Progress, finished, stopped, read_of}
use Rattle.listing.specs.Writing.{report_of}
use Rattle.listing.specs.Program.{program_columns, program_quads, program_splines, program_output, said_of, listing_of}
use Rattle.promises.specs.Accepted.{Job, flattening_of, walk_in}

-- ---- the calls of whole commands, in order
abbrev pub drawn : Call → Outcome → Outcome
drawn call o = draw_of call o.state o.columns

-- each is answered 0
pub data AllDone : List Call → Outcome → Type 0 where
  no_call : {o : Outcome} → AllDone [] o
  then : {call : Call} {calls : List Call} {o : Outcome} → (drawn call o).answer ≡ Done → AllDone calls (drawn call o) → AllDone (call ∷ calls) o

-- the drawing that they make
abbrev pub drawing_of : List TextCommand → Outcome
drawing_of commands = replay_of (calls_in commands) (fresh_of program_columns)

-- ---- 1 to 4: whole commands, each answered 0, and then one that is refused. "`line` is for 1 to 4 the refused command's op line"
pub record RefusedCall (text : List ℕ) (a : Answer) (line : ℕ) : Type 0 where
  pub before : List TextCommand
  pub refused : TextCommand
  pub rest : List ℕ
  pub split : text ≡ printed before ++ (command_lines refused ++ rest)
  pub proper_before : Proper before
  pub proper : ProperCommand refused
  pub all_done : AllDone (calls_in before) (fresh_of program_columns)
  pub answer : (drawn (call_in refused) (drawing_of before)).answer ≡ a
  pub not_done : a ≢ Done
  pub op_line : line ≡ 1 + newlines (printed before)

-- ---- 10: the text is not good, and no call before the fault is refused. `line` is "for 10 the line where the wrong or missing byte is due"
pub record Faulty (text : List ℕ) (line : ℕ) : Type 0 where
  pub not_good : ¬ Good text
  pub none_refused : (a : Answer) (op_line : ℕ) → ¬ RefusedCall text a op_line
  pub beginning : List ℕ
  pub longest : LongestBeginning Good text beginning
  pub due : line ≡ 1 + newlines beginning

-- ---- the text is good, and every call is answered 0
pub record ReadWhole (text : List ℕ) : Type 0 where
  pub good : Good text
  pub all_done : AllDone (calls_in good.commands) (fresh_of program_columns)

-- "It reads standard input, builds, flattens in the screen setting."
abbrev pub built_of : List TextCommand → Outcome
built_of commands = drawn Build (drawing_of commands)

abbrev pub job_of : List TextCommand → Job
job_of commands =
    record {
      setting = Screen;
      state = (built_of commands).state;
      columns = (built_of commands).columns;
      quads = program_quads;
      splines = program_splines;
      output = program_output;
    }

-- the final build of what was read gives this answer
pub record Builds (text : List ℕ) (a : Answer) : Type 0 where
  pub read : ReadWhole text
  pub answer : (built_of read.good.commands).answer ≡ a

-- the build is answered 0, and the flattening gives this answer
pub record Flattens (text : List ℕ) (a : Answer) : Type 0 where
  pub read : ReadWhole text
  pub built : (built_of read.good.commands).answer ≡ Done
  pub answer : (flattening_of (job_of read.good.commands)).result.answer ≡ a

-- the points of the walk over the tables that a flattening leaves
abbrev pub points_in : Flattening → List Finished
points_in f = points_of (quad_row_at f.quads) f.splines (walk_in Screen f)

-- ---- "Numbered answers: No, Given when", of the program, each with its line
abbrev pub Short : List ℕ → Type 0
Short text = length text ≤ 16384

abbrev pub GivenWhen : List ℕ → Answer → ℕ → Type 0
GivenWhen text Done line = Short text × Flattens text Done × (line ≡ 0)
GivenWhen text BadCoordinate line = Short text × RefusedCall text BadCoordinate line
GivenWhen text BadWeight line = Short text × RefusedCall text BadWeight line
-- a store that is drawn by these calls alone is never unusable
GivenWhen text Unusable line = ⊥
-- "(0 for the final build)"
GivenWhen text StoreFull line = Short text × (RefusedCall text StoreFull line ⊎ (Builds text StoreFull × (line ≡ 0)))
GivenWhen text TooManyPieces line = Short text × Flattens text TooManyPieces × (line ≡ 0)
GivenWhen text QuadsFull line = Short text × Flattens text QuadsFull × (line ≡ 0)
GivenWhen text SplinesFull line = Short text × Flattens text SplinesFull × (line ≡ 0)
GivenWhen text SumTooLarge line = Short text × Flattens text SumTooLarge × (line ≡ 0)
GivenWhen text OutputShort line = Short text × Flattens text OutputShort × (line ≡ 0)
GivenWhen text BadText line = Short text × Faulty text line
-- "input over 16,384 bytes"
GivenWhen text InputTooLong line = (16384 < length text) × (line ≡ 0)
-- the program rounds no coordinate, and its buffers hold every output
GivenWhen text NotPrintable line = ⊥
GivenWhen text BufferShort line = ⊥

pub record ListingAnswers (text : List ℕ) : Type 0 where
  pub answers : (a : Answer) (line : ℕ) → (((said_of Screen text).answer ≡ a) × ((said_of Screen text).line ≡ line)) ↔ GivenWhen text a line
  -- on 0 the points are those of the drawing that the calls make
  pub points : Short text → (F : Flattens text Done) → (said_of Screen text).points ≡ points_in (flattening_of (job_of F.read.good.commands))
  -- "On a refusal points is 0 and no point follows."
  pub no_points : (said_of Screen text).answer ≢ Done → (said_of Screen text).points ≡ []
  -- the output is the bytes of what the program says
  pub output : listing_of text ≡ report_of (said_of Screen text).answer (said_of Screen text).line (said_of Screen text).points

abbrev pub ListingExact : Type 0
ListingExact = (text : List ℕ) → ListingAnswers text

-- ---- a good text is read back: its commands are drawn in order, each on its op line, up to the first that is refused
unfoldable pub draw_all : ℕ → List TextCommand → Outcome → Progress
draw_all line [] o = finished o
draw_all line (c ∷ cs) o =
    cond (is_done (drawn (call_in c) o).answer) (draw_all (line + newlines (command_lines c)) cs (drawn (call_in c) o)) (stopped (drawn (call_in c) o).answer line)

abbrev pub GoodReads : Type 0
GoodReads = (commands : List TextCommand) (first : Outcome) → Proper commands → read_of (printed commands) first ≡ draw_all 1 commands first

-- no other list of commands prints the same text
abbrev pub GoodOnce : Type 0
GoodOnce = (commands others : List TextCommand) → Proper commands → Proper others → printed commands ≡ printed others → commands ≡ others
