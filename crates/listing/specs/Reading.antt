-- RULES, The program: reading. Every line has a fixed width, so a place in the text and its line number are all that reading keeps. Assumes nothing.
use Rattle.std.specs.Prelude.{ℕ, zero, suc, ◌≡◌, ◌+◌, ◌≤◌, Bool, ◌&&◌, cond, List, [], ◌∷◌, ◌++◌, leb, Float, length, Option, Some, None, Result, Ok, Err}
use Rattle.std.specs.List.{find}
use Rattle.leaves.specs.Bits.{float_of}
use Rattle.answer.specs.declared.Refusal.{Refusal}
use Rattle.answer.specs.declared.Refusal.TheVariants as refusals
use Rattle.answer.specs.Answer.{Answer}
use Rattle.answer.specs.Answer.{Done, BadText}
use Rattle.answer.specs.Number.{is_done}
use Rattle.store.specs.declared.Call.{Call}
use Rattle.store.specs.declared.StoreState.{StoreState}
use Rattle.store.specs.Columns.{Columns}
use Rattle.store.specs.Drawing.{Outcome, outcome, draw_of}
use Rattle.text.specs.Bytes.{bytes, stands_at}
use Rattle.text.specs.Hex.{hex_stands_at, hex_number_at}
use Rattle.listing.specs.declared.Op.{Op}
use Rattle.listing.specs.declared.Op.TheVariants.{Move, Line, Quad, RatQuad, Cubic, RatCubic}
use Rattle.listing.specs.declared.BadLine.{BadLine}
use Rattle.listing.specs.declared.Place.{Place}
use Rattle.listing.specs.declared.Refused.{Refused}
use Rattle.listing.specs.Grammar.{op_line_of, keys_of, call_of}

-- a place in the text and its line number: every line before it has at least a byte, so neither number can grow too large
pub record Placed (text : List ℕ) (at line : ℕ) : Type 0 where
  pub inside : at ≤ length text
  pub counted : line ≤ at + 1

-- ---- one field: key=, eight digits, a line end
unfoldable pub field_stands_at : List ℕ → ℕ → List ℕ → Bool
field_stands_at text at key =
    stands_at text at (key ++ bytes "=") && hex_stands_at text (at + length key + 1) && stands_at text (at + length key + 9) (bytes "\n")

unfoldable pub field_value_at : List ℕ → ℕ → List ℕ → Float
field_value_at text at key = float_of (hex_number_at text (at + length key + 1))

unfoldable pub field_at_of : List ℕ → ℕ → List ℕ → Option Float
field_at_of text at key = cond (field_stands_at text at key) (Some (field_value_at text at key)) None

abbrev pub field_width : List ℕ → ℕ
field_width key = length key + 10

-- ---- the fields of a command: all of them, with the place and line after them; or the line of the first fault
pub data Fields : Type 0 where
  read : List Float → ℕ → ℕ → Fields
  wrong : ℕ → Fields

unfoldable pub fields_from : List ℕ → ℕ → ℕ → List Float → List (List ℕ) → Fields
fields_from text at line values [] = read values at line
fields_from text at line values (key ∷ keys) =
    cond (field_stands_at text at key) (fields_from text (at + field_width key) (line + 1) (values ++ (field_value_at text at key ∷ [])) keys) (wrong line)

-- ---- one command: its call, with the place and line after it; a fault's line; or the end of the text
pub data Command : Type 0 where
  Drawing : Call → ℕ → ℕ → Command
  Fault : ℕ → Command
  Finish : Command

-- as the code reads it, with the place that it goes on to; a fault leaves the place anywhere
abbrev pub call_as : Result Call BadLine → Place → Command
call_as (Ok call) p = Drawing call p.at p.line
call_as (Err bad) p = Fault bad.0

abbrev pub command_as : Result (Option Call) BadLine → Place → Command
command_as (Ok (Some call)) p = Drawing call p.at p.line
command_as (Ok None) p = Finish
command_as (Err bad) p = Fault bad.0

unfoldable pub with_fields : Op → Fields → Command
with_fields op (read values at line) = Drawing (call_of op values) at line
with_fields op (wrong line) = Fault line

-- the fields of an op, read from a place of a text: the call of their values, and the place behind them
abbrev pub FieldsCalled : List ℕ → ℕ → ℕ → Op → Result Call BadLine → Place → Type 0
FieldsCalled text at line op r p = call_as r p ≡ with_fields op (fields_from text at line [] (keys_of op))

unfoldable pub command_from : List ℕ → ℕ → ℕ → Op → Command
command_from text at line op = with_fields op (fields_from text (at + length (op_line_of op)) (line + 1) [] (keys_of op))

-- the first op whose line is found here
unfoldable pub try_ops : List ℕ → ℕ → ℕ → List Op → Command
try_ops text at line [] = Fault line
try_ops text at line (op ∷ ops) = cond (stands_at text at (op_line_of op)) (command_from text at line op) (try_ops text at line ops)

abbrev pub ops : List Op
ops = Move ∷ Line ∷ Quad ∷ RatQuad ∷ Cubic ∷ RatCubic ∷ []

abbrev pub op_at_of : List ℕ → ℕ → List Op → Option Op
op_at_of text at ops = find (λ op. stands_at text at (op_line_of op)) ops

unfoldable pub command_at : List ℕ → ℕ → ℕ → Command
command_at text at line = cond (leb (length text) at) Finish (try_ops text at line ops)

-- ---- the text, command by command: "the first fault in text order wins; a command is drawn once its last line is read"
pub data Progress : Type 0 where
  going : ℕ → ℕ → Outcome → Progress
  finished : Outcome → Progress
  stopped : Answer → ℕ → Progress

-- a reading as the code ends it, with the state of its store and what the columns hold
abbrev pub progress_of : Result Unit Refused → StoreState → Columns → Progress
progress_of (Ok _) state c = finished (outcome Done state c)
progress_of (Err r) state c = stopped (Err r.refusal) r.line

-- "`line` is for 1 to 4 the refused command's op line"
unfoldable pub after_call : ℕ → ℕ → ℕ → Outcome → Progress
after_call op_line at line o = cond (is_done o.answer) (going at line o) (stopped o.answer op_line)

-- "for 10 the line where the wrong or missing byte is due"
unfoldable pub after_command : ℕ → Outcome → Command → Progress
after_command op_line o (Drawing call at line) = after_call op_line at line (draw_of call o.state o.columns)
after_command op_line o (Fault line) = stopped BadText line
after_command op_line o Finish = finished o

unfoldable pub step_of : List ℕ → Progress → Progress
step_of text (going at line o) = after_command line o (command_at text at line)
step_of text (finished o) = finished o
step_of text (stopped a line) = stopped a line

unfoldable pub steps_of : ℕ → List ℕ → Progress → Progress
steps_of zero text p = p
steps_of (suc n) text p = steps_of n text (step_of text p)

-- "Lines count from 1." There are no more commands than bytes, so one step more than bytes reads the whole text.
unfoldable pub read_of : List ℕ → Outcome → Progress
read_of text o = steps_of (length text + 1) text (going 0 1 o)

-- "(0 for the final build)", and for all that is on no line
abbrev pub on_no_line : Refusal → Refused
on_no_line refusal = record { refusal = refusal; line = 0 }

abbrev pub bad_text : BadLine → Refused
bad_text bad = record { refusal = refusals.BadText; line = bad.0 }
