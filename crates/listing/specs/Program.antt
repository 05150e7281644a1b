-- RULES, The program: "It reads standard input, builds, flattens in the screen setting." All of its output, from all of its input. What it says of a text is
-- defined for either setting, since other programs read the same texts. Assumes nothing.
use Rattle.std.specs.Prelude.{ℕ, Bool, true, false, List, [], leb, Float, length, replicate, Result, Ok, Err}
use Rattle.leaves.specs.Single.{zero32}
use Rattle.answer.specs.Answer.{Answer}
use Rattle.answer.specs.Answer.{Done, InputTooLong}
use Rattle.answer.specs.Number.{is_done}
use Rattle.point.specs.declared.Setting.{Setting}
use Rattle.point.specs.declared.Setting.TheVariants.{Screen}
use Rattle.store.specs.declared.Call.TheVariants.{Build}
use Rattle.store.specs.declared.StoreState.{StoreState}
use Rattle.store.specs.Columns.{Columns, columns}
use Rattle.store.specs.Drawing.{Outcome, draw_of, fresh_of}
use Rattle.tables.specs.Tables.{QuadTable, quad_table, SplineTable, spline_table, quad_row_at}
use Rattle.walk.specs.Walk.{walk_of}
use Rattle.evaluate.specs.Evaluate.{Finished, points_of}
use Rattle.flatten.specs.Flatten.{Flattening, Output, output, flatten_of}
use Rattle.listing.specs.declared.Refused.{Refused}
use Rattle.listing.specs.Reading.{Progress, going, finished, stopped, read_of}
use Rattle.listing.specs.Writing.{report_of}

-- "Room: 512 points, 512 commands, 256 quads, 256 splines, 512 words."
unfoldable pub zeros : ℕ → List Float
zeros n = replicate n zero32

unfoldable pub program_columns : Columns
program_columns = columns (zeros 512) (zeros 512) (zeros 512) (replicate 512 0)

unfoldable pub program_quads : QuadTable
program_quads = quad_table (zeros 3840) (replicate 256 0)

unfoldable pub program_splines : SplineTable
program_splines =
    spline_table (zeros 256) (zeros 256) (zeros 256) (zeros 256) (zeros 256) (replicate 256 0) (replicate 256 0) (replicate 256 0)

unfoldable pub program_output : Output
program_output = output (replicate 512 0) (zeros 512) (zeros 512) (replicate 512 0)

-- ---- the drawing of a text: the answer of the refusal and its line, or the store as the final build left it
pub data Drawn : Type 0 where
  refused : Answer → ℕ → Drawn
  ready : StoreState → Columns → Drawn

-- as the code has it, with the state of its store and what the columns hold
abbrev pub drawn_as : Result Unit Refused → StoreState → Columns → Drawn
drawn_as (Ok _) state c = ready state c
drawn_as (Err r) state c = refused (Err r.refusal) r.line

-- the final build, refused on line 0
unfoldable pub built : Bool → Outcome → Drawn
built false o = refused o.answer 0
built true o = ready o.state o.columns

unfoldable pub built_from : Outcome → Drawn
built_from o = let b = draw_of Build o.state o.columns in built (is_done b.answer) b

unfoldable pub after_reading : Progress → Drawn
after_reading (going at line o) = built_from o
after_reading (finished o) = built_from o
after_reading (stopped answer line) = refused answer line

-- "11 is tested first": input over 16,384 bytes
unfoldable pub drawn_in : Bool → List ℕ → Drawn
drawn_in false text = refused InputTooLong 0
drawn_in true text = after_reading (read_of text (fresh_of program_columns))

unfoldable pub drawn_of : List ℕ → Drawn
drawn_of text = drawn_in (leb (length text) 16384) text

-- ---- what the program says, before it is written: the answer, the line, and the points
pub record Said : Type 0 where
  pub answer : Answer
  pub line : ℕ
  pub points : List Finished

abbrev pub said : Answer → ℕ → List Finished → Said
said answer line points = record { answer = answer; line = line; points = points }

-- the bytes of what the program says
abbrev pub in_bytes : Said → List ℕ
in_bytes s = report_of s.answer s.line s.points

-- "On a refusal points is 0 and no point follows."; line is 0 for 5 to 9 and for 0
unfoldable pub flat_report : Setting → Bool → Flattening → Said
flat_report setting false f = said f.result.answer 0 []
flat_report setting true f =
    said Done 0 (points_of (quad_row_at f.quads) f.splines (walk_of setting (quad_row_at f.quads) f.splines f.result.splines))

unfoldable pub flat_of : Setting → StoreState → Columns → Said
flat_of setting st c =
    let f = flatten_of setting st c program_quads program_splines program_output in
    flat_report setting (is_done f.result.answer) f

unfoldable pub said_from : Setting → Drawn → Said
said_from setting (refused answer line) = said answer line []
said_from setting (ready st c) = flat_of setting st c

unfoldable pub said_of : Setting → List ℕ → Said
said_of setting text = said_from setting (drawn_of text)

-- the program itself flattens in the screen setting
unfoldable pub listing_of : List ℕ → List ℕ
listing_of text = in_bytes (said_of Screen text)
