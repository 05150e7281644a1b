-- RULES, Answers 10: what one primitive changes, with the answer so far beside what is stored. In src/ a refusal is an `Err`, and stands in no state. Assumes nothing.
use Rattle.std.specs.Prelude.{ℕ, Bool, Result, Ok, Err}
use Rattle.answer.specs.declared.Refusal.{Refusal}
use Rattle.answer.specs.Answer.{Answer, Done}
use Rattle.point.specs.Angle.{Angle}
use Rattle.primitives.specs.declared.SplineRow.{SplineRow}
use Rattle.primitives.specs.declared.QuadRow.{QuadRow}
use Rattle.primitives.specs.declared.State as stored
use Rattle.primitives.specs.declared.SplineEdit as changed
use Rattle.primitives.specs.declared.Edit as planned
use Rattle.primitives.specs.declared.Edit.TheVariants as variant

-- the answer so far, how many splines and quads are stored, whether a contour mark waits, and the last angle
pub record State : Type 0 where
  pub answer : Answer
  pub splines : ℕ
  pub quads : ℕ
  pub mark : Bool
  pub last : Angle

-- the row that goes to spline `at`; `clears` takes the flag of the spline before it
pub record SplineEdit : Type 0 where
  pub clears : Bool
  pub at : ℕ
  pub row : SplineRow
  pub next : State

-- the state alone, a spline, or a spline and a quad at an index
pub data Edit : Type 0 where
  Keep : State → Edit
  Extend : SplineEdit → Edit
  Bend : SplineEdit → ℕ → QuadRow → Edit

-- ---- what src/ has, with its answer
abbrev pub answered : Answer → stored.State → State
answered answer st = record { answer = answer; splines = st.splines; quads = st.quads; mark = st.mark; last = st.last }

abbrev pub spline_edited : changed.SplineEdit → SplineEdit
spline_edited edit = record { clears = edit.clears; at = edit.at; row = edit.row; next = answered Done edit.next }

abbrev pub edited : planned.Edit → Edit
edited (variant.Keep st) = Keep (answered Done st)
edited (variant.Extend edit) = Extend (spline_edited edit)
edited (variant.Bend edit i row) = Bend (spline_edited edit) i row

-- a refusal keeps the state
abbrev pub edited_or : stored.State → Result planned.Edit Refusal → Edit
edited_or st (Ok edit) = edited edit
edited_or st (Err refusal) = Keep (answered (Err refusal) st)
