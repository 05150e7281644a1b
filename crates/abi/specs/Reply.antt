-- What the C interface gives back: the answer's number instead of the answer. Assumes nothing.
use Rattle.std.specs.Prelude.{ℕ, zero, suc, List, ℤ}
use Rattle.answer.specs.Number.{number_of}
use Rattle.store.specs.declared.StoreState.{StoreState}
use Rattle.store.specs.Columns.{Columns}
use Rattle.store.specs.Drawing.{Outcome}
use Rattle.point.specs.declared.Setting.{Setting}
use Rattle.point.specs.declared.Setting.TheVariants.{Screen, Knife}
use Rattle.tables.specs.Tables.{QuadTable, SplineTable}
use Rattle.evaluate.specs.Output.{Output}
use Rattle.flatten.specs.Flatten.{Flattening}
use Rattle.units.specs.Columns.{Rounding}
use Rattle.plot.specs.Plot.{Plot}

-- a drawing call: the answer's number, and the counts, the open index and the columns after the call
pub record Reply : Type 0 where
  pub answer : ℕ
  pub state : StoreState
  pub columns : Columns

abbrev pub reply : ℕ → StoreState → Columns → Reply
reply answer state c = record { answer = answer; state = state; columns = c }

unfoldable pub reply_of : Outcome → Reply
reply_of o = reply (number_of o.answer) o.state o.columns

-- a flattening: the answer's number and the counts, and what tables and outputs then hold
pub record FlatReply : Type 0 where
  pub answer : ℕ
  pub splines : ℕ
  pub quads : ℕ
  pub points : ℕ
  pub quad_table : QuadTable
  pub spline_table : SplineTable
  pub output : Output

abbrev pub flat_reply : ℕ → ℕ → ℕ → ℕ → QuadTable → SplineTable → Output → FlatReply
flat_reply answer splines quads points q s o =
    record { answer = answer; splines = splines; quads = quads; points = points; quad_table = q; spline_table = s; output = o }

unfoldable pub flat_reply_of : Flattening → FlatReply
flat_reply_of f = flat_reply (number_of f.result.answer) f.result.splines f.result.quads f.result.points f.quads f.splines f.output

-- 0 is the screen setting, any other number the knife setting
unfoldable pub setting_of : ℕ → Setting
setting_of zero = Screen
setting_of (suc n) = Knife

-- a plot: the answer's number, how many bytes were written, and the buffer after the call
pub record PlotReply : Type 0 where
  pub answer : ℕ
  pub written : ℕ
  pub text : List ℕ

abbrev pub plot_reply : ℕ → ℕ → List ℕ → PlotReply
plot_reply answer written text = record { answer = answer; written = written; text = text }

unfoldable pub plot_reply_of : Plot → PlotReply
plot_reply_of p = plot_reply (number_of p.result.answer) p.result.written p.text

-- finished points in whole units: the answer's number, how many points were written, and both columns after the call
pub record WholeReply : Type 0 where
  pub answer : ℕ
  pub points : ℕ
  pub x : List ℤ
  pub y : List ℤ

abbrev pub whole_reply : ℕ → ℕ → List ℤ → List ℤ → WholeReply
whole_reply answer points x y = record { answer = answer; points = points; x = x; y = y }

unfoldable pub whole_reply_of : Rounding → WholeReply
whole_reply_of r = whole_reply (number_of r.result.answer) r.result.points r.x r.y
