-- RULES, The plotter: a listing to HP-GL. What the program says of a text is plotted; a refusal writes nothing. Assumes nothing.
use Rattle.std.specs.Prelude.{ℕ, Bool, true, false, List, map, Float, Result, Ok, Err}
use Rattle.answer.specs.Answer.{Answer, Done}
use Rattle.answer.specs.Number.{is_done}
use Rattle.point.specs.declared.Setting.{Setting}
use Rattle.evaluate.specs.Evaluate.{Finished}
use Rattle.contours.specs.Finished.{position, Vertex, vertex}
use Rattle.plot.specs.Plot.{plot_of}
use Rattle.listing.specs.Program.{Said, said_of}
use Rattle.listing.specs.declared.Refused.{Refused}

-- a finished point of the program, as the plot takes it
abbrev pub vertex_of : Finished → Vertex Float
vertex_of p = vertex (position p.point.x p.point.y) p.end

unfoldable pub vertices_of : List Finished → List (Vertex Float)
vertices_of points = map vertex_of points

-- the answer, its line, and the count of bytes written
pub record PlotAccount : Type 0 where
  pub answer : Answer
  pub line : ℕ
  pub written : ℕ

-- what the caller gets: the answer, its line, the count of bytes written, and the buffer after the call
pub record Plotting : Type 0 where
  pub result : PlotAccount
  pub text : List ℕ

abbrev pub plotting : PlotAccount → List ℕ → Plotting
plotting result text = record { result = result; text = text }

abbrev pub plot_account : Answer → ℕ → ℕ → PlotAccount
plot_account answer line written = record { answer = answer; line = line; written = written }

-- as the code gives it
abbrev pub account_of : Result ℕ Refused → PlotAccount
account_of (Ok written) = plot_account Done 0 written
account_of (Err r) = plot_account (Err r.refusal) r.line 0

-- 12 and 13 are on no line
unfoldable pub plot_said : Bool → Said → List ℕ → Plotting
plot_said false s buffer = plotting (plot_account s.answer s.line 0) buffer
plot_said true s buffer =
    let p = plot_of (vertices_of s.points) buffer in
    plotting (plot_account p.result.answer 0 p.result.written) p.text

unfoldable pub plot_listing_of : Setting → List ℕ → List ℕ → Plotting
plot_listing_of setting text buffer = let s = said_of setting text in plot_said (is_done s.answer) s buffer
