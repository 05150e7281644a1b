-- RULES, Commands 2 and Answers 11: a run over a list of primitives. "On 5 to 8 the tables hold all that was pushed before the refused primitive, pieces of its own cubic
-- included." Assumes nothing.
use Rattle.std.specs.Prelude.{true, cond, List, [], ◌∷◌}
use Rattle.answer.specs.Answer.{Done}
use Rattle.answer.specs.Number.{is_done}
use Rattle.std.specs.Prelude.{None}
use Rattle.point.specs.declared.Setting.{Setting}
use Rattle.primitives.specs.declared.Capacities.{Capacities}
use Rattle.primitives.specs.Edits.{State, Edit, Keep, Extend, Bend}
use Rattle.primitives.specs.declared.Primitive.{Primitive}
use Rattle.primitives.specs.Splines.{state_of}
use Rattle.primitives.specs.Plan.{plan_of}
use Rattle.tables.specs.Tables.{QuadTable, SplineTable, put_quad, put_spline, last_spline_of}

-- the state with both tables
pub record World : Type 0 where
  pub state : State
  pub quads : QuadTable
  pub splines : SplineTable

abbrev pub world : State → QuadTable → SplineTable → World
world state q s = record { state = state; quads = q; splines = s }

unfoldable pub apply_of : Edit → QuadTable → SplineTable → World
apply_of (Keep st) q s = world st q s
apply_of (Extend edit) q s = world edit.next q (put_spline s edit)
apply_of (Bend edit i row) q s = world edit.next (put_quad q i row) (put_spline s edit)

-- one primitive
unfoldable pub push_of : Setting → Capacities → Primitive → World → World
push_of setting caps p w = apply_of (plan_of setting caps w.state (last_spline_of w.splines w.state.splines) p) w.quads w.splines

-- a refusal stops the run
unfoldable pub run_of : Setting → Capacities → List Primitive → World → World
run_of setting caps [] w = w
run_of setting caps (p ∷ ps) w = run_of setting caps ps (cond (is_done w.state.answer) (push_of setting caps p w) w)

-- where a run begins: nothing is stored, and a mark waits
abbrev pub start_state : State
start_state = state_of Done 0 0 true None
