-- RULES, The store and Answers: each drawing call, as a function from state and columns to answer, state and columns. Assumes nothing.
use Rattle.std.specs.Prelude.{ℕ, ◌+◌, ◌-◌, Bool, true, false, not, ◌&&◌, ◌||◌, cond, List, [], ◌∷◌, leb, eqb, Float, length}
use Rattle.std.specs.Float.Ieee.{le}
use Rattle.leaves.specs.Single.{f32, zero32}
use Rattle.answer.specs.Answer.{Answer}
use Rattle.answer.specs.Answer.{Done, BadCoordinate, BadWeight, Unusable, StoreFull}
use Rattle.answer.specs.Number.{is_done}
use Rattle.point.specs.declared.Point.{Point}
use Rattle.point.specs.declared.WeightedPoint.{WeightedPoint}
use Rattle.point.specs.Point.{point_at, plain, rational_of}
use Rattle.store.specs.declared.StoreState.{StoreState}
use Rattle.store.specs.declared.Call.{Call}
use Rattle.store.specs.declared.Call.TheVariants.{Move, Line, Quad, Cubic, RatQuad, RatCubic, Build}
use Rattle.store.specs.Columns.{Columns, state_at, move_command, line_command, quad_command, cubic_command, stored_point_of, last_command_of, put_point, put_command, even_of, usable_of}
use Rattle.store.specs.Closing.{unclosed_of}

-- what a call gives, and what the columns then hold
pub record Outcome : Type 0 where
  pub answer : Answer
  pub state : StoreState
  pub columns : Columns

abbrev pub outcome : Answer → StoreState → Columns → Outcome
outcome answer state c = record { answer = answer; state = state; columns = c }

-- ---- the tests 1 and 2, of what a call is given

-- "a coordinate is NaN or beyond ±65,536"
unfoldable pub coordinate_ok_of : Float → Bool
coordinate_ok_of v = le (f32 0xc780_0000) v && le v (f32 0x4780_0000)

-- "a weight is NaN or outside 1/64..64"
unfoldable pub weight_ok_of : Float → Bool
weight_ok_of w = le (f32 0x3c80_0000) w && le w (f32 0x4280_0000)

unfoldable pub every : (Float → Bool) → List Float → Bool
every ok [] = true
every ok (v ∷ vs) = ok v && every ok vs

unfoldable pub coordinates_of : Call → List Float
coordinates_of (Move p) = p.x ∷ p.y ∷ []
coordinates_of (Line p) = p.x ∷ p.y ∷ []
coordinates_of (Quad p1 p2) = p1.x ∷ p1.y ∷ p2.x ∷ p2.y ∷ []
coordinates_of (Cubic p1 p2 p3) = p1.x ∷ p1.y ∷ p2.x ∷ p2.y ∷ p3.x ∷ p3.y ∷ []
coordinates_of (RatQuad p1 p2 w) = p1.x ∷ p1.y ∷ p2.x ∷ p2.y ∷ []
coordinates_of (RatCubic p1 p2 p3 w1 w2) = p1.x ∷ p1.y ∷ p2.x ∷ p2.y ∷ p3.x ∷ p3.y ∷ []
coordinates_of Build = []

unfoldable pub weights_of : Call → List Float
weights_of (Move p) = []
weights_of (Line p) = []
weights_of (Quad p1 p2) = []
weights_of (Cubic p1 p2 p3) = []
weights_of (RatQuad p1 p2 w) = w ∷ []
weights_of (RatCubic p1 p2 p3 w1 w2) = w1 ∷ w2 ∷ []
weights_of Build = []

-- ---- what a call writes: points from an index on, and commands after the last one; then the open index
pub record Writes : Type 0 where
  pub at : ℕ
  pub points : List WeightedPoint
  pub commands : List ℕ
  pub opening : ℕ

abbrev pub writes : ℕ → List WeightedPoint → List ℕ → ℕ → Writes
writes at points commands opening = record { at = at; points = points; commands = commands; opening = opening }

-- after the last point and the last command
unfoldable pub appended : StoreState → List WeightedPoint → ℕ → Writes
appended st points command = writes st.points points (command ∷ []) st.opening

-- "Build closes."
unfoldable pub closed : StoreState → Columns → Bool → Writes
closed st c true = appended st (stored_point_of c st.opening ∷ []) line_command
closed st c false = writes st.points [] [] st.opening

-- "A move after a Move overwrites the last point. Any other move closes first, then appends and becomes the open point."
unfoldable pub moved : StoreState → Columns → Point → Bool → Bool → Writes
moved st c p true unclosed = writes (st.points - 1) (plain p ∷ []) [] st.opening
moved st c p false true = writes st.points (stored_point_of c st.opening ∷ plain p ∷ []) (line_command ∷ move_command ∷ []) (st.points + 1)
moved st c p false false = writes st.points (plain p ∷ []) (move_command ∷ []) st.points

unfoldable pub writes_of : Call → StoreState → Columns → Writes
writes_of (Move p) st c = moved st c p (eqb (last_command_of st c) move_command) (unclosed_of st c)
writes_of (Line p) st c = appended st (plain p ∷ []) line_command
writes_of (Quad p1 p2) st c = appended st (plain p1 ∷ plain p2 ∷ []) quad_command
writes_of (Cubic p1 p2 p3) st c = appended st (plain p1 ∷ plain p2 ∷ plain p3 ∷ []) cubic_command
writes_of (RatQuad p1 p2 w) st c = appended st (rational_of p1 w ∷ plain p2 ∷ []) quad_command
writes_of (RatCubic p1 p2 p3 w1 w2) st c = appended st (rational_of p1 w1 ∷ rational_of p2 w2 ∷ plain p3 ∷ []) cubic_command
writes_of Build st c = closed st c (unclosed_of st c)

unfoldable pub put_points : ℕ → List WeightedPoint → Columns → Columns
put_points i [] c = c
put_points i (p ∷ ps) c = put_points (i + 1) ps (put_point c i p)

unfoldable pub put_commands : ℕ → List ℕ → Columns → Columns
put_commands i [] c = c
put_commands i (k ∷ ks) c = put_commands (i + 1) ks (put_command c i k)

unfoldable pub written : Writes → StoreState → Columns → Columns
written w st c = put_commands st.commands w.commands (put_points w.at w.points c)

unfoldable pub state_after : Writes → StoreState → StoreState
state_after w st = state_at (w.at + length w.points) (st.commands + length w.commands) w.opening

-- "the store can't take all points and commands of the call, its closing line included"
unfoldable pub room_of : Writes → StoreState → Columns → Bool
room_of w st c = leb (w.at + length w.points) (length c.x) && leb (st.commands + length w.commands) (length c.commands)

-- "Drawing calls test 3, 1, 2, 4 in that order"
unfoldable pub answer_of : Call → StoreState → Columns → Answer
answer_of call st c =
    cond (not (usable_of st c)) Unusable
    (cond (not (every coordinate_ok_of (coordinates_of call))) BadCoordinate
    (cond (not (every weight_ok_of (weights_of call))) BadWeight
    (cond (not (room_of (writes_of call st c) st c)) StoreFull
    Done)))

-- "and on refusal return the old state, all buffers unchanged"
unfoldable pub draw_of : Call → StoreState → Columns → Outcome
draw_of call st c =
    cond (is_done (answer_of call st c))
    (outcome Done (state_after (writes_of call st c) st) (written (writes_of call st c) st c))
    (outcome (answer_of call st c) st c)

-- "A fresh drawing is Move at (0,0), weight 1." "The fresh call reads no old counts: it gives 3 for unequal columns and 4 for a length of 0, then with counts and
-- index 0."
unfoldable pub fresh_of : Columns → Outcome
fresh_of c =
    cond (not (even_of c)) (outcome Unusable (state_at 0 0 0) c)
    (cond (eqb (length c.x) 0 || eqb (length c.commands) 0) (outcome StoreFull (state_at 0 0 0) c)
    (outcome Done (state_at 1 1 0) (put_command (put_point c 0 (plain (point_at zero32 zero32))) 0 move_command)))
