-- RULES, The store and Answers: the four columns, and when a store is unusable. Assumes nothing.
use Rattle.std.specs.Prelude.{ℕ, ◌-◌, max, Bool, ◌&&◌, List, leb, ltb, eqb, Float, length, get_or, set}
use Rattle.std.specs.Float.{nan}
use Rattle.point.specs.declared.WeightedPoint.{WeightedPoint}
use Rattle.point.specs.Point.{point_at, weighted}
use Rattle.store.specs.declared.StoreState.{StoreState}

-- "Points are three f32 columns x, y, weight; commands are Move, Line, Quad, Cubic (0 to 3)"
pub record Columns : Type 0 where
  pub x : List Float
  pub y : List Float
  pub weight : List Float
  pub commands : List ℕ

abbrev pub columns : List Float → List Float → List Float → List ℕ → Columns
columns x y weight commands = record { x = x; y = y; weight = weight; commands = commands }

abbrev pub move_command : ℕ
move_command = 0

abbrev pub line_command : ℕ
line_command = 1

abbrev pub quad_command : ℕ
quad_command = 2

abbrev pub cubic_command : ℕ
cubic_command = 3

-- "using 1, 1, 2, 3 points"
abbrev pub uses_of : ℕ → ℕ
uses_of command = max 1 command

-- "Beside them stand both counts and the open point's index."
abbrev pub state_at : ℕ → ℕ → ℕ → StoreState
state_at points commands opening = record { points = points; commands = commands; opening = opening }

-- the point at an index: the Rust's `points!`
unfoldable pub stored_point_of : Columns → ℕ → WeightedPoint
stored_point_of c i = weighted (point_at (get_or c.x i nan) (get_or c.y i nan)) (get_or c.weight i nan)

unfoldable pub last_command_of : StoreState → Columns → ℕ
last_command_of st c = get_or c.commands (st.commands - 1) 0

-- a point, and a command, written at an index
unfoldable pub put_point : Columns → ℕ → WeightedPoint → Columns
put_point c i p = columns (set c.x i p.point.x) (set c.y i p.point.y) (set c.weight i p.weight) c.commands

unfoldable pub put_command : Columns → ℕ → ℕ → Columns
put_command c i k = columns c.x c.y c.weight (set c.commands i k)

unfoldable pub even_of : Columns → Bool
even_of c = eqb (length c.y) (length c.x) && eqb (length c.weight) (length c.x)

-- "Store unusable: columns of unequal length; a point count of 0 or over the length; a command count of 0 or over the length; an open index not below the point
-- count; a last command over 3."
unfoldable pub usable_of : StoreState → Columns → Bool
usable_of st c =
    even_of c
    && leb 1 st.points && leb st.points (length c.x)
    && leb 1 st.commands && leb st.commands (length c.commands)
    && ltb st.opening st.points
    && leb (last_command_of st c) 3
