-- RULES, Answers, of the drawing calls: each answer, if and only if what the rules say. "Drawing calls test 3, 1, 2, 4 in that order". Assumes nothing.
use Rattle.std.specs.Prelude.{ℕ, ◌+◌, ◌-◌, ◌≤◌, ◌<◌, ◌≡◌, ◌⊎◌, ◌≢◌, ◌↔◌, Bool, true, false, T, eqb, Float, length, get_or}
use mathlib.Core.List.{Memᴰ}
use Rattle.std.specs.Float.{nan}
use Rattle.std.specs.Float.Ieee.{lt}
use Rattle.leaves.specs.Single.{f32}
use Rattle.answer.specs.Answer.{Done, BadCoordinate, BadWeight, Unusable, StoreFull}
use Rattle.store.specs.declared.StoreState.{StoreState}
use Rattle.store.specs.declared.Call.{Call}
use Rattle.store.specs.declared.Call.TheVariants.{Move, Line, Quad, Cubic, RatQuad, RatCubic, Build}
use Rattle.store.specs.Columns.{Columns, state_at, move_command, last_command_of}
use Rattle.store.specs.Closing.{unclosed_of}
use Rattle.store.specs.Drawing.{coordinates_of, weights_of, draw_of, fresh_of}

-- ---- 3: "Store unusable: columns of unequal length; a point count of 0 or over the length; a command count of 0 or over the length; an open index not below the point
-- count; a last command over 3."
pub data UnusableStore (st : StoreState) (c : Columns) : Type 0 where
  uneven_y : length c.y ≢ length c.x → UnusableStore st c
  uneven_weight : length c.weight ≢ length c.x → UnusableStore st c
  no_point : st.points ≡ 0 → UnusableStore st c
  points_over : length c.x < st.points → UnusableStore st c
  no_command : st.commands ≡ 0 → UnusableStore st c
  commands_over : length c.commands < st.commands → UnusableStore st c
  open_over : st.points ≤ st.opening → UnusableStore st c
  last_over : 3 < get_or c.commands (st.commands - 1) 0 → UnusableStore st c

-- ---- 1 and 2
-- v is NaN, or below lo, or above hi
abbrev pub Outside : Float → Float → Float → Type 0
Outside lo hi v = (v ≡ nan) ⊎ (T (lt v lo) ⊎ T (lt hi v))

-- "a coordinate is NaN or beyond ±65,536"
pub record CoordinateOutside (call : Call) : Type 0 where
  pub v : Float
  pub given : Memᴰ v (coordinates_of call)
  pub outside : Outside (f32 0xc780_0000) (f32 0x4780_0000) v

-- "a weight is NaN or outside 1/64..64"
pub record WeightOutside (call : Call) : Type 0 where
  pub w : Float
  pub given : Memᴰ w (weights_of call)
  pub outside : Outside (f32 0x3c80_0000) (f32 0x4280_0000) w

-- ---- 4: "the store can't take all points and commands of the call, its closing line included". A move after a Move takes none; any other closes first, and so does a build
abbrev pub closing : Bool → ℕ → ℕ
closing true n = n + 1
closing false n = n

abbrev pub new_points : Call → Bool → Bool → ℕ
new_points (Move p) true unclosed = 0
new_points (Move p) false unclosed = closing unclosed 1
new_points (Line p) after-move unclosed = 1
new_points (Quad p1 p2) after-move unclosed = 2
new_points (Cubic p1 p2 p3) after-move unclosed = 3
new_points (RatQuad p1 p2 w) after-move unclosed = 2
new_points (RatCubic p1 p2 p3 w1 w2) after-move unclosed = 3
new_points Build after-move unclosed = closing unclosed 0

abbrev pub new_commands : Call → Bool → Bool → ℕ
new_commands (Move p) true unclosed = 0
new_commands (Move p) false unclosed = closing unclosed 1
new_commands (Line p) after-move unclosed = 1
new_commands (Quad p1 p2) after-move unclosed = 1
new_commands (Cubic p1 p2 p3) after-move unclosed = 1
new_commands (RatQuad p1 p2 w) after-move unclosed = 1
new_commands (RatCubic p1 p2 p3 w1 w2) after-move unclosed = 1
new_commands Build after-move unclosed = closing unclosed 0

abbrev pub NoRoom : Call → StoreState → Columns → Type 0
NoRoom call st c =
    let after-move = eqb (last_command_of st c) move_command in
    let unclosed = unclosed_of st c in
    (length c.x < st.points + new_points call after-move unclosed) ⊎ (length c.commands < st.commands + new_commands call after-move unclosed)

-- ---- the answers of a drawing call
pub record DrawAnswers (call : Call) (st : StoreState) (c : Columns) : Type 0 where
  pub three : ((draw_of call st c).answer ≡ Unusable) ↔ UnusableStore st c
  pub one : ((draw_of call st c).answer ≡ BadCoordinate) ↔ ((¬ UnusableStore st c) × CoordinateOutside call)
  pub two : ((draw_of call st c).answer ≡ BadWeight) ↔ ((¬ UnusableStore st c) × (¬ CoordinateOutside call) × WeightOutside call)
  pub four : ((draw_of call st c).answer ≡ StoreFull) ↔ ((¬ UnusableStore st c) × (¬ CoordinateOutside call) × (¬ WeightOutside call) × NoRoom call st c)
  pub zero : ((draw_of call st c).answer ≡ Done) ↔ ((¬ UnusableStore st c) × (¬ CoordinateOutside call) × (¬ WeightOutside call) × (¬ NoRoom call st c))

abbrev pub DrawingAnswers : Type 0
DrawingAnswers = (call : Call) (st : StoreState) (c : Columns) → DrawAnswers call st c

-- 1b. "A refused drawing call changes nothing."
abbrev pub RefusedKeeps : Type 0
RefusedKeeps = (call : Call) (st : StoreState) (c : Columns) → (draw_of call st c).answer ≢ Done → ((draw_of call st c).state ≡ st) × ((draw_of call st c).columns ≡ c)

-- ---- "The fresh call reads no old counts: it gives 3 for unequal columns and 4 for a length of 0, then with counts and index 0."
abbrev pub Uneven : Columns → Type 0
Uneven c = (length c.y ≢ length c.x) ⊎ (length c.weight ≢ length c.x)

abbrev pub NoLength : Columns → Type 0
NoLength c = (length c.x ≡ 0) ⊎ (length c.commands ≡ 0)

pub record FreshAnswers (c : Columns) : Type 0 where
  pub three : ((fresh_of c).answer ≡ Unusable) ↔ Uneven c
  pub four : ((fresh_of c).answer ≡ StoreFull) ↔ ((¬ Uneven c) × NoLength c)
  pub zero : ((fresh_of c).answer ≡ Done) ↔ ((¬ Uneven c) × (¬ NoLength c))
  pub keeps : (fresh_of c).answer ≢ Done → ((fresh_of c).state ≡ state_at 0 0 0) × ((fresh_of c).columns ≡ c)

abbrev pub FreshAnswer : Type 0
FreshAnswer = (c : Columns) → FreshAnswers c
