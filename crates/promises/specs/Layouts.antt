-- Request Eleven: "Show that both layouts give the same words and points for every drawing at equal capacities." The older layout, which has a column for
-- each number of a quad, and a flattening that is told how the quad table lies. It reads the table by whole rows alone, as the walk and the points do; the plan
-- reads none of it. Assumes nothing.
use Rattle.std.specs.Prelude.{ℕ, ◌+◌, ◌*◌, ◌/◌, ◌<◌, min, ◌≡◌, ◌≢◌, Bool, true, false, cond, List, [], ◌∷◌, Float, length, get_or, set}
use Rattle.std.specs.Float.{nan}
use Rattle.answer.specs.Answer.{Done, Unusable, OutputShort}
use Rattle.answer.specs.Number.{is_done}
use Rattle.point.specs.declared.Setting.{Setting}
use Rattle.primitives.specs.declared.Three.{Three}
use Rattle.primitives.specs.declared.QuadRow.{QuadRow}
use Rattle.primitives.specs.declared.Capacities.{Capacities}
use Rattle.primitives.specs.Edits.{State, Edit, Keep, Extend, Bend}
use Rattle.primitives.specs.declared.Primitive.{Primitive}
use Rattle.primitives.specs.Plan.{plan_of}
use Rattle.store.specs.declared.StoreState.{StoreState}
use Rattle.store.specs.Columns.{Columns}
use Rattle.store.specs.Drawable.{drawable_of}
use Rattle.tables.specs.Tables.{QuadTable, SplineTable, quad_capacity_of, spline_capacity_of, put_quad, quad_row_at, put_spline, last_spline_of}
use Rattle.tables.specs.Run.{start_state}
use Rattle.tables.specs.Commands.{primitives_of}
use Rattle.walk.specs.Walk.{Item, walk_of}
use Rattle.evaluate.specs.Output.{Output, fits_output, write_output}
use Rattle.flatten.specs.Flatten.{Flattening, Flattened, flattened}
use Rattle.promises.specs.Accepted.{Job, flattening_of}

-- ---- a way for the quad table to lie: how many rows it takes, a row that is put, and the row of a quad
pub record Layout (Q : Type 0) : Type 0 where
  pub capacity : Q → ℕ
  pub put : Q → ℕ → QuadRow → Q
  pub row : Q → ℕ → QuadRow

-- the rows, as the library has them
abbrev pub in_rows : Layout QuadTable
in_rows = record { capacity = quad_capacity_of; put = put_quad; row = quad_row_at }

-- ---- the older layout: x, y and weight have three numbers for each quad, the other columns one
pub record QuadColumns : Type 0 where
  pub x : List Float
  pub y : List Float
  pub weight : List Float
  pub x0 : List Float
  pub dx_recip : List Float
  pub k0 : List Float
  pub dk : List Float
  pub curvatures_recip : List Float
  pub partial_curvatures : List Float
  pub partial_splines : List ℕ

-- "A table's capacity is its shortest column; a column with three numbers for each quad counts whole threes."
unfoldable pub columns_capacity_of : QuadColumns → ℕ
columns_capacity_of q =
    min (length q.x / 3)
    (min (length q.y / 3)
    (min (length q.weight / 3)
    (min (length q.x0)
    (min (length q.dx_recip)
    (min (length q.k0)
    (min (length q.dk)
    (min (length q.curvatures_recip)
    (min (length q.partial_curvatures) (length q.partial_splines)))))))))

abbrev pub set_three : List Float → ℕ → Three → List Float
set_three column i v = set (set (set column (3 * i) v.a) (3 * i + 1) v.b) (3 * i + 2) v.c

unfoldable pub put_columns : QuadColumns → ℕ → QuadRow → QuadColumns
put_columns q i row =
    record {
      x = set_three q.x i row.x;
      y = set_three q.y i row.y;
      weight = set_three q.weight i row.weight;
      x0 = set q.x0 i row.x0;
      dx_recip = set q.dx_recip i row.dx_recip;
      k0 = set q.k0 i row.k0;
      dk = set q.dk i row.dk;
      curvatures_recip = set q.curvatures_recip i row.curvature_recip;
      partial_curvatures = set q.partial_curvatures i row.partial_curvature;
      partial_splines = set q.partial_splines i row.spline;
    }

abbrev pub three_in : List Float → ℕ → Three
three_in column i = record { a = get_or column (3 * i) nan; b = get_or column (3 * i + 1) nan; c = get_or column (3 * i + 2) nan }

-- entry i of the columns
unfoldable pub columns_row_at : QuadColumns → ℕ → QuadRow
columns_row_at q i =
    record {
      x = three_in q.x i;
      y = three_in q.y i;
      weight = three_in q.weight i;
      x0 = get_or q.x0 i nan;
      dx_recip = get_or q.dx_recip i nan;
      k0 = get_or q.k0 i nan;
      dk = get_or q.dk i nan;
      curvature_recip = get_or q.curvatures_recip i nan;
      partial_curvature = get_or q.partial_curvatures i nan;
      spline = get_or q.partial_splines i 0;
    }

abbrev pub in_columns : Layout QuadColumns
in_columns = record { capacity = columns_capacity_of; put = put_columns; row = columns_row_at }

-- ---- a flattening that is told how the quad table lies
-- the state with both tables
pub record Laid (Q : Type 0) : Type 0 where
  pub state : State
  pub quads : Q
  pub splines : SplineTable

abbrev pub laid : {Q : Type 0} → State → Q → SplineTable → Laid Q
laid state q s = record { state = state; quads = q; splines = s }

pub record Flat (Q : Type 0) : Type 0 where
  pub result : Flattened
  pub quads : Q
  pub splines : SplineTable
  pub output : Output

abbrev pub flat : {Q : Type 0} → Flattened → Q → SplineTable → Output → Flat Q
flat result q s o = record { result = result; quads = q; splines = s; output = o }

-- an edit of the plan, which reads no quad table
unfoldable pub apply_in : {Q : Type 0} → Layout Q → Edit → Q → SplineTable → Laid Q
apply_in L (Keep st) q s = laid st q s
apply_in L (Extend edit) q s = laid edit.next q (put_spline s edit)
apply_in L (Bend edit i row) q s = laid edit.next (L.put q i row) (put_spline s edit)

unfoldable pub push_in : {Q : Type 0} → Layout Q → Setting → Capacities → Primitive → Laid Q → Laid Q
push_in L setting caps p w = apply_in L (plan_of setting caps w.state (last_spline_of w.splines w.state.splines) p) w.quads w.splines

unfoldable pub run_in : {Q : Type 0} → Layout Q → Setting → Capacities → List Primitive → Laid Q → Laid Q
run_in L setting caps [] w = w
run_in L setting caps (p ∷ ps) w = run_in L setting caps ps (cond (is_done w.state.answer) (push_in L setting caps p w) w)

unfoldable pub tables_in : {Q : Type 0} → Layout Q → Setting → StoreState → Columns → Q → SplineTable → Laid Q
tables_in L setting st c q s = run_in L setting (record { quads = L.capacity q; splines = spline_capacity_of s }) (primitives_of st c) (laid start_state q s)

unfoldable pub walked_in : {Q : Type 0} → Layout Q → Bool → Laid Q → List Item → Output → Flat Q
walked_in L false w items o = flat (flattened OutputShort w.state.splines w.state.quads 0) w.quads w.splines o
walked_in L true w items o =
    flat (flattened Done w.state.splines w.state.quads (length items)) w.quads w.splines (write_output (L.row w.quads) w.splines items o)

unfoldable pub tabled_in : {Q : Type 0} → Layout Q → Setting → Bool → Laid Q → Output → Flat Q
tabled_in L setting false w o = flat (flattened w.state.answer w.state.splines w.state.quads 0) w.quads w.splines o
tabled_in L setting true w o =
    let items = walk_of setting (L.row w.quads) w.splines w.state.splines in
    walked_in L (fits_output (length items) o) w items o

unfoldable pub flatten_in : {Q : Type 0} → Layout Q → Setting → StoreState → Columns → Q → SplineTable → Output → Flat Q
flatten_in L setting st c q s o =
    let w = tables_in L setting st c q s in
    cond (drawable_of st c) (tabled_in L setting (is_done w.state.answer) w o) (flat (flattened Unusable 0 0 0) q s o)

-- ---- the comparison
-- answer and counts, the spline table, words and points; and every row in use
pub record Same {P Q : Type 0} (K : Layout P) (L : Layout Q) (f : Flat P) (g : Flat Q) : Type 0 where
  pub result : f.result ≡ g.result
  pub splines : f.splines ≡ g.splines
  pub output : f.output ≡ g.output
  pub rows : (i : ℕ) → i < f.result.quads → K.row f.quads i ≡ L.row g.quads i

-- the same job, with its quad table in another layout
abbrev pub flattening_in : {Q : Type 0} → Layout Q → Q → Job → Flat Q
flattening_in L q job = flatten_in L job.setting job.state job.columns q job.splines job.output

-- what the library gives
abbrev pub flat_of : Flattening → Flat QuadTable
flat_of f = flat f.result f.quads f.splines f.output

-- "for every drawing at equal capacities", on every answer; whatever the tables held
abbrev pub BothLayouts : Type 0
BothLayouts =
    (job : Job) (q : QuadColumns) → columns_capacity_of q ≡ quad_capacity_of job.quads
    → Same in_rows in_columns (flat_of (flattening_of job)) (flattening_in in_columns q job)

-- the flattening that is told of the rows is the library's
abbrev pub InRows : Type 0
InRows = (job : Job) → flattening_in in_rows job.quads job ≡ flat_of (flattening_of job)

-- ---- any layout will do that keeps these laws
pub record Lawful {Q : Type 0} (L : Layout Q) : Type 0 where
  pub put : (q : Q) (i : ℕ) (row : QuadRow) → i < L.capacity q → L.row (L.put q i row) i ≡ row
  pub others : (q : Q) (i j : ℕ) (row : QuadRow) → j ≢ i → L.row (L.put q i row) j ≡ L.row q j
  pub capacity : (q : Q) (i : ℕ) (row : QuadRow) → L.capacity (L.put q i row) ≡ L.capacity q

abbrev pub AnyLayout : Type 1
AnyLayout =
    (Q : Type 0) (L : Layout Q) → Lawful L → (job : Job) (q : Q) → L.capacity q ≡ quad_capacity_of job.quads
    → Same in_rows L (flat_of (flattening_of job)) (flattening_in L q job)
