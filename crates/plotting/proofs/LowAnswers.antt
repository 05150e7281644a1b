-- Whatever a text is, the program answers 0 to 11: no coordinate is rounded and no text is written before its points are told. Assumes nothing.
use mathlib.Core.Path.{sym, subst}
use mathlib.Core.Bool.{Bool, true, false, not, ◌&&◌, cond}
use mathlib.Core.List.{List, [], ◌∷◌}
use Prim.Native.Nat.{ℕ, zero, suc, ◌+◌, ◌≤◌}
use lib.Dec.{leb, lit≤}
use lib.Ieee.{Float, le}
use lib.ListN.{length}
use Rattle.leaves.specs.Single.{◌⊕◌}
use Rattle.leaves.specs.Whole.{limit32}
use Rattle.answer.specs.Answer.{Answer}
use Rattle.answer.specs.Answer.{Done, BadCoordinate, BadWeight, Unusable, StoreFull, QuadsFull, SplinesFull, SumTooLarge}
use Rattle.answer.specs.Number.{number_of, is_done}
use Rattle.point.specs.declared.Setting.{Setting}
use Rattle.point.specs.declared.Point.{Point}
use Rattle.point.specs.declared.WeightedPoint.{WeightedPoint}
use Rattle.point.specs.Angle.{Angle}
use Rattle.std.specs.Prelude.{None, Some}
use Rattle.point.specs.Point.{applied_of, minus_of}
use Rattle.point.specs.Angle.{angle_of}
use Rattle.store.specs.declared.StoreState.{StoreState}
use Rattle.store.specs.declared.Call.{Call}
use Rattle.store.specs.declared.Call.TheVariants.{Build}
use Rattle.store.specs.Columns.{Columns, usable_of}
use Rattle.store.specs.Drawable.{drawable_of}
use Rattle.store.specs.Drawing.{Outcome, coordinate_ok_of, weight_ok_of, every, coordinates_of, weights_of, writes_of, room_of, answer_of, draw_of, fresh_of}
use Rattle.store.proofs.Laws.{draw_answer}
use Rattle.primitives.specs.declared.Capacities.{Capacities}
use Rattle.primitives.specs.Edits.{State, Edit, Keep, Extend, Bend}
use Rattle.primitives.specs.declared.Primitive.{Primitive}
use Rattle.primitives.specs.declared.Primitive.TheVariants.{Contour, Line, Quad, Excess}
use Rattle.primitives.specs.declared.Kind.TheVariants.{Straight, Round}
use Rattle.primitives.specs.declared.SplineRow.{SplineRow}
use Rattle.primitives.specs.Quads.{curve_of}
use Rattle.primitives.specs.Splines.{opens_of, line_angle_of, sum_before, spline_edit_of}
use Rattle.primitives.specs.Plan.{refused_of, marked_of, plan_line_of, quad_row_of, plan_curve_of, plan_legs_of, plan_quad_of, plan_of}
use Rattle.tables.specs.Tables.{QuadTable, SplineTable, capacities_of, last_spline_of, quad_row_at}
use Rattle.tables.specs.Run.{World, world, apply_of, push_of, run_of, start_state}
use Rattle.tables.specs.Commands.{primitives_of, tables_of}
use Rattle.walk.specs.Walk.{Item, walk_of}
use Rattle.flatten.specs.Flatten.{Flattening, Output, fits_output, walked, tabled, flatten_drawable, flatten_of}
use Rattle.listing.specs.Reading.{Command, Drawing, Fault, Finish, Progress, going, finished, stopped, command_at, after_call, after_command, step_of, steps_of, read_of}
use Rattle.listing.specs.Program.{program_columns, program_quads, program_splines, program_output, Drawn, refused, ready, built, built_from, after_reading, drawn_in, drawn_of, flat_report, flat_of, said_from, said_of}

abbrev pub Low : Answer → Type 0
Low a = number_of a ≤ 11

-- ---- a drawing call
draw_low : (call : Call) (st : StoreState) (c : Columns) → Low (draw_of call st c).answer
unfolding answer_of
draw_low call st c =
    subst Low (sym (draw_answer call st c))
    (go (usable_of st c) (every coordinate_ok_of (coordinates_of call)) (every weight_ok_of (weights_of call)) (room_of (writes_of call st c) st c))
  where
    go : (u v w r : Bool) → Low (cond (not u) Unusable (cond (not v) BadCoordinate (cond (not w) BadWeight (cond (not r) StoreFull Done))))
    go false v w r = lit≤ tt
    go true false w r = lit≤ tt
    go true true false r = lit≤ tt
    go true true true false = lit≤ tt
    go true true true true = lit≤ tt

-- ---- a primitive
abbrev LowEdit : Edit → Type 0
LowEdit (Keep st) = Low st.answer
LowEdit (Extend edit) = Low edit.next.answer
LowEdit (Bend edit i row) = Low edit.next.answer

either : (b : Bool) (e f : Edit) → LowEdit e → LowEdit f → LowEdit (cond b e f)
either true e f h k = h
either false e f h k = k

spline_low : (opens : Bool) (st : State) (last : SplineRow) (start end : Point) (sum : Float) (quads : ℕ) (angle : Angle)
    → Low (spline_edit_of opens st last start end sum quads angle).next.answer
unfolding spline_edit_of
spline_low true st last start end sum quads angle = lit≤ tt
spline_low false st last start end sum quads angle = lit≤ tt

module _ (setting : Setting) (caps : Capacities) (st : State) (last : SplineRow) where
  line_low : (start end : Point) → LowEdit (plan_line_of setting caps st last start end)
  unfolding plan_line_of refused_of
  line_low start end =
      let angle = angle_of (minus_of end start) in
      let opens = opens_of setting Straight st last angle start in
      let next = line_angle_of setting st.last angle in
      either (opens && leb caps.splines st.splines) (Keep (refused_of st SplinesFull))
      (Extend (spline_edit_of opens st last start end (sum_before opens last) st.quads next)) (lit≤ tt)
      (spline_low opens st last start end (sum_before opens last) st.quads next)

  curve_low : (p0 p1 p2 : WeightedPoint) (in-angle out-angle : Angle) → LowEdit (plan_curve_of setting caps st last p0 p1 p2 in-angle out-angle)
  unfolding plan_curve_of refused_of
  curve_low p0 p1 p2 in-angle out-angle =
      let start = applied_of p0 in
      let end = applied_of p2 in
      let opens = opens_of setting Round st last in-angle start in
      let curve = curve_of start (applied_of p1) end in
      let sum = sum_before opens last ⊕ curve.curvature in
      let edit = spline_edit_of opens st last start end sum (st.quads + 1) out-angle in
      let bend = Bend edit st.quads (quad_row_of p0 p1 p2 curve edit) in
      let by_sum = cond (not (le sum limit32)) (Keep (refused_of st SumTooLarge)) bend in
      let by-splines = cond (opens && leb caps.splines st.splines) (Keep (refused_of st SplinesFull)) by_sum in
      either (leb caps.quads st.quads) (Keep (refused_of st QuadsFull)) by-splines (lit≤ tt)
      (either (opens && leb caps.splines st.splines) (Keep (refused_of st SplinesFull)) by_sum (lit≤ tt)
      (either (not (le sum limit32)) (Keep (refused_of st SumTooLarge)) bend (lit≤ tt)
      (spline_low opens st last start end sum (st.quads + 1) out-angle)))

  legs_low : (p0 p1 p2 : WeightedPoint) (a b : Angle) → Low st.answer → LowEdit (plan_legs_of setting caps st last p0 p1 p2 a b)
  unfolding plan_legs_of
  legs_low p0 p1 p2 None None h = h
  legs_low p0 p1 p2 None (Some b) h = line_low (applied_of p0) (applied_of p2)
  legs_low p0 p1 p2 (Some a) None h = line_low (applied_of p0) (applied_of p2)
  legs_low p0 p1 p2 (Some a) (Some b) h = curve_low p0 p1 p2 (Some a) (Some b)

  plan_low : (p : Primitive) → Low st.answer → LowEdit (plan_of setting caps st last p)
  unfolding plan_of marked_of refused_of plan_quad_of
  plan_low Contour h = h
  plan_low (Line p0 p1) h = line_low (applied_of p0) (applied_of p1)
  plan_low (Quad p0 p1 p2) h =
      legs_low p0 p1 p2 (angle_of (minus_of (applied_of p1) (applied_of p0))) (angle_of (minus_of (applied_of p2) (applied_of p1))) h
  plan_low Excess h = lit≤ tt

apply_low : (e : Edit) (q : QuadTable) (s : SplineTable) → LowEdit e → Low (apply_of e q s).state.answer
unfolding apply_of
apply_low (Keep st) q s h = h
apply_low (Extend edit) q s h = h
apply_low (Bend edit i row) q s h = h

-- ---- a run, and a flattening
module _ (setting : Setting) (caps : Capacities) where
  push_low : (p : Primitive) (w : World) → Low w.state.answer → Low (push_of setting caps p w).state.answer
  unfolding push_of
  push_low p w h =
      let last = last_spline_of w.splines w.state.splines in
      apply_low (plan_of setting caps w.state last p) w.quads w.splines (plan_low setting caps w.state last p h)

  next_low : (b : Bool) (p : Primitive) (w : World) → Low w.state.answer → Low (cond b (push_of setting caps p w) w).state.answer
  next_low true p w h = push_low p w h
  next_low false p w h = h

  run_low : (ps : List Primitive) (w : World) → Low w.state.answer → Low (run_of setting caps ps w).state.answer
  unfolding run_of
  run_low [] w h = h
  run_low (p ∷ ps) w h = run_low ps (cond (is_done w.state.answer) (push_of setting caps p w) w) (next_low (is_done w.state.answer) p w h)

walked_low : (b : Bool) (w : World) (items : List Item) (o : Output) → Low (walked b w items o).result.answer
unfolding walked
walked_low false w items o = lit≤ tt
walked_low true w items o = lit≤ tt

tabled_low : (setting : Setting) (b : Bool) (w : World) (o : Output) → Low w.state.answer → Low (tabled setting b w o).result.answer
unfolding tabled
tabled_low setting false w o h = h
tabled_low setting true w o h =
    let items = walk_of setting (quad_row_at w.quads) w.splines w.state.splines in walked_low (fits_output (length items) o) w items o

module _ (setting : Setting) (st : StoreState) (c : Columns) (q : QuadTable) (s : SplineTable) (o : Output) where
  tables_low : Low (tables_of setting st c q s).state.answer
  unfolding tables_of
  tables_low = run_low setting (capacities_of q s) (primitives_of st c) (world start_state q s) (lit≤ tt)

  drawable_low : (b : Bool) → Low (flatten_drawable b setting st c q s o).result.answer
  unfolding flatten_drawable
  drawable_low false = lit≤ tt
  drawable_low true = let w = tables_of setting st c q s in tabled_low setting (is_done w.state.answer) w o tables_low

  flatten_low : Low (flatten_of setting st c q s o).result.answer
  unfolding flatten_of
  flatten_low = drawable_low (drawable_of st c)

-- ---- a reading
abbrev StopsLow : Progress → Type 0
StopsLow (going at line o) = Unit
StopsLow (finished o) = Unit
StopsLow (stopped a line) = Low a

call_low : (op_line at line : ℕ) (o : Outcome) (b : Bool) → Low o.answer → StopsLow (cond b (going at line o) (stopped o.answer op_line))
call_low op_line at line o true h = tt
call_low op_line at line o false h = h

command_low : (op_line : ℕ) (o : Outcome) (k : Command) → StopsLow (after_command op_line o k)
unfolding after_command after_call
command_low op_line o (Drawing call at line) =
    let d = draw_of call o.state o.columns in call_low op_line at line d (is_done d.answer) (draw_low call o.state o.columns)
command_low op_line o (Fault line) = lit≤ tt
command_low op_line o Finish = tt

step_low : (text : List ℕ) (p : Progress) → StopsLow p → StopsLow (step_of text p)
unfolding step_of
step_low text (going at line o) h = command_low line o (command_at text at line)
step_low text (finished o) h = tt
step_low text (stopped a line) h = h

steps_low : (n : ℕ) (text : List ℕ) (p : Progress) → StopsLow p → StopsLow (steps_of n text p)
unfolding steps_of
steps_low zero text p h = h
steps_low (suc n) text p h = steps_low n text (step_of text p) (step_low text p h)

read_low : (text : List ℕ) (o : Outcome) → StopsLow (read_of text o)
unfolding read_of
read_low text o = steps_low (length text + 1) text (going 0 1 o) tt

-- ---- a drawing, and what is said of it
abbrev DrawnLow : Drawn → Type 0
DrawnLow (refused a line) = Low a
DrawnLow (ready st c) = Unit

built_low : (b : Bool) (o : Outcome) → Low o.answer → DrawnLow (built b o)
unfolding built
built_low false o h = h
built_low true o h = tt

build_low : (o : Outcome) → DrawnLow (built_from o)
unfolding built_from
build_low o = let b = draw_of Build o.state o.columns in built_low (is_done b.answer) b (draw_low Build o.state o.columns)

after_low : (p : Progress) → StopsLow p → DrawnLow (after_reading p)
unfolding after_reading
after_low (going at line o) h = build_low o
after_low (finished o) h = build_low o
after_low (stopped a line) h = h

in_low : (b : Bool) (text : List ℕ) → DrawnLow (drawn_in b text)
unfolding drawn_in
in_low false text = lit≤ tt
in_low true text = after_low (read_of text (fresh_of program_columns)) (read_low text (fresh_of program_columns))

report_low : (setting : Setting) (b : Bool) (f : Flattening) → Low f.result.answer → Low (flat_report setting b f).answer
unfolding flat_report
report_low setting false f h = h
report_low setting true f h = lit≤ tt

from_low : (setting : Setting) (d : Drawn) → DrawnLow d → Low (said_from setting d).answer
unfolding said_from flat_of
from_low setting (refused a line) h = h
from_low setting (ready st c) h =
    let f = flatten_of setting st c program_quads program_splines program_output in
    report_low setting (is_done f.result.answer) f (flatten_low setting st c program_quads program_splines program_output)

pub said_low : (setting : Setting) (text : List ℕ) → Low (said_of setting text).answer
unfolding said_of drawn_of
said_low setting text = from_low setting (drawn_of text) (in_low (leb (length text) 16384) text)
