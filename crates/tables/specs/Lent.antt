-- The lent columns as tables: what the structs of references in src/lent.rt hold, and that they hold the caller's references still. Assumes nothing.
use Rattle.std.specs.Prelude.{◌≡◌, Result, Ok, Err}
use Rattle.tables.specs.declared.lent.QuadColumns.{QuadColumns}
use Rattle.tables.specs.declared.lent.QuadColumnsMut.{QuadColumnsMut}
use Rattle.tables.specs.declared.lent.SplineColumns.{SplineColumns}
use Rattle.tables.specs.declared.lent.SplineColumnsMut.{SplineColumnsMut}
use Rattle.tables.specs.declared.lent.Tables.{Tables}
use Rattle.answer.specs.Answer.{Answer, Done}
use Rattle.primitives.specs.declared.State.{State}
use Rattle.primitives.specs.declared.Run.{Run}
use Rattle.primitives.specs.Edits.{answered}
use Rattle.tables.specs.declared.lent.Refused.{Refused}
use Rattle.tables.specs.Tables.{QuadTable, SplineTable, quad_table, spline_table}
use Rattle.tables.specs.Run.{World, world}

abbrev pub quads_of : QuadColumns → QuadTable
quads_of q = quad_table q.quad_rows.now q.partial_splines.now

abbrev pub splines_of : SplineColumns → SplineTable
splines_of s = spline_table s.curvature.now s.p0x.now s.p0y.now s.p2x.now s.p2y.now s.contour.now s.first_quad.now s.quad_count.now

abbrev pub quads_mut_of : QuadColumnsMut → QuadTable
quads_mut_of q = quad_table q.quad_rows.now q.partial_splines.now

abbrev pub splines_mut_of : SplineColumnsMut → SplineTable
splines_mut_of s = spline_table s.curvature.now s.p0x.now s.p0y.now s.p2x.now s.p2y.now s.contour.now s.first_quad.now s.quad_count.now

abbrev pub world_of : Answer → State → Tables → World
world_of answer st t = world (answered answer st) (quads_mut_of t.quads.now) (splines_mut_of t.splines.now)

abbrev pub filled_world : Result State Refused → Tables → World
filled_world (Ok st) t = world_of Done st t
filled_world (Err refused) t = world_of (Err refused.refusal) refused.state t

-- all but the state stays
abbrev pub SameRun : Run → Run → Type 0
SameRun old new = (new.setting ≡ old.setting) × (new.caps ≡ old.caps) × (new.last ≡ old.last)

-- what is written goes to the columns that were lent
abbrev pub SameQuads : QuadColumnsMut → QuadColumnsMut → Type 0
SameQuads old new = (new.quad_rows.ghost_name ≡ old.quad_rows.ghost_name) × (new.partial_splines.ghost_name ≡ old.partial_splines.ghost_name)

abbrev pub SameSplines : SplineColumnsMut → SplineColumnsMut → Type 0
SameSplines old new =
    (new.curvature.ghost_name ≡ old.curvature.ghost_name)
    × (new.p0x.ghost_name ≡ old.p0x.ghost_name)
    × (new.p0y.ghost_name ≡ old.p0y.ghost_name)
    × (new.p2x.ghost_name ≡ old.p2x.ghost_name)
    × (new.p2y.ghost_name ≡ old.p2y.ghost_name)
    × (new.contour.ghost_name ≡ old.contour.ghost_name)
    × (new.first_quad.ghost_name ≡ old.first_quad.ghost_name)
    × (new.quad_count.ghost_name ≡ old.quad_count.ghost_name)

abbrev pub SameTables : Tables → Tables → Type 0
SameTables old new =
    (new.quads.ghost_name ≡ old.quads.ghost_name) × (new.splines.ghost_name ≡ old.splines.ghost_name)
    × SameQuads old.quads.now new.quads.now × SameSplines old.splines.now new.splines.now
