-- Examples in addition to P1 to P12: the splines of a second contour are numbered on, a gap at 0.0625 and to either side of it, a slit, directions to
-- either side of the negative x axis, joints between straight and round, sweeps, and contours of a drawing alone. Assumes nothing.
use Rattle.std.specs.Prelude.{ℕ, List, [], ◌∷◌, Float, get_or}
use Rattle.leaves.specs.Single.{f32, whole32, zero32}
use Rattle.point.specs.Point.{point_at, plain}
use Rattle.store.specs.declared.Call.{Call}
use Rattle.store.specs.declared.Call.TheVariants.{Move, Line, Quad, Build}
use Rattle.store.specs.Contours.{drawing, contours_of}
use Rattle.point.specs.declared.Setting.{Setting}
use Rattle.point.specs.declared.Setting.TheVariants.{Screen, Knife}
use Rattle.primitives.specs.declared.Primitive.{Primitive}
use Rattle.primitives.specs.declared.Primitive.TheVariants.{Line as Straight}
use Rattle.tables.specs.Tables.{capacities_of, quad_row_at}
use Rattle.tables.specs.Run.{world, run_of, start_state}
use Rattle.walk.specs.Walk.{walk_of, words_of}
use Rattle.flatten.specs.Flatten.{Flattening, flatten_of}
use Rattle.promises.specs.Room.{empty_quads, empty_splines, empty_output}
use Rattle.promises.specs.Examples.{Example, example, P, drawn, words_told, words_after, points_told, points_after, ranges_after}

-- a line along the x axis
abbrev pub along : Float → Float → Primitive
along from to = Straight (plain (point_at from zero32)) (plain (point_at to zero32))

-- the words of a run over primitives made by hand
unfoldable pub words_along : List Primitive → List ℕ
words_along ps =
    let w = run_of Screen (capacities_of (empty_quads 8) (empty_splines 8)) ps (world start_state (empty_quads 8) (empty_splines 8)) in
    words_of (walk_of Screen (quad_row_at w.quads) w.splines w.state.splines)

-- from 0 to 10, and on from start to 20
abbrev pub gap_to : Float → List Primitive
gap_to start = along zero32 (whole32 10) ∷ along start (whole32 20) ∷ []

-- along the x axis in two contours
abbrev pub twice : List Call
twice = Line (P 10 0) ∷ Move (P 10 0) ∷ Line (P 20 0) ∷ []

-- an outline with a slit from (10,5) to (5,5) and back
abbrev pub slit : List Call
slit = Line (P 10 0) ∷ Line (P 10 5) ∷ Line (P 5 5) ∷ Line (P 10 5) ∷ Line (P 10 10) ∷ Line (P 0 10) ∷ Build ∷ []

-- to (-10, 2^-10) and on to (-20, 0): the angles are just under π and just over -π
abbrev pub wrap : List Call
wrap = Line (point_at (f32 0xc120_0000) (f32 0x3a80_0000)) ∷ Line (point_at (f32 0xc1a0_0000) zero32) ∷ Build ∷ []

-- 02, Two: "a straight that runs smoothly into a curve"
abbrev pub straight_to_curve : List Call
straight_to_curve = Line (P 4 0) ∷ Quad (P 5 0) (P 5 1) ∷ Build ∷ []

-- "A rounded belt end": straight, two quarter rounds, and straight back
abbrev pub belt_end : List Call
belt_end = Line (P 10 0) ∷ Quad (P 12 0) (P 12 2) ∷ Quad (P 12 4) (P 10 4) ∷ Line (P 0 4) ∷ Build ∷ []

-- a line, and on along it by a quad whose points lie on it
abbrev pub straight_quad : List Call
straight_quad = Line (P 10 0) ∷ Quad (P 15 0) (P 20 0) ∷ Build ∷ []

-- between two lines a quad that is dropped, and one that is treated as a line: it has no first leg
abbrev pub dropped_quad : List Call
dropped_quad = Line (P 10 0) ∷ Quad (P 10 0) (P 10 0) ∷ Line (P 20 0) ∷ []

abbrev pub quad_as_line : List Call
quad_as_line = Line (P 10 0) ∷ Quad (P 10 0) (P 20 0) ∷ Line (P 30 0) ∷ []

-- a quad, and a line without length at its end
abbrev pub quad_then_dot : List Call
quad_then_dot = Quad (P 5 0) (P 10 0) ∷ Line (P 10 0) ∷ Build ∷ []

-- 02, Six: "long joined sweeps". A straight quad, whose curvature is 2, and one that runs on smoothly and adds just 1; after a turn a straight quad; a line back
abbrev pub sweep : List Call
sweep =
    Move (point_at (f32 0xbf80_0000) zero32)
    ∷ Quad (point_at (f32 0xbf00_0000) zero32) (P 0 0)
    ∷ Quad (point_at (f32 0x3e84_4000) zero32) (point_at (f32 0x4003_c400) (f32 0x3f62_6000))
    ∷ Quad (point_at (f32 0x4003_c400) (f32 0x3ff1_3000)) (point_at (f32 0x4003_c400) (f32 0x4038_9800))
    ∷ Build ∷ []

-- 02, Eight: a contour after whose Move a line has no length. By the last angle of the contour before, the next line would open a spline
abbrev pub stale : List Call
stale = Line (P 10 0) ∷ Line (P 10 10) ∷ Move (P 20 0) ∷ Line (P 20 0) ∷ Line (P 30 0) ∷ Line (P 30 10) ∷ Build ∷ []

-- the sweep's first two quads, and a straight quad in a contour of its own
abbrev pub sweep_then_straight : List Call
sweep_then_straight =
    Move (point_at (f32 0xbf80_0000) zero32)
    ∷ Quad (point_at (f32 0xbf00_0000) zero32) (P 0 0)
    ∷ Quad (point_at (f32 0x3e84_4000) zero32) (point_at (f32 0x4003_c400) (f32 0x3f62_6000))
    ∷ Move (P 10 0) ∷ Quad (P 11 0) (P 12 0) ∷ Build ∷ []

-- contour i of such a drawing, flattened alone
unfoldable pub flat_alone : Setting → List Call → ℕ → Flattening
flat_alone setting calls i =
    let o = drawn calls in
    let d = get_or (contours_of o.state o.columns) i (drawing o.state o.columns) in
    flatten_of setting d.state d.columns (empty_quads 8) (empty_splines 8) (empty_output 16)

abbrev pub drawings : List Example
drawings =
    -- two triangles: a Move does not reset the running number of splines
    example (words_after Screen (Line (P 10 0) ∷ Line (P 10 10) ∷ Move (P 20 0) ∷ Line (P 30 0) ∷ Line (P 30 10) ∷ Build ∷ []))
    (0 ∷ 0x7F800000 ∷ 0xFF800000 ∷ 0xFF800001 ∷ 0xFFC00002 ∷ 0x7F800003 ∷ 0xFF800003 ∷ 0xFF800004 ∷ 0xFFC00005 ∷ [])
    -- a Move alone between two lines along one axis: two contours, each flagged; the first is closed by a line back, which the knife keeps
    ∷ example (words_after Screen twice) (0 ∷ 0x7F800000 ∷ 0xFFC00000 ∷ 0x7F800001 ∷ 0xFFC00001 ∷ [])
    ∷ example (words_after Knife twice) (0 ∷ 0x7F800000 ∷ 0xFF800000 ∷ 0xFFC00001 ∷ 0x7F800002 ∷ 0xFFC00002 ∷ [])
    -- the slit's far end (5,5) is kept by the knife, and on the screen it is not
    ∷ example (words_after Knife slit)
    (0 ∷ 0x7F800000 ∷ 0xFF800000 ∷ 0xFF800001 ∷ 0xFF800002 ∷ 0xFF800003 ∷ 0xFF800004 ∷ 0xFF800005 ∷ 0xFFC00006 ∷ [])
    ∷ example (points_after Knife slit)
    (0x00000000 ∷ 0x41200000 ∷ 0x41200000 ∷ 0x40A00000 ∷ 0x41200000 ∷ 0x41200000 ∷ 0x00000000 ∷ 0x00000000
    ∷ 0x00000000 ∷ 0x00000000 ∷ 0x40A00000 ∷ 0x40A00000 ∷ 0x40A00000 ∷ 0x41200000 ∷ 0x41200000 ∷ 0x00000000 ∷ [])
    ∷ example (words_after Screen slit)
    (0 ∷ 0x7F800000 ∷ 0xFF800000 ∷ 0xFF800001 ∷ 0xFF800002 ∷ 0xFF800003 ∷ 0xFF800004 ∷ 0xFFC00005 ∷ [])
    -- across ±π the turn is over π, and 2π less it is no change; the way back to the start is
    ∷ example (words_after Knife wrap) (0 ∷ 0x7F800000 ∷ 0xFF800000 ∷ 0xFFC00001 ∷ [])
    ∷ example (points_after Knife wrap) (0x00000000 ∷ 0xC1A00000 ∷ 0x00000000 ∷ 0x00000000 ∷ 0x00000000 ∷ 0x00000000 ∷ [])
    -- "In the knife setting a line and a quad must never share a spline": (4,0) is a vertex, and on the screen it is not
    ∷ example (words_after Knife straight_to_curve) (0 ∷ 0x7F800000 ∷ 0xFF800000 ∷ 0x3F41E1C5 ∷ 0x3F41E1C5 ∷ 0xFF800001 ∷ 0xFFC00002 ∷ [])
    ∷ example (points_after Knife straight_to_curve)
    (0x00000000 ∷ 0x40800000 ∷ 0x40920A39 ∷ 0x409C4FC1 ∷ 0x40A00000 ∷ 0x00000000
    ∷ 0x00000000 ∷ 0x00000000 ∷ 0x3DEC0FC1 ∷ 0x3EDF5C6E ∷ 0x3F800000 ∷ 0x00000000 ∷ [])
    ∷ example (words_after Screen straight_to_curve) (0 ∷ 0x7F800000 ∷ 0x3F41E1C5 ∷ 0x3F41E1C5 ∷ 0xFF800000 ∷ 0xFFC00001 ∷ [])
    -- so are both ends of the rounding, (10,0) and (10,4); its two quads share a spline
    ∷ example (words_after Knife belt_end)
    (0 ∷ 0x7F800000 ∷ 0xFF800000 ∷ 0x3F6B0537 ∷ 0x3F6B0537 ∷ 0x3F6B0537 ∷ 0x3F6B0537 ∷ 0x3F6B0537 ∷ 0x3F6B0537
    ∷ 0xFF800001 ∷ 0xFF800002 ∷ 0xFFC00003 ∷ [])
    ∷ example (points_after Knife belt_end)
    (0x00000000 ∷ 0x41200000 ∷ 0x412FFC87 ∷ 0x413A098E ∷ 0x413F4FCE ∷ 0x413F4FCE ∷ 0x413A098E ∷ 0x412FFC87 ∷ 0x41200000 ∷ 0x00000000 ∷ 0x00000000
    ∷ 0x00000000 ∷ 0x00000000 ∷ 0x3E2F54C6 ∷ 0x3F256103 ∷ 0x3FBA6AF4 ∷ 0x4022CA84 ∷ 0x4056A7BF ∷ 0x40750AB3 ∷ 0x40800000 ∷ 0x40800000 ∷ 0x00000000 ∷ [])
    ∷ example (words_after Screen belt_end)
    (0 ∷ 0x7F800000 ∷ 0x3F6B0537 ∷ 0x3F6B0537 ∷ 0x3F6B0537 ∷ 0x3F6B0537 ∷ 0x3F6B0537 ∷ 0x3F6B0537
    ∷ 0xFF800000 ∷ 0xFFC00001 ∷ [])
    -- a straight quad after a line is a quad: it has a spline of its own, with a step
    ∷ example (words_after Knife straight_quad) (0 ∷ 0x7F800000 ∷ 0xFF800000 ∷ 0x3F800000 ∷ 0xFF800001 ∷ 0xFFC00002 ∷ [])
    ∷ example (points_after Knife straight_quad)
    (0x00000000 ∷ 0x41200000 ∷ 0x41700000 ∷ 0x41A00000 ∷ 0x00000000
    ∷ 0x00000000 ∷ 0x00000000 ∷ 0x00000000 ∷ 0x00000000 ∷ 0x00000000 ∷ [])
    -- a dropped quad changes nothing, and "a quad that 01 treats as a line counts as a line": the lines to either side share a spline
    ∷ example (words_after Knife dropped_quad) (0 ∷ 0x7F800000 ∷ 0xFFC00000 ∷ [])
    ∷ example (words_after Knife quad_as_line) (0 ∷ 0x7F800000 ∷ 0xFFC00000 ∷ [])
    -- a line without length after a quad opens a spline, and its End repeats (10,0)
    ∷ example (words_after Knife quad_then_dot) (0 ∷ 0x7F800000 ∷ 0x3F800000 ∷ 0xFF800000 ∷ 0xFF800001 ∷ 0xFFC00002 ∷ [])
    ∷ example (points_after Knife quad_then_dot)
    (0x00000000 ∷ 0x40A00000 ∷ 0x41200000 ∷ 0x41200000 ∷ 0x00000000
    ∷ 0x00000000 ∷ 0x00000000 ∷ 0x00000000 ∷ 0x00000000 ∷ 0x00000000 ∷ [])
    -- the sums 2 and 3, then 2, then none; the words and the ranges, first quads and then numbers of quads, are the same in both settings
    ∷ example (words_after Knife sweep) (0 ∷ 0x7F800000 ∷ 0x3F800000 ∷ 0x3F800000 ∷ 0xFF800000 ∷ 0x3F800000 ∷ 0xFF800001 ∷ 0xFFC00002 ∷ [])
    ∷ example (words_after Screen sweep) (0 ∷ 0x7F800000 ∷ 0x3F800000 ∷ 0x3F800000 ∷ 0xFF800000 ∷ 0x3F800000 ∷ 0xFF800001 ∷ 0xFFC00002 ∷ [])
    ∷ example (ranges_after Knife sweep) (0 ∷ 2 ∷ 3 ∷ 2 ∷ 1 ∷ 0 ∷ [])
    ∷ example (ranges_after Screen sweep) (0 ∷ 2 ∷ 3 ∷ 2 ∷ 1 ∷ 0 ∷ [])
    -- the fifth point is the second spline's step: "in the knife setting the cursor begins each spline at that first quad"; the screen's runs back to (0,0)
    ∷ example (points_after Knife sweep)
    (0xBF800000 ∷ 0xBF000000 ∷ 0x00000000 ∷ 0x4003C400 ∷ 0x4003C400 ∷ 0x4003C400 ∷ 0xBF800000
    ∷ 0x00000000 ∷ 0x00000000 ∷ 0x00000000 ∷ 0x3F626000 ∷ 0x3FF13000 ∷ 0x40389800 ∷ 0x00000000 ∷ [])
    ∷ example (points_after Screen sweep)
    (0xBF800000 ∷ 0xBF000000 ∷ 0x00000000 ∷ 0x4003C400 ∷ 0x00000000 ∷ 0x4003C400 ∷ 0xBF800000
    ∷ 0x00000000 ∷ 0x00000000 ∷ 0x00000000 ∷ 0x3F626000 ∷ 0x00000000 ∷ 0x40389800 ∷ 0x00000000 ∷ [])
    -- for the knife "a Move forgets the last angle": (20,0) has one End, as it has where the second contour is flattened alone; both contours joined are the whole
    ∷ example (words_after Knife stale)
    (0 ∷ 0x7F800000 ∷ 0xFF800000 ∷ 0xFF800001 ∷ 0xFFC00002 ∷ 0x7F800003 ∷ 0xFF800003 ∷ 0xFF800004 ∷ 0xFFC00005 ∷ [])
    ∷ example (points_after Knife stale)
    (0x00000000 ∷ 0x41200000 ∷ 0x41200000 ∷ 0x00000000 ∷ 0x41A00000 ∷ 0x41F00000 ∷ 0x41F00000 ∷ 0x41A00000
    ∷ 0x00000000 ∷ 0x00000000 ∷ 0x41200000 ∷ 0x00000000 ∷ 0x00000000 ∷ 0x00000000 ∷ 0x41200000 ∷ 0x00000000 ∷ [])
    ∷ example (words_told (flat_alone Knife stale 0)) (0 ∷ 0x7F800000 ∷ 0xFF800000 ∷ 0xFF800001 ∷ 0xFFC00002 ∷ [])
    ∷ example (points_told (flat_alone Knife stale 0))
    (0x00000000 ∷ 0x41200000 ∷ 0x41200000 ∷ 0x00000000 ∷ 0x00000000 ∷ 0x00000000 ∷ 0x41200000 ∷ 0x00000000 ∷ [])
    ∷ example (words_told (flat_alone Knife stale 1)) (0 ∷ 0x7F800000 ∷ 0xFF800000 ∷ 0xFF800001 ∷ 0xFFC00002 ∷ [])
    ∷ example (points_told (flat_alone Knife stale 1))
    (0x41A00000 ∷ 0x41F00000 ∷ 0x41F00000 ∷ 0x41A00000 ∷ 0x00000000 ∷ 0x00000000 ∷ 0x41200000 ∷ 0x00000000 ∷ [])
    -- on the screen the condition on sums is needed: where a whole sum has grown by exactly 1, the next contour's step is at (0,0), and alone it is at (11,0)
    ∷ example (points_after Screen sweep_then_straight)
    (0xBF800000 ∷ 0xBF000000 ∷ 0x00000000 ∷ 0x4003C400 ∷ 0xBF800000 ∷ 0x41200000 ∷ 0x00000000 ∷ 0x41200000
    ∷ 0x00000000 ∷ 0x00000000 ∷ 0x00000000 ∷ 0x3F626000 ∷ 0x00000000 ∷ 0x00000000 ∷ 0x00000000 ∷ 0x00000000 ∷ [])
    ∷ example (points_told (flat_alone Screen sweep_then_straight 1)) (0x41200000 ∷ 0x41300000 ∷ 0x41200000 ∷ 0x00000000 ∷ 0x00000000 ∷ 0x00000000 ∷ [])
    -- the knife's is there in both
    ∷ example (points_after Knife sweep_then_straight)
    (0xBF800000 ∷ 0xBF000000 ∷ 0x00000000 ∷ 0x4003C400 ∷ 0xBF800000 ∷ 0x41200000 ∷ 0x41300000 ∷ 0x41400000 ∷ 0x41200000
    ∷ 0x00000000 ∷ 0x00000000 ∷ 0x00000000 ∷ 0x3F626000 ∷ 0x00000000 ∷ 0x00000000 ∷ 0x00000000 ∷ 0x00000000 ∷ 0x00000000 ∷ [])
    ∷ example (points_told (flat_alone Knife sweep_then_straight 1))
    (0x41200000 ∷ 0x41300000 ∷ 0x41400000 ∷ 0x41200000 ∷ 0x00000000 ∷ 0x00000000 ∷ 0x00000000 ∷ 0x00000000 ∷ [])
    -- a line that starts exactly 0.0625 from the last end opens a spline, and no Start is written
    ∷ example (words_along (gap_to (f32 0x4121_0000))) (0x7F800000 ∷ 0xFF800000 ∷ 0xFFC00001 ∷ [])
    -- one f32 nearer it joins the spline, one f32 further a Start is written
    ∷ example (words_along (gap_to (f32 0x4120_ffff))) (0x7F800000 ∷ 0xFFC00000 ∷ [])
    ∷ example (words_along (gap_to (f32 0x4121_0001))) (0x7F800000 ∷ 0xFF800000 ∷ 0x7F800001 ∷ 0xFFC00001 ∷ [])
    ∷ []
