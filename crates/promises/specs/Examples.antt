-- RULES, Examples: P1 to P12, each as what the definitions give and what is claimed, in one list. Assumes nothing.
use Rattle.std.specs.Prelude.{ℕ, true, List, [], ◌∷◌, ◌++◌, map, Float, replicate, take}
use Rattle.leaves.specs.Single.{f32, zero32, one32, whole32}
use Rattle.leaves.specs.Fma.{fma32}
use Rattle.leaves.specs.Bits.{bits_of}
use Rattle.leaves.specs.Sixth.{sixth_root_of}
use Rattle.leaves.specs.Pieces.{pieces_of}
use Rattle.point.specs.declared.Point.{Point}
use Rattle.point.specs.Point.{point_at}
use Rattle.command.specs.declared.PointCommand.TheVariants.{Start, End}
use Rattle.command.specs.Packing.{pack_of}
use Rattle.answer.specs.Number.{number_of}
use Rattle.store.specs.declared.Call.{Call}
use Rattle.store.specs.declared.Call.TheVariants.{Move, Line, Quad, Build}
use Rattle.store.specs.Drawing.{Outcome, fresh_of}
use Rattle.store.specs.Replay.{replay_of}
use Rattle.point.specs.declared.Setting.{Setting}
use Rattle.point.specs.declared.Setting.TheVariants.{Screen, Knife}
use Rattle.tables.specs.Tables.{QuadTable, quad_table, quad_row_at, SplineTable, spline_table}
use Rattle.walk.specs.Walk.{walk_of}
use Rattle.flatten.specs.Flatten.{Flattening, flatten_of}
use Rattle.promises.specs.Room.{empty_columns, empty_quads, empty_splines, empty_output}

-- the point (x, y)
abbrev pub P : ℕ → ℕ → Point
P x y = point_at (whole32 x) (whole32 y)

-- a fresh drawing, and these calls on it
unfoldable pub drawn : List Call → Outcome
drawn calls = replay_of calls (fresh_of (empty_columns 16))

-- that drawing, flattened
unfoldable pub flat : Setting → List Call → Flattening
flat setting calls = let o = drawn calls in flatten_of setting o.state o.columns (empty_quads 8) (empty_splines 8) (empty_output 16)

-- the answer's number, and the words
unfoldable pub words_told : Flattening → List ℕ
words_told f = number_of f.result.answer ∷ take f.result.points f.output.words

unfoldable pub words_after : Setting → List Call → List ℕ
words_after setting calls = words_told (flat setting calls)

-- the bits of each point's x, then of each y
unfoldable pub points_told : Flattening → List ℕ
points_told f = let n = f.result.points in map bits_of (take n f.output.x ++ take n f.output.y)

unfoldable pub points_after : Setting → List Call → List ℕ
points_after setting calls = points_told (flat setting calls)

-- the numbers of the quad table's first row as they lie, and its spline
unfoldable pub row_after : Setting → List Call → List ℕ
row_after setting calls = let q = (flat setting calls).quads in map bits_of (take 15 q.rows) ++ take 1 q.partial_splines

-- the splines' first quads, then their numbers of quads
unfoldable pub ranges_after : Setting → List Call → List ℕ
ranges_after setting calls =
    let f = flat setting calls in
    let n = f.result.splines in
    take n f.splines.first_quad ++ take n f.splines.quad_count

-- the number of points in the store, and the first one's bits
unfoldable pub stored_after : List Call → List ℕ
stored_after calls = let o = drawn calls in o.state.points ∷ map bits_of (take 1 o.columns.x ++ take 1 o.columns.y)

-- P12's tables: the sums 2, 3 in one spline and 2 in the next
unfoldable pub joined_quads : QuadTable
joined_quads =
    let row_of : (ℕ → List Float) = λ sum. replicate 14 zero32 ++ (whole32 sum ∷ []) in
    quad_table (row_of 2 ++ row_of 3 ++ row_of 2) (0 ∷ 0 ∷ 1 ∷ [])

unfoldable pub joined_splines : SplineTable
joined_splines =
    let none = replicate 2 zero32 in
    spline_table (whole32 3 ∷ whole32 2 ∷ []) none none none none (0 ∷ 1 ∷ []) (0 ∷ 2 ∷ []) (2 ∷ 1 ∷ [])

-- the quad of each item: Start, two steps, End, a step, End
unfoldable pub joined_cursors : Setting → List ℕ
joined_cursors setting = map (λ i. i.quad) (walk_of setting (quad_row_at joined_quads) joined_splines 2)

pub record Example : Type 0 where
  pub given : List ℕ
  pub claimed : List ℕ

abbrev pub example : List ℕ → List ℕ → Example
example given claimed = record { given = given; claimed = claimed }

-- the doubled point
abbrev pub doubled : List Call
doubled = Move (P 0 0) ∷ Line (P 10 0) ∷ Line (P 10 0) ∷ Line (P 10 10) ∷ Build ∷ []

-- out and part of the way back
abbrev pub back : List Call
back = Line (P 10 0) ∷ Line (P 4 0) ∷ Build ∷ []

-- a quad along the x axis
abbrev pub onward : List Call
onward = Quad (P 5 0) (P 10 0) ∷ Build ∷ []

abbrev pub promised : List Example
promised =
    -- P1 "fresh, built: no words."
    example (words_after Screen (Build ∷ [])) (0 ∷ [])
    ∷ example (words_after Knife (Build ∷ [])) (0 ∷ [])
    -- P2 "(0,0) (10,0) (10,10) (0,10) by lines, built"
    ∷ example (words_after Screen (Line (P 10 0) ∷ Line (P 10 10) ∷ Line (P 0 10) ∷ Build ∷ []))
    (0 ∷ 0x7F800000 ∷ 0xFF800000 ∷ 0xFF800001 ∷ 0xFF800002 ∷ 0xFFC00003 ∷ [])
    ∷ example (words_after Knife (Line (P 10 0) ∷ Line (P 10 10) ∷ Line (P 0 10) ∷ Build ∷ [])) (0 ∷ 0x7F800000 ∷ 0xFF800000 ∷ 0xFF800001
    ∷ 0xFF800002 ∷ 0xFFC00003 ∷ [])
    -- P3 "the doubled point, screen"
    ∷ example (words_after Screen doubled) (0 ∷ 0x7F800000 ∷ 0xFF800000 ∷ 0xFFC00001 ∷ [])
    -- P4 "the same, knife"
    ∷ example (words_after Knife doubled) (0 ∷ 0x7F800000 ∷ 0xFF800000 ∷ 0xFF800001 ∷ 0xFFC00002 ∷ [])
    -- P5 "(0,0) (10,0) (4,0), built: 7F800000 FFC00000, both points (0,0)."
    ∷ example (words_after Screen back) (0 ∷ 0x7F800000 ∷ 0xFFC00000 ∷ [])
    ∷ example (points_after Screen back) (0 ∷ 0 ∷ 0 ∷ 0 ∷ [])
    -- "P5 in the knife setting must keep (10,0)."
    ∷ example (words_after Knife back) (0 ∷ 0x7F800000 ∷ 0xFF800000 ∷ 0xFFC00001 ∷ [])
    ∷ example (points_after Knife back) (0x00000000 ∷ 0x41200000 ∷ 0x00000000 ∷ 0x00000000 ∷ 0x00000000 ∷ 0x00000000 ∷ [])
    -- P6 "quad (5,0) (10,0) from the origin, built"
    ∷ example (words_after Screen onward) (0 ∷ 0x7F800000 ∷ 0x3F800000 ∷ 0xFFC00000 ∷ [])
    -- and its row: three x, three y, three weights, x0, dx_recip, k0, dk, the reciprocal, the sum; spline 0
    ∷ example (row_after Screen onward)
    (0x00000000 ∷ 0x40A00000 ∷ 0x41200000 ∷ 0x00000000 ∷ 0x00000000 ∷ 0x00000000 ∷ 0x3F800000 ∷ 0x3F800000 ∷ 0x3F800000
    ∷ 0x3D1603C0 ∷ 0x3F800000 ∷ 0x00000000 ∷ 0x3F800000 ∷ 0x3F000000 ∷ 0x40000000 ∷ 0 ∷ [])
    -- P6 in the knife setting: the closing line goes back, and the quad's end stays
    ∷ example (words_after Knife onward) (0 ∷ 0x7F800000 ∷ 0x3F800000 ∷ 0xFF800000 ∷ 0xFFC00001 ∷ [])
    -- P7 "quad (0,0) (0,0) from the origin: no words."
    ∷ example (words_after Screen (Quad (P 0 0) (P 0 0) ∷ [])) (0 ∷ [])
    ∷ example (words_after Knife (Quad (P 0 0) (P 0 0) ∷ [])) (0 ∷ [])
    -- P8 "move (1,1), move (2,2): one point."
    ∷ example (stored_after (Move (P 1 1) ∷ Move (P 2 2) ∷ [])) (1 ∷ 0x40000000 ∷ 0x40000000 ∷ [])
    -- P9 "Start 4,194,303 is 7FBFFFFF; End of it, flagged, FFFFFFFF."
    ∷ example (pack_of (Start 4194303) ∷ pack_of (End 4194303 true) ∷ []) (0x7FBFFFFF ∷ 0xFFFFFFFF ∷ [])
    -- P10 "fma(a,a,-(1+2^-11)) with a = 1+2^-12 is 2^-24."
    ∷ example (bits_of (fma32 (f32 0x3f80_0800) (f32 0x3f80_0800) (f32 0xbf80_1000)) ∷ []) (0x33800000 ∷ [])
    -- P11 "q 64 gives r 2; q 0 gives one piece."
    ∷ example (bits_of (sixth_root_of (whole32 64)) ∷ pieces_of zero32 one32 one32 ∷ []) (0x40000000 ∷ 1 ∷ [])
    -- P12 "the second spline's step uses quad 1, the first spline's."
    ∷ example (joined_cursors Screen) (0 ∷ 0 ∷ 0 ∷ 0 ∷ 1 ∷ 0 ∷ [])
    -- P12 in the knife setting: "the cursor begins each spline at that first quad"
    ∷ example (joined_cursors Knife) (0 ∷ 0 ∷ 0 ∷ 0 ∷ 2 ∷ 0 ∷ [])
    ∷ []
