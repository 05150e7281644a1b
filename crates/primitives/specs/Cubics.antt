-- RULES, Cubics: a cubic is cut into pieces, each of which is a quad of weight 1. Assumes nothing.
use Rattle.std.specs.Prelude.{ℕ, zero, suc, ◌+◌, Bool, true, false, List, [], ◌∷◌, leb, Float}
use Rattle.std.specs.Float.Ieee.{neg}
use Rattle.leaves.specs.Single.{◌⊕◌, ◌⊖◌, ◌⊗◌, f32, half32, two32, whole32, recip}
use Rattle.leaves.specs.Fma.{fma32}
use Rattle.leaves.specs.Pieces.{pieces_of}
use Rattle.point.specs.declared.Point.{Point}
use Rattle.point.specs.Point.{point_at, plain, applied_of}
use Rattle.point.specs.Curve.{eval_cubic_of}
use Rattle.primitives.specs.declared.Cubic.{Cubic}
use Rattle.primitives.specs.declared.Primitive.{Primitive}
use Rattle.primitives.specs.declared.Primitive.TheVariants.{Quad, Excess}

-- 3·p2 - p0 - 2·p1 of one coordinate; 2·p1 is fma(p1, 3, -p1), which is exact
unfoldable pub bend_of : Float → Float → Float → Float
bend_of p0 p1 p2 = let three = f32 0x4040_0000 in fma32 p2 three (neg p0) ⊖ fma32 p1 three (neg p1)

-- "A cubic's error uses 3·p2 - p0 - 2·p1 as written; the end point isn't in it."
unfoldable pub cubic_error_of : Cubic → Float
cubic_error_of c =
    let p0 = applied_of c.p0 in
    let p1 = applied_of c.p1 in
    let p2 = applied_of c.p2 in
    let dx = bend_of p0.x p1.x p2.x in
    let dy = bend_of p0.y p1.y p2.y in
    fma32 dx dx (dy ⊗ dy)

-- "Let q be the error times the rounded reciprocal of 1.6875"
unfoldable pub cubic_pieces_of : Cubic → ℕ
cubic_pieces_of c = pieces_of (cubic_error_of c ⊗ recip (f32 0x3fd8_0000)) c.p1.weight c.p2.weight

unfoldable pub cubic_point_of : Cubic → Float → Point
cubic_point_of c t = applied_of (eval_cubic_of t c.p0 c.p1 c.p2 c.p3)

-- the control point of a piece from its ends and its middle: 2·mid - 0.5·(from + to), by fma
unfoldable pub control_of : Point → Point → Point → Point
control_of start mid end =
    let minus_half = f32 0xbf00_0000 in
    point_at (fma32 mid.x two32 (minus_half ⊗ (start.x ⊕ end.x))) (fma32 mid.y two32 (minus_half ⊗ (start.y ⊕ end.y)))

-- n pieces from the i-th on, the first of them from the point start; incr is the rounded 1/n of all
unfoldable pub quads_from : ℕ → ℕ → Point → Float → Cubic → List Primitive
quads_from zero i start incr c = []
quads_from (suc n) i start incr c =
    let t = whole32 i ⊗ incr in
    let end = cubic_point_of c t in
    let mid = cubic_point_of c (t ⊖ half32 ⊗ incr) in
    Quad (plain start) (plain (control_of start mid end)) (plain end) ∷ quads_from n (i + 1) end incr c

-- "a cubic needs over 1,024 pieces"
unfoldable pub cut_of : Bool → ℕ → Cubic → List Primitive
cut_of false n c = Excess ∷ []
cut_of true n c = quads_from n 1 (applied_of c.p0) (recip (whole32 n)) c

unfoldable pub cubic_quads_of : Cubic → List Primitive
cubic_quads_of c = cut_of (leb (cubic_pieces_of c) 1024) (cubic_pieces_of c) c
