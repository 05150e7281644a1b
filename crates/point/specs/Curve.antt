-- RULES, Quads, Cubics and Points: lerp, curvature and its inverse, and the evaluation of quads and cubics, nested as the Rust nests them. Assumes nothing.
use Rattle.std.specs.Prelude.{Float}
use Rattle.std.specs.Float.Ieee.{neg}
use Rattle.leaves.specs.Single.{◌⊕◌, ◌⊖◌, ◌⊗◌, ◌⊘◌, f32, one32, recip}
use Rattle.leaves.specs.Fma.{fma32}
use Rattle.leaves.specs.Sqrt.{sqrt32}
use Rattle.point.specs.declared.Point.{Point}
use Rattle.point.specs.declared.WeightedPoint.{WeightedPoint}
use Rattle.point.specs.Point.{point_at, weighted}

-- "lerp(t,a,b) = fma(t, b, fma(-t, a, a))"
unfoldable pub lerp_of : Float → Float → Float → Float
lerp_of t a b = fma32 t b (fma32 (neg t) a a)

-- with C = 0.67
unfoldable pub curvature_of : Float → Float
curvature_of x =
    let c = f32 0x3f2b_851f in
    x ⊘ (one32 ⊖ c ⊕ sqrt32 (sqrt32 (fma32 (x ⊗ x) (f32 0x3e80_0000) (c ⊗ c ⊗ c ⊗ c))))

-- with C = 0.39
unfoldable pub inv_curvature_of : Float → Float
inv_curvature_of k =
    let c = f32 0x3ec7_ae14 in
    k ⊗ (one32 ⊖ c ⊕ sqrt32 (fma32 (k ⊗ k) (f32 0x3e80_0000) (c ⊗ c)))

-- one coordinate at t: of a quad, from three numbers, and of a cubic, from four
unfoldable pub quad_at_of : Float → Float → Float → Float → Float
quad_at_of t a b c = lerp_of t (lerp_of t a b) (lerp_of t b c)

unfoldable pub cubic_at_of : Float → Float → Float → Float → Float → Float
cubic_at_of t a b c d = lerp_of t (quad_at_of t a b c) (quad_at_of t b c d)

-- `eval_cubic`
unfoldable pub eval_cubic_of : Float → WeightedPoint → WeightedPoint → WeightedPoint → WeightedPoint → WeightedPoint
eval_cubic_of t p0 p1 p2 p3 =
    weighted
    (point_at (cubic_at_of t p0.point.x p1.point.x p2.point.x p3.point.x)
    (cubic_at_of t p0.point.y p1.point.y p2.point.y p3.point.y))
    (cubic_at_of t p0.weight p1.weight p2.weight p3.weight)

-- `eval_quad`, which divides by the weight
unfoldable pub eval_quad_of : Float → WeightedPoint → WeightedPoint → WeightedPoint → Point
eval_quad_of t p0 p1 p2 =
    let r = recip (quad_at_of t p0.weight p1.weight p2.weight) in
    point_at (quad_at_of t p0.point.x p1.point.x p2.point.x ⊗ r) (quad_at_of t p0.point.y p1.point.y p2.point.y ⊗ r)
