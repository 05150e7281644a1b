-- Scaffolding: what a primitive comes to, for the contracts of private functions in src/planning.rt; no promise rests on it. Assumes nothing.
use Rattle.point.specs.Angle.{Angle}
use Rattle.std.specs.Prelude.{None, Some}
use Rattle.point.specs.declared.WeightedPoint.{WeightedPoint}
use Rattle.point.specs.Point.{minus_of, applied_of}
use Rattle.point.specs.Angle.{angle_of}
use Rattle.primitives.specs.declared.Primitive.{Primitive}
use Rattle.primitives.specs.declared.Primitive.TheVariants.{Contour, Line, Quad, Excess}
use Rattle.primitives.specs.declared.Shape.{Shape}
use Rattle.primitives.specs.declared.Shape.TheVariants as shape

unfoldable pub legs_of : WeightedPoint → WeightedPoint → WeightedPoint → Angle → Angle → Shape
legs_of p0 p1 p2 None None = shape.Nothing
legs_of p0 p1 p2 None (Some a) = shape.Straight (applied_of p0) (applied_of p2)
legs_of p0 p1 p2 (Some a) None = shape.Straight (applied_of p0) (applied_of p2)
legs_of p0 p1 p2 (Some a) (Some b) = shape.Curved p0 p1 p2 a b

unfoldable pub quad_shape_of : WeightedPoint → WeightedPoint → WeightedPoint → Shape
quad_shape_of p0 p1 p2 = legs_of p0 p1 p2 (angle_of (minus_of (applied_of p1) (applied_of p0))) (angle_of (minus_of (applied_of p2) (applied_of p1)))

unfoldable pub shape_of : Primitive → Shape
shape_of Contour = shape.Mark
shape_of (Line p0 p1) = shape.Straight (applied_of p0) (applied_of p1)
shape_of (Quad p0 p1 p2) = quad_shape_of p0 p1 p2
shape_of Excess = shape.Excess
