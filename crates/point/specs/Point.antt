-- RULES, The store 4, The store 5 and Angles 1: a point and a weighted point by value, their difference, their length, and how a weight is applied. Assumes
-- nothing.
use Rattle.std.specs.Prelude.{Bool, ◌&&◌, Float}
use Rattle.std.specs.Float.Ieee.{eq}
use Rattle.leaves.specs.Single.{◌⊕◌, ◌⊖◌, ◌⊗◌, one32, recip}
use Rattle.leaves.specs.Sqrt.{sqrt32}
use Rattle.point.specs.declared.Point.{Point}
use Rattle.point.specs.declared.WeightedPoint.{WeightedPoint}

abbrev pub point_at : Float → Float → Point
point_at x y = record { x = x; y = y }

abbrev pub weighted : Point → Float → WeightedPoint
weighted p w = record { point = p; weight = w }

-- a point as it is given, with weight 1
abbrev pub plain : Point → WeightedPoint
plain p = weighted p one32

-- "A rational control point is stored as (x·w, y·w, w)."
unfoldable pub rational_of : Point → Float → WeightedPoint
rational_of p w = weighted (point_at (p.x ⊗ w) (p.y ⊗ w)) w

-- "each as (x·(1/w), y·(1/w))": WeightedPoint::applied
unfoldable pub applied_of : WeightedPoint → Point
applied_of p = let r = recip p.weight in point_at (p.point.x ⊗ r) (p.point.y ⊗ r)

unfoldable pub minus_of : Point → Point → Point
minus_of a b = point_at (a.x ⊖ b.x) (a.y ⊖ b.y)

-- equal as floats: -0 equals +0, and a NaN equals nothing
unfoldable pub same_of : Point → Point → Bool
same_of a b = eq a.x b.x && eq a.y b.y

-- "Length is sqrt(x·x + y·y), each step rounded."
unfoldable pub len_of : Point → Float
len_of a = sqrt32 (a.x ⊗ a.x ⊕ a.y ⊗ a.y)
