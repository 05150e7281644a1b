-- 02, One: "A contour ends at a flagged point or at the end of the list". Assumes nothing.
use Rattle.std.specs.Prelude.{List, map}
use Rattle.contours.specs.Cutting.{cut_after}
use Rattle.contours.specs.Finished.{Position, Vertex}

unfoldable pub contours_of : {A : Type 0} → List (Vertex A) → List (List (Position A))
contours_of {A} points = map (map (λ (v : Vertex A). v.position)) (cut_after (λ (v : Vertex A). v.end) points)
