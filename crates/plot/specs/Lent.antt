-- The points of lent columns. Assumes nothing.
use Rattle.std.specs.Prelude.{List, Float}
use Rattle.contours.specs.Finished.{Vertex, finished_of}
use Rattle.plot.specs.declared.Finished.{Finished}

abbrev pub points_of : Finished → List (Vertex Float)
points_of p = finished_of p.x.now p.y.now p.end.now
