-- `primitives::splines::far` meets its contract: the square of the distance decides as the distance does. Assumes nothing.
use Rattle.leaves.specs.Single.{◌⊗◌}
use Rattle.point.specs.Point.{len_of, minus_of}
use Rattle.point.proofs.Lengths.{far_enough}
use Rattle.primitives.specs.Splines.{far_of}
use Rattle.primitives.proofs.splines.far.Goals as goal

pub returns : goal.returns
unfolding far_of len_of
returns c =
    let a = c.args in
    let d = minus_of a.start a.last.p2 in
    rw (← far_enough (d.x ⊗ d.x) (d.y ⊗ d.y), ← c.sub.ensures, ← c.squared.ensures)
