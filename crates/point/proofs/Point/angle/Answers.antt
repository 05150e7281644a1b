-- `point::Point::angle` meets its contract: the square of the length decides as the length does. Assumes nothing.
use Rattle.leaves.specs.Single.{◌⊗◌}
use Rattle.point.specs.Angle.{angle_of}
use Rattle.point.specs.Point.{len_of}
use Rattle.point.proofs.Lengths.{long_enough}
use Rattle.point.proofs.Point.angle.Goals as goal

pub returns-then-squared : goal.returns-then-squared
unfolding angle_of len_of
returns-then-squared c =
    let p = c.args.self in
    rw (← long_enough (p.x ⊗ p.x) (p.y ⊗ p.y), ← c.squared.ensures, c.if-squared.true, ← c.approx_atan2.ensures)

pub returns : goal.returns
unfolding angle_of len_of
returns c =
    let p = c.args.self in
    rw (← long_enough (p.x ⊗ p.x) (p.y ⊗ p.y), ← c.squared.ensures, c.if-squared.false)
