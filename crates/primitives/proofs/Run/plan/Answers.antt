-- `Run::plan` meets its contract. Assumes nothing.
use Rattle.primitives.specs.Plan.{refused_of}
use Rattle.primitives.proofs.Shapes.{plan_shape_of, planned}
use Rattle.primitives.proofs.Run.plan.Goals as goal

pub returns-in-Nothing : goal.returns-in-Nothing
unfolding plan_shape_of
returns-in-Nothing c = rw (planned _ _ _ _ _, ← c.shape.ensures, c.in-Nothing.is)

pub returns-in-Mark : goal.returns-in-Mark
unfolding plan_shape_of
returns-in-Mark c = rw (planned _ _ _ _ _, ← c.shape.ensures, c.in-Mark.is, ← c.marked.ensures)

pub returns-in-Excess : goal.returns-in-Excess
unfolding plan_shape_of refused_of
returns-in-Excess c = rw (planned _ _ _ _ _, ← c.shape.ensures, c.in-Excess.is)

pub returns-in-Straight : goal.returns-in-Straight
unfolding plan_shape_of
returns-in-Straight c = rw (planned _ _ _ _ _, ← c.shape.ensures, c.in-Straight.is) c.plan_line.ensures

pub returns-in-Curved : goal.returns-in-Curved
unfolding plan_shape_of
returns-in-Curved c = rw (planned _ _ _ _ _, ← c.shape.ensures, c.in-Curved.is) c.plan_curve.ensures
