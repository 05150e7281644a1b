-- `point::curve::cubic_weight` meets its contract: if the tests hold, each lerp gives 1. Assumes nothing.
use Rattle.point.proofs.Ones.{cubic_ones}
use Rattle.point.proofs.curve.cubic_weight.Goals as goal

pub returns-then-t-a : goal.returns-then-t-a
returns-then-t-a c =
    let a = c.args in
    let good = c.well_formed in
    cubic_ones a.t a.a a.b a.c a.d good.1.0.1 good.1.1.0.1 good.1.1.1.0.1 good.1.1.1.1.0.1 c.if-t-a.true
