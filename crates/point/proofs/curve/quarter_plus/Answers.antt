-- `point::curve::quarter_plus` meets its contract: if the tests hold, the product is exact. Assumes nothing.
use Rattle.point.proofs.Quarter.{quarter_fused}
use Rattle.point.proofs.curve.quarter_plus.Goals as goal

pub returns-then-x-c : goal.returns-then-x-c
returns-then-x-c c =
    let a = c.args in
    quarter_fused a.x a.c c.well_formed.0.1 c.if-x-c.true
