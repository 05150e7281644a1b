-- `point::curve::lessened` meets its contract: if the tests hold, the product is the fused operation. Assumes nothing.
use Rattle.point.proofs.Exact.{product_fused}
use Rattle.point.proofs.curve.lessened.Goals as goal

pub returns-then-exact-a : goal.returns-then-exact-a
returns-then-exact-a c =
    let a = c.args in
    product_fused a.t a.a c.well_formed.0.1 c.if-exact-a.true
