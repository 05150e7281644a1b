-- `leaves::fused::weight` meets its contract. Assumes nothing.
use native.Mathlib.Omega.{arith}
use lib.Ieee.{binary32}
use Rattle.rounding.proofs.Parts.{place_le}
use Rattle.leaves.proofs.fused.weight.Goals as goal

pub overflow_add-result : goal.overflow_add-result
overflow_add-result c =
    let a = c.args in
    omega (arith, c.place.ensures, c.place-else-p-eq0.ensures, place_le binary32 a.a, place_le binary32 a.b)
