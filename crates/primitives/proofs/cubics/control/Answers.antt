-- `primitives::cubics::control` meets its contract. Assumes nothing.
use mathlib.Core.Path.{◌≡◌, refl}
use lib.Ieee.{neg, of_bits}
use Rattle.leaves.specs.Single.{f32, half32}
use Rattle.primitives.specs.Cubics.{control_of}
use Rattle.primitives.proofs.cubics.control.Goals as goal

minus_half : neg half32 ≡ f32 0xbf00_0000
unfolding neg of_bits
minus_half = refl

pub returns : goal.returns
unfolding control_of
returns c = rw (← minus_half, ← c.fma-x.ensures, ← c.fma-y.ensures)
