-- `primitives::quads::straight` meets its contract: a float that is not finite is not below infinity, except minus infinity, which is at most 1.0. Assumes
-- nothing.
use mathlib.Core.Path.{◌≡◌, refl, ap, ◌∙◌}
use mathlib.Core.Bool.{true, false, not, ◌||◌}
use lib.Ieee.{Float, nan, inf, fin, binary32, lt, le, of_bits}
use Rattle.leaves.specs.Single.{one32}
use Rattle.primitives.specs.Quads.{straight_of}
use Rattle.primitives.proofs.quads.straight.Goals as goal

infinity_is : of_bits binary32 0x7f80_0000 ≡ inf false
unfolding of_bits
infinity_is = refl

straight_is : (x : Float) → (not (lt x (inf false)) || le x one32) ≡ straight_of x
unfolding straight_of lt le of_bits
straight_is nan = refl
straight_is (inf true) = refl
straight_is (inf false) = refl
straight_is (fin s m e) = refl

pub returns : goal.returns
returns c = ap (λ (i : Float). not (lt c.args.curvature i) || le c.args.curvature one32) infinity_is ∙ straight_is c.args.curvature
