-- `point::direction::approx_atan2` meets its contract: each leaf is the definition's, and so is the value where the arms of each test meet. Assumes nothing.
use mathlib.Core.Path.{◌≡◌, refl}
use mathlib.Core.Bool.{cond}
use lib.Ieee.{lt, neg, of_bits}
use Rattle.leaves.specs.Single.{◌⊖◌, f32, zero32}
use Rattle.point.specs.Angle.{pi, half_pi, approx_atan2_of}
use Rattle.point.proofs.direction.approx_atan2.Goals.{else-x, else-y_abs-x_abs, then-x, then-y_abs-x_abs}
use Rattle.point.proofs.direction.approx_atan2.Lts as lts
use Rattle.point.proofs.direction.approx_atan2.Reads as reads
use Rattle.point.proofs.direction.approx_atan2.Tie as tie
use Rattle.point.proofs.direction.approx_atan2.Goals as goal

abbrev Joined-x : Type 0
Joined-x = lts.Joined2 tie.the-claims reads.Pre reads.Post

abbrev Joined-y_abs-x_abs : Type 0
Joined-y_abs-x_abs = lts.Joined1 tie.the-claims reads.Pre reads.Post

-- the negative constants: the code negates a literal
first : neg (f32 0x3d3e_7316) ≡ f32 0xbd3e_7316
unfolding neg of_bits
first = refl

third : neg (f32 0x3ea7_be2c) ≡ f32 0xbea7_be2c
unfolding neg of_bits
third = refl

-- where the arms of the first test meet, and of the second
steep : (c : Joined-y_abs-x_abs) →
    let r = c.fma-r.result in
    c.if-y_abs-x_abs.r ≡ cond (lt c.abs-x_abs.result c.abs-y_abs.result) (half_pi ⊖ r) r
steep c = elim c.if-y_abs-x_abs.branch [ then-y_abs-x_abs w ↦ rw w.if-y_abs-x_abs.true w.r-is | else-y_abs-x_abs w ↦ rw w.if-y_abs-x_abs.false w.r-is ]

behind : (c : Joined-x) →
    let r = c.if-y_abs-x_abs.r in
    c.if-x.r ≡ cond (lt c.args.x zero32) (pi ⊖ r) r
behind c = elim c.if-x.branch [ then-x w ↦ rw w.if-x.true w.r-is | else-x w ↦ rw w.if-x.false w.r-is ]

-- all but the last test
turned : (c : Joined-x) →
    approx_atan2_of c.args.y c.args.x ≡ cond (lt c.args.y zero32) (neg c.if-x.r) c.if-x.r
unfolding approx_atan2_of
turned c =
    rw (
      ← first,
      ← third,
      ← c.abs-x_abs.ensures,
      ← c.abs-y_abs.ensures,
      ← c.min.ensures,
      ← c.max.ensures,
      ← c.fma.ensures,
      ← c.fma-inner.ensures,
      ← c.fma-r.ensures,
      ← steep c.before,
      ← behind c,
    )

pub returns-then-y : goal.returns-then-y
returns-then-y c = rw (turned c.before, c.if-y.true)

pub returns-else-y : goal.returns-else-y
returns-else-y c = rw (turned c.before, c.if-y.false)
