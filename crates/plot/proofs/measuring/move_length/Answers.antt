-- `plot::measuring::move_length` meets its contract. Assumes nothing.
use mathlib.Core.Path.{◌≡◌, ap, ◌∙◌}
use mathlib.Core.Bool.{true}
use native.Mathlib.Omega.{arith}
use lib.IntN.{ℤ}
use lib.ListN.{length}
use Rattle.text.specs.Signed.{signed_of}
use Rattle.text.proofs.Minus.{signed_short}
use Rattle.contours.specs.Finished.{position}
use Rattle.plot.proofs.Spots.{widened}
use Rattle.plot.proofs.Measure.{move_length_is}
use Rattle.plot.proofs.measuring.move_length.Lts as lts
use Rattle.plot.proofs.measuring.move_length.Reads as reads
use Rattle.plot.proofs.measuring.move_length.Tie as tie
use Rattle.plot.proofs.measuring.move_length.Goals as goal

abbrev After-signed_length : Type 0
After-signed_length = lts.After-signed_length tie.the-claims reads.Pre reads.Post

abbrev After-signed_length-2 : Type 0
After-signed_length-2 = lts.After-signed_length2 tie.the-claims reads.Pre reads.Post

-- the length of x, and of y
x-length : (c : After-signed_length) → c.signed_length.result ≡ length (signed_of c.args.x)
x-length c = c.signed_length.ensures ∙ ap (λ (z : ℤ). length (signed_of z)) (widened c.args.x c.ranges.x c.from.result c.from.ensures)

y-length : (c : After-signed_length-2) → c.signed_length-2.result ≡ length (signed_of c.args.y)
y-length c = c.signed_length-2.ensures ∙ ap (λ (z : ℤ). length (signed_of z)) (widened c.args.y c.ranges.y c.from-2.result c.from-2.ensures)

pub overflow_add-result : goal.overflow_add-result
overflow_add-result c = record { fits = omega (arith, x-length c, signed_short c.args.x) }

pub overflow_add-result-2 : goal.overflow_add-result-2
overflow_add-result-2 c = record { fits = omega (arith, x-length c.before.before, signed_short c.args.x, y-length c, signed_short c.args.y) }

pub returns : goal.returns
returns c = let a = c.args in omega (arith, x-length c.before.before, y-length c, move_length_is true (position a.x a.y))
