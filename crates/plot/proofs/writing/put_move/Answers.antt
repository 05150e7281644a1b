-- `plot::writing::put_move` meets its contract: the pen, x, y. Assumes nothing.
use mathlib.Core.Path.{◌≡◌, ap}
use mathlib.Core.List.{[], ◌∷◌}
use mathlib.Core.Bool.{true}
use Prim.Native.Nat.{◌+◌}
use native.Mathlib.Omega.{arith}
use lib.IntN.{ℤ}
use lib.ListN.{length, length-append}
use mir.Syntax.{w32}
use mir.Val.{to_z, of_z}
use Rattle.text.specs.Signed.{signed_of}
use Rattle.contours.specs.Finished.{position}
use Rattle.plot.specs.Text.{pen_of}
use Rattle.plot.proofs.Measure.{pen_length, move_length_is}
use Rattle.plot.proofs.Spots.{narrow_back}
use Rattle.plot.proofs.Writes.{move_written}
use Rattle.plot.proofs.writing.put_move.Lts as lts
use Rattle.plot.proofs.writing.put_move.Reads as reads
use Rattle.plot.proofs.writing.put_move.Tie as tie
use Rattle.plot.proofs.writing.put_move.Goals as goal

abbrev After-put_pen-first : Type 0
After-put_pen-first = lts.After-put_pen tie.the-claims reads.Pre reads.Post

-- the place after the pen, and after x
after_pen : (c : After-put_pen-first) → c.put_pen-first.result ≡ c.args.at + 3
after_pen c =
    let up = c.args.up in
    omega (arith, c.put_pen-first.ensures.next, length-append (pen_of up) (0x20 ∷ []), pen_length up)

x_held : (c : After-put_pen-first) → length (signed_of (to_z w32 (of_z w32 c.args.x))) ≡ length (signed_of c.args.x)
x_held c = ap (λ (z : ℤ). length (signed_of z)) (narrow_back c.args.x c.ranges.x)

y_held : (c : After-put_pen-first) → length (signed_of (to_z w32 (of_z w32 c.args.y))) ≡ length (signed_of c.args.y)
y_held c = ap (λ (z : ℤ). length (signed_of z)) (narrow_back c.args.y c.ranges.y)

pub put_pen-first-requires : goal.put_pen-first-requires
put_pen-first-requires c = let a = c.args in omega (arith, move_length_is true (position a.x a.y), c.requires)

pub put_number-second-requires : goal.put_number-second-requires
put_number-second-requires c =
    omega (arith, after_pen c.before.before.before, x_held c.before.before.before, c.put_pen-first.auto.text, move_length_is true (position c.args.x c.args.y), c.requires)

pub put_number-requires : goal.put_number-requires
put_number-requires c =
    omega (
      arith,
      after_pen c.before.before.before.before.before.before.before,
      c.put_number-second.ensures.next,
      length-append (signed_of (to_z w32 (of_z w32 c.args.x))) (0x2c ∷ []),
      x_held c.before.before.before.before.before.before.before,
      y_held c.before.before.before.before.before.before.before,
      c.put_pen-first.auto.text,
      c.put_number-second.auto.text,
      move_length_is true (position c.args.x c.args.y),
      c.requires,
    )

pub returns : goal.returns
returns c =
    move_written c.args.up (position c.args.x c.args.y) _ _ _ _ _ _ c.args.at _ _ _ (narrow_back c.args.x c.ranges.x)
    (narrow_back c.args.y c.ranges.y) c.put_pen-first.ensures c.put_number-second.ensures c.put_number.ensures
