-- `plot::Finished::put_moves` meets its contract: the moves that are left, written after those already written. Assumes nothing.
use mathlib.Core.Path.{sym, ap, ◌∙◌}
use mathlib.Core.Bool.{true}
use native.Mathlib.Omega.{arith}
use lib.ListN.{length}
use Rattle.leaves.proofs.Comparisons.{no}
use Rattle.text.proofs.Written.{written_same}
use Rattle.plot.proofs.Places.{point, place, move_same}
use Rattle.plot.proofs.Spots.{spot_at, spot_no}
use Rattle.plot.proofs.Filling.{filled_start, filled_printable, filled_room, filled_on, filled_end}
use Rattle.plot.proofs.Finished.put_moves.Goals as goal

pub loop-i-init : goal.loop-i-init
loop-i-init c = filled_start _ _ c.requires.printable

pub returns-in_default : goal.returns-in_default
returns-in_default c =
    let p = c.args.self.now in
    let here = place p c.loop-i.i (omega (arith, c.loop-i-test.true, c.len-i-end.ensures)) in
    no (sym (filled_printable _ _ _ _ _ _ c.loop-i.invariant (point p c.loop-i.i) here) ∙ spot_no _ _ (sym c.in_default.is ∙ c.spot.ensures ∙ ap spot_at c.at-x.ensures))

pub put_move-at-requires : goal.put_move-at-requires
put_move-at-requires c =
    let p = c.args.self.now in
    let here = place p c.loop-i.i (omega (arith, c.loop-i-test.true, c.len-i-end.ensures)) in
    omega (
      arith,
      ap length (move_same p c.loop-i.i _ true (sym c.in-Some.is ∙ c.spot.ensures ∙ ap spot_at c.at-x.ensures)),
      filled_room _ _ _ _ _ _ c.loop-i.invariant (point p c.loop-i.i) here c.requires.room,
    )

pub loop-i-preserved : goal.loop-i-preserved
loop-i-preserved c =
    let p = c.args.self.now in
    let here = place p c.loop-i.i (omega (arith, c.loop-i-test.true, c.len-i-end.ensures)) in
    filled_on _ _ _ _ _ _ c.loop-i.invariant (point p c.loop-i.i) here _ _ _ c.flag-flag.ensures c.put_move-at.auto.text
    (written_same _ _ _ _ _ _ (move_same p c.loop-i.i _ c.loop-i.up (sym c.in-Some.is ∙ c.spot.ensures ∙ ap spot_at c.at-x.ensures)) c.put_move-at.ensures)

pub returns : goal.returns
returns c = filled_end _ _ _ _ _ _ c.loop-i.invariant (omega (arith, c.loop-i-test.false, c.len-i-end.ensures))
