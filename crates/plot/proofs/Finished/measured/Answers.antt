-- `plot::Finished::measured` meets its contract: each point is tested, and its bytes are taken from the room. Assumes nothing.
use mathlib.Core.Path.{sym, ap, ◌∙◌}
use mathlib.Core.Bool.{true}
use Rattle.std.proofs.Common.{rules}
use native.Mathlib.Omega.{arith}
use lib.ListN.{length}
use Rattle.plot.proofs.Places.{point, place, move_same}
use Rattle.plot.proofs.Spots.{spot_at, spot_yes, spot_no}
use Rattle.plot.proofs.Counting.{counted_start, counted_on, counted_stop, counted_short, counted_fits}
use Rattle.plot.proofs.Finished.measured.Goals as goal

pub loop-i-init : goal.loop-i-init
loop-i-init c = counted_start _ _ _ c.checked_sub-left.ensures

pub returns-in_default : goal.returns-in_default
returns-in_default c =
    let p = c.args.self.now in
    counted_stop _ _ _ _ c.loop-i.invariant (point p c.loop-i.i) (place p c.loop-i.i (omega (arith, c.loop-i-test.true, c.len-i-end.ensures)))
    (spot_no _ _ (sym c.in_default.is ∙ c.spot.ensures ∙ ap spot_at c.at-x.ensures))

pub loop-i-preserved : goal.loop-i-preserved
loop-i-preserved c =
    let p = c.args.self.now in
    let found = sym c.in-Some.is ∙ c.spot.ensures ∙ ap spot_at c.at-x.ensures in
    counted_on _ _ _ _ _ _ c.loop-i.invariant (point p c.loop-i.i) (place p c.loop-i.i (omega (arith, c.loop-i-test.true, c.len-i-end.ensures)))
    (search rules) (spot_yes _ _ _ found).0
    (c.move_length-bytes.ensures ∙ ap length (move_same p c.loop-i.i _ true found))

pub returns-in-None : goal.returns-in-None
returns-in-None c = counted_short _ _ _ _ c.loop-i.invariant (omega (arith, c.loop-i-test.false, c.len-i-end.ensures)) c.in-None.is

pub returns-in-Some-left : goal.returns-in-Some-left
returns-in-Some-left c = counted_fits _ _ _ _ c.loop-i.invariant (omega (arith, c.loop-i-test.false, c.len-i-end.ensures)) _ c.in-Some-left.is
