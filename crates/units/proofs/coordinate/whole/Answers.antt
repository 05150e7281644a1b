-- `units::coordinate::whole` meets its contract. Assumes nothing.
use mathlib.Core.Path.{sym, ap, ◌∙◌}
use mathlib.Core.Bool.{true, false}
use borrow.Author.Tests.{le-leb, lt-leb}
use Rattle.std.specs.Prelude.{Some}
use Rattle.units.proofs.Units.{range_above, range_below, size_yes, size_no, unit_is, negative_is, positive_is}
use Rattle.units.proofs.coordinate.whole.Goals as goal

pub returns-then-size-gt32768 : goal.returns-then-size-gt32768
returns-then-size-gt32768 c =
    let n = c.whole_near-size.result in
    size_no true n (range_below n ∙ lt-leb n 32768 c.if-size-gt32768.true)
    ∙ unit_is c.args.x true n (sym c.if-negative.true ∙ c.negative.ensures)
    c.whole_near-size.ensures

pub returns-then-negative : goal.returns-then-negative
returns-then-negative c =
    let n = c.whole_near-size.result in
    ap Some (negative_is n c.if-size-gt32768.false)
    ∙ size_yes true n (range_below n ∙ le-leb n 32768 c.if-size-gt32768.false)
    ∙ unit_is c.args.x true n (sym c.if-negative.true ∙ c.negative.ensures)
    c.whole_near-size.ensures

pub returns-then-size-gt32767 : goal.returns-then-size-gt32767
returns-then-size-gt32767 c =
    let n = c.whole_near-size.result in
    size_no false n (range_above n ∙ lt-leb n 32767 c.if-size-gt32767.true)
    ∙ unit_is c.args.x false n (sym c.if-negative.false ∙ c.negative.ensures)
    c.whole_near-size.ensures

pub returns : goal.returns
returns c =
    let n = c.whole_near-size.result in
    ap Some (positive_is n c.if-size-gt32767.false)
    ∙ size_yes false n (range_above n ∙ le-leb n 32767 c.if-size-gt32767.false)
    ∙ unit_is c.args.x false n (sym c.if-negative.false ∙ c.negative.ensures)
    c.whole_near-size.ensures
