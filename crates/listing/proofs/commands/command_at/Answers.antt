-- `listing::command_at` meets its contract: the end of the text, no op line, or the command of the first op line that matches. Assumes nothing.
use Rattle.std.proofs.Common.{sym, ap, ◌∙◌, arith, ◌≡◌, ◌+◌, length, Err}
use borrow.Author.Tests.{le-leb}
use Rattle.listing.specs.Reading.{Placed, ops, command_at, call_as, command_as}
use Rattle.listing.proofs.CommandLaws.{passed_on, some_of_ok, none_of_err, try_found, behind_op, no_op, of_op}
use Rattle.listing.proofs.commands.command_at.Goals as goal
use Rattle.listing.proofs.commands.command_at.Goals.{After-line, After-call_at}

pub returns-then-listing-place : goal.returns-then-listing-place
unfolding command_at
returns-then-listing-place c = rw (le-leb _ _ c.if-listing-place.true)

pub returns-in_err-op : goal.returns-in_err-op
returns-in_err-op c =
    let q = none_of_err _ _ _ (sym c.ok_or.ensures.value ∙ c.in_err-op.was) in
    ap (λ r. command_as r c.args.place.now) (passed_on c.from_residual.result _ c.from_residual.ensures.1 ∙ ap Err q.1)
    ∙ no_op _ _ _ (sym c.op_at.ensures ∙ q.0) c.if-listing-place.false

-- the place behind the op line
behind : (c : After-line) → Placed c.args.listing.now (c.args.place.now.at + length c.line.result.now) (c.args.place.now.line + 1)
behind c =
    let found = some_of_ok _ _ _ (sym c.ok_or.ensures.value ∙ c.in_ok-op.was) in
    behind_op _ _ _ _ _ c.line.ensures c.requires (try_found _ _ 0 ops _ (sym c.op_at.ensures ∙ found)).0

pub overflow_add-place : goal.overflow_add-place
overflow_add-place c = omega (arith, (behind c).inside)

pub overflow_add-place-2 : goal.overflow_add-place-2
overflow_add-place-2 c = omega (arith, c.requires.inside, c.requires.counted)

pub call_at-requires : goal.call_at-requires
call_at-requires c = behind (goal.at.call_at-requires c).After-line

-- what is read behind the op line is the command
command : (c : After-call_at) → call_as c.call_at.result c.call_at.new.place ≡ command_at c.args.listing.now c.args.place.now.at c.args.place.now.line
command c =
    let found = some_of_ok _ _ _ (sym c.ok_or.ensures.value ∙ c.in_ok-op.was) in
    c.call_at.ensures ∙ of_op _ _ _ _ _ (sym c.op_at.ensures ∙ found) c.line.ensures c.if-listing-place.false

pub returns-in_err-call : goal.returns-in_err-call
returns-in_err-call c =
    ap (λ r. command_as r c.call_at.new.place) (passed_on c.from_residual-in_err-call.result _ c.from_residual-in_err-call.ensures.1)
    ∙ sym (ap (λ r. call_as r c.call_at.new.place) c.in_err-call.was)
    ∙ command (goal.at.returns-in_err-call c).After-call_at

pub returns : goal.returns
returns c = sym (ap (λ r. call_as r c.call_at.new.place) c.in_ok-call.was) ∙ command (goal.at.returns c).After-call_at
