-- `listing::read` meets its contract: the steps that are left give what all of them give, and more steps than bytes are left. Assumes nothing.
use Rattle.std.proofs.Common.{◌≡◌, ℕ, ◌+◌, ◌-◌, ◌≤◌, length}
use Rattle.answer.specs.Answer.{Done}
use Rattle.store.specs.Drawing.{outcome}
use Rattle.store.specs.Lent.{store_columns, SameColumns}
use Rattle.listing.specs.Reading.{Placed, going, steps_of, read_of}
use Rattle.listing.proofs.reading.read.Given as goal

abbrev pub invariant-loop-call : goal.invariant-loop-call
invariant-loop-call l = record {
  steps : (n : ℕ)
      × (steps_of n l.listing (going l.place.at l.place.line (outcome Done l.store.state (store_columns l.store))) ≡ read_of l.listing (outcome Done l.initial.store.state (store_columns l.initial.store)))
      × (length l.listing + 1 ≤ n + l.place.at);
  placed : Placed l.listing l.place.at l.place.line;
  op_line : l.op_line ≡ l.place.line;
  same : SameColumns l.initial.store l.store;
}

abbrev pub decreases-loop-call : goal.decreases-loop-call
decreases-loop-call l = length l.listing - l.place.at
