-- The writes of a call that passed the tests for answers 3, 1 and 2. Scaffolding: only contracts of the store's private functions name it, and no promise rests on
-- it. Assumes nothing.
use Rattle.std.specs.Prelude.{cond}
use Rattle.answer.specs.Answer.{Done, StoreFull}
use Rattle.store.specs.declared.StoreState.{StoreState}
use Rattle.store.specs.Columns.{Columns}
use Rattle.store.specs.Drawing.{Writes, Outcome, outcome, room_of, state_after, written}

-- all of it is written, or there is no room for all of it and nothing is
unfoldable pub carried_out : Writes → StoreState → Columns → Outcome
carried_out w st c = cond (room_of w st c) (outcome Done (state_after w st) (written w st c)) (outcome StoreFull st c)
