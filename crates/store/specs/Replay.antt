-- RULES, The store 12: a list of drawing calls on a store. A refused call changes nothing, and the next one is still made. Assumes nothing.
use Rattle.std.specs.Prelude.{List, [], ◌∷◌}
use Rattle.store.specs.declared.Call.{Call}
use Rattle.store.specs.Drawing.{Outcome, draw_of}

-- the outcome of the last call, or o where there is none
unfoldable pub replay_of : List Call → Outcome → Outcome
replay_of [] o = o
replay_of (call ∷ calls) o = replay_of calls (draw_of call o.state o.columns)
