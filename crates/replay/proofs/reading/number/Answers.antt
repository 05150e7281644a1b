-- `replay::number` meets its contract: it reads what one number takes. Assumes nothing.
use Rattle.std.proofs.Common.{ap, ◌∙◌}
use Rattle.std.specs.Option.{unwrap_or}
use Rattle.replay.proofs.Taken.{taken, taken-rest, taken-number}
use Rattle.replay.proofs.reading.number.Goals as goal

pub returns-clause-value : goal.returns-clause-value
returns-clause-value g c =
    taken-number _ _ _ _ (taken 9 _ _ _ _ c.read_full.auto.buf c.in_ok-n.ensures.bound c.in_ok-n.ensures.bytes c.in_ok-n.ensures.end)
    (c.unwrap_or.ensures ∙ ap (λ o. unwrap_or o 0) c.hex_at.ensures)

pub returns-clause-rest : goal.returns-clause-rest
returns-clause-rest g c =
    taken-rest 9 _ _ _ (taken 9 c.in_ok-n.n _ _ _ c.read_full.auto.buf c.in_ok-n.ensures.bound c.in_ok-n.ensures.bytes c.in_ok-n.ensures.end)
