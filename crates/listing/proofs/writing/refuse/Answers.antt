-- `listing::refuse` meets its contract: the head alone, if it fits. Assumes nothing.
use mathlib.Core.Path.{◌∙◌}
use native.Mathlib.Omega.{arith}
use Rattle.listing.specs.Writing.{head_of}
use Rattle.listing.proofs.WritingLaws.{refusal_report, listed_short, listed_bytes, listed_seen}
use Rattle.listing.proofs.writing.refuse.Goals as goal

pub returns-then-output-needed : goal.returns-then-output-needed
returns-then-output-needed c =
    listed_seen _ _ _ _ (listed_short (head_of c.from-number.result c.args.refused.line 0) c.args.output.now (omega arith))
    (refusal_report c.from-number.result _ _ (c.from-number.ensures ∙ c.from.ensures))

pub returns : goal.returns
returns c =
    listed_seen _ _ _ _
    (listed_bytes (head_of c.from-number.result c.args.refused.line 0) c.args.output.now _ _ (omega arith) c.head_length-needed.ensures c.put_head.ensures.stored)
    (refusal_report c.from-number.result _ _ (c.from-number.ensures ∙ c.from.ensures))
