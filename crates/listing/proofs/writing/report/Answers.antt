-- `listing::report` meets its contract: the head and 28 bytes for each point, if they fit. Assumes nothing.
use native.Mathlib.Omega.{arith}
use lib.ListN.{length}
use Rattle.text.proofs.Decimals.{decimal_short}
use Rattle.listing.proofs.WritingLaws.{head_length_is, report_short, report_bytes}
use Rattle.listing.proofs.writing.report.Goals as goal

pub overflow_add-needed : goal.overflow_add-needed
overflow_add-needed c = omega (arith, head_length_is 0 0 (length c.args.points.now.x.now), decimal_short 0, decimal_short (length c.args.points.now.x.now), c.head_length-head.ensures, c.requires)

pub returns-then-output-needed : goal.returns-then-output-needed
returns-then-output-needed c = report_short _ _ _ _ _ _ c.head_length-head.ensures c.if-output-needed.true

pub returns : goal.returns
returns c = report_bytes _ _ _ _ _ _ _ _ _ c.head_length-head.ensures c.if-output-needed.false c.put_head-at.ensures c.put_points.ensures
