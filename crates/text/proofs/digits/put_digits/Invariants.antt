-- `text::put_digits` meets its contract: the digits left are those of what is left of the number. Assumes nothing.
use mathlib.Core.Path.{◌≡◌}
use lib.Seq.{sets}
use Rattle.text.specs.Digits.{digits_of}
use Rattle.text.proofs.digits.put_digits.Given as goal

abbrev pub invariant-loop-left : goal.invariant-loop-left
invariant-loop-left g l = sets l.initial.buffer l.at (digits_of g.row.BASE l.count l.n) ≡ sets l.buffer l.at (digits_of g.row.BASE l.left l.rest)
