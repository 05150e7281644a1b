-- `text::put_hex` meets its contract. Assumes nothing.
use mathlib.Core.Path.{ap, ◌∙◌}
use lib.Seq.{sets}
use Rattle.text.specs.Hex.{hex_of, hex_digits}
use Rattle.text.proofs.Bases.{in_hex}
use Rattle.text.proofs.hex.put_hex.Goals as goal

pub returns : goal.returns
unfolding hex_of
returns c = c.put_digits.ensures ∙ ap (sets c.args.buffer.now c.args.at) (in_hex 8 _ ∙ ap (hex_digits 8) c.from.ensures)
