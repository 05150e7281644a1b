-- `text::put_decimal` meets its contract. Assumes nothing.
use mathlib.Core.Path.{ap, sym, ◌∙◌}
use Prim.Native.Nat.{ℕ, ◌+◌}
use lib.ListN.{length, set}
use lib.Seq.{sets}
use native.Mathlib.Omega.{arith}
use Rattle.std.proofs.Common.{add-zero}
use Rattle.text.proofs.Bases.{in_decimal}
use Rattle.text.proofs.Decimals.{one_digit}
use Rattle.text.proofs.decimal.put_decimal.Goals as goal

pub returns-then-n-lt10 : goal.returns-then-n-lt10
returns-then-n-lt10 c =
    let one = one_digit c.args.n (omega arith) in (
      sym (ap length one),
      c.put_byte.ensures ∙ ap (λ (i : ℕ). set c.args.buffer.now i (0x30 + c.args.n)) (add-zero c.args.at) ∙ sym (ap (sets c.args.buffer.now c.args.at) one),
    )

pub returns : goal.returns
returns c = (c.decimal_length-count.ensures, c.put_digits.ensures ∙ ap (sets c.args.buffer.now c.args.at) (in_decimal _ _ (omega arith) (sym c.decimal_length-count.ensures)))
