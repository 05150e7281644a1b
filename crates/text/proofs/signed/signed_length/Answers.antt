-- `text::signed_length` meets its contract. Assumes nothing.
use mathlib.Core.Path.{ap, ◌∙◌}
use Prim.Native.Nat.{ℕ}
use native.Mathlib.Omega.{arith}
use lib.IntN.{nat_abs}
use lib.ListN.{length}
use Rattle.text.specs.Decimal.{decimal_of}
use Rattle.text.proofs.Decimals.{decimal_short}
use Rattle.text.proofs.Minus.{back, below_zero, not_below, minus_digits, plain_digits}
use Rattle.text.proofs.signed.signed_length.Goals as goal

pub overflow_add-result : goal.overflow_add-result
overflow_add-result c = record { fits = omega (arith, c.decimal_length-digits.ensures, decimal_short c.unsigned_abs.result) }

pub returns-then-n-lt0 : goal.returns-then-n-lt0
returns-then-n-lt0 c =
    let n = c.args.n in
    omega (
      arith,
      c.decimal_length-digits.ensures,
      ap (λ (m : ℕ). length (decimal_of m)) (c.unsigned_abs.ensures.value ∙ ap nat_abs (back n c.ranges.n)),
      ap length (minus_digits n (below_zero n c.ranges.n c.if-n-lt0.true)),
    )

pub returns : goal.returns
returns c =
    let n = c.args.n in
    c.decimal_length-digits.ensures
    ∙ ap (λ (m : ℕ). length (decimal_of m)) (c.unsigned_abs.ensures.value ∙ ap nat_abs (back n c.ranges.n))
    ∙ ap length (plain_digits n (not_below n c.ranges.n c.if-n-lt0.false))
