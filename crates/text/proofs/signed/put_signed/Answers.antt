-- `text::put_signed` meets its contract: the sign, then the digits after it. Assumes nothing.
use mathlib.Core.Path.{◌≡◌, sym, ap, ◌∙◌}
use mathlib.Core.List.{List, ◌∷◌}
use Prim.Native.Nat.{ℕ, suc, ◌+◌}
use native.Mathlib.Nat.{add-zero}
use native.Mathlib.Numerals.{add-one}
use native.Mathlib.Omega.{arith}
use lib.IntN.{ℤ, nat_abs, negsuc}
use lib.Signed.{mag}
use lib.ListN.{length, set}
use lib.Seq.{sets}
use Rattle.text.specs.Decimal.{decimal_of}
use Rattle.text.specs.Signed.{signed_of}
use Rattle.text.proofs.Decimals.{decimal_short}
use Rattle.text.proofs.Stores.{sets_out}
use Rattle.text.proofs.Minus.{back, below_zero, not_below, minus_digits, plain_digits}
use Rattle.text.proofs.signed.put_signed.Goals as goal

-- the sign stored at a place, and the digits from the next place on
signed_stored : (z : ℤ) (b b' b'' : List ℕ) (at m r : ℕ) → z ≡ negsuc (mag z) → m ≡ nat_abs z → b' ≡ set b (at + 0) 0x2d → r ≡ length (decimal_of m)
    → b'' ≡ sets b' (at + 1) (decimal_of m) → (r + 1 ≡ length (signed_of z)) × (b'' ≡ sets b at (signed_of z))
signed_stored z b b' b'' at m r e em h k l = (
  omega (arith, k, ap (λ (n : ℕ). length (decimal_of n)) em, ap length (minus_digits z e)),
  l
      ∙ ap (λ (n : ℕ). sets b' n (decimal_of m)) (add-one at)
      ∙ ap (λ (x : List ℕ). sets x (suc at) (decimal_of m)) (h ∙ ap (λ (n : ℕ). set b n 0x2d) (add-zero at))
      ∙ ap (λ (n : ℕ). sets b at (0x2d ∷ decimal_of n)) em
      ∙ ap (sets b at) (minus_digits z e),
)

pub returns-then-at-buffer : goal.returns-then-at-buffer
returns-then-at-buffer c =
    (c.signed_length.ensures ∙ ap (λ (z : ℤ). length (signed_of z)) (back c.args.n c.ranges.n), sym (sets_out c.args.buffer.now c.args.at (signed_of c.args.n) c.if-at-buffer.true))

pub overflow_add-result : goal.overflow_add-result
overflow_add-result c = record { fits = omega (arith, c.put_decimal-digits.ensures.0, decimal_short c.unsigned_abs.result) }

pub returns-then-n-lt0 : goal.returns-then-n-lt0
returns-then-n-lt0 c =
    let n = c.args.n in
    signed_stored n _ _ _ _ _ _ (below_zero n c.ranges.n c.if-n-lt0.true)
    (c.unsigned_abs.ensures.value ∙ ap nat_abs (back n c.ranges.n)) c.put_byte.ensures c.put_decimal-digits.ensures.0
    c.put_decimal-digits.ensures.1

pub returns : goal.returns
returns c =
    let n = c.args.n in
    let e = c.unsigned_abs-2.ensures.value ∙ ap nat_abs (back n c.ranges.n) in
    let k = plain_digits n (not_below n c.ranges.n c.if-n-lt0.false) in (
      c.put_decimal.ensures.0 ∙ ap (λ (m : ℕ). length (decimal_of m)) e ∙ ap length k,
      c.put_decimal.ensures.1
          ∙ ap (λ (m : ℕ). sets c.args.buffer.now c.args.at (decimal_of m)) e
          ∙ ap (sets c.args.buffer.now c.args.at) k,
    )
