-- `text::hex_at` meets its contract: the digits that are left come after those whose number is n. Assumes nothing.
use mathlib.Core.Path.{◌≡◌, sym, ap, ◌∙◌}
use mathlib.Core.List.{List}
use Prim.Native.Nat.{ℕ, ◌+◌, ◌-◌, ◌*◌, ◌^◌, ◌≤◌, ◌<◌}
use native.Mathlib.Nat.{pow-le-pow_right, le_refl}
use native.Mathlib.Omega.{arith}
use Rattle.std.specs.Prelude.{Some}
use Rattle.std.proofs.lemmas.Slice.{between_to_end}
use lib.ListN.{length-drop, drop}
use Rattle.text.specs.Hex.{hex_at_of}
use Rattle.text.proofs.Hexes.{digits_in, digits_none, digits_all, digits_short, digit_on, digit_off, value_small, one_more}
use Rattle.text.proofs.hex.hex_at.Goals as goal

all : (text digits : List ℕ) (at i n : ℕ) → 8 ≤ i → hex_at_of text at ≡ digits_in (drop i digits) (8 - i) n → Some n ≡ hex_at_of text at
all text digits at i n h whole =
    let k : 8 - i ≡ 0 = omega arith in
    sym (whole ∙ ap (λ (m : ℕ). digits_in (drop i digits) m n) k ∙ digits_none (drop i digits) n)

-- a number of i digits below eight takes one digit more
room : (i n v : ℕ) → i < 8 → n < 16 ^ i → v < 16 → 16 * n + v < 2 ^ 32
room i n v h g t =
    let small : 16 * n + v < 16 ^ (i + 1) = one_more i n v g t in
    let le : 16 ^ (i + 1) ≤ 16 ^ 8 = pow-le-pow_right (let z : 0 < 16 = omega arith in z) (let z : i + 1 ≤ 8 = omega arith in z) in
    omega arith

pub returns-in_err-get : goal.returns-in_err-get
returns-in_err-get c = c.from_residual.ensures ∙ sym (digits_short _ _ (omega (arith, length-drop c.args.at c.args.text.now, c.in_err-get.ensures.lookup.0)))

pub returns-in_err-digits : goal.returns-in_err-digits
returns-in_err-digits c =
    c.from_residual-in_err-digits.ensures ∙ sym (digits_short _ _ (omega (arith, length-drop c.args.at c.args.text.now, c.in_ok-get.ensures.lookup.0.3, c.in_err-digits.ensures.cases)))

pub loop-b-init : goal.loop-b-init
loop-b-init c = record {
  short = omega arith;
  whole = digits_all _ _ _ _ (c.in_ok-get.ensures.lookup.0.2 ∙ between_to_end c.args.text.now c.args.at _ (le_refl _)) c.in_ok-digits.ensures.cases.same;
}

pub overflow_mul-n : goal.overflow_mul-n
overflow_mul-n c = let r = room _ _ 0 c.loop-b-test.true c.loop-b.invariant.short (omega arith) in record { fits = omega arith }

pub returns-in_err-n : goal.returns-in_err-n
returns-in_err-n c = c.from_residual-in_err-n.ensures ∙ sym (c.loop-b.invariant.whole ∙ digit_off _ _ _ c.loop-b-test.true c.in_err-n.ensures)

pub overflow_add-n : goal.overflow_add-n
overflow_add-n c = let r = room _ _ _ c.loop-b-test.true c.loop-b.invariant.short (value_small _ _ c.in_ok-n.ensures) in record { fits = omega arith }

pub loop-b-preserved : goal.loop-b-preserved
loop-b-preserved c = record {
  short = one_more _ _ _ c.loop-b.invariant.short (value_small _ _ c.in_ok-n.ensures);
  whole = c.loop-b.invariant.whole ∙ digit_on _ _ _ c.loop-b-test.true _ c.in_ok-n.ensures;
}

pub returns : goal.returns
returns c = all _ _ _ _ _ c.loop-b-test.false c.loop-b.invariant.whole
