-- The digits of a number in a base: their count, the hex digits, and the decimal digits. Assumes nothing.
use mathlib.Core.Path.{◌≡◌, refl, sym, ap, ap₂, ◌∙◌}
use mathlib.Core.List.{List, [], ◌∷◌, ◌++◌}
use mathlib.Core.Logic.{inl, inr}
use Prim.Native.Nat.{ℕ, zero, suc, ◌+◌, ◌/◌, ◌%◌, ◌^◌, ◌<◌}
use native.Mathlib.Nat.{mod-eq_of_lt}
use native.Mathlib.Omega.{arith}
use borrow.Author.Tests.{lt-ltb}
use lib.ListN.{length, length-append}
use Rattle.std.proofs.lemmas.Bool.{cases_lt}
use Rattle.text.specs.Hex.{hex_digit_of, hex_digits}
use Rattle.text.specs.Decimal.{decimal_of}
use Rattle.text.specs.Digits.{digits_of}
use Rattle.text.proofs.Decimals.{one_digit, more_digits, more-length, decimal_short}

pub digits_of-length : (base k n : ℕ) → length (digits_of base k n) ≡ k
unfolding digits_of
digits_of-length base zero n = refl
digits_of-length base (suc k) n = length-append (digits_of base k (n / base)) (hex_digit_of (n % base) ∷ []) ∙ omega (arith, digits_of-length base k (n / base))

pub in_hex : (k n : ℕ) → digits_of 16 k n ≡ hex_digits k n
unfolding digits_of hex_digits
in_hex zero n = refl
in_hex (suc k) n = ap (λ (l : List ℕ). l ++ (hex_digit_of (n % 16) ∷ [])) (in_hex k (n / 16))

figure : (v : ℕ) → v < 10 → hex_digit_of v ≡ 0x30 + v
unfolding hex_digit_of
figure v h = rw (lt-ltb v 10 h)

pub in_decimal : (k n : ℕ) → n < 2 ^ 64 → length (decimal_of n) ≡ k → digits_of 10 k n ≡ decimal_of n
unfolding digits_of
in_decimal zero n h e = absurd (omega (arith, decimal_short n))
in_decimal (suc k) n h e = elim (cases_lt n 10) [
  | inl l ↦ let z : k ≡ 0 = omega (arith, ap length (one_digit n l)) in
      ap (λ (m : ℕ). digits_of 10 m (n / 10) ++ (hex_digit_of (n % 10) ∷ [])) z
      ∙ ap (λ (d : ℕ). d ∷ []) (ap hex_digit_of (mod-eq_of_lt l) ∙ figure n l)
      ∙ sym (one_digit n l)
  | inr g ↦ ap₂ (λ (l : List ℕ) (d : ℕ). l ++ (d ∷ [])) (in_decimal k (n / 10) (omega arith) (omega (arith, more-length n g h))) (figure (n % 10) (omega arith)) ∙ sym (more_digits n g h)
]
