-- RULES, The program 4: "Numbers are eight lowercase hex digits". Assumes nothing.
use Rattle.std.specs.Prelude.{ℕ, zero, suc, ◌+◌, ◌-◌, ◌*◌, ◌/◌, ◌%◌, Bool, true, ◌&&◌, cond, List, [], ◌∷◌, ◌++◌, Option, None, Some, leb, ltb, eqb, length}
use Rattle.text.specs.Bytes.{part_at}

-- 0 to 9, then a to f
unfoldable pub hex_digit_of : ℕ → ℕ
hex_digit_of v = cond (ltb v 10) (0x30 + v) (0x57 + v)

-- the value of a lowercase hex digit; 16 for any other byte
unfoldable pub hex_value_of : ℕ → ℕ
hex_value_of b = cond (leb 0x30 b && leb b 0x39) (b - 0x30) (cond (leb 0x61 b && leb b 0x66) (b - 0x57) 16)

-- the value, where it is one
abbrev pub digit_in : ℕ → Option ℕ
digit_in v = cond (ltb v 16) (Some v) None

unfoldable pub all_hex : List ℕ → Bool
all_hex [] = true
all_hex (b ∷ bs) = ltb (hex_value_of b) 16 && all_hex bs

-- the number that n becomes when these digits are written after its own
unfoldable pub hex_number : ℕ → List ℕ → ℕ
hex_number n [] = n
hex_number n (b ∷ bs) = hex_number (16 * n + hex_value_of b) bs

-- the text has eight digits at a place; their number
unfoldable pub hex_stands_at : List ℕ → ℕ → Bool
hex_stands_at text at = eqb (length (part_at text at 8)) 8 && all_hex (part_at text at 8)

unfoldable pub hex_number_at : List ℕ → ℕ → ℕ
hex_number_at text at = hex_number 0 (part_at text at 8)

unfoldable pub hex_at_of : List ℕ → ℕ → Option ℕ
hex_at_of text at = cond (hex_stands_at text at) (Some (hex_number_at text at)) None

-- the k lowest digits of n, the highest first
unfoldable pub hex_digits : ℕ → ℕ → List ℕ
hex_digits zero n = []
hex_digits (suc k) n = hex_digits k (n / 16) ++ (hex_digit_of (n % 16) ∷ [])

unfoldable pub hex_of : ℕ → List ℕ
hex_of n = hex_digits 8 n
