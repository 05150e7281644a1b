-- Scaffolding: the digits that a private function writes, in any base up to 16. Assumes nothing.
use Rattle.std.specs.Prelude.{ℕ, zero, suc, ◌/◌, ◌%◌, List, [], ◌∷◌, ◌++◌}
use Rattle.text.specs.Hex.{hex_digit_of}

-- the k lowest digits of n, the highest first
unfoldable pub digits_of : ℕ → ℕ → ℕ → List ℕ
digits_of base zero n = []
digits_of base (suc k) n = digits_of base k (n / base) ++ (hex_digit_of (n % base) ∷ [])
