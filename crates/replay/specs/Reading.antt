-- What a list of numbers says, byte by byte: a number takes nine bytes, eight lowercase hex digits and one more. Assumes nothing.
use Rattle.std.specs.Prelude.{ℕ, zero, suc, Bool, true, ◌&&◌, List, unwrap_or, ◌==◌, slice_index, take, drop}
use Rattle.text.specs.Hex.{hex_at_of}

-- the number that stands first; 0 where none does
unfoldable pub number_in : List ℕ → ℕ
number_in bytes = unwrap_or (hex_at_of (take 9 bytes) 0) 0

-- the next n numbers are those from a place on
unfoldable pub followed_by : ℕ → ℕ → List ℕ → List ℕ → Bool
followed_by zero at numbers bytes = true
followed_by (suc n) at numbers bytes = slice_index numbers at == number_in bytes && followed_by n (suc at) numbers (drop 9 bytes)
