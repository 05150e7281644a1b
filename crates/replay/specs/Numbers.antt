-- Columns laid out as numbers in one list. Past the end a list has 0, and nothing is written. Assumes nothing.
use Rattle.std.specs.Prelude.{ℕ, zero, suc, min, List, [], ◌∷◌, slice_set}

-- the first n entries of a column, each as its number, from a place on
unfoldable pub laid : {A : Type 0} → (A → ℕ) → ℕ → ℕ → List A → List ℕ → List ℕ
laid number zero at column numbers = numbers
laid number (suc n) at [] numbers = numbers
laid number (suc n) at (v ∷ column) numbers = laid number n (suc at) column (slice_set numbers at (number v))

-- the number of an entry that is one
unfoldable pub itself : ℕ → ℕ
itself n = n

-- the number of a size: the largest u32 for one that does not fit
unfoldable pub capped_of : ℕ → ℕ
capped_of n = min n 0xffff_ffff
