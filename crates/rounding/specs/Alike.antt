-- N and M are alike at 2 ^ t: equal, or strictly between the same two multiples of 2 ^ t. So a sticky last digit may replace all the digits that were lost.
-- Scaffolding: only proofs, and contracts of private functions of `leaves`, name it; no promise rests on it. Assumes nothing.
use Rattle.std.specs.Prelude.{◌≡◌, ◌⊎◌, ℕ, ◌+◌, ◌*◌, ◌^◌, ◌<◌}

abbrev pub Between : ℕ → ℕ → ℕ → Type 0
Between u j N = (j * u < N) × (N < j * u + u)

abbrev pub Alike : ℕ → ℕ → ℕ → Type 0
Alike t N M = (N ≡ M) ⊎ ((j : ℕ) × Between (2 ^ t) j N × Between (2 ^ t) j M)
