-- Decimal numbers read from their digits, a minus sign before them or none. Any other byte is read as if it were a digit: only what is printed is read. Assumes nothing.
use Rattle.std.specs.Prelude.{ℕ, ◌+◌, ◌-◌, ◌*◌, cond, List, [], ◌∷◌, ℤ, pos, neg_ℤ, eqb}

-- the number that n becomes when these digits are written after its own
unfoldable pub decimal_number : ℕ → List ℕ → ℕ
decimal_number n [] = n
decimal_number n (b ∷ bs) = decimal_number (10 * n + (b - 0x30)) bs

unfoldable pub signed_number : List ℕ → ℤ
signed_number [] = pos 0
signed_number (b ∷ bs) = cond (eqb b 0x2d) (neg_ℤ (pos (decimal_number 0 bs))) (pos (decimal_number 0 (b ∷ bs)))

-- the bytes before the first that equals b, and those after it
unfoldable pub up_to : ℕ → List ℕ → List ℕ
up_to b [] = []
up_to b (c ∷ cs) = cond (eqb c b) [] (c ∷ up_to b cs)

unfoldable pub past : ℕ → List ℕ → List ℕ
past b [] = []
past b (c ∷ cs) = cond (eqb c b) cs (past b cs)
