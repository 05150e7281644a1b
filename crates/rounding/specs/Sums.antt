-- The sum of a and b with the signs s and t, as IEEE 754 has it: its sign, where exact cancelling gives +0, and its size. Scaffolding: only proofs, and
-- contracts of private functions of `leaves`, name it; no promise rests on it. Assumes nothing.
use Rattle.std.specs.Prelude.{Bool, ◌&&◌, cond, ℕ, ◌+◌, ◌-◌, ltb}
use Rattle.std.specs.Bool.{beq}

unfoldable pub sum_sign : Bool → ℕ → Bool → ℕ → Bool
sum_sign s a t b = cond (beq s t) s (cond (ltb a b) t (s && ltb b a))

unfoldable pub sum_size : Bool → ℕ → Bool → ℕ → ℕ
sum_size s a t b = cond (beq s t) (a + b) (cond (ltb a b) (b - a) (a - b))
