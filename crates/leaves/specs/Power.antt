-- A number in a list of four limbs, the lowest first: 32 digits in each of three, and the rest in the top one. Scaffolding for the sixth root: only contracts of
-- private functions in src/power.rt name it, and no promise rests on it. Assumes nothing.
use Rattle.std.specs.Prelude.{◌≡◌, List, ℕ, ◌+◌, ◌*◌, ◌^◌, ◌<◌, get_or, length}

unfoldable pub whole : ℕ → ℕ → ℕ → ℕ → ℕ
whole a b c d = a + (b + (c + d * 2 ^ 32) * 2 ^ 32) * 2 ^ 32

abbrev pub number : List ℕ → ℕ
number p = whole (get_or p 0 0) (get_or p 1 0) (get_or p 2 0) (get_or p 3 0)

pub record Limbs (p : List ℕ) : Type 0 where
  pub size : length p ≡ 4
  pub a_lt : get_or p 0 0 < 2 ^ 32
  pub b_lt : get_or p 1 0 < 2 ^ 32
  pub c_lt : get_or p 2 0 < 2 ^ 32
