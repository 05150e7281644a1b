-- A statement about every entry of a list. Assumes nothing.
use Rattle.std.specs.Prelude.{List, [], ◌∷◌}

-- P holds of each
abbrev pub All : {A : Type 0} → (A → Type 0) → List A → Type 0
All P [] = Unit {0}
All P (a ∷ rest) = P a × All P rest
