-- What it is to write bytes into a buffer from a place on. Assumes nothing.
use Rattle.std.specs.Prelude.{ℕ, ◌+◌, ◌≡◌, List, length}
use Rattle.std.proofs.lemmas.List.Edits.{sets}

-- these bytes are written from a place on, and the number that is given back is the place after them
pub record WrittenAs (text before : List ℕ) (at : ℕ) (after : List ℕ) (behind : ℕ) : Type 0 where
  pub stored : after ≡ sets before at text
  pub next : behind ≡ at + length text
