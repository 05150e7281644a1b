-- What is given for a vector beside what the list has for it. Assumes nothing.
use Rattle.std.specs.Prelude.{ℕ, cond, ◌==◌}
use Rattle.replay.specs.declared.vectors.Check.{Check}

abbrev pub compared : ℕ → ℕ → Check
compared got want = record { got = got; want = want; agrees = got == want }

-- the first of two that does not agree
abbrev pub first_of : Check → Check → Check
first_of a b = cond a.agrees b a
