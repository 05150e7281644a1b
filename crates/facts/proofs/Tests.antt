-- Tests that several crates compare, beyond what the kit has in mathlib.Core.Bool, mathlib.Mathlib.Data.Bool.Basic and borrow.Author.Tests. Assumes nothing.
use mathlib.Core.Path.{◌≡◌, refl}
use mathlib.Core.Bool.{Bool, true, false}
use lib.Dec.{T}
use lib.Ieee.{unlike}

-- two tests that pass alike
pub same : (a b : Bool) → (T a → T b) → (T b → T a) → a ≡ b
same true true p q = refl
same true false p q = absurd (p tt)
same false true p q = absurd (q tt)
same false false p q = refl

pub like : (s : Bool) → unlike s false ≡ s
like true = refl
like false = refl
