-- `leaves::cutting::pieces` meets its contract. Assumes nothing.
use mathlib.Core.Path.{◌≡◌, ap, ap₂, ◌∙◌}
use Prim.Native.Nat.{ℕ, max}
use native.Mathlib.Omega.{arith}
use lib.Ieee.{Float}
use Rattle.leaves.specs.Single.{◌⊗◌, one32}
use Rattle.leaves.specs.Small.{max_of}
use Rattle.leaves.specs.Whole.{whole_up_of}
use Rattle.leaves.specs.Sixth.{sixth_root_of}
use Rattle.leaves.specs.Pieces.{pieces_of}
use Rattle.leaves.proofs.cutting.pieces.Goals as goal

ordered : (n : ℕ) → max n 1 ≡ max 1 n
ordered n = omega arith

count : (q w1 w2 r m k : Float) (n : ℕ) → r ≡ sixth_root_of q → m ≡ max_of w1 w2 → k ≡ max_of m one32 → n ≡ whole_up_of (r ⊗ k) → max 1 n ≡ pieces_of q w1 w2
unfolding pieces_of
count q w1 w2 r m k n a b d e = ap (λ (x : ℕ). max 1 x) (e ∙ ap₂ (λ (x y : Float). whole_up_of (x ⊗ y)) a (d ∙ ap (λ (x : Float). max_of x one32) b))

pub returns : goal.returns
returns c =
    let a = c.args in
    c.max-3.ensures ∙ ordered c.whole_up-n.result
    ∙ count a.q a.w1 a.w2 c.sixth_root.result c.max.result c.max-2.result
    c.whole_up-n.result
    c.sixth_root.ensures c.max.ensures c.max-2.ensures c.whole_up-n.ensures
