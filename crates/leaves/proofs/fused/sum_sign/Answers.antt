-- `leaves::fused::sum_sign` meets its contract: it needs no test of the signs, which are alike or not. Assumes nothing.
use mathlib.Core.Path.{◌≡◌, refl, sym, ap₂, ◌∙◌}
use mathlib.Core.Bool.{Bool, true, false, ◌&&◌, beq, cond}
use Prim.Native.Nat.{ℕ}
use borrow.Author.Tests.{lt-ltb, le-ltb}
use lib.Dec.{ltb}
use Rattle.rounding.specs.Sums.{sum_sign}
use Rattle.leaves.proofs.fused.sum_sign.Goals as goal

-- `sum_sign` by the outcomes of its two comparisons
by_order : (s t : Bool) (x y : ℕ) (l g : Bool) → ltb x y ≡ l → ltb y x ≡ g → cond (beq s t) s (cond l t (s && g)) ≡ sum_sign s x t y
unfolding sum_sign
by_order s t x y l g h k = sym (ap₂ (λ (i j : Bool). cond (beq s t) s (cond i t (s && j))) h k)

less : (s t g : Bool) → t ≡ cond (beq s t) s (cond true t (s && g))
less true true g = refl
less true false g = refl
less false true g = refl
less false false g = refl

more : (s t : Bool) → s ≡ cond (beq s t) s (cond false t (s && true))
more true true = refl
more true false = refl
more false true = refl
more false false = refl

level : (s t : Bool) → (s && t) ≡ cond (beq s t) s (cond false t (s && false))
level true true = refl
level true false = refl
level false true = refl
level false false = refl

pub returns-then-x-y : goal.returns-then-x-y
returns-then-x-y c =
    let a = c.args in
    less a.s a.t (ltb a.y a.x) ∙ by_order a.s a.t a.x a.y true (ltb a.y a.x) (lt-ltb a.x a.y c.if-x-y.true) refl

pub returns-then-y-x : goal.returns-then-y-x
returns-then-y-x c =
    let a = c.args in
    more a.s a.t ∙ by_order a.s a.t a.x a.y false true (le-ltb a.x a.y c.if-x-y.false) (lt-ltb a.y a.x c.if-y-x.true)

pub returns : goal.returns
returns c =
    let a = c.args in
    level a.s a.t ∙ by_order a.s a.t a.x a.y false false (le-ltb a.x a.y c.if-x-y.false) (le-ltb a.y a.x c.if-y-x.false)
