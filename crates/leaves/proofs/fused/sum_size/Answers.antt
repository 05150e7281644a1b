-- `leaves::fused::sum_size` meets its contract. Assumes nothing.
use mathlib.Core.Path.{◌≡◌, refl, sym, ap, ◌∙◌}
use mathlib.Core.Bool.{Bool, true, false, beq, cond}
use Prim.Native.Nat.{ℕ, ◌+◌, ◌-◌}
use native.Mathlib.Omega.{arith}
use borrow.Author.Tests.{ltb-true, ltb-false}
use lib.Dec.{ltb}
use Rattle.std.specs.Int.{abs_diff}
use Rattle.rounding.specs.Sums.{sum_size}
use Rattle.leaves.proofs.fused.sum_size.Goals as goal

-- how far x and y lie apart
apart : (x y : ℕ) → abs_diff x y ≡ cond (ltb x y) (y - x) (x - y)
apart x y = by (ltb x y) refl
  where
    by : (b : Bool) → ltb x y ≡ b → abs_diff x y ≡ cond b (y - x) (x - y)
    by true e = let l = ltb-true x y e in omega arith
    by false e = let l = ltb-false x y e in omega arith

-- `sum_size` by whether the signs are alike
by_signs : (s t : Bool) (x y : ℕ) (e : Bool) → beq s t ≡ e → cond e (x + y) (cond (ltb x y) (y - x) (x - y)) ≡ sum_size s x t y
unfolding sum_size
by_signs s t x y e h = sym (ap (λ (i : Bool). cond i (x + y) (cond (ltb x y) (y - x) (x - y))) h)

pub returns-then-s-t : goal.returns-then-s-t
returns-then-s-t c = let a = c.args in by_signs a.s a.t a.x a.y _ c.if-s-t.true

pub returns-else-s-t : goal.returns-else-s-t
returns-else-s-t c = let a = c.args in c.abs_diff-d.ensures ∙ apart a.x a.y ∙ by_signs a.s a.t a.x a.y _ c.if-s-t.false
