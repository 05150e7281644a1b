-- `walk::size` meets its contract: a count up to 65,537 is an f32. Assumes nothing.
use Prim.Native.Nat.{ℕ, ◌≤◌}
use mathlib.Core.Path.{sym, subst}
use Rattle.walk.proofs.Lengths.{whole_up_bound, small_exact}
use Rattle.walk.proofs.size.Goals as goal

pub int_to_float-result : goal.int_to_float-result
int_to_float-result c = small_exact _ (subst (λ (n : ℕ). n ≤ 65537) (sym c.whole_up.ensures) (whole_up_bound _))
