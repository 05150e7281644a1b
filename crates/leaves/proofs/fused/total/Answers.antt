-- `leaves::fused::total` meets its contract: `sum` rounds the sum's size under its sign. Assumes nothing.
use mathlib.Core.Path.{ap₂, ◌∙◌}
use mathlib.Core.Bool.{Bool}
use Prim.Native.Nat.{ℕ, ◌*◌, ◌^◌, ◌<◌}
use native.Mathlib.Nat.{lt_of_le_of_lt, le_of_eq}
use native.Mathlib.Omega.{arith}
use lib.Dec.{lit<}
use lib.Pow.{pow_pos}
use lib.Ieee.{binary32, round}
use Rattle.rounding.proofs.Signed.{sum_scaled, sum_size_lt}
use Rattle.leaves.proofs.fused.total.Goals as goal

near : (z : ℕ) → z < 1024 → z < 4096
near z h = omega arith

pub rounded-requires : goal.rounded-requires
rounded-requires c = let a = c.args in record { m_bound = lt_of_le_of_lt (le_of_eq c.sum_size.ensures) (sum_size_lt a.s a.x a.t a.y (2 ^ 61) c.requires.x_bound c.requires.y_bound); z_bound = near a.z c.requires.z_bound; y_bound = lit< tt }

pub returns : goal.returns
returns c =
    let a = c.args in
    c.rounded.ensures
    ∙ ap₂ (λ (i : Bool) (m : ℕ). round binary32 i (m * 2 ^ a.z) (2 ^ 311)) c.sum_sign.ensures c.sum_size.ensures
    ∙ sum_scaled a.s a.x a.t a.y (2 ^ a.z) (pow_pos a.z) binary32 (2 ^ 311)
