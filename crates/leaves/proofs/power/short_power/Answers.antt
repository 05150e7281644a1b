-- `leaves::power::short_power` meets its contract: a number of ten digits has a sixth power of sixty. Assumes nothing.
use mathlib.Core.Path.{◌≡◌, sym, ap, ap₂, ◌∙◌}
use Prim.Native.Nat.{ℕ, ◌*◌, ◌^◌, ◌≤◌, ◌<◌}
use native.Mathlib.Nat.{mul-le-mul, lt_of_le_of_lt, pow-zero, pow-suc, one-mul, le_of_lt}
use lib.Dec.{lit<}
use lib.Pow.{pow-add}
use Rattle.rounding.proofs.Basics.{mul_pow}
use Rattle.leaves.proofs.LimbLaws.{short_is}
use Rattle.leaves.proofs.power.short_power.Goals as goal

square : (s : ℕ) → s < 1024 → s * s ≤ 1024 * 1024
square s h = mul-le-mul (le_of_lt h) (le_of_lt h)

cube : (s : ℕ) → s < 1024 → s * s * s ≤ 1024 * 1024 * 1024
cube s h = mul-le-mul (square s h) (le_of_lt h)

sixth : (s : ℕ) → s * s * s * (s * s * s) ≡ s ^ 6
sixth s = ap₂ (λ (x y : ℕ). x * y) third third ∙ sym (pow-add s 3 3)
  where
    third : s * s * s ≡ s ^ 3
    third = sym (pow-suc s 2 ∙ ap (λ (x : ℕ). x * s) (pow-suc s 1 ∙ ap (λ (x : ℕ). x * s) (pow-suc s 0 ∙ ap (λ (x : ℕ). x * s) (pow-zero s) ∙ one-mul s)))

pub overflow_mul-x : goal.overflow_mul-x
overflow_mul-x c = let l = cube c.args.h c.requires.h_bound in record { fits = lt_of_le_of_lt (mul-le-mul l l) (lit< tt) }

pub returns : goal.returns
returns c =
    let a = c.args in
    let s = a.h * a.h * a.h in
    short_is a.p.now (s * s) ((a.h * 2 ^ 14) ^ 6) c.told-p
    (ap (λ (x : ℕ). x * 2 ^ 84) (sixth a.h) ∙ sym (mul_pow a.h (2 ^ 14) 6))
