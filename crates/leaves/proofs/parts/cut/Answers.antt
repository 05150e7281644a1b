-- `leaves::parts::cut` meets its contract. Assumes nothing.
use mathlib.Core.Path.{◌≡◌, sym, ap, ◌∙◌}
use mathlib.Core.Logic.{inl, inr, ⊎_elim}
use Prim.Native.Nat.{ℕ, suc, ◌+◌, ◌-◌, ◌*◌, ◌/◌, ◌%◌, ◌^◌, ◌≤◌, ◌<◌}
use native.Mathlib.Nat.{one-mul, mod-eq_of_lt, lt_of_le_of_lt, le_trans, le_of_eq}
use native.Mathlib.Omega.{arith}
use lib.Dec.{lit<}
use lib.Pow.{pow-add, pow_pos, pow_mono}
use lib.Ieee.{binary32, units}
use Rattle.rounding.specs.Halves.{halve}
use Rattle.rounding.proofs.Halves.{halve_le, halve_ge, halve_adds}
use Rattle.leaves.proofs.parts.cut.Goals as goal

-- ---- the half that is added
module _ (d : ℕ) (D : d < 63) where
  half_le : 2 ^ d ≤ 2 ^ 62
  half_le = pow_mono (less d D)
    where
      less : (d : ℕ) → d < 63 → d ≤ 62
      less d h = omega arith

  half_is : 1 * 2 ^ d % 2 ^ 64 ≡ 2 ^ d
  half_is = ap (λ (x : ℕ). x % 2 ^ 64) (one-mul (2 ^ d)) ∙ mod-eq_of_lt (lt_of_le_of_lt half_le (lit< tt))

  more : 1 ≤ 1 * 2 ^ d % 2 ^ 64
  more = le_trans (pow_pos d) (le_of_eq (sym half_is))

  module _ (w : ℕ) (W : w < 2 ^ 62) where
    first : w + (1 * 2 ^ d % 2 ^ 64 - 1) < 2 ^ 64
    first = room w (1 * 2 ^ d % 2 ^ 64) W (le_trans (le_of_eq half_is) half_le)
      where
        room : (w x : ℕ) → w < 4611686018427387904 → x ≤ 4611686018427387904 → w + (x - 1) < 18446744073709551616
        room w x h k = omega arith

    second : (u : ℕ) → u < 2 → w + (1 * 2 ^ d % 2 ^ 64 - 1) + u < 2 ^ 64
    second u U = room w (1 * 2 ^ d % 2 ^ 64) u W (le_trans (le_of_eq half_is) half_le) U
      where
        room : (w x u : ℕ) → w < 4611686018427387904 → x ≤ 4611686018427387904 → u < 2 → w + (x - 1) + u < 18446744073709551616
        room w x u h k l = omega arith

    q_is : (w + (1 * 2 ^ d % 2 ^ 64 - 1) + w / 2 ^ d / 2 % 2) / 2 ^ (d + 1) ≡ halve (w / 2 ^ d) (w % 2 ^ d)
    q_is =
        ap (λ (x : ℕ). (w + (x - 1) + w / 2 ^ d / 2 % 2) / 2 ^ (d + 1)) half_is
        ∙ ap (λ (x : ℕ). (w + (2 ^ d - 1) + w / 2 ^ d / 2 % 2) / x) (pow-add 2 d 1)
        ∙ halve_adds w (2 ^ d) (pow_pos d)

at_most : (h q : ℕ) → h < 33554432 → q ≤ suc (h / 2) → q ≤ 16777216
at_most h q a b = omega arith

at_least : (h q : ℕ) → 16777216 ≤ h → h / 2 ≤ q → 8388608 ≤ q
at_least h q a b = omega arith

pub join-requires : goal.join-requires
join-requires c =
    let a = c.args in
    let h = a.w / 2 ^ a.d in
    let r = a.w % 2 ^ a.d in
    let e = q_is a.d c.requires.d_bound a.w c.requires.w_bound in record { q_bound = le_trans (le_of_eq e) (at_most h (halve h r) c.requires.cut_bound (halve_le h r)); k_bound = c.requires.k_bound; normal = ⊎_elim (λ z. inl z) (λ l. inr (le_trans (at_least h (halve h r) l (halve_ge h r)) (le_of_eq (sym e)))) c.requires.normal }

pub returns : goal.returns
returns c =
    let a = c.args in
    c.join.ensures ∙ ap (λ (q : ℕ). units binary32 a.s q a.k) (q_is a.d c.requires.d_bound a.w c.requires.w_bound)
