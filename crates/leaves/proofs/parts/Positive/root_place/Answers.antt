-- `leaves::parts::Positive::root_place` meets its contract. Shifted left by its leading zeros less 21, m has 43 digits, and the rest of a division by six is at most five
-- more. Assumes nothing.
use mathlib.Core.Path.{◌≡◌, refl, sym, ap, ◌∙◌, subst}
use Prim.Native.Nat.{ℕ, ◌+◌, ◌-◌, ◌*◌, ◌/◌, ◌%◌, ◌^◌, ◌≤◌, ◌<◌}
use native.Mathlib.Nat.{mul_assoc, mul-one, mul-le-mul, mod-lt, lt_of_lt_of_le, lt_of_le_of_lt, le_trans, le_of_eq, zero-lt-suc}
use native.Mathlib.Omega.{arith}
use lib.Count.{count_leading_zeros}
use lib.Dec.{lit≤, lit<}
use lib.Pow.{pow-add, pow_pos, pow_mono}
use Rattle.rounding.proofs.Lifts.{lifted}
use Rattle.leaves.proofs.parts.Positive.root_place.Goals as goal

module _ (m : ℕ) (M : 0 < m) (L : m < 16777216) where
  known : (21 ≤ count_leading_zeros 64 m) × (count_leading_zeros 64 m - 21 ≤ 42) × (4398046511104 ≤ m * 2 ^ (count_leading_zeros 64 m - 21)) ×
      (m * 2 ^ (count_leading_zeros 64 m - 21) < 8796093022208)
  known = lifted m 21 42 refl M (lt_of_lt_of_le L (lit≤ tt))

-- at most five digits more
five_more : (m l d : ℕ) → d < 6 → 4398046511104 ≤ m * 2 ^ l → m * 2 ^ l < 8796093022208 → (4398046511104 ≤ m * 2 ^ (l + d)) × (m * 2 ^ (l + d) < 281474976710656)
five_more m l d D h k = ends (m * 2 ^ (l + d)) (ap (λ (x : ℕ). m * x) (pow-add 2 l d) ∙ sym (mul_assoc m (2 ^ l) (2 ^ d)))
  where
    ends : (x : ℕ) → x ≡ m * 2 ^ l * 2 ^ d → (4398046511104 ≤ x) × (x < 281474976710656)
    ends x e = (
      le_trans h (le_trans (le_of_eq (sym (mul-one (m * 2 ^ l)))) (le_trans (mul-le-mul (le_of_eq refl) (pow_pos d)) (le_of_eq (sym e)))),
      lt_of_le_of_lt (le_of_eq e) (lt_of_le_of_lt (mul-le-mul (under (m * 2 ^ l) k) (pow_mono (five d D))) (lit< tt)),
    )
      where
        under : (a : ℕ) → a < 8796093022208 → a ≤ 8796093022207
        under a g = omega arith

        five : (d : ℕ) → d < 6 → d ≤ 5
        five d g = omega arith

-- the shift, by the leading zeros z
module _ (e z : ℕ) (h : 21 ≤ z) (k : z - 21 ≤ 42) where
  sixes_le : (e + 670 - z) / 6 * 6 ≤ e + 649
  sixes_le = omega arith

  shift_lt : e + 649 - (e + 670 - z) / 6 * 6 < 64
  shift_lt = omega arith

  shift_is : z - 21 + (e + 670 - z) % 6 ≡ e + 649 - (e + 670 - z) / 6 * 6
  shift_is = omega arith

pub returns : goal.returns
returns c =
    let a = c.args.self in
    let v = known a.digits a.some a.digits_bound in
    let z = count_leading_zeros 64 a.digits in
    let d = (a.place + 670 - z) % 6 in
    let f = five_more a.digits (z - 21) d (mod-lt (a.place + 670 - z) (zero-lt-suc 5)) v.2 v.3 in
    let g = shift_is a.place z v.0 v.1 in (
      sixes_le a.place z v.0 v.1,
      shift_lt a.place z v.0 v.1,
      subst (λ (l : ℕ). 4398046511104 ≤ a.digits * 2 ^ l) g f.0,
      subst (λ (l : ℕ). a.digits * 2 ^ l < 281474976710656) g f.1,
    )
