-- The one test of a guessed root, `IsNear`: a whole number that passes it is the one nearest to the root, and where n has 47 or 48 digits it has the 24 that
-- binary32 keeps. Assumes nothing.
use mathlib.Core.Path.{◌≡◌, sym, ap, ◌∙◌, subst}
use mathlib.Core.Bool.{Bool, true, false, not}
use Prim.Native.Nat.{ℕ, zero, suc, ◌+◌, ◌-◌, ◌*◌, ◌^◌, ◌≤◌, ◌<◌, zero-le}
use native.Mathlib.Nat.{mul_assoc, mul_comm, mul-mul-mul_comm, pow-suc, add-mul, mul-add, le_of_lt, sub-pos_iff_lt}
use native.Mathlib.Omega.{arith}
use lib.Dec.{T, leb, leb→le, nleb→lt}
use lib.Ieee.{binary32, units}
use native.Mathlib.Numerals.{suc-eq-add-one}
use Rattle.rounding.specs.Halves.{halve}
use Rattle.rounding.specs.Roots.{rooted, IsRoot, IsNear}
use Rattle.rounding.proofs.Halves.{halve_even, halve_over}
use Rattle.rounding.proofs.Roots.{double_square, square_root, square_lt}
use Rattle.rounding.proofs.SquareRoots.{rooted_at}

pub square_suc : (x : ℕ) → (x + 1) * (x + 1) ≡ x * x + x + x + 1
square_suc x = last x ((x + 1) * (x + 1)) (x * (x + 1)) (x * x) (add-mul x 1 (x + 1)) (mul-add x x 1)
  where
    last : (x a b c : ℕ) → a ≡ b + 1 * (x + 1) → b ≡ c + x * 1 → a ≡ c + x + x + 1
    last x a b c e f = omega arith

module _ (n r : ℕ) (v : IsNear n r) (lo : 70368744177664 ≤ n) (hi : n < 281474976710656) where
  pub near_ge : 8388608 ≤ r
  near_ge = last (square_lt 8388608 (r + 1) n lo (reach (r * r) ((r + 1) * (r + 1)) (square_suc r) v.above))
    where
      reach : (a b : ℕ) → b ≡ a + r + r + 1 → n ≤ a + r → n < b
      reach a b e h = omega arith

      last : 8388608 < r + 1 → 8388608 ≤ r
      last h = omega arith

-- below r: t = r - 1 has t * t + t < n
one_less : (n t : ℕ) → (t + 1) * (t + 1) < n + (t + 1) → t * t + t < n
one_less n t h = last (t * t) ((t + 1) * (t + 1)) (square_suc t) h
  where
    last : (a b : ℕ) → b ≡ a + t + t + 1 → b < n + (t + 1) → a + t < n
    last a b e h = omega arith

pub under : (n t : ℕ) → n < 281474976710656 → t * t + t < n → t < 16777216
under n t hi h = square_lt t 16777216 n (first (t * t) h) hi
  where
    first : (a : ℕ) → a + t < n → a ≤ n
    first a h = omega arith

pub near_le : (n r : ℕ) → IsNear n r → n < 281474976710656 → r ≤ 16777216
near_le n zero v hi = zero-le
near_le n (suc t) v hi = last (under n t hi (one_less n t (subst (λ (x : ℕ). x * x < n + x) (suc-eq-add-one t) v.below)))
  where
    last : t < 16777216 → suc t ≤ 16777216
    last h = omega arith

-- ---- the value
-- h is 2 * r or 2 * r - 1
by_root : (n r h j : ℕ) → IsRoot 2 (n * 4) h → 16777216 ≤ h → h < 33554432 → halve h (n * 4 - h * h) ≡ r
    → rooted binary32 (n * (2 ^ suc j * 2 ^ suc j)) ≡ units binary32 false r (suc j)
by_root n r h j i lo hi e =
    ap (λ (x : ℕ). rooted binary32 x)
    (ap (λ (x : ℕ). n * (x * x)) (pow-suc 2 j) ∙ ap (λ (x : ℕ). n * x) (mul-mul-mul_comm (2 ^ j) 2 (2 ^ j) 2 ∙ mul_comm (2 ^ j * 2 ^ j) 4)
    ∙ sym (mul_assoc n 4 (2 ^ j * 2 ^ j)))
    ∙ rooted_at binary32 (n * 4) h j i lo hi
    ∙ ap (λ (x : ℕ). units binary32 false x (suc j)) e

at_or_above : (n r j : ℕ) → IsNear n r → 70368744177664 ≤ n → n < 281474976710656 → r * r ≤ n
    → rooted binary32 (n * (2 ^ suc j * 2 ^ suc j)) ≡ units binary32 false r (suc j)
at_or_above n r j v lo hi l =
    by_root n r (2 * r) j (square_root (n * 4) (2 * r) (root_lo (r * r) (2 * r * (2 * r)) (double_square r) l)
    (root_hi (r * r) (2 * r * (2 * r)) ((2 * r + 1) * (2 * r + 1)) (double_square r) (square_suc (2 * r)) v.above))
    (twice (near_ge n r v lo hi)) (twice_lt (square_lt r 16777216 n l hi)) (halve_even r (n * 4 - 2 * r * (2 * r)))
  where
    root_lo : (a b : ℕ) → b ≡ 4 * a → a ≤ n → b ≤ n * 4
    root_lo a b e h = omega arith

    root_hi : (a b c : ℕ) → b ≡ 4 * a → c ≡ b + 2 * r + 2 * r + 1 → n ≤ a + r → n * 4 < c
    root_hi a b c e f h = omega arith

    twice : 8388608 ≤ r → 16777216 ≤ 2 * r
    twice h = omega arith

    twice_lt : r < 16777216 → 2 * r < 33554432
    twice_lt h = omega arith

just_below : (n t j : ℕ) → t * t + t < n → n < (t + 1) * (t + 1) → 70368744177664 ≤ n → n < 281474976710656
    → rooted binary32 (n * (2 ^ suc j * 2 ^ suc j)) ≡ units binary32 false (suc t) (suc j)
just_below n t j b l lo hi =
    let h = 2 * t + 1 in
    let s : h * h ≡ 4 * (t * t) + 2 * t + 2 * t + 1 = square_suc (2 * t) ∙ ap (λ (x : ℕ). x + 2 * t + 2 * t + 1) (double_square t) in
    let m : h * h < n * 4 = root_lo (t * t) (h * h) s b in
    by_root n (suc t) h j (square_root (n * 4) h (le_of_lt m) (subst (λ (x : ℕ). n * 4 < x) (sym (next t)) (root_hi ((t + 1) * (t + 1)) l)))
    (odd_ge (square_lt 8388608 (t + 1) n lo l)) (odd_lt (under n t hi b)) (halve_over t (n * 4 - h * h) (sub-pos_iff_lt.1 m))
  where
    root_lo : (a b : ℕ) → b ≡ 4 * a + 2 * t + 2 * t + 1 → a + t < n → b < n * 4
    root_lo a b e h = omega arith

    root_hi : (a : ℕ) → n < a → n * 4 < 4 * a
    root_hi a h = omega arith

    up : (t : ℕ) → 2 * t + 1 + 1 ≡ 2 * (t + 1)
    up t = omega arith

    next : (t : ℕ) → (2 * t + 1 + 1) * (2 * t + 1 + 1) ≡ 4 * ((t + 1) * (t + 1))
    next t = ap (λ (x : ℕ). x * x) (up t) ∙ double_square (t + 1)

    odd_ge : 8388608 < t + 1 → 16777216 ≤ 2 * t + 1
    odd_ge h = omega arith

    odd_lt : t < 16777216 → 2 * t + 1 < 33554432
    odd_lt h = omega arith

pub rooted_near : (n r j : ℕ) → IsNear n r → 70368744177664 ≤ n → n < 281474976710656
    → rooted binary32 (n * (2 ^ suc j * 2 ^ suc j)) ≡ units binary32 false r (suc j)
rooted_near n r j v lo hi = go (leb (r * r) n) (leb→le (r * r) n) (nleb→lt (r * r) n)
  where
    lower : (r : ℕ) → IsNear n r → n < r * r → rooted binary32 (n * (2 ^ suc j * 2 ^ suc j)) ≡ units binary32 false r (suc j)
    lower zero v l = absurd (no l)
      where
        no : n < 0 → ⊥
        no h = omega arith
    lower (suc t) v l =
        just_below n t j (one_less n t (subst (λ (x : ℕ). x * x < n + x) (suc-eq-add-one t) v.below))
        (subst (λ (x : ℕ). n < x * x) (suc-eq-add-one t) l) lo hi

    go : (b : Bool) → (T b → r * r ≤ n) → (T (not b) → n < r * r) → rooted binary32 (n * (2 ^ suc j * 2 ^ suc j)) ≡ units binary32 false r (suc j)
    go true h k = at_or_above n r j v lo hi (h tt)
    go false h k = lower r v (k tt)
