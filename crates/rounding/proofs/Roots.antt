-- Laws of the whole part of a root: it is right, an order of powers is one of the numbers, and the root comes from an n of fewer digits. Assumes nothing.
use mathlib.Core.Path.{◌≡◌, sym, ap, ◌∙◌, subst}
use Prim.Native.Nat.{ℕ, zero, suc, ◌+◌, ◌*◌, ◌/◌, ◌^◌, ◌≤◌, ◌<◌, zero-le}
use native.Mathlib.Nat.{mul-zero, one-mul, mul-mul-mul_comm, pow-zero, pow-suc, pow-le-pow_left, one-le-pow, le-div_iff_mul-le, div-lt_iff_lt-mul}
use native.Mathlib.Nat.{div-eq_of_lt-le}
use native.Mathlib.Nat.{lt_of_lt_of_le, lt_of_le_of_lt, lt_of_not-le, not-le_of_lt, le_trans, le_of_eq, mul-le-mul_right, mul-lt-mul_of_pos_right}
use native.Mathlib.Omega.{arith}
use mathlib.Core.Bool.{Bool, true, false, not, cond}
use lib.Dec.{T, leb, leb→le, nleb→lt}
use lib.Pow.{pow_pos, pow_mono}
use lib.Ieee.{size}
use lib.Ieee.Digits.{size-lt}
use Rattle.rounding.specs.Roots.{root_in, root, IsRoot}
use Rattle.rounding.proofs.Basics.{le_of_lt_one, mul_pow}

-- an order of powers is one of the numbers
pub power_lt : (k a b n : ℕ) → a ^ k ≤ n → n < b ^ k → a < b
power_lt k a b n h l = lt_of_not-le (λ (g : b ≤ a). not-le_of_lt (lt_of_le_of_lt h l) (pow-le-pow_left g k))

-- one digit more: from the root r of n / 2 ^ k
next_root : (k n r : ℕ) → IsRoot k (n / 2 ^ k) r → IsRoot k n (cond (leb ((2 * r + 1) ^ k) n) (2 * r + 1) (2 * r))
next_root k n r ih = go (leb ((2 * r + 1) ^ k) n) (leb→le ((2 * r + 1) ^ k) n) (nleb→lt ((2 * r + 1) ^ k) n)
  where
    twice : (r : ℕ) → r * 2 ≡ 2 * r
    twice r = omega arith

    up : (r : ℕ) → (r + 1) * 2 ≡ 2 * r + 1 + 1
    up r = omega arith

    power : (a b : ℕ) → a * 2 ≡ b → a ^ k * 2 ^ k ≡ b ^ k
    power a b e = sym (mul_pow a 2 k) ∙ ap (λ (x : ℕ). x ^ k) e

    go : (b : Bool) → (T b → (2 * r + 1) ^ k ≤ n) → (T (not b) → n < (2 * r + 1) ^ k) → IsRoot k n (cond b (2 * r + 1) (2 * r))
    go true l u = (l tt, subst (λ (x : ℕ). n < x) (power (r + 1) (2 * r + 1 + 1) (up r)) ((div-lt_iff_lt-mul (pow_pos k)).0 ih.1))
    go false l u = (subst (λ (x : ℕ). x ≤ n) (power r (2 * r) (twice r)) ((le-div_iff_mul-le (pow_pos k)).0 ih.0), u tt)

zero_power : (k : ℕ) → 0 < k → 0 ^ k ≡ 0
zero_power zero h = absurd (no h)
  where
    no : 0 < 0 → ⊥
    no h = omega arith
zero_power (suc j) h = pow-suc 0 j ∙ mul-zero (0 ^ j)

module _ (k : ℕ) (K : 0 < k) where
  root_in_is : (d n : ℕ) → n < (2 ^ k) ^ d → IsRoot k n (root_in k d n)
  unfolding root_in
  root_in_is zero n h =
      (le_trans (le_of_eq (zero_power k K)) zero-le, lt_of_lt_of_le (subst (λ (x : ℕ). n < x) (pow-zero (2 ^ k)) h) (one-le-pow k 1 (pow_pos 0)))
  root_in_is (suc d) n h =
      next_root k n (root_in k d (n / 2 ^ k)) (root_in_is d (n / 2 ^ k) ((div-lt_iff_lt-mul (pow_pos k)).1 (subst (λ (x : ℕ). n < x) (pow-suc (2 ^ k) d) h)))

  pub root_is : (n : ℕ) → IsRoot k n (root k n)
  unfolding root
  root_is n = root_in_is (size n) n (lt_of_lt_of_le (size-lt n) (pow-le-pow_left (pow_mono K) (size n)))

  -- from the root s of n: the root of n * 2 ^ (j * k) has j digits more
  module _ (n s j : ℕ) (r : IsRoot k n s) where
    N : ℕ
    N = n * (2 ^ j) ^ k

    w_ge : s * 2 ^ j ≤ root k N
    unfolding N
    w_ge =
        le_of_lt_one (s * 2 ^ j) (root k N)
        (power_lt k (s * 2 ^ j) (root k N + 1) N (le_trans (le_of_eq (mul_pow s (2 ^ j) k)) (mul-le-mul_right ((2 ^ j) ^ k) r.0)) (root_is N).1)

    w_lt : root k N < (s + 1) * 2 ^ j
    unfolding N
    w_lt =
        power_lt k (root k N) ((s + 1) * 2 ^ j) N (root_is N).0
        (subst (λ (x : ℕ). N < x) (sym (mul_pow (s + 1) (2 ^ j) k)) (mul-lt-mul_of_pos_right r.1 (one-le-pow k (2 ^ j) (pow_pos j))))

    pub root_shift : root k (n * (2 ^ j) ^ k) / 2 ^ j ≡ s
    unfolding N
    root_shift = div-eq_of_lt-le (2 ^ j) w_ge w_lt

-- ---- the square
pub square : (a : ℕ) → a ^ 2 ≡ a * a
square a = pow-suc a 1 ∙ ap (λ (x : ℕ). x * a) (pow-suc a 0 ∙ ap (λ (x : ℕ). x * a) (pow-zero a) ∙ one-mul a)

pub double_square : (a : ℕ) → 2 * a * (2 * a) ≡ 4 * (a * a)
double_square a = mul-mul-mul_comm 2 a 2 a

pub square_root : (n r : ℕ) → r * r ≤ n → n < (r + 1) * (r + 1) → IsRoot 2 n r
square_root n r l u = (subst (λ (x : ℕ). x ≤ n) (sym (square r)) l, subst (λ (x : ℕ). n < x) (sym (square (r + 1))) u)

-- an order of squares is one of the numbers
pub square_lt : (a b n : ℕ) → a * a ≤ n → n < b * b → a < b
square_lt a b n h l = power_lt 2 a b n (subst (λ (x : ℕ). x ≤ n) (sym (square a)) h) (subst (λ (x : ℕ). n < x) (sym (square b)) l)

pub square_root_is : (n : ℕ) → (root 2 n * root 2 n ≤ n) × (n < (root 2 n + 1) * (root 2 n + 1))
square_root_is n =
    let r = root_is 2 (pow_pos 1) n in
    (subst (λ (x : ℕ). x ≤ n) (square (root 2 n)) r.0, subst (λ (x : ℕ). n < x) (square (root 2 n + 1)) r.1)
