-- Orders and powers that several files use. Assumes nothing.
use mathlib.Core.Path.{◌≡◌, sym, ap, ap₂, ◌∙◌}
use mathlib.Core.Logic.{◌⊎◌, inl, inr}
use mathlib.Core.Bool.{Bool, true, false, not}
use Prim.Native.Nat.{ℕ, zero, suc, ◌+◌, ◌-◌, ◌*◌, ◌/◌, ◌^◌, ◌≤◌, ◌<◌}
use native.Mathlib.Nat.{pow-zero, pow-suc, mul-zero, mul-suc, mul-mul-mul_comm, lt_of_lt_of_le, lt_of_not-le, lt_irrefl}
use native.Mathlib.Omega.{arith}
use lib.Dec.{T, leb, leb→le, nleb→lt}
use lib.Pow.{pow-add, pow_mono}

pub le_or_lt : (a b : ℕ) → (a ≤ b) ⊎ (b < a)
le_or_lt a b = go (leb a b) (leb→le a b) (nleb→lt a b)
  where
    go : (t : Bool) → (T t → a ≤ b) → (T (not t) → b < a) → (a ≤ b) ⊎ (b < a)
    go true h k = inl (h tt)
    go false h k = inr (k tt)

pub le_of_lt_one : (a b : ℕ) → a < b + 1 → a ≤ b
le_of_lt_one a b l = omega arith

-- half of h below b, and not below it
pub half_lt : (h b : ℕ) → h < b * 2 → h / 2 < b
half_lt h b l = omega arith

pub half_ge : (h b c : ℕ) → c ≡ b * 2 → c ≤ h → b ≤ h / 2
half_ge h b c e l = omega arith

-- ---- powers
pub top_digit : (p : ℕ) → 0 < p → 2 ^ p ≡ 2 ^ (p - 1) * 2
top_digit p P = ap (λ (x : ℕ). 2 ^ x) (up p P) ∙ pow-suc 2 (p - 1)
  where
    up : (p : ℕ) → 0 < p → p ≡ suc (p - 1)
    up p P = omega arith

pub less_back : (a b : ℕ) → 2 ^ a < 2 ^ b → a < b
less_back a b h = lt_of_not-le (λ (g : b ≤ a). lt_irrefl (2 ^ a) (lt_of_lt_of_le h (pow_mono g)))

pub mul_pow : (a b n : ℕ) → (a * b) ^ n ≡ a ^ n * b ^ n
mul_pow a b zero = pow-zero (a * b) ∙ sym (ap₂ (λ (x y : ℕ). x * y) (pow-zero a) (pow-zero b))
mul_pow a b (suc n) =
    pow-suc (a * b) n ∙ ap (λ (x : ℕ). x * (a * b)) (mul_pow a b n) ∙ mul-mul-mul_comm (a ^ n) (b ^ n) a b
    ∙ sym (ap₂ (λ (x y : ℕ). x * y) (pow-suc a n) (pow-suc b n))

pub pow_pow : (a k n : ℕ) → (a ^ k) ^ n ≡ a ^ (k * n)
pow_pow a k zero = pow-zero (a ^ k) ∙ sym (ap (λ (x : ℕ). a ^ x) (mul-zero k) ∙ pow-zero a)
pow_pow a k (suc n) = pow-suc (a ^ k) n ∙ ap (λ (x : ℕ). x * a ^ k) (pow_pow a k n) ∙ sym (pow-add a (k * n) k) ∙ ap (λ (x : ℕ). a ^ x) (sym (mul-suc k n))
