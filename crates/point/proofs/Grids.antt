-- Floats on a grid: what is large enough is a whole number of 2 ^ -k, such floats compare as their numbers do, and differences of them are rounded from
-- whole numbers, exactly where those have 24 digits. Assumes nothing.
use mathlib.Core.Path.{◌≡◌, refl, sym, ap, ap₂, ◌∙◌, subst}
use mathlib.Core.Bool.{true, false}
use Prim.Native.Nat.{ℕ, suc, ◌+◌, ◌-◌, ◌*◌, ◌^◌, ◌≤◌, ◌<◌}
use native.Mathlib.Nat.{mul_assoc, mul_comm, mul-one, mul-sub, mul-pos, pow-suc, le_trans, le_of_eq, lt_of_lt_of_le, mul-le-mul_right, mul-lt-mul_of_pos_right}
use native.Mathlib.Nat.{lt_of_mul-lt-mul_right, le_of_mul-le-mul_right}
use native.Mathlib.Omega.{arith}
use borrow.Author.Tests.{le-ltb, lt-ltb}
use lib.IntN.{ℤ, pos, negsuc}
use lib.Dec.{T}
use lib.Pow.{pow-add, pow_pos, pow_mono}
use lib.Ieee.{Float, fin, binary32, up, down, round, lt, fits}
use lib.Ieee.Exact.{HasValue, round_exact}
use lib.Ieee.Scale.{round_same}
use Rattle.rounding.proofs.Basics.{less_back}
use Rattle.rounding.proofs.Differences.{lt_values, minus_values}
use Rattle.leaves.specs.Single.{◌⊖◌}
use Rattle.point.proofs.Digits.{digits_lt}

-- ---- what is 2 ^ (23 - k) at least is a whole number of 2 ^ -k
pub on_grid : (k m : ℕ) (e : ℤ) → T (fits binary32 (fin false m e)) → 8388608 * down e ≤ m * up e * 2 ^ k → (n : ℕ) × HasValue (fin false m e) false n (2 ^ k)
on_grid k m (pos i) F h = (m * 2 ^ i * 2 ^ k, (refl, sym (mul-one (m * 2 ^ i * 2 ^ k))))
on_grid k m (negsuc i) F h =
    let D = 2 ^ suc i in
    let few : D < 2 ^ suc k = subst (λ (x : ℕ). D < x) (sym (pow-suc 2 k))
    (small m D (2 ^ k) (pow_pos k) (digits_lt false m (negsuc i) F) (subst (λ (x : ℕ). 8388608 * D ≤ x * 2 ^ k) (mul-one m) h)) in
    let K : suc i ≤ k = last (suc i) k (less_back (suc i) (suc k) few) in (
      m * 2 ^ (k - suc i),
      (
        refl,
        ap (λ (x : ℕ). x * 2 ^ k) (mul-one m)
            ∙ ap (λ (x : ℕ). m * x) (sym (sym (pow-add 2 (k - suc i) (suc i)) ∙ ap (λ (x : ℕ). 2 ^ x) (back (suc i) k K)))
            ∙ sym (mul_assoc m (2 ^ (k - suc i)) D),
      ),
    )
  where
    least : (D G X : ℕ) → 8388608 * D ≤ X → X < 16777216 * G → D < G * 2
    least D G X h k = omega arith

    small : (m D G : ℕ) → 0 < G → m < 16777216 → 8388608 * D ≤ m * G → D < G * 2
    small m D G P h k = least D G (m * G) k (mul-lt-mul_of_pos_right h P)

    last : (i k : ℕ) → i < suc k → i ≤ k
    last i k h = omega arith

    back : (i k : ℕ) → i ≤ k → k - i + i ≡ k
    back i k h = omega arith

-- ---- on a grid: x is n / G
module _ (k : ℕ) where
  abbrev G : ℕ
  G = 2 ^ k

  P : 0 < G
  P = pow_pos k

  pub less_at : (x y : Float) (a b : ℕ) → HasValue x false a G → HasValue y false b G → a < b → lt x y ≡ true
  less_at x y a b p q h = lt_values x y a G b G P P p q ∙ lt-ltb (a * G) (b * G) (mul-lt-mul_of_pos_right h P)

  pub not_less_at : (x y : Float) (a b : ℕ) → HasValue x false a G → HasValue y false b G → b ≤ a → lt x y ≡ false
  not_less_at x y a b p q h = lt_values x y a G b G P P p q ∙ le-ltb (a * G) (b * G) (mul-le-mul_right G h)

  pub minus_at : (x y : Float) (a b : ℕ) → HasValue x false a G → HasValue y false b G → b ≤ a → x ⊖ y ≡ round binary32 false (a - b) G
  minus_at x y a b p q h =
      minus_values binary32 x y a G b G P P p q (mul-le-mul_right G h)
      ∙ round_same binary32 false (a * G - b * G) (G * G) (a - b) G (mul-pos P P) P
      (ap (λ (z : ℕ). z * G) (ap₂ (λ (u v : ℕ). u - v) (mul_comm a G) (mul_comm b G) ∙ sym (mul-sub G a b) ∙ mul_comm G (a - b)) ∙ mul_assoc (a - b) G G)

  pub round_at : (n : ℕ) → k ≤ 149 → n < 16777216 → HasValue (round binary32 false n G) false n G
  round_at n K h =
      round_exact binary32 false n G n (149 - k) P h
      (lt_of_lt_of_le (mul-lt-mul_of_pos_right h (pow_pos (149 - k))) (le_trans (le_of_eq (sym (pow-add 2 24 (149 - k)))) (pow_mono (room k))))
      (ap (λ (x : ℕ). n * x) (ap (λ (x : ℕ). 2 ^ x) (sym (back k K)) ∙ pow-add 2 (149 - k) k) ∙ sym (mul_assoc n (2 ^ (149 - k)) G))
    where
      room : (k : ℕ) → 24 + (149 - k) ≤ 277
      room k = omega arith

      back : (k : ℕ) → k ≤ 149 → 149 - k + k ≡ 149
      back k h = omega arith

-- ---- bounds of n, where N / D is n / G
pub grid_more : (N D n G c : ℕ) → 0 < D → N * G ≡ n * D → c * D < N * G → c < n
grid_more N D n G c P e h = lt_of_mul-lt-mul_right D (subst (λ (x : ℕ). c * D < x) e h)

pub grid_most : (N D n G c : ℕ) → 0 < D → N * G ≡ n * D → N * G ≤ c * D → n ≤ c
grid_most N D n G c P e h = le_of_mul-le-mul_right (subst (λ (x : ℕ). x ≤ c * D) e h) P
