-- There is one value of a format nearest to the square root of a value of that format: the root never lies in the middle between two neighbours, since that
-- middle has one digit more than the format keeps, and so has its square, once its zeros at the end are gone. All in smallest values. Assumes nothing.
use mathlib.Core.Path.{◌≡◌, sym, ap, ◌∙◌}
use mathlib.Core.Logic.{inl, inr}
use Prim.Native.Nat.{ℕ, suc, ◌+◌, ◌-◌, ◌*◌, ◌^◌, ◌≤◌, ◌<◌}
use native.Mathlib.Nat.{mul_assoc, mul-mul-mul_comm, mul-lt-mul_of_pos_right, mul-le-mul, le-mul_of_pos_right, eq_of_mul-eq-mul_right, lt-suc_self}
use native.Mathlib.Nat.{pow-suc, eq-or-lt_of_le, le_trans, le_of_eq, le_of_lt, le_antisymm, lt_of_le_of_lt, lt_trans}
use native.Mathlib.Omega.{arith}
use lib.Pow.{pow-add, pow_pos}
use lib.Dec.{T}
use lib.Ieee.{Float, Format, prec, low, hid, fits, to_bits}
use lib.Ieee.Fits.{two, two-le_pos}
use lib.Ieee.Scale.{finite, overflow}
use Rattle.rounding.specs.Parts.{sig, place}
use Rattle.rounding.proofs.Basics.{le_or_lt, top_digit}
use Rattle.rounding.proofs.Parts.{sig_lt, leads}
use Rattle.rounding.proofs.Values.{worth, worth_under}
use Rattle.rounding.proofs.RootNearest.{Sides}
use Rattle.rounding.proofs.Neighbours.{Leads, next_least}

-- ---- c * 2 ^ z, c of the format's digits, is no square of (2 * q + 1) * 2 ^ k
module _ (f : Format) (c z q k : ℕ) (C : c < 2 ^ prec f) (Z : 0 < z) (K : Leads f q k) where
  m : ℕ
  m = 2 * q + 1

  m_pos : 0 < m
  unfolding m
  m_pos = omega arith

  -- z small: c would be as large as the square
  few : z ≤ k + k → c * 2 ^ z ≡ m * m * 2 ^ (k + k) → ⊥
  unfolding m
  few l e =
      let d = 2 ^ (k + k - z) in
      let is : c ≡ m * m * d =
      eq_of_mul-eq-mul_right (2 ^ z) (pow_pos z) c (m * m * d)
      (e ∙ ap (λ (x : ℕ). m * m * x) (ap (λ (x : ℕ). 2 ^ x) back ∙ pow-add 2 (k + k - z) z) ∙ sym (mul_assoc (m * m) d (2 ^ z))) in
      elim K [
        | inl i ↦ empty i
        | inr h ↦
            large (2 ^ prec f) (hid f)
            (le_trans (le-mul_of_pos_right m m_pos) (le_trans (le-mul_of_pos_right (m * m) (pow_pos (k + k - z))) (le_of_eq (sym is)))) h C
            (top_digit (prec f) (two-le_pos (prec f) (two f)))
      ]
    where
      empty : k ≡ 0 → ⊥
      empty i = omega (arith, Z, l)

      back : k + k ≡ k + k - z + z
      back = omega (arith, l)

      large : (p h : ℕ) → m ≤ c → h ≤ q → c < p → p ≡ h * 2 → ⊥
      large p h i l t g = omega arith

  -- z large: the square of an odd number would be even
  many : k + k < z → c * 2 ^ z ≡ m * m * 2 ^ (k + k) → ⊥
  unfolding m
  many l e =
      let w = z - (k + k) - 1 in
      odd (c * 2 ^ w)
      (mul_assoc c (2 ^ w) 2 ∙ ap (λ (x : ℕ). c * x) (sym (pow-suc 2 w))
      ∙ eq_of_mul-eq-mul_right (2 ^ (k + k)) (pow_pos (k + k)) (c * 2 ^ suc w) (m * m)
      (mul_assoc c (2 ^ suc w) (2 ^ (k + k)) ∙ ap (λ (x : ℕ). c * x) (sym (pow-add 2 (suc w) (k + k)) ∙ ap (λ (x : ℕ). 2 ^ x) back) ∙ e))
    where
      back : suc (z - (k + k) - 1) + (k + k) ≡ z
      back = omega (arith, l)

      odd : (d : ℕ) → d * 2 ≡ m * m → ⊥
      odd d e = omega arith

  no_middle : c * 2 ^ z ≡ m * m * 2 ^ (k + k) → ⊥
  no_middle e = elim (le_or_lt z (k + k)) [ inl l ↦ few l e | inr l ↦ many l e ]

-- ---- so of two nearest values, R = q * 2 ^ k and S = d * 2 ^ i, neither is smaller
-- no value of the format is nearer than R to the root of n squares of the smallest value
abbrev pub NearRoot : Format → ℕ → ℕ → Type 0
NearRoot f n R = (q k : ℕ) → q ≤ 2 ^ prec f → q * 2 ^ k < overflow f → Sides n R (q * 2 ^ k)

module _ (f : Format) (c j : ℕ) (C : c < 2 ^ prec f) where
  N : ℕ
  N = c * 2 ^ j * 2 ^ low f

  module _ (q k d i : ℕ) (Q : q < 2 ^ prec f) (K : Leads f q k) (E : d < 2 ^ prec f) (top : d * 2 ^ i < overflow f) where
    middle : suc q * 2 ^ k + q * 2 ^ k ≡ (2 * q + 1) * 2 ^ k
    middle = both q (2 ^ k)
      where
        both : (q p : ℕ) → suc q * p + q * p ≡ (2 * q + 1) * p
        both q p = omega arith

    never : NearRoot f (c * 2 ^ j * 2 ^ low f) (q * 2 ^ k) → NearRoot f (c * 2 ^ j * 2 ^ low f) (d * 2 ^ i) → q * 2 ^ k < d * 2 ^ i → ⊥
    unfolding N m
    never x y l =
        let R = q * 2 ^ k in
        let S = d * 2 ^ i in
        let Y = suc q * 2 ^ k in
        let a : Y ≤ S = next_least f q k d i K (le_of_lt E) l in
        let lo : (R + S) * (R + S) ≤ N * 4 = (y q k (le_of_lt Q) (lt_trans l top)).0 l in
        let hi : N * 4 ≤ (Y + R) * (Y + R) = (x (suc q) k Q (lt_of_le_of_lt a top)).1 (mul-lt-mul_of_pos_right (lt-suc_self q) (pow_pos k)) in
        let e : N * 4 ≡ (Y + R) * (Y + R) = le_antisymm hi (le_trans (mul-le-mul (swap R S Y a) (swap R S Y a)) lo) in
        no_middle f c (j + low f + 2) q k C (some (j + low f)) K (left ∙ e ∙ right)
      where
        left : c * 2 ^ (j + low f + 2) ≡ c * 2 ^ j * 2 ^ low f * 4
        left =
            ap (λ (p : ℕ). c * p) (pow-add 2 (j + low f) 2 ∙ ap (λ (p : ℕ). p * 4) (pow-add 2 j (low f)))
            ∙ sym (mul_assoc c (2 ^ j * 2 ^ low f) 4) ∙ ap (λ (p : ℕ). p * 4) (sym (mul_assoc c (2 ^ j) (2 ^ low f)))

        right : (suc q * 2 ^ k + q * 2 ^ k) * (suc q * 2 ^ k + q * 2 ^ k) ≡ (2 * q + 1) * (2 * q + 1) * 2 ^ (k + k)
        right =
            ap (λ (p : ℕ). p * p) middle ∙ mul-mul-mul_comm (2 * q + 1) (2 ^ k) (2 * q + 1) (2 ^ k)
            ∙ ap (λ (p : ℕ). (2 * q + 1) * (2 * q + 1) * p) (sym (pow-add 2 k k))

        some : (a : ℕ) → 0 < a + 2
        some a = omega arith

        swap : (R S Y : ℕ) → Y ≤ S → Y + R ≤ R + S
        swap R S Y a = omega arith

-- ---- the same for the root of a finite x of the format
module _ (f : Format) (x r r' : Float) where
  abbrev Root : Float → Type 0
  Root v = T (fits f v) × T (finite v) × NearRoot f (worth f x * 2 ^ low f) (worth f v)

  not_less : Root r → Root r' → worth f r < worth f r' → ⊥
  unfolding worth
  not_less h g l =
      let z = to_bits f x in
      let a = to_bits f r in
      let b = to_bits f r' in
      never f (sig f z) (place f z) (sig_lt f z) (sig f a) (place f a) (sig f b) (place f b) (sig_lt f a) (leads f a) (sig_lt f b)
      (worth_under f r' g.0 g.1) h.2 g.2 l

pub root_worth : (f : Format) (x r r' : Float) → T (fits f r) → T (finite r) → T (fits f r') → T (finite r') → NearRoot f (worth f x * 2 ^ low f) (worth f r)
    → NearRoot f (worth f x * 2 ^ low f) (worth f r') → worth f r ≡ worth f r'
root_worth f x r r' F h G g n m = elim (le_or_lt (worth f r) (worth f r')) [
  | inl l ↦ elim (eq-or-lt_of_le l) [ inl e ↦ e | inr k ↦ absurd (not_less f x r r' (F, h, n) (G, g, m) k) ]
  | inr l ↦ absurd (not_less f x r' r (G, g, m) (F, h, n) l)
]
