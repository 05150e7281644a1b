-- Laws of the next whole number up: the same from the digits of a pattern as from the value, as a float and as a count. Assumes nothing.
use mathlib.Core.Path.{◌≡◌, refl, sym, ap, ap₂, ◌∙◌, subst}
use mathlib.Core.Logic.{◌⊎◌, inl, inr}
use mathlib.Core.Bool.{Bool, true, false, not, ◌&&◌, ◌||◌, cond}
use Prim.Native.Nat.{ℕ, zero, suc, ◌+◌, ◌-◌, ◌*◌, ◌/◌, ◌%◌, ◌^◌, ◌<◌, ◌≤◌, zero-le}
use native.Mathlib.Nat.{zero-mul, mul-one, mul_assoc, mul_comm, mul_right_comm, add-mul, one-mul, mul-le-mul_right, mul-lt-mul_of_pos_right, add-le-add}
use native.Mathlib.Nat.{le_refl, le_of_mul-le-mul_right, lt_of_mul-lt-mul_right, eq_of_mul-eq-mul_right, le_trans, le_of_eq, le_of_lt, lt_of_lt_of_le}
use native.Mathlib.Nat.{lt_of_le_of_lt, lt_of_not-le, lt_irrefl, div-add-mod', mod-lt, div-eq_of_lt, div-eq_of_lt-le, div-one}
use native.Mathlib.Omega.{arith}
use lib.IntN.{ℤ, pos}
use lib.Dec.{T, leb, ltb, eqb, ltb→lt, eqb→eq}
use lib.Pow.{pow-add, pow_pos, pow-lt}
use lib.Ieee.{Float, nan, inf, fin, binary32, up, down, round, le, lt, eq, fits, is_nan, to_bits, of_bits}
use lib.Ieee.Fits.{and_l}
use lib.Ieee.Exact.{HasValue}
use lib.Ieee.Nearest.{div_same}
use lib.Ieee.Scale.{finite, round_same}
use lib.Ieee.Positive.{num, den, den_pos}
use mir.Facts.{or_yes}
use Rattle.rounding.specs.Parts.{sig, place}
use Rattle.rounding.proofs.Parts.{decode}
use Rattle.rounding.proofs.Values.{cross}
use Rattle.leaves.specs.Single.{zero32}
use Rattle.leaves.specs.Small.{ceil_of}
use Rattle.leaves.specs.Whole.{limit32, whole_up_of}
use Rattle.leaves.proofs.Comparisons.{plain, zero_is, no}

-- ---- t / w up to a whole number
up_bounds : (t w : ℕ) → 0 < w → (t ≤ (t + w - 1) / w * w) × ((t + w - 1) / w * w < t + w)
up_bounds t w W = last (t + w - 1) ((t + w - 1) / w * w) ((t + w - 1) % w) refl (div-add-mod' (t + w - 1) w) (mod-lt (t + w - 1) W)
  where
    last : (n a r : ℕ) → n ≡ t + w - 1 → a + r ≡ n → r < w → (t ≤ a) × (a < t + w)
    last n a r e f l = omega (arith, W)

-- the same of an equal fraction n / D
pub up_same : (n D t w : ℕ) → 0 < D → 0 < w → n * w ≡ t * D → (n + D - 1) / D ≡ (t + w - 1) / w
up_same n D t w P W e =
    let q = (t + w - 1) / w in
    let z = up_bounds t w W in
    let most : n ≤ q * D = le_of_mul-le-mul_right (le_trans (le_of_eq e) (le_trans (mul-le-mul_right D z.0) (le_of_eq (mul_right_comm q w D)))) W in
    let least : q * D < n + D =
    lt_of_mul-lt-mul_right w
    (lt_of_le_of_lt (le_of_eq (mul_right_comm q D w))
    (lt_of_lt_of_le (mul-lt-mul_of_pos_right z.1 P) (le_of_eq (add-mul t w D ∙ ap₂ (λ (a b : ℕ). a + b) (sym e) (mul_comm w D) ∙ sym (add-mul n D w))))) in
    div-eq_of_lt-le D (low (q * D) least) (subst (λ (y : ℕ). n + D - 1 < y) (sym (add-mul q 1 D ∙ ap (λ (y : ℕ). q * D + y) (one-mul D))) (high (q * D) most))
  where
    low : (a : ℕ) → a < n + D → a ≤ n + D - 1
    low a h = omega arith

    high : (a : ℕ) → n ≤ a → n + D - 1 < a + D
    high a h = omega (arith, P)

pub up_none : (t w : ℕ) → 0 < w → t ≡ 0 → 0 ≡ (t + w - 1) / w
up_none t w W e = sym (div-eq_of_lt (last e))
  where
    last : t ≡ 0 → t + w - 1 < w
    last e = omega (arith, W)

pub up_one : (t w : ℕ) → t ≤ w → (t ≡ 0 → ⊥) → 1 ≡ (t + w - 1) / w
up_one t w h n =
    sym (div-eq_of_lt-le w (subst (λ (x : ℕ). x ≤ t + w - 1) (sym (one-mul w)) (low n))
    (subst (λ (x : ℕ). t + w - 1 < x) (sym (add-mul 1 1 w ∙ ap₂ (λ (a b : ℕ). a + b) (one-mul w) (one-mul w))) (high h n)))
  where
    low : (t ≡ 0 → ⊥) → w ≤ t + w - 1
    low n = omega arith

    high : t ≤ w → (t ≡ 0 → ⊥) → t + w - 1 < w + w
    high h n = omega arith

pub up_le : (t w : ℕ) → 0 < w → (t + w - 1) / w ≤ t
up_le t w W = go t
  where
    less : (q t : ℕ) → q < suc (suc t) → q ≤ suc t
    less q t h = omega arith

    go : (t : ℕ) → (t + w - 1) / w ≤ t
    go zero = le_of_eq (sym (up_none 0 w W refl))
    go (suc t) = last ((suc t + w - 1) / w) (up_bounds (suc t) w W).1
      where
        last : (q : ℕ) → q * w < suc t + w → q ≤ suc t
        last q h =
            less q t (lt_of_not-le (λ (g : suc (suc t) ≤ q). lt_irrefl (q * w)
            (lt_of_lt_of_le h (le_trans (far t w W (suc (suc t) * w) (t * w) (two t w) (many t w W)) (mul-le-mul_right w g)))))
          where
            two : (t w : ℕ) → suc (suc t) * w ≡ t * w + w + w
            two t w = ap (λ (x : ℕ). x * w) (plus t) ∙ add-mul t 2 w ∙ double (t * w) w
              where
                plus : (t : ℕ) → suc (suc t) ≡ t + 2
                plus t = omega arith

                double : (a w : ℕ) → a + 2 * w ≡ a + w + w
                double a w = omega arith

            many : (t w : ℕ) → 0 < w → t ≤ t * w
            many t w W = le_trans (le_of_eq (sym (mul-one t))) (le_trans (le_of_eq (mul_comm t 1)) (le_trans (mul-le-mul_right t W) (le_of_eq (mul_comm w t))))

            far : (t w : ℕ) → 0 < w → (a p : ℕ) → a ≡ p + w + w → t ≤ p → suc t + w ≤ a
            far t w W a p e h = omega arith

-- ---- x is t * 2 ^ p smallest values
module _ (x : Float) (s : Bool) (t p : ℕ) (v : HasValue x s (t * 2 ^ p) (2 ^ 149)) where
  pub digits_cross : (d : ℕ) → d + p ≡ 149 → num x * 2 ^ d ≡ t * den x
  digits_cross d e =
      eq_of_mul-eq-mul_right (2 ^ p) (pow_pos p) (num x * 2 ^ d) (t * den x)
      (mul_assoc (num x) (2 ^ d) (2 ^ p) ∙ ap (λ (y : ℕ). num x * y) (sym (pow-add 2 d p) ∙ ap (λ (y : ℕ). 2 ^ y) e) ∙ cross x s (t * 2 ^ p) (2 ^ 149) v
      ∙ mul_right_comm t (2 ^ p) (den x))

  pub digits_up : (d : ℕ) → d + p ≡ 149 → (num x + den x - 1) / den x ≡ (t + 2 ^ d - 1) / 2 ^ d
  digits_up d e = up_same (num x) (den x) t (2 ^ d) (den_pos x) (pow_pos d) (digits_cross d e)

  digits_down : (d : ℕ) → d + p ≡ 149 → num x / den x ≡ t / 2 ^ d
  digits_down d e = div_same (num x) (den x) t (2 ^ d) (den_pos x) (pow_pos d) (digits_cross d e)

  whole_cross : (j : ℕ) → 149 + j ≡ p → num x * 1 ≡ t * 2 ^ j * den x
  whole_cross j e =
      mul-one (num x)
      ∙ eq_of_mul-eq-mul_right (2 ^ 149) (pow_pos 149) (num x) (t * 2 ^ j * den x)
      (cross x s (t * 2 ^ p) (2 ^ 149) v
      ∙ ap (λ (y : ℕ). t * y * den x) (ap (λ (y : ℕ). 2 ^ y) (sym e) ∙ pow-add 2 149 j ∙ mul_comm (2 ^ 149) (2 ^ j))
      ∙ ap (λ (y : ℕ). y * den x) (sym (mul_assoc t (2 ^ j) (2 ^ 149)))
      ∙ mul_right_comm (t * 2 ^ j) (2 ^ 149) (den x))

-- the parts as the code computes them
pub pattern_value : (x : Float) → T (fits binary32 x) → T (finite x) → (s : Bool) (t p : ℕ) → s ≡ leb 2147483648 (to_bits binary32 x)
    → t ≡ sig binary32 (to_bits binary32 x) → p ≡ place binary32 (to_bits binary32 x) → HasValue x s (t * 2 ^ p) (2 ^ 149)
pattern_value x F f s t p h e g =
    subst (λ (b : Bool). HasValue x b (t * 2 ^ p) (2 ^ 149)) (sym h)
    (subst (λ (y : ℕ). HasValue x (leb 2147483648 (to_bits binary32 x)) y (2 ^ 149)) (ap₂ (λ (a b : ℕ). a * 2 ^ b) (sym e) (sym g)) (decode binary32 x F f))

pub no_nan_of : (x : Float) → T (finite x) → T (not (is_nan x))
unfolding is_nan
no_nan_of nan h = absurd h
no_nan_of (inf s) h = absurd h
no_nan_of (fin s m e) h = tt

-- ---- ceil, by the sign
pub ceil_finite : (x : Float) (s : Bool) (a c : ℕ) → HasValue x s a c → ceil_of x ≡ round binary32 s (cond s (num x / den x) ((num x + den x - 1) / den x)) 1
unfolding ceil_of
ceil_finite nan s a c v = absurd v
ceil_finite (inf t) s a c v = absurd v
ceil_finite (fin t m e) s a c v = ap (λ (b : Bool). round binary32 b (cond b (m * up e / down e) ((m * up e + down e - 1) / down e)) 1) v.0

pub not_finite : (x : Float) → finite x ≡ false → x ≡ ceil_of x
unfolding ceil_of
not_finite nan h = refl
not_finite (inf s) h = refl
not_finite (fin s m e) h = no h

-- a whole number q, rounded as the code does
whole_round : (s : Bool) (q : ℕ) → round binary32 s (q * 2 ^ 150) (2 ^ 150) ≡ round binary32 s q 1
whole_round s q = round_same binary32 s (q * 2 ^ 150) (2 ^ 150) q 1 (pow_pos 150) (pow_pos 0) (mul-one (q * 2 ^ 150))

module _ (x : Float) (t p : ℕ) where
  pub ceil_below : HasValue x true (t * 2 ^ p) (2 ^ 149) → (d q : ℕ) → d + p ≡ 149 → q ≡ t / 2 ^ d
      → round binary32 true (q * 2 ^ 150) (2 ^ (150 + 0)) ≡ ceil_of x
  ceil_below v d q e h =
      whole_round true q ∙ ap (λ (y : ℕ). round binary32 true y 1) (h ∙ sym (digits_down x true t p v d e)) ∙ sym (ceil_finite x true (t * 2 ^ p) (2 ^ 149) v)

  pub ceil_above : HasValue x false (t * 2 ^ p) (2 ^ 149) → (d q : ℕ) → d + p ≡ 149 → q ≡ (t + 2 ^ d - 1) / 2 ^ d
      → round binary32 false (q * 2 ^ 150) (2 ^ (150 + 0)) ≡ ceil_of x
  ceil_above v d q e h =
      whole_round false q ∙ ap (λ (y : ℕ). round binary32 false y 1) (h ∙ sym (digits_up x false t p v d e)) ∙ sym (ceil_finite x false (t * 2 ^ p) (2 ^ 149) v)

  -- x is whole
  pub ceil_whole : (s : Bool) → HasValue x s (t * 2 ^ p) (2 ^ 149) → (j : ℕ) → 149 + j ≡ p → round binary32 s (t * 2 ^ (p + 1)) (2 ^ (150 + 0)) ≡ ceil_of x
  ceil_whole s v j e =
      ap (λ (y : ℕ). round binary32 s y (2 ^ 150))
      (ap (λ (y : ℕ). t * y) (ap (λ (y : ℕ). 2 ^ y) (level j p e) ∙ pow-add 2 j 150) ∙ sym (mul_assoc t (2 ^ j) (2 ^ 150)))
      ∙ whole_round s (t * 2 ^ j)
      ∙ ap (λ (y : ℕ). round binary32 s y 1) (go s)
      ∙ sym (ceil_finite x s (t * 2 ^ p) (2 ^ 149) v)
    where
      level : (j p : ℕ) → 149 + j ≡ p → p + 1 ≡ j + 150
      level j p e = omega arith

      same : (a : ℕ) → a ≡ a + 1 - 1
      same a = omega arith

      c : num x * 1 ≡ t * 2 ^ j * den x
      c = whole_cross x s t p v j e

      go : (b : Bool) → t * 2 ^ j ≡ cond b (num x / den x) ((num x + den x - 1) / den x)
      go true = sym (div_same (num x) (den x) (t * 2 ^ j) 1 (den_pos x) (pow_pos 0) c ∙ div-one (t * 2 ^ j))
      go false = sym (up_same (num x) (den x) (t * 2 ^ j) 1 (den_pos x) (pow_pos 0) c ∙ div-one (t * 2 ^ j + 1 - 1) ∙ sym (same (t * 2 ^ j)))

-- ---- the count: an x from 0 to 65,536
pub limit_is : limit32 ≡ fin false 1 (pos 16)
unfolding of_bits
limit_is = refl

lower : (e : ℤ) (n : ℕ) → T (false || (eqb (0 * down e) (n * 1) && (false || eqb (0 * down e) 0))) → n ≡ 0
lower e n h = sym (sym (zero-mul (down e)) ∙ eqb→eq (0 * down e) (n * 1) (and_l (eqb (0 * down e) (n * 1)) (false || eqb (0 * down e) 0) h) ∙ mul-one n)

pub upper : (a b : ℕ) → T (ltb (a * 1) b || (eqb (a * 1) b && (true || eqb (a * 1) 0))) → a ≤ b
upper a b h = elim (or_yes (ltb (a * 1) b) (eqb (a * 1) b && true) h) [
  | inl u ↦ subst (λ (x : ℕ). x ≤ b) (mul-one a) (le_of_lt (ltb→lt (a * 1) b u))
  | inr u ↦ subst (λ (x : ℕ). x ≤ b) (mul-one a) (le_of_eq (eqb→eq (a * 1) b (and_l (eqb (a * 1) b) true u)))
]

bounded : (x : Float) → T (le plain x) → T (le x (fin false 1 (pos 16))) → T (finite x) × (num x ≤ 65536 * den x)
unfolding le lt eq
bounded nan h k = absurd h
bounded (inf true) h k = absurd h
bounded (inf false) h k = absurd k
bounded (fin true m e) h k = (tt, le_trans (le_of_eq (lower e (m * up e) h)) zero-le)
bounded (fin false m e) h k = (tt, upper (m * up e) (65536 * down e) k)

pub in_range_lem : (x : Float) → le zero32 x ≡ true → le x limit32 ≡ true → T (finite x) × (num x ≤ 65536 * den x)
in_range_lem x h k = bounded x (subst T (sym (ap (λ (z : Float). le z x) (sym zero_is) ∙ h)) tt) (subst T (sym (ap (λ (z : Float). le x z) (sym limit_is) ∙ k)) tt)

pub place_small : (x : Float) (s : Bool) (t p : ℕ) → HasValue x s (t * 2 ^ p) (2 ^ 149) → num x ≤ 65536 * den x → (p ≡ 0) ⊎ (8388608 ≤ t) → p ≤ 142
place_small x s t p v h l = elim l [
  | inl z ↦ le_trans (le_of_eq z) zero-le
  | inr g ↦
      let a : t * 2 ^ p * den x ≤ 2 ^ 165 * den x = le_trans (le_of_eq (sym (cross x s (t * 2 ^ p) (2 ^ 149) v)))
      (le_trans (mul-le-mul_right (2 ^ 149) h) (le_of_eq (mul_right_comm 65536 (den x) (2 ^ 149)))) in
      let b : t * 2 ^ p ≤ 2 ^ 165 = le_of_mul-le-mul_right a (den_pos x) in
      let c : 2 ^ (23 + p) ≤ 2 ^ 165 = le_trans (le_of_eq (pow-add 2 23 p)) (le_trans (mul-le-mul_right (2 ^ p) g) b) in
      cut p (back (23 + p) 165 c)
]
  where
    back : (a b : ℕ) → 2 ^ a ≤ 2 ^ b → a ≤ b
    back a b h = le_of_not (lt_of_not-le (λ (g : suc b ≤ a). lt_irrefl (2 ^ b) (lt_of_lt_of_le (pow-lt g) h)))
      where
        le_of_not : a < suc b → a ≤ b
        le_of_not g = omega arith

    cut : (p : ℕ) → 23 + p ≤ 165 → p ≤ 142
    cut p h = omega arith

pub whole_up_is : (x : Float) (a b : Bool) → le zero32 x ≡ a → le x limit32 ≡ b → cond (a && b) ((num x + den x - 1) / den x) 65537 ≡ whole_up_of x
unfolding whole_up_of
whole_up_is x a b h k = ap₂ (λ (p q : Bool). cond (p && q) ((num x + den x - 1) / den x) 65537) (sym h) (sym k)

-- ---- so it is the least whole number not below x, and at most 65,536
pub whole_up_least : (x : Float) → le zero32 x ≡ true → le x limit32 ≡ true → (num x ≤ whole_up_of x * den x) × (whole_up_of x * den x < num x + den x)
whole_up_least x h k =
    subst (λ (r : ℕ). (num x ≤ r * den x) × (r * den x < num x + den x)) (whole_up_is x true true h k) (up_bounds (num x) (den x) (den_pos x))

pub whole_up_le : (x : Float) → le zero32 x ≡ true → le x limit32 ≡ true → whole_up_of x ≤ 65536
whole_up_le x h k =
    last (whole_up_of x)
    (lt_of_mul-lt-mul_right (den x)
    (lt_of_lt_of_le (whole_up_least x h k).1
    (le_trans (add-le-add (in_range_lem x h k).1 (le_refl (den x)))
    (le_of_eq (sym (add-mul 65536 1 (den x) ∙ ap (λ (y : ℕ). 65536 * den x + y) (one-mul (den x))))))))
  where
    last : (r : ℕ) → r < 65537 → r ≤ 65536
    last r h = omega arith
