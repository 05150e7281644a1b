-- Laws of the nearest whole number: the same from the digits of a pattern as from the value. Assumes nothing.
use mathlib.Core.Path.{◌≡◌, refl, sym, ap, ap₂, ◌∙◌, subst}
use mathlib.Core.Logic.{inl, inr}
use mathlib.Core.Bool.{Bool, true, false, ◌&&◌, ◌||◌, cond, true≢false, or-true}
use Prim.Native.Nat.{ℕ, suc, ◌+◌, ◌*◌, ◌/◌, ◌^◌, ◌<◌, ◌≤◌}
use native.Mathlib.Nat.{mul-one, one-mul, mul_assoc, mul_comm, mul_left_comm, add-mul, mul-pos, mul-le-mul_right, zero-lt-suc}
use native.Mathlib.Nat.{le_of_eq, le_of_lt, le_trans, lt_of_not-le, eq-or-lt_of_le, div-eq_of_lt, div-lt_iff_lt-mul}
use native.Mathlib.Omega.{arith}
use lib.IntN.{pos}
use lib.Dec.{T, ltb, eqb, ltb→lt, eqb→eq}
use lib.Pow.{pow_pos}
use lib.Ieee.{Float, nan, inf, fin, up, down, level, le, lt, eq, neg, of_bits}
use lib.Ieee.Fits.{and_l, down_pos}
use lib.Ieee.Exact.{HasValue}
use lib.Ieee.Nearest.{div_same}
use lib.Ieee.Scale.{finite}
use lib.Ieee.Positive.{num, den, den_pos}
use borrow.Author.Tests.{lt-ltb, eq-eqb}
use mir.Facts.{or_yes}
use Rattle.leaves.specs.Whole.{limit32, whole_near_of}
use Rattle.leaves.proofs.WholeUp.{limit_is, upper, digits_cross}

-- ---- t / w to the nearest whole number, the same of an equal fraction n / D
near_same : (n D t w : ℕ) → 0 < D → 0 < w → n * w ≡ t * D → (2 * n + D) / (2 * D) ≡ (2 * t + w) / (2 * w)
near_same n D t w P W e =
    div_same (2 * n + D) (2 * D) (2 * t + w) (2 * w) (mul-pos (zero-lt-suc 1) P) (mul-pos (zero-lt-suc 1) W) (go 2)
  where
    first : (c n w t D : ℕ) → n * w ≡ t * D → c * n * (c * w) ≡ c * t * (c * D)
    first c n w t D h = simp (mul_assoc, mul_comm, mul_left_comm) (simp (mul_assoc, mul_comm, mul_left_comm) at (ap (λ (z : ℕ). z * (c * c)) h))

    second : (c w D : ℕ) → D * (c * w) ≡ w * (c * D)
    second c w D = simp (mul_assoc, mul_comm, mul_left_comm)

    go : (c : ℕ) → (c * n + D) * (c * w) ≡ (c * t + w) * (c * D)
    go c = add-mul (c * n) D (c * w) ∙ ap₂ (λ (a b : ℕ). a + b) (first c n w t D e) (second c w D) ∙ sym (add-mul (c * t) w (c * D))

-- below one half
pub near_none : (t w : ℕ) → 2 * t < w → 0 ≡ (2 * t + w) / (2 * w)
near_none t w h = sym (div-eq_of_lt (last t w h))
  where
    last : (t w : ℕ) → 2 * t < w → 2 * t + w < 2 * w
    last t w h = omega arith

pub near_lt : (t w : ℕ) → 0 < w → (2 * t + w) / (2 * w) < suc t
near_lt t w W = (div-lt_iff_lt-mul (mul-pos (zero-lt-suc 1) W)).1 (last (t * w) (suc t * (2 * w)) many (all 2 t w))
  where
    many : t ≤ t * w
    many = le_trans (le_of_eq (sym (one-mul t))) (le_trans (mul-le-mul_right t W) (le_of_eq (mul_comm w t)))

    all : (c t w : ℕ) → suc t * (c * w) ≡ c * (t * w) + c * w
    all c t w = ap (λ (x : ℕ). x * (c * w)) (plus t) ∙ add-mul t 1 (c * w) ∙ ap₂ (λ (a b : ℕ). a + b) (mul_left_comm t c w) (one-mul (c * w))
      where
        plus : (t : ℕ) → suc t ≡ t + 1
        plus t = omega arith

    last : (p q : ℕ) → t ≤ p → q ≡ 2 * p + 2 * w → 2 * t + w < q
    last p q h e = omega (arith, W)

-- ---- x is t * 2 ^ p smallest values
pub digits_near : (x : Float) (s : Bool) (t p : ℕ) → HasValue x s (t * 2 ^ p) (2 ^ 149) → (d : ℕ) → d + p ≡ 149
    → (2 * num x + den x) / (2 * den x) ≡ (2 * t + 2 ^ d) / (2 * 2 ^ d)
digits_near x s t p v d e = near_same (num x) (den x) t (2 ^ d) (den_pos x) (pow_pos d) (digits_cross x s t p v d e)

-- ---- an x from -65,536 to 65,536
minus_is : neg limit32 ≡ fin true 1 (pos 16)
unfolding of_bits neg
minus_is = refl

bounded : (x : Float) → T (le (fin true 1 (pos 16)) x) → T (le x (fin false 1 (pos 16))) → T (finite x) × (num x ≤ 65536 * den x)
unfolding le lt eq
bounded nan h k = absurd h
bounded (inf true) h k = absurd h
bounded (inf false) h k = absurd k
bounded (fin true m e) h k = (tt, lower (m * up e) (65536 * down e) h)
  where
    lower : (a b : ℕ) → T (ltb (a * 1) b || (eqb b (a * 1) && (true || eqb b 0))) → a ≤ b
    lower a b h = elim (or_yes (ltb (a * 1) b) (eqb b (a * 1) && true) h) [
      | inl u ↦ subst (λ (x : ℕ). x ≤ b) (mul-one a) (le_of_lt (ltb→lt (a * 1) b u))
      | inr u ↦ subst (λ (x : ℕ). x ≤ b) (mul-one a) (le_of_eq (sym (eqb→eq b (a * 1) (and_l (eqb b (a * 1)) true u))))
    ]
bounded (fin false m e) h k = (tt, upper (m * up e) (65536 * down e) k)

pub within : (x : Float) → le (neg limit32) x ≡ true → le x limit32 ≡ true → T (finite x) × (num x ≤ 65536 * den x)
within x h k =
    bounded x (subst T (sym (ap (λ (z : Float). le z x) (sym minus_is) ∙ h)) tt) (subst T (sym (ap (λ (z : Float). le x z) (sym limit_is) ∙ k)) tt)

pub whole_near_is : (x : Float) (a b : Bool) → le (neg limit32) x ≡ a → le x limit32 ≡ b
    → cond (a && b) ((2 * num x + den x) / (2 * den x)) 65537 ≡ whole_near_of x
unfolding whole_near_of
whole_near_is x a b h k = ap₂ (λ (p q : Bool). cond (p && q) ((2 * num x + den x) / (2 * den x)) 65537) (sym h) (sym k)

-- ---- and a finite x that is not among those lies beyond
inside : (a b : ℕ) → a ≤ b → ((ltb (a * 1) b || (eqb (a * 1) b && true)) ≡ true) × ((ltb (a * 1) b || (eqb b (a * 1) && true)) ≡ true)
inside a b h = elim (eq-or-lt_of_le h) [
  | inr u ↦
      let l = lt-ltb (a * 1) b (subst (λ (x : ℕ). x < b) (sym (mul-one a)) u) in
      (ap (λ (t : Bool). t || (eqb (a * 1) b && true)) l, ap (λ (t : Bool). t || (eqb b (a * 1) && true)) l)
  | inl u ↦ (
    ap (λ (t : Bool). ltb (a * 1) b || (t && true)) (eq-eqb (a * 1) b (mul-one a ∙ u)) ∙ or-true (ltb (a * 1) b),
    ap (λ (t : Bool). ltb (a * 1) b || (t && true)) (eq-eqb b (a * 1) (sym (mul-one a ∙ u))) ∙ or-true (ltb (a * 1) b),
  )
]

inside_le : (x : Float) → T (finite x) → num x ≤ 65536 * den x → (le (fin true 1 (pos 16)) x && le x (fin false 1 (pos 16))) ≡ true
unfolding le lt eq
inside_le nan f h = absurd f
inside_le (inf s) f h = absurd f
inside_le (fin true m e) f h =
    ap₂ (λ (p q : Bool). p && (q || level true (m * up e * 1) false (65536 * down e))) (inside (m * up e) (65536 * down e) h).1
    (lt-ltb 0 (m * up e * 1 + 65536 * down e) (some (m * up e * 1) (down e) (down_pos e)))
  where
    some : (a d : ℕ) → 0 < d → 0 < a + 65536 * d
    some a d h = omega arith
inside_le (fin false m e) f h =
    ap₂ (λ (p q : Bool). (p || level true (65536 * down e) false (m * up e * 1)) && q)
    (lt-ltb 0 (65536 * down e + m * up e * 1) (some (m * up e * 1) (down e) (down_pos e)))
    (inside (m * up e) (65536 * down e) h).0
  where
    some : (a d : ℕ) → 0 < d → 0 < 65536 * d + a
    some a d h = omega arith

pub beyond : (x : Float) → T (finite x) → (le (neg limit32) x && le x limit32) ≡ false → 65536 * den x < num x
beyond x f h =
    lt_of_not-le (λ (g : num x ≤ 65536 * den x). true≢false (sym (inside_le x f g)
    ∙ ap₂ (λ (a b : Float). le a x && le x b) (sym minus_is) (sym limit_is) ∙ h))
