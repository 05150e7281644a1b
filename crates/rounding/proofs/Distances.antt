-- How far two values lie from E / D, compared in whole numbers of a common unit 1 / L; and when two are the same value, or the same float. Assumes nothing.
use mathlib.Core.Path.{◌≡◌, refl, sym, ap, ap₂, ◌∙◌}
use mathlib.Core.Logic.{◌⊎◌, inl, inr}
use mathlib.Core.Bool.{Bool, true, false}
use Prim.Native.Nat.{ℕ, zero, suc, ◌*◌, ◌^◌, ◌≤◌, ◌<◌}
use native.Mathlib.Nat.{mul_assoc, mul_comm, mul_right_comm, mul-pos, mul-le-mul_right, le_of_mul-le-mul_right, eq_of_mul-eq-mul_right}
use native.Mathlib.Nat.{zero-mul, le_trans, le_of_eq}
use lib.IntN.{ℤ, pos, nat_abs, ◌-ℤ◌, ◌*ℤ◌}
use lib.Dec.{T}
use lib.Ieee.{Float, nan, inf, fin, Format, low, up, down, fits, of_bits}
use lib.Ieee.Bits.{of_bits-to_bits}
use lib.Ieee.Exact.{HasValue}
use lib.Ieee.Positive.{num, den, den_pos}
use Rattle.rounding.specs.Nearest.{signed, signed_num, far_from}
use Rattle.rounding.proofs.Packing.{to_bits_value}
use Rattle.rounding.proofs.Signed.{apart, apart_is, apart_scale, signed_times}
use Rattle.rounding.proofs.Values.{cross}

-- ---- a float that is X / L, with the sign t
far_scale : (x : Float) (t : Bool) (X L : ℕ) (s : Bool) (a b : ℕ) → HasValue x t X L → far_from x (signed s a) b * L ≡ apart t (X * b) s (a * L) * den x
far_scale nan t X L s a b v = absurd v
far_scale (inf i) t X L s a b v = absurd v
far_scale (fin i m e) t X L s a b v =
    let N = m * up e in
    let d = down e in
    ap (λ (x : ℕ). x * L) (ap₂ (λ (x y : ℤ). nat_abs (x -ℤ y)) (signed_times i N b) (signed_times s a d) ∙ apart_is i (N * b) s (a * d))
    ∙ sym (apart_scale i (N * b) s (a * d) L)
    ∙ ap₂ (λ (x y : ℕ). apart i x s y) (mul_right_comm N b L ∙ ap (λ (x : ℕ). x * b) v.1 ∙ mul_right_comm X d b) (mul_right_comm a d L)
    ∙ apart_scale i (X * b) s (a * L) d
    ∙ ap (λ (j : Bool). apart j (X * b) s (a * L) * d) v.0

signed_num_is : (x : Float) (t : Bool) (X L : ℕ) → HasValue x t X L → signed_num x ≡ signed t (num x)
signed_num_is nan t X L v = absurd v
signed_num_is (inf i) t X L v = absurd v
signed_num_is (fin i m e) t X L v = ap (λ (j : Bool). signed j (m * up e)) v.0

pub abs_signed : (s : Bool) (a : ℕ) → nat_abs (signed s a) ≡ a
abs_signed false a = refl
abs_signed true zero = refl
abs_signed true (suc a) = refl

nought : (t s : Bool) → signed t 0 ≡ signed s 0
nought true true = refl
nought true false = refl
nought false true = refl
nought false false = refl

-- ---- x is X / L with the sign t, and y is Y / L with the sign u
module _ (x y : Float) (t u : Bool) (X Y L : ℕ) (P : 0 < L) (v : HasValue x t X L) (w : HasValue y u Y L) where
  D : 0 < den x * den y
  D = mul-pos (den_pos x) (den_pos y)

  -- both distances from ±a / b, in the same units
  module _ (s : Bool) (a b : ℕ) where
    x_far : far_from x (signed s a) b * den y * L ≡ apart t (X * b) s (a * L) * (den x * den y)
    x_far =
        mul_right_comm (far_from x (signed s a) b) (den y) L
        ∙ ap (λ (z : ℕ). z * den y) (far_scale x t X L s a b v)
        ∙ mul_assoc (apart t (X * b) s (a * L)) (den x) (den y)

    y_far : far_from y (signed s a) b * den x * L ≡ apart u (Y * b) s (a * L) * (den x * den y)
    y_far =
        mul_right_comm (far_from y (signed s a) b) (den x) L
        ∙ ap (λ (z : ℕ). z * den x) (far_scale y u Y L s a b w)
        ∙ mul_assoc (apart u (Y * b) s (a * L)) (den y) (den x)
        ∙ ap (λ (z : ℕ). apart u (Y * b) s (a * L) * z) (mul_comm (den y) (den x))

    pub far_of_lem : apart t (X * b) s (a * L) ≤ apart u (Y * b) s (a * L) → far_from x (signed s a) b * den y ≤ far_from y (signed s a) b * den x
    far_of_lem h = le_of_mul-le-mul_right (le_trans (le_of_eq x_far) (le_trans (mul-le-mul_right (den x * den y) h) (le_of_eq (sym y_far)))) P

    pub of_far : far_from x (signed s a) b * den y ≤ far_from y (signed s a) b * den x → apart t (X * b) s (a * L) ≤ apart u (Y * b) s (a * L)
    of_far h = le_of_mul-le-mul_right (le_trans (le_of_eq (sym x_far)) (le_trans (mul-le-mul_right L h) (le_of_eq y_far))) D

    pub of_level : far_from x (signed s a) b * den y ≡ far_from y (signed s a) b * den x → apart t (X * b) s (a * L) ≡ apart u (Y * b) s (a * L)
    of_level e =
        eq_of_mul-eq-mul_right (den x * den y) D (apart t (X * b) s (a * L)) (apart u (Y * b) s (a * L)) (sym x_far ∙ ap (λ (z : ℕ). z * L) e ∙ y_far)

  -- the values as fractions
  fraction_of : X ≡ Y → num x * den y ≡ num y * den x
  fraction_of e =
      eq_of_mul-eq-mul_right L P (num x * den y) (num y * den x)
      (mul_right_comm (num x) (den y) L ∙ ap (λ (z : ℕ). z * den y) (cross x t X L v ∙ ap (λ (z : ℕ). z * den x) e) ∙ mul_right_comm Y (den x) (den y)
      ∙ ap (λ (z : ℕ). z * den x) (sym (cross y u Y L w)) ∙ mul_right_comm (num y) L (den x))

  of_fraction : num x * den y ≡ num y * den x → X ≡ Y
  of_fraction e =
      eq_of_mul-eq-mul_right (den x * den y) D X Y
      (sym (mul_assoc X (den x) (den y)) ∙ ap (λ (z : ℕ). z * den y) (sym (cross x t X L v)) ∙ mul_right_comm (num x) L (den y)
      ∙ ap (λ (z : ℕ). z * L) e
      ∙ mul_right_comm (num y) (den x) L ∙ ap (λ (z : ℕ). z * den x) (cross y u Y L w) ∙ mul_assoc Y (den y) (den x)
      ∙ ap (λ (z : ℕ). Y * z) (mul_comm (den y) (den x)))

  left_is : signed_num x *ℤ pos (den y) ≡ signed t (num x * den y)
  left_is = ap (λ (z : ℤ). z *ℤ pos (den y)) (signed_num_is x t X L v) ∙ signed_times t (num x) (den y)

  right_is : signed_num y *ℤ pos (den x) ≡ signed u (num y * den x)
  right_is = ap (λ (z : ℤ). z *ℤ pos (den x)) (signed_num_is y u Y L w) ∙ signed_times u (num y) (den x)

  pub same_value : X ≡ Y → (t ≡ u) ⊎ (X ≡ 0) → signed_num x *ℤ pos (den y) ≡ signed_num y *ℤ pos (den x)
  same_value e o =
      left_is ∙ sides (num x * den y) (num y * den x) (fraction_of e) none o ∙ sym right_is
    where
      none : X ≡ 0 → num x * den y ≡ 0
      none z =
          ap (λ (k : ℕ). k * den y) (eq_of_mul-eq-mul_right L P (num x) 0 (cross x t X L v ∙ ap (λ (k : ℕ). k * den x) z ∙ zero-mul (den x) ∙ sym (zero-mul L)))
          ∙ zero-mul (den y)

      sides : (A C : ℕ) → A ≡ C → (X ≡ 0 → A ≡ 0) → (t ≡ u) ⊎ (X ≡ 0) → signed t A ≡ signed u C
      sides A C c z o = elim o [
        | inl h ↦ ap₂ (λ (i : Bool) (k : ℕ). signed i k) h c
        | inr h ↦ ap (λ (k : ℕ). signed t k) (z h) ∙ nought t u ∙ ap (λ (k : ℕ). signed u k) (sym (sym c ∙ z h))
      ]

  pub of_same : signed_num x *ℤ pos (den y) ≡ signed_num y *ℤ pos (den x) → X ≡ Y
  of_same e =
      of_fraction (sym (abs_signed t (num x * den y)) ∙ ap nat_abs (sym left_is ∙ e ∙ right_is) ∙ abs_signed u (num y * den x))

-- ---- a sign and a number of smallest values have one float of the format
pub same_float : (f : Format) (x y : Float) (s : Bool) (X : ℕ) → T (fits f x) → T (fits f y) → HasValue x s X (2 ^ low f) → HasValue y s X (2 ^ low f) → x ≡ y
same_float f x y s X F G v w =
    sym (of_bits-to_bits f x F) ∙ ap (λ (b : ℕ). of_bits f b) (to_bits_value f x s X v ∙ sym (to_bits_value f y s X w)) ∙ of_bits-to_bits f y G
