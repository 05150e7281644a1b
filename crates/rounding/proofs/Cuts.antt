-- Laws of `cut_to`, w smallest values without the digits that the format does not keep: what it is worth, that it is a value of the format, and which value
-- comes next. Assumes nothing.
use mathlib.Core.Path.{◌≡◌, refl, sym, ap, ◌∙◌, subst}
use mathlib.Core.Logic.{◌⊎◌, inl, inr}
use mathlib.Core.Bool.{false}
use Prim.Native.Nat.{ℕ, suc, ◌+◌, ◌-◌, ◌*◌, ◌/◌, ◌%◌, ◌^◌, ◌≤◌, ◌<◌}
use native.Mathlib.Nat.{mul-pos, mul-lt-mul_of_pos_right, eq-zero-or-pos, le-div_iff_mul-le}
use native.Mathlib.Nat.{div-mul-le_self, div-add-mod', mod-lt, suc-mul, mul-le-mul_right, lt_of_le_of_lt, le_trans, le_of_eq, le_of_lt}
use native.Mathlib.Omega.{arith}
use lib.Dec.{T}
use lib.Pow.{pow_pos}
use lib.Ieee.{Float, Format, prec, emax, low, hid, ones, size, units, fits, of_bits}
use lib.Ieee.Exact.{HasValue, units_val}
use lib.Ieee.Fits.{two, two-le_pos, kept-lt}
use lib.Ieee.Positive.{num, den, den_pos}
use lib.Ieee.Scale.{finite}
use native.Mathlib.Numerals.{lt-add-one, add-one-le}
use Rattle.rounding.specs.Roots.{cut_to, next_above}
use Rattle.rounding.proofs.Basics.{le_or_lt}
use Rattle.rounding.proofs.Grid.{leading, on_grid}
use Rattle.rounding.proofs.Packing.{finite_bits, units_in, units_fits, units_bits, units_finite}
use Rattle.rounding.proofs.Rounding.{size_at}
use Rattle.rounding.proofs.Values.{cross, fraction_lt, value_finite}

-- w is q * 2 ^ k and less than 2 ^ k more, where q has as many digits as the format keeps
pub cut_at : (f : Format) (w q k : ℕ) → w / 2 ^ k ≡ q → 2 ^ (prec f - 1) ≤ q → q < 2 ^ prec f → cut_to f w ≡ units f false q k
unfolding cut_to
cut_at f w q k e lo hi =
    ap (λ (j : ℕ). units f false (w / 2 ^ j) j)
    (size_at (prec f) w k (two-le_pos (prec f) (two f)) (subst (λ (x : ℕ). x < 2 ^ prec f) (sym e) hi)
    (inr (subst (λ (x : ℕ). 2 ^ (prec f - 1) ≤ x) (sym e) lo)))
    ∙ ap (λ (x : ℕ). units f false x k) e

module _ (f : Format) (w : ℕ) where
  -- how many digits go, and what stays
  unfoldable pub gone : ℕ
  gone = size w - prec f

  unfoldable pub kept : ℕ
  kept = w / 2 ^ gone

  pub cut_le : kept * 2 ^ gone ≤ w
  unfolding kept
  cut_le = div-mul-le_self w (2 ^ gone)

  pub cut_gt : w < kept * 2 ^ gone + 2 ^ gone
  unfolding kept
  cut_gt = go w (w / 2 ^ gone * 2 ^ gone) (w % 2 ^ gone) (2 ^ gone) (div-add-mod' w (2 ^ gone)) (mod-lt w (pow_pos gone))
    where
      go : (w a r d : ℕ) → a + r ≡ w → r < d → w < a + d
      go w a r d e l = omega arith

  -- each value of the format lies at the cut or below, or at the next or above
  pub cut_off : (c j : ℕ) → c < 2 ^ prec f → (c * 2 ^ j ≤ kept * 2 ^ gone) ⊎ (kept * 2 ^ gone + 2 ^ gone ≤ c * 2 ^ j)
  unfolding kept gone
  cut_off c j C = elim (on_grid (prec f) w (two-le_pos (prec f) (two f)) c j C) [
    | inl y ↦ elim (le_or_lt y.0 kept) [
      | inl l ↦ inl (le_trans (le_of_eq y.1) (mul-le-mul_right (2 ^ gone) l))
      | inr l ↦ inr (le_trans (le_of_eq (sym (suc-mul kept (2 ^ gone)))) (le_trans (mul-le-mul_right (2 ^ gone) l) (le_of_eq (sym y.1))))
    ]
    | inr y ↦ inl (le_trans (le_of_lt y.0) (mul-le-mul_right (2 ^ gone) ((le-div_iff_mul-le (pow_pos gone)).1 y.1)))
  ]

  kept_fits : kept < 2 ^ prec f
  unfolding kept gone
  kept_fits = kept-lt (prec f) w

  pub cut_fits : T (fits f (cut_to f w))
  unfolding cut_to kept gone
  cut_fits = units_in f false kept gone (le_of_lt kept_fits)

  module _ (W : w < 2 ^ (low f + suc (emax f))) where
    pub cut_value : HasValue (cut_to f w) false (kept * 2 ^ gone) (2 ^ low f)
    unfolding cut_to kept gone
    cut_value = units_val f false kept gone (lt_of_le_of_lt cut_le W)

    -- ---- the next value: one more in the last of the digits that stay, where that is not too large
    module _ (room : gone * hid f + (kept + 1) < ones f * hid f) where
      full : (gone ≡ 0) ⊎ (hid f ≤ kept)
      unfolding kept gone
      full =
          elim (eq-zero-or-pos gone) [
            | inl z ↦ inl z
            | inr h ↦ inr
                ((le-div_iff_mul-le (pow_pos gone)).1 (leading (prec f) w (two-le_pos (prec f) (two f)) gone refl h))
          ]

      fuller : (gone ≡ 0) ⊎ (hid f ≤ kept + 1)
      fuller = elim full [ inl z ↦ inl z | inr h ↦ inr (one_more (hid f) kept h) ]
        where
          one_more : (a c : ℕ) → a ≤ c → a ≤ c + 1
          one_more a c h = omega arith

      next_digits : kept + 1 ≤ 2 ^ prec f
      next_digits = add-one-le kept_fits

      next_lt : (kept + 1) * 2 ^ gone < 2 ^ (low f + suc (emax f))
      next_lt = finite_bits f (kept + 1) gone next_digits fuller room

      next_is : units f false (kept + 1) gone ≡ next_above f (cut_to f w)
      unfolding cut_to kept gone
      next_is =
          units_finite f false (kept + 1) gone next_digits fuller room
          ∙ ap (λ (b : ℕ). of_bits f b) (regroup (gone * hid f) kept
          ∙ ap (λ (b : ℕ). b + 1) (sym (units_bits f false kept gone (le_of_lt kept_fits) full (lt_of_le_of_lt cut_le W))))
        where
          regroup : (a c : ℕ) → 0 + (a + (c + 1)) ≡ 0 + (a + c) + 1
          regroup a c = omega arith

      next_value : HasValue (next_above f (cut_to f w)) false ((kept + 1) * 2 ^ gone) (2 ^ low f)
      next_value = subst (λ (v : Float). HasValue v false ((kept + 1) * 2 ^ gone) (2 ^ low f)) next_is (units_val f false (kept + 1) gone next_lt)

      pub next_fits : T (fits f (next_above f (cut_to f w)))
      next_fits = subst (λ (v : Float). T (fits f v)) next_is (units_fits f false (kept + 1) gone next_digits next_lt)

      pub next_finite : T (finite (next_above f (cut_to f w)))
      next_finite = value_finite (next_above f (cut_to f w)) false ((kept + 1) * 2 ^ gone) (2 ^ low f) next_value

      pub next_greater : num (cut_to f w) * den (next_above f (cut_to f w)) < num (next_above f (cut_to f w)) * den (cut_to f w)
      next_greater =
          let r = cut_to f w in
          let x = next_above f r in
          fraction_lt (num r) (den r) (num x) (den x) (kept * 2 ^ gone) ((kept + 1) * 2 ^ gone) (2 ^ low f) (mul-pos (den_pos r) (den_pos x))
          (cross r false (kept * 2 ^ gone) (2 ^ low f) cut_value)
          (cross x false ((kept + 1) * 2 ^ gone) (2 ^ low f) next_value) (mul-lt-mul_of_pos_right (lt-add-one kept) (pow_pos gone))
