-- `round` gives an infinity exactly from `limit f` up, the middle between the largest finite value and the next power of two: once, for every format. Below it
-- the largest finite value is nearer than that power; from it up the power is nearer, or as near and even. Assumes nothing.
use mathlib.Core.Path.{◌≡◌, refl, sym, ap, ◌∙◌, subst}
use mathlib.Core.Logic.{inl, inr}
use mathlib.Core.Bool.{Bool}
use Prim.Native.Nat.{ℕ, suc, ◌+◌, ◌-◌, ◌*◌, ◌%◌, ◌^◌, ◌≤◌, ◌<◌}
use native.Mathlib.Nat.{add-mul, mul_right_comm, mul-pos, mul-lt-mul_of_pos_right, mul-le-mul_right, lt_of_le_of_lt, lt_irrefl, le_of_lt}
use native.Mathlib.Nat.{eq_of_mul-eq-mul_right}
use native.Mathlib.Omega.{arith}
use lib.Dec.{T, lit<, lit≤}
use lib.Pow.{pow_pos}
use lib.Ieee.{Float, inf, Format, binary32, binary64, prec, emax, low, units, round, hid}
use lib.Ieee.Exact.{units_val}
use lib.Ieee.Fits.{two, two-le_pos, round_is}
use lib.Ieee.Order.{drop, kept}
use lib.Ieee.Scale.{finite, overflow}
use Rattle.rounding.specs.Nearest.{limit}
use Rattle.rounding.proofs.Basics.{le_or_lt}
use Rattle.rounding.proofs.Packing.{units_no}
use Rattle.rounding.proofs.Signed.{gap}
use Rattle.rounding.proofs.Values.{value_finite}
use Rattle.rounding.proofs.Neighbours.{next_least, same_last}
use Rattle.rounding.proofs.Nearest.{R, near_grid, tie_grid, kept_most, kept_full}

-- ---- in smallest values: the largest finite value is most * 2 ^ last, and half lies between it and the limit
most : Format → ℕ
most f = 2 ^ prec f - 1

last : Format → ℕ
last f = 2 * emax f - 1

half : Format → ℕ
half f = 2 ^ (2 * emax f - 2)

limit_is : (f : Format) → limit f * 2 ^ low f + half f ≡ overflow f
unfolding limit half
limit_is binary32 = refl
limit_is binary64 = refl

most_is : (f : Format) → most f * 2 ^ last f + 2 * half f ≡ overflow f
unfolding most last half
most_is binary32 = refl
most_is binary64 = refl

next_is : (f : Format) → suc (most f) * 2 ^ last f ≡ overflow f
unfolding most last
next_is binary32 = refl
next_is binary64 = refl

power_is : (f : Format) → hid f * 2 ^ (2 * emax f) ≡ overflow f
power_is binary32 = refl
power_is binary64 = refl

most_lt : (f : Format) → most f < 2 ^ prec f
unfolding most
most_lt binary32 = lit< tt
most_lt binary64 = lit< tt

most_leads : (f : Format) → hid f ≤ most f
unfolding most
most_leads binary32 = lit≤ tt
most_leads binary64 = lit≤ tt

half_pos : (f : Format) → 0 < half f
unfolding half
half_pos f = pow_pos (2 * emax f - 2)

most_odd : (f : Format) → most f % 2 ≡ 1
unfolding most
most_odd binary32 = refl
most_odd binary64 = refl

hid_lt : (f : Format) → hid f < 2 ^ prec f
hid_lt binary32 = lit< tt
hid_lt binary64 = lit< tt

-- ---- n / b, rounded to R smallest values
module _ (f : Format) (n b : ℕ) (B : 0 < b) where
  P : 0 < prec f
  P = two-le_pos (prec f) (two f)

  O : ℕ
  O = overflow f * b

  h : ℕ
  h = half f * b

  h_pos : 0 < h
  unfolding h
  h_pos = mul-pos (half_pos f) B

  most_b : most f * 2 ^ last f * b + 2 * h ≡ O
  unfolding O h
  most_b = regroup (most f * 2 ^ last f) (half f) ∙ ap (λ (x : ℕ). x * b) (most_is f)
    where
      regroup : (m k : ℕ) → m * b + 2 * (k * b) ≡ (m + 2 * k) * b
      regroup m k = omega arith

  stays : n + h < O → R (prec f) n b P B < overflow f
  stays l = elim (le_or_lt (overflow f) (R (prec f) n b P B)) [
    | inl g ↦
        absurd (no (R (prec f) n b P B * b) (most f * 2 ^ last f * b) (unfold O in mul-le-mul_right b g) most_b
        (near_grid (prec f) n b P B (most f) (last f) (most_lt f)))
    | inr g ↦ g
  ]
    where
      no : (r m : ℕ) → O ≤ r → m + 2 * h ≡ O → gap r n ≤ gap m n → ⊥
      no r m g e k = omega (arith, l, h_pos)

  power_b : hid f * 2 ^ (2 * emax f) * b ≡ O
  unfolding O
  power_b = ap (λ (x : ℕ). x * b) (power_is f)

  at_most : R (prec f) n b P B < overflow f → R (prec f) n b P B ≤ most f * 2 ^ last f
  unfolding R
  at_most g = elim (le_or_lt (R (prec f) n b P B) (most f * 2 ^ last f)) [
    | inl l ↦ l
    | inr l ↦
        absurd (lt_irrefl (overflow f) (lt_of_le_of_lt
        (subst (λ (x : ℕ). x ≤ R (prec f) n b P B) (next_is f)
        (next_least f (most f) (last f) (kept (prec f) n b) (drop (prec f) n b) (inr (most_leads f)) (kept_most (prec f) n b P B) l)) g))
  ]

  -- a tie: the largest finite value is odd
  not_most : R (prec f) n b P B ≡ most f * 2 ^ last f → n + h ≡ O → ⊥
  unfolding R
  not_most e t =
      let q = kept (prec f) n b in
      let k = drop (prec f) n b in
      odd q (most f)
      (tie_grid (prec f) n b P B (hid f) (2 * emax f) (hid_lt f)
      (level (q * 2 ^ k * b) (most f * 2 ^ last f * b) (hid f * 2 ^ (2 * emax f) * b) (ap (λ (x : ℕ). x * b) e) most_b power_b)
      (λ i. over (most f * 2 ^ last f) (half f) (overflow f) (half_pos f) (most_is f) (sym e ∙ sym i ∙ power_is f)))
      (most_odd f) (same_last f q k (most f) (last f) (kept_most (prec f) n b P B) (kept_full (prec f) n b P B) (le_of_lt (most_lt f)) (inr (most_leads f)) e)
    where
      odd : (q m : ℕ) → q % 2 ≡ 0 → m % 2 ≡ 1 → q % 2 ≡ m % 2 → ⊥
      odd q m i j k = omega arith

      level : (r m p : ℕ) → r ≡ m → m + 2 * h ≡ O → p ≡ O → gap r n ≡ gap p n
      level r m p i j k = omega (arith, t)

      over : (m k o : ℕ) → 0 < k → m + 2 * k ≡ o → m ≡ o → ⊥
      over m k o l i j = omega arith

  leaves : O ≤ n + h → overflow f ≤ R (prec f) n b P B
  leaves l = elim (le_or_lt (overflow f) (R (prec f) n b P B)) [
    | inl g ↦ g
    | inr g ↦
        let r = R (prec f) n b P B in
        let k : gap (r * b) n ≤ gap O n =
        subst (λ (x : ℕ). gap (r * b) n ≤ gap x n) power_b (near_grid (prec f) n b P B (hid f) (2 * emax f) (hid_lt f)) in
        let z = both (r * b) (most f * 2 ^ last f * b) (mul-le-mul_right b (at_most g)) most_b k in
        absurd (not_most (eq_of_mul-eq-mul_right b B r (most f * 2 ^ last f) z.0) z.1)
  ]
    where
      both : (r m : ℕ) → r ≤ m → m + 2 * h ≡ O → gap r n ≤ gap O n → (r ≡ m) × (n + h ≡ O)
      both r m i e k = omega (arith, l, h_pos)

-- ---- the laws
module _ (f : Format) (s : Bool) (a b : ℕ) (B : 0 < b) where
  scaled : limit f * b * 2 ^ low f + half f * b ≡ overflow f * b
  scaled =
      ap (λ (x : ℕ). x + half f * b) (mul_right_comm (limit f) b (2 ^ low f)) ∙ sym (add-mul (limit f * 2 ^ low f) (half f) b)
      ∙ ap (λ (x : ℕ). x * b) (limit_is f)

  pub round_overflows : limit f * b ≤ a → round f s a b ≡ inf s
  unfolding R O h
  round_overflows l =
      let n = a * 2 ^ low f in
      round_is f s a b
      ∙ units_no f s (kept (prec f) n b) (drop (prec f) n b)
      (leaves f n b B (reach (limit f * b * 2 ^ low f) n (half f * b) (overflow f * b) (mul-le-mul_right (2 ^ low f) l) scaled))
    where
      reach : (x n k o : ℕ) → x ≤ n → x + k ≡ o → o ≤ n + k
      reach x n k o l e = omega arith

  pub round_stays : a < limit f * b → T (finite (round f s a b))
  unfolding R O h
  round_stays l =
      let n = a * 2 ^ low f in
      let q = kept (prec f) n b in
      let k = drop (prec f) n b in
      subst (λ (v : Float). T (finite v)) (sym (round_is f s a b))
      (value_finite (units f s q k) s (q * 2 ^ k) (2 ^ low f) (units_val f s q k
      (stays f n b B (short (limit f * b * 2 ^ low f) n (half f * b) (overflow f * b) (mul-lt-mul_of_pos_right l (pow_pos (low f))) scaled))))
    where
      short : (x n k o : ℕ) → n < x → x + k ≡ o → n + k < o
      short x n k o l e = omega arith
