-- Rounding gives a nearest value of the format, and at a tie the one whose significand is even: once, for every format. The plan: in units of the smallest
-- value a / b is n / b, the result is R = q * 2 ^ k, and any value of the format is c * 2 ^ j with c of prec digits. That is a multiple of 2 ^ k, of which
-- `closest` takes a nearest; or it lies below 2 ^ (prec - 1 + k), itself a multiple of 2 ^ k that n / b reaches, and so is farther still. Assumes nothing.
use mathlib.Core.Path.{◌≡◌, refl, sym, ap, ◌∙◌, subst}
use mathlib.Core.Logic.{◌⊎◌, inl, inr}
use mathlib.Core.Bool.{Bool, true, false, cond}
use Prim.Native.Nat.{ℕ, suc, ◌+◌, ◌-◌, ◌*◌, ◌/◌, ◌%◌, ◌^◌, ◌≤◌, ◌<◌, compare}
use native.Mathlib.Nat.{mul_assoc, mul_comm, mul_right_comm, mul-pos, mul-lt-mul_of_pos_right, mul-le-mul_right, le_of_lt}
use native.Mathlib.Nat.{eq_of_mul-eq-mul_right, zero-mul, div-mul-le_self, div-div-eq-div-mul, le-div_iff_mul-le, le_trans, le_of_eq, eq-zero-or-pos}
use native.Mathlib.Omega.{arith}
use lib.IntN.{pos, ◌*ℤ◌}
use lib.Dec.{T, leb, ltb, ltb→lt}
use lib.Pow.{pow_pos}
use lib.Ieee.{Float, inf, Format, prec, low, odd, units, round, fits, hid, ones, top, to_bits}
use lib.Ieee.Fits.{two, two-le_pos, round_is, round-fits, kept-lt, nearest-le}
use lib.Ieee.Exact.{HasValue, units_val}
use lib.Ieee.Nearest.{nearest-ge}
use lib.Ieee.Order.{drop, kept}
use lib.Ieee.Positive.{den}
use lib.Ieee.Scale.{finite, overflow}
use Rattle.rounding.specs.Parts.{sig, place}
use Rattle.rounding.specs.Nearest.{signed, signed_num, far_from, NearestTo}
use Rattle.rounding.proofs.Parts.{hid_even, sig_lt}
use Rattle.rounding.proofs.Packing.{units_bits}
use Rattle.rounding.proofs.Values.{worth, worth_value}
use Rattle.rounding.proofs.Signed.{gap, apart}
use Rattle.rounding.proofs.Distances.{far_of_lem, of_level, same_value}
use Rattle.rounding.proofs.Grid.{leading, on_grid}
use Rattle.rounding.proofs.Closest.{closest_near, closest_tie}

-- ---- over whole numbers: n / b, of which `drop p n b` digits are dropped
module _ (p n b : ℕ) (P : 0 < p) (B : 0 < b) where
  unfoldable pub R : ℕ
  R = kept p n b * 2 ^ drop p n b

  U : 0 < b * 2 ^ drop p n b
  U = mul-pos B (pow_pos (drop p n b))

  times_u : (Y : ℕ) → Y * 2 ^ drop p n b * b ≡ Y * (b * 2 ^ drop p n b)
  times_u Y = mul_assoc Y (2 ^ drop p n b) b ∙ ap (λ (x : ℕ). Y * x) (mul_comm (2 ^ drop p n b) b)

  -- what is kept has p digits, or is 2 ^ p; and its leading digit where some are dropped
  whole_part : n / b / 2 ^ drop p n b ≡ n / (b * 2 ^ drop p n b)
  whole_part = div-div-eq-div-mul n b (2 ^ drop p n b)

  pub part_lt : n / (b * 2 ^ drop p n b) < 2 ^ p
  part_lt = subst (λ (x : ℕ). x < 2 ^ p) whole_part (kept-lt p (n / b))

  pub part_full : 0 < drop p n b → 2 ^ (p - 1) ≤ n / (b * 2 ^ drop p n b)
  part_full h = subst (λ (x : ℕ). 2 ^ (p - 1) ≤ x) whole_part ((le-div_iff_mul-le (pow_pos (drop p n b))).1 (leading p (n / b) P (drop p n b) refl h))

  pub kept_most : kept p n b ≤ 2 ^ p
  kept_most = le_trans (nearest-le (n / (b * 2 ^ drop p n b)) (compare (n % (b * 2 ^ drop p n b) * 2) (b * 2 ^ drop p n b))) part_lt

  pub kept_least : n / (b * 2 ^ drop p n b) ≤ kept p n b
  kept_least = nearest-ge (n / (b * 2 ^ drop p n b)) (compare (n % (b * 2 ^ drop p n b) * 2) (b * 2 ^ drop p n b))

  pub kept_full : (drop p n b ≡ 0) ⊎ (2 ^ (p - 1) ≤ kept p n b)
  kept_full = elim (eq-zero-or-pos (drop p n b)) [ inl z ↦ inl z | inr h ↦ inr (le_trans (part_full h) kept_least) ]

  reached : 2 ^ (p - 1) * 2 ^ drop p n b ≤ n / b → 2 ^ (p - 1) * 2 ^ drop p n b * b ≤ n
  reached h = le_trans (mul-le-mul_right b h) (div-mul-le_self n b)

  near_multiple : (Y : ℕ) → gap (R * b) n ≤ gap (Y * 2 ^ drop p n b * b) n
  unfolding R
  near_multiple Y =
      subst (λ (x : ℕ). gap x n ≤ gap (Y * 2 ^ drop p n b * b) n) (sym (times_u (kept p n b)))
      (subst (λ (x : ℕ). gap (kept p n b * (b * 2 ^ drop p n b)) n ≤ gap x n) (sym (times_u Y)) (closest_near n (b * 2 ^ drop p n b) U Y))

  -- below a multiple that n / b reaches: farther than it
  farther : (X L : ℕ) → X * b < L → L ≤ n → gap L n < gap (X * b) n
  farther X L h l = go (X * b) h
    where
      go : (A : ℕ) → A < L → gap L n < gap A n
      go A h = omega (arith, l)

  under : (X : ℕ) → X < 2 ^ (p - 1) * 2 ^ drop p n b → 2 ^ (p - 1) * 2 ^ drop p n b * b ≤ n → gap (R * b) n < gap (X * b) n
  under X h l =
      go (gap (R * b) n) (gap (2 ^ (p - 1) * 2 ^ drop p n b * b) n) (gap (X * b) n) (near_multiple (2 ^ (p - 1)))
      (farther X (2 ^ (p - 1) * 2 ^ drop p n b * b) (mul-lt-mul_of_pos_right h B) l)
    where
      go : (x y z : ℕ) → x ≤ y → y < z → x < z
      go x y z h k = omega arith

  pub near_grid : (c j : ℕ) → c < 2 ^ p → gap (R * b) n ≤ gap (c * 2 ^ j * b) n
  near_grid c j C = elim (on_grid p (n / b) P c j C) [
    | inl y ↦ subst (λ (x : ℕ). gap (R * b) n ≤ gap (x * b) n) (sym y.1) (near_multiple y.0)
    | inr y ↦ le_of_lt (under (c * 2 ^ j) y.0 (reached y.1))
  ]

  near_zero : gap (R * b) n ≤ n
  near_zero = le_trans (near_multiple 0) (le_of_eq (ap (λ (x : ℕ). gap x n) (ap (λ (x : ℕ). x * b) (zero-mul (2 ^ drop p n b)) ∙ zero-mul b) ∙ only n))
    where
      only : (n : ℕ) → 0 - n + (n - 0) ≡ n
      only n = omega arith

  tie_multiple : (Y : ℕ) → gap (R * b) n ≡ gap (Y * 2 ^ drop p n b * b) n → (Y * 2 ^ drop p n b ≡ R → ⊥) → kept p n b % 2 ≡ 0
  unfolding R
  tie_multiple Y g d =
      let u = b * 2 ^ drop p n b in
      let q = kept p n b in
      closest_tie n u U Y (ap (λ (x : ℕ). gap x n) (sym (times_u q)) ∙ g ∙ ap (λ (x : ℕ). gap x n) (times_u Y))
      (λ e. d (eq_of_mul-eq-mul_right b B (Y * 2 ^ drop p n b) (q * 2 ^ drop p n b) (times_u Y ∙ e ∙ sym (times_u q))))

  pub tie_grid : (c j : ℕ) → c < 2 ^ p → gap (R * b) n ≡ gap (c * 2 ^ j * b) n → (c * 2 ^ j ≡ R → ⊥) → kept p n b % 2 ≡ 0
  tie_grid c j C g d = elim (on_grid p (n / b) P c j C) [
    | inl y ↦ tie_multiple y.0 (g ∙ ap (λ (x : ℕ). gap (x * b) n) y.1) (λ e. d (y.1 ∙ e))
    | inr y ↦ absurd (strict (gap (R * b) n) (gap (c * 2 ^ j * b) n) g (under (c * 2 ^ j) y.0 (reached y.1)))
  ]
    where
      strict : (x y : ℕ) → x ≡ y → x < y → ⊥
      strict x y e h = omega arith

  -- with signs: a value of the other sign, or of the same
  near_signed : (s t : Bool) (c j : ℕ) → c < 2 ^ p → apart s (R * b) s n ≤ apart t (c * 2 ^ j * b) s n
  unfolding apart
  near_signed true true c j C = near_grid c j C
  near_signed false false c j C = near_grid c j C
  near_signed true false c j C = more (gap (R * b) n) (c * 2 ^ j * b) near_zero
    where
      more : (x y : ℕ) → x ≤ n → x ≤ y + n
      more x y h = omega arith
  near_signed false true c j C = more (gap (R * b) n) (c * 2 ^ j * b) near_zero
    where
      more : (x y : ℕ) → x ≤ n → x ≤ y + n
      more x y h = omega arith

  -- a value of the other sign can be as near only if it is 0
  other_side : (X : ℕ) → gap (R * b) n ≡ X * b + n → (X ≡ 0) × (gap (R * b) n ≡ gap (0 * 2 ^ drop p n b * b) n)
  other_side X g = (
    none X B (first (gap (R * b) n) (X * b) g near_zero),
    second (gap (R * b) n) (X * b) g near_zero ∙ sym (ap (λ (x : ℕ). gap x n) (ap (λ (x : ℕ). x * b) (zero-mul (2 ^ drop p n b)) ∙ zero-mul b) ∙ only n),
  )
    where
      first : (x y : ℕ) → x ≡ y + n → x ≤ n → y ≡ 0
      first x y e h = omega arith

      second : (x y : ℕ) → x ≡ y + n → x ≤ n → x ≡ n
      second x y e h = omega arith

      only : (n : ℕ) → 0 - n + (n - 0) ≡ n
      only n = omega arith

      none : (X : ℕ) → 0 < b → X * b ≡ 0 → X ≡ 0
      none X h e = eq_of_mul-eq-mul_right b h X 0 (e ∙ sym (zero-mul b))

  tie_signed : (s t : Bool) (c j : ℕ) → c < 2 ^ p → apart s (R * b) s n ≡ apart t (c * 2 ^ j * b) s n → (c * 2 ^ j ≡ R → (t ≡ s) ⊎ (R ≡ 0) → ⊥)
      → kept p n b % 2 ≡ 0
  unfolding apart
  tie_signed true true c j C g d = tie_grid c j C g (λ e. d e (inl refl))
  tie_signed false false c j C g d = tie_grid c j C g (λ e. d e (inl refl))
  tie_signed true false c j C g d =
      let z = other_side (c * 2 ^ j) g in tie_multiple 0 z.1
      (λ e. d (z.0 ∙ sym (zero-mul (2 ^ drop p n b)) ∙ e) (inr (sym (sym (zero-mul (2 ^ drop p n b)) ∙ e))))
  tie_signed false true c j C g d =
      let z = other_side (c * 2 ^ j) g in tie_multiple 0 z.1
      (λ e. d (z.0 ∙ sym (zero-mul (2 ^ drop p n b)) ∙ e) (inr (sym (sym (zero-mul (2 ^ drop p n b)) ∙ e))))

units_under : (f : Format) (s : Bool) (q k : ℕ) → T (finite (units f s q k)) → q * 2 ^ k < overflow f
unfolding units
units_under f s q k = go (ltb (q * 2 ^ k) (overflow f)) (ltb→lt (q * 2 ^ k) (overflow f))
  where
    go : (b : Bool) → (T b → q * 2 ^ k < overflow f) → T (finite (cond b (odd (suc (prec f)) s q k (low f)) (inf s))) → q * 2 ^ k < overflow f
    go true h t = h tt
    go false h t = absurd t

-- the two digits of weight above the last are even
even_bits : (f : Format) (s : Bool) (k q : ℕ) → q % 2 ≡ 0 → (cond s (top f) 0 + (k * hid f + q)) % 2 ≡ 0
even_bits f s k q e =
    let h = 2 ^ (prec f - 2) in
    go s (k * hid f) (k * h) (top f) (h * suc (ones f)) (ap (λ (x : ℕ). k * x) (hid_even f) ∙ sym (mul_assoc k h 2))
    (ap (λ (x : ℕ). x * suc (ones f)) (hid_even f) ∙ mul_right_comm h 2 (suc (ones f)))
  where
    go : (s : Bool) (K K' T T' : ℕ) → K ≡ K' * 2 → T ≡ T' * 2 → (cond s T 0 + (K + q)) % 2 ≡ 0
    go true K K' T T' i j = omega (arith, e)
    go false K K' T T' i j = omega (arith, e)

module _ (f : Format) (s : Bool) (a b : ℕ) (B : 0 < b) (finished : T (finite (round f s a b))) where
  P : 0 < prec f
  P = two-le_pos (prec f) (two f)

  n : ℕ
  n = a * 2 ^ low f

  q : ℕ
  q = kept (prec f) (a * 2 ^ low f) b

  j : ℕ
  j = drop (prec f) (a * 2 ^ low f) b

  fine : q * 2 ^ j < overflow f
  unfolding q j
  fine = units_under f s (kept (prec f) (a * 2 ^ low f) b) (drop (prec f) (a * 2 ^ low f) b) (subst (λ (x : Float). T (finite x)) (round_is f s a b) finished)

  r_value : HasValue (round f s a b) s (R (prec f) n b P B) (2 ^ low f)
  unfolding q j n R
  r_value = subst (λ (x : Float). HasValue x s (q * 2 ^ j) (2 ^ low f)) (sym (round_is f s a b)) (units_val f s q j fine)

  -- the result's pattern ends as q does
  r_even : q % 2 ≡ 0 → to_bits f (round f s a b) % 2 ≡ 0
  unfolding q j
  r_even e =
      ap (λ (x : ℕ). x % 2) (ap (λ (x : Float). to_bits f x) (round_is f s a b)
      ∙ units_bits f s q j (kept_most (prec f) (a * 2 ^ low f) b P B) (kept_full (prec f) (a * 2 ^ low f) b P B) fine)
      ∙ even_bits f s j q e

  module _ (x : Float) (F : T (fits f x)) (g : T (finite x)) where
    t : Bool
    t = leb (top f) (to_bits f x)

    x_value : HasValue x t (worth f x) (2 ^ low f)
    unfolding t
    x_value = worth_value f x F g

    nearer : far_from (round f s a b) (signed s a) b * den x ≤ far_from x (signed s a) b * den (round f s a b)
    unfolding worth n
    nearer =
        far_of_lem (round f s a b) x s t (R (prec f) n b P B) (worth f x) (2 ^ low f) (pow_pos (low f)) r_value x_value s a b
        (near_signed (prec f) n b P B s t (sig f (to_bits f x)) (place f (to_bits f x)) (sig_lt f (to_bits f x)))

    tied : far_from (round f s a b) (signed s a) b * den x ≡ far_from x (signed s a) b * den (round f s a b)
        → (signed_num x *ℤ pos (den (round f s a b)) ≡ signed_num (round f s a b) *ℤ pos (den x) → ⊥) → to_bits f (round f s a b) % 2 ≡ 0
    unfolding worth q n
    tied e d =
        let r = round f s a b in
        r_even
        (tie_signed (prec f) n b P B s t (sig f (to_bits f x)) (place f (to_bits f x)) (sig_lt f (to_bits f x))
        (of_level r x s t (R (prec f) n b P B) (worth f x) (2 ^ low f) (pow_pos (low f)) r_value x_value s a b e)
        (λ h o. d (same_value x r t s (worth f x) (R (prec f) n b P B) (2 ^ low f) (pow_pos (low f)) x_value r_value h (either h o))))
      where
        either : worth f x ≡ R (prec f) n b P B → (t ≡ s) ⊎ (R (prec f) n b P B ≡ 0) → (t ≡ s) ⊎ (worth f x ≡ 0)
        either h o = elim o [ inl z ↦ inl z | inr z ↦ inr (h ∙ z) ]

  pub round_nearest : NearestTo f (signed s a) b (round f s a b)
  round_nearest = record { held = round-fits f s a b; whole = finished; closest = nearer; even = tied }
