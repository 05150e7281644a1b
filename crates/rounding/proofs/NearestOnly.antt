-- There is one nearest value: any two of a format that are nearest to a fraction, ties to even, are equal, and are one float except for the sign of a zero.
-- Between two that are not neighbours lies a nearer one; and of two neighbours one is not even. Assumes nothing.
use mathlib.Core.Path.{◌≡◌, refl, sym, ap, ◌∙◌, subst}
use mathlib.Core.Logic.{◌⊎◌, inl, inr}
use mathlib.Core.Bool.{Bool, true, false}
use Prim.Native.Nat.{ℕ, suc, ◌+◌, ◌-◌, ◌*◌, ◌%◌, ◌^◌, ◌≤◌, ◌<◌, zero-le}
use native.Mathlib.Nat.{mul-lt-mul_of_pos_right, eq_of_mul-eq-mul_right, eq-or-lt_of_le, le_antisymm, le_of_lt, zero-mul, lt-suc_self, lt_trans, ne_of_lt}
use native.Mathlib.Nat.{ne_of_gt}
use native.Mathlib.Omega.{arith}
use lib.IntN.{ℤ, pos, negsuc, ◌*ℤ◌}
use lib.Dec.{leb}
use lib.Pow.{pow_pos}
use lib.Ieee.{Float, Format, prec, emax, low, units, top, to_bits}
use lib.Ieee.Exact.{HasValue, units_val}
use lib.Ieee.Positive.{num, den}
use lib.Ieee.Scale.{overflow}
use Rattle.rounding.specs.Nearest.{signed, signed_num, NearestTo}
use Rattle.rounding.specs.Parts.{sig, place}
use Rattle.rounding.proofs.Basics.{le_or_lt}
use Rattle.rounding.proofs.Parts.{sig_lt, sig_last, leads}
use Rattle.rounding.proofs.Packing.{units_fits}
use Rattle.rounding.proofs.Values.{cross, worth, worth_value, value_finite, worth_under}
use Rattle.rounding.proofs.Signed.{gap, apart}
use Rattle.rounding.proofs.Distances.{of_far, of_same, same_value, same_float}
use Rattle.rounding.proofs.Neighbours.{Leads, next_least, same_last}

-- ---- over whole numbers: sizes of values of the format f, against n / b
module _ (f : Format) (n b : ℕ) where
  abbrev Held : ℕ → Type 0
  Held Y = (q : ℕ) × (k : ℕ) × (q ≤ 2 ^ prec f) × (q * 2 ^ k < overflow f) × (Y ≡ q * 2 ^ k * b)

  abbrev Near : ℕ → Type 0
  Near X = (q k : ℕ) → q ≤ 2 ^ prec f → q * 2 ^ k < overflow f → gap (X * b) n ≤ gap (q * 2 ^ k * b) n

  module _ (B : 0 < b) (q k c j : ℕ) (Q : q < 2 ^ prec f) (K : Leads f q k) (C : c < 2 ^ prec f) (J : Leads f c j) (top : c * 2 ^ j < overflow f) where
    never : Near (q * 2 ^ k) → Near (c * 2 ^ j) → q % 2 ≡ 0 → c % 2 ≡ 0 → q * 2 ^ k < c * 2 ^ j → ⊥
    never x y i e l = elim (eq-or-lt_of_le (next_least f q k c j K (le_of_lt C) l)) [
      | inl z ↦ odd (same_last f (suc q) k c j Q (more K) (le_of_lt C) J z)
      | inr z ↦
          between (q * 2 ^ k * b) (suc q * 2 ^ k * b) (c * 2 ^ j * b) (mul-lt-mul_of_pos_right (mul-lt-mul_of_pos_right (lt-suc_self q) (pow_pos k)) B)
          (mul-lt-mul_of_pos_right z B) (x (suc q) k Q (lt_trans z top))
          (y (suc q) k Q (lt_trans z top))
    ]
      where
        more : Leads f q k → Leads f (suc q) k
        more o = elim o [ inl h ↦ inl h | inr h ↦ inr (wider (2 ^ (prec f - 1)) h) ]
          where
            wider : (a : ℕ) → a ≤ q → a ≤ suc q
            wider a h = omega arith

        odd : suc q % 2 ≡ c % 2 → ⊥
        odd h = omega (arith, i, e)

        between : (x y z : ℕ) → x < y → y < z → gap x n ≤ gap y n → gap z n ≤ gap y n → ⊥
        between x y z h k g i = omega arith

-- of the values nearest to ±n only a zero can have the other sign
plain : (t s : Bool) (A n : ℕ) (Q : ℕ → Type 0) → Q 0 → ((u : Bool) (Y : ℕ) → Q Y → apart t A s n ≤ apart u Y s n)
    → ((Y : ℕ) → Q Y → gap A n ≤ gap Y n) × ((t ≡ s) ⊎ (A ≡ 0))
unfolding apart
plain true true A n Q z h = (λ Y q. h true Y q, inl refl)
plain false false A n Q z h = (λ Y q. h false Y q, inl refl)
plain true false A n Q z h = (λ Y q. less (gap Y n) (h false Y q), inr (none (h false 0 z)))
  where
    less : (g : ℕ) → A + n ≤ g → gap A n ≤ g
    less g l = omega arith

    none : A + n ≤ gap 0 n → A ≡ 0
    none l = omega arith
plain false true A n Q z h = (λ Y q. less (gap Y n) (h true Y q), inr (none (h true 0 z)))
  where
    less : (g : ℕ) → A + n ≤ g → gap A n ≤ g
    less g l = omega arith

    none : A + n ≤ gap 0 n → A ≡ 0
    none l = omega arith

-- ---- one nearest value
module _ (f : Format) (s : Bool) (a b : ℕ) (B : 0 < b) where
  n : ℕ
  n = a * 2 ^ low f

  module _ (r : Float) (h : NearestTo f (signed s a) b r) where
    t : Bool
    t = leb (top f) (to_bits f r)

    value : HasValue r t (worth f r) (2 ^ low f)
    unfolding t
    value = worth_value f r h.held h.whole

    near : ((Y : ℕ) → Held f n b Y → gap (worth f r * b) n ≤ gap Y n) × ((t ≡ s) ⊎ (worth f r * b ≡ 0))
    unfolding n
    near =
        plain t s (worth f r * b) (a * 2 ^ low f) (Held f n b) (0, 0, zero-le, pow_pos (low f + suc (emax f)), sym (zero-mul b))
        (λ u Y q.
        let v = units f u q.0 q.1 in
        let w = units_val f u q.0 q.1 q.3 in
        subst (λ (Z : ℕ). apart t (worth f r * b) s (a * 2 ^ low f) ≤ apart u Z s (a * 2 ^ low f)) (sym q.4)
        (of_far r v t u (worth f r) (q.0 * 2 ^ q.1) (2 ^ low f) (pow_pos (low f)) value w s a b
        (h.closest v (units_fits f u q.0 q.1 q.2 q.3) (value_finite v u (q.0 * 2 ^ q.1) (2 ^ low f) w))))

    unsigned : (t ≡ s) ⊎ (worth f r ≡ 0)
    unsigned = elim near.1 [ inl e ↦ inl e | inr e ↦ inr (eq_of_mul-eq-mul_right b B (worth f r) 0 (e ∙ sym (zero-mul b))) ]

  module _ (r r' : Float) (h : NearestTo f (signed s a) b r) (g : NearestTo f (signed s a) b r') where
    apart_even : (worth f r ≡ worth f r' → ⊥) → sig f (to_bits f r) % 2 ≡ 0
    apart_even d =
        sig_last f (to_bits f r)
        ∙ h.even r' g.held g.whole (le_antisymm (h.closest r' g.held g.whole) (g.closest r h.held h.whole))
        (λ e. d (sym (of_same r' r (t r' g) (t r h) (worth f r') (worth f r) (2 ^ low f) (pow_pos (low f)) (value r' g) (value r h) e)))

  not_less : (r r' : Float) (h : NearestTo f (signed s a) b r) (g : NearestTo f (signed s a) b r') → worth f r < worth f r' → ⊥
  unfolding worth
  not_less r r' h g l =
      let x = to_bits f r in
      let y = to_bits f r' in
      never f n b B (sig f x) (place f x) (sig f y) (place f y) (sig_lt f x) (leads f x) (sig_lt f y) (leads f y) (worth_under f r' g.held g.whole)
      (λ q k Q K. (near r h).0 (q * 2 ^ k * b) (q, k, Q, K, refl)) (λ q k Q K. (near r' g).0 (q * 2 ^ k * b) (q, k, Q, K, refl))
      (apart_even r r' h g (ne_of_lt l)) (apart_even r' r g h (λ e. ne_of_lt l (sym e))) l

  module _ (r r' : Float) (h : NearestTo f (signed s a) b r) (g : NearestTo f (signed s a) b r') where
    same_worth : worth f r ≡ worth f r'
    same_worth = elim (le_or_lt (worth f r) (worth f r')) [
      | inl l ↦ elim (eq-or-lt_of_le l) [ inl e ↦ e | inr k ↦ absurd (not_less r r' h g k) ]
      | inr l ↦ absurd (not_less r' r g h l)
    ]

    same_sign : (t r h ≡ t r' g) ⊎ (worth f r ≡ 0)
    same_sign = elim (unsigned r h) [
      | inl e ↦ elim (unsigned r' g) [ inl i ↦ inl (e ∙ sym i) | inr i ↦ inr (same_worth ∙ i) ]
      | inr e ↦ inr e
    ]

    signed_value : signed_num r *ℤ pos (den r') ≡ signed_num r' *ℤ pos (den r)
    signed_value =
        same_value r r' (t r h) (t r' g) (worth f r) (worth f r') (2 ^ low f) (pow_pos (low f)) (value r h) (value r' g) same_worth same_sign

    one_float : (t r h ≡ t r' g) ⊎ (0 < num r) → r ≡ r'
    one_float o = elim o [ inl e ↦ by_sign e | inr l ↦ elim same_sign [ inl e ↦ by_sign e | inr z ↦ absurd (some l z) ] ]
      where
        by_sign : t r h ≡ t r' g → r ≡ r'
        by_sign e =
            same_float f r r' (t r' g) (worth f r') h.held g.held
            (subst (λ (i : Bool). HasValue r i (worth f r') (2 ^ low f)) e (subst (λ (k : ℕ). HasValue r (t r h) k (2 ^ low f)) same_worth (value r h)))
            (value r' g)

        some : 0 < num r → worth f r ≡ 0 → ⊥
        some l z =
            ne_of_gt l (eq_of_mul-eq-mul_right (2 ^ low f) (pow_pos (low f)) (num r) 0
            (cross r (t r h) (worth f r) (2 ^ low f) (value r h) ∙ ap (λ (k : ℕ). k * den r) z ∙ zero-mul (den r) ∙ sym (zero-mul (2 ^ low f))))

-- ---- the laws, for any fraction E / D
pub nearest_value : (f : Format) (E : ℤ) (D : ℕ) → 0 < D → (r r' : Float) → NearestTo f E D r → NearestTo f E D r'
    → signed_num r *ℤ pos (den r') ≡ signed_num r' *ℤ pos (den r)
nearest_value f (pos a) D B r r' h g = signed_value f false a D B r r' h g
nearest_value f (negsuc a) D B r r' h g = signed_value f true (suc a) D B r r' h g

-- one float, if their signs' bits agree or they are not zero
pub nearest_only : (f : Format) (E : ℤ) (D : ℕ) → 0 < D → (r r' : Float) → NearestTo f E D r → NearestTo f E D r'
    → (leb (top f) (to_bits f r) ≡ leb (top f) (to_bits f r')) ⊎ (0 < num r) → r ≡ r'
unfolding t
nearest_only f (pos a) D B r r' h g o = one_float f false a D B r r' h g o
nearest_only f (negsuc a) D B r r' h g o = one_float f true (suc a) D B r r' h g o
