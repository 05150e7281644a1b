-- A value of the format is rounded to itself, so a fraction that does not lie above it, or below it, is rounded to a float that does not either; what is left of
-- a value after a smaller one is taken is bounded by it. Assumes nothing.
use mathlib.Core.Path.{◌≡◌, refl, sym, ap, ◌∙◌, subst}
use mathlib.Core.Bool.{Bool, true, false, cond, true≢false}
use Prim.Native.Nat.{ℕ, zero, suc, ◌+◌, ◌-◌, ◌*◌, ◌^◌, ◌≤◌, ◌<◌}
use native.Mathlib.Nat.{le_of_eq, le_trans, sub-le, mul_assoc, mul_comm, mul-pos, mul_right_comm, mul-le-mul_right, eq_of_mul-eq-mul_right}
use borrow.Author.Tests.{leb-true}
use lib.IntN.{ℤ}
use lib.Dec.{T, ltb, leb}
use lib.Pow.{pow_pos}
use lib.Ieee.{Float, nan, inf, fin, Format, prec, emax, low, up, down, odd, units, round, add, sub, neg, le, fits, top, to_bits}
use lib.Ieee.Fits.{down_pos, round_is, round-fits}
use lib.Ieee.Exact.{HasValue, odd_sign, round_exact}
use lib.Ieee.Order.{drop, kept, round_mono}
use lib.Ieee.Positive.{num, den, den_pos, through}
use lib.Ieee.Scale.{finite, round_same}
use Rattle.rounding.specs.Parts.{sig, place}
use Rattle.rounding.proofs.Parts.{sig_lt}
use Rattle.rounding.proofs.Values.{worth, worth_value, worth_cross, worth_under, value_finite, cross}
use Rattle.rounding.proofs.Distances.{same_float}
use Rattle.rounding.proofs.Differences.{le_values}
use Rattle.rounding.proofs.Signed.{sum_less}
use lib.Ieee.Bits.{is_true}

-- finite, not negative, and at most n / d
abbrev pub AtMost : Float → ℕ → ℕ → Type 0
AtMost nan n d = ⊥
AtMost (inf s) n d = ⊥
AtMost (fin s m e) n d = (s ≡ false) × (m * up e * d ≤ n * down e)

-- finite, not negative, and at least n / d
abbrev pub AtLeast : Float → ℕ → ℕ → Type 0
AtLeast nan n d = ⊥
AtLeast (inf s) n d = ⊥
AtLeast (fin s m e) n d = (s ≡ false) × (n * down e ≤ m * up e * d)

pub at_most_finite : (x : Float) (n d : ℕ) → AtMost x n d → T (finite x)
at_most_finite nan n d h = h
at_most_finite (inf s) n d h = h
at_most_finite (fin s m e) n d h = tt

-- ---- a value of the format is rounded to itself
one_sign : (x : Float) (s t : Bool) (a c b d : ℕ) → HasValue x s a c → HasValue x t b d → HasValue x t a c
one_sign nan s t a c b d v w = v
one_sign (inf i) s t a c b d v w = v
one_sign (fin i m e) s t a c b d v w = (w.0, v.1)

own : (f : Format) (x : Float) → T (fits f x) → T (finite x) → HasValue (round f false (worth f x) (2 ^ low f)) false (worth f x) (2 ^ low f)
unfolding worth
own f x F h =
    let b = to_bits f x in
    round_exact f false (worth f x) (2 ^ low f) (sig f b) (place f b) (pow_pos (low f)) (sig_lt f b) (worth_under f x F h) refl

pub round_kept : (f : Format) (B : Float) (n d : ℕ) → T (fits f B) → 0 < d → HasValue B false n d → round f false n d ≡ B
round_kept f B n d F D v =
    let w = worth f B in
    let l = 2 ^ low f in
    let h = value_finite B false n d v in
    let s = leb (top f) (to_bits f B) in
    let is : n * l ≡ w * d = eq_of_mul-eq-mul_right (den B) (den_pos B) (n * l) (w * d)
    (mul_right_comm n l (den B) ∙ ap (λ (z : ℕ). z * l) (sym (cross B false n d v)) ∙ mul_right_comm (num B) d l
    ∙ ap (λ (z : ℕ). z * d) (worth_cross f B F h) ∙ mul_right_comm w (den B) d) in
    round_same f false n d w l D (pow_pos (low f)) is
    ∙ same_float f (round f false w l) B false w (round-fits f false w l) F (own f B F h) (one_sign B s false w l n d (worth_value f B F h) v)

-- ---- what is rounded from a fraction that is not negative is no NaN and not negative
abbrev pub Unsigned : Float → Type 0
Unsigned nan = ⊥
Unsigned (inf s) = s ≡ false
Unsigned (fin s m e) = s ≡ false

value_unsigned : (x : Float) (a c : ℕ) → HasValue x false a c → Unsigned x
value_unsigned nan a c v = v
value_unsigned (inf s) a c v = absurd v
value_unsigned (fin s m e) a c v = v.0

units_unsigned : (f : Format) (q k : ℕ) → Unsigned (units f false q k)
unfolding units
units_unsigned f q k = go (ltb (q * 2 ^ k) (2 ^ (low f + suc (emax f))))
  where
    go : (b : Bool) → Unsigned (cond b (odd (suc (prec f)) false q k (low f)) (inf false))
    go true = value_unsigned (odd (suc (prec f)) false q k (low f)) (q * 2 ^ k) (2 ^ low f) (odd_sign (suc (prec f)) false q k (low f))
    go false = refl

pub round_unsigned : (f : Format) (a c : ℕ) → Unsigned (round f false a c)
round_unsigned f a c =
    let p = prec f in
    let n = a * 2 ^ low f in
    subst (λ (x : Float). Unsigned x) (sym (round_is f false a c)) (units_unsigned f (kept p n c) (drop p n c))

-- ---- the order of two such floats is that of the fractions
no_less : (B : Float) (n d : ℕ) → HasValue B false n d → T (le (inf false) B) → ⊥
unfolding le
no_less nan n d v h = v
no_less (inf t) n d v h = v
no_less (fin t k g) n d v h = h

at_most : (x B : Float) (n d : ℕ) → 0 < d → Unsigned x → HasValue B false n d → T (le x B) → AtMost x n d
at_most nan B n d D u v h = u
at_most (inf true) B n d D u v h = absurd (true≢false u)
at_most (inf false) B n d D u v h = no_less B n d v h
at_most (fin true m e) B n d D u v h = absurd (true≢false u)
at_most (fin false m e) B n d D u v h =
    let x = fin false m e in
    (refl, leb-true (m * up e * d) (n * down e) (sym (le_values x B (m * up e) (down e) n d (down_pos e) D (refl, refl) v) ∙ is_true (le x B) h))

at_least : (x B : Float) (n d : ℕ) → 0 < d → Unsigned x → HasValue B false n d → T (finite x) → T (le B x) → AtLeast x n d
at_least nan B n d D u v w h = u
at_least (inf s) B n d D u v w h = w
at_least (fin true m e) B n d D u v w h = absurd (true≢false u)
at_least (fin false m e) B n d D u v w h =
    let x = fin false m e in
    (refl, leb-true (n * down e) (m * up e * d) (sym (le_values B x n d (m * up e) (down e) D (down_pos e) v (refl, refl)) ∙ is_true (le B x) h))

-- ---- a / c against n / d, which is a value of the format
pub round_at_most : (f : Format) (B : Float) (a c n d : ℕ) → T (fits f B) → HasValue B false n d → 0 < c → 0 < d → a * d ≤ n * c
    → AtMost (round f false a c) n d
round_at_most f B a c n d F v C D h =
    at_most (round f false a c) B n d D (round_unsigned f a c) v
    (subst (λ (z : Float). T (le (round f false a c) z)) (round_kept f B n d F D v) (round_mono f a c n d C D h))

pub round_at_least : (f : Format) (B : Float) (a c n d : ℕ) → T (fits f B) → HasValue B false n d → 0 < c → 0 < d → n * c ≤ a * d
    → T (finite (round f false a c)) → AtLeast (round f false a c) n d
round_at_least f B a c n d F v C D h w =
    at_least (round f false a c) B n d D (round_unsigned f a c) v w
    (subst (λ (z : Float). T (le z (round f false a c))) (round_kept f B n d F D v) (round_mono f n d a c D C h))

-- ---- a wider bound
pub at_most_wider : (x : Float) (n d p q : ℕ) → 0 < d → n * q ≤ p * d → AtMost x n d → AtMost x p q
at_most_wider nan n d p q D h l = l
at_most_wider (inf s) n d p q D h l = l
at_most_wider (fin s m e) n d p q D h l = (l.0, through (m * up e) n p (down e) d q D l.1 h)

-- ---- a difference that is not negative is at most what is taken from
pub minus_at_most : (f : Format) (o : ℕ) (k : ℤ) (y : Float) → T (fits f (fin false o k)) → AtMost y (o * up k) (down k)
    → AtMost (sub f (fin false o k) y) (o * up k) (down k)
unfolding sub add neg
minus_at_most f o k nan F l = l
minus_at_most f o k (inf t) F l = absurd l
minus_at_most f o k (fin true m e) F l = absurd (true≢false l.0)
minus_at_most f o k (fin false m e) F l =
    let O = o * up k in
    let M = m * up e in
    let K = down k in
    let E = down e in
    subst (λ (x : Float). AtMost x O K) (sym (sum_less f (O * E) (M * K) (K * E) l.1))
    (round_at_most f (fin false o k) (O * E - M * K) (K * E) O K F (refl, refl) (mul-pos (down_pos k) (down_pos e)) (down_pos k)
    (le_trans (mul-le-mul_right K (sub-le (O * E) (M * K))) (le_of_eq (mul_assoc O E K ∙ ap (λ (z : ℕ). O * z) (mul_comm E K)))))

-- ---- the sign takes no part in rounding
odd_neg : (d q k l : ℕ) → neg (odd d true q k l) ≡ odd d false q k l
unfolding odd neg
odd_neg d zero k l = refl
odd_neg d (suc q) k l = refl

units_neg : (f : Format) (q k : ℕ) → neg (units f true q k) ≡ units f false q k
unfolding units neg
units_neg f q k = go (ltb (q * 2 ^ k) (2 ^ (low f + suc (emax f))))
  where
    go : (b : Bool) → neg (cond b (odd (suc (prec f)) true q k (low f)) (inf true)) ≡ cond b (odd (suc (prec f)) false q k (low f)) (inf false)
    go true = odd_neg (suc (prec f)) q k (low f)
    go false = refl

pub round_neg : (f : Format) (a c : ℕ) → neg (round f true a c) ≡ round f false a c
round_neg f a c =
    let p = prec f in
    let n = a * 2 ^ low f in
    ap neg (round_is f true a c) ∙ units_neg f (kept p n c) (drop p n c) ∙ sym (round_is f false a c)
