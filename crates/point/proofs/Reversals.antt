-- A direction and its reverse: the same sizes on the other sides. The two angles are a turn from π/2 to 5 apart, so the knife's comparison says changed.
-- Assumes nothing.
use mathlib.Core.Path.{◌≡◌, refl, sym, ap, ap₂, ◌∙◌, subst}
use mathlib.Core.Bool.{Bool, true, false, not, ◌&&◌, cond, true≢false}
use Prim.Native.Nat.{ℕ, zero, suc, ◌+◌, ◌*◌, ◌≤◌, ◌<◌, zero-le}
use native.Mathlib.Nat.{mul_comm, mul-pos, zero-mul, zero-lt-suc, le_trans, le_of_eq, add_comm, add-zero, mul_right_comm, mul_assoc, mul-le-mul_right}
use native.Mathlib.Omega.{arith}
use mathlib.Core.Logic.{◌⊎◌, inl, inr}
use borrow.Author.Tests.{le-ltb, lt-ltb}
use lib.Count.{count_trailing_zeros}
use lib.IntN.{ℤ, pos}
use lib.Dec.{T, ltb}
use lib.Ieee.{Float, nan, inf, fin, binary32, up, down, size, span, climb, odd, units, round, sum, add, sub, neg, lt, fits, of_fields, of_bits}
use lib.Ieee.Fits.{down_pos, up_pos, round-fits}
use lib.Ieee.Scale.{finite}
use Rattle.rounding.specs.Sums.{sum_sign, sum_size}
use Rattle.rounding.proofs.Basics.{le_or_lt}
use Rattle.rounding.proofs.Bounds.{AtMost, AtLeast, round_at_most, round_at_least, round_neg, at_most_finite}
use Rattle.rounding.proofs.Signed.{sum_rounds, size_swap, sign_swap, size_none}
use Rattle.leaves.specs.Single.{◌⊖◌, zero32}
use Rattle.leaves.specs.Small.{abs_of, is_zero}
use Rattle.leaves.proofs.Signs.{abs_neg, abs_round}
use Rattle.point.specs.Angle.{pi, half_pi, max_angle_error, approx_atan2_of, turn_of, full_diff_of}
use Rattle.point.proofs.Digits.{nought, zero_is}
use Rattle.point.proofs.Steep.{steep_of, atan_parts, steep_most, steep_flat, steep_upright}
use Rattle.point.proofs.TurnSizes.{quarter_turn_value, half_fits, turn_symmetric, half_less_most, half_less_least, none_rounds, add_most}
use Rattle.point.proofs.Turns.{around_of}
use Rattle.point.proofs.TurnLaws.{turned_back}

-- ---- the other side, of a coordinate: as large, and less than 0 where it is more
pub record Across (x x' : Float) : Type 0 where
  pub sizes : abs_of x' ≡ abs_of x
  pub sides : lt x' zero32 ≡ lt zero32 x

-- what is tested of a finite x = ±a / d, against 0 / 1
none_under : (a d : ℕ) → ltb (a * 1) (0 * d) ≡ false
none_under a d = le-ltb (a * 1) (0 * d) (subst (λ (z : ℕ). z ≤ a * 1) (sym (zero-mul d)) zero-le)

alike : (a d : ℕ) → ltb 0 (a * 1 + 0 * d) ≡ ltb (0 * d) (a * 1)
alike a d = ap₂ (λ (x y : ℕ). ltb x y) (sym (zero-mul d)) (ap (λ (z : ℕ). a * 1 + z) (zero-mul d) ∙ add-zero (a * 1))

neg_sides : (x : Float) → lt (neg x) nought ≡ lt nought x
unfolding lt neg
neg_sides nan = refl
neg_sides (inf true) = refl
neg_sides (inf false) = refl
neg_sides (fin true m e) = none_under (m * up e) (down e)
neg_sides (fin false m e) = alike (m * up e) (down e)

pub neg_across : (x : Float) → Across x (neg x)
neg_across x = record { sizes = abs_neg x; sides = subst (λ (z : Float). lt (neg x) z ≡ lt z x) (sym zero_is) (neg_sides x) }

zero_under : (x : Float) → is_zero x ≡ true → lt x nought ≡ false
unfolding is_zero lt
zero_under nan h = refl
zero_under (inf s) h = absurd (true≢false (sym h))
zero_under (fin true zero e) h = ap₂ (λ (a b : ℕ). ltb 0 (a * 1 + b)) (zero-mul (up e)) (zero-mul (down e))
zero_under (fin false zero e) h = none_under (0 * up e) (down e)
zero_under (fin s (suc m) e) h = absurd (true≢false (sym h))

zero_over : (x : Float) → is_zero x ≡ true → lt nought x ≡ false
unfolding is_zero lt
zero_over nan h = refl
zero_over (inf s) h = absurd (true≢false (sym h))
zero_over (fin true zero e) h = refl
zero_over (fin false zero e) h = ap₂ (λ (a b : ℕ). ltb a (b * 1)) (zero-mul (down e)) (zero-mul (up e))
zero_over (fin s (suc m) e) h = absurd (true≢false (sym h))

some_over : (x : Float) → T (finite x) → is_zero x ≡ false → lt nought x ≡ not (lt x nought)
unfolding is_zero lt
some_over nan F h = absurd F
some_over (inf s) F h = absurd F
some_over (fin s zero e) F h = absurd (true≢false h)
some_over (fin true (suc m) e) F h =
    ap not (sym (ap (λ (b : ℕ). ltb 0 (suc m * up e * 1 + b)) (zero-mul (down e)) ∙ lt-ltb 0 (suc m * up e * 1 + 0) (more (suc m * up e) (mul-pos (zero-lt-suc m) (up_pos e)))))
  where
    more : (a : ℕ) → 0 < a → 0 < a * 1 + 0
    more a h = omega arith
some_over (fin false (suc m) e) F h =
    ap (λ (b : ℕ). ltb b (suc m * up e * 1)) (zero-mul (down e))
    ∙ lt-ltb 0 (suc m * up e * 1) (more (suc m * up e) (mul-pos (zero-lt-suc m) (up_pos e)))
    ∙ sym (ap not (none_under (suc m * up e) (down e)))
  where
    more : (a : ℕ) → 0 < a → 0 < a * 1
    more a h = omega arith

-- ---- the angle by the two sides, and the part S that both directions share
abbrev angle_by : Bool → Bool → Float → Float
angle_by left below S = let behind = cond left (pi ⊖ S) S in cond below (neg behind) behind

-- changed, between two angles
abbrev Changed : Float → Float → Type 0
Changed a b = lt max_angle_error (around_of (turn_of a b)) ≡ true

-- ---- along an axis the angles are 0 and π, or π/2 and -π/2
flat : (left : Bool) → Changed (angle_by left false nought) (angle_by (not left) false nought)
unfolding abs_of count_trailing_zeros size span climb odd units round sum add sub neg lt of_fields of_bits
flat true = refl
flat false = refl

upright : (below : Bool) → Changed (angle_by false below half_pi) (angle_by false (not below) half_pi)
unfolding abs_of count_trailing_zeros size span climb odd units round sum add sub neg lt of_fields of_bits
upright true = refl
upright false = refl

-- ---- elsewhere they are S and π less S, with unlike signs
opposite_is : (m : ℕ) (e : ℤ) (n : ℕ) (d : ℤ)
    → turn_of (fin false m e) (fin true n d) ≡ round binary32 false (n * up d * down e + m * up e * down d) (down d * down e)
unfolding sub add neg sum
opposite_is m e n d = abs_round binary32 true (n * up d * down e + m * up e * down d) (down d * down e)

-- U = M / e and W = N / d, of which W is π/2 at least
sum_least : (N d M e : ℕ) → 13176795 * d ≤ N * 8388608 → 13176795 * (d * e) ≤ (N * e + M * d) * 8388608
sum_least N d M e h =
    le_trans (le_of_eq (sym (mul_assoc 13176795 d e)))
    (le_trans (mul-le-mul_right e h) (more (N * e) (M * d) (N * 8388608 * e) (mul_right_comm N 8388608 e)))
  where
    more : (x y z : ℕ) → z ≡ x * 8388608 → z ≤ (x + y) * 8388608
    more x y z h = omega arith

sum_most : (N d M e : ℕ) → N * 8388608 ≤ 26353590 * d → M * 8388608 ≤ 13176795 * e → (N * e + M * d) * 1 ≤ 5 * (d * e)
sum_most N d M e h k = under (N * e + M * d) (d * e) (add_most N d M e 26353590 13176795 h k)
  where
    under : (x z : ℕ) → x * 8388608 ≤ 39530385 * z → x * 1 ≤ 5 * z
    under x z h = omega arith

five : Float
five = fin false 5 (pos 0)

five_fits : T (fits binary32 five)
unfolding fits five
five_fits = tt

opposite : (U W : Float) → AtMost U 13176795 8388608 → AtLeast W 13176795 8388608 → AtMost W 26353590 8388608
    → Changed U (neg W) × (turn_of W (neg U) ≡ turn_of U (neg W))
unfolding neg five
opposite nan W a b c = absurd a
opposite (inf s) W a b c = absurd a
opposite (fin true m e) W a b c = absurd (true≢false a.0)
opposite (fin false m e) nan a b c = absurd b
opposite (fin false m e) (inf s) a b c = absurd b
opposite (fin false m e) (fin true n d) a b c = absurd (true≢false b.0)
opposite (fin false m e) (fin false n d) a b c =
    let M = m * up e in
    let N = n * up d in
    let X = N * down e + M * down d in
    let D = down d * down e in
    let t = round binary32 false X D in
    let P : 0 < D = mul-pos (down_pos d) (down_pos e) in
    let most : AtMost t 5 1 = round_at_most binary32 five X D 5 1 five_fits (refl, refl) P (zero-lt-suc 0) (sum_most N (down d) M (down e) c.1 a.1) in
    let least : AtLeast t 13176795 8388608 =
    round_at_least binary32 half_pi X D 13176795 8388608 half_fits quarter_turn_value P (zero-lt-suc 8388607) (sum_least N (down d) M (down e) b.1)
    (at_most_finite t 5 1 most) in (
      ap (λ (x : Float). lt max_angle_error (around_of x)) (opposite_is m e n d) ∙ turned_back t (round-fits binary32 false X D) least most,
      opposite_is n d m e
          ∙ ap₂ (λ (x y : ℕ). round binary32 false x y) (add_comm (M * down d) (N * down e)) (mul_comm (down e) (down d))
          ∙ sym (opposite_is m e n d),
    )

slanted : (left below : Bool) (S : Float) → AtMost S 13176795 8388608 → Changed (angle_by left below S) (angle_by (not left) (not below) S)
slanted left below nan a = absurd a
slanted left below (inf s) a = absurd a
slanted left below (fin true m e) a = absurd (true≢false a.0)
slanted left below (fin false m e) a = go left below
  where
    both : Changed (fin false m e) (neg (pi ⊖ fin false m e)) × (turn_of (pi ⊖ fin false m e) (neg (fin false m e)) ≡ turn_of (fin false m e) (neg (pi ⊖ fin false m e)))
    both = opposite (fin false m e) (pi ⊖ fin false m e) a (half_less_least m e a.1) (half_less_most m e a.1)

    by : (a b : Float) → turn_of a b ≡ turn_of (fin false m e) (neg (pi ⊖ fin false m e)) → Changed a b
    by a b h = ap (λ (t : Float). lt max_angle_error (around_of t)) h ∙ both.0

    go : (left below : Bool) → Changed (angle_by left below (fin false m e)) (angle_by (not left) (not below) (fin false m e))
    go false false = both.0
    go true false = by (pi ⊖ fin false m e) (neg (fin false m e)) both.1
    go false true = by (neg (fin false m e)) (pi ⊖ fin false m e) (turn_symmetric (neg (fin false m e)) (pi ⊖ fin false m e) ∙ both.1)
    go true true = by (neg (pi ⊖ fin false m e)) (fin false m e) (turn_symmetric (neg (pi ⊖ fin false m e)) (fin false m e))

-- ---- the angles of a direction and of one across from it
sides_changed : (x y : Float) → T (finite x) → T (finite y) → is_zero x && is_zero y ≡ false → let S = steep_of (abs_of x) (abs_of y) in
    Changed (angle_by (lt x nought) (lt y nought) S) (angle_by (lt nought x) (lt nought y) S)
sides_changed x y F G h = go (is_zero x) (is_zero y) refl refl h
  where
    S : Float
    S = steep_of (abs_of x) (abs_of y)

    by : (l b m c : Bool) (s : Float) → lt x nought ≡ l → lt y nought ≡ b → lt nought x ≡ m → lt nought y ≡ c → S ≡ s → Changed (angle_by l b s) (angle_by m c s)
        → Changed (angle_by (lt x nought) (lt y nought) S) (angle_by (lt nought x) (lt nought y) S)
    by l b m c s p q u v w k = rw (p, q, u, v, w) k

    go : (i j : Bool) → is_zero x ≡ i → is_zero y ≡ j → i && j ≡ false → Changed (angle_by (lt x nought) (lt y nought) S) (angle_by (lt nought x) (lt nought y) S)
    go true true p q k = absurd (true≢false k)
    go false true p q k =
        by (lt x nought) false (not (lt x nought)) false nought refl (zero_under y q) (some_over x F p) (zero_over y q) (steep_flat x y F p q) (flat (lt x nought))
    go true false p q k =
        by false (lt y nought) false (not (lt y nought)) half_pi (zero_under x p) refl (zero_over x p) (some_over y G q) (steep_upright x y G q p)
        (upright (lt y nought))
    go false false p q k =
        by (lt x nought) (lt y nought) (not (lt x nought)) (not (lt y nought)) S refl refl (some_over x F p) (some_over y G q) refl
        (slanted (lt x nought) (lt y nought) S (steep_most x y F G h))

pub across_changed : (x y x' y' : Float) → T (finite x) → T (finite y) → is_zero x && is_zero y ≡ false → Across x x' → Across y y'
    → lt max_angle_error (full_diff_of (approx_atan2_of y x) (approx_atan2_of y' x')) ≡ true
unfolding full_diff_of
across_changed x y x' y' F G h p q =
    ap₂ (λ (a b : Float). lt max_angle_error (around_of (turn_of a b))) here there ∙ sides_changed x y F G h
  where
    S : Float
    S = steep_of (abs_of x) (abs_of y)

    here : approx_atan2_of y x ≡ angle_by (lt x nought) (lt y nought) S
    here = atan_parts y x ∙ ap (λ (z : Float). angle_by (lt x z) (lt y z) S) zero_is

    there : approx_atan2_of y' x' ≡ angle_by (lt nought x) (lt nought y) S
    there =
        atan_parts y' x'
        ∙ ap₂ (λ (a b : Float). angle_by (lt x' zero32) (lt y' zero32) (steep_of a b)) p.sizes q.sizes
        ∙ ap₂ (λ (a b : Bool). angle_by a b S) p.sides q.sides
        ∙ ap (λ (z : Float). angle_by (lt z x) (lt z y) S) zero_is

-- ---- the two differences of a pair are across from each other
neg_neg : (x : Float) → neg (neg x) ≡ x
unfolding neg
neg_neg nan = refl
neg_neg (inf true) = refl
neg_neg (inf false) = refl
neg_neg (fin true m e) = refl
neg_neg (fin false m e) = refl

neg_round : (s : Bool) (a c : ℕ) → round binary32 (not s) a c ≡ neg (round binary32 s a c)
neg_round true a c = sym (round_neg binary32 a c)
neg_round false a c = sym (neg_neg (round binary32 true a c)) ∙ ap neg (round_neg binary32 a c)

size_zero : (x : Float) → is_zero x ≡ is_zero (abs_of x)
unfolding abs_of is_zero
size_zero nan = refl
size_zero (inf s) = refl
size_zero (fin s zero e) = refl
size_zero (fin s (suc m) e) = refl

zero_of_size : (x : Float) → abs_of x ≡ nought → is_zero x ≡ true
unfolding is_zero
zero_of_size x h = size_zero x ∙ ap is_zero h

nothing : (s : Bool) (a c : ℕ) → 0 < c → a ≡ 0 → is_zero (round binary32 s a c) ≡ true
nothing s a c C h = zero_of_size (round binary32 s a c) (abs_round binary32 s a c ∙ ap (λ (z : ℕ). round binary32 false z c) h ∙ none_rounds c C)

module _ (s : Bool) (m : ℕ) (e : ℤ) (t : Bool) (n : ℕ) (d : ℤ) where
  A : ℕ
  A = m * up e * down d

  B : ℕ
  B = n * up d * down e

  D : ℕ
  D = down e * down d

  sign : Bool
  sign = sum_sign s A (not t) B

  gone : ℕ
  gone = sum_size s A (not t) B

  there_is : fin s m e ⊖ fin t n d ≡ round binary32 sign gone D
  unfolding sub add neg A B D sign gone
  there_is = sum_rounds binary32 s (m * up e * down d) (not t) (n * up d * down e) (down e * down d)

  back_is : fin t n d ⊖ fin s m e ≡ round binary32 (sum_sign t B (not s) A) gone D
  unfolding sub add neg A B D gone
  back_is =
      sum_rounds binary32 t (n * up d * down e) (not s) (m * up e * down d) (down d * down e)
      ∙ ap₂ (λ (a c : ℕ). round binary32 (sum_sign t (n * up d * down e) (not s) (m * up e * down d)) a c)
      (size_swap s (m * up e * down d) t (n * up d * down e)) (mul_comm (down d) (down e))

  some_sides : (A ≡ B → ⊥) ⊎ (s ≡ not t) → lt (fin t n d ⊖ fin s m e) nought ≡ lt nought (fin s m e ⊖ fin t n d)
  unfolding sign
  some_sides h =
      ap (λ (x : Float). lt x nought)
      (back_is ∙ ap (λ (i : Bool). round binary32 i gone D) (sign_swap s A t B h) ∙ neg_round sign gone D ∙ ap neg (sym there_is))
      ∙ neg_sides (fin s m e ⊖ fin t n d)

  none_sides : A ≡ B → s ≡ t → lt (fin t n d ⊖ fin s m e) nought ≡ lt nought (fin s m e ⊖ fin t n d)
  unfolding D gone
  none_sides h k =
      let P : 0 < down e * down d = mul-pos (down_pos e) (down_pos d) in
      ap (λ (x : Float). lt x nought) back_is
      ∙ zero_under (round binary32 (sum_sign t B (not s) A) gone D) (nothing (sum_sign t B (not s) A) gone D P none)
      ∙ sym (ap (lt nought) there_is ∙ zero_over (round binary32 sign gone D) (nothing sign gone D P none))
    where
      none : sum_size s A (not t) B ≡ 0
      none = ap₂ (λ (i : Bool) (b : ℕ). sum_size s A (not i) b) (sym k) (sym h) ∙ size_none s A

  finite_sides : lt (fin t n d ⊖ fin s m e) nought ≡ lt nought (fin s m e ⊖ fin t n d)
  finite_sides =
      elim (le_or_lt A B) [
        | inl h ↦ elim (le_or_lt B A) [ inl k ↦ level s t refl refl (same A B h k) | inr k ↦ some_sides (inl (less A B k)) ]
        | inr h ↦ some_sides (inl (more A B h))
      ]
    where
      same : (a b : ℕ) → a ≤ b → b ≤ a → a ≡ b
      same a b h k = omega arith

      less : (a b : ℕ) → a < b → a ≡ b → ⊥
      less a b h k = omega arith

      more : (a b : ℕ) → b < a → a ≡ b → ⊥
      more a b h k = omega arith

      level : (i j : Bool) → s ≡ i → t ≡ j → A ≡ B → lt (fin t n d ⊖ fin s m e) nought ≡ lt nought (fin s m e ⊖ fin t n d)
      level true true p q h = none_sides h (p ∙ sym q)
      level false false p q h = none_sides h (p ∙ sym q)
      level true false p q h = some_sides (inr (p ∙ ap not (sym q)))
      level false true p q h = some_sides (inr (p ∙ ap not (sym q)))

back_sides : (a b : Float) → lt (b ⊖ a) nought ≡ lt nought (a ⊖ b)
unfolding sub add neg lt
back_sides nan nan = refl
back_sides nan (inf t) = refl
back_sides nan (fin t n d) = refl
back_sides (inf s) nan = refl
back_sides (inf true) (inf true) = refl
back_sides (inf true) (inf false) = refl
back_sides (inf false) (inf true) = refl
back_sides (inf false) (inf false) = refl
back_sides (inf true) (fin t n d) = refl
back_sides (inf false) (fin t n d) = refl
back_sides (fin s m e) nan = refl
back_sides (fin s m e) (inf true) = refl
back_sides (fin s m e) (inf false) = refl
back_sides (fin s m e) (fin t n d) = finite_sides s m e t n d

pub sub_across : (a b : Float) → Across (a ⊖ b) (b ⊖ a)
sub_across a b = record { sizes = turn_symmetric a b; sides = subst (λ (z : Float). lt (b ⊖ a) z ≡ lt z (a ⊖ b)) (sym zero_is) (back_sides a b) }
