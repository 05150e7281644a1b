-- What the comparison of angles promises holds. Assumes nothing.
use mathlib.Core.Path.{◌≡◌, refl, sym, ap, ap₂, ◌∙◌, subst}
use mathlib.Core.Bool.{Bool, true, false, ◌&&◌, cond, true≢false}
use Prim.Native.Nat.{ℕ, zero, suc, ◌*◌}
use native.Mathlib.Nat.{zero-lt-suc, zero-mul, mul-pos}
use borrow.Author.Tests.{le-leb}
use lib.Count.{count_trailing_zeros}
use lib.IntN.{pos}
use lib.Dec.{T, lit≤}
use lib.Ieee.{Float, nan, inf, fin, binary32, up, down, size, span, climb, odd, units, round, sum, add, sub, mul, div, neg, lt, eq, le, is_nan}
use lib.Ieee.{of_fields, of_bits, to_bits}
use lib.Ieee.Exact.{HasValue}
use lib.Ieee.Fits.{and_l, and_r, down_pos}
use lib.Ieee.Scale.{finite}
use Rattle.rounding.specs.Roots.{root_in, root, rooted}
use Rattle.rounding.proofs.Bounds.{AtMost, at_most_wider}
use Rattle.rounding.proofs.Differences.{le_values}
use Rattle.leaves.proofs.Signs.{abs_neg}
use Rattle.leaves.specs.Fma.{fma_of}
use Rattle.leaves.specs.Single.{◌⊕◌, ◌⊖◌, ◌⊗◌, f32, zero32, one32}
use Rattle.leaves.specs.Small.{abs_of, is_zero, negative_of, less_of, min_of, max_of}
use Rattle.leaves.specs.Sqrt.{sqrt32, sqrt_of}
use Rattle.point.specs.declared.Point.{Point}
use Rattle.point.specs.Angle.{Angle}
use Rattle.std.specs.Prelude.{None, Some}
use Rattle.point.specs.declared.Setting.TheVariants.{Knife}
use Rattle.point.specs.Point.{point_at, minus_of, len_of}
use Rattle.point.specs.Angle.{pi, two_pi, approx_atan2_of, angle_of, turn_of, diff_of, full_diff_of, difference_of, changed_of}
use Rattle.point.specs.Turning.{finite_of, known_of, angled, reverse_of, under_left, Turning}
use Rattle.point.proofs.Digits.{nought, zero_is}
use Rattle.point.proofs.Steep.{steep_of, atan_parts, steep_most}
use Rattle.point.proofs.TurnSizes.{half_turn_value, full_turn_value, turn_symmetric, turn_none, turn_at_most, turn_fits, angled_finite, half_less_most, none_rounds}
use Rattle.point.proofs.Turns.{around_of, Where, where_of, around_short}
use Rattle.point.proofs.TurnLaws.{beside, around_most, rest_sums}
use Rattle.point.proofs.Reversals.{Across, neg_across, sub_across, across_changed}

-- ---- a known angle is that of a direction that is not nought
abbrev long : Point → Bool
long d = le (f32 0x3400_0000) (len_of d)

square_size : (x : Float) → x ⊗ x ≡ abs_of x ⊗ abs_of x
unfolding mul abs_of
square_size nan = refl
square_size (inf true) = refl
square_size (inf false) = refl
square_size (fin true m e) = refl
square_size (fin false m e) = refl

square_nought : (x : Float) → is_zero x ≡ true → x ⊗ x ≡ nought
unfolding mul is_zero abs_of
square_nought nan h = absurd (true≢false (sym h))
square_nought (inf s) h = absurd (true≢false (sym h))
square_nought (fin s zero e) h =
    square_size (fin s zero e)
    ∙ ap (λ (a : ℕ). round binary32 false a (down e * down e)) (ap (λ (a : ℕ). a * (0 * up e)) (zero-mul (up e)) ∙ zero-mul (0 * up e))
    ∙ none_rounds (down e * down e) (mul-pos (down_pos e) (down_pos e))
square_nought (fin s (suc m) e) h = absurd (true≢false (sym h))

nought_short : le (f32 0x3400_0000) (sqrt32 (nought ⊕ nought)) ≡ false
unfolding sqrt_of count_trailing_zeros size span climb odd units round sum add lt eq le of_fields of_bits
nought_short = refl

not_both : (d : Point) → long d ≡ true → is_zero d.x && is_zero d.y ≡ false
unfolding len_of
not_both d h = go (is_zero d.x) (is_zero d.y) refl refl
  where
    go : (i j : Bool) → is_zero d.x ≡ i → is_zero d.y ≡ j → i && j ≡ false
    go false j p q = refl
    go true false p q = refl
    go true true p q =
        sym h ∙ ap₂ (λ (a b : Float). le (f32 0x3400_0000) (sqrt32 (a ⊕ b))) (square_nought d.x p) (square_nought d.y q) ∙ nought_short

-- ---- angles lie within ±π
under : (c : Float) (n : ℕ) → HasValue c false n 8388608 → (x : Float) → AtMost x n 8388608 → T (le x c)
under c n v nan a = absurd a
under c n v (inf s) a = absurd a
under c n v (fin true m e) a = absurd (true≢false a.0)
under c n v (fin false m e) a =
    subst T
    (sym (le_values (fin false m e) c (m * up e) (down e) n 8388608 (down_pos e) (zero-lt-suc 8388607) (refl, refl) v
    ∙ le-leb (m * up e * 8388608) (n * down e) a.1))
    tt

-- what is not negative is its own size
own_size : (x : Float) (n d : ℕ) → AtMost x n d → abs_of x ≡ x
unfolding abs_of
own_size nan n d a = refl
own_size (inf s) n d a = absurd a
own_size (fin s m e) n d a = ap (λ (t : Bool). fin t m e) (sym a.0)

size_most : (x : Float) → AtMost x 26353590 8388608 → T (angled x)
size_most x a = subst (λ (z : Float). T (le z pi)) (sym (own_size x 26353590 8388608 a)) (under pi 26353590 half_turn_value x a)

behind_most : (left : Bool) (S : Float) → AtMost S 13176795 8388608 → AtMost (cond left (pi ⊖ S) S) 26353590 8388608
behind_most false S a = at_most_wider S 13176795 8388608 26353590 8388608 (zero-lt-suc 8388607) (lit≤ tt) a
behind_most true nan a = absurd a
behind_most true (inf s) a = absurd a
behind_most true (fin true m e) a = absurd (true≢false a.0)
behind_most true (fin false m e) a = half_less_most m e a.1

atan_angled : (x y : Float) → T (finite x) → T (finite y) → is_zero x && is_zero y ≡ false → T (angled (approx_atan2_of y x))
atan_angled x y F G h =
    let S = steep_of (abs_of x) (abs_of y) in
    let behind = cond (lt x zero32) (pi ⊖ S) S in
    subst (λ (a : Float). T (angled a)) (sym (atan_parts y x)) (go (lt y zero32) behind (behind_most (lt x zero32) S (steep_most x y F G h)))
  where
    go : (below : Bool) (b : Float) → AtMost b 26353590 8388608 → T (angled (cond below (neg b) b))
    go false b a = size_most b a
    go true b a = subst (λ (z : Float). T (le z pi)) (sym (abs_neg b)) (size_most b a)

-- ---- a direction's angle, and when it is known
known_long : (d : Point) → T (known_of (angle_of d)) → long d ≡ true
unfolding angle_of
known_long d = go (long d)
  where
    go : (l : Bool) → T (known_of (cond l (Some (approx_atan2_of d.y d.x)) None)) → l ≡ true
    go true h = refl
    go false h = absurd h

long_known : (d : Point) → long d ≡ true → angle_of d ≡ Some (approx_atan2_of d.y d.x)
unfolding angle_of
long_known d h = ap (λ (l : Bool). cond l (Some (approx_atan2_of d.y d.x)) None) h

abbrev value_of : Angle → Float
value_of None = zero32
value_of (Some a) = a

within : (d : Point) (a : Float) → T (finite_of d) → angle_of d ≡ Some a → T (angled a)
within d a F h =
    let l = known_long d (subst (λ (b : Angle). T (known_of b)) (sym h) tt) in
    subst (λ (b : Float). T (angled b)) (ap value_of (sym (long_known d l) ∙ h))
    (atan_angled d.x d.y (and_l (finite d.x) (finite d.y) F) (and_r (finite d.x) (finite d.y) F) (not_both d l))

-- ---- reversals
across_long : (d d' : Point) → Across d.x d'.x → Across d.y d'.y → len_of d' ≡ len_of d
unfolding len_of
across_long d d' p q = ap₂ (λ (a b : Float). sqrt32 (a ⊕ b)) (square d.x d'.x p.sizes) (square d.y d'.y q.sizes)
  where
    square : (x x' : Float) → abs_of x' ≡ abs_of x → x' ⊗ x' ≡ x ⊗ x
    square x x' h = square_size x' ∙ ap (λ (a : Float). a ⊗ a) h ∙ sym (square_size x)

across_knife : (d d' : Point) → T (finite_of d) → T (known_of (angle_of d)) → Across d.x d'.x → Across d.y d'.y
    → changed_of Knife (angle_of d) (angle_of d') ≡ true
unfolding changed_of difference_of
across_knife d d' F k p q =
    let l = known_long d k in
    let l' : long d' ≡ true = ap (le (f32 0x3400_0000)) (across_long d d' p q) ∙ l in
    ap₂ (λ (a b : Angle). changed_of Knife a b) (long_known d l) (long_known d' l')
    ∙ across_changed d.x d.y d'.x d'.y (and_l (finite d.x) (finite d.y) F) (and_r (finite d.x) (finite d.y) F) (not_both d l) p q

-- ---- two angles within ±π
where_turn : (a0 a1 : Float) → T (angled a0) → T (angled a1) → Where (turn_of a0 a1)
where_turn a0 a1 h k = where_of (turn_of a0 a1) (turn_fits a0 a1 (angled_finite a0 h) (angled_finite a1 k)) (turn_at_most a0 a1 h k)

around_none : (a : Float) → T (angled a) → full_diff_of a a ≡ zero32
unfolding full_diff_of
around_none a h = ap around_of (turn_none a (angled_finite a h)) ∙ around_short 0 (pos 0) (lit≤ tt) ∙ sym zero_is

no_angle : angle_of (point_at (inf false) (inf false)) ≡ Some nan
unfolding angle_of approx_atan2_of len_of root_in root rooted fma_of negative_of abs_of less_of min_of max_of sqrt_of count_trailing_zeros size span climb odd units round neg
    sum add sub mul div lt eq le is_nan of_fields of_bits to_bits
no_angle = refl

reached : (angle_of under_left ≡ Some (neg pi)) × (angle_of (point_at (neg one32) zero32) ≡ Some pi) × (turn_of (neg pi) pi ≡ two_pi)
unfolding angle_of approx_atan2_of len_of root_in root rooted fma_of negative_of abs_of less_of min_of max_of sqrt_of count_trailing_zeros size span climb odd units round neg
    sum add sub mul div lt eq le is_nan of_fields of_bits to_bits
reached = (refl, refl, refl)

pub turning : Turning
unfolding full_diff_of changed_of difference_of diff_of minus_of
turning =
    record {
      within = within;
      infinite = no_angle;
      turn_most = λ a0 a1 h k. under two_pi 52707180 full_turn_value (turn_of a0 a1) (turn_at_most a0 a1 h k);
      turn_reached = reached;
      rest_exact = λ a0 a1 h k. rest_sums (turn_of a0 a1) (where_turn a0 a1 h k);
      most = λ a0 a1 h k. around_most (turn_of a0 a1) (where_turn a0 a1 h k);
      none = around_none;
      symmetric = λ a0 a1. ap around_of (turn_symmetric a0 a1);
      reversed = λ d F k. across_knife d (reverse_of d) F k (neg_across d.x) (neg_across d.y);
      out_and_back = λ p q F k. back p q F k;
      beside_screen = λ a0 a1 h k. beside (turn_of a0 a1) (where_turn a0 a1 h k);
    }
  where
    back : (p q : Point) → T (finite_of (minus_of q p)) → T (known_of (angle_of (minus_of q p))) → changed_of Knife (angle_of (minus_of q p)) (angle_of (minus_of p q)) ≡ true
    back p q F k = across_knife (minus_of q p) (minus_of p q) F k (sub_across q.x p.x) (sub_across q.y p.y)
