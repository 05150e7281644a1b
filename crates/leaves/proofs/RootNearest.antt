-- The square root of a positive finite f32 is nearest: no other f32 is closer to the real root. Assumes nothing.
use mathlib.Core.Path.{◌≡◌, sym, ap, ap₂, ◌∙◌, subst}
use mathlib.Core.Bool.{Bool, true, false}
use Prim.Native.Nat.{ℕ, ◌+◌, ◌-◌, ◌*◌, ◌^◌, ◌≤◌, ◌<◌}
use native.Mathlib.Nat.{mul_assoc, mul_comm, mul_left_comm, mul_right_comm, mul-mul-mul_comm, add-mul, mul-pos, mul-le-mul_right, mul-lt-mul_of_pos_right}
use native.Mathlib.Nat.{le_of_mul-le-mul_right, lt_of_mul-lt-mul_right, lt_of_lt_of_le, lt_of_le_of_lt, le_trans, le_of_eq}
use native.Mathlib.Omega.{arith}
use lib.Dec.{T, leb, lit≤}
use lib.Pow.{pow_pos, pow_mono}
use lib.Ieee.{Float, nan, inf, fin, binary32, size, units, fits, lt, to_bits}
use lib.Ieee.Bits.{is_true}
use lib.Ieee.Digits.{size-le}
use lib.Ieee.Exact.{HasValue, units_val}
use lib.Ieee.Positive.{num, den}
use lib.Ieee.Scale.{finite}
use Rattle.rounding.specs.Parts.{sig, place}
use Rattle.rounding.specs.Roots.{root}
use Rattle.rounding.proofs.Parts.{sig_lt}
use Rattle.rounding.proofs.Packing.{units_fits}
use Rattle.rounding.proofs.Roots.{square_root_is, square_lt}
use Rattle.rounding.proofs.RootNearest.{kept_root, kept_root_le, kept_root_digits, rooted_is, root_sides}
use Rattle.rounding.proofs.Values.{cross, value_finite, worth, worth_value, worth_cross, worth_lt}
use Rattle.leaves.specs.Single.{zero32}
use Rattle.leaves.specs.Small.{negative_of}
use Rattle.leaves.specs.Sqrt.{sqrt32, middle, NearestRoot}
use Rattle.leaves.proofs.Comparisons.{above}
use Rattle.leaves.proofs.RootParts.{root_value}

-- ---- fractions: r = R / L, y = Y / L, x = A / L
module _ (nr dr ny dy nx dx R Y A L : ℕ) (r : nr * L ≡ R * dr) (y : ny * L ≡ Y * dy) (x : nx * L ≡ A * dx) (P : 0 < L) where
  unfoldable pub M : ℕ
  M = nr * dy + ny * dr

  unfoldable pub W : ℕ
  W = dr * dy

  sum_scale : M * L ≡ (Y + R) * W
  unfolding M W
  sum_scale =
      add-mul (nr * dy) (ny * dr) L
      ∙ ap₂ (λ (a b : ℕ). a + b) (mul_right_comm nr dy L ∙ ap (λ (z : ℕ). z * dy) r ∙ mul_assoc R dr dy)
      (mul_right_comm ny dr L ∙ ap (λ (z : ℕ). z * dr) y ∙ mul_assoc Y dy dr ∙ ap (λ (z : ℕ). Y * z) (mul_comm dy dr))
      ∙ flip (R * (dr * dy)) (Y * (dr * dy)) ((Y + R) * (dr * dy)) (add-mul Y R (dr * dy))
    where
      flip : (a b c : ℕ) → c ≡ b + a → a + b ≡ c
      flip a b c e = omega arith

  left : M * M * dx * (L * L) ≡ (Y + R) * (Y + R) * (W * W * dx)
  left =
      mul_right_comm (M * M) dx (L * L)
      ∙ ap (λ (z : ℕ). z * dx) (mul-mul-mul_comm M M L L ∙ ap (λ (z : ℕ). z * z) sum_scale ∙ mul-mul-mul_comm (Y + R) W (Y + R) W)
      ∙ mul_assoc ((Y + R) * (Y + R)) (W * W) dx

  right : nx * (2 * W * (2 * W)) * (L * L) ≡ A * L * 4 * (W * W * dx)
  right =
      ap (λ (z : ℕ). nx * z * (L * L)) (mul-mul-mul_comm 2 W 2 W)
      ∙ shuffle nx (W * W) L 4
      ∙ ap (λ (z : ℕ). z * (L * 4 * (W * W))) x
      ∙ shuffle2 A dx L 4 (W * W)
    where
      shuffle : (n w l c : ℕ) → n * (c * w) * (l * l) ≡ n * l * (l * c * w)
      shuffle n w l c = simp (mul_assoc, mul_comm, mul_left_comm)

      shuffle2 : (a d l c w : ℕ) → a * d * (l * c * w) ≡ a * l * c * (w * d)
      shuffle2 a d l c w = simp (mul_assoc, mul_comm, mul_left_comm)

  LL : 0 < L * L
  LL = mul-pos P P

  lower : (Y + R) * (Y + R) ≤ A * L * 4 → M * M * dx ≤ nx * (2 * W * (2 * W))
  lower h = le_of_mul-le-mul_right (le_trans (le_of_eq left) (le_trans (mul-le-mul_right (W * W * dx) h) (le_of_eq (sym right)))) LL

  upper : A * L * 4 ≤ (Y + R) * (Y + R) → nx * (2 * W * (2 * W)) ≤ M * M * dx
  upper h = le_of_mul-le-mul_right (le_trans (le_of_eq right) (le_trans (mul-le-mul_right (W * W * dx) h) (le_of_eq (sym left)))) LL

  -- the converses, if the denominators are above 0
  module _ (D : 0 < W * W * dx) where
    pub of_lower : M * M * dx ≤ nx * (2 * W * (2 * W)) → (Y + R) * (Y + R) ≤ A * L * 4
    of_lower h = le_of_mul-le-mul_right (le_trans (le_of_eq (sym left)) (le_trans (mul-le-mul_right (L * L) h) (le_of_eq right))) D

    pub of_upper : nx * (2 * W * (2 * W)) ≤ M * M * dx → A * L * 4 ≤ (Y + R) * (Y + R)
    of_upper h = le_of_mul-le-mul_right (le_trans (le_of_eq (sym right)) (le_trans (mul-le-mul_right (L * L) h) (le_of_eq left))) D

-- an order of fractions is one of their smallest values
order : (na da nb db a b L : ℕ) → 0 < L → na * L ≡ a * da → nb * L ≡ b * db → na * db < nb * da → a < b
order na da nb db a b L P e g h =
    lt_of_mul-lt-mul_right (da * db)
    (lt_of_le_of_lt (le_of_eq (sym (mul_assoc a da db) ∙ ap (λ (z : ℕ). z * db) (sym e) ∙ mul_right_comm na L db))
    (lt_of_lt_of_le (mul-lt-mul_of_pos_right h P)
    (le_of_eq (mul_right_comm nb da L ∙ ap (λ (z : ℕ). z * da) g ∙ mul_assoc b db da ∙ ap (λ (z : ℕ). b * z) (mul_comm db da)))))

sign_is : (x : Float) (s : Bool) (a c : ℕ) → HasValue x s a c → negative_of x ≡ s
unfolding negative_of
sign_is nan s a c v = absurd v
sign_is (inf t) s a c v = absurd v
sign_is (fin t m e) s a c v = v.0

module _ (x : Float) (F : T (fits binary32 x)) (g : T (finite x)) (P : T (lt zero32 x)) where
  N : ℕ
  N = worth binary32 x * 2 ^ 149

  -- the root has fewer digits than would be infinite
  w_lt : root 2 N < 2 ^ 214
  unfolding N
  w_lt = square_lt (root 2 N) (2 ^ 214) N (square_root_is N).0 (lt_of_lt_of_le (mul-lt-mul_of_pos_right (worth_lt binary32 x) (pow_pos 149)) (lit≤ tt))

  R : ℕ
  R = kept_root binary32 N * 2 ^ (size (root 2 N) - 24)

  R_lt : R < 2 ^ 277
  unfolding R
  R_lt =
      lt_of_le_of_lt (kept_root_le binary32 N)
      (within (root 2 N) (2 ^ 214) (2 ^ (size (root 2 N) - 24)) (2 ^ 190) (2 ^ 277) w_lt (pow_mono (fewer (size (root 2 N)) (size-le (root 2 N) 214 w_lt)))
      (lit≤ tt))
    where
      within : (w a d b c : ℕ) → w < a → d ≤ b → a + b ≤ c → w + d < c
      within w a d b c h k l = omega arith

      fewer : (z : ℕ) → z ≤ 214 → z - 24 ≤ 190
      fewer z h = omega arith

  is : units binary32 false (kept_root binary32 N) (size (root 2 N) - 24) ≡ sqrt32 x
  unfolding N
  is =
      sym (rooted_is binary32 N) ∙ root_value x (leb 2147483648 (to_bits binary32 x)) (worth binary32 x) (above x true (is_true (lt zero32 x) P))
      (worth_value binary32 x F g)

  r_value : HasValue (sqrt32 x) false R (2 ^ 149)
  unfolding R
  r_value = subst (λ (v : Float). HasValue v false R (2 ^ 149)) is (units_val binary32 false (kept_root binary32 N) (size (root 2 N) - 24) R_lt)

  r_cross : num (sqrt32 x) * 2 ^ 149 ≡ R * den (sqrt32 x)
  r_cross = cross (sqrt32 x) false R (2 ^ 149) r_value

  x_cross : num x * 2 ^ 149 ≡ worth binary32 x * den x
  x_cross = worth_cross binary32 x F g

  module _ (y : Float) (G : T (fits binary32 y)) (h : T (finite y)) where
    y_cross : num y * 2 ^ 149 ≡ worth binary32 y * den y
    y_cross = worth_cross binary32 y G h

    below : num y * den (sqrt32 x) < num (sqrt32 x) * den y
        → middle (sqrt32 x) y * middle (sqrt32 x) y * den x ≤ num x * (2 * (den (sqrt32 x) * den y) * (2 * (den (sqrt32 x) * den y)))
    unfolding M W R N worth
    below l =
        let b = to_bits binary32 y in
        lower (num (sqrt32 x)) (den (sqrt32 x)) (num y) (den y) (num x) (den x) R (worth binary32 y) (worth binary32 x) (2 ^ 149) r_cross y_cross x_cross
        (pow_pos 149)
        ((root_sides binary32 N (sig binary32 b) (place binary32 b) (sig_lt binary32 b)).0
        (order (num y) (den y) (num (sqrt32 x)) (den (sqrt32 x)) (worth binary32 y) R (2 ^ 149) (pow_pos 149) y_cross r_cross l))

    beyond : num (sqrt32 x) * den y < num y * den (sqrt32 x)
        → num x * (2 * (den (sqrt32 x) * den y) * (2 * (den (sqrt32 x) * den y))) ≤ middle (sqrt32 x) y * middle (sqrt32 x) y * den x
    unfolding M W R N worth
    beyond l =
        let b = to_bits binary32 y in
        upper (num (sqrt32 x)) (den (sqrt32 x)) (num y) (den y) (num x) (den x) R (worth binary32 y) (worth binary32 x) (2 ^ 149) r_cross y_cross x_cross
        (pow_pos 149)
        ((root_sides binary32 N (sig binary32 b) (place binary32 b) (sig_lt binary32 b)).1
        (order (num (sqrt32 x)) (den (sqrt32 x)) (num y) (den y) R (worth binary32 y) (2 ^ 149) (pow_pos 149) r_cross y_cross l))

  pub root_nearest : NearestRoot x (sqrt32 x)
  unfolding R
  root_nearest = record {
    held =
        subst (λ (v : Float). T (fits binary32 v)) is
        (units_fits binary32 false (kept_root binary32 N) (size (root 2 N) - 24) (kept_root_digits binary32 N) R_lt);
    whole = value_finite (sqrt32 x) false R (2 ^ 149) r_value;
    unsigned = sign_is (sqrt32 x) false R (2 ^ 149) r_value;
    below = below;
    above = beyond;
  }
