-- `leaves::parts::jam` meets its contract: where something is lost, the result is odd, so it and x lie between the same two multiples of 2 ^ (d + 1). Assumes
-- nothing.
use mathlib.Core.Path.{◌≡◌, refl, sym, ap, ap₂, ◌∙◌}
use mathlib.Core.Logic.{inl, inr}
use Prim.Native.Nat.{ℕ, suc, ◌+◌, ◌*◌, ◌/◌, ◌%◌, ◌^◌, ◌≤◌, ◌<◌}
use native.Mathlib.Nat.{zero-mul, one-mul, mul_assoc, mul_comm, mul_left_comm, add-mul, pow-suc, div-mul-le_self, div-one, mul-one, div-add-mod'}
use native.Mathlib.Nat.{le-add_right, mod-lt, lt_of_lt_of_le, le_refl, le-add_left}
use native.Mathlib.Omega.{arith}
use lib.Pow.{pow_pos, pow_mono}
use Rattle.facts.proofs.Numbers.{halves}
use Rattle.rounding.specs.Alike.{Alike}
use Rattle.leaves.proofs.Shifts.{back_is}
use Rattle.leaves.proofs.parts.jam.Goals as goal

-- ---- x and the odd multiple (2 * j + 1) * 2 ^ d
beside : (x w W j m P Q R : ℕ) → P ≡ j * w → Q ≡ 2 * P → R ≡ 2 * P + w → W ≡ 2 * w → 0 < w → 2 * P < x → x < 2 * P + 2 * w
    → ((Q < x) × (x < Q + W)) × ((Q < R) × (R < Q + W))
beside x w W j m P Q R p q r e h l u = omega arith

alike_odd : (x d j m : ℕ) → m ≡ 2 * j + 1 → 2 * (j * 2 ^ d) < x → x < 2 * (j * 2 ^ d) + 2 * 2 ^ d → Alike (suc d) x (m * 2 ^ d)
alike_odd x d j m e l u =
    let w = 2 ^ d in
    let W : 2 ^ suc d ≡ 2 * w = pow-suc 2 d ∙ mul_comm w 2 in
    let Q : j * 2 ^ suc d ≡ 2 * (j * w) = ap (λ (y : ℕ). j * y) W ∙ mul_left_comm j 2 w in
    let R : m * w ≡ 2 * (j * w) + w = ap (λ (y : ℕ). y * w) e ∙ add-mul (2 * j) 1 w ∙ ap₂ (λ (a b : ℕ). a + b) (mul_assoc 2 j w) (one-mul w) in
    let z = beside x w (2 ^ suc d) j m (j * w) (j * 2 ^ suc d) (m * w) refl Q R W (pow_pos d) l u in
    inr (j, z.0, z.1)

-- ---- x is q * w and less than one w more
floor_lt : (x w : ℕ) → 0 < w → x < x / w * w + w
floor_lt x w h = go (x / w * w) (x % w) (div-add-mod' x w) (mod-lt x h)
  where
    go : (a r : ℕ) → a + r ≡ x → r < w → x < a + w
    go a r e l = omega arith

tiny : (x d : ℕ) → x < 2 ^ 64 → 63 < d → (x ≡ 0 → ⊥) → Alike (suc d) x (1 * 2 ^ d) × (1 ≤ x / 2 ^ d + 1)
tiny x d X D h = (
  alike_odd x d 0 1 refl (low x (0 * 2 ^ d) (zero-mul (2 ^ d)) h) (up x (2 ^ d) (0 * 2 ^ d) (lt_of_lt_of_le X (pow_mono D))),
  le-add_left 1 (x / 2 ^ d),
)
  where
    low : (x p : ℕ) → p ≡ 0 → (x ≡ 0 → ⊥) → 2 * p < x
    low x p e h = omega arith

    up : (x w p : ℕ) → x < w → x < 2 * p + 2 * w
    up x w p h = omega arith

module _ (x d : ℕ) (X : x < 2 ^ 64) where
  exact : x / 2 ^ d * 2 ^ d % 2 ^ 64 ≡ x → Alike (suc d) x (x / 2 ^ d * 2 ^ d) × (x / 2 ^ d ≤ x / 2 ^ d + 1)
  exact e = (inl (sym e ∙ back_is x (2 ^ d) X), le-add_right (x / 2 ^ d) 1)

  evens : x / 2 ^ d % 2 ≡ 0 → (x / 2 ^ d * 2 ^ d % 2 ^ 64 ≡ x → ⊥) → Alike (suc d) x ((x / 2 ^ d + 1) * 2 ^ d) × (x / 2 ^ d + 1 ≤ x / 2 ^ d + 1)
  evens e n =
      let w = 2 ^ d in
      let q = x / w in
      let half : 2 * (q / 2 * w) ≡ q * w = sym (mul_assoc 2 (q / 2) w) ∙ ap (λ (y : ℕ). y * w) (halves q e) in (
        alike_odd x d (q / 2) (q + 1) (one_up q e) (lower (2 * (q / 2 * w)) (q * w) half (div-mul-le_self x w) (λ k. n (back_is x w X ∙ k)))
            (upper (2 * (q / 2 * w)) (q * w) w half (floor_lt x w (pow_pos d))),
        le_refl (q + 1),
      )
    where
      one_up : (q : ℕ) → q % 2 ≡ 0 → q + 1 ≡ 2 * (q / 2) + 1
      one_up q e = omega arith

      lower : (a b : ℕ) → a ≡ b → b ≤ x → (b ≡ x → ⊥) → a < x
      lower a b e l n = omega arith

      upper : (a b w : ℕ) → a ≡ b → x < b + w → x < a + 2 * w
      upper a b w e l = omega arith

  odds : (x / 2 ^ d % 2 ≡ 0 → ⊥) → Alike (suc d) x (x / 2 ^ d * 2 ^ d) × (x / 2 ^ d ≤ x / 2 ^ d + 1)
  odds e =
      let w = 2 ^ d in
      let q = x / w in
      let half : q * w ≡ 2 * (q / 2 * w) + w = ap (λ (y : ℕ). y * w) (split q e) ∙ add-mul (2 * (q / 2)) 1 w
      ∙ ap₂ (λ (a b : ℕ). a + b) (mul_assoc 2 (q / 2) w) (one-mul w) in (
        alike_odd x d (q / 2) q (split q e) (lower (2 * (q / 2 * w)) (q * w) w half (pow_pos d) (div-mul-le_self x w))
            (upper (2 * (q / 2 * w)) (q * w) w half (floor_lt x w (pow_pos d))),
        le-add_right q 1,
      )
    where
      split : (q : ℕ) → (q % 2 ≡ 0 → ⊥) → q ≡ 2 * (q / 2) + 1
      split q e = omega arith

      lower : (a b w : ℕ) → b ≡ a + w → 0 < w → b ≤ x → a < x
      lower a b w e h l = omega arith

      upper : (a b w : ℕ) → b ≡ a + w → x < b + w → x < a + 2 * w
      upper a b w e l = omega arith

-- ---- a shift by nothing
unmoved : (x d : ℕ) → d ≡ 0 → x / 2 ^ d ≡ x
unmoved x d e = ap (λ (k : ℕ). x / 2 ^ k) e ∙ div-one x

never : (d : ℕ) → 63 < d → d ≡ 0 → ⊥
never d h e = omega arith

lossless : (x d : ℕ) → x < 2 ^ 64 → (x / 2 ^ d * 2 ^ d % 2 ^ 64 ≡ x → ⊥) → d ≡ 0 → ⊥
lossless x d X n e = n (back_is x (2 ^ d) X ∙ ap (λ (k : ℕ). x / 2 ^ k * 2 ^ k) e ∙ mul-one (x / 1) ∙ div-one x)

pub returns-else-x-eq0 : goal.returns-else-x-eq0
returns-else-x-eq0 c =
    let a = c.args in
    let g = tiny a.x a.d c.ranges.x.fits c.if-d-gt63.true c.if-x-eq0.false in
    (g.0, g.1, λ e. absurd (never a.d c.if-d-gt63.true e))

pub returns-then-q-eq0 : goal.returns-then-q-eq0
returns-then-q-eq0 c =
    let a = c.args in
    let g = evens a.x a.d c.ranges.x.fits c.if-q-eq0.true c.if-q-d.false in
    (g.0, g.1, λ e. absurd (lossless a.x a.d c.ranges.x.fits c.if-q-d.false e))

pub returns-else-q-eq0 : goal.returns-else-q-eq0
returns-else-q-eq0 c =
    let a = c.args in
    let g = odds a.x a.d c.ranges.x.fits c.if-q-eq0.false in
    (g.0, g.1, unmoved a.x a.d)
