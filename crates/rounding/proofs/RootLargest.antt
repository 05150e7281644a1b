-- The whole root of a value, cut to what the format keeps, is the largest value of the format whose power is at most that value. Assumes nothing.
use mathlib.Core.Path.{◌≡◌, sym, ap, ap₂, ◌∙◌}
use mathlib.Core.Bool.{false}
use Prim.Native.Nat.{ℕ, suc, ◌+◌, ◌*◌, ◌^◌, ◌≤◌, ◌<◌}
use native.Mathlib.Nat.{mul_comm, mul_assoc, mul_right_comm, mul-mul-mul_comm, mul-pos, zero-lt-suc, one-le-pow, pow-succ', pow-le-pow_left, mul-le-mul_right}
use native.Mathlib.Nat.{le_of_mul-le-mul_right, lt_of_not-le, not-le_of_lt, le_trans, le_of_eq}
use lib.Dec.{T}
use lib.Pow.{pow_pos}
use lib.Ieee.{Float, Format, prec, emax, low, fits, to_bits}
use lib.Ieee.Fits.{two, two-le_pos}
use lib.Ieee.Order.{transfer}
use lib.Ieee.Positive.{num, den, den_pos}
use lib.Ieee.Scale.{finite}
use Rattle.rounding.specs.Parts.{sig, place}
use Rattle.rounding.specs.Roots.{root, cut_to, LargestRoot}
use Rattle.rounding.proofs.Basics.{le_of_lt_one, mul_pow}
use Rattle.rounding.proofs.Cuts.{gone, kept, cut_le, cut_value, cut_fits}
use Rattle.rounding.proofs.Grid.{cut_most}
use Rattle.rounding.proofs.Parts.{sig_lt}
use Rattle.rounding.proofs.Roots.{power_lt, root_is}
use Rattle.rounding.proofs.Values.{cross, value_finite, worth, worth_cross}

-- so the power of each value above it is above q
pub power_above : (f : Format) (k : ℕ) (q r : Float) → LargestRoot f k q r
    → (x : Float) → T (fits f x) → T (finite x) → num r * den x < num x * den r → num q * den x ^ k < num x ^ k * den q
power_above f k q r l x G g u = lt_of_not-le (λ (h : num x ^ k * den q ≤ num q * den x ^ k). not-le_of_lt u (l.most x G g h))

-- ---- powers of fractions: n / d = X / L and p / c = A / L, with L ^ k = L * K
module _ (k n d p c X A L K : ℕ) (x : n * L ≡ X * d) (y : p * L ≡ A * c) (e : L ^ k ≡ L * K) where
  left : n ^ k * c * L ^ k ≡ X ^ k * (d ^ k * c)
  left =
      mul_right_comm (n ^ k) c (L ^ k)
      ∙ ap (λ (z : ℕ). z * c) (sym (mul_pow n L k) ∙ ap (λ (z : ℕ). z ^ k) x ∙ mul_pow X d k)
      ∙ mul_assoc (X ^ k) (d ^ k) c

  right : p * d ^ k * L ^ k ≡ A * K * (d ^ k * c)
  right =
      ap (λ (z : ℕ). p * d ^ k * z) e
      ∙ mul-mul-mul_comm p (d ^ k) L K
      ∙ ap₂ (λ (u v : ℕ). u * v) y (mul_comm (d ^ k) K)
      ∙ mul-mul-mul_comm A c K (d ^ k)
      ∙ ap (λ (z : ℕ). A * K * z) (mul_comm c (d ^ k))

  lower : 0 < L ^ k → X ^ k ≤ A * K → n ^ k * c ≤ p * d ^ k
  lower P h = le_of_mul-le-mul_right (le_trans (le_of_eq left) (le_trans (mul-le-mul_right (d ^ k * c) h) (le_of_eq (sym right)))) P

  raise : 0 < d ^ k * c → n ^ k * c ≤ p * d ^ k → X ^ k ≤ A * K
  raise P h = le_of_mul-le-mul_right (le_trans (le_of_eq (sym left)) (le_trans (mul-le-mul_right (L ^ k) h) (le_of_eq right))) P

-- ---- the root of power j + 1 of a finite value q of the format, in smallest values
module _ (f : Format) (j : ℕ) (q : Float) (F : T (fits f q)) (h : T (finite q)) where
  L : ℕ
  L = 2 ^ low f

  N : ℕ
  N = worth f q * (2 ^ low f) ^ j

  w : ℕ
  w = root (suc j) N

  w_is : (w ^ suc j ≤ N) × (N < (w + 1) ^ suc j)
  unfolding w
  w_is = root_is (suc j) (zero-lt-suc j) N

  module _ (W : root (suc j) (worth f q * (2 ^ low f) ^ j) < 2 ^ (low f + suc (emax f))) where
    r : Float
    r = cut_to f w

    R : ℕ
    R = kept f w * 2 ^ gone f w

    r_cross : num r * L ≡ R * den r
    unfolding r R L w N
    r_cross = cross r false R L (cut_value f w W)

    r_low : num r ^ suc j * den q ≤ num q * den r ^ suc j
    unfolding L N R
    r_low =
        lower (suc j) (num r) (den r) (num q) (den q) R (worth f q) L (L ^ j) r_cross (worth_cross f q F h) (pow-succ' L j)
        (one-le-pow (suc j) L (pow_pos (low f)))
        (le_trans (pow-le-pow_left (cut_le f w) (suc j)) w_is.0)

    r_most : (x : Float) → T (fits f x) → T (finite x) → num x ^ suc j * den q ≤ num q * den x ^ suc j → num x * den r ≤ num r * den x
    unfolding L N R worth kept gone
    r_most x G g l =
        let X = worth f x in
        let b = to_bits f x in
        let power : X ^ suc j ≤ N =
        raise (suc j) (num x) (den x) (num q) (den q) X (worth f q) L (L ^ j) (worth_cross f x G g) (worth_cross f q F h) (pow-succ' L j)
        (mul-pos (one-le-pow (suc j) (den x) (den_pos x)) (den_pos q)) l in
        let most : X ≤ R = cut_most (prec f) w (two-le_pos (prec f) (two f)) (sig f b) (place f b) (sig_lt f b)
        (le_of_lt_one X w (power_lt (suc j) X (w + 1) N power w_is.1)) in
        transfer (num x) (num r) (den x) (den r) X R L L (pow_pos (low f)) (pow_pos (low f)) (worth_cross f x G g) r_cross (mul-le-mul_right L most)

    pub root_largest : LargestRoot f (suc j) q (cut_to f (root (suc j) (worth f q * (2 ^ low f) ^ j)))
    unfolding r w N L
    root_largest = record {
      held = cut_fits f w;
      whole = value_finite r false (kept f w * 2 ^ gone f w) (2 ^ low f) (cut_value f w W);
      low = r_low;
      most = r_most;
    }
