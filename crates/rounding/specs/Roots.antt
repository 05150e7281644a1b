-- The whole part of a root, cut to what a format keeps; the largest value of a format whose power is at most a number; and the value of a format nearest to a
-- square root. Assumes nothing.
use Prim.Native.Nat.{ℕ, zero, suc, ◌+◌, ◌-◌, ◌*◌, ◌/◌, ◌^◌, ◌≤◌, ◌<◌, compare}
use Rattle.std.specs.Prelude.{false, cond, T, leb, Float}
use Rattle.std.specs.Float.{Format}
use Rattle.std.specs.Float.Ieee.{prec, size, nearest, units, fits, to_bits, of_bits}
use Rattle.std.specs.Float.Ieee.Scale.{finite}
use Rattle.std.specs.Float.Ieee.Positive.{num, den}

-- the largest r with r ^ k ≤ n, by digits: twice the root of n / 2 ^ k, or one more. d is at least as many as the root's digits
unfoldable pub root_in : ℕ → ℕ → ℕ → ℕ
root_in k zero n = 0
root_in k (suc d) n = let r = root_in k d (n / 2 ^ k) in cond (leb ((2 * r + 1) ^ k) n) (2 * r + 1) (2 * r)

-- the whole part of the k-th root of n
unfoldable pub root : ℕ → ℕ → ℕ
root k n = root_in k (size n) n

abbrev pub IsRoot : ℕ → ℕ → ℕ → Type 0
IsRoot k n r = (r ^ k ≤ n) × (n < (r + 1) ^ k)

-- w smallest values of the format f, without the digits that it does not keep
unfoldable pub cut_to : Format → ℕ → Float
cut_to f w = let k = size w - prec f in units f false (w / 2 ^ k) k

-- r is the largest finite value of the format f whose k-th power is at most q, which is finite
pub record LargestRoot (f : Format) (k : ℕ) (q r : Float) : Type 0 where
  pub held : T (fits f r)
  pub whole : T (finite r)
  pub low : num r ^ k * den q ≤ num q * den r ^ k
  pub most : (x : Float) → T (fits f x) → T (finite x) → num x ^ k * den q ≤ num q * den x ^ k → num x * den r ≤ num r * den x

-- the next value of the format above an r from 0 up: patterns are in the order of the values
abbrev pub next_above : Format → Float → Float
next_above f r = of_bits f (to_bits f r + 1)

-- the value of the format f nearest to the square root of n squares of its smallest value: q * 2 ^ k is the root cut to what the format keeps, and mid / 2 lies
-- in the middle up to the next
unfoldable pub rooted : Format → ℕ → Float
rooted f n =
    let w = root 2 n in
    let k = size w - prec f in
    let q = w / 2 ^ k in
    let mid = (2 * q + 1) * 2 ^ k in
    units f false (nearest q (compare (n * 4) (mid * mid))) k

-- r is the whole number nearest to the square root of n, r * r - r < n ≤ r * r + r: then the root is nearer to r than a half
pub record IsNear (n r : ℕ) : Type 0 where
  pub below : r * r < n + r
  pub above : n ≤ r * r + r
