-- Laws of finished points: how many there are, and the point at a place. Assumes nothing.
use mathlib.Core.Path.{◌≡◌, refl}
use mathlib.Core.List.{List, [], ◌∷◌}
use Prim.Native.Nat.{ℕ, zero, suc, ◌<◌}
use native.Mathlib.Nat.{le_of_suc-le-suc, not-suc-le-zero}
use native.Mathlib.Omega.{arith}
use lib.ListN.{length, get_or, drop}
use Rattle.columns.specs.Flags.{is_flag_of}
use Rattle.contours.specs.Finished.{position, vertex, finished_of, shortest_of}

module _ {A : Type 0} where
  pub finished-length : (x y : List A) (end : List ℕ) → length (finished_of x y end) ≡ shortest_of (length x) (length y) (length end)
  unfolding finished_of shortest_of
  finished-length [] ys ends = omega arith
  finished-length (x ∷ xs) [] ends = omega arith
  finished-length (x ∷ xs) (y ∷ ys) [] = omega arith
  finished-length (x ∷ xs) (y ∷ ys) (b ∷ ends) = omega (arith, finished-length xs ys ends)

  pub finished_at : (d : A) (x y : List A) (end : List ℕ) (i : ℕ) → i < length (finished_of x y end)
      → drop i (finished_of x y end) ≡ vertex (position (get_or x i d) (get_or y i d)) (is_flag_of (get_or end i 0)) ∷ drop (suc i) (finished_of x y end)
  unfolding finished_of
  finished_at d [] ys ends i h = absurd (not-suc-le-zero h)
  finished_at d (x ∷ xs) [] ends i h = absurd (not-suc-le-zero h)
  finished_at d (x ∷ xs) (y ∷ ys) [] i h = absurd (not-suc-le-zero h)
  finished_at d (x ∷ xs) (y ∷ ys) (b ∷ ends) zero h = refl
  finished_at d (x ∷ xs) (y ∷ ys) (b ∷ ends) (suc i) h = finished_at d xs ys ends i (le_of_suc-le-suc h)
