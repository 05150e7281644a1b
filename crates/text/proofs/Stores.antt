-- Laws of a run of stores: one run after another is one run; the last store may be made first. Assumes nothing.
use mathlib.Core.Path.{◌≡◌, refl, ap, ◌∙◌}
use mathlib.Core.List.{List, [], ◌∷◌, ◌++◌}
use Prim.Native.Nat.{ℕ, suc, ◌+◌, ◌≤◌}
use native.Mathlib.Nat.{add-zero}
use native.Mathlib.Omega.{arith}
use lib.ListN.{length, set}
use lib.Seq.{sets, set_comm, set_out}

module _ {A : Type 0} where
  pub sets_append : (l : List A) (i : ℕ) (xs ys : List A) → sets l i (xs ++ ys) ≡ sets (sets l i xs) (i + length xs) ys
  sets_append l i [] ys = rw add-zero
  sets_append l i (a ∷ xs) ys =
      let e : suc i + length xs ≡ i + suc (length xs) = omega arith in
      sets_append (set l i a) (suc i) xs ys ∙ ap (λ (n : ℕ). sets (sets (set l i a) (suc i) xs) n ys) e

  -- a store before a run that does not reach its place
  before_run : (l : List A) (i j : ℕ) (b : A) (xs : List A) → i + length xs ≤ j → set (sets l i xs) j b ≡ sets (set l j b) i xs
  before_run l i j b [] h = refl
  before_run l i j b (a ∷ xs) h =
      before_run (set l i a) (suc i) j b xs (omega arith)
      ∙ ap (λ (m : List A). sets m (suc i) xs) (set_comm l i j a b (λ e. omega arith))

  pub sets_last : (l : List A) (i : ℕ) (xs : List A) (b : A) → sets l i (xs ++ (b ∷ [])) ≡ sets (set l (i + length xs) b) i xs
  sets_last l i xs b = sets_append l i xs (b ∷ []) ∙ before_run l i (i + length xs) b xs (omega arith)

  -- past the end nothing is stored
  pub sets_out : (l : List A) (i : ℕ) (xs : List A) → length l ≤ i → sets l i xs ≡ l
  sets_out l i [] h = refl
  sets_out l i (a ∷ xs) h = ap (λ (m : List A). sets m (suc i) xs) (set_out l i a h) ∙ sets_out l (suc i) xs (omega arith)
