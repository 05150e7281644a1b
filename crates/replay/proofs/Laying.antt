-- A column laid out entry by entry: what is left of it, laid after what already is. Assumes nothing.
use Rattle.std.proofs.Common.{◌≡◌, ℕ, zero, suc, ◌+◌, ◌-◌, ◌<◌, ◌≤◌, List, [], ◌∷◌, length, get_or, drop, set, min, inl, inr, sym, refl, ap, ◌∙◌, add-one, arith, drop_of_length-le, drop-cons}
use Rattle.std.proofs.Math.Nat.{eq-or-lt_of_le, min-le_left}
use Rattle.replay.specs.Numbers.{laid}

module _ {A : Type 0} (number : A → ℕ) where
  -- nothing is left of the column
  pub laid_nothing : (n at : ℕ) (numbers : List ℕ) → laid number n at [] numbers ≡ numbers
  unfolding laid
  laid_nothing zero at numbers = refl
  laid_nothing (suc n) at numbers = refl

  -- the next entry
  pub laid_next : (n at : ℕ) (v : A) (column : List A) (numbers : List ℕ) → laid number (suc n) at (v ∷ column) numbers ≡ laid number n (suc at) column (set numbers at (number v))
  unfolding laid
  laid_next n at v column numbers = refl

  pub laid_none : (at : ℕ) (column : List A) (numbers : List ℕ) → laid number 0 at column numbers ≡ numbers
  unfolding laid
  laid_none at column numbers = refl

  -- of n entries i are laid: the numbers now, and what is left
  abbrev pub Left : ℕ → ℕ → List A → List ℕ → List ℕ → ℕ → Type 0
  Left n at column numbers₀ numbers i = laid number n at column numbers₀ ≡ laid number (n - i) (at + i) (drop i column) numbers

  module _ (n at i : ℕ) (column : List A) (numbers₀ numbers : List ℕ) (whole : Left n at column numbers₀ numbers i) where
    pub lay_on : (d : A) (after : List ℕ) (v : ℕ) → i < n → i < length column → after ≡ set numbers (at + i) v → v ≡ number (get_or column i d)
        → Left n at column numbers₀ after (i + 1)
    lay_on d after v h k put e =
        let kept : after ≡ set numbers (at + i) (number (get_or column i d)) = put ∙ ap (λ (w : ℕ). set numbers (at + i) w) e in
        let p : n - i ≡ suc (n - (i + 1)) = omega (arith, h) in
        let q : suc (at + i) ≡ at + (i + 1) = omega arith in
        whole
        ∙ ap (λ (m : ℕ). laid number m (at + i) (drop i column) numbers) p
        ∙ ap (λ (r : List A). laid number (suc (n - (i + 1))) (at + i) r numbers) (drop-cons column i d k)
        ∙ laid_next (n - (i + 1)) (at + i) (get_or column i d) (drop (suc i) column) numbers
        ∙ ap (λ (l : List ℕ). laid number (n - (i + 1)) (suc (at + i)) (drop (suc i) column) l) (sym kept)
        ∙ ap (λ (m : ℕ). laid number (n - (i + 1)) m (drop (suc i) column) after) q
        ∙ ap (λ (m : ℕ). laid number (n - (i + 1)) (at + (i + 1)) (drop m column) after) (sym (add-one i))

    pub lay_short : length column ≤ i → numbers ≡ laid number n at column numbers₀
    lay_short h = sym (whole ∙ ap (λ (r : List A). laid number (n - i) (at + i) r numbers) (drop_of_length-le column h) ∙ laid_nothing (n - i) (at + i) numbers)

    pub lay_end : n ≤ i → numbers ≡ laid number n at column numbers₀
    lay_end h =
        let p : n - i ≡ 0 = omega (arith, h) in
        sym (whole ∙ ap (λ (m : ℕ). laid number m (at + i) (drop i column) numbers) p ∙ laid_none (at + i) (drop i column) numbers)

    -- i is as many as there are entries, or as were asked for
    pub lay_all : min n (length column) ≤ i → numbers ≡ laid number n at column numbers₀
    lay_all h = elim (eq-or-lt_of_le (min-le_left n (length column))) [ inl k ↦ lay_end (omega (arith, h, k)) | inr k ↦ lay_short (omega (arith, h, k)) ]
