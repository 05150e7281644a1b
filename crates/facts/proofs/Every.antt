-- Laws of a statement about every entry of a list. Assumes nothing.
use mathlib.Core.Path.{◌≡◌, sym, subst}
use mathlib.Core.Logic.{◌⊎◌, inl, inr}
use mathlib.Core.List.Memᴰ
use mathlib.Core.List.{List, [], ◌∷◌, ◌++◌, Memᴰ}
use Prim.Native.Nat.{ℕ, zero, suc, ◌<◌}
use native.Mathlib.Nat.{le_of_suc-le-suc, not-suc-le-zero}
use lib.ListN.{length, get_or}
use Rattle.facts.specs.Every.{All}

module _ {A : Type 0} where
  pub all_append : (P : A → Type 0) (s t : List A) → All P s → All P t → All P (s ++ t)
  all_append P [] t h k = k
  all_append P (a ∷ s) t h k = (h.0, all_append P s t h.1 k)

  pub all_map : (P R : A → Type 0) → ((a : A) → P a → R a) → (s : List A) → All P s → All R s
  all_map P R f [] h = tt
  all_map P R f (a ∷ s) h = (f a h.0, all_map P R f s h.1)

  pub all_member : (P : A → Type 0) (s : List A) (a : A) → All P s → Memᴰ a s → P a
  all_member P [] a h m = elim m [ ]
  all_member P (b ∷ s) a h m = elim (cases m) [ inl e ↦ subst P (sym e) h.0 | inr k ↦ all_member P s a h.1 k ]
    where
      cases : Memᴰ a (b ∷ s) → (a ≡ b) ⊎ Memᴰ a s
      cases m = Memᴰ.cases_cons m

  pub all_at : (P : A → Type 0) (s : List A) (d : A) (i : ℕ) → All P s → i < length s → P (get_or s i d)
  all_at P [] d i h k = absurd (not-suc-le-zero k)
  all_at P (a ∷ s) d zero h k = h.0
  all_at P (a ∷ s) d (suc i) h k = all_at P s d i h.1 (le_of_suc-le-suc k)
