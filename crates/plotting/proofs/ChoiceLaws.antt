-- Laws of the flag that chooses the setting. Assumes nothing.
use mathlib.Core.Path.{◌≡◌, refl, sym, ap, ◌∙◌, ap₂}
use mathlib.Core.Bool.{Bool, true, false, cond}
use mathlib.Core.List.{List, [], ◌∷◌}
use Prim.Native.Nat.{ℕ}
use lib.Dec.{eqb}
use lib.Pointwise.{pointwise}
use Rattle.text.specs.Bytes.{bytes, same_bytes}
use Rattle.point.specs.declared.Setting.TheVariants.{Screen, Knife}
use Rattle.std.specs.Prelude.{Option, Some, None}
use Rattle.point.specs.declared.Setting.{Setting}
use Rattle.plotting.specs.Choice.{chosen_of}

-- what `==` answers of two texts
compared : (xs ys : List ℕ) → pointwise eqb xs ys ≡ same_bytes xs ys
unfolding same_bytes
compared [] [] = refl
compared [] (b ∷ ys) = refl
compared (a ∷ xs) [] = refl
compared (a ∷ xs) (b ∷ ys) = rw (compared xs ys)

pub same : (flag name name' : List ℕ) (r b : Bool) → r ≡ pointwise eqb flag name' → name' ≡ name → r ≡ b → same_bytes flag name ≡ b
same flag name name' r b h e k = sym (compared flag name) ∙ ap (pointwise eqb flag) (sym e) ∙ sym h ∙ k

module _ (flag : List ℕ) where
  abbrev by : Bool → Bool → Option Setting
  by knife screen = cond knife (Some Knife) (cond screen (Some Screen) None)

  pub is_knife : same_bytes flag (bytes "--knife") ≡ true → Some Knife ≡ chosen_of flag
  unfolding chosen_of
  is_knife h = sym (ap (λ (k : Bool). by k (same_bytes flag (bytes "--screen"))) h)

  pub is_screen : same_bytes flag (bytes "--knife") ≡ false → same_bytes flag (bytes "--screen") ≡ true → Some Screen ≡ chosen_of flag
  unfolding chosen_of
  is_screen h k = sym (ap₂ by h k)

  pub is_unknown : same_bytes flag (bytes "--knife") ≡ false → same_bytes flag (bytes "--screen") ≡ false → None ≡ chosen_of flag
  unfolding chosen_of
  is_unknown h k = sym (ap₂ by h k)
