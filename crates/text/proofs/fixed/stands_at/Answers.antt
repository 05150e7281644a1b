-- `text::stands_at` meets its contract: what is left of the text from the place on begins with the fixed string. Assumes nothing.
use Rattle.std.proofs.Common.{◌≡◌, ℕ, List, [], Option, None, Some, length, ap, sym, ◌∙◌, arith}
use Rattle.std.specs.Option.{UnwrapsOrElse}
use Rattle.std.specs.Slice.{IsGetRangeResult}
use Rattle.std.proofs.lemmas.Slice.{between_to_end}
use native.Mathlib.Nat.{le_refl}
use mathlib.Core.Logic.{inl, inr}
use denote.Ref.{Bor}
use lib.ListN.{drop, drop_of_length-le}
use Rattle.text.proofs.Standing.{stands_begins}
use Rattle.text.proofs.fixed.stands_at.Goals as goal

left : (text : List ℕ) (at : ℕ) (r : Option (Bor (List ℕ))) (rest : Bor (List ℕ)) → IsGetRangeResult text at (length text) r → UnwrapsOrElse r (λ (x : Bor (List ℕ)). x.now ≡ []) rest → rest.now ≡ drop at text
left text at None rest g u = u ∙ sym (drop_of_length-le text (elim g.0 [ inl h ↦ omega arith | inr h ↦ omega arith ]))
left text at (Some x) rest g u = ap (λ (b : Bor (List ℕ)). b.now) u ∙ g.0.2 ∙ between_to_end text at (length text) (le_refl (length text))

pub returns : goal.returns
returns c = c.starts_with.ensures.value ∙ stands_begins _ _ _ _ (left _ _ _ _ c.get.ensures.lookup c.unwrap_or_default.ensures)
