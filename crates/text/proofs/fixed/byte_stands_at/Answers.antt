-- `text::byte_stands_at` meets its contract: past the end there is no byte. Assumes nothing.
use mathlib.Core.Path.{◌≡◌, sym, ap, ◌∙◌}
use mathlib.Core.List.{[], ◌∷◌}
use Prim.Native.Nat.{ℕ, ◌+◌}
use native.Mathlib.Omega.{arith}
use borrow.Author.Tests.{le-ltb}
use Rattle.text.specs.Bytes.{stands_at}
use Rattle.text.proofs.Standing.{byte_stands, byte_past}
use Rattle.text.proofs.fixed.byte_stands_at.Goals as goal

pub returns-then-place-text : goal.returns-then-place-text
returns-then-place-text c =
    let e : c.saturating_add-place.result ≡ c.args.at + c.args.i = omega arith in
    sym (byte_stands _ _ _ c.if-place-text.true) ∙ ap (λ (k : ℕ). stands_at c.args.text.now k (c.args.b ∷ [])) e

pub returns-else-place-text : goal.returns-else-place-text
returns-else-place-text c = le-ltb _ _ c.if-place-text.false ∙ sym (byte_past _ _ _ (omega arith))
