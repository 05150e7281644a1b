-- A report written into a buffer: its count is within the buffer, and a buffer as long as the text is not too short. Assumes nothing.
use mathlib.Core.Path.{◌≡◌, refl, sym, ap, ◌∙◌}
use mathlib.Core.Bool.{Bool, true, false, cond}
use mathlib.Core.List.{List}
use Prim.Native.Nat.{ℕ, ◌≤◌}
use native.Mathlib.Omega.{arith}
use borrow.Author.Tests.{leb-true, le-leb}
use lib.Dec.{leb}
use lib.ListN.{length}
use lib.Seq.{sets}
use Rattle.std.specs.Prelude.{Option, Some, None}
use Rattle.listing.specs.Writing.{Listing, listed, listed_as}

module _ (text out : List ℕ) where
  counted : (b : Bool) (m : ℕ) → leb (length text) (length out) ≡ b → Some m ≡ (cond b (listed (Some (length text)) (sets out 0 text)) (listed None out)).result → m ≤ length out
  counted true m e h = let k : m ≡ length text = cc in omega (arith, leb-true (length text) (length out) e)
  counted false m e h = absurd (let z : ◌≡◌ {A = ℕ} 0 1 = cc in omega arith)

  pub count_fits : (r : Option ℕ) (out' : List ℕ) (m : ℕ) → listed r out' ≡ listed_as text out → r ≡ Some m → m ≤ length out
  unfolding listed_as
  count_fits r out' m h e = counted (leb (length text) (length out)) m refl (sym e ∙ ap (λ (l : Listing). l.result) h)

  pub all_written : (r : Option ℕ) (out' : List ℕ) → length text ≤ length out → listed r out' ≡ listed_as text out → r ≡ Some (length text)
  unfolding listed_as
  all_written r out' fits h =
      ap (λ (l : Listing). l.result) h
      ∙ ap (λ (b : Bool). (cond b (listed (Some (length text)) (sets out 0 text)) (listed None out)).result) (le-leb (length text) (length out) fits)
