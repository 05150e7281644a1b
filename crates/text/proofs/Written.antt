-- Laws of writing: one text after another, and the same text. Assumes nothing.
use mathlib.Core.Path.{◌≡◌, sym, ap, ◌∙◌, subst}
use mathlib.Core.List.{List, ◌++◌}
use Prim.Native.Nat.{ℕ}
use native.Mathlib.Omega.{arith}
use lib.ListN.{length-append}
use lib.Seq.{sets}
use Rattle.text.specs.Written.{WrittenAs}
use Rattle.text.proofs.Stores.{sets_append}

pub written_then : (s t b0 b1 b2 : List ℕ) (at n1 n2 : ℕ) → WrittenAs s b0 at b1 n1 → WrittenAs t b1 n1 b2 n2 → WrittenAs (s ++ t) b0 at b2 n2
written_then s t b0 b1 b2 at n1 n2 w v =
    record {
      stored =
          v.stored
          ∙ ap (λ (b : List ℕ). sets b n1 t) w.stored
          ∙ ap (λ (n : ℕ). sets (sets b0 at s) n t) w.next
          ∙ sym (sets_append b0 at s t);
      next = omega (arith, v.next, w.next, length-append s t);
    }

pub written_same : (s t b b' : List ℕ) (at n : ℕ) → s ≡ t → WrittenAs s b at b' n → WrittenAs t b at b' n
written_same s t b b' at n e w = subst (λ (l : List ℕ). WrittenAs l b at b' n) e w
