-- A list of numbers that all pass a test, and a sum that is tested by what is left. Assumes nothing.
use Prim.Native.Nat.{ℕ, ◌+◌, ◌-◌, ◌≤◌}
use native.Mathlib.Omega.{arith}
use mathlib.Core.Path.{◌≡◌, refl, sym, ap, ◌∙◌}
use mathlib.Core.Bool.{Bool, true, false, ◌&&◌, and_assoc}
use mathlib.Core.List.{List, [], ◌∷◌, ◌++◌}
use lib.Dec.{leb}
use lib.Ieee.{Float, le, lt, eq}
use Rattle.std.proofs.Common.{cond, Some, None, ◌||◌}
use Rattle.std.specs.declared.cmp.Ordering.TheVariants.{Less, Equal, Greater}
use Rattle.std.specs.declared.ops.RangeInclusive.{RangeInclusive}
use Rattle.std.specs.Ordering.{float_partial_cmp, partial_le}
use Rattle.std.specs.Range.{range_inclusive_start, range_inclusive_end, range_inclusive_exhausted, range_inclusive_contains}
use borrow.Author.Tests.{leb-true, leb-false, le-leb, lt-leb}
use Rattle.store.specs.Drawing.{every}

pub every_append : (ok : Float → Bool) (l m : List Float) → every ok (l ++ m) ≡ (every ok l && every ok m)
unfolding every
every_append ok [] m = refl
every_append ok (v ∷ l) m = ap (λ (b : Bool). ok v && b) (every_append ok l m) ∙ sym (and_assoc (ok v) (every ok l) (every ok m))

pub joined : (ok : Float → Bool) (l m : List Float) {a b : Bool} → a ≡ every ok l → b ≡ every ok m → (a && b) ≡ every ok (l ++ m)
joined ok l m p q = rw (p, q) (sym (every_append ok l m))

-- a sum that may not fit a word, tested by the room that is left
pub fit_test : (j k m : ℕ) → j ≤ m → leb k (m - j) ≡ leb (j + k) m
fit_test j k m h = go (leb k (m - j)) refl
  where
    go : (b : Bool) → leb k (m - j) ≡ b → b ≡ leb (j + k) m
    go true e = let l = leb-true k (m - j) e in sym (le-leb (j + k) m (omega arith))
    go false e = let l = leb-false k (m - j) e in sym (lt-leb (j + k) m (omega arith))

-- a range of floats has what its two comparisons say, which a NaN fails
partial_le_is : (a v : Float) → partial_le float_partial_cmp a v ≡ le a v
unfolding le
partial_le_is a v = go (lt a v) (eq a v) (lt v a)
  where
    go : (l e g : Bool) → partial_le (λ x y. cond l (Some Less) (cond e (Some Equal) (cond g (Some Greater) None))) a v ≡ (l || e)
    go true e g = refl
    go false true g = refl
    go false false true = refl
    go false false false = refl

pub in_range : (r : RangeInclusive Float) (low high v : Float) {b : Bool} → range_inclusive_start r ≡ low → range_inclusive_end r ≡ high → range_inclusive_exhausted r ≡ false
    → b ≡ range_inclusive_contains float_partial_cmp r v → b ≡ (le low v && le v high)
in_range r low high v s e x h = h ∙ rw (s, e, x, partial_le_is low v, partial_le_is v high)
