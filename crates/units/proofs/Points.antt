-- Laws of the passes over a column, where what is left of it gives what the whole gives; and of both columns. Assumes nothing.
use mathlib.Core.Path.{◌≡◌, refl, ap, ◌∙◌}
use mathlib.Core.Bool.{Bool, true, false, ◌&&◌, cond}
use mathlib.Core.List.{List, [], ◌∷◌, map}
use Prim.Native.Nat.{ℕ, ◌+◌, ◌<◌}
use lib.IntN.{ℤ}
use lib.ListN.{length, get_or, set, drop}
use lib.Seq.{drop-cons, sets}
use lib.Ieee.{Float}
use mir.Syntax.{w32}
use mir.Val.{of_z, to_z}
use mir.Facts.{to_z-of_z}
use Rattle.std.specs.Prelude.{Some, None}
use Rattle.std.proofs.Common.{add-one}
use Rattle.std.proofs.lemmas.List.Recursion.{and_at}
use Rattle.std.specs.List.{list_all}
use Rattle.std.specs.Option.{is_some}
use Rattle.units.specs.Whole.{whole_of, printable_of, unit_of}
use Rattle.units.specs.Columns.{all_printable}
use Rattle.units.proofs.Nearest.{whole_range}
use Rattle.units.proofs.Units.{range_fits}

-- ---- what a unit says of its coordinate
pub unit_whole : (x : Float) (v : ℤ) → unit_of x ≡ Some v → (printable_of x ≡ true) × (v ≡ whole_of x)
unfolding unit_of
unit_whole x v e = go (printable_of x) refl e
  where
    go : (b : Bool) → printable_of x ≡ b → cond b (Some (whole_of x)) None ≡ Some v → (printable_of x ≡ true) × (v ≡ whole_of x)
    go true h e = (h, cc)
    go false h e = (cc, cc)

pub unit_beyond : (x : Float) → unit_of x ≡ None → printable_of x ≡ false
unfolding unit_of
unit_beyond x e = go (printable_of x) refl e
  where
    go : (b : Bool) → printable_of x ≡ b → cond b (Some (whole_of x)) None ≡ None → printable_of x ≡ false
    go true h e = cc
    go false h e = h

-- whether there is one
pub some_printable : (x : Float) → is_some (unit_of x) ≡ printable_of x
unfolding unit_of
some_printable x = go (printable_of x)
  where
    go : (b : Bool) → is_some (cond b (Some (whole_of x)) None) ≡ b
    go true = refl
    go false = refl

-- as it is written: its bits, read back
pub unit_written : (x : Float) (v : ℤ) → unit_of x ≡ Some v → to_z w32 (of_z w32 v) ≡ whole_of x
unit_written x v e =
    let r = unit_whole x v e in
    ap (λ (z : ℤ). to_z w32 (of_z w32 z)) r.1 ∙ to_z-of_z (range_fits (whole_of x) (whole_range x r.0))

-- ---- a test of every entry
pub all_of_each : (l : List Float) → list_all printable_of l ≡ all_printable l
unfolding all_printable
all_of_each [] = refl
all_of_each (v ∷ vs) = ap (λ (b : Bool). printable_of v && b) (all_of_each vs)

-- ---- every entry written
module _ (l : List Float) (h : all_printable l ≡ true) (i : ℕ) (d : Float) (k : i < length l) where
  pub printable_at : printable_of (get_or l i d) ≡ true
  unfolding all_printable
  printable_at = and_at all_printable printable_of refl (λ _ _. refl) l i d k h

  -- with the entry at i written, what is left gives the same column
  pub put_more : (to : List ℤ) (v : ℤ) → v ≡ whole_of (get_or l i d) → sets (set to i v) (i + 1) (map whole_of (drop (i + 1) l)) ≡ sets to i (map whole_of (drop i l))
  put_more to v e = rw (e, drop-cons l i d k, add-one) refl
