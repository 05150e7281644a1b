-- The primitives of a contour alone are those that the whole has for its commands; and the commands after a Move are the contour's, then those from the next Move
-- on. Assumes nothing.
use Prim.Native.Nat.{ℕ, zero, suc, ◌+◌, ◌-◌, ◌≤◌, ◌<◌, max, zero-le}
use mathlib.Core.Path.{◌≡◌, refl, sym, ap, ap₂, ◌∙◌}
use mathlib.Core.List.{List, [], ◌∷◌, ◌++◌}
use native.Mathlib.Nat.{le_trans, le_refl, add_assoc, add-zero}
use native.Mathlib.Omega.{arith}
use lib.Ieee.{Float, nan}
use lib.ListN.{length, drop, get_or}
use lib.Seq.{get_or-take, get_or-drop, take-length}
use Rattle.point.specs.declared.WeightedPoint.{WeightedPoint}
use Rattle.point.specs.declared.Setting.{Setting}
use Rattle.primitives.specs.declared.Capacities.{Capacities}
use Rattle.primitives.specs.declared.Primitive.{Primitive}
use Rattle.primitives.specs.declared.Primitive.TheVariants.{Contour, Line}
use Rattle.primitives.specs.Cubics.{cubic_quads_of}
use Rattle.store.specs.Columns.{Columns, columns, uses_of, stored_point_of}
use Rattle.store.specs.Drawable.{total_uses_of}
use Rattle.store.specs.Contours.{part, alone_of, upto_move, contours_from}
use Rattle.tables.specs.Commands.{cubic_from, command_primitives_of, primitives_from, primitives_of}
use Rattle.tables.proofs.Moves.{NoMark, command_no_mark, primitives_append}

-- ---- the points of a part of the columns
module _ (c : Columns) (ks : List ℕ) (j n : ℕ) where
  abbrev sliced : Columns
  sliced = columns (part j n c.x) (part j n c.y) (part j n c.weight) ks

  number : (l : List Float) (i : ℕ) → i < n → get_or (part j n l) i nan ≡ get_or l (j + i) nan
  number l i h = get_or-take n (drop j l) i nan h ∙ get_or-drop j l i nan

  point : (i k : ℕ) → i < n → j + i ≡ k → stored_point_of sliced i ≡ stored_point_of c k
  unfolding stored_point_of
  point i k h e = rw (number c.x i h, number c.y i h, number c.weight i h, e)

  cubic : (i k : ℕ) → i + 3 < n → j + i ≡ k → cubic_from sliced i ≡ cubic_from c k
  unfolding cubic_from
  cubic i k h e =
      rw (
        point i k (first h) e,
        point (i + 1) (k + 1) (second h) (on 1 e),
        point (i + 2) (k + 2) (third h) (on 2 e),
        point (i + 3) (k + 3) h (on 3 e),
      )
    where
      first : i + 3 < n → i < n
      first h = omega arith

      second : i + 3 < n → i + 1 < n
      second h = omega arith

      third : i + 3 < n → i + 2 < n
      third h = omega arith

      on : (d : ℕ) → j + i ≡ k → j + (i + d) ≡ k + d
      on d e = omega arith

  -- the primitives of a command, before which p points of the part are used up
  command : (k p q : ℕ) → 1 ≤ p → p + uses_of k ≤ n → j + p ≡ q → command_primitives_of sliced k p ≡ command_primitives_of c k q
  unfolding command_primitives_of
  command zero p q l h e = refl
  command (suc zero) p q l h e =
      ap₂ (λ (x y : WeightedPoint). Line x y ∷ []) (point (p - 1) (q - 1) (less p n h) (back p q l e)) (point p q (here p n h) e)
    where
      less : (p n : ℕ) → p + 1 ≤ n → p - 1 < n
      less p n h = omega arith

      here : (p n : ℕ) → p + 1 ≤ n → p < n
      here p n h = omega arith

      back : (p q : ℕ) → 1 ≤ p → j + p ≡ q → j + (p - 1) ≡ q - 1
      back p q l e = omega arith
  command (suc (suc zero)) p q l h e =
      rw (point (p - 1) (q - 1) (less p n h) (back p q l e), point p q (here p n h) e, point (p + 1) (q + 1) (next p n h) (on p q e))
    where
      less : (p n : ℕ) → p + 2 ≤ n → p - 1 < n
      less p n h = omega arith

      here : (p n : ℕ) → p + 2 ≤ n → p < n
      here p n h = omega arith

      next : (p n : ℕ) → p + 2 ≤ n → p + 1 < n
      next p n h = omega arith

      back : (p q : ℕ) → 1 ≤ p → j + p ≡ q → j + (p - 1) ≡ q - 1
      back p q l e = omega arith

      on : (p q : ℕ) → j + p ≡ q → j + (p + 1) ≡ q + 1
      on p q e = omega arith
  command (suc (suc (suc k))) p q l h e = ap cubic_quads_of (cubic (p - 1) (q - 1) (last p n k l h) (back p q l e))
    where
      last : (p n k : ℕ) → 1 ≤ p → p + max 1 (suc (suc (suc k))) ≤ n → p - 1 + 3 < n
      last p n k l h = omega arith

      back : (p q : ℕ) → 1 ≤ p → j + p ≡ q → j + (p - 1) ≡ q - 1
      back p q l e = omega arith

  pub primitives_sliced : (ls : List ℕ) (p q : ℕ) → 1 ≤ p → p + total_uses_of ls ≤ n → j + p ≡ q → primitives_from sliced ls p ≡ primitives_from c ls q
  unfolding primitives_from total_uses_of
  primitives_sliced [] p q l h e = refl
  primitives_sliced (k ∷ ls) p q l h e =
      ap₂ (λ (x y : List Primitive). x ++ y) (command k p q l (first p (uses_of k) (total_uses_of ls) n h) e)
      (primitives_sliced ls (p + uses_of k) (q + uses_of k) (more p (uses_of k) l) (rest p (uses_of k) (total_uses_of ls) n h) (on p q (uses_of k) e))
    where
      first : (p u t n : ℕ) → p + (u + t) ≤ n → p + u ≤ n
      first p u t n h = omega arith

      rest : (p u t n : ℕ) → p + (u + t) ≤ n → p + u + t ≤ n
      rest p u t n h = omega arith

      more : (p u : ℕ) → 1 ≤ p → 1 ≤ p + u
      more p u l = omega arith

      on : (p q u : ℕ) → j + p ≡ q → j + (p + u) ≡ q + u
      on p q u e = omega arith

-- ---- a contour alone has the primitives that the whole has for its commands
pub alone_primitives : (c : Columns) (ks : List ℕ) (j : ℕ)
    → primitives_of (alone_of c (0 ∷ ks) j).state (alone_of c (0 ∷ ks) j).columns ≡ Contour ∷ primitives_from c ks (j + 1)
unfolding primitives_of alone_of primitives_from command_primitives_of total_uses_of
alone_primitives c ks j =
    ap (λ (ls : List ℕ). Contour ∷ primitives_from (sliced c (0 ∷ ks) j (1 + total_uses_of ks)) ls 1) (take-length ks)
    ∙ ap (λ (ps : List Primitive). Contour ∷ ps) (primitives_sliced c (0 ∷ ks) j (1 + total_uses_of ks) ks 1 (j + 1) (le_refl 1) (le_refl _) refl)

-- ---- the commands up to the next Move, and the rest
unfoldable pub from_move : List ℕ → List ℕ
from_move [] = []
from_move (zero ∷ ks) = zero ∷ ks
from_move (suc k ∷ ks) = from_move ks

pub upto_from : (ks : List ℕ) → upto_move ks ++ from_move ks ≡ ks
unfolding upto_move from_move
upto_from [] = refl
upto_from (zero ∷ ks) = refl
upto_from (suc k ∷ ks) = ap (λ (l : List ℕ). suc k ∷ l) (upto_from ks)

pub upto_no_mark : (setting : Setting) (caps : Capacities) (c : Columns) (ks : List ℕ) (j : ℕ) → NoMark setting caps (primitives_from c (upto_move ks) j)
unfolding upto_move primitives_from
upto_no_mark setting caps c [] j = tt
upto_no_mark setting caps c (zero ∷ ks) j = tt
upto_no_mark setting caps c (suc k ∷ ks) j =
    both (command_primitives_of c (suc k) j) (primitives_from c (upto_move ks) (j + uses_of (suc k))) (command_no_mark setting caps c k j)
    (upto_no_mark setting caps c ks (j + uses_of (suc k)))
  where
    both : (ps qs : List Primitive) → NoMark setting caps ps → NoMark setting caps qs → NoMark setting caps (ps ++ qs)
    both [] qs h k = k
    both (p ∷ ps) qs h k = (h.0, both ps qs h.1 k)

-- no contour begins before the next Move
pub later_contours : (c : Columns) (ks : List ℕ) (j : ℕ) → contours_from c ks j ≡ contours_from c (from_move ks) (j + total_uses_of (upto_move ks))
unfolding contours_from upto_move from_move total_uses_of
later_contours c [] j = refl
later_contours c (zero ∷ ks) j = ap (contours_from c (zero ∷ ks)) (sym (add-zero j))
later_contours c (suc k ∷ ks) j =
    later_contours c ks (j + uses_of (suc k)) ∙ ap (contours_from c (from_move ks)) (add_assoc j (uses_of (suc k)) (total_uses_of (upto_move ks)))

-- the rest is no longer, and begins with a Move if it is not empty
pub from_short : (ks : List ℕ) → length (from_move ks) ≤ length ks
unfolding from_move
from_short [] = zero-le
from_short (zero ∷ ks) = le_refl (suc (length ks))
from_short (suc k ∷ ks) = le_trans (from_short ks) (more (length ks))
  where
    more : (n : ℕ) → n ≤ suc n
    more n = omega arith

abbrev pub Moves : List ℕ → Type 0
Moves [] = Unit {0}
Moves (k ∷ ks) = k ≡ 0

pub from_moves : (ks : List ℕ) → Moves (from_move ks)
unfolding from_move
from_moves [] = tt
from_moves (zero ∷ ks) = refl
from_moves (suc k ∷ ks) = from_moves ks

-- the primitives from a Move on: the contour's, and the rest's
pub contour_first : (setting : Setting) (caps : Capacities) (c : Columns) (ks : List ℕ) (j : ℕ)
    → primitives_from c (0 ∷ ks) j
    ≡ (Contour ∷ primitives_from c (upto_move ks) (j + 1)) ++ primitives_from c (from_move ks) (j + 1 + total_uses_of (upto_move ks))
unfolding primitives_from command_primitives_of
contour_first setting caps c ks j =
    ap (λ (ls : List ℕ). Contour ∷ primitives_from c ls (j + 1)) (sym (upto_from ks))
    ∙ ap (λ (ps : List Primitive). Contour ∷ ps) (primitives_append setting caps c (upto_move ks) (from_move ks) (j + 1))
