-- Cutting commands at their Moves: the contours of columns that hold contours one after another are these contours. Assumes nothing.
use Prim.Native.Nat.{ℕ, zero, suc, ◌+◌}
use native.Mathlib.Omega.{arith}
use native.Mathlib.Nat.{add-zero, add_assoc}
use mathlib.Core.Path.{◌≡◌, refl, sym, ap, ap₂, ◌∙◌}
use mathlib.Core.List.{List, [], ◌∷◌, ◌++◌, map, map-append, append_assoc}
use lib.ListN.{length, drop, length-map}
use lib.Seq.{take_at, drop_at, drop-drop}
use lib.Ieee.{Float}
use Rattle.point.specs.declared.WeightedPoint.{WeightedPoint}
use Rattle.store.specs.Columns.{Columns, move_command, uses_of}
use Rattle.store.specs.Drawable.{total_uses_of}
use Rattle.store.specs.Contours.{Drawing, part, alone_of, upto_move, contours_from}
use Rattle.store.proofs.Written.{x_of, y_of, weight_of}
use Rattle.store.proofs.Listed.{Contour, points_of, commands_of, drawing_of, NoMoves, Regular, AllRegular}

abbrev pub all_points : List Contour → List WeightedPoint
all_points [] = []
all_points (s ∷ rest) = points_of s ++ all_points rest

abbrev pub all_commands : List Contour → List ℕ
all_commands [] = []
all_commands (s ∷ rest) = commands_of s ++ all_commands rest

-- ---- the commands
upto_curves : (ks ls : List ℕ) → NoMoves ks → upto_move ls ≡ [] → upto_move (ks ++ ls) ≡ ks
unfolding upto_move
upto_curves [] ls h e = e
upto_curves (zero ∷ ks) ls h e = absurd h
upto_curves (suc k ∷ ks) ls h e = ap (λ (r : List ℕ). suc k ∷ r) (upto_curves ks ls h e)

upto_next : (list : List Contour) → upto_move (all_commands list) ≡ []
unfolding upto_move
upto_next [] = refl
upto_next (s ∷ rest) = refl

from_curves : (c : Columns) (ks ls : List ℕ) (j : ℕ) → NoMoves ks → contours_from c (ks ++ ls) j ≡ contours_from c ls (j + total_uses_of ks)
unfolding contours_from total_uses_of
from_curves c [] ls j h = rw add-zero
from_curves c (zero ∷ ks) ls j h = absurd h
from_curves c (suc k ∷ ks) ls j h = from_curves c ks ls (j + uses_of (suc k)) h ∙ rw add_assoc

-- ---- the points: from index j on the columns hold these points, and then what other columns hold
pub record Laid (c behind : Columns) (j : ℕ) (ps : List WeightedPoint) : Type 0 where
  pub x : drop j c.x ≡ map x_of ps ++ behind.x
  pub y : drop j c.y ≡ map y_of ps ++ behind.y
  pub weight : drop j c.weight ≡ map weight_of ps ++ behind.weight

module _ (f : WeightedPoint → Float) (l behind : List Float) (j : ℕ) (ps qs : List WeightedPoint) (e : drop j l ≡ map f (ps ++ qs) ++ behind) where
  regrouped : drop j l ≡ map f ps ++ (map f qs ++ behind)
  regrouped = e ∙ ap (λ (r : List Float). r ++ behind) (map-append f ps qs) ∙ append_assoc (map f ps) (map f qs) behind

  first_part : part j (length ps) l ≡ map f ps
  first_part = rw regrouped (take_at (map f ps) (map f qs ++ behind) (length ps) (length-map ps f))

  later_part : drop (j + length ps) l ≡ map f qs ++ behind
  later_part = sym (drop-drop (length ps) j l) ∙ rw regrouped (drop_at (map f ps) (map f qs ++ behind) (length ps) (length-map ps f))

laid_later : (c behind : Columns) (j : ℕ) (ps qs : List WeightedPoint) → Laid c behind j (ps ++ qs) → Laid c behind (j + length ps) qs
laid_later c behind j ps qs l =
    record {
      x = later_part x_of c.x behind.x j ps qs l.x;
      y = later_part y_of c.y behind.y j ps qs l.y;
      weight = later_part weight_of c.weight behind.weight j ps qs l.weight;
    }

module _ (c behind : Columns) (j : ℕ) (s : Contour) (g : Regular s) (qs : List WeightedPoint) (l : Laid c behind j (points_of s ++ qs)) where
  own_uses : total_uses_of (commands_of s) ≡ length (points_of s)
  unfolding total_uses_of
  own_uses = let u = g.uses in omega arith

  alone_is : alone_of c (commands_of s) j ≡ drawing_of s
  unfolding alone_of
  alone_is =
      let ps = points_of s in
      rw (
        own_uses,
        first_part x_of c.x behind.x j ps qs l.x,
        first_part y_of c.y behind.y j ps qs l.y,
        first_part weight_of c.weight behind.weight j ps qs l.weight,
      )

pub contours_cut : (c behind : Columns) (list : List Contour) (j : ℕ) → AllRegular list → Laid c behind j (all_points list)
    → contours_from c (all_commands list) j ≡ map drawing_of list
unfolding contours_from
contours_cut c behind [] j g l = refl
contours_cut c behind (s ∷ rest) j g l =
    let n = length (points_of s) in
    let u = g.0.uses in
    let first = ap (λ (ks : List ℕ). alone_of c (move_command ∷ ks) j) (upto_curves s.kinds (all_commands rest) g.0.curves (upto_next rest)) in
    let at : j + uses_of move_command + total_uses_of s.kinds ≡ j + n = omega arith in
    let later = from_curves c s.kinds (all_commands rest) (j + uses_of move_command) g.0.curves ∙ ap (contours_from c (all_commands rest)) at in
    ap₂ (λ (d : Drawing) (ds : List Drawing). d ∷ ds) (first ∙ alone_is c behind j s g.0 (all_points rest) l)
    (later ∙ contours_cut c behind rest (j + n) g.1 (laid_later c behind j (points_of s) (all_points rest) l))
