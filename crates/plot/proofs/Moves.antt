-- The text, point after point as the code writes it, is the text by contours. Assumes nothing.
use mathlib.Core.Path.{◌≡◌, refl, sym, ap, ◌∙◌}
use mathlib.Core.Bool.{Bool, true, false}
use mathlib.Core.List.{List, [], ◌∷◌, ◌++◌, map, flat_map, append-nil, append_assoc}
use Prim.Native.Nat.{ℕ}
use lib.IntN.{ℤ}
use Rattle.text.specs.Bytes.{bytes}
use Rattle.contours.specs.Cutting.{behind, cut_after}
use Rattle.contours.specs.Finished.{Position, Vertex}
use Rattle.contours.specs.Contours.{contours_of}
use Rattle.plot.specs.Text.{move_of, contour_text, text_of, pen_of, moves_of}

abbrev places : List (List (Vertex ℤ)) → List (List (Position ℤ))
places pieces = map (map (λ (v : Vertex ℤ). v.position)) pieces

-- what is left to write: whole contours, or first the rest of one that was begun
abbrev from : Bool → List (List (Position ℤ)) → List ℕ
from true contours = flat_map contour_text contours
from false [] = []
from false (contour ∷ contours) = flat_map (move_of (bytes "PD")) contour ++ flat_map contour_text contours

-- the first point of what is left, whether it begins a contour or goes on with one
module _ (p : Position ℤ) where
  ends : (up : Bool) (contours : List (List (Position ℤ))) → move_of (pen_of up) p ++ flat_map contour_text contours ≡ from up ((p ∷ []) ∷ contours)
  unfolding flat_map contour_text pen_of
  ends true contours = ap (λ (l : List ℕ). l ++ flat_map contour_text contours) (sym (append-nil (move_of (bytes "PU") p)))
  ends false contours = ap (λ (l : List ℕ). l ++ flat_map contour_text contours) (sym (append-nil (move_of (bytes "PD") p)))

  goes_on : (up : Bool) (contour : List (Position ℤ)) (contours : List (List (Position ℤ)))
      → move_of (pen_of up) p ++ from false (contour ∷ contours) ≡ from up ((p ∷ contour) ∷ contours)
  unfolding flat_map contour_text pen_of
  goes_on true contour contours = sym (append_assoc (move_of (bytes "PU") p) (flat_map (move_of (bytes "PD")) contour) (flat_map contour_text contours))
  goes_on false contour contours = sym (append_assoc (move_of (bytes "PD") p) (flat_map (move_of (bytes "PD")) contour) (flat_map contour_text contours))

one_on : (v : Vertex ℤ) (up end : Bool) (pieces : List (List (Vertex ℤ)))
    → move_of (pen_of up) v.position ++ from end (places pieces) ≡ from up (places (behind end v pieces))
unfolding flat_map
one_on v up true pieces = ends v.position up (places pieces)
one_on v up false [] = ends v.position up []
one_on v up false (piece ∷ pieces) = goes_on v.position up (map (λ (v : Vertex ℤ). v.position) piece) (places pieces)

moves_from_lem : (up : Bool) (vs : List (Vertex ℤ)) → moves_of up vs ≡ from up (places (cut_after (λ (v : Vertex ℤ). v.end) vs))
unfolding moves_of cut_after flat_map
moves_from_lem true [] = refl
moves_from_lem false [] = refl
moves_from_lem up (v ∷ vs) =
    ap (λ (l : List ℕ). move_of (pen_of up) v.position ++ l) (moves_from_lem v.end vs)
    ∙ one_on v up v.end (cut_after (λ (v : Vertex ℤ). v.end) vs)

pub text_moves : (vs : List (Vertex ℤ)) → text_of (contours_of vs) ≡ bytes "IN;" ++ moves_of true vs
unfolding text_of contours_of
text_moves vs = ap (λ (l : List ℕ). bytes "IN;" ++ l) (sym (moves_from_lem true vs))
