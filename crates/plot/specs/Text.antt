-- 02, One: "`IN;`, then for each contour `PU x,y;` for its first point and `PD x,y;` for each later one". Assumes nothing.
use Rattle.std.specs.Prelude.{ℕ, Bool, true, false, ℤ}
use mathlib.Core.List.{List, [], ◌∷◌, ◌++◌, flat_map}
use Rattle.text.specs.Bytes.{bytes}
use Rattle.text.specs.Signed.{signed_of}
use Rattle.contours.specs.Finished.{Position, Vertex}

-- "No other blank": one after the letters
unfoldable pub move_of : List ℕ → Position ℤ → List ℕ
move_of pen p = pen ++ (bytes " " ++ (signed_of p.x ++ (bytes "," ++ (signed_of p.y ++ bytes ";"))))

unfoldable pub contour_text : List (Position ℤ) → List ℕ
contour_text [] = []
contour_text (first ∷ later) = move_of (bytes "PU") first ++ flat_map (move_of (bytes "PD")) later

unfoldable pub text_of : List (List (Position ℤ)) → List ℕ
text_of contours = bytes "IN;" ++ flat_map contour_text contours

-- ---- as the code writes it: point after point; `up` says whether a contour begins at the first
unfoldable pub pen_of : Bool → List ℕ
pen_of true = bytes "PU"
pen_of false = bytes "PD"

unfoldable pub moves_of : Bool → List (Vertex ℤ) → List ℕ
moves_of up [] = []
moves_of up (v ∷ vs) = move_of (pen_of up) v.position ++ moves_of v.end vs
