-- How long the text is: three bytes, and for each point what its move takes, with the pen up or down. Assumes nothing.
use mathlib.Core.Path.{◌≡◌, refl, ap, ◌∙◌}
use mathlib.Core.Bool.{Bool, true, false}
use mathlib.Core.List.{List, [], ◌∷◌, ◌++◌, map}
use Prim.Native.Nat.{ℕ, ◌+◌}
use native.Mathlib.Omega.{arith}
use lib.IntN.{ℤ}
use lib.Ieee.{Float}
use lib.ListN.{length, length-append}
use Rattle.text.specs.Signed.{signed_of}
use Rattle.contours.specs.Finished.{Position, Vertex}
use Rattle.plot.specs.Text.{move_of, pen_of, moves_of}
use Rattle.plot.specs.Plot.{whole_vertex, plot_text}
use Rattle.plot.proofs.Moves.{text_moves}

pub pen_length : (up : Bool) → length (pen_of up) ≡ 2
unfolding pen_of
pen_length true = refl
pen_length false = refl

pub move_length_is : (up : Bool) (p : Position ℤ) → length (move_of (pen_of up) p) ≡ 5 + length (signed_of p.x) + length (signed_of p.y)
unfolding move_of
move_length_is up p =
    let x = signed_of p.x in
    let y = signed_of p.y in
    omega (
      arith,
      pen_length up,
      length-append (pen_of up) (0x20 ∷ (x ++ (0x2c ∷ (y ++ (0x3b ∷ []))))),
      length-append x (0x2c ∷ (y ++ (0x3b ∷ []))),
      length-append y (0x3b ∷ []),
    )

-- what the moves of these points take
unfoldable pub needed_of : List (Vertex Float) → ℕ
needed_of [] = 0
needed_of (v ∷ vs) = length (move_of (pen_of true) (whole_vertex v).position) + needed_of vs

moves_length : (up : Bool) (vs : List (Vertex Float)) → length (moves_of up (map whole_vertex vs)) ≡ needed_of vs
unfolding moves_of needed_of
moves_length up [] = refl
moves_length up (v ∷ vs) =
    let w = whole_vertex v in
    omega (
      arith,
      length-append (move_of (pen_of up) w.position) (moves_of w.end (map whole_vertex vs)),
      move_length_is up w.position,
      move_length_is true w.position,
      moves_length w.end vs,
    )

pub text_length : (points : List (Vertex Float)) → length (plot_text points) ≡ 3 + needed_of points
text_length points = ap length (text_moves (map whole_vertex points)) ∙ omega (arith, moves_length true points)
