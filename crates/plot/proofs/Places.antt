-- The point at a place of lent columns, and its move. Assumes nothing.
use mathlib.Core.Path.{◌≡◌, ap₂}
use mathlib.Core.Bool.{Bool}
use mathlib.Core.List.{◌∷◌}
use Prim.Native.Nat.{ℕ, suc, ◌<◌}
use lib.IntN.{ℤ}
use lib.Ieee.{Float, nan}
use lib.ListN.{length, get_or, drop}
use mir.Syntax.{w32}
use mir.Val.{to_z, of_z}
use Rattle.std.specs.Prelude.{Some}
use Rattle.columns.specs.Flags.{is_flag_of}
use Rattle.contours.specs.Finished.{position, Vertex, vertex}
use Rattle.contours.proofs.Finished.{finished_at}
use Rattle.plot.specs.declared.Finished.{Finished}
use Rattle.plot.specs.Text.{move_of, pen_of}
use Rattle.plot.specs.Plot.{spot_of, whole_vertex}
use Rattle.plot.specs.Lent.{points_of}
use Rattle.plot.proofs.Spots.{spot_yes}

abbrev pub point : Finished → ℕ → Vertex Float
point p i = vertex (position (get_or p.x.now i nan) (get_or p.y.now i nan)) (is_flag_of (get_or p.end.now i 0))

pub place : (p : Finished) (i : ℕ) → i < length (points_of p) → drop i (points_of p) ≡ point p i ∷ drop (suc i) (points_of p)
place p i h = finished_at nan p.x.now p.y.now p.end.now i h

-- the move of a found point is that of the vertex
pub move_same : (p : Finished) (i : ℕ) (found : ℤ × ℤ) (up : Bool) → Some found ≡ spot_of (point p i).position.x (point p i).position.y
    → move_of (pen_of up) (position (to_z w32 (of_z w32 found.0)) (to_z w32 (of_z w32 found.1))) ≡ move_of (pen_of up) (whole_vertex (point p i)).position
unfolding whole_vertex
move_same p i found up h =
    let yes = spot_yes (point p i).position.x (point p i).position.y found h in
    ap₂ (λ (a b : ℤ). move_of (pen_of up) (position a b)) yes.1 yes.2
