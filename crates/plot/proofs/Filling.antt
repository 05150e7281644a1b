-- The pass that writes: what is written so far, and what is left. Assumes nothing.
use mathlib.Core.Path.{◌≡◌, refl, sym, ap, ap₂, ◌∙◌, subst₂}
use mathlib.Core.Bool.{Bool, true, ◌&&◌, and-eq-true_iff}
use mathlib.Core.List.{List, [], ◌∷◌, ◌++◌, map}
use Prim.Native.Nat.{ℕ, suc, ◌+◌, ◌≤◌}
use native.Mathlib.Numerals.{add-one}
use native.Mathlib.Omega.{arith}
use lib.Ieee.{Float}
use lib.ListN.{length, drop, length-append, drop_of_length-le}
use lib.Seq.{sets}
use Rattle.text.specs.Bytes.{bytes}
use Rattle.text.specs.Written.{WrittenAs}
use Rattle.text.proofs.Stores.{sets_append}
use Rattle.text.proofs.Written.{written_then, written_same}
use Rattle.contours.specs.Finished.{Vertex}
use Rattle.plot.specs.Text.{move_of, pen_of, moves_of}
use Rattle.plot.specs.Plot.{all_printable, whole_vertex, plot_text}
use Rattle.plot.proofs.Moves.{text_moves}
use Rattle.plot.proofs.Measure.{move_length_is}
use Rattle.plot.proofs.Counting.{printable_at}

-- the moves from point i on
abbrev pub moves_from : List (Vertex Float) → Bool → ℕ → List ℕ
moves_from points up i = moves_of up (map whole_vertex (drop i points))

-- at point i: all that is left is printable, and written from here on it makes the whole text
pub record Filled (points : List (Vertex Float)) (text₀ text : List ℕ) (at : ℕ) (up : Bool) (i : ℕ) : Type 0 where
  pub printable : all_printable (drop i points) ≡ true
  pub kept : length text ≡ length text₀
  pub total : 3 + length (moves_from points true 0) ≡ at + length (moves_from points up i)
  pub stored : sets text₀ 3 (moves_from points true 0) ≡ sets text at (moves_from points up i)

module _ (points : List (Vertex Float)) (text₀ : List ℕ) where
  pub filled_start : all_printable points ≡ true → Filled points text₀ text₀ 3 true 0
  filled_start p = record { printable = p; kept = refl; total = refl; stored = refl }

  module _ (text : List ℕ) (at : ℕ) (up : Bool) (i : ℕ) (inv : Filled points text₀ text at up i) (v : Vertex Float)
      (here : drop i points ≡ v ∷ drop (suc i) points) where
    rest : moves_from points up i ≡ move_of (pen_of up) (whole_vertex v).position ++ moves_from points v.end (suc i)
    unfolding moves_of whole_vertex
    rest = ap (λ (l : List (Vertex Float)). moves_of up (map whole_vertex l)) here

    left : length (moves_from points up i) ≡ length (move_of (pen_of up) (whole_vertex v).position) + length (moves_from points v.end (suc i))
    left = ap length rest ∙ length-append (move_of (pen_of up) (whole_vertex v).position) (moves_from points v.end (suc i))

    tested : printable_at v && all_printable (drop (suc i) points) ≡ true
    unfolding all_printable
    tested = sym (ap all_printable here) ∙ inv.printable

    -- the point is printable, and its move fits
    pub filled_printable : printable_at v ≡ true
    filled_printable = ((and-eq-true_iff (printable_at v) (all_printable (drop (suc i) points))).0 tested).0

    pub filled_room : 3 + length (moves_from points true 0) ≤ length text₀ → at + length (move_of (pen_of true) (whole_vertex v).position) ≤ length text
    filled_room h =
        omega (arith, inv.total, left, inv.kept, h, move_length_is up (whole_vertex v).position, move_length_is true (whole_vertex v).position)

    pub filled_on : (text' : List ℕ) (at' : ℕ) (up' : Bool) → up' ≡ v.end → length text' ≡ length text → WrittenAs (move_of (pen_of up) (whole_vertex v).position) text at text' at'
        → Filled points text₀ text' at' up' (i + 1)
    filled_on text' at' up' e k w =
        subst₂ (Filled points text₀ text' at') (sym e) (sym (add-one i))
        record {
          printable = ((and-eq-true_iff (printable_at v) (all_printable (drop (suc i) points))).0 tested).1;
          kept = k ∙ inv.kept;
          total = omega (arith, inv.total, left, w.next);
          stored =
              inv.stored
              ∙ ap (sets text at) rest
              ∙ sets_append text at (move_of (pen_of up) (whole_vertex v).position) (moves_from points v.end (suc i))
              ∙ ap₂ (λ (b : List ℕ) (m : ℕ). sets b m (moves_from points v.end (suc i))) (sym w.stored) (sym w.next);
        }

  pub filled_end : (text : List ℕ) (at : ℕ) (up : Bool) (i : ℕ) → Filled points text₀ text at up i → length points ≤ i → WrittenAs (moves_from points true 0) text₀ 3 text at
  unfolding moves_of
  filled_end text at up i inv h =
      let e : moves_from points up i ≡ [] = ap (λ (l : List (Vertex Float)). moves_of up (map whole_vertex l)) (drop_of_length-le points h) in
      record { stored = sym (inv.stored ∙ ap (sets text at) e); next = omega (arith, inv.total, ap length e) }

-- ---- the first three bytes, and the moves after them
module _ (points : List (Vertex Float)) where
  pub moves_fit : (room room' : ℕ) → room' ≡ room → length (plot_text points) ≤ room → 3 + length (moves_from points true 0) ≤ room'
  moves_fit room room' k h =
      omega (arith, k, h, ap length (text_moves (map whole_vertex points)), length-append (bytes "IN;") (moves_from points true 0))

  pub text_written : (b0 b1 b2 : List ℕ) (n : ℕ) → b1 ≡ sets b0 0 (bytes "IN;") → WrittenAs (moves_from points true 0) b1 3 b2 n → WrittenAs (plot_text points) b0 0 b2 n
  text_written b0 b1 b2 n h w =
      written_same _ _ b0 b2 0 n (sym (text_moves (map whole_vertex points)))
      (written_then (bytes "IN;") (moves_from points true 0) b0 b1 b2 0 3 n (record { stored = h; next = refl }) w)
