-- The pass that tests and measures: what is known of the points that are left. Assumes nothing.
use mathlib.Core.Path.{◌≡◌, refl, sym, ap, ap₂, ◌∙◌}
use mathlib.Core.Bool.{Bool, true, false, ◌&&◌, cond}
use mathlib.Core.List.{List, [], ◌∷◌}
use Prim.Native.Nat.{ℕ, suc, ◌+◌, ◌-◌, ◌≤◌, ◌<◌}
use native.Mathlib.Numerals.{add-one}
use native.Mathlib.Omega.{arith}
use borrow.Author.Tests.{le-leb, lt-leb}
use lib.Dec.{leb}
use lib.Ieee.{Float}
use lib.ListN.{length, drop, drop_of_length-le}
use Rattle.contours.specs.Finished.{Vertex}
use Rattle.units.specs.Whole.{printable_of}
use Rattle.std.specs.Prelude.{Option, Some, None}
use Rattle.std.specs.Option.{MatchOption, SomeIff}
use Rattle.answer.specs.Answer.{Done, NotPrintable, BufferShort}
use Rattle.plot.specs.Text.{move_of, pen_of}
use Rattle.plot.specs.Plot.{all_printable, whole_vertex, plot_text, measured_of}
use Rattle.plot.proofs.Measure.{needed_of, text_length}

abbrev pub printable_at : Vertex Float → Bool
printable_at v = printable_of v.position.x && printable_of v.position.y

-- at point i: what was tested is printable; and what is left of the room, or that it was too short
pub record Counted (points : List (Vertex Float)) (room : ℕ) (left : Option ℕ) (i : ℕ) : Type 0 where
  pub printable : all_printable points ≡ all_printable (drop i points)
  pub room_left : MatchOption left
      (room + needed_of (drop i points) < 3 + needed_of points)
      (λ (k : ℕ). room + needed_of (drop i points) ≡ 3 + needed_of points + k)

module _ (points : List (Vertex Float)) (room : ℕ) where
  pub counted_start : (left : Option ℕ) → SomeIff left (3 ≤ room) (room - 3) → Counted points room left 0
  counted_start (Some k) l = record { printable = refl; room_left = omega (arith, l.0, l.1) }
  counted_start None l = record { printable = refl; room_left = omega (arith, l) }

  module _ (left : Option ℕ) (i : ℕ) (inv : Counted points room left i) (v : Vertex Float) (here : drop i points ≡ v ∷ drop (suc i) points) where
    rest : needed_of (drop i points) ≡ length (move_of (pen_of true) (whole_vertex v).position) + needed_of (drop (suc i) points)
    unfolding needed_of
    rest = ap needed_of here

    tested : all_printable points ≡ printable_at v && all_printable (drop (suc i) points)
    unfolding all_printable
    tested = inv.printable ∙ ap all_printable here

    pub counted_stop : printable_at v ≡ false → NotPrintable ≡ measured_of points room
    unfolding measured_of
    counted_stop p =
        sym (ap (λ (t : Bool). cond t (cond (leb (length (plot_text points)) room) Done BufferShort) NotPrintable)
        (tested ∙ ap (λ (t : Bool). t && all_printable (drop (suc i) points)) p))

  -- the bytes of a move are taken from what is left
  taken : (left left' : Option ℕ) (bytes whole now next : ℕ) → now ≡ bytes + next → MatchOption left (left' ≡ None) (λ (k : ℕ). SomeIff left' (bytes ≤ k) (k - bytes))
      → MatchOption left (room + now < whole) (λ (k : ℕ). room + now ≡ whole + k) → MatchOption left' (room + next < whole) (λ (k : ℕ). room + next ≡ whole + k)
  taken None None bytes whole now next e t h = omega (arith, h, e)
  taken None (Some k') bytes whole now next e t h = cc
  taken (Some k) None bytes whole now next e t h = omega (arith, h, e, t)
  taken (Some k) (Some k') bytes whole now next e t h = omega (arith, h, e, t.0, t.1)

  pub counted_on : (left left' : Option ℕ) (i bytes : ℕ) (inv : Counted points room left i) (v : Vertex Float) (here : drop i points ≡ v ∷ drop (suc i) points)
      → MatchOption left (left' ≡ None) (λ (k : ℕ). SomeIff left' (bytes ≤ k) (k - bytes)) → printable_at v ≡ true
      → bytes ≡ length (move_of (pen_of true) (whole_vertex v).position) → Counted points room left' (i + 1)
  counted_on left left' i bytes inv v here t p b =
      rw (add-one i) record {
        printable = tested left i inv v here ∙ ap (λ (t : Bool). t && all_printable (drop (suc i) points)) p;
        room_left =
            taken left left' bytes (3 + needed_of points) (needed_of (drop i points)) (needed_of (drop (suc i) points))
            (rest left i inv v here ∙ ap (λ (n : ℕ). n + needed_of (drop (suc i) points)) (sym b)) t inv.room_left;
      }

  -- all points are tested
  module _ (left : Option ℕ) (i : ℕ) (inv : Counted points room left i) (done : length points ≤ i) where
    none : drop i points ≡ []
    none = drop_of_length-le points done

    all_tested : all_printable points ≡ true
    unfolding all_printable
    all_tested = inv.printable ∙ ap all_printable none

    nothing : needed_of (drop i points) ≡ 0
    unfolding needed_of
    nothing = ap needed_of none

    pub counted_short : left ≡ None → BufferShort ≡ measured_of points room
    unfolding measured_of
    counted_short s =
        let h = rw s at inv.room_left in
        sym (ap₂ (λ (t u : Bool). cond t (cond u Done BufferShort) NotPrintable) all_tested
        (lt-leb (length (plot_text points)) room (omega (arith, text_length points, h, nothing))))

    pub counted_fits : (k : ℕ) → left ≡ Some k → Done ≡ measured_of points room
    unfolding measured_of
    counted_fits k s =
        let h = rw s at inv.room_left in
        sym (ap₂ (λ (t u : Bool). cond t (cond u Done BufferShort) NotPrintable) all_tested
        (le-leb (length (plot_text points)) room (omega (arith, text_length points, h, nothing))))
