-- How long a text can be: three bytes, and for each point a move of at most 17, since a number that is printed has at most six. Assumes nothing.
use mathlib.Core.Path.{◌≡◌, refl}
use mathlib.Core.Bool.{true, ◌&&◌, and-eq-true_iff}
use mathlib.Core.List.{List, [], ◌∷◌}
use Prim.Native.Nat.{suc, ◌+◌, ◌*◌, ◌^◌, ◌≤◌, ◌<◌}
use native.Mathlib.Omega.{arith}
use borrow.Author.Tests.{leb-true}
use lib.IntN.{ℤ, pos, negsuc}
use lib.Ieee.{Float}
use lib.ListN.{length}
use Rattle.text.specs.Decimal.{decimal_of}
use Rattle.text.specs.Signed.{signed_of}
use Rattle.text.proofs.Decimals.{decimal_within}
use Rattle.contours.specs.Finished.{Vertex}
use Rattle.units.specs.Whole.{whole_of, in_range, printable_of}
use Rattle.units.proofs.Nearest.{whole_range}
use Rattle.plot.specs.Plot.{all_printable, whole_vertex, plot_text}
use Rattle.plot.proofs.Measure.{move_length_is, needed_of, text_length}

-- a minus and five digits
signed_most : (z : ℤ) → in_range z ≡ true → length (signed_of z) ≤ 6
unfolding in_range signed_of
signed_most (pos n) h = let t : n < 10 ^ 5 = omega (arith, leb-true n 32767 h) in omega (arith, decimal_within 4 n t)
signed_most (negsuc n) h =
    let t : suc n < 10 ^ 5 = omega (arith, leb-true n 32767 h) in
    let five : length (decimal_of (suc n)) ≤ 5 = decimal_within 4 (suc n) t in
    let one : length (signed_of (negsuc n)) ≡ suc (length (decimal_of (suc n))) = refl in
    omega arith

number_most : (x : Float) → printable_of x ≡ true → length (signed_of (whole_of x)) ≤ 6
number_most x h = signed_most (whole_of x) (whole_range x h)

needed_most : (points : List (Vertex Float)) → all_printable points ≡ true → needed_of points ≤ 17 * length points
unfolding all_printable whole_vertex needed_of
needed_most [] h = omega arith
needed_most (v ∷ vs) h =
    let all : (printable_of v.position.x && printable_of v.position.y ≡ true) × (all_printable vs ≡ true) = (and-eq-true_iff _ _).0 h in
    let both : (printable_of v.position.x ≡ true) × (printable_of v.position.y ≡ true) = (and-eq-true_iff _ _).0 all.0 in
    omega (
      arith,
      move_length_is true (whole_vertex v).position,
      number_most v.position.x both.0,
      number_most v.position.y both.1,
      needed_most vs all.1,
    )

pub text_most : (points : List (Vertex Float)) → all_printable points ≡ true → length (plot_text points) ≤ 3 + 17 * length points
text_most points h = omega (arith, text_length points, needed_most points h)
