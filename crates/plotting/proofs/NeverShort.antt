-- A buffer of 8,707 bytes holds every text that the program writes: 3 bytes, and 17 for each of at most 512 points. So 13 never occurs. Assumes nothing.
use mathlib.Core.Path.{◌≡◌, refl, ap}
use mathlib.Core.Logic.{◌≢◌}
use mathlib.Core.Bool.{Bool, true, false}
use mathlib.Core.List.{List}
use Prim.Native.Nat.{ℕ, ◌+◌, ◌*◌, ◌≤◌}
use native.Mathlib.Omega.{arith}
use borrow.Author.Tests.{leb-false}
use lib.Dec.{leb}
use lib.Ieee.{Float}
use lib.ListN.{length, length-map}
use Rattle.answer.specs.Answer.{Answer}
use Rattle.answer.specs.Answer.{BufferShort}
use Rattle.answer.specs.Number.{number_of, is_done}
use Rattle.point.specs.declared.Setting.{Setting}
use Rattle.contours.specs.Finished.{Vertex}
use Rattle.plot.specs.Plot.{all_printable, plot_text, plot_in, plot_of}
use Rattle.plot.proofs.Room.{text_most}
use Rattle.evaluate.specs.Evaluate.{Finished}
use Rattle.listing.specs.Program.{Said, said_of}
use Rattle.listing.proofs.ToldLaws.{told_said}
use Rattle.plotting.specs.PlotListing.{vertex_of, vertices_of, plot_said, plot_listing_of}
use Rattle.plotting.proofs.LowAnswers.{Low, said_low}

-- a number tells it from all others
other : (a : Answer) → number_of a ≢ 13 → a ≢ BufferShort
other a h e = h (ap number_of e)

-- a buffer for as many points
pub room_enough : (points : List (Vertex Float)) (buffer : List ℕ) → 3 + 17 * length points ≤ length buffer → number_of (plot_of points buffer).result.answer ≢ 13
unfolding plot_of plot_in
room_enough points buffer room = go (all_printable points) (leb (length (plot_text points)) (length buffer)) refl refl
  where
    go : (p f : Bool) → all_printable points ≡ p → leb (length (plot_text points)) (length buffer) ≡ f
        → number_of (plot_in p f (plot_text points) buffer).result.answer ≢ 13
    go false f e h k = omega arith
    go true true e h k = omega arith
    go true false e h k = omega (arith, leb-false (length (plot_text points)) (length buffer) h, text_most points e, room)

vertices_length : (points : List Finished) → length (vertices_of points) ≡ length points
unfolding vertices_of
vertices_length points = length-map points vertex_of

said_room : (b : Bool) (s : Said) (buffer : List ℕ) → Low s.answer → length s.points ≤ 512 → 8707 ≤ length buffer → number_of (plot_said b s buffer).result.answer ≢ 13
unfolding plot_said
said_room false s buffer low few room e = omega (arith, low)
said_room true s buffer low few room e =
    room_enough (vertices_of s.points) buffer (omega (arith, vertices_length s.points, few, room)) e

pub never_short : (setting : Setting) (input buffer : List ℕ) → 8707 ≤ length buffer → (plot_listing_of setting input buffer).result.answer ≢ BufferShort
unfolding plot_listing_of
never_short setting input buffer room =
    let s = said_of setting input in
    other (plot_said (is_done s.answer) s buffer).result.answer
    (said_room (is_done s.answer) s buffer (said_low setting input) (told_said setting input).few room)
