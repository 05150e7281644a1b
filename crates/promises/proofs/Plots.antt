-- What every plot promises: the answers, reading back, blanks and room. Assumes nothing.
use Prim.Native.Nat.{ℕ, ◌+◌, ◌^◌, ◌≤◌, ◌<◌}
use mathlib.Core.Path.{◌≡◌, refl, sym, ap, ◌∙◌}
use mathlib.Core.Logic.{◌⊎◌, inl, inr, ◌≢◌}
use mathlib.Core.Bool.{Bool, true, false, ◌&&◌, and-false, and-eq-true_iff, true≢false}
use mathlib.Core.List.{List, [], ◌∷◌, ◌++◌, map, flat_map}
use native.Mathlib.Nat.{zero-add}
use native.Mathlib.Omega.{arith}
use borrow.Author.Tests.{leb-true, leb-false}
use lib.IntN.{ℤ, pos, negsuc}
use lib.Signed.{mag}
use lib.Dec.{leb}
use lib.Ieee.{Float, nan, inf, fin, of_bits}
use lib.ListN.{length, take}
use lib.Seq.{sets}
use Rattle.facts.specs.Every.{All}
use Rattle.columns.specs.Flags.{is_flag_of}
use Rattle.leaves.specs.Small.{is_inf, negative_of}
use Rattle.answer.specs.Answer.{Answer}
use Rattle.answer.specs.Number.{number_of}
use Rattle.answer.specs.Answer.{Done, NotPrintable, BufferShort}
use Rattle.store.proofs.Written.{take_sets}
use Rattle.contours.specs.Cutting.{behind, cut_after}
use Rattle.text.specs.Decimal.{decimal_in, decimal_of}
use Rattle.text.specs.Signed.{signed_of}
use Rattle.contours.specs.Finished.{Position, Vertex, finished_of}
use Rattle.contours.specs.Contours.{contours_of}
use Rattle.units.specs.Whole.{whole_of, in_range, printable_of}
use Rattle.plot.specs.Text.{move_of, contour_text, text_of}
use Rattle.plot.specs.Plot.{all_printable, whole_vertex, whole_contours, plot_text, plot_in, plot_of}
use Rattle.units.proofs.Nearest.{whole_range}
use Rattle.plot.proofs.Room.{text_most}
use Rattle.plot.specs.ReadBack.{read_of, blanks_right}
use Rattle.plot.proofs.ReadBack.{Held, Filled, text_read, text_blanks}
use Rattle.promises.specs.Plots.{NotInUnits, no_number, infinite, outside, SomeUnprintable, Printable, PlotAnswers, PlotsAnswer, written_in, PlotsReadBack, PlotsTell, PlotBlanks, PlotRoom, PlotExamples}

-- ---- printable or not
unprintable : (v : Float) → printable_of v ≡ false → NotInUnits v
unfolding printable_of is_inf
unprintable nan h = no_number refl
unprintable (inf s) h = infinite refl
unprintable (fin s m e) h = outside h

not_in_units : (v : Float) → NotInUnits v → printable_of v ≡ false
unfolding printable_of is_inf
not_in_units v (no_number e) = ap printable_of e
not_in_units nan (infinite e) = refl
not_in_units (inf s) (infinite e) = refl
not_in_units (fin s m e) (infinite h) = absurd (true≢false (sym h))
not_in_units nan (outside e) = refl
not_in_units (inf s) (outside e) = refl
not_in_units (fin s m e) (outside h) = h

abbrev at : Vertex Float → Bool
at v = printable_of v.position.x && printable_of v.position.y

coordinate_of : (v : Vertex Float) → at v ≡ false → NotInUnits v.position.x ⊎ NotInUnits v.position.y
coordinate_of v h = go (printable_of v.position.x) refl
  where
    go : (b : Bool) → printable_of v.position.x ≡ b → NotInUnits v.position.x ⊎ NotInUnits v.position.y
    go true e = inr (unprintable v.position.y (sym (ap (λ (b : Bool). b && printable_of v.position.y) e) ∙ h))
    go false e = inl (unprintable v.position.x e)

at_false : (v : Vertex Float) → NotInUnits v.position.x ⊎ NotInUnits v.position.y → at v ≡ false
at_false v (inl h) = ap (λ (b : Bool). b && printable_of v.position.y) (not_in_units v.position.x h)
at_false v (inr h) = ap (λ (b : Bool). printable_of v.position.x && b) (not_in_units v.position.y h) ∙ and-false (printable_of v.position.x)

found_on : (v : Vertex Float) (vs : List (Vertex Float)) (b : Bool) → at v ≡ b → at v && all_printable vs ≡ false → (all_printable vs ≡ false → SomeUnprintable vs)
    → SomeUnprintable (v ∷ vs)
found_on v vs true e h later =
    let s = later (sym (ap (λ (b : Bool). b && all_printable vs) e) ∙ h) in
    record { before = v ∷ s.before; point = s.point; after = s.after; split = ap (λ (l : List (Vertex Float)). v ∷ l) s.split; coordinate = s.coordinate }
found_on v vs false e h later = record { before = []; point = v; after = vs; split = refl; coordinate = coordinate_of v e }

found : (points : List (Vertex Float)) → all_printable points ≡ false → SomeUnprintable points
unfolding all_printable
found [] h = absurd (true≢false h)
found (v ∷ vs) h = found_on v vs (at v) refl h (found vs)

prefix_false : (before after : List (Vertex Float)) (v : Vertex Float) → at v ≡ false → all_printable (before ++ (v ∷ after)) ≡ false
unfolding all_printable
prefix_false [] after v h = ap (λ (b : Bool). b && all_printable after) h
prefix_false (u ∷ before) after v h = ap (λ (b : Bool). at u && b) (prefix_false before after v h) ∙ and-false (at u)

not_all : (points : List (Vertex Float)) → SomeUnprintable points → all_printable points ≡ false
not_all points s = ap all_printable s.split ∙ prefix_false s.before s.after s.point (at_false s.point s.coordinate)

-- ---- the answers
differ : (a b : Answer) → a ≡ b → number_of a ≡ number_of b
differ a b e = ap number_of e

module _ (points : List (Vertex Float)) (buffer : List ℕ) where
  abbrev text : List ℕ
  text = plot_text points

  abbrev fitting : Bool
  fitting = leb (length text) (length buffer)

  printable : all_printable points ≡ true → Printable points
  printable h s = true≢false (sym h ∙ not_all points s)

  answers : (a f : Bool) → all_printable points ≡ a → fitting ≡ f → PlotAnswers points buffer (plot_in a f text buffer)
  unfolding plot_in
  answers false f e k =
      record {
        not_printable = (λ _. found points e, λ _. refl);
        too_short = (λ h. absurd (let z : 12 ≡ 13 = differ NotPrintable BufferShort h in omega arith), λ z. absurd (z.0 (found points e)));
        done = (λ h. absurd (let z : 12 ≡ 0 = differ NotPrintable Done h in omega arith), λ z. absurd (z.0 (found points e)));
        nothing_written = λ _. (refl, refl);
      }
  answers true false e k =
      record {
        not_printable = (λ h. absurd (let z : 13 ≡ 12 = differ BufferShort NotPrintable h in omega arith), λ s. absurd (printable e s));
        too_short = (λ _. (printable e, leb-false (length text) (length buffer) k), λ _. refl);
        done = (
          λ h. absurd (let z : 13 ≡ 0 = differ BufferShort Done h in omega arith),
          λ z. absurd (let l : length text ≤ length buffer = z.1 in omega (arith, l, leb-false (length text) (length buffer) k)),
        );
        nothing_written = λ _. (refl, refl);
      }
  answers true true e k =
      record {
        not_printable = (λ h. absurd (let z : 0 ≡ 12 = differ Done NotPrintable h in omega arith), λ s. absurd (printable e s));
        too_short = (
          λ h. absurd (let z : 0 ≡ 13 = differ Done BufferShort h in omega arith),
          λ z. absurd (let l : length buffer < length text = z.1 in omega (arith, l, leb-true (length text) (length buffer) k)),
        );
        done = (λ _. (printable e, leb-true (length text) (length buffer) k), λ _. refl);
        nothing_written = λ n. absurd (n refl);
      }

pub plots_answer : PlotsAnswer
unfolding plot_of
plots_answer points buffer = answers points buffer (all_printable points) (fitting points buffer) refl refl

-- ---- what was written
take_stored : (s b : List ℕ) → length s ≤ length b → take (length s) (sets b 0 s) ≡ s
take_stored s b h =
    ap (λ (n : ℕ). take n (sets b 0 s)) (sym (zero-add (length s))) ∙ take_sets s b 0 (let l : 0 + length s ≤ length b = omega (arith, h) in l)

module _ (points : List (Vertex Float)) (buffer : List ℕ) where
  written : (a f : Bool) → all_printable points ≡ a → fitting points buffer ≡ f → (plot_in a f (plot_text points) buffer).result.answer ≡ Done
      → (all_printable points ≡ true) × (written_in (plot_in a f (plot_text points) buffer) ≡ plot_text points)
  unfolding plot_in
  written false f e k h = absurd (let z : 12 ≡ 0 = differ NotPrintable Done h in omega arith)
  written true false e k h = absurd (let z : 13 ≡ 0 = differ BufferShort Done h in omega arith)
  written true true e k h = (e, take_stored (plot_text points) buffer (leb-true (length (plot_text points)) (length buffer) k))

  done_so : (plot_of points buffer).result.answer ≡ Done → (all_printable points ≡ true) × (written_in (plot_of points buffer) ≡ plot_text points)
  unfolding plot_of
  done_so h = written (all_printable points) (fitting points buffer) refl refl h

-- ---- the contours are not empty, and their numbers are small
small : (z : ℤ) → in_range z ≡ true → mag z < 2 ^ 63
unfolding in_range
small (pos n) h = omega (arith, leb-true n 32767 h)
small (negsuc n) h = omega (arith, leb-true n 32767 h)

held : (v : Vertex Float) → at v ≡ true → Held (whole_vertex v).position
unfolding whole_vertex
held v h =
    let a = (and-eq-true_iff (printable_of v.position.x) (printable_of v.position.y)).0 h in
    record { x = small (whole_of v.position.x) (whole_range v.position.x a.0); y = small (whole_of v.position.y) (whole_range v.position.y a.1) }

abbrev places : List (List (Vertex ℤ)) → List (List (Position ℤ))
places pieces = map (map (λ (v : Vertex ℤ). v.position)) pieces

every_held : (piece : List (Position ℤ)) → Filled piece → All Held piece
every_held [] h = tt
every_held (p ∷ piece) h = h

behind_filled : (b : Bool) (v : Vertex ℤ) (pieces : List (List (Vertex ℤ))) → Held v.position → All Filled (places pieces) → All Filled (places (behind b v pieces))
behind_filled true v pieces h k = ((h, tt), k)
behind_filled false v [] h k = ((h, tt), tt)
behind_filled false v (piece ∷ pieces) h k = ((h, every_held (map (λ (v : Vertex ℤ). v.position) piece) k.0), k.1)

contours_filled : (points : List (Vertex Float)) → all_printable points ≡ true → All Filled (places (cut_after (λ (v : Vertex ℤ). v.end) (map whole_vertex points)))
unfolding all_printable cut_after
contours_filled [] h = tt
contours_filled (v ∷ vs) h =
    let a = (and-eq-true_iff (at v) (all_printable vs)).0 h in
    behind_filled (whole_vertex v).end (whole_vertex v) (cut_after (λ (v : Vertex ℤ). v.end) (map whole_vertex vs)) (held v a.0) (contours_filled vs a.1)

filled : (points : List (Vertex Float)) → all_printable points ≡ true → All Filled (whole_contours points)
unfolding contours_of
filled points h = contours_filled points h

-- ---- the theorems
pub plots_read_back : PlotsReadBack
plots_read_back points buffer h =
    let w = done_so points buffer h in ap read_of w.1 ∙ text_read (whole_contours points) (filled points w.0)

pub plots_tell : PlotsTell
plots_tell points points' buffer buffer' h h' e = sym (plots_read_back points buffer h) ∙ ap read_of e ∙ plots_read_back points' buffer' h'

pub plot_blanks : PlotBlanks
plot_blanks points buffer h = ap (blanks_right 0 0) (done_so points buffer h).1 ∙ text_blanks (whole_contours points)

pub plot_room : PlotRoom
unfolding plot_of plot_in
plot_room points buffer room = go (all_printable points) (fitting points buffer) refl refl
  where
    go : (a f : Bool) → all_printable points ≡ a → fitting points buffer ≡ f → (plot_in a f (plot_text points) buffer).result.answer ≢ BufferShort
    go false f e k h = let z : ◌≡◌ {A = ℕ} 12 13 = differ NotPrintable BufferShort h in omega arith
    go true true e k h = let z : ◌≡◌ {A = ℕ} 0 13 = differ Done BufferShort h in omega arith
    go true false e k h = omega (arith, leb-false (length (plot_text points)) (length buffer) k, text_most points e, room)

pub plot_examples : PlotExamples
unfolding of_bits whole_of negative_of finished_of is_flag_of whole_vertex contours_of cut_after text_of contour_text move_of flat_map signed_of decimal_of decimal_in
plot_examples = record { two_contours = refl; no_points = refl; below_half = refl; ends = refl }
