-- Laws of the plot of a listing: the first entries of the three columns are the program's points, and what is told is plotted. Assumes nothing.
use mathlib.Core.Path.{◌≡◌, refl, sym, ap, ◌∙◌, subst}
use mathlib.Core.Bool.{Bool, true, false}
use mathlib.Core.List.{List, ◌∷◌, map}
use Prim.Native.Nat.{ℕ, zero, suc, ◌+◌, ◌≤◌}
use native.Mathlib.Omega.{arith}
use borrow.Author.Tests.{leb-true}
use lib.Dec.{leb}
use lib.Ieee.{Float, nan}
use lib.ListN.{length, take, drop, get_or}
use lib.Seq.{drop-cons}
use Rattle.columns.specs.Flags.{is_flag_of}
use Rattle.answer.specs.Number.{is_done}
use Rattle.point.specs.declared.Setting.{Setting}
use Rattle.contours.specs.Finished.{position, Vertex, vertex, finished_of}
use Rattle.plot.specs.Plot.{Plotted, Plot, plot, all_printable, plot_text, plot_in, plot_of}
use Rattle.listing.specs.Writing.{column_points}
use Rattle.listing.specs.Program.{Said, program_output, said_of}
use Rattle.listing.specs.Told.{Telling, told_of}
use Rattle.listing.proofs.ToldLaws.{ToldSaid, told_said}
use Rattle.plotting.specs.PlotListing.{vertex_of, vertices_of, PlotAccount, Plotting, plotting, plot_account, plot_said, plot_listing_of}

-- ---- the first n entries of the columns
first_point : (n : ℕ) (l m l' m' : List Float) (k k' : List ℕ) (a b : Float) (c : ℕ) → l ≡ a ∷ l' → m ≡ b ∷ m' → k ≡ c ∷ k'
    → finished_of (take (suc n) l) (take (suc n) m) (take (suc n) k) ≡ vertex (position a b) (is_flag_of c) ∷ finished_of (take n l') (take n m') (take n k')
unfolding finished_of
first_point n l m l' m' k k' a b c hl hm hk = rw (hl, hm, hk)

shorter : (i n l : ℕ) → i + suc n ≤ l → i + 1 + n ≤ l
shorter i n l h = omega arith

inside : (i n l : ℕ) → i + suc n ≤ l → suc i ≤ l
inside i n l h = omega arith

one_more : (i : ℕ) → suc i ≡ i + 1
one_more i = omega arith

module _ (x y : List Float) (end : List ℕ) where
  points_at : (i n : ℕ) → i + n ≤ length x → i + n ≤ length y → i + n ≤ length end
      → finished_of (take n (drop i x)) (take n (drop i y)) (take n (drop i end)) ≡ map vertex_of (column_points i n x y end)
  unfolding finished_of column_points
  points_at i zero hx hy he = refl
  points_at i (suc n) hx hy he =
      first_point n (drop i x) (drop i y) (drop (suc i) x) (drop (suc i) y) (drop i end) (drop (suc i) end) (get_or x i nan) (get_or y i nan) (get_or end i 0)
      (drop-cons x i nan (inside i n (length x) hx)) (drop-cons y i nan (inside i n (length y) hy)) (drop-cons end i 0 (inside i n (length end) he))
      ∙ ap (λ (l : List (Vertex Float)). vertex (position (get_or x i nan) (get_or y i nan)) (is_flag_of (get_or end i 0)) ∷ l)
      (ap (λ (k : ℕ). finished_of (take n (drop k x)) (take n (drop k y)) (take n (drop k end))) (one_more i)
      ∙ points_at (i + 1) n (shorter i n (length x) hx) (shorter i n (length y) hy) (shorter i n (length end) he))

  pub first_points : (n : ℕ) → n ≤ length x → n ≤ length y → n ≤ length end
      → finished_of (take n x) (take n y) (take n end) ≡ vertices_of (column_points 0 n x y end)
  unfolding vertices_of
  first_points n hx hy he = points_at 0 n (omega arith) (omega arith) (omega arith)

-- ---- what is told, as it is plotted
module _ (setting : Setting) (text : List ℕ) (t : Telling) (e : t ≡ told_of setting text program_output) where
  abbrev said : Said
  said = said_of setting text

  as_said : ToldSaid t said
  as_said = subst (λ (u : Telling). ToldSaid u said) (sym e) (told_said setting text)

  done_said : (b : Bool) → is_done t.result.answer ≡ b → is_done said.answer ≡ b
  done_said b h = sym (ap is_done as_said.answer) ∙ h

  pub plot_refused : (buffer : List ℕ) → is_done t.result.answer ≡ false → plotting (plot_account t.result.answer t.result.line 0) buffer ≡ plot_listing_of setting text buffer
  unfolding plot_listing_of plot_said
  plot_refused buffer h =
      ap (λ a. plotting (plot_account a t.result.line 0) buffer) as_said.answer
      ∙ ap (λ (l : ℕ). plotting (plot_account said.answer l 0) buffer) as_said.line
      ∙ sym (ap (λ (b : Bool). plot_said b said buffer) (done_said false h))

  abbrev n : ℕ
  n = t.result.points

  abbrev given : ℕ → List (Vertex Float)
  given m = finished_of (take m t.output.x) (take m t.output.y) (take m t.output.end)

  pub told_room : (n ≤ length t.output.x) × (n ≤ length t.output.y) × (n ≤ length t.output.end)
  told_room = as_said.room

  pub plot_done : (buffer after : List ℕ) (p : Plotted) → is_done t.result.answer ≡ true
      → plot p after ≡ plot_of (given n) buffer → plotting (plot_account p.answer 0 p.written) after ≡ plot_listing_of setting text buffer
  unfolding plot_listing_of plot_said
  plot_done buffer after p h q =
      ap (λ (r : Plot). plotting (plot_account r.result.answer 0 r.result.written) r.text)
      (q ∙ ap (λ (l : List (Vertex Float)). plot_of l buffer) (first_points t.output.x t.output.y t.output.end n told_room.0 told_room.1 told_room.2 ∙ ap vertices_of as_said.back))
      ∙ sym (ap (λ (b : Bool). plot_said b said buffer) (done_said true h))

-- ---- no more is written than the buffer has
plot_within : (points : List (Vertex Float)) (buffer : List ℕ) → (plot_of points buffer).result.written ≤ length buffer
unfolding plot_of plot_in
plot_within points buffer = go (all_printable points) (leb (length (plot_text points)) (length buffer)) refl
  where
    go : (p f : Bool) → leb (length (plot_text points)) (length buffer) ≡ f → (plot_in p f (plot_text points) buffer).result.written ≤ length buffer
    go false f h = omega arith
    go true false h = omega arith
    go true true h = leb-true (length (plot_text points)) (length buffer) h

said_within : (b : Bool) (s : Said) (buffer : List ℕ) → (plot_said b s buffer).result.written ≤ length buffer
unfolding plot_said
said_within false s buffer = omega arith
said_within true s buffer = plot_within (vertices_of s.points) buffer

written_within : (setting : Setting) (text buffer : List ℕ) → (plot_listing_of setting text buffer).result.written ≤ length buffer
unfolding plot_listing_of
written_within setting text buffer = let s = said_of setting text in said_within (is_done s.answer) s buffer

pub written_fits : (setting : Setting) (text buffer after : List ℕ) (r : PlotAccount) → plotting r after ≡ plot_listing_of setting text buffer → r.written ≤ length buffer
written_fits setting text buffer after r h = subst (λ (p : Plotting). p.result.written ≤ length buffer) (sym h) (written_within setting text buffer)
