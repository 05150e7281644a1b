-- Laws of the whole program: what each way through it gives, and that 14,418 bytes hold every output. Assumes nothing.
use mathlib.Core.Path.{◌≡◌, refl, sym, ap, ◌∙◌, subst}
use mathlib.Core.Bool.{Bool, true, false}
use mathlib.Core.List.{List, []}
use Prim.Native.Nat.{ℕ, ◌≤◌, ◌<◌}
use native.Mathlib.Omega.{arith}
use borrow.Author.Tests.{le-leb, lt-leb}
use lib.ListN.{length, take}
use Rattle.std.proofs.Common.{length-take-le}
use Rattle.text.proofs.Decimals.{decimal_short}
use Rattle.std.specs.Prelude.{Err}
use Rattle.answer.specs.declared.Refusal.{Refusal}
use Rattle.answer.specs.Answer.{Answer}
use Rattle.answer.specs.Answer.{Done, InputTooLong}
use Rattle.answer.specs.Number.{number_of, is_done}
use Rattle.answer.proofs.Laws.{done_is, ok_is_done}
use Rattle.point.specs.declared.Setting.TheVariants.{Screen}
use Rattle.store.specs.declared.StoreState.{StoreState}
use Rattle.store.specs.declared.Call.TheVariants.{Build}
use Rattle.store.specs.Columns.{Columns, even_of}
use Rattle.store.specs.Drawing.{Outcome, outcome, draw_of, fresh_of}
use Rattle.evaluate.specs.Evaluate.{Finished}
use Rattle.listing.specs.Reading.{Progress, finished, stopped, read_of}
use Rattle.listing.specs.Writing.{report_of, column_points}
use Rattle.listing.specs.Program.{zeros, program_columns, program_output, refused, ready, built, built_from, after_reading, drawn_in, drawn_of, said_of, listing_of}
use Rattle.listing.specs.Told.{Telling, told_of}
use Rattle.listing.proofs.WritingLaws.{report_length, column_points-take}
use Rattle.listing.proofs.ToldLaws.{ToldSaid, told_said}

-- ---- a fresh drawing is made
pub fresh_done : (fresh_of program_columns).answer ≡ Done
unfolding fresh_of program_columns zeros even_of
fresh_done = refl

fresh_drawn : (a : Answer) (s : StoreState) (c : Columns) → outcome a s c ≡ fresh_of program_columns → outcome Done s c ≡ fresh_of program_columns
fresh_drawn a s c h = ap (λ (b : Answer). outcome b s c) (sym (ap (λ (o : Outcome). o.answer) h ∙ fresh_done)) ∙ h

pub read_fresh : (text : List ℕ) (p : Progress) (a : Answer) (s : StoreState) (c c₀ : Columns) → p ≡ read_of text (outcome Done s c) → outcome a s c ≡ fresh_of c₀ → c₀ ≡ program_columns → p ≡ read_of text (fresh_of program_columns)
read_fresh text p a s c c₀ h e k = h ∙ ap (read_of text) (fresh_drawn a s c (e ∙ ap fresh_of k))

-- ---- the final build
module _ (st : StoreState) (c : Columns) (a : Answer) (s : StoreState) (c' : Columns) (e : outcome a s c' ≡ draw_of Build st c) where
  build_drawn : built (is_done a) (outcome a s c') ≡ built_from (outcome Done st c)
  unfolding built_from
  build_drawn = ap (λ (o : Outcome). built (is_done o.answer) o) e

  pub build_refused : (r : Refusal) → a ≡ Err r → refused (Err r) 0 ≡ built_from (outcome Done st c)
  unfolding built
  build_refused r h =
      ap (λ (b : Answer). refused b 0) (sym h)
      ∙ sym (ap (λ (b : Bool). built b (outcome a s c')) (ap is_done h ∙ sym (ok_is_done (Err r))))
      ∙ build_drawn

  pub build_done : a ≡ Done → ready s c' ≡ built_from (outcome Done st c)
  unfolding built
  build_done h = sym (ap (λ (b : Bool). built b (outcome a s c')) (ap is_done h)) ∙ build_drawn

-- ---- the drawing of a text
pub too_long : (text : List ℕ) → 16384 < length text → refused InputTooLong 0 ≡ drawn_of text
unfolding drawn_of drawn_in
too_long text h = rw (lt-leb (length text) 16384 h)

module _ (text : List ℕ) (short : length text ≤ 16384) where
  after_reading_lem : (p : Progress) → p ≡ read_of text (fresh_of program_columns) → after_reading p ≡ drawn_of text
  unfolding drawn_of drawn_in
  after_reading_lem p h = ap after_reading h ∙ rw (le-leb (length text) 16384 short)

  pub after_stopped : (a : Answer) (line : ℕ) → stopped a line ≡ read_of text (fresh_of program_columns) → refused a line ≡ drawn_of text
  unfolding after_reading
  after_stopped a line h = after_reading_lem (stopped a line) h

  pub after_finished : (o : Outcome) → finished o ≡ read_of text (fresh_of program_columns) → built_from o ≡ drawn_of text
  unfolding after_reading
  after_finished o h = after_reading_lem (finished o) h

-- ---- what is told, as the program lists it
module _ (text : List ℕ) (t : Telling) (e : t ≡ told_of Screen text program_output) where
  listed_said : ToldSaid t (said_of Screen text)
  listed_said = subst (λ (u : Telling). ToldSaid u (said_of Screen text)) (sym e) (told_said Screen text)

  pub listed_few : t.result.points ≤ 512
  listed_few = omega (arith, listed_said.points, listed_said.few)

  pub listed_room : (t.result.points ≤ length t.output.x) × (t.result.points ≤ length t.output.y) × (t.result.points ≤ length t.output.end)
  listed_room = listed_said.room

  -- columns that are cut to the points
  pub listed_cut : length (take t.result.points t.output.x) ≡ t.result.points
  listed_cut = length-take-le _ _ listed_room.0

  pub listed_refusal : is_done t.result.answer ≡ false → report_of t.result.answer t.result.line [] ≡ listing_of text
  unfolding listing_of
  listed_refusal h =
      let s = said_of Screen text in
      ap (λ (a : Answer). report_of a t.result.line []) listed_said.answer
      ∙ ap (λ (l : ℕ). report_of s.answer l []) listed_said.line
      ∙ ap (λ (ps : List Finished). report_of s.answer s.line ps) (sym (listed_said.no_points (sym (ap is_done listed_said.answer) ∙ h)))

  pub listed_report : is_done t.result.answer ≡ true
      → report_of Done 0 (column_points 0 (length (take t.result.points t.output.x)) (take t.result.points t.output.x) (take t.result.points t.output.y) (take t.result.points t.output.end))
      ≡ listing_of text
  unfolding listing_of
  listed_report h =
      let s = said_of Screen text in
      let n = t.result.points in
      ap (λ (m : ℕ). report_of Done 0 (column_points 0 m (take n t.output.x) (take n t.output.y) (take n t.output.end))) listed_cut
      ∙ ap (report_of Done 0) (column_points-take n t.output.x t.output.y t.output.end 0 n (omega arith) ∙ listed_said.back)
      ∙ ap (λ (l : ℕ). report_of Done l s.points) (sym (listed_said.no_line (sym (ap is_done listed_said.answer) ∙ h)))
      ∙ ap (λ (a : Answer). report_of a s.line s.points) (sym (done_is t.result.answer h) ∙ listed_said.answer)

-- ---- 14,418 bytes are enough: three numbers of at most 20 digits, and 28 bytes for each of at most 512 points
report_fits : (a : Answer) (line : ℕ) (ps : List Finished) → length ps ≤ 512 → length (report_of a line ps) ≤ 14418
report_fits a line ps h =
    omega (arith, report_length a line ps, decimal_short (number_of a), decimal_short line, decimal_short (length ps))

pub listing_fits : (text : List ℕ) → length (listing_of text) ≤ 14418
unfolding listing_of
listing_fits text =
    let s = said_of Screen text in
    report_fits s.answer s.line s.points (told_said Screen text).few
