-- Laws of the front half: in the program's own columns it delivers what the program says, in either setting. Assumes nothing.
use mathlib.Core.Path.{◌≡◌, refl, sym, ap, ◌∙◌}
use mathlib.Core.Bool.{Bool, true, false, true≢false}
use mathlib.Core.List.{List, []}
use Prim.Native.Nat.{ℕ, ◌≤◌}
use native.Mathlib.Omega.{arith}
use lib.Dec.{leb}
use lib.ListN.{length, length-replicate}
use Rattle.answer.specs.Answer.{Answer}
use Rattle.answer.specs.Number.{is_done}
use Rattle.answer.proofs.Laws.{done_is}
use Rattle.point.specs.declared.Setting.{Setting}
use Rattle.store.specs.declared.Call.TheVariants.{Build}
use Rattle.store.specs.declared.StoreState.{StoreState}
use Rattle.store.specs.Columns.{Columns}
use Rattle.store.specs.Drawing.{Outcome, draw_of, fresh_of}
use Rattle.flatten.specs.Flatten.{Flattening, Output, flatten_of}
use Rattle.listing.specs.Reading.{Progress, going, finished, stopped, read_of}
use Rattle.listing.specs.Writing.{column_points}
use Rattle.listing.specs.Program.{program_columns, program_quads, program_splines, program_output, Drawn, refused, ready, built, built_from, after_reading, drawn_in, drawn_of, Said, flat_report, flat_of, said_from, said_of}
use Rattle.listing.specs.Told.{Telling, account_of, telling, flat_telling, told_from, told_of}
use Rattle.listing.proofs.StepLaws.{StopsRefused, read_refused}
use Rattle.listing.proofs.FlatLaws.{flatten_done, flatten_undone, delivered_count, delivered_points, delivered_room, delivered_fit}

-- ---- no drawing is refused with 0
abbrev Refuses : Drawn → Type 0
Refuses (refused a line) = is_done a ≡ false
Refuses (ready st c) = Unit

build_refuses : (b : Bool) (o : Outcome) → is_done o.answer ≡ b → Refuses (built b o)
unfolding built
build_refuses true o e = tt
build_refuses false o e = e

after_refuses : (p : Progress) → StopsRefused p → Refuses (after_reading p)
unfolding after_reading built_from
after_refuses (going at line o) h = let b = draw_of Build o.state o.columns in build_refuses (is_done b.answer) b refl
after_refuses (finished o) h = let b = draw_of Build o.state o.columns in build_refuses (is_done b.answer) b refl
after_refuses (stopped a line) h = h

in_refuses : (b : Bool) (text : List ℕ) → Refuses (drawn_in b text)
unfolding drawn_in
in_refuses false text = refl
in_refuses true text = after_refuses (read_of text (fresh_of program_columns)) (read_refused text (fresh_of program_columns))

drawn_refuses : (text : List ℕ) → Refuses (drawn_of text)
unfolding drawn_of
drawn_refuses text = in_refuses (leb (length text) 16384) text

-- ---- what is told, in the program's own columns, is what is said
pub record ToldSaid (t : Telling) (s : Said) : Type 0 where
  pub answer : t.result.answer ≡ s.answer
  pub line : t.result.line ≡ s.line
  pub points : t.result.points ≡ length s.points
  pub back : column_points 0 t.result.points t.output.x t.output.y t.output.end ≡ s.points
  pub few : length s.points ≤ 512
  -- each column holds them all
  pub room : (t.result.points ≤ length t.output.x) × (t.result.points ≤ length t.output.y) × (t.result.points ≤ length t.output.end)
  -- a refusal has no point, and what is done has no line
  pub no_points : is_done s.answer ≡ false → s.points ≡ []
  pub no_line : is_done s.answer ≡ true → s.line ≡ 0

refused_said : (setting : Setting) (a : Answer) (line : ℕ) → is_done a ≡ false
    → ToldSaid (told_from setting (refused a line) program_output) (said_from setting (refused a line))
unfolding told_from said_from column_points
refused_said setting a line h =
    record {
      answer = refl;
      line = refl;
      points = refl;
      back = refl;
      few = omega arith;
      room = (omega arith, omega arith, omega arith);
      no_points = λ e. refl;
      no_line = λ e. absurd (true≢false (sym e ∙ h));
    }

few_words : (n p : ℕ) → n ≡ p → p ≤ length program_output.words → n ≤ 512
unfolding program_output
few_words n p e l = omega (arith, length-replicate {A = ℕ} 512 0)

module _ (setting : Setting) (st : StoreState) (c : Columns) where
  abbrev flattened : Flattening
  flattened = flatten_of setting st c program_quads program_splines program_output

  flat_said : (b : Bool) → is_done flattened.result.answer ≡ b → ToldSaid (flat_telling flattened) (flat_report setting b flattened)
  unfolding flat_report column_points
  flat_said true h =
      let d = flatten_done setting st c program_quads program_splines program_output h in
      record {
        answer = done_is flattened.result.answer h;
        line = refl;
        points = sym (delivered_count setting flattened program_output d);
        back = delivered_points setting flattened program_output d;
        room = delivered_room setting flattened program_output d;
        few = few_words _ _ (delivered_count setting flattened program_output d) (delivered_fit setting flattened program_output d);
        no_points = λ e. absurd (true≢false e);
        no_line = λ e. refl;
      }
  flat_said false h =
      let z = flatten_undone setting st c program_quads program_splines program_output h in
      record {
        answer = refl;
        line = refl;
        points = z;
        back = ap (λ (n : ℕ). column_points 0 n flattened.output.x flattened.output.y flattened.output.end) z;
        few = omega arith;
        room = (omega arith, omega arith, omega arith);
        no_points = λ e. refl;
        no_line = λ e. refl;
      }

from_said : (setting : Setting) (d : Drawn) → Refuses d → ToldSaid (told_from setting d program_output) (said_from setting d)
unfolding told_from said_from flat_of
from_said setting (refused a line) h = refused_said setting a line h
from_said setting (ready st c) h =
    flat_said setting st c (is_done (flatten_of setting st c program_quads program_splines program_output).result.answer) refl

pub told_said : (setting : Setting) (text : List ℕ) → ToldSaid (told_of setting text program_output) (said_of setting text)
unfolding told_of said_of
told_said setting text = from_said setting (drawn_of text) (drawn_refuses text)

-- ---- as the code tells it, in any columns
pub flat_told : (setting : Setting) (st : StoreState) (c : Columns) (o : Output) (f : Flattening)
    → f ≡ flatten_of setting st c program_quads program_splines o → flat_telling f ≡ told_from setting (ready st c) o
unfolding told_from
flat_told setting st c o f e = ap flat_telling e

module _ (setting : Setting) (text : List ℕ) (o : Output) where
  pub refused_told : (a : Answer) (line : ℕ) → refused a line ≡ drawn_of text → telling (account_of a line 0) o ≡ told_of setting text o
  unfolding told_of told_from
  refused_told a line h = ap (λ (d : Drawn). told_from setting d o) h

  pub ready_told : (t : Telling) (st : StoreState) (c : Columns) → ready st c ≡ drawn_of text → t ≡ told_from setting (ready st c) o → t ≡ told_of setting text o
  unfolding told_of
  ready_told t st c h e = e ∙ ap (λ (d : Drawn). told_from setting d o) h
