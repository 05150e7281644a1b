-- The program's answers are exact, with their lines. A cause fixes how the reading ends, and so what is said (`given_so`). Conversely, every way the reading
-- ends has a cause (`cause`); which cause it is follows from the answers that a call, the build and a flattening can give (`told`). Assumes nothing.
use Prim.Native.Nat.{ℕ, ◌+◌, ◌≤◌, ◌<◌}
use mathlib.Core.Path.{◌≡◌, refl, sym, ap, ap₂, ◌∙◌, subst, subst₂}
use mathlib.Core.Logic.{◌⊎◌, inl, inr, ◌≢◌}
use mathlib.Core.Bool.{Bool, true, false}
use mathlib.Core.List.{List, [], ◌++◌, append-nil}
use native.Mathlib.Nat.{le_antisymm, not-le_of_lt}
use native.Mathlib.Decide.{dec_le}
use native.Mathlib.Omega.{arith}
use lib.Dec.{lit<}
use lib.ListN.{length}
use Rattle.answer.specs.Answer.{Answer}
use Rattle.answer.specs.Answer.{Done, BadCoordinate, BadWeight, Unusable, StoreFull, TooManyPieces, QuadsFull, SplinesFull, SumTooLarge, OutputShort, BadText, InputTooLong, NotPrintable, BufferShort}
use Rattle.answer.specs.Number.{number_of, is_done}
use Rattle.answer.proofs.Laws.{done_is}
use Rattle.point.specs.declared.Setting.TheVariants.{Screen}
use Rattle.store.specs.Drawing.{Outcome, fresh_of}
use Rattle.evaluate.specs.Evaluate.{Finished}
use Rattle.text.specs.Places.{LongestBeginning, newlines}
use Rattle.text.proofs.Shapes.{newlines-append, newlines_longer}
use Rattle.listing.specs.Printing.{TextCommand, command_lines, printed, Good, call_in}
use Rattle.listing.specs.Reading.{Progress, going, finished, stopped, read_of}
use Rattle.listing.specs.Program.{program_columns, Drawn, drawn_of, refused, Said, said, flat_report, flat_of, built, built_from, said_from, said_of, listing_of}
use Rattle.listing.proofs.ProgramLaws.{too_long, after_stopped, after_finished}
use Rattle.listing.proofs.PrintingLaws.{printed_same, good_after, longest_after}
use Rattle.promises.specs.Accepted.{flattening_of}
use Rattle.promises.specs.ListingAnswers.{drawing_of, RefusedCall, Faulty, ReadWhole, built_of, job_of, Builds, Flattens, points_in, Short, GivenWhen, ListingExact, GoodOnce}
use Rattle.promises.proofs.Answering.{not_done, undone, call_number, not_three, build_four, FiveToNine, flat_number, usable_drawing, drawable_built}
use Rattle.promises.proofs.ListingReading.{Verdict, read_whole, refused_at, faulty_at, verdict, whole_reads, refused_reads}

pub good_once : GoodOnce
good_once commands others p q h = printed_same commands others p q h

abbrev fresh : Outcome
fresh = fresh_of program_columns

-- ---- what is said of commands that are all drawn
module _ (cs : List TextCommand) where
  abbrev flat_answer : Answer
  flat_answer = (flattening_of (job_of cs)).result.answer

  abbrev build_said : Said
  build_said = said_from Screen (built_from (drawing_of cs))

  build_said_lem : is_done (built_of cs).answer ≡ false → build_said ≡ said (built_of cs).answer 0 []
  unfolding built_from built said_from
  build_said_lem e = ap (λ (b : Bool). said_from Screen (built b (built_of cs))) e

  flat_said : is_done (built_of cs).answer ≡ true → is_done flat_answer ≡ false → build_said ≡ said flat_answer 0 []
  unfolding built_from built said_from flat_of flat_report
  flat_said e f = ap (λ (b : Bool). said_from Screen (built b (built_of cs))) e ∙ ap (λ (b : Bool). flat_report Screen b (flattening_of (job_of cs))) f

  done_said : is_done (built_of cs).answer ≡ true → is_done flat_answer ≡ true → build_said ≡ said Done 0 (points_in (flattening_of (job_of cs)))
  unfolding built_from built said_from flat_of flat_report
  done_said e f = ap (λ (b : Bool). said_from Screen (built b (built_of cs))) e ∙ ap (λ (b : Bool). flat_report Screen b (flattening_of (job_of cs))) f

-- ---- two stops have the same answer, and two longest beginnings have equally many lines
stop_answer : Progress → Answer
stop_answer (going at line o) = Done
stop_answer (finished o) = Done
stop_answer (stopped a line) = a

same_stop : (a b : Answer) (l m : ℕ) → stopped a l ≡ stopped b m → a ≡ b
unfolding stop_answer
same_stop a b l m e = ap stop_answer e

longest_lines : (text a b : List ℕ) → LongestBeginning Good text a → LongestBeginning Good text b → newlines a ≡ newlines b
longest_lines text a b A B =
    le_antisymm
    (newlines_longer a b A.rest B.rest (sym A.split ∙ B.split) (B.longest a A.rest A.split A.completable))
    (newlines_longer b a B.rest A.rest (sym B.split ∙ A.split) (A.longest b B.rest B.split B.completable))

module _ (text : List ℕ) where
  -- ---- from a cause to how the reading ends
  refused_read : (a : Answer) (l : ℕ) → RefusedCall text a l → read_of text fresh ≡ stopped a l
  refused_read a l R =
      refused_reads text fresh R.before (command_lines R.refused ++ R.rest) R.proper_before R.all_done R.split
      R.refused R.rest R.proper refl (ap is_done R.answer ∙ not_done a R.not_done)
      ∙ ap₂ stopped R.answer (sym R.op_line)

  whole_read : (R : ReadWhole text) → read_of text fresh ≡ finished (drawing_of R.good.commands)
  whole_read R =
      let cs = R.good.commands in
      whole_reads text fresh cs [] R.good.proper R.all_done (R.good.print ∙ sym (append-nil (printed cs))) refl

  -- a refused call answers 1 to 4, so there is none before a fault
  refused_number : (a : Answer) (l : ℕ) → RefusedCall text a l → number_of a ≤ 4
  refused_number a l R =
      let o = drawing_of R.before in
      subst (λ (b : Answer). number_of b ≤ 4) R.answer (call_number (call_in R.refused) o.state o.columns)

  none_refused : (l : ℕ) → read_of text fresh ≡ stopped BadText l → (a : Answer) (op_line : ℕ) → RefusedCall text a op_line → ⊥
  none_refused l e a k R =
      let q : a ≡ BadText = same_stop a BadText k l (sym (refused_read a k R) ∙ e) in
      not-le_of_lt {n = 10} {m = 4} (lit< tt) (subst (λ (b : Answer). number_of b ≤ 4) q (refused_number a k R))

  -- ---- from how the reading ends to its cause
  data Cause : Progress → Type 0 where
    by_whole : (R : ReadWhole text) → Cause (finished (drawing_of R.good.commands))
    by_refusal : (a : Answer) (l : ℕ) → RefusedCall text a l → Cause (stopped a l)
    by_fault : (l : ℕ) → Faulty text l → Cause (stopped BadText l)

  cause_of : (r : Progress) → read_of text fresh ≡ r → Verdict text 1 fresh r → Cause r
  cause_of r h (read_whole cs P e A) = by_whole (record { good = record { commands = cs; proper = P; print = e }; all_done = A })
  cause_of r h (refused_at cs c rest a l P p e A q f m) =
      by_refusal a l
      (record {
        before = cs;
        refused = c;
        rest = rest;
        split = e;
        proper_before = P;
        proper = p;
        all_done = A;
        answer = q;
        not_done = undone a f;
        op_line = m;
      })
  cause_of r h (faulty_at cs rest beginning l P e g L m) =
      by_fault l
      (record {
        not_good = λ G. g (good_after cs rest P (subst Good e G));
        none_refused = none_refused l h;
        beginning = printed cs ++ beginning;
        longest = subst (λ (t : List ℕ). LongestBeginning Good t (printed cs ++ beginning)) (sym e) (longest_after cs rest beginning P L);
        due = m ∙ together 1 (newlines (printed cs)) (newlines beginning) ∙ ap (λ (n : ℕ). 1 + n) (sym (newlines-append (printed cs) beginning));
      })
    where
      together : (a b c : ℕ) → a + b + c ≡ a + (b + c)
      together a b c = omega arith

  cause : Cause (read_of text fresh)
  cause = cause_of (read_of text fresh) refl (verdict text fresh)

  faulty_read : (l : ℕ) → Faulty text l → read_of text fresh ≡ stopped BadText l
  faulty_read l F = go (read_of text fresh) cause
    where
      go : (r : Progress) → Cause r → r ≡ stopped BadText l
      go r (by_whole R) = absurd (F.not_good R.good)
      go r (by_refusal a k R) = absurd (F.none_refused a k R)
      go r (by_fault k G) =
          ap (stopped BadText) (G.due ∙ ap (λ (n : ℕ). 1 + n) (longest_lines text G.beginning F.beginning G.longest F.longest) ∙ sym F.due)

  -- ---- what is said, from each cause
  drawn_said : (d : Drawn) → d ≡ drawn_of text → said_of Screen text ≡ said_from Screen d
  unfolding said_of
  drawn_said d e = sym (ap (said_from Screen) e)

  long_said : 16384 < length text → said_of Screen text ≡ said InputTooLong 0 []
  unfolding said_from
  long_said h = drawn_said (refused InputTooLong 0) (too_long text h)

  module _ (s : Short text) where
    stop_said : (a : Answer) (l : ℕ) → read_of text fresh ≡ stopped a l → said_of Screen text ≡ said a l []
    unfolding said_from
    stop_said a l e = drawn_said (refused a l) (after_stopped text s a l (sym e))

    whole_said : (R : ReadWhole text) → said_of Screen text ≡ build_said R.good.commands
    whole_said R =
        let o = drawing_of R.good.commands in drawn_said (built_from o) (after_finished text s o (sym (whole_read R)))

    builds_said : (a : Answer) → is_done a ≡ false → Builds text a → said_of Screen text ≡ said a 0 []
    builds_said a n B =
        let cs = B.read.good.commands in
        whole_said B.read ∙ build_said_lem cs (ap is_done B.answer ∙ n) ∙ ap (λ (b : Answer). said b 0 []) B.answer

    flattens_said : (a : Answer) → is_done a ≡ false → Flattens text a → said_of Screen text ≡ said a 0 []
    flattens_said a n F =
        let cs = F.read.good.commands in
        whole_said F.read ∙ flat_said cs (ap is_done F.built) (ap is_done F.answer ∙ n) ∙ ap (λ (b : Answer). said b 0 []) F.answer

    finishes_said : (F : Flattens text Done) → said_of Screen text ≡ said Done 0 (points_in (flattening_of (job_of F.read.good.commands)))
    finishes_said F = whole_said F.read ∙ done_said F.read.good.commands (ap is_done F.built) (ap is_done F.answer)

  -- ---- from the table to what is said
  abbrev SaidSo : Answer → ℕ → Type 0
  SaidSo a line = ((said_of Screen text).answer ≡ a) × ((said_of Screen text).line ≡ line)

  so : (a : Answer) (line : ℕ) (ps : List Finished) → said_of Screen text ≡ said a line ps → SaidSo a line
  so a line ps e = (ap (λ (s : Said). s.answer) e, ap (λ (s : Said). s.line) e)

  so_zero : (a : Answer) (line : ℕ) (ps : List Finished) → line ≡ 0 → said_of Screen text ≡ said a 0 ps → SaidSo a line
  so_zero a line ps z e = so a line ps (e ∙ ap (λ (l : ℕ). said a l ps) (sym z))

  refused_so : (a : Answer) (line : ℕ) → Short text × RefusedCall text a line → SaidSo a line
  refused_so a line z = so a line [] (stop_said z.0 a line (refused_read a line z.1))

  flattens_so : (a : Answer) (line : ℕ) → is_done a ≡ false → Short text × Flattens text a × (line ≡ 0) → SaidSo a line
  flattens_so a line n z = so_zero a line [] z.2 (flattens_said z.0 a n z.1)

  given_so : (a : Answer) (line : ℕ) → GivenWhen text a line → SaidSo a line
  given_so Done line z = so_zero Done line _ z.2 (finishes_said z.0 z.1)
  given_so BadCoordinate line z = refused_so BadCoordinate line z
  given_so BadWeight line z = refused_so BadWeight line z
  given_so Unusable line z = absurd z
  given_so StoreFull line z = full z.0 z.1
    where
      full : Short text → RefusedCall text StoreFull line ⊎ (Builds text StoreFull × (line ≡ 0)) → SaidSo StoreFull line
      full s (inl R) = refused_so StoreFull line (s, R)
      full s (inr B) = so_zero StoreFull line [] B.1 (builds_said s StoreFull refl B.0)
  given_so TooManyPieces line z = flattens_so TooManyPieces line refl z
  given_so QuadsFull line z = flattens_so QuadsFull line refl z
  given_so SplinesFull line z = flattens_so SplinesFull line refl z
  given_so SumTooLarge line z = flattens_so SumTooLarge line refl z
  given_so OutputShort line z = flattens_so OutputShort line refl z
  given_so BadText line z = so BadText line [] (stop_said z.0 BadText line (faulty_read line z.1))
  given_so InputTooLong line z = so_zero InputTooLong line [] z.1 (long_said z.0)
  given_so NotPrintable line z = absurd z
  given_so BufferShort line z = absurd z

  -- ---- from what is said to the table: a refused call is 1, 2 or 4
  refused_given : Short text → (a : Answer) (l : ℕ) → RefusedCall text a l → number_of a ≤ 4 → GivenWhen text a l
  refused_given s Done l R h = absurd (R.not_done refl)
  refused_given s BadCoordinate l R h = (s, R)
  refused_given s BadWeight l R h = (s, R)
  refused_given s Unusable l R h =
      not_three (drawing_of R.before).state (drawing_of R.before).columns (usable_drawing R.before) (call_in R.refused) R.answer
  refused_given s StoreFull l R h = (s, inl R)
  refused_given s TooManyPieces l R h = absurd (not-le_of_lt (lit< tt) h)
  refused_given s QuadsFull l R h = absurd (not-le_of_lt (lit< tt) h)
  refused_given s SplinesFull l R h = absurd (not-le_of_lt (lit< tt) h)
  refused_given s SumTooLarge l R h = absurd (not-le_of_lt (lit< tt) h)
  refused_given s OutputShort l R h = absurd (not-le_of_lt (lit< tt) h)
  refused_given s BadText l R h = absurd (not-le_of_lt (lit< tt) h)
  refused_given s InputTooLong l R h = absurd (not-le_of_lt (lit< tt) h)
  refused_given s NotPrintable l R h = absurd (not-le_of_lt (lit< tt) h)
  refused_given s BufferShort l R h = absurd (not-le_of_lt (lit< tt) h)

  -- a refused flattening is 5 to 9
  flat_given : Short text → (a : Answer) → Flattens text a → FiveToNine a → GivenWhen text a 0
  flat_given s Done F h = absurd (not-le_of_lt (lit< tt) h.0)
  flat_given s BadCoordinate F h = absurd (not-le_of_lt (lit< tt) h.0)
  flat_given s BadWeight F h = absurd (not-le_of_lt (lit< tt) h.0)
  flat_given s Unusable F h = absurd (not-le_of_lt (lit< tt) h.0)
  flat_given s StoreFull F h = absurd (not-le_of_lt (lit< tt) h.0)
  flat_given s TooManyPieces F h = (s, F, refl)
  flat_given s QuadsFull F h = (s, F, refl)
  flat_given s SplinesFull F h = (s, F, refl)
  flat_given s SumTooLarge F h = (s, F, refl)
  flat_given s OutputShort F h = (s, F, refl)
  flat_given s BadText F h = absurd (not-le_of_lt (lit< tt) h.1)
  flat_given s InputTooLong F h = absurd (not-le_of_lt (lit< tt) h.1)
  flat_given s NotPrintable F h = absurd (not-le_of_lt (lit< tt) h.1)
  flat_given s BufferShort F h = absurd (not-le_of_lt (lit< tt) h.1)

  record Told (s : Said) : Type 0 where
    given : GivenWhen text s.answer s.line
    no_points : s.answer ≢ Done → s.points ≡ []

  whole_told : Short text → (R : ReadWhole text) → Told (build_said R.good.commands)
  whole_told s R = by_build (is_done b.answer) refl
    where
      cs : List TextCommand
      cs = R.good.commands

      b : Outcome
      b = built_of cs

      by_flat : (k : Bool) → is_done b.answer ≡ true → is_done (flat_answer cs) ≡ k → Told (build_said cs)
      by_flat true e h =
          let F : Flattens text Done = record { read = R; built = done_is b.answer e; answer = done_is (flat_answer cs) h } in
          subst Told (sym (done_said cs e h)) (record { given = (s, F, refl); no_points = λ n. absurd (n refl) })
      by_flat false e h =
          let F : Flattens text (flat_answer cs) = record { read = R; built = done_is b.answer e; answer = refl } in
          subst Told (sym (flat_said cs e h))
          (record { given = flat_given s (flat_answer cs) F (flat_number (job_of cs) (drawable_built cs) h); no_points = λ n. refl })

      by_build : (k : Bool) → is_done b.answer ≡ k → Told (build_said cs)
      by_build true e = by_flat (is_done (flat_answer cs)) e refl
      by_build false e =
          let q : b.answer ≡ StoreFull = build_four (drawing_of cs).state (drawing_of cs).columns (usable_drawing cs) e in
          subst Told (sym (build_said_lem cs e ∙ ap (λ (a : Answer). said a 0 []) q))
          (record { given = (s, inr (record { read = R; answer = q }, refl)); no_points = λ n. refl })

  told : Told (said_of Screen text)
  told = by_length (dec_le (length text) 16384)
    where
      over : (n : ℕ) → (n ≤ 16384 → ⊥) → 16384 < n
      over n h = omega arith

      by_cause : Short text → (r : Progress) → read_of text fresh ≡ r → Cause r → Told (said_of Screen text)
      by_cause s r h (by_whole R) = subst Told (sym (whole_said s R)) (whole_told s R)
      by_cause s r h (by_refusal a l R) =
          subst Told (sym (stop_said s a l h)) (record { given = refused_given s a l R (refused_number a l R); no_points = λ n. refl })
      by_cause s r h (by_fault l F) = subst Told (sym (stop_said s BadText l h)) (record { given = (s, F); no_points = λ n. refl })

      by_length : Dec (length text ≤ 16384) → Told (said_of Screen text)
      by_length (yes s) = by_cause s (read_of text fresh) refl cause
      by_length (no h) = subst Told (sym (long_said (over (length text) h))) (record { given = (over (length text) h, refl); no_points = λ n. refl })

pub listing_exact : ListingExact
unfolding listing_of
listing_exact text =
    record {
      answers = λ a line. (λ z. subst₂ (GivenWhen text) z.0 z.1 (told text).given, given_so text a line);
      points = λ s F. ap (λ (x : Said). x.points) (finishes_said text s F);
      no_points = (told text).no_points;
      output = refl;
    }
