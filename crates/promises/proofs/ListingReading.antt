-- How a text is read. From any place the reading ends after the last command, at a refused command, or at a fault, and the rest of the text decides which
-- (`verdict`). Conversely, commands that are all drawn are passed, a step for each (`passed`). A printed text is read back (`good_reads`). Assumes nothing.
use Prim.Native.Nat.{ℕ, zero, suc, ◌+◌, ◌-◌, ◌≤◌, ◌<◌}
use mathlib.Core.Path.{◌≡◌, refl, sym, ap, ◌∙◌, subst}
use mathlib.Core.Bool.{Bool, true, false, cond}
use mathlib.Core.List.{List, [], ◌∷◌, ◌++◌, append_assoc}
use native.Mathlib.Nat.{add-zero, suc-add, zero-add, le_refl}
use native.Mathlib.Omega.{arith}
use lib.ListN.{length, drop, length-append}
use Rattle.answer.specs.Answer.{Answer}
use Rattle.answer.specs.Answer.{Done, BadText}
use Rattle.answer.specs.Number.{is_done}
use Rattle.answer.proofs.Laws.{done_is}
use Rattle.store.specs.Drawing.{Outcome}
use Rattle.store.specs.Replay.{replay_of}
use Rattle.text.specs.Places.{LongestBeginning, newlines}
use Rattle.text.proofs.Standing.{drop_behind}
use Rattle.text.proofs.Shapes.{newlines-append}
use Rattle.listing.specs.Grammar.{op_line_of, keys_of}
use Rattle.listing.specs.Printing.{TextCommand, field_lines, command_lines, printed, ProperCommand, Proper, none, more, Good, call_in, calls_in}
use Rattle.listing.specs.Reading.{Progress, going, finished, stopped, after_call, after_command, step_of, steps_of, read_of}
use Rattle.listing.proofs.StepLaws.{step_finish, step_fault, steps_finished, steps_stopped}
use Rattle.listing.proofs.CommandLaws.{op_length}
use Rattle.listing.proofs.PrintingLaws.{command_finish, command_reads, Stands, nothing, whole, broken, stands}
use Rattle.promises.specs.ListingAnswers.{drawn, AllDone, no_call, then, draw_all, GoodReads}

-- ---- every command has a byte, so there are no more commands than bytes
command_some : (c : TextCommand) → 1 ≤ length (command_lines c)
unfolding command_lines
command_some c =
    let n : (n : ℕ) × (length (op_line_of c.op) ≡ n) × (0 < n) = op_length c.op in
    omega (arith, length-append (op_line_of c.op) (field_lines (keys_of c.op) c.numbers))

printed_long : (cs : List TextCommand) → length cs ≤ length (printed cs)
unfolding printed
printed_long [] = le_refl 0
printed_long (c ∷ cs) = omega (arith, printed_long cs, command_some c, length-append (command_lines c) (printed cs))

-- ---- one step: the place, the line and the drawing after a command
abbrev place_behind : ℕ → TextCommand → ℕ
place_behind at c = at + length (command_lines c)

abbrev line_behind : ℕ → TextCommand → ℕ
line_behind line c = line + newlines (command_lines c)

abbrev with : TextCommand → Outcome → Outcome
with c o = drawn (call_in c) o

lines_behind : (line : ℕ) (c : TextCommand) (cs : List TextCommand) → line_behind line c + newlines (printed cs) ≡ line + newlines (printed (c ∷ cs))
unfolding printed
lines_behind line c cs = omega (arith, newlines-append (command_lines c) (printed cs))

module _ (text : List ℕ) (at : ℕ) where
  module _ (c : TextCommand) (rest : List ℕ) (h : drop at text ≡ command_lines c ++ rest) where
    left : drop (place_behind at c) text ≡ rest
    left = drop_behind text at (command_lines c) rest h

    shorter : (n : ℕ) → length (drop at text) < suc n → length (drop (place_behind at c) text) < n
    shorter n l = omega (arith, command_some c, ap length left, ap length h, length-append (command_lines c) rest)

    module _ (line : ℕ) (o : Outcome) (p : ProperCommand c) where
      abbrev answered : Bool → Progress
      answered b = cond b (going (place_behind at c) (line_behind line c) (with c o)) (stopped (with c o).answer line)

      step_by : (b : Bool) → is_done (with c o).answer ≡ b → step_of text (going at line o) ≡ answered b
      unfolding step_of after_command after_call
      step_by b e = ap (after_command line o) (command_reads text at line c rest p h) ∙ ap answered e

      steps_refused : (n : ℕ) → is_done (with c o).answer ≡ false → steps_of (suc n) text (going at line o) ≡ stopped (with c o).answer line
      unfolding steps_of
      steps_refused n e = ap (steps_of n text) (step_by false e) ∙ steps_stopped n text (with c o).answer line

      steps_drawn : (n : ℕ) → is_done (with c o).answer ≡ true
          → steps_of (suc n) text (going at line o) ≡ steps_of n text (going (place_behind at c) (line_behind line c) (with c o))
      unfolding steps_of
      steps_drawn n e = ap (steps_of n text) (step_by true e)

  steps_end : (n line : ℕ) (o : Outcome) → drop at text ≡ [] → steps_of (suc n) text (going at line o) ≡ finished o
  unfolding steps_of
  steps_end n line o e = ap (steps_of n text) (sym (step_finish text at line o (command_finish text at line e))) ∙ steps_finished n text o

-- ---- how the reading of what is left of a text ends
pub data Verdict (left : List ℕ) (line : ℕ) (o : Outcome) : Progress → Type 0 where
  read_whole : (cs : List TextCommand) → Proper cs → left ≡ printed cs → AllDone (calls_in cs) o → Verdict left line o (finished (replay_of (calls_in cs) o))
  refused_at : (cs : List TextCommand) (c : TextCommand) (rest : List ℕ) (a : Answer) (l : ℕ) → Proper cs → ProperCommand c
      → left ≡ printed cs ++ (command_lines c ++ rest) → AllDone (calls_in cs) o → (drawn (call_in c) (replay_of (calls_in cs) o)).answer ≡ a → is_done a ≡ false
      → l ≡ line + newlines (printed cs) → Verdict left line o (stopped a l)
  faulty_at : (cs : List TextCommand) (rest beginning : List ℕ) (l : ℕ) → Proper cs
      → left ≡ printed cs ++ rest → (Good rest → ⊥) → LongestBeginning Good rest beginning
      → l ≡ line + newlines (printed cs) + newlines beginning → Verdict left line o (stopped BadText l)

-- the same with one more command before it
one_more : (c : TextCommand) (line : ℕ) (o : Outcome) (left : List ℕ) (r : Progress) → ProperCommand c → (with c o).answer ≡ Done
    → Verdict left (line_behind line c) (with c o) r → Verdict (command_lines c ++ left) line o r
unfolding printed calls_in replay_of
one_more c line o left r p d (read_whole cs P e A) = read_whole (c ∷ cs) (more p P) (ap (λ (t : List ℕ). command_lines c ++ t) e) (then d A)
one_more c line o left r p d (refused_at cs k rest a l P q e A u f m) =
    refused_at (c ∷ cs) k rest a l (more p P) q
    (ap (λ (t : List ℕ). command_lines c ++ t) e ∙ sym (append_assoc (command_lines c) (printed cs) (command_lines k ++ rest)))
    (then d A) u f (m ∙ lines_behind line c cs)
one_more c line o left r p d (faulty_at cs rest beginning l P e g L m) =
    faulty_at (c ∷ cs) rest beginning l (more p P)
    (ap (λ (t : List ℕ). command_lines c ++ t) e ∙ sym (append_assoc (command_lines c) (printed cs) rest))
    g L (m ∙ ap (λ (k : ℕ). k + newlines beginning) (lines_behind line c cs))

module _ (text : List ℕ) where
  -- with one step more than there are bytes left
  abbrev Ends : ℕ → Type 0
  Ends n = (at line : ℕ) (o : Outcome) → length (drop at text) < n → Verdict (drop at text) line o (steps_of n text (going at line o))

  ends_by : (n : ℕ) → Ends n → (at line : ℕ) (o : Outcome) → length (drop at text) < suc n → Stands text at line
      → Verdict (drop at text) line o (steps_of (suc n) text (going at line o))
  unfolding steps_of printed calls_in replay_of newlines
  ends_by n ends at line o l (nothing e) = subst (Verdict (drop at text) line o) (sym (steps_end text at n line o e)) (read_whole [] none e no_call)
  ends_by n ends at line o l (whole c rest p e) = by_answer (is_done (with c o).answer) refl
    where
      by_answer : (b : Bool) → is_done (with c o).answer ≡ b → Verdict (drop at text) line o (steps_of (suc n) text (going at line o))
      by_answer true k =
          let r = steps_of n text (going (place_behind at c) (line_behind line c) (with c o)) in
          let z = ends (place_behind at c) (line_behind line c) (with c o) (shorter text at c rest e n l) in
          subst (Verdict (drop at text) line o) (sym (steps_drawn text at c rest e line o p n k))
          (subst (λ (t : List ℕ). Verdict t line o r) (sym e)
          (one_more c line o rest r p (done_is (with c o).answer k)
          (subst (λ (t : List ℕ). Verdict t (line_behind line c) (with c o) r) (left text at c rest e) z)))
      by_answer false k =
          subst (Verdict (drop at text) line o) (sym (steps_refused text at c rest e line o p n k))
          (refused_at [] c rest (with c o).answer line none p e no_call refl k (sym (add-zero line)))
  ends_by n ends at line o l (broken B) =
      subst (Verdict (drop at text) line o)
      (sym (ap (steps_of n text) (sym (step_fault text at line o B.told B.reads)) ∙ steps_stopped n text BadText B.told))
      (faulty_at [] (drop at text) B.beginning B.told none refl B.bad B.longest
      (B.counted ∙ ap (λ (k : ℕ). k + newlines B.beginning) (sym (add-zero line))))

  ends : (n : ℕ) → Ends n
  ends zero at line o l = absurd (omega arith)
  ends (suc n) at line o l = ends_by n (ends n) at line o l (stands text at line)

  pub verdict : (first : Outcome) → Verdict text 1 first (read_of text first)
  unfolding read_of
  verdict first = ends (length text + 1) 0 1 first (omega arith)

  -- ---- commands that are all drawn are passed, a step for each; at is the place after them
  pub record Behind (cs : List TextCommand) (rest : List ℕ) (n line : ℕ) (o : Outcome) (r : Progress) : Type 0 where
    pub at : ℕ
    pub there : drop at text ≡ rest
    pub same : r ≡ steps_of n text (going at (line + newlines (printed cs)) (replay_of (calls_in cs) o))

  along : (cs : List TextCommand) (rest : List ℕ) (n at line : ℕ) (o : Outcome) → Proper cs → AllDone (calls_in cs) o → drop at text ≡ printed cs ++ rest
      → Behind cs rest n line o (steps_of (length cs + n) text (going at line o))
  unfolding printed calls_in replay_of newlines
  along [] rest n at line o P A e =
      record {
        at = at;
        there = e;
        same = ap (λ (k : ℕ). steps_of k text (going at line o)) (zero-add n) ∙ ap (λ (k : ℕ). steps_of n text (going at k o)) (sym (add-zero line));
      }
  along (c ∷ cs) rest n at line o (more p P) (then d A) e =
      let h : drop at text ≡ command_lines c ++ (printed cs ++ rest) = e ∙ append_assoc (command_lines c) (printed cs) rest in
      let z = along cs rest n (place_behind at c) (line_behind line c) (with c o) P A (left text at c (printed cs ++ rest) h) in
      record {
        at = z.at;
        there = z.there;
        same =
            ap (λ (k : ℕ). steps_of k text (going at line o)) (suc-add (length cs) n)
            ∙ steps_drawn text at c (printed cs ++ rest) h line o p (length cs + n) (ap is_done d)
            ∙ z.same
            ∙ ap (λ (k : ℕ). steps_of n text (going z.at k (replay_of (calls_in cs) (with c o)))) (lines_behind line c cs);
      }

  module _ (first : Outcome) (cs : List TextCommand) (rest : List ℕ) (P : Proper cs) (A : AllDone (calls_in cs) first) (e : text ≡ printed cs ++ rest) where
    passed : (n : ℕ) × Behind cs rest (suc n) 1 first (read_of text first)
    unfolding read_of
    passed =
        let n = length text - length cs in
        let k : length text + 1 ≡ length cs + suc n = omega (arith, ap length e, length-append (printed cs) rest, printed_long cs) in
        (n, subst (λ (m : ℕ). Behind cs rest (suc n) 1 first (steps_of m text (going 0 1 first))) (sym k) (along cs rest (suc n) 0 1 first P A e))

    pub whole_reads : rest ≡ [] → read_of text first ≡ finished (replay_of (calls_in cs) first)
    whole_reads h =
        let n = passed.0 in
        let z = passed.1 in
        z.same ∙ steps_end text z.at n (1 + newlines (printed cs)) (replay_of (calls_in cs) first) (z.there ∙ h)

    pub refused_reads : (c : TextCommand) (behind : List ℕ) → ProperCommand c → rest ≡ command_lines c ++ behind
        → is_done (drawn (call_in c) (replay_of (calls_in cs) first)).answer ≡ false
        → read_of text first ≡ stopped (drawn (call_in c) (replay_of (calls_in cs) first)).answer (1 + newlines (printed cs))
    refused_reads c behind p h f =
        let n = passed.0 in
        let z = passed.1 in
        z.same ∙ steps_refused text z.at c behind (z.there ∙ h) (1 + newlines (printed cs)) (replay_of (calls_in cs) first) p n f

  -- ---- a printed text is read back
  draws : (cs : List TextCommand) (n at line : ℕ) (o : Outcome) → Proper cs → drop at text ≡ printed cs → length cs < n
      → steps_of n text (going at line o) ≡ draw_all line cs o
  unfolding printed draw_all
  draws cs zero at line o P e l = absurd (omega arith)
  draws [] (suc n) at line o P e l = steps_end text at n line o e
  draws (c ∷ cs) (suc n) at line o (more p P) e l =
      by_answer (is_done (with c o).answer) refl (draws cs n (place_behind at c) (line_behind line c) (with c o) P (left text at c (printed cs) e) (omega arith))
    where
      told : Bool → Progress
      told b = cond b (draw_all (line_behind line c) cs (with c o)) (stopped (with c o).answer line)

      by_answer : (b : Bool) → is_done (with c o).answer ≡ b
          → steps_of n text (going (place_behind at c) (line_behind line c) (with c o)) ≡ draw_all (line_behind line c) cs (with c o)
          → steps_of (suc n) text (going at line o) ≡ told (is_done (with c o).answer)
      by_answer true k r = steps_drawn text at c (printed cs) e line o p n k ∙ r ∙ sym (ap told k)
      by_answer false k r = steps_refused text at c (printed cs) e line o p n k ∙ sym (ap told k)

pub good_reads : GoodReads
unfolding read_of
good_reads commands first P = draws (printed commands) commands (length (printed commands) + 1) 0 1 first P refl (omega (arith, printed_long commands))
