-- Laws of reading: one step goes on after its command, or stops for good; as many steps as bytes are enough; only a refusal stops it.
-- Assumes nothing.
use mathlib.Core.Path.{◌≡◌, refl, sym, ap, ◌∙◌}
use mathlib.Core.Bool.{Bool, true, false, cond}
use mathlib.Core.List.{List, [], ◌∷◌}
use mathlib.Core.Logic.{◌⊎◌, inl, inr, ⊎_elim}
use Prim.Native.Nat.{ℕ, zero, suc, ◌+◌, ◌-◌, ◌<◌}
use native.Mathlib.Omega.{arith}
use lib.Dec.{leb}
use lib.Ieee.{Float}
use lib.ListN.{length}
use Rattle.answer.specs.Answer.{Answer}
use Rattle.answer.specs.Answer.{Done, BadText}
use Rattle.answer.specs.Number.{is_done}
use Rattle.answer.proofs.Laws.{ok_is_done}
use Rattle.store.specs.declared.Call.{Call}
use Rattle.store.specs.declared.StoreState.{StoreState}
use Rattle.store.specs.Columns.{Columns}
use Rattle.store.specs.Drawing.{Outcome, outcome, draw_of}
use Rattle.text.specs.Bytes.{stands_at}
use Rattle.listing.specs.declared.Op.{Op}
use Rattle.std.specs.Prelude.{Err}
use Rattle.answer.specs.declared.Refusal.{Refusal}
use Rattle.listing.specs.Grammar.{op_line_of, keys_of}
use Rattle.listing.specs.Reading.{Placed, Fields, read, wrong, fields_from, with_fields, command_from, try_ops, ops, Command, Drawing, Fault, Finish, command_at, Progress, going, finished, stopped, after_call, after_command, step_of, steps_of, read_of}
use Rattle.listing.proofs.FieldLaws.{Onward, fields_onward}
use Rattle.listing.proofs.CommandLaws.{op_length, behind_op}

-- ---- what a step gives
module _ (text : List ℕ) (at line : ℕ) (o : Outcome) where
  pub step_finish : command_at text at line ≡ Finish → finished o ≡ step_of text (going at line o)
  unfolding step_of after_command
  step_finish h = rw h

  pub step_fault : (l : ℕ) → command_at text at line ≡ Fault l → stopped BadText l ≡ step_of text (going at line o)
  unfolding step_of after_command
  step_fault l h = rw h

  module _ (call : Call) (at' line' : ℕ) (h : command_at text at line ≡ Drawing call at' line') (a : Answer) (s : StoreState) (c : Columns) (d : outcome a s c ≡ draw_of call o.state o.columns) where
    after : step_of text (going at line o) ≡ cond (is_done a) (going at' line' (outcome a s c)) (stopped a line)
    unfolding step_of after_command after_call
    after = rw (h, ← d)

    pub step_refused : (r : Refusal) → a ≡ Err r → stopped (Err r) line ≡ step_of text (going at line o)
    step_refused r e =
        let not_done : is_done a ≡ false = ap is_done e ∙ sym (ok_is_done (Err r)) in
        sym (after ∙ ap (λ (b : Bool). cond b (going at' line' (outcome a s c)) (stopped a line)) not_done ∙ ap (λ (b : Answer). stopped b line) e)

    pub step_drawn : a ≡ Done → going at' line' (outcome Done s c) ≡ step_of text (going at line o)
    step_drawn e =
        sym
        (after
        ∙ ap (λ (b : Bool). cond b (going at' line' (outcome a s c)) (stopped a line)) (ap is_done e)
        ∙ ap (λ (b : Answer). going at' line' (outcome b s c)) e)

-- ---- a step goes on
fields_of : (op : Op) (f : Fields) (call : Call) (at' line' : ℕ) → with_fields op f ≡ Drawing call at' line' → (values : List Float) × (f ≡ read values at' line')
unfolding with_fields
fields_of op (read values at line) call at' line' h = (values, let a : at ≡ at' = cc in let l : line ≡ line' = cc in cc)
fields_of op (wrong line) call at' line' h = absurd (let z : ◌≡◌ {A = ℕ} 0 1 = cc in omega arith)

pub record Further (text : List ℕ) (at at' line' : ℕ) : Type 0 where
  pub placed : Placed text at' line'
  pub further : at < at'

module _ (text : List ℕ) (at line : ℕ) (p : Placed text at line) (call : Call) (at' line' : ℕ) where
  from_onward : (op : Op) → stands_at text at (op_line_of op) ≡ true → command_from text at line op ≡ Drawing call at' line' → Further text at at' line'
  unfolding command_from
  from_onward op stands h =
      let n : (n : ℕ) × (length (op_line_of op) ≡ n) × (0 < n) = op_length op in
      let q : Placed text (at + length (op_line_of op)) (line + 1) = behind_op text at line op (op_line_of op) refl p stands in
      let f : (values : List Float) × (fields_from text (at + length (op_line_of op)) (line + 1) [] (keys_of op) ≡ read values at' line') =
      fields_of op (fields_from text (at + length (op_line_of op)) (line + 1) [] (keys_of op)) call at' line' h in
      let on : Onward text (at + length (op_line_of op)) at' line' = fields_onward text (at + length (op_line_of op)) (line + 1) [] f.0 (keys_of op) at' line' q f.1 in
      record { placed = on.placed; further = omega arith }

  cond_split : (stands : Bool) (f g : Command) → cond stands f g ≡ Drawing call at' line' → ((stands ≡ true) × (f ≡ Drawing call at' line')) ⊎ ((stands ≡ false) × (g ≡ Drawing call at' line'))
  cond_split true f g h = inl (refl, h)
  cond_split false f g h = inr (refl, h)

  try_onward : (os : List Op) → try_ops text at line os ≡ Drawing call at' line' → Further text at at' line'
  unfolding try_ops
  try_onward [] h = absurd (let z : ◌≡◌ {A = ℕ} 0 1 = cc in omega arith)
  try_onward (o ∷ os) h =
      ⊎_elim
      (λ w. from_onward o w.0 w.1)
      (λ w. try_onward os w.1)
      (cond_split (stands_at text at (op_line_of o)) (command_from text at line o) (try_ops text at line os) h)

  command_onward : command_at text at line ≡ Drawing call at' line' → Further text at at' line'
  unfolding command_at
  command_onward h =
      ⊎_elim
      (λ w. absurd (let z : ◌≡◌ {A = ℕ} 0 1 = cc in omega arith))
      (λ w. try_onward ops w.1)
      (cond_split (leb (length text) at) Finish (try_ops text at line ops) h)

call_onward : (text : List ℕ) (at line : ℕ) (p : Placed text at line) (o q : Outcome) (k : Command) (at' line' : ℕ) → command_at text at line ≡ k → after_command line o k ≡ going at' line' q → Further text at at' line'
unfolding after_command after_call
call_onward text at line p o q (Drawing call a l) at' line' e h = went (is_done (draw_of call o.state o.columns).answer) h
  where
    went : (b : Bool) → cond b (going a l (draw_of call o.state o.columns)) (stopped (draw_of call o.state o.columns).answer line) ≡ going at' line' q → Further text at at' line'
    went true h =
        let on : Further text at a l = command_onward text at line p call a l e in
        let x : a ≡ at' = cc in
        let y : l ≡ line' = cc in
        record { placed = record { inside = omega arith; counted = omega arith }; further = omega arith }
    went false h = absurd (let z : ◌≡◌ {A = ℕ} 0 1 = cc in omega arith)
call_onward text at line p o q (Fault l) at' line' e h = absurd (let z : ◌≡◌ {A = ℕ} 0 1 = cc in omega arith)
call_onward text at line p o q Finish at' line' e h = absurd (let z : ◌≡◌ {A = ℕ} 0 1 = cc in omega arith)

pub step_onward : (text : List ℕ) (at line : ℕ) (o q : Outcome) (at' line' : ℕ) → Placed text at line → going at' line' q ≡ step_of text (going at line o) → Further text at at' line'
unfolding step_of
step_onward text at line o q at' line' p h = call_onward text at line p o q (command_at text at line) at' line' refl (sym h)

-- ---- many steps
pub steps_finished : (n : ℕ) (text : List ℕ) (o : Outcome) → steps_of n text (finished o) ≡ finished o
unfolding steps_of step_of
steps_finished zero text o = refl
steps_finished (suc n) text o = steps_finished n text o

pub steps_stopped : (n : ℕ) (text : List ℕ) (a : Answer) (line : ℕ) → steps_of n text (stopped a line) ≡ stopped a line
unfolding steps_of step_of
steps_stopped zero text a line = refl
steps_stopped (suc n) text a line = steps_stopped n text a line

module _ (text : List ℕ) (p whole : Progress) (n : ℕ) (some : 0 < n) (left : steps_of n text p ≡ whole) where
  pub steps_again : (q : Progress) → q ≡ step_of text p → steps_of (n - 1) text q ≡ whole
  unfolding steps_of
  steps_again q h =
      let k : n ≡ suc (n - 1) = omega arith in
      ap (steps_of (n - 1) text) h ∙ sym (ap (λ (m : ℕ). steps_of m text p) k) ∙ left

  pub steps_end : (o : Outcome) → finished o ≡ step_of text p → finished o ≡ whole
  steps_end o h = sym (steps_finished (n - 1) text o) ∙ steps_again (finished o) h

  pub steps_stop : (a : Answer) (line : ℕ) → stopped a line ≡ step_of text p → stopped a line ≡ whole
  steps_stop a line h = sym (steps_stopped (n - 1) text a line) ∙ steps_again (stopped a line) h

-- ---- the reading stops at a refusal alone
abbrev pub StopsRefused : Progress → Type 0
StopsRefused (going at line o) = Unit
StopsRefused (finished o) = Unit
StopsRefused (stopped a line) = is_done a ≡ false

call_refused : (op_line at line : ℕ) (o : Outcome) (b : Bool) → is_done o.answer ≡ b → StopsRefused (cond b (going at line o) (stopped o.answer op_line))
call_refused op_line at line o true e = tt
call_refused op_line at line o false e = e

command_refused : (op_line : ℕ) (o : Outcome) (k : Command) → StopsRefused (after_command op_line o k)
unfolding after_command after_call
command_refused op_line o (Drawing call at line) =
    let d = draw_of call o.state o.columns in call_refused op_line at line d (is_done d.answer) refl
command_refused op_line o (Fault line) = refl
command_refused op_line o Finish = tt

stop_refused : (text : List ℕ) (p : Progress) → StopsRefused p → StopsRefused (step_of text p)
unfolding step_of
stop_refused text (going at line o) h = command_refused line o (command_at text at line)
stop_refused text (finished o) h = tt
stop_refused text (stopped a line) h = h

stops_refused : (n : ℕ) (text : List ℕ) (p : Progress) → StopsRefused p → StopsRefused (steps_of n text p)
unfolding steps_of
stops_refused zero text p h = h
stops_refused (suc n) text p h = stops_refused n text (step_of text p) (stop_refused text p h)

pub read_refused : (text : List ℕ) (o : Outcome) → StopsRefused (read_of text o)
unfolding read_of
read_refused text o = stops_refused (length text + 1) text (going 0 1 o) tt
