-- Laws of printing and reading: what is printed is read back command by command; at each place the text ends, or has a whole command, or a fault
-- on the line where the longest good beginning ends. Assumes nothing.
use mathlib.Core.Path.{◌≡◌, refl, sym, ap, ◌∙◌}
use mathlib.Core.Bool.{Bool, true, false, cond}
use mathlib.Core.List.Memᴰ
use mathlib.Core.List.{List, [], ◌∷◌, ◌++◌, map, append-nil, append_assoc, append_cancel_left, Memᴰ}
use mathlib.Core.Logic.{◌⊎◌, inl, inr, ⊎_elim}
use Prim.Native.Nat.{ℕ, ◌+◌, ◌≤◌}
use native.Mathlib.Omega.{arith}
use borrow.Author.Tests.{le-leb, leb-true, leb-false}
use lib.Dec.{leb}
use lib.ListN.{length, drop, length-append, length-drop, drop_of_length-le}
use Rattle.leaves.specs.Bits.{float_of}
use Rattle.text.specs.Bytes.{stands_at}
use Rattle.text.specs.Places.{Completable, LongestBeginning, newlines}
use Rattle.text.proofs.Standing.{stands_split, split_stands, drop_behind}
use Rattle.text.proofs.Shapes.{Overlap, shorter, longer, overlap, newlines_longer, fit, fit_split, fit_complete, fit_longest}
pub use Rattle.text.proofs.Shapes.{newlines-append}
use Rattle.listing.specs.declared.Op.{Op}
use Rattle.listing.specs.declared.Op.TheVariants.{Move, Line, Quad, RatQuad, Cubic, RatCubic}
use Rattle.listing.specs.Grammar.{op_line_of, keys_of}
use Rattle.listing.specs.Reading.{read, Drawing, Fault, Finish, fields_from, with_fields, command_from, try_ops, ops, command_at}
use Rattle.listing.specs.Printing.{TextCommand, field_lines, command_lines, printed, Patterns, ProperCommand, Proper, none, more, Good, call_in, calls_in}
use Rattle.listing.proofs.CommandLaws.{fields_drawn, fields_fault}
use Rattle.listing.proofs.ShapeLaws.{field_shapes, plain_keys_lem, row_reads, RowAt, there, missing, row_at, row_once, op_once, op_newlines, shape_of, command_fits, CommandText, shape_command, OpLineAt, op_line_at, op_line_newlines, command_newlines}

-- ---- commands one after another
pub printed-append : (cs ds : List TextCommand) → printed (cs ++ ds) ≡ printed cs ++ printed ds
unfolding printed
printed-append [] ds = refl
printed-append (c ∷ cs) ds = ap (λ (l : List ℕ). command_lines c ++ l) (printed-append cs ds) ∙ sym (append_assoc (command_lines c) (printed cs) (printed ds))

pub calls_in-append : (cs ds : List TextCommand) → calls_in (cs ++ ds) ≡ calls_in cs ++ calls_in ds
unfolding calls_in
calls_in-append [] ds = refl
calls_in-append (c ∷ cs) ds = rw (calls_in-append cs ds)

pub proper_append : (cs ds : List TextCommand) → Proper cs → Proper ds → Proper (cs ++ ds)
proper_append [] ds none q = q
proper_append (c ∷ cs) ds (more a p) q = more a (proper_append cs ds p q)

-- ---- a command's lines are never the beginning of another's
numbers_same : (o p : Op) (ns ms r s : List ℕ) → o ≡ p → Patterns (keys_of o) ns → Patterns (keys_of p) ms
    → op_line_of o ++ (field_lines (keys_of o) ns ++ r) ≡ op_line_of p ++ (field_lines (keys_of p) ms ++ s) → (ns ≡ ms) × (r ≡ s)
numbers_same o p ns ms r s e a b h =
    row_once (rw e at a) b r s (append_cancel_left (op_line_of p) (field_lines (keys_of p) ns ++ r) (field_lines (keys_of p) ms ++ s) (rw e at h))

pub command_same : (c d : TextCommand) (r s : List ℕ) → ProperCommand c → ProperCommand d → command_lines c ++ r ≡ command_lines d ++ s → (c ≡ d) × (r ≡ s)
unfolding command_lines
command_same c d r s p q h =
    let rowC = field_lines (keys_of c.op) c.numbers in
    let rowD = field_lines (keys_of d.op) d.numbers in
    let k : op_line_of c.op ++ (rowC ++ r) ≡ op_line_of d.op ++ (rowD ++ s) =
    sym (append_assoc (op_line_of c.op) rowC r) ∙ h ∙ append_assoc (op_line_of d.op) rowD s in
    let e : c.op ≡ d.op = op_once c.op d.op (rowC ++ r) (rowD ++ s) k in
    let n : (c.numbers ≡ d.numbers) × (r ≡ s) = numbers_same c.op d.op c.numbers d.numbers r s e p q k in
    ((λ i. record { op = e i; numbers = n.0 i }), n.1)

command_some : (c : TextCommand) (r : List ℕ) → ProperCommand c → command_lines c ++ r ≡ [] → ⊥
unfolding newlines
command_some c r p h = omega (arith, command_newlines c p, newlines-append (command_lines c) r, ap newlines h)

pub printed_same : (cs ds : List TextCommand) → Proper cs → Proper ds → printed cs ≡ printed ds → cs ≡ ds
unfolding printed
printed_same [] [] p q h = refl
printed_same [] (d ∷ ds) p (more a q) h = absurd (command_some d (printed ds) a (sym h))
printed_same (c ∷ cs) [] (more a p) q h = absurd (command_some c (printed cs) a h)
printed_same (c ∷ cs) (d ∷ ds) (more a p) (more b q) h =
    let same : (c ≡ d) × (printed cs ≡ printed ds) = command_same c d (printed cs) (printed ds) a b h in
    let later : cs ≡ ds = printed_same cs ds p q same.1 in
    λ i. same.0 i ∷ later i

-- ---- a good text after commands
good_behind : (c : TextCommand) (rest : List ℕ) (ds : List TextCommand) → ProperCommand c → Proper ds → command_lines c ++ rest ≡ printed ds → Good rest
unfolding printed
good_behind c rest [] a none h = absurd (command_some c rest a h)
good_behind c rest (d ∷ ds) a (more b q) h = record { commands = ds; proper = q; print = (command_same c d rest (printed ds) a b h).1 }

pub good_after : (cs : List TextCommand) (rest : List ℕ) → Proper cs → Good (printed cs ++ rest) → Good rest
unfolding printed
good_after [] rest p g = g
good_after (c ∷ cs) rest (more a p) g =
    good_after cs rest p (good_behind c (printed cs ++ rest) g.commands a g.proper (sym (append_assoc (command_lines c) (printed cs) rest) ∙ g.print))

pub good_before : (cs : List TextCommand) (rest : List ℕ) → Proper cs → Good rest → Good (printed cs ++ rest)
good_before cs rest p g =
    record {
      commands = cs ++ g.commands;
      proper = proper_append cs g.commands p g.proper;
      print = ap (λ (l : List ℕ). printed cs ++ l) g.print ∙ sym (printed-append cs g.commands);
    }

pub longest_after : (cs : List TextCommand) (rest beginning : List ℕ) → Proper cs → LongestBeginning Good rest beginning
    → LongestBeginning Good (printed cs ++ rest) (printed cs ++ beginning)
longest_after cs rest beginning p l =
    record {
      rest = l.rest;
      split = ap (λ (s : List ℕ). printed cs ++ s) l.split ∙ sym (append_assoc (printed cs) beginning l.rest);
      completable =
          record {
            ending = l.completable.ending;
            good =
                rw (append_assoc (printed cs) beginning l.completable.ending)
                (good_before cs (beginning ++ l.completable.ending) p l.completable.good);
          };
      longest = λ other r h k. longest other r k (overlap (printed cs) rest other r h);
    }
  where
    longest : (other r : List ℕ) → Completable Good other → Overlap (printed cs) rest other r → length other ≤ length (printed cs ++ beginning)
    longest other r k (longer between e f) = omega (arith, length-append (printed cs) beginning, length-append other between, ap length e)
    longest other r k (shorter between e f) =
        let g : Good (printed cs ++ (between ++ k.ending)) = rw (← append_assoc (printed cs) between k.ending, ← e) k.good in
        let c : Completable Good between = record { ending = k.ending; good = good_after cs (between ++ k.ending) p g } in
        omega (arith, length-append (printed cs) beginning, length-append (printed cs) between, ap length e, l.longest between r f c)

-- ---- what is read at a place
pub command_finish : (text : List ℕ) (at line : ℕ) → drop at text ≡ [] → command_at text at line ≡ Finish
unfolding command_at
command_finish text at line h = rw (le-leb (length text) at (omega (arith, length-drop at text, ap length h)))

command_on : (text : List ℕ) (at line : ℕ) → (drop at text ≡ [] → ⊥) → command_at text at line ≡ try_ops text at line ops
unfolding command_at
command_on text at line h = go (leb (length text) at) refl
  where
    go : (t : Bool) → leb (length text) at ≡ t → cond t Finish (try_ops text at line ops) ≡ try_ops text at line ops
    go true e = absurd (h (drop_of_length-le text (leb-true (length text) at e)))
    go false e = refl

module _ (text : List ℕ) (at line : ℕ) where
  op_stands : (o op : Op) (rest : List ℕ) → drop at text ≡ op_line_of op ++ rest → stands_at text at (op_line_of o) ≡ true → o ≡ op
  op_stands o op rest h e = op_once o op (drop (length (op_line_of o)) (drop at text)) rest (sym (stands_split text at (op_line_of o) e) ∙ h)

  tries_op : (op : Op) (rest : List ℕ) → drop at text ≡ op_line_of op ++ rest → (os : List Op) → Memᴰ op os
      → try_ops text at line os ≡ command_from text at line op
  unfolding try_ops
  tries_op op rest h [] m = elim m [ ]
  tries_op op rest h (o ∷ os) m = go (stands_at text at (op_line_of o)) refl (tries_op op rest h os) (Memᴰ.cases_cons m)
    where
      go : (t : Bool) → stands_at text at (op_line_of o) ≡ t → (Memᴰ op os → try_ops text at line os ≡ command_from text at line op)
          → (op ≡ o) ⊎ Memᴰ op os → cond t (command_from text at line o) (try_ops text at line os) ≡ command_from text at line op
      go true e later k = ap (command_from text at line) (op_stands o op rest h e)
      go false e later (inl same) =
          let f : stands_at text at (op_line_of o) ≡ true =
          ap (λ (q : Op). stands_at text at (op_line_of q)) (sym same) ∙ split_stands text at (op_line_of op) rest h in
          absurd (let z : ◌≡◌ {A = ℕ} 0 1 = cc in omega arith)
      go false e later (inr k) = later k

  tries_none : ((o : Op) (rest : List ℕ) → drop at text ≡ op_line_of o ++ rest → ⊥) → (os : List Op) → try_ops text at line os ≡ Fault line
  unfolding try_ops
  tries_none h [] = refl
  tries_none h (o ∷ os) = go (stands_at text at (op_line_of o)) refl (tries_none h os)
    where
      go : (t : Bool) → stands_at text at (op_line_of o) ≡ t → try_ops text at line os ≡ Fault line
          → cond t (command_from text at line o) (try_ops text at line os) ≡ Fault line
      go true e later = absurd (h o (drop (length (op_line_of o)) (drop at text)) (stands_split text at (op_line_of o) e))
      go false e later = later

in_ops : (op : Op) → Memᴰ op ops
in_ops Move = Memᴰ.head refl
in_ops Line = Memᴰ.tail (Memᴰ.head refl)
in_ops Quad = Memᴰ.tail (Memᴰ.tail (Memᴰ.head refl))
in_ops RatQuad = Memᴰ.tail (Memᴰ.tail (Memᴰ.tail (Memᴰ.head refl)))
in_ops Cubic = Memᴰ.tail (Memᴰ.tail (Memᴰ.tail (Memᴰ.tail (Memᴰ.head refl))))
in_ops RatCubic = Memᴰ.tail (Memᴰ.tail (Memᴰ.tail (Memᴰ.tail (Memᴰ.tail (Memᴰ.head refl)))))

-- after a whole op line, the command is its fields
command_is : (text : List ℕ) (at line : ℕ) (op : Op) (rest : List ℕ) → drop at text ≡ op_line_of op ++ rest
    → command_at text at line ≡ with_fields op (fields_from text (at + length (op_line_of op)) (line + 1) [] (keys_of op))
unfolding command_from newlines
command_is text at line op rest h =
    let some : drop at text ≡ [] → ⊥ = λ e. omega (arith, op_newlines op, newlines-append (op_line_of op) rest, ap newlines (sym h ∙ e)) in
    command_on text at line some ∙ tries_op text at line op rest h ops (in_ops op)

pub command_reads : (text : List ℕ) (at line : ℕ) (c : TextCommand) (rest : List ℕ) → ProperCommand c → drop at text ≡ command_lines c ++ rest
    → command_at text at line ≡ Drawing (call_in c) (at + length (command_lines c)) (line + newlines (command_lines c))
unfolding command_lines
command_reads text at line c rest p h =
    let first = op_line_of c.op in
    let row = field_lines (keys_of c.op) c.numbers in
    let split : drop at text ≡ first ++ (row ++ rest) = h ∙ append_assoc first row rest in
    let fields = fields_from text (at + length first) (line + 1) [] (keys_of c.op) in
    let values = map float_of c.numbers in
    let end = at + length first + length row in
    let last = line + 1 + length (keys_of c.op) in
    let got : fields ≡ read values end last =
    row_reads p text (at + length first) (line + 1) [] rest (drop_behind text at first (row ++ rest) split) in
    let here : at + length (first ++ row) ≡ end = omega (arith, length-append first row) in
    let counted : line + newlines (first ++ row) ≡ last = omega (arith, command_newlines c p) in
    command_is text at line c.op (row ++ rest) split
    ∙ sym (fields_drawn c.op values end (at + length (first ++ row)) last (line + newlines (first ++ row)) fields here counted (sym got))

-- ---- where the reading stops
-- Let no whole command begin the text. A good text that begins as this one does then goes on inside its first command, so it is right as far as it
-- fits that command's shape; and whatever fits a beginning of a shape can be completed. So the longest beginning is that of the op whose shape fits
-- furthest. If its op line is not whole the beginning has no newline, and no other op line is whole, since that would fit further; otherwise its op
-- is the one read, and the newlines are its whole lines.

-- the op at which a count is largest
best_of : (f : Op → ℕ) (o : Op) (os : List Op) → (m : Op) × ((p : Op) → Memᴰ p (o ∷ os) → f p ≤ f m)
best_of f o [] = (o, λ p k. let e : f p ≡ f o = ap f (Memᴰ.eq_of_singleton k) in omega arith)
best_of f o (q ∷ os) = let later = best_of f q os in go later.0 later.1 (leb (f o) (f later.0)) refl
  where
    first : (p m : Op) → f o ≤ f m → p ≡ o → f p ≤ f m
    first p m l e = omega (arith, ap f e)

    go : (m : Op) → ((p : Op) → Memᴰ p (q ∷ os) → f p ≤ f m) → (t : Bool) → leb (f o) (f m) ≡ t
        → (m : Op) × ((p : Op) → Memᴰ p (o ∷ q ∷ os) → f p ≤ f m)
    go m below true e = (m, λ p k. ⊎_elim (first p m (leb-true (f o) (f m) e)) (below p) (Memᴰ.cases_cons k))
    go m below false e = (o, λ p k. ⊎_elim (first p o (omega arith)) (λ j. omega (arith, below p j, leb-false (f o) (f m) e)) (Memᴰ.cases_cons k))

best : (f : Op → ℕ) → (m : Op) × ((p : Op) → f p ≤ f m)
best f = let r = best_of f Move (Line ∷ Quad ∷ RatQuad ∷ Cubic ∷ RatCubic ∷ []) in (r.0, λ p. r.1 p (in_ops p))

-- no shape fits further than this op's
abbrev Widest : List ℕ → Op → Type 0
Widest text op = (o : Op) → length (fit (shape_of o) text) ≤ length (fit (shape_of op) text)

-- no whole command begins the text
abbrev pub NoneWhole : List ℕ → Type 0
NoneWhole text = (c : TextCommand) (rest : List ℕ) → ProperCommand c → text ≡ command_lines c ++ rest → ⊥

module _ (text : List ℕ) (op : Op) (widest : Widest text op) (none_whole : NoneWhole text) where
  no_longer : (other rest : List ℕ) → text ≡ other ++ rest → (ending : List ℕ) (ds : List TextCommand) → Proper ds → other ++ ending ≡ printed ds
      → length other ≤ length (fit (shape_of op) text)
  unfolding printed
  no_longer other rest h ending [] none e = omega (arith, length-append other ending, ap length e)
  no_longer other rest h ending (d ∷ ds) (more a q) e = go (overlap (command_lines d) (printed ds) other ending (sym e))
    where
      go : Overlap (command_lines d) (printed ds) other ending → length other ≤ length (fit (shape_of op) text)
      go (shorter between f g) =
          absurd (none_whole d (between ++ rest) a (h ∙ ap (λ (l : List ℕ). l ++ rest) f ∙ append_assoc (command_lines d) between rest))
      go (longer between f g) =
          let l : length other ≤ length (fit (shape_of d.op) (other ++ rest)) =
          fit_longest (shape_of d.op) other between rest (rw f at (command_fits d a)) in
          let w : length (fit (shape_of d.op) text) ≤ length (fit (shape_of op) text) = widest d.op in
          let s : length (fit (shape_of d.op) text) ≡ length (fit (shape_of d.op) (other ++ rest)) =
          ap (λ (t : List ℕ). length (fit (shape_of d.op) t)) h in
          omega arith

  fit_completes : Completable Good (fit (shape_of op) text)
  unfolding printed
  fit_completes =
      let r = fit_complete (shape_of op) text in
      let c : CommandText op (fit (shape_of op) text ++ r.0) = shape_command op (fit (shape_of op) text ++ r.0) r.1 in
      let d : TextCommand = record { op = op; numbers = c.numbers } in
      record { ending = r.0; good = record { commands = d ∷ []; proper = more c.proper none; print = c.text ∙ sym (append-nil (command_lines d)) } }

  fault_longest : LongestBeginning Good text (fit (shape_of op) text)
  fault_longest =
      record {
        rest = (fit_split (shape_of op) text).0;
        split = (fit_split (shape_of op) text).1;
        completable = fit_completes;
        longest = λ other rest h k. no_longer other rest h k.ending k.good.commands k.good.proper k.good.print;
      }

  not_good : (text ≡ [] → ⊥) → (ds : List TextCommand) → Proper ds → text ≡ printed ds → ⊥
  unfolding printed
  not_good some [] none h = some h
  not_good some (d ∷ ds) (more a q) h = none_whole d (printed ds) a h

-- if the widest fit has no newline, no op line is whole
no_op_line : (text : List ℕ) (op : Op) → Widest text op → newlines (fit (shape_of op) text) ≡ 0
    → (o : Op) (rest : List ℕ) → text ≡ op_line_of o ++ rest → ⊥
no_op_line text op widest z o rest h =
    let a = fit_split (shape_of o) text in
    let b = fit_split (shape_of op) text in
    omega (
      arith,
      newlines_longer (fit (shape_of o) text) (fit (shape_of op) text) a.0 b.0 (sym a.1 ∙ b.1) (widest o),
      op_line_newlines o text rest h,
    )

-- a fault: no whole command begins here, and its line is where the longest good beginning ends
pub record Broken (text : List ℕ) (at line : ℕ) : Type 0 where
  pub told : ℕ
  pub beginning : List ℕ
  pub reads : command_at text at line ≡ Fault told
  pub longest : LongestBeginning Good (drop at text) beginning
  pub counted : told ≡ line + newlines beginning
  pub some : drop at text ≡ [] → ⊥
  pub bad : Good (drop at text) → ⊥
  pub none_whole : NoneWhole (drop at text)

pub data Stands (text : List ℕ) (at line : ℕ) : Type 0 where
  nothing : drop at text ≡ [] → Stands text at line
  whole : (c : TextCommand) (rest : List ℕ) → ProperCommand c → drop at text ≡ command_lines c ++ rest → Stands text at line
  broken : Broken text at line → Stands text at line

module _ (text : List ℕ) (at line : ℕ) (some : drop at text ≡ [] → ⊥) (op : Op) (widest : Widest (drop at text) op) where
  fault_at : (l : ℕ) → command_at text at line ≡ Fault l → l ≡ line + newlines (fit (shape_of op) (drop at text)) → Broken text at line
  fault_at l h e =
      let none_whole : NoneWhole (drop at text) =
      λ c rest p split. let r = command_reads text at line c rest p split in let z : ◌≡◌ {A = ℕ} 0 1 = cc in omega arith in
      record {
        told = l;
        beginning = fit (shape_of op) (drop at text);
        reads = h;
        longest = fault_longest (drop at text) op widest none_whole;
        counted = e;
        some = some;
        bad = λ g. not_good (drop at text) op widest none_whole some g.commands g.proper g.print;
        none_whole = none_whole;
      }

  row_stands : (rest : List ℕ) → drop at text ≡ op_line_of op ++ rest → RowAt text (at + length (op_line_of op)) (line + 1) [] (keys_of op) → Stands text at line
  unfolding command_lines
  row_stands rest h (there numbers later p split) =
      whole (record { op = op; numbers = numbers }) later p
      (h
      ∙ ap (λ (l : List ℕ). op_line_of op ++ l) (sym (drop_behind text at (op_line_of op) rest h) ∙ split)
      ∙ sym (append_assoc (op_line_of op) (field_lines (keys_of op) numbers) later))
  row_stands rest h (missing l e c) =
      let fields = fields_from text (at + length (op_line_of op)) (line + 1) [] (keys_of op) in
      let shapes = field_shapes (keys_of op) in
      let same : newlines (fit shapes (drop (at + length (op_line_of op)) text)) ≡ newlines (fit shapes rest) =
      ap (λ (r : List ℕ). newlines (fit shapes r)) (drop_behind text at (op_line_of op) rest h) in
      broken
      (fault_at l (command_is text at line op rest h ∙ sym (fields_fault op l fields (sym e))) (omega (arith, op_line_newlines op (drop at text) rest h)))

  op_stands_at : OpLineAt op (drop at text) → Stands text at line
  op_stands_at (there rest h) = row_stands rest h (row_at text (at + length (op_line_of op)) (line + 1) [] (keys_of op) (plain_keys_lem op))
  op_stands_at (missing z) =
      broken (fault_at line (command_on text at line some ∙ tries_none text at line (no_op_line (drop at text) op widest z) ops) (omega arith))

pub stands : (text : List ℕ) (at line : ℕ) → Stands text at line
stands text at line = go (drop at text) refl
  where
    go : (rest : List ℕ) → drop at text ≡ rest → Stands text at line
    go [] h = nothing h
    go (b ∷ rest) h =
        let w = best (λ (o : Op). length (fit (shape_of o) (drop at text))) in
        let some : drop at text ≡ [] → ⊥ = λ e. omega (arith, ap length (sym h ∙ e)) in
        op_stands_at text at line some w.0 w.1 (op_line_at w.0 (drop at text))
