-- Laws of one command: its fields make its call, the first op line that matches is its own, and what follows comes after it. Assumes nothing.
use mathlib.Core.Path.{◌≡◌, refl, sym, ap, ◌∙◌}
use mathlib.Core.Bool.{Bool, true, false, cond}
use mathlib.Core.List.{List, [], ◌∷◌}
use mathlib.Core.Logic.{◌⊎◌, inl, inr, ⊎_elim}
use Prim.Native.Nat.{ℕ, ◌+◌, ◌≤◌, ◌<◌}
use native.Mathlib.Omega.{arith}
use lib.Ieee.{Float}
use lib.ListN.{length, length-map}
use lib.Dec.{lit≤}
use borrow.Author.Tests.{lt-leb}
use denote.Bor.{Bor}
use Rattle.text.specs.Bytes.{stands_at}
use Rattle.text.proofs.Standing.{stands_inside}
use Rattle.listing.specs.declared.Op.{Op}
use Rattle.listing.specs.declared.Op.TheVariants.{Move, Line, Quad, RatQuad, Cubic, RatCubic}
use Rattle.std.specs.Prelude.{Option, Some, None, Result, Ok, Err}
use Rattle.std.specs.Result.{IsErrAnd, MatchResult}
use Rattle.std.proofs.lemmas.Result.{err_from_is_err_and}
use Rattle.std.specs.Option.{ok_or}
use Rattle.listing.specs.Grammar.{op_line_of, quad_keys, cubic_keys, keys_of, key_texts, call_of}
use Rattle.listing.specs.Reading.{Placed, Fields, read, wrong, Drawing, Fault, with_fields, fields_from, command_from, ops, try_ops, op_at_of, command_at}

-- ---- the call of the fields
pub fields_fault : (op : Op) (l : ℕ) (f : Fields) → wrong l ≡ f → Fault l ≡ with_fields op f
unfolding with_fields
fields_fault op l f h = ap (with_fields op) h

pub fields_drawn : (op : Op) (values : List Float) (a a' l l' : ℕ) (f : Fields) → a' ≡ a → l' ≡ l → read values a l ≡ f → Drawing (call_of op values) a' l' ≡ with_fields op f
unfolding with_fields
fields_drawn op values a a' l l' f e i h =
    ap (λ (m : ℕ). Drawing (call_of op values) m l') e ∙ ap (λ (m : ℕ). Drawing (call_of op values) a m) i ∙ ap (with_fields op) h

-- ---- the keys of an op: no more than eight
keys_few : (op : Op) → length (keys_of op) ≤ 8
unfolding keys_of quad_keys cubic_keys
keys_few Move = lit≤ tt
keys_few Line = lit≤ tt
keys_few Quad = lit≤ tt
keys_few RatQuad = lit≤ tt
keys_few Cubic = lit≤ tt
keys_few RatCubic = lit≤ tt

pub at_most_eight : (op : Op) (keys : List (Bor (List ℕ))) → key_texts keys ≡ keys_of op → length keys ≤ 8
at_most_eight op keys e = omega (arith, sym (length-map keys (λ k. k.now)) ∙ ap length e, keys_few op)

-- ---- an option taken as a result, an error turned into another, and an error passed on
module _ {A E F : Type 0} (P : E → F → Type 0) (o : Result A E) (r : Result A F) (h : MatchResult o (λ x. r ≡ Ok x) (λ e. IsErrAnd r (λ f. P e f))) where
  pub ok_of_mapped : (v : A) → r ≡ Ok v → o ≡ Ok v
  ok_of_mapped v q = go o h
    where
      go : (p : Result A E) → MatchResult p (λ x. r ≡ Ok x) (λ e. IsErrAnd r (λ f. P e f)) → p ≡ Ok v
      go (Ok u) k = cc
      go (Err e) k = absurd (let p = err_from_is_err_and r k in cc)

  pub err_of_mapped : (g : E → F) → ((e : E) (f : F) → P e f → f ≡ g e) → (f : F) → r ≡ Err f → (e : E) × (o ≡ Err e) × (f ≡ g e)
  err_of_mapped g is f q = go o h
    where
      go : (p : Result A E) → MatchResult p (λ x. r ≡ Ok x) (λ e. IsErrAnd r (λ f. P e f)) → (e : E) × (p ≡ Err e) × (f ≡ g e)
      go (Ok u) k = absurd (cc)
      go (Err e) k =
          let p = err_from_is_err_and r k in
          let s : p.0 ≡ f = cc in
          (e, refl, sym s ∙ is e p.0 p.2)

pub passed_to : {T D E : Type 0} (d : D) (f : D → E) (r : Result T E) → IsErrAnd r (λ y. y ≡ f d) → r ≡ Err (f d)
passed_to d f r h = let p = err_from_is_err_and r h in p.1 ∙ ap Err p.2

pub passed_on : {T E : Type 0} (r : Result T E) (e : E) → IsErrAnd r (λ y. y ≡ e) → r ≡ Err e
passed_on r e h = let p = err_from_is_err_and r h in p.1 ∙ ap Err p.2

module _ {A E : Type 0} (o : Option A) (e : E) where
  pub some_of_ok : (v : A) → ok_or o e ≡ Ok v → o ≡ Some v
  some_of_ok v h = go o h
    where
      go : (p : Option A) → ok_or p e ≡ Ok v → p ≡ Some v
      go (Some u) k = cc
      go None k = absurd (cc)

  pub none_of_err : (f : E) → ok_or o e ≡ Err f → (o ≡ None) × (f ≡ e)
  none_of_err f h = go o h
    where
      go : (p : Option A) → ok_or p e ≡ Err f → (p ≡ None) × (f ≡ e)
      go (Some u) k = absurd (cc)
      go None k = (refl, cc)

-- ---- the op line
op_split : (stands : Bool) (o op : Op) (rest : Option Op) → cond stands (Some o) rest ≡ Some op → ((stands ≡ true) × (o ≡ op)) ⊎ ((stands ≡ false) × (rest ≡ Some op))
op_split true o op rest h = inl (refl, cc)
op_split false o op rest h = inr (refl, h)

op_missing : (stands : Bool) (o : Op) (rest : Option Op) → cond stands (Some o) rest ≡ None → (stands ≡ false) × (rest ≡ None)
op_missing true o rest h = absurd (let z : ◌≡◌ {A = ℕ} 0 1 = cc in omega arith)
op_missing false o rest h = (refl, h)

pub op_length : (op : Op) → (n : ℕ) × (length (op_line_of op) ≡ n) × (0 < n)
unfolding op_line_of
op_length Move = (8, refl, omega arith)
op_length Line = (8, refl, omega arith)
op_length Quad = (8, refl, omega arith)
op_length RatQuad = (9, refl, omega arith)
op_length Cubic = (9, refl, omega arith)
op_length RatCubic = (10, refl, omega arith)

module _ (text : List ℕ) (at line : ℕ) where
  pub try_wrong : (os : List Op) → op_at_of text at os ≡ None → Fault line ≡ try_ops text at line os
  unfolding try_ops
  try_wrong [] h = refl
  try_wrong (o ∷ os) h =
      let e : (stands_at text at (op_line_of o) ≡ false) × (op_at_of text at os ≡ None) = op_missing (stands_at text at (op_line_of o)) o (op_at_of text at os) h in
      try_wrong os e.1 ∙ rw e.0

  pub try_found : (os : List Op) (op : Op) → op_at_of text at os ≡ Some op → (stands_at text at (op_line_of op) ≡ true) × (command_from text at line op ≡ try_ops text at line os)
  unfolding try_ops
  try_found [] op h = absurd (let z : ◌≡◌ {A = ℕ} 0 1 = cc in omega arith)
  try_found (o ∷ os) op h =
      ⊎_elim
      (λ w. (ap (λ (q : Op). stands_at text at (op_line_of q)) (sym w.1) ∙ w.0, ap (command_from text at line) (sym w.1) ∙ rw w.0))
      (λ w. ((try_found os op w.1).0, (try_found os op w.1).1 ∙ rw w.0))
      (op_split (stands_at text at (op_line_of o)) o op (op_at_of text at os) h)

  pub behind_op : (op : Op) (found : List ℕ) → found ≡ op_line_of op → Placed text at line → stands_at text at (op_line_of op) ≡ true → Placed text (at + length found) (line + 1)
  behind_op op found e p h =
      let n : (n : ℕ) × (length (op_line_of op) ≡ n) × (0 < n) = op_length op in
      let i : at + length (op_line_of op) ≤ length text = stands_inside text at (op_line_of op) (omega arith) h in
      let k : length found ≡ length (op_line_of op) = ap length e in
      record { inside = omega arith; counted = omega arith }

  -- the command of the op that is found, from its fields
  pub of_op : (op : Op) (found : List ℕ) → op_at_of text at ops ≡ Some op → found ≡ op_line_of op → at < length text
      → with_fields op (fields_from text (at + length found) (line + 1) [] (keys_of op)) ≡ command_at text at line
  unfolding command_at command_from
  of_op op found h e inside =
      ap (λ (l : List ℕ). with_fields op (fields_from text (at + length l) (line + 1) [] (keys_of op))) e
      ∙ (try_found ops op h).1
      ∙ rw (lt-leb (length text) at inside)

  pub no_op : op_at_of text at ops ≡ None → at < length text → Fault line ≡ command_at text at line
  unfolding command_at
  no_op h inside = try_wrong ops h ∙ rw (lt-leb (length text) at inside)
