-- Laws of fields: when the text has one, what it holds and where it ends; a row of fields is read part by part, and ends inside the text. Assumes nothing.
use mathlib.Core.Path.{◌≡◌, refl, sym, ap, ◌∙◌}
use mathlib.Core.Bool.{Bool, true, false, ◌&&◌, cond, and-false}
use mathlib.Core.List.{List, [], ◌∷◌, ◌++◌, append-nil, append_assoc}
use Prim.Native.Nat.{ℕ, zero, suc, ◌+◌, ◌≤◌, ◌<◌}
use native.Mathlib.Numerals.{add-one}
use native.Mathlib.Omega.{arith}
use lib.Ieee.{Float}
use lib.ListN.{length, length-map, get_or, set, take, drop}
use denote.Bor.{Bor}
use Rattle.std.proofs.lemmas.List.{drop_all, take_more_set}
use mathlib.Mathlib.Data.Bool.Basic.{and_elim_right}
use Rattle.leaves.specs.Bits.{float_of}
use Rattle.text.specs.Bytes.{stands_at}
use Rattle.text.specs.Hex.{hex_stands_at, hex_number_at, hex_at_of}
use Rattle.text.proofs.Standing.{stands_append, stands_inside}
use Rattle.std.specs.Prelude.{Some, None}
use Rattle.listing.specs.Grammar.{key_texts}
use Rattle.listing.specs.Reading.{Placed, field_stands_at, field_value_at, field_at_of, field_width, Fields, read, wrong, fields_from}

-- ---- one field
module _ {A : Type 0} where
  there : (b : Bool) (u v : A) → cond b (Some u) None ≡ Some v → (b ≡ true) × (u ≡ v)
  there true u v h = (refl, cc)
  there false u v h = absurd (cc)

  missing : (b : Bool) (u : A) → cond b (Some u) None ≡ None → b ≡ false
  missing true u h = absurd (cc)
  missing false u h = refl

module _ (text : List ℕ) (at : ℕ) (key : List ℕ) where
  abbrev keyed : Bool
  keyed = stands_at text at key

  abbrev equals : Bool
  equals = stands_at text (at + length key) (0x3d ∷ [])

  abbrev ended : Bool
  ended = stands_at text (at + length key + 9) (0x0a ∷ [])

  parts : field_stands_at text at key ≡ (keyed && equals && hex_stands_at text (at + length key + 1) && ended)
  unfolding field_stands_at
  parts = rw (stands_append text at key (0x3d ∷ []))

  pub no_key : keyed ≡ false → None ≡ field_at_of text at key
  unfolding field_at_of
  no_key h = rw (parts, h)

  pub no_equals : equals ≡ false → None ≡ field_at_of text at key
  unfolding field_at_of
  no_equals h = rw (parts, h, and-false)

  pub no_number : hex_at_of text (at + length key + 1) ≡ None → None ≡ field_at_of text at key
  unfolding field_at_of hex_at_of
  no_number h =
      let e : hex_stands_at text (at + length key + 1) ≡ false = missing (hex_stands_at text (at + length key + 1)) (hex_number_at text (at + length key + 1)) h in
      rw (parts, e, and-false)

  pub no_end : ended ≡ false → None ≡ field_at_of text at key
  unfolding field_at_of
  no_end h = rw (parts, h, and-false)

  pub all_there : (n : ℕ) → keyed ≡ true → equals ≡ true → hex_at_of text (at + length key + 1) ≡ Some n → ended ≡ true → Some (float_of n) ≡ field_at_of text at key
  unfolding field_at_of hex_at_of field_value_at
  all_there n k q h l =
      let e : (hex_stands_at text (at + length key + 1) ≡ true) × (hex_number_at text (at + length key + 1) ≡ n) = there (hex_stands_at text (at + length key + 1)) (hex_number_at text (at + length key + 1)) n h in
      rw (parts, k, q, e.0, l, e.1)

  field_stands : (v : Float) → field_at_of text at key ≡ Some v → (field_stands_at text at key ≡ true) × (field_value_at text at key ≡ v)
  unfolding field_at_of
  field_stands v h = there (field_stands_at text at key) (field_value_at text at key) v h

  stands_to_end : field_stands_at text at key ≡ true → at + length key + 10 ≤ length text
  stands_to_end h =
      let e : ended ≡ true = and_elim_right (keyed && equals && hex_stands_at text (at + length key + 1)) ended (sym parts ∙ h) in
      omega (arith, stands_inside text (at + length key + 9) (0x0a ∷ []) (omega arith) e)

  pub field_inside : (v : Float) → field_at_of text at key ≡ Some v → at + length key + 10 ≤ length text
  field_inside v h = stands_to_end (field_stands v h).0

  -- ---- a field at the head of a row of them
  pub field_on : (v : Float) → field_at_of text at key ≡ Some v → (line : ℕ) (values : List Float) (keys : List (List ℕ)) → fields_from text at line values (key ∷ keys) ≡ fields_from text (at + field_width key) (line + 1) (values ++ (v ∷ [])) keys
  unfolding fields_from
  field_on v h line values keys = rw ((field_stands v h).0, (field_stands v h).1)

  pub field_off : field_at_of text at key ≡ None → (line : ℕ) (values : List Float) (keys : List (List ℕ)) → fields_from text at line values (key ∷ keys) ≡ wrong line
  unfolding fields_from field_at_of
  field_off h line values keys = rw (missing (field_stands_at text at key) (field_value_at text at key) h)

-- ---- rows of fields
abbrev pub before : List Float → Fields → Fields
before values (read more at line) = read (values ++ more) at line
before values (wrong line) = wrong line

abbrev pub joined : List ℕ → Fields → List (List ℕ) → Fields
joined text (read values at line) keys = before values (fields_from text at line [] keys)
joined text (wrong line) keys = wrong line

before_cond : (values : List Float) (b : Bool) (f g : Fields) → before values (cond b f g) ≡ cond b (before values f) (before values g)
before_cond values true f g = refl
before_cond values false f g = refl

joined_cond : (text : List ℕ) (keys : List (List ℕ)) (b : Bool) (f g : Fields) → joined text (cond b f g) keys ≡ cond b (joined text f keys) (joined text g keys)
joined_cond text keys true f g = refl
joined_cond text keys false f g = refl

fields_before : (text : List ℕ) (at line : ℕ) (values more : List Float) (keys : List (List ℕ)) → fields_from text at line (values ++ more) keys ≡ before values (fields_from text at line more keys)
unfolding fields_from
fields_before text at line values more [] = refl
fields_before text at line values more (key ∷ keys) =
    let v = field_value_at text at key in
    ap (λ (l : List Float). cond (field_stands_at text at key) (fields_from text (at + field_width key) (line + 1) l keys) (wrong line)) (append_assoc values more (v ∷ []))
    ∙ ap (λ (f : Fields). cond (field_stands_at text at key) f (wrong line)) (fields_before text (at + field_width key) (line + 1) values (more ++ (v ∷ [])) keys)
    ∙ sym (before_cond values (field_stands_at text at key) (fields_from text (at + field_width key) (line + 1) (more ++ (v ∷ [])) keys) (wrong line))

pub fields_append : (text : List ℕ) (at line : ℕ) (values : List Float) (keys more : List (List ℕ)) → fields_from text at line values (keys ++ more) ≡ joined text (fields_from text at line values keys) more
unfolding fields_from
fields_append text at line values [] more =
    ap (λ (l : List Float). fields_from text at line l more) (sym (append-nil values)) ∙ fields_before text at line values [] more
fields_append text at line values (key ∷ keys) more =
    let v = field_value_at text at key in
    ap (λ (f : Fields). cond (field_stands_at text at key) f (wrong line)) (fields_append text (at + field_width key) (line + 1) (values ++ (v ∷ [])) keys more)
    ∙ sym (joined_cond text more (field_stands_at text at key) (fields_from text (at + field_width key) (line + 1) (values ++ (v ∷ [])) keys) (wrong line))

-- after a row the place is inside the text again, and no earlier than its start
pub record Onward (text : List ℕ) (at at' line' : ℕ) : Type 0 where
  pub placed : Placed text at' line'
  pub onward : at ≤ at'

read_there : (b : Bool) (f : Fields) (line : ℕ) (got : List Float) (at' line' : ℕ) → cond b f (wrong line) ≡ read got at' line' → (b ≡ true) × (f ≡ read got at' line')
read_there true f line got at' line' h = (refl, h)
read_there false f line got at' line' h = absurd (let z : ◌≡◌ {A = ℕ} 0 1 = cc in omega arith)

pub fields_onward : (text : List ℕ) (at line : ℕ) (values got : List Float) (keys : List (List ℕ)) (at' line' : ℕ) → Placed text at line → fields_from text at line values keys ≡ read got at' line' → Onward text at at' line'
unfolding fields_from
fields_onward text at line values got [] at' line' p h =
    let e : at ≡ at' = cc in
    let l : line ≡ line' = cc in
    record { placed = record { inside = omega arith; counted = omega arith }; onward = omega arith }
fields_onward text at line values got (key ∷ keys) at' line' p h =
    let later = fields_from text (at + field_width key) (line + 1) (values ++ (field_value_at text at key ∷ [])) keys in
    let e : (field_stands_at text at key ≡ true) × (later ≡ read got at' line') = read_there (field_stands_at text at key) later line got at' line' h in
    let q : Placed text (at + field_width key) (line + 1) = record { inside = omega (arith, stands_to_end text at key e.0); counted = omega arith } in
    let inner : Onward text (at + field_width key) at' line' =
    fields_onward text (at + field_width key) (line + 1) (values ++ (field_value_at text at key ∷ [])) got keys at' line' q e.1 in
    record { placed = inner.placed; onward = omega arith }

-- ---- a row of fields, read one after another, with its keys in a lent list
from_key : (keys : List (Bor (List ℕ))) (i : ℕ) (none : Bor (List ℕ)) → i < length keys → drop i (key_texts keys) ≡ (get_or keys i none).now ∷ drop (suc i) (key_texts keys)
from_key [] i none h = absurd (omega arith)
from_key (k ∷ keys) zero none h = refl
from_key (k ∷ keys) (suc i) none h = from_key keys i none (omega arith)

next_key : (keys : List (Bor (List ℕ))) (i : ℕ) (none : Bor (List ℕ)) → i < length keys → drop i (key_texts keys) ≡ (get_or keys i none).now ∷ drop (i + 1) (key_texts keys)
next_key keys i none h = from_key keys i none h ∙ rw add-one

module _ (text : List ℕ) (keys : List (Bor (List ℕ))) (values : List Float) (at line i : ℕ) (none : Bor (List ℕ)) (more : i < length keys) where
  abbrev key_here : List ℕ
  key_here = (get_or keys i none).now

  pub row_off : field_at_of text at key_here ≡ None → wrong line ≡ fields_from text at line (take i values) (drop i (key_texts keys))
  row_off h =
      sym (ap (fields_from text at line (take i values)) (next_key keys i none more) ∙ field_off text at key_here h line (take i values) (drop (i + 1) (key_texts keys)))

  pub row_on : (v : Float) → i < length values → field_at_of text at key_here ≡ Some v
      → fields_from text (at + field_width key_here) (line + 1) (take (i + 1) (set values i v)) (drop (i + 1) (key_texts keys)) ≡ fields_from text at line (take i values) (drop i (key_texts keys))
  row_on v room h =
      ap (λ (vs : List Float). fields_from text (at + field_width key_here) (line + 1) vs (drop (i + 1) (key_texts keys))) (take_more_set values i v room)
      ∙ sym (ap (fields_from text at line (take i values)) (next_key keys i none more) ∙ field_on text at key_here v h line (take i values) (drop (i + 1) (key_texts keys)))

  pub row_inside : (v : Float) → field_at_of text at key_here ≡ Some v → Placed text at line → Placed text (at + field_width key_here) (line + 1)
  row_inside v h p = record { inside = omega (arith, field_inside text at key_here v h); counted = omega arith }

pub row_end : (text : List ℕ) (keys : List (Bor (List ℕ))) (values : List Float) (at line i : ℕ) → length keys ≤ i → i ≤ length keys
    → read (take (length keys) values) at line ≡ fields_from text at line (take i values) (drop i (key_texts keys))
unfolding fields_from
row_end text keys values at line i h k =
    let e : i ≡ length keys = omega arith in
    let none : drop i (key_texts keys) ≡ [] = drop_all i (key_texts keys) (omega (arith, length-map keys (λ k. k.now))) in
    ap (λ (n : ℕ). read (take n values) at line) (sym e) ∙ ap (fields_from text at line (take i values)) (sym none)

pub read_at : (values : List Float) (a a' l l' : ℕ) → a ≡ a' → l ≡ l' → read values a l ≡ read values a' l'
read_at values a a' l l' e i = cc
