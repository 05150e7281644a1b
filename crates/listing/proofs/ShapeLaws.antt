-- The shape of a field's line, a row of fields and a command: what is printed fits it, and what fits it is printed; the reader finds a line
-- exactly where the text has one of its shape. Assumes nothing.
use mathlib.Core.Path.{◌≡◌, refl, sym, ap, ◌∙◌}
use mathlib.Core.Bool.{Bool, true, false, ◌&&◌, cond, and-eq-true_iff}
use mathlib.Core.List.{List, [], ◌∷◌, ◌++◌, map, append-nil, append_assoc}
use Prim.Native.Nat.{ℕ, suc, ◌+◌, ◌-◌, ◌^◌, ◌<◌}
use native.Mathlib.Omega.{arith}
use borrow.Author.Tests.{eqb-true}
use lib.Dec.{eqb}
use lib.Ieee.{Float}
use lib.ListN.{length, take, drop, get_or, length-append}
use Rattle.leaves.specs.Bits.{float_of}
use Rattle.text.specs.Bytes.{bytes, stands_at}
use Rattle.text.specs.Hex.{hex_of, hex_stands_at, hex_number_at}
use Rattle.text.specs.Places.{newlines}
use Rattle.text.proofs.Standing.{stands_split, split_stands, drop_behind}
use Rattle.text.proofs.Hexes.{hex_digits-length, DigitsOf, NumberAt, hex_split, split_hex, split_number}
use Rattle.text.proofs.Shapes.{Class, byte, admits, Fits, none as fits-none, more as fits_more, digits, fits_append, FitsParts, fits_parts, fits_bytes}
use Rattle.text.proofs.Shapes.{bytes_fit, fits_hex, hex_fit, fit, plain, plain_newlines, LineAt, whole, part, line_at, line_newlines, newlines-append}
use Rattle.listing.specs.declared.Op.{Op}
use Rattle.listing.specs.declared.Op.TheVariants.{Move, Line, Quad, RatQuad, Cubic, RatCubic}
use Rattle.listing.specs.Grammar.{op_line_of, keys_of, quad_keys, cubic_keys}
use Rattle.listing.specs.Reading.{field_stands_at, field_value_at, field_width, read, wrong, fields_from}
use Rattle.listing.specs.Writing.{line_of}
use Rattle.listing.specs.Printing.{TextCommand, field_lines, command_lines, Patterns, none, more, ProperCommand}
use Rattle.listing.proofs.FieldLaws.{read_at}
use Rattle.listing.proofs.WritingLaws.{hex_line_length}

-- ---- one field
abbrev pub field_line : List ℕ → ℕ → List ℕ
field_line key n = line_of key (hex_of n)

-- the line as its shape has it: the key and its sign, the digits, the line end
field_parts : (key digits rest : List ℕ) → line_of key digits ++ rest ≡ (key ++ bytes "=") ++ (digits ++ (0x0a ∷ rest))
unfolding line_of
field_parts key digits rest = simp append_assoc

pub record FieldThere (rest key : List ℕ) : Type 0 where
  pub number : ℕ
  pub small : number < 2 ^ 32
  pub behind : List ℕ
  pub split : rest ≡ field_line key number ++ behind

module _ (text : List ℕ) (at : ℕ) (key : List ℕ) where
  behind_key : (rest : List ℕ) → drop at text ≡ (key ++ bytes "=") ++ rest → drop (at + length key + 1) text ≡ rest
  behind_key rest h =
      let e : at + length key + 1 ≡ at + length (key ++ bytes "=") = omega (arith, length-append key (bytes "=")) in
      ap (λ (m : ℕ). drop m text) e ∙ drop_behind text at (key ++ bytes "=") rest h

  behind_digits : (n : ℕ) (rest : List ℕ) → drop (at + length key + 1) text ≡ hex_of n ++ rest → drop (at + length key + 9) text ≡ rest
  unfolding hex_of
  behind_digits n rest h =
      let e : at + length key + 9 ≡ at + length key + 1 + length (hex_of n) = omega (arith, hex_digits-length 8 n) in
      ap (λ (m : ℕ). drop m text) e ∙ drop_behind text (at + length key + 1) (hex_of n) rest h

  field_split : field_stands_at text at key ≡ true → FieldThere (drop at text) key
  unfolding field_stands_at
  field_split h =
      let keyed = stands_at text at (key ++ bytes "=") in
      let hexed = hex_stands_at text (at + length key + 1) in
      let ends = (and-eq-true_iff (keyed && hexed) (stands_at text (at + length key + 9) (bytes "\n"))).0 h in
      let starts = (and-eq-true_iff keyed hexed).0 ends.0 in
      let r1 = drop (length (key ++ bytes "=")) (drop at text) in
      let s1 : drop at text ≡ (key ++ bytes "=") ++ r1 = stands_split text at (key ++ bytes "=") starts.0 in
      let d : NumberAt (drop (at + length key + 1) text) = hex_split text (at + length key + 1) starts.1 in
      let r3 = drop 1 (drop (at + length key + 9) text) in
      let s3 : drop (at + length key + 9) text ≡ 0x0a ∷ r3 = stands_split text (at + length key + 9) (bytes "\n") ends.1 in
      let s2 : r1 ≡ hex_of d.number ++ (0x0a ∷ r3) =
      sym (behind_key r1 s1) ∙ d.split ∙ ap (λ (l : List ℕ). hex_of d.number ++ l) (sym (behind_digits d.number d.behind d.split) ∙ s3) in
      record {
        number = d.number;
        small = d.small;
        behind = r3;
        split = s1 ∙ ap (λ (l : List ℕ). (key ++ bytes "=") ++ l) s2 ∙ sym (field_parts key (hex_of d.number) r3);
      }

  module _ (f : FieldThere (drop at text) key) where
    from_key : drop at text ≡ (key ++ bytes "=") ++ (hex_of f.number ++ (0x0a ∷ f.behind))
    from_key = f.split ∙ field_parts key (hex_of f.number) f.behind

    from_digits : drop (at + length key + 1) text ≡ hex_of f.number ++ (0x0a ∷ f.behind)
    from_digits = behind_key (hex_of f.number ++ (0x0a ∷ f.behind)) from_key

    split_field : field_stands_at text at key ≡ true
    unfolding field_stands_at
    split_field =
        rw (
          split_stands text at (key ++ bytes "=") (hex_of f.number ++ (0x0a ∷ f.behind)) from_key,
          split_hex text (at + length key + 1) f.number (0x0a ∷ f.behind) from_digits,
          split_stands text (at + length key + 9) (bytes "\n") f.behind (behind_digits f.number (0x0a ∷ f.behind) from_digits),
        )

    number_there : hex_number_at text (at + length key + 1) ≡ f.number
    number_there = split_number text (at + length key + 1) f.number (0x0a ∷ f.behind) from_digits f.small

    split_value : field_value_at text at key ≡ float_of f.number
    unfolding field_value_at
    split_value = ap float_of number_there

    behind_field : drop (at + field_width key) text ≡ f.behind
    behind_field =
        ap (λ (m : ℕ). drop (at + m) text) (sym (hex_line_length key f.number))
        ∙ drop_behind text at (field_line key f.number) f.behind f.split

field_once : (rest key : List ℕ) (f g : FieldThere rest key) → (f.number ≡ g.number) × (f.behind ≡ g.behind)
field_once rest key f g =
    (sym (number_there rest 0 key f) ∙ number_there rest 0 key g, sym (behind_field rest 0 key f) ∙ behind_field rest 0 key g)

-- ---- the shape of a field
abbrev pub field_shape : List ℕ → List Class
field_shape key = map byte (key ++ bytes "=") ++ digits 8

abbrev field_text : List ℕ → ℕ → List ℕ
field_text key n = (key ++ bytes "=") ++ hex_of n

field_text_lem : (key : List ℕ) (n : ℕ) (rest : List ℕ) → field_line key n ++ rest ≡ field_text key n ++ (0x0a ∷ rest)
unfolding line_of
field_text_lem key n rest = simp append_assoc

field_fits : (key : List ℕ) (n : ℕ) → Fits (field_shape key) (field_text key n)
field_fits key n = fits_append (fits_bytes (key ++ bytes "=")) (fits_hex n)

shape_field : (key s rest : List ℕ) → Fits (field_shape key) s → FieldThere (s ++ (0x0a ∷ rest)) key
unfolding hex_of
shape_field key s rest f =
    let parts : FitsParts (map byte (key ++ bytes "=")) (digits 8) s = fits_parts (map byte (key ++ bytes "=")) (digits 8) s f in
    let d : DigitsOf 8 parts.second = hex_fit parts.second parts.fits_second in
    let first : parts.first ≡ key ++ bytes "=" = bytes_fit (key ++ bytes "=") parts.first parts.fits_first in
    let second : parts.second ≡ hex_of d.number = d.digits in
    let whole : s ≡ parts.first ++ parts.second = parts.split in
    let same : s ≡ field_text key d.number = cc in
    record {
      number = d.number;
      small = d.small;
      behind = rest;
      split = ap (λ (l : List ℕ). l ++ (0x0a ∷ rest)) same ∙ sym (field_text_lem key d.number rest);
    }

-- the field's line is whole; or it is not, and the beginning that fits its shape has no newline
pub data FieldAt (text : List ℕ) (at : ℕ) (key : List ℕ) (later : List Class) : Type 0 where
  there : FieldThere (drop at text) key → FieldAt text at key later
  missing : field_stands_at text at key ≡ false → newlines (fit (field_shape key ++ (byte 0x0a ∷ later)) (drop at text)) ≡ 0 → FieldAt text at key later

field_at : (text : List ℕ) (at : ℕ) (key : List ℕ) (later : List Class) → plain (field_shape key) ≡ true → FieldAt text at key later
field_at text at key later h = go (line_at (field_shape key) later (drop at text) h)
  where
    stood : (t : Bool) → field_stands_at text at key ≡ t → newlines (fit (field_shape key ++ (byte 0x0a ∷ later)) (drop at text)) ≡ 0 → FieldAt text at key later
    stood true e z = there (field_split text at key e)
    stood false e z = missing e z

    go : LineAt (field_shape key) later (drop at text) → FieldAt text at key later
    go (whole s rest split f) = there (rw split (shape_field key s rest f))
    go (part z) = stood (field_stands_at text at key) refl z

field_newlines : (rest key : List ℕ) (later : List Class) → plain (field_shape key) ≡ true → (f : FieldThere rest key)
    → newlines (fit (field_shape key ++ (byte 0x0a ∷ later)) rest) ≡ suc (newlines (fit later f.behind))
field_newlines rest key later h f =
    ap (λ (l : List ℕ). newlines (fit (field_shape key ++ (byte 0x0a ∷ later)) l)) (f.split ∙ field_text_lem key f.number f.behind)
    ∙ line_newlines (field_shape key) later (field_text key f.number) f.behind h (field_fits key f.number)

-- ---- a row of fields
unfoldable pub field_shapes : List (List ℕ) → List Class
field_shapes [] = []
field_shapes (key ∷ keys) = field_shape key ++ (byte 0x0a ∷ field_shapes keys)

unfoldable pub plain_keys : List (List ℕ) → Bool
plain_keys [] = true
plain_keys (key ∷ keys) = plain (field_shape key) && plain_keys keys

pub plain_keys_lem : (op : Op) → plain_keys (keys_of op) ≡ true
unfolding plain_keys plain digits keys_of quad_keys cubic_keys
plain_keys_lem Move = refl
plain_keys_lem Line = refl
plain_keys_lem Quad = refl
plain_keys_lem RatQuad = refl
plain_keys_lem Cubic = refl
plain_keys_lem RatCubic = refl

fields_fit : {keys : List (List ℕ)} {numbers : List ℕ} → Patterns keys numbers → Fits (field_shapes keys) (field_lines keys numbers)
unfolding field_shapes field_lines admits
fields_fit none = fits-none
fields_fit (more {key = key} {keys = keys} {n = n} {numbers = numbers} small ps) =
    rw (field_text_lem key n (field_lines keys numbers)) (fits_append (field_fits key n) (fits_more refl (fields_fit ps)))

pub record RowText (keys : List (List ℕ)) (s : List ℕ) : Type 0 where
  pub numbers : List ℕ
  pub patterns : Patterns keys numbers
  pub text : s ≡ field_lines keys numbers

row_more : (key : List ℕ) (keys : List (List ℕ)) (line rest : List ℕ) → Fits (field_shape key) line → RowText keys rest
    → RowText (key ∷ keys) (line ++ (0x0a ∷ rest))
unfolding field_lines shape_field
row_more key keys line rest f r =
    let first : FieldThere (line ++ (0x0a ∷ rest)) key = shape_field key line rest f in
    record {
      numbers = first.number ∷ r.numbers;
      patterns = more first.small r.patterns;
      text = first.split ∙ ap (λ (l : List ℕ). field_line key first.number ++ l) r.text;
    }

row_line : (key : List ℕ) (keys : List (List ℕ)) (line t : List ℕ) → Fits (field_shape key) line → Fits (byte 0x0a ∷ field_shapes keys) t
    → ((u : List ℕ) → Fits (field_shapes keys) u → RowText keys u) → RowText (key ∷ keys) (line ++ t)
unfolding admits
row_line key keys line [] f x3 later = elim x3 [ ]
row_line key keys line (b ∷ rest) f (fits_more e g) later = rw (eqb-true b 0x0a e) (row_more key keys line rest f (later rest g))

shape_row : (keys : List (List ℕ)) (s : List ℕ) → Fits (field_shapes keys) s → RowText keys s
unfolding field_shapes field_lines
shape_row [] (_ ∷ _) f = elim f [ ]
shape_row [] [] fits-none = record { numbers = []; patterns = none; text = refl }
shape_row (key ∷ keys) s f =
    let parts : FitsParts (field_shape key) (byte 0x0a ∷ field_shapes keys) s = fits_parts (field_shape key) (byte 0x0a ∷ field_shapes keys) s f in
    rw parts.split (row_line key keys parts.first parts.second parts.fits_first parts.fits_second (shape_row keys))

fields_newlines : {keys : List (List ℕ)} {numbers : List ℕ} → Patterns keys numbers → plain_keys keys ≡ true → newlines (field_lines keys numbers) ≡ length keys
unfolding field_lines plain_keys newlines
fields_newlines none h = refl
fields_newlines (more {key = key} {keys = keys} {n = n} {numbers = numbers} small ps) h =
    let both = (and-eq-true_iff (plain (field_shape key)) (plain_keys keys)).0 h in
    ap newlines (field_text_lem key n (field_lines keys numbers))
    ∙ newlines-append (field_text key n) (0x0a ∷ field_lines keys numbers)
    ∙ omega (arith, plain_newlines (field_shape key) (field_text key n) both.0 (field_fits key n), fields_newlines ps both.1)

fields_step : (text : List ℕ) (at line : ℕ) (values : List Float) (key : List ℕ) (keys : List (List ℕ)) → (f : FieldThere (drop at text) key)
    → fields_from text at line values (key ∷ keys) ≡ fields_from text (at + field_width key) (line + 1) (values ++ (float_of f.number ∷ [])) keys
unfolding fields_from
fields_step text at line values key keys f = rw (split_field text at key f, split_value text at key f)

pub row_reads : {keys : List (List ℕ)} {numbers : List ℕ} → Patterns keys numbers → (text : List ℕ) (at line : ℕ) (values : List Float) (rest : List ℕ)
    → drop at text ≡ field_lines keys numbers ++ rest
    → fields_from text at line values keys ≡ read (values ++ map float_of numbers) (at + length (field_lines keys numbers)) (line + length keys)
unfolding field_lines fields_from
row_reads none text at line values rest h =
    ap (λ (v : List Float). read v at line) (sym (append-nil values)) ∙ read_at (values ++ []) at (at + 0) line (line + 0) (omega arith) (omega arith)
row_reads (more {key = key} {keys = keys} {n = n} {numbers = numbers} small ps) text at line values rest h =
    let later = field_lines keys numbers in
    let f : FieldThere (drop at text) key =
    record { number = n; small = small; behind = later ++ rest; split = h ∙ append_assoc (field_line key n) later rest } in
    let start = values ++ (float_of n ∷ []) in
    let all = values ++ (float_of n ∷ map float_of numbers) in
    let end = at + field_width key + length later in
    let same : end ≡ at + length (field_line key n ++ later) = omega (arith, hex_line_length key n, length-append (field_line key n) later) in
    fields_step text at line values key keys f
    ∙ row_reads ps text (at + field_width key) (line + 1) start rest (behind_field text at key f)
    ∙ ap (λ (v : List Float). read v end (line + 1 + length keys)) (append_assoc values (float_of n ∷ []) (map float_of numbers))
    ∙ read_at all end (at + length (field_line key n ++ later)) (line + 1 + length keys) (line + suc (length keys)) same (omega arith)

pub data RowAt (text : List ℕ) (at line : ℕ) (values : List Float) (keys : List (List ℕ)) : Type 0 where
  there : (numbers rest : List ℕ) → Patterns keys numbers → drop at text ≡ field_lines keys numbers ++ rest → RowAt text at line values keys
  missing : (l : ℕ) → fields_from text at line values keys ≡ wrong l → l ≡ line + newlines (fit (field_shapes keys) (drop at text))
      → RowAt text at line values keys

pub row_at : (text : List ℕ) (at line : ℕ) (values : List Float) (keys : List (List ℕ)) → plain_keys keys ≡ true → RowAt text at line values keys
unfolding fields_from field_lines field_shapes plain_keys
row_at text at line values [] h = there [] (drop at text) none refl
row_at text at line values (key ∷ keys) h =
    let both = (and-eq-true_iff (plain (field_shape key)) (plain_keys keys)).0 h in
    go both.0 (field_at text at key (field_shapes keys) both.0)
    (λ (v : Float). row_at text (at + field_width key) (line + 1) (values ++ (v ∷ [])) keys both.1)
  where
    on : (f : FieldThere (drop at text) key) → plain (field_shape key) ≡ true
        → RowAt text (at + field_width key) (line + 1) (values ++ (float_of f.number ∷ [])) keys → RowAt text at line values (key ∷ keys)
    on f p (there numbers rest ps split) =
        there (f.number ∷ numbers) rest (more f.small ps)
        (f.split
        ∙ ap (λ (l : List ℕ). field_line key f.number ++ l) (sym (behind_field text at key f) ∙ split)
        ∙ sym (append_assoc (field_line key f.number) (field_lines keys numbers) rest))
    on f p (missing l e c) =
        let shapes = field_shapes keys in
        let same : newlines (fit shapes (drop (at + field_width key) text)) ≡ newlines (fit shapes f.behind) =
        ap (λ (r : List ℕ). newlines (fit shapes r)) (behind_field text at key f) in
        missing l (fields_step text at line values key keys f ∙ e) (c ∙ omega (arith, same, field_newlines (drop at text) key shapes p f))

    go : plain (field_shape key) ≡ true → FieldAt text at key (field_shapes keys)
        → ((v : Float) → RowAt text (at + field_width key) (line + 1) (values ++ (v ∷ [])) keys) → RowAt text at line values (key ∷ keys)
    go p (there f) later = on f p (later (float_of f.number))
    go p (missing e z) later = missing line (rw e) (omega arith)

pub row_once : {keys : List (List ℕ)} {ns ms : List ℕ} → Patterns keys ns → Patterns keys ms → (r s : List ℕ)
    → field_lines keys ns ++ r ≡ field_lines keys ms ++ s → (ns ≡ ms) × (r ≡ s)
unfolding field_lines
row_once none none r s h = (refl, h)
row_once (more {key = key} {keys = keys} {n = n} {numbers = ns} a ps) (more {n = m} {numbers = ms} b qs) r s h =
    let l = field_line key n in
    let whole = (l ++ field_lines keys ns) ++ r in
    let f : FieldThere whole key = record { number = n; small = a; behind = field_lines keys ns ++ r; split = append_assoc l (field_lines keys ns) r } in
    let g : FieldThere whole key =
    record { number = m; small = b; behind = field_lines keys ms ++ s; split = h ∙ append_assoc (field_line key m) (field_lines keys ms) s } in
    let once : (n ≡ m) × (field_lines keys ns ++ r ≡ field_lines keys ms ++ s) = field_once whole key f g in
    let later : (ns ≡ ms) × (r ≡ s) = row_once ps qs r s once.1 in
    ((λ i. once.0 i ∷ later.0 i), later.1)

-- ---- a command
abbrev name_of : Op → List ℕ
name_of op = take (length (op_line_of op) - 1) (op_line_of op)

op_line : (op : Op) → op_line_of op ≡ name_of op ++ (0x0a ∷ [])
unfolding op_line_of
op_line Move = refl
op_line Line = refl
op_line Quad = refl
op_line RatQuad = refl
op_line Cubic = refl
op_line RatCubic = refl

plain_name : (op : Op) → plain (map byte (name_of op)) ≡ true
unfolding op_line_of plain
plain_name Move = refl
plain_name Line = refl
plain_name Quad = refl
plain_name RatQuad = refl
plain_name Cubic = refl
plain_name RatCubic = refl

-- the op whose line begins a text, by its first letters
which_op : List ℕ → Op
which_op s =
    cond (eqb (get_or s 3 0) 0x6d) Move
    (cond (eqb (get_or s 3 0) 0x6c) Line
    (cond (eqb (get_or s 3 0) 0x71) Quad (cond (eqb (get_or s 3 0) 0x63) Cubic (cond (eqb (get_or s 4 0) 0x71) RatQuad RatCubic))))

which_op_lem : (op : Op) (rest : List ℕ) → which_op (op_line_of op ++ rest) ≡ op
unfolding op_line_of which_op
which_op_lem Move rest = refl
which_op_lem Line rest = refl
which_op_lem Quad rest = refl
which_op_lem RatQuad rest = refl
which_op_lem Cubic rest = refl
which_op_lem RatCubic rest = refl

pub op_once : (o p : Op) (r s : List ℕ) → op_line_of o ++ r ≡ op_line_of p ++ s → o ≡ p
op_once o p r s h = sym (which_op_lem o r) ∙ ap which_op h ∙ which_op_lem p s

unfoldable pub shape_of : Op → List Class
shape_of op = map byte (name_of op) ++ (byte 0x0a ∷ field_shapes (keys_of op))

op_text : (op : Op) (rest : List ℕ) → op_line_of op ++ rest ≡ name_of op ++ (0x0a ∷ rest)
op_text op rest = ap (λ (l : List ℕ). l ++ rest) (op_line op) ∙ append_assoc (name_of op) (0x0a ∷ []) rest

pub op_newlines : (op : Op) → newlines (op_line_of op) ≡ 1
unfolding newlines
op_newlines op =
    ap newlines (op_line op)
    ∙ newlines-append (name_of op) (0x0a ∷ [])
    ∙ omega (arith, plain_newlines (map byte (name_of op)) (name_of op) (plain_name op) (fits_bytes (name_of op)))

pub command_fits : (c : TextCommand) → ProperCommand c → Fits (shape_of c.op) (command_lines c)
unfolding shape_of command_lines admits
command_fits c p =
    rw (op_text c.op (field_lines (keys_of c.op) c.numbers)) (fits_append (fits_bytes (name_of c.op)) (fits_more refl (fields_fit p)))

pub record CommandText (op : Op) (s : List ℕ) : Type 0 where
  pub numbers : List ℕ
  pub proper : Patterns (keys_of op) numbers
  pub text : s ≡ command_lines (record { op = op; numbers = numbers })

command_line : (op : Op) (first t : List ℕ) → first ≡ name_of op → Fits (byte 0x0a ∷ field_shapes (keys_of op)) t → CommandText op (first ++ t)
unfolding admits command_lines
command_line op first [] e x'' = elim x'' [ ]
command_line op first (b ∷ rest) e (fits_more k g) =
    let row : RowText (keys_of op) rest = shape_row (keys_of op) rest g in
    record {
      numbers = row.numbers;
      proper = row.patterns;
      text = rw (e, eqb-true b 0x0a k) (sym (op_text op rest) ∙ ap (λ (l : List ℕ). op_line_of op ++ l) row.text);
    }

pub shape_command : (op : Op) (s : List ℕ) → Fits (shape_of op) s → CommandText op s
unfolding shape_of
shape_command op s f =
    let name = map byte (name_of op) in
    let row = byte 0x0a ∷ field_shapes (keys_of op) in
    let parts : FitsParts name row s = fits_parts name row s f in
    rw parts.split (command_line op parts.first parts.second (bytes_fit (name_of op) parts.first parts.fits_first) parts.fits_second)

-- the op line is whole, and the rest of its shape is matched after it; or the beginning that fits its shape has no newline
pub data OpLineAt (op : Op) (s : List ℕ) : Type 0 where
  there : (rest : List ℕ) → s ≡ op_line_of op ++ rest → OpLineAt op s
  missing : newlines (fit (shape_of op) s) ≡ 0 → OpLineAt op s

pub op_line_at : (op : Op) (s : List ℕ) → OpLineAt op s
unfolding shape_of
op_line_at op s = go (line_at (map byte (name_of op)) (field_shapes (keys_of op)) s (plain_name op))
  where
    go : LineAt (map byte (name_of op)) (field_shapes (keys_of op)) s → OpLineAt op s
    go (whole line rest split f) =
        there rest (split ∙ ap (λ (l : List ℕ). l ++ (0x0a ∷ rest)) (bytes_fit (name_of op) line f) ∙ sym (op_text op rest))
    go (part z) = missing z

pub op_line_newlines : (op : Op) (s rest : List ℕ) → s ≡ op_line_of op ++ rest
    → newlines (fit (shape_of op) s) ≡ suc (newlines (fit (field_shapes (keys_of op)) rest))
unfolding shape_of
op_line_newlines op s rest h =
    ap (λ (l : List ℕ). newlines (fit (shape_of op) l)) (h ∙ op_text op rest)
    ∙ line_newlines (map byte (name_of op)) (field_shapes (keys_of op)) (name_of op) rest (plain_name op) (fits_bytes (name_of op))

pub command_newlines : (c : TextCommand) → ProperCommand c → newlines (command_lines c) ≡ suc (length (keys_of c.op))
unfolding command_lines
command_newlines c p =
    newlines-append (op_line_of c.op) (field_lines (keys_of c.op) c.numbers)
    ∙ omega (arith, op_newlines c.op, fields_newlines p (plain_keys_lem c.op))
