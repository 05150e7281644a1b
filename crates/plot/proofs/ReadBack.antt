-- The text read back: its instructions are cut at their semicolons, and each gives its stroke; and its blanks are those after PU and PD. Assumes nothing.
use mathlib.Core.Path.{◌≡◌, refl, sym, ap, ap₂, ◌∙◌, subst}
use mathlib.Core.Bool.{Bool, true, false, ◌&&◌, ◌||◌, not, and-false}
use mathlib.Core.List.{List, [], ◌∷◌, ◌++◌, map, flat_map, append-nil, append_assoc}
use Prim.Native.Nat.{ℕ, ◌+◌, ◌^◌, ◌<◌}
use native.Mathlib.Omega.{arith}
use borrow.Author.Tests.{ne_eqb, lt-leb}
use lib.IntN.{ℤ}
use lib.Signed.{mag}
use lib.Dec.{eqb, leb}
use lib.ListN.{drop}
use Rattle.facts.specs.Every.{All}
use Rattle.facts.proofs.Every.{all_append}
use Rattle.text.specs.Bytes.{bytes, stands_at, part_at, same_bytes}
use Rattle.text.specs.Signed.{signed_of}
use Rattle.text.specs.ReadDecimal.{signed_number, up_to, past}
use Rattle.text.proofs.ReadDecimal.{signed_bytes, signed_back, digit_apart, up_to_first, past_first}
use Rattle.contours.specs.Cutting.{cut_after, Ended, Pieces}
use Rattle.contours.proofs.Cutting.{only_cut}
use Rattle.contours.specs.Finished.{Position, position}
use Rattle.plot.specs.Text.{move_of, contour_text, text_of, pen_of}
use Rattle.plot.specs.ReadBack.{Stroke, stroke_of, Strokes, stroked, strokes_of, read_of, is_space, follows, blanks_right}

-- what is read back: contours that are not empty, of numbers that a signed number of 64 bits holds
pub record Held (p : Position ℤ) : Type 0 where
  pub x : mag p.x < 2 ^ 63
  pub y : mag p.y < 2 ^ 63

abbrev pub Filled : List (Position ℤ) → Type 0
Filled [] = ⊥
Filled (p ∷ contour) = Held p × All Held contour

-- ---- one instruction
abbrev semicolon : ℕ → Bool
semicolon b = eqb b 0x3b

apart : (b : ℕ) → ((d : ℕ) → d < 10 → 0x30 + d ≡ b → ⊥) → eqb 0x2d b ≡ false → (z : ℤ) → All (λ (c : ℕ). eqb c b ≡ false) (signed_of z)
apart b h m z = signed_bytes (λ (c : ℕ). eqb c b ≡ false) (digit_apart b h) m z

no_comma : (z : ℤ) → All (λ (c : ℕ). eqb c 0x2c ≡ false) (signed_of z)
no_comma z = apart 0x2c (λ d k e. omega arith) refl z

no_semicolon : (z : ℤ) → All (λ (c : ℕ). eqb c 0x3b ≡ false) (signed_of z)
no_semicolon z = apart 0x3b (λ d k e. omega arith) refl z

module _ (p : Position ℤ) where
  abbrev numbers : List ℕ
  numbers = signed_of p.x ++ (0x2c ∷ (signed_of p.y ++ (0x3b ∷ [])))

  x_read : mag p.x < 2 ^ 63 → signed_number (up_to 0x2c numbers) ≡ p.x
  x_read h = ap signed_number (up_to_first 0x2c (signed_of p.x) (signed_of p.y ++ (0x3b ∷ [])) (no_comma p.x)) ∙ signed_back p.x h

  y_read : mag p.y < 2 ^ 63 → signed_number (up_to 0x3b (past 0x2c numbers)) ≡ p.y
  y_read h =
      ap (λ (l : List ℕ). signed_number (up_to 0x3b l)) (past_first 0x2c (signed_of p.x) (signed_of p.y ++ (0x3b ∷ [])) (no_comma p.x))
      ∙ ap signed_number (up_to_first 0x3b (signed_of p.y) [] (no_semicolon p.y))
      ∙ signed_back p.y h

  abbrev drawn : Bool → Position ℤ → Stroke
  drawn down to = record { down = down; to = to }

  pub down_read : Held p → stroke_of (move_of (bytes "PD") p) ≡ drawn true p
  unfolding stroke_of move_of stands_at part_at same_bytes
  down_read h = ap₂ (λ (x y : ℤ). drawn true (position x y)) (x_read h.x) (y_read h.y)

  pub up_read : Held p → stroke_of (move_of (bytes "PU") p) ≡ drawn false p
  unfolding stroke_of move_of stands_at part_at same_bytes
  up_read h = ap₂ (λ (x y : ℤ). drawn false (position x y)) (x_read h.x) (y_read h.y)

-- ---- one after another
abbrev instructions : List (List (Position ℤ)) → List (List ℕ)
instructions [] = []
instructions ([] ∷ contours) = instructions contours
instructions ((p ∷ contour) ∷ contours) = move_of (bytes "PU") p ∷ (map (move_of (bytes "PD")) contour ++ instructions contours)

abbrev all_of : List (List ℕ) → List ℕ
all_of pieces = flat_map (λ (piece : List ℕ). piece) pieces

all_append_of : (s t : List (List ℕ)) → all_of (s ++ t) ≡ all_of s ++ all_of t
unfolding flat_map
all_append_of [] t = refl
all_append_of (a ∷ s) t = ap (λ (l : List ℕ). a ++ l) (all_append_of s t) ∙ sym (append_assoc a (all_of s) (all_of t))

downs_all : (contour : List (Position ℤ)) → all_of (map (move_of (bytes "PD")) contour) ≡ flat_map (move_of (bytes "PD")) contour
unfolding flat_map
downs_all [] = refl
downs_all (p ∷ contour) = ap (λ (l : List ℕ). move_of (bytes "PD") p ++ l) (downs_all contour)

instructions_all : (contours : List (List (Position ℤ))) → all_of (instructions contours) ≡ flat_map contour_text contours
unfolding flat_map contour_text
instructions_all [] = refl
instructions_all ([] ∷ contours) = instructions_all contours
instructions_all ((p ∷ contour) ∷ contours) =
    ap (λ (l : List ℕ). move_of (bytes "PU") p ++ l)
    (all_append_of (map (move_of (bytes "PD")) contour) (instructions contours) ∙ ap₂ (λ (a b : List ℕ). a ++ b) (downs_all contour) (instructions_all contours))
    ∙ sym (append_assoc (move_of (bytes "PU") p) (flat_map (move_of (bytes "PD")) contour) (flat_map contour_text contours))

-- each ends in its only semicolon
ended : (a b : ℕ) → semicolon a ≡ false → semicolon b ≡ false → (p : Position ℤ) → Ended semicolon (move_of (a ∷ b ∷ []) p)
unfolding move_of
ended a b e f p =
    let x = signed_of p.x in
    let y = signed_of p.y in
    record {
      is_piece =
          record {
            start = a ∷ b ∷ 0x20 ∷ (x ++ (0x2c ∷ y));
            last = 0x3b;
            split = ap (λ (l : List ℕ). a ∷ b ∷ 0x20 ∷ l) (sym (append_assoc x (0x2c ∷ y) (0x3b ∷ [])));
            before =
                (e, (f, (refl, all_append (λ (c : ℕ). semicolon c ≡ false) x (0x2c ∷ y) (no_semicolon p.x) (refl, no_semicolon p.y))));
          };
      passes = refl;
    }

downs_ended : (contour : List (Position ℤ)) → All (Ended semicolon) (map (move_of (bytes "PD")) contour)
downs_ended [] = tt
downs_ended (p ∷ contour) = (ended 0x50 0x44 refl refl p, downs_ended contour)

instructions_ended : (contours : List (List (Position ℤ))) → All (Ended semicolon) (instructions contours)
instructions_ended [] = tt
instructions_ended ([] ∷ contours) = instructions_ended contours
instructions_ended ((p ∷ contour) ∷ contours) =
    (ended 0x50 0x55 refl refl p, all_append (Ended semicolon) (map (move_of (bytes "PD")) contour) (instructions contours) (downs_ended contour) (instructions_ended contours))

ended_pieces : (pieces : List (List ℕ)) → All (Ended semicolon) pieces → Pieces semicolon pieces
ended_pieces [] h = tt
ended_pieces (piece ∷ []) h = h.0.is_piece
ended_pieces (piece ∷ next ∷ pieces) h = (h.0, ended_pieces (next ∷ pieces) h.1)

first_ended : Ended semicolon (bytes "IN;")
first_ended = record { is_piece = record { start = 0x49 ∷ 0x4e ∷ []; last = 0x3b; split = refl; before = (refl, (refl, tt)) }; passes = refl }

cut_text : (contours : List (List (Position ℤ))) → cut_after semicolon (text_of contours) ≡ bytes "IN;" ∷ instructions contours
unfolding text_of flat_map
cut_text contours =
    sym
    (only_cut semicolon (text_of contours) (bytes "IN;" ∷ instructions contours)
    (record {
      joined = ap (λ (l : List ℕ). bytes "IN;" ++ l) (instructions_all contours);
      pieces_are = ended_pieces (bytes "IN;" ∷ instructions contours) (first_ended, instructions_ended contours);
    }))

-- ---- the strokes
abbrev strokes : List (Position ℤ) → List (List (Position ℤ)) → Strokes
strokes going contours = record { going_on = going; contours = contours }

downs_read : (contour : List (Position ℤ)) (rest : List (List ℕ)) → All Held contour
    → strokes_of (map stroke_of (map (move_of (bytes "PD")) contour ++ rest))
    ≡ strokes (contour ++ (strokes_of (map stroke_of rest)).going_on) (strokes_of (map stroke_of rest)).contours
unfolding strokes_of
downs_read [] rest h = refl
downs_read (p ∷ contour) rest h =
    ap₂ (λ (s : Stroke) (r : Strokes). stroked s.down s.to r) (down_read p h.0) (downs_read contour rest h.1)

strokes_read : (contours : List (List (Position ℤ))) → All Filled contours → strokes_of (map stroke_of (instructions contours)) ≡ strokes [] contours
unfolding strokes_of
strokes_read [] h = refl
strokes_read ([] ∷ contours) h = absurd h.0
strokes_read ((p ∷ contour) ∷ contours) h =
    let rest = instructions contours in
    ap₂ (λ (s : Stroke) (r : Strokes). stroked s.down s.to r) (up_read p h.0.0) (downs_read contour rest h.0.1)
    ∙ ap (λ (r : Strokes). strokes [] ((p ∷ (contour ++ r.going_on)) ∷ r.contours)) (strokes_read contours h.1)
    ∙ ap (λ (l : List (Position ℤ)). strokes [] ((p ∷ l) ∷ contours)) (append-nil contour)

-- contours that are not empty are read back
pub text_read : (contours : List (List (Position ℤ))) → All Filled contours → read_of (text_of contours) ≡ contours
unfolding read_of
text_read contours h =
    ap (λ (l : List (List ℕ)). (strokes_of (map stroke_of (drop 1 l))).contours) (cut_text contours)
    ∙ ap (λ (s : Strokes). s.contours) (strokes_read contours h)

-- ---- blanks
-- whatever comes before it
abbrev Fine : List ℕ → Type 0
Fine text = (a b : ℕ) → blanks_right a b text ≡ true

plain : (a b c : ℕ) (rest : List ℕ) → is_space c ≡ false → Fine rest → blanks_right a b (c ∷ rest) ≡ true
unfolding blanks_right follows
plain a b c rest h f = ap₂ (λ (s t : Bool). (not s || (eqb c 0x20 && (eqb a 0x50 && (eqb b 0x55 || eqb b 0x44)))) && t) h (f b c)

spaceless : (s rest : List ℕ) → All (λ (c : ℕ). is_space c ≡ false) s → Fine rest → Fine (s ++ rest)
spaceless [] rest h f = f
spaceless (c ∷ s) rest h f = λ a b. plain a b c (s ++ rest) h.0 (spaceless s rest h.1 f)

digit_plain : (d : ℕ) → d < 10 → is_space (0x30 + d) ≡ false
unfolding is_space
digit_plain d h =
    ap₂ (λ (s t : Bool). s || (leb 0x09 (0x30 + d) && t)) (ne_eqb (0x30 + d) 0x20 (λ e. omega arith)) (lt-leb (0x30 + d) 0x0d (omega arith))
    ∙ and-false (leb 0x09 (0x30 + d))

signed_plain : (z : ℤ) → All (λ (c : ℕ). is_space c ≡ false) (signed_of z)
unfolding is_space
signed_plain z = signed_bytes (λ (c : ℕ). is_space c ≡ false) digit_plain refl z

numbers_fine : (p : Position ℤ) (rest : List ℕ) → Fine rest → Fine (numbers p ++ rest)
unfolding is_space
numbers_fine p rest f =
    spaceless (numbers p) rest
    (all_append (λ (c : ℕ). is_space c ≡ false) (signed_of p.x) (0x2c ∷ (signed_of p.y ++ (0x3b ∷ []))) (signed_plain p.x)
    (refl, all_append (λ (c : ℕ). is_space c ≡ false) (signed_of p.y) (0x3b ∷ []) (signed_plain p.y) (refl, tt)))
    f

-- a move, after anything and before what is fine
move_fine : (u : Bool) (p : Position ℤ) (rest : List ℕ) → Fine rest → Fine (move_of (pen_of u) p ++ rest)
unfolding move_of pen_of blanks_right follows is_space
move_fine true p rest f = λ a b. numbers_fine p rest f 0x55 0x20
move_fine false p rest f = λ a b. numbers_fine p rest f 0x44 0x20

downs_fine : (contour : List (Position ℤ)) (rest : List ℕ) → Fine rest → Fine (flat_map (move_of (bytes "PD")) contour ++ rest)
unfolding flat_map pen_of
downs_fine [] rest f = f
downs_fine (p ∷ contour) rest f =
    subst Fine (sym (append_assoc (move_of (bytes "PD") p) (flat_map (move_of (bytes "PD")) contour) rest))
    (move_fine false p (flat_map (move_of (bytes "PD")) contour ++ rest) (downs_fine contour rest f))

contours_fine : (contours : List (List (Position ℤ))) → Fine (flat_map contour_text contours)
unfolding flat_map contour_text pen_of blanks_right
contours_fine [] = λ a b. refl
contours_fine ([] ∷ contours) = contours_fine contours
contours_fine ((p ∷ contour) ∷ contours) =
    subst Fine (sym (append_assoc (move_of (bytes "PU") p) (flat_map (move_of (bytes "PD")) contour) (flat_map contour_text contours)))
    (move_fine true p (flat_map (move_of (bytes "PD")) contour ++ flat_map contour_text contours) (downs_fine contour (flat_map contour_text contours) (contours_fine contours)))

-- "No other blank or line end is written."
pub text_blanks : (contours : List (List (Position ℤ))) → blanks_right 0 0 (text_of contours) ≡ true
unfolding text_of is_space
text_blanks contours = spaceless (bytes "IN;") (flat_map contour_text contours) (refl, (refl, (refl, tt))) (contours_fine contours) 0 0
