-- Laws of `stands_at`: the text has a fixed string at a place if it has its first byte there and the rest after it; the string then lies inside the text.
-- Assumes nothing.
use mathlib.Core.Path.{◌≡◌, refl, sym, ap, ◌∙◌}
use mathlib.Core.Bool.{Bool, true, false, ◌&&◌, and-true, and_assoc, and-eq-true_iff}
use mathlib.Core.List.{List, [], ◌∷◌, ◌++◌}
use Prim.Native.Nat.{ℕ, suc, ◌+◌, ◌≤◌, ◌<◌}
use native.Mathlib.Nat.{add-zero}
use native.Mathlib.Omega.{arith}
use borrow.Author.Tests.{eqb-true, eq-eqb, ne_eqb}
use mathlib.Core.Logic.{inl, inr}
use Rattle.std.proofs.lemmas.Bool.{cases_eq}
use lib.Dec.{eqb}
use lib.Pointwise.{pointwise}
use Rattle.std.specs.List.{starts_with}
use lib.ListN.{length, take, drop, get_or, length-take, length-drop, take-append-drop, drop_of_length-le}
use lib.Seq.{take-length, drop-cons, drop-drop, take-append_seam, drop-append_seam}
use Rattle.text.specs.Bytes.{same_bytes, part_at, stands_at}

-- ---- laws over the bytes from a place on
abbrev begins : List ℕ → List ℕ → Bool
begins rest fixed = same_bytes (take (length fixed) rest) fixed

begins_cons : (rest : List ℕ) (b : ℕ) (ys : List ℕ) → begins rest (b ∷ ys) ≡ begins rest (b ∷ []) && begins (drop 1 rest) ys
unfolding same_bytes
begins_cons [] b ys = refl
begins_cons (a ∷ rest) b ys = rw (and-true (eqb a b))

pub same_length : (xs ys : List ℕ) → same_bytes xs ys ≡ true → length xs ≡ length ys
unfolding same_bytes
same_length [] [] h = refl
same_length [] (b ∷ ys) h = absurd (let z : ◌≡◌ {A = ℕ} 0 1 = cc in omega arith)
same_length (a ∷ xs) [] h = absurd (let z : ◌≡◌ {A = ℕ} 0 1 = cc in omega arith)
same_length (a ∷ xs) (b ∷ ys) h = ap suc (same_length xs ys ((and-eq-true_iff (eqb a b) (same_bytes xs ys)).0 h).1)

-- ---- laws over a place in the text
pub stands_nothing : (text : List ℕ) (at : ℕ) → stands_at text at [] ≡ true
unfolding stands_at part_at same_bytes
stands_nothing text at = refl

pub stands_cons : (text : List ℕ) (at : ℕ) (b : ℕ) (ys : List ℕ) → stands_at text at (b ∷ ys) ≡ stands_at text at (b ∷ []) && stands_at text (at + 1) ys
unfolding stands_at part_at
stands_cons text at b ys =
    begins_cons (drop at text) b ys ∙ ap (λ (r : List ℕ). begins (drop at text) (b ∷ []) && begins r ys) (drop-drop 1 at text)

pub stands_append : (text : List ℕ) (at : ℕ) (xs ys : List ℕ) → stands_at text at (xs ++ ys) ≡ stands_at text at xs && stands_at text (at + length xs) ys
stands_append text at [] ys = rw (stands_nothing, add-zero)
stands_append text at (a ∷ xs) ys =
    let e : at + 1 + length xs ≡ at + suc (length xs) = omega arith in
    stands_cons text at a (xs ++ ys)
    ∙ ap (λ (r : Bool). stands_at text at (a ∷ []) && r) (stands_append text (at + 1) xs ys)
    ∙ sym (and_assoc (stands_at text at (a ∷ [])) (stands_at text (at + 1) xs) (stands_at text (at + 1 + length xs) ys))
    ∙ ap (λ (r : Bool). r && stands_at text (at + 1 + length xs) ys) (sym (stands_cons text at a xs))
    ∙ ap (λ (n : ℕ). stands_at text at (a ∷ xs) && stands_at text n ys) e

pub byte_stands : (text : List ℕ) (at b : ℕ) → at < length text → stands_at text at (b ∷ []) ≡ eqb (get_or text at 0) b
unfolding stands_at part_at same_bytes
byte_stands text at b h = rw (drop-cons text at 0 h, and-true)

pub byte_past : (text : List ℕ) (at b : ℕ) → length text ≤ at → stands_at text at (b ∷ []) ≡ false
unfolding stands_at part_at same_bytes
byte_past text at b h = rw (drop_of_length-le text h)

-- a fixed string of at least one byte that the text has at a place lies inside the text
pub stands_inside : (text : List ℕ) (at : ℕ) (fixed : List ℕ) → 0 < length fixed → stands_at text at fixed ≡ true → at + length fixed ≤ length text
unfolding stands_at part_at
stands_inside text at fixed some h =
    let e : length (take (length fixed) (drop at text)) ≡ length fixed = same_length (take (length fixed) (drop at text)) fixed h in
    omega (arith, simp (length-take, length-drop) at e)

eqb_swap : (a b : ℕ) → eqb a b ≡ eqb b a
eqb_swap a b = elim (cases_eq a b) [ inl e ↦ eq-eqb a b e ∙ sym (eq-eqb b a (sym e)) | inr n ↦ ne_eqb a b n ∙ sym (ne_eqb b a (λ e. n (sym e))) ]

-- what the library's `starts_with` answers of the text from the place on
pairwise : (xs ys : List ℕ) → pointwise eqb ys xs ≡ same_bytes xs ys
unfolding same_bytes
pairwise [] [] = refl
pairwise [] (b ∷ ys) = refl
pairwise (a ∷ xs) [] = refl
pairwise (a ∷ xs) (b ∷ ys) = rw (eqb_swap b a, pairwise xs ys)

pub stands_begins : (text : List ℕ) (at : ℕ) (fixed rest : List ℕ) → rest ≡ drop at text → starts_with eqb rest fixed ≡ stands_at text at fixed
unfolding stands_at part_at
stands_begins text at fixed rest e = pairwise (take (length fixed) rest) fixed ∙ ap (λ (l : List ℕ). same_bytes (take (length fixed) l) fixed) e

-- a fixed string that is as long as the text is all of it
pub stands_whole : (text fixed : List ℕ) → length text ≡ length fixed → stands_at text 0 fixed ≡ same_bytes text fixed
unfolding stands_at part_at
stands_whole text fixed h = ap (λ (l : List ℕ). same_bytes l fixed) (ap (λ (n : ℕ). take n text) (sym h) ∙ take-length text)

-- ---- the text has a fixed string at a place if the text from there on begins with it
same_bytes_lem : (xs ys : List ℕ) → same_bytes xs ys ≡ true → xs ≡ ys
unfolding same_bytes
same_bytes_lem [] [] h = refl
same_bytes_lem [] (b ∷ ys) h = absurd (let z : ◌≡◌ {A = ℕ} 0 1 = cc in omega arith)
same_bytes_lem (a ∷ xs) [] h = absurd (let z : ◌≡◌ {A = ℕ} 0 1 = cc in omega arith)
same_bytes_lem (a ∷ xs) (b ∷ ys) h =
    let both : (eqb a b ≡ true) × (same_bytes xs ys ≡ true) = (and-eq-true_iff (eqb a b) (same_bytes xs ys)).0 h in
    let first : a ≡ b = eqb-true a b both.0 in
    let later : xs ≡ ys = same_bytes_lem xs ys both.1 in
    cc

same_itself : (xs : List ℕ) → same_bytes xs xs ≡ true
unfolding same_bytes
same_itself [] = refl
same_itself (a ∷ xs) = rw (eq-eqb a a refl, same_itself xs)

pub stands_split : (text : List ℕ) (at : ℕ) (fixed : List ℕ) → stands_at text at fixed ≡ true → drop at text ≡ fixed ++ drop (length fixed) (drop at text)
unfolding stands_at part_at
stands_split text at fixed h =
    let rest = drop at text in
    sym (take-append-drop (length fixed) rest) ∙ ap (λ (l : List ℕ). l ++ drop (length fixed) rest) (same_bytes_lem (take (length fixed) rest) fixed h)

pub split_stands : (text : List ℕ) (at : ℕ) (fixed rest : List ℕ) → drop at text ≡ fixed ++ rest → stands_at text at fixed ≡ true
unfolding stands_at part_at
split_stands text at fixed rest h =
    ap (λ (l : List ℕ). same_bytes (take (length fixed) l) fixed) h
    ∙ ap (λ (l : List ℕ). same_bytes l fixed) (take-append_seam fixed rest)
    ∙ same_itself fixed

pub drop_behind : (text : List ℕ) (at : ℕ) (first rest : List ℕ) → drop at text ≡ first ++ rest → drop (at + length first) text ≡ rest
drop_behind text at first rest h = sym (drop-drop (length first) at text) ∙ ap (drop (length first)) h ∙ drop-append_seam first rest
