-- A list cut after each entry that passes a test: words after an End, finished points after a flag, a text after its semicolons. Assumes nothing.
use Rattle.std.specs.Prelude.{◌≡◌, Bool, true, false}
use mathlib.Core.List.{List, [], ◌∷◌, ◌++◌, flat_map}
use Rattle.facts.specs.Every.{All}

-- what comes after the last cut is a piece too
abbrev pub behind {ℓ} : {A : Type ℓ} → Bool → A → List (List A) → List (List A)
behind true a pieces = (a ∷ []) ∷ pieces
behind false a [] = (a ∷ []) ∷ []
behind false a (piece ∷ pieces) = (a ∷ piece) ∷ pieces

unfoldable pub cut_after {ℓ} : {A : Type ℓ} → (A → Bool) → List A → List (List A)
cut_after test [] = []
cut_after test (a ∷ rest) = behind (test a) a (cut_after test rest)

-- ---- what the pieces are; proved in proofs/Cutting
-- "none is empty", and no entry before its last one passes
pub record Piece {A : Type 0} (test : A → Bool) (piece : List A) : Type 0 where
  pub start : List A
  pub last : A
  pub split : piece ≡ start ++ (last ∷ [])
  pub before : All (λ (a : A). test a ≡ false) start

-- its last entry passes
pub record Ended {A : Type 0} (test : A → Bool) (piece : List A) : Type 0 where
  pub is_piece : Piece test piece
  pub passes : test is_piece.last ≡ true

-- every piece but the last ends in an entry that passes
abbrev pub Pieces : {A : Type 0} → (A → Bool) → List (List A) → Type 0
Pieces test [] = Unit {0}
Pieces test (piece ∷ []) = Piece test piece
Pieces test (piece ∷ next ∷ pieces) = Ended test piece × Pieces test (next ∷ pieces)

-- joined they are the list
pub record CutOf {A : Type 0} (test : A → Bool) (list : List A) (pieces : List (List A)) : Type 0 where
  pub joined : flat_map (λ (piece : List A). piece) pieces ≡ list
  pub pieces_are : Pieces test pieces
