-- Laws of cutting a list after each entry that passes a test. Assumes nothing.
use mathlib.Core.Path.{◌≡◌, refl, sym, ap, ap₂, ◌∙◌}
use mathlib.Core.Bool.{Bool, true, false}
use mathlib.Core.List.{List, [], ◌∷◌, ◌++◌, map, flat_map, append-nil, append_assoc}
use Rattle.facts.specs.Every.{All}
use Rattle.contours.specs.Cutting.{behind, cut_after, Piece, Pieces, CutOf}

-- ---- up to the first entry that passes the test, and with it
module _ {A : Type 0} where
  pub cut_piece : (test : A → Bool) (s t : List A) (e : A) → All (λ (a : A). test a ≡ false) s → test e ≡ true → cut_after test (s ++ (e ∷ t)) ≡ (s ++ (e ∷ [])) ∷ cut_after test t
  unfolding cut_after
  cut_piece test [] t e h k = ap (λ (b : Bool). behind b e (cut_after test t)) k
  cut_piece test (a ∷ s) t e h k = ap₂ (λ (b : Bool) (p : List (List A)). behind b a p) h.0 (cut_piece test s t e h.1 k)

-- ---- cutting what is mapped
module _ {A B : Type 0} (f : A → B) where
  behind_map : (b : Bool) (a : A) (p : List (List A)) → map (map f) (behind b a p) ≡ behind b (f a) (map (map f) p)
  behind_map true a p = refl
  behind_map false a [] = refl
  behind_map false a (x ∷ p) = refl

  pub cut_map : (test : B → Bool) (s : List A) → map (map f) (cut_after (λ (a : A). test (f a)) s) ≡ cut_after test (map f s)
  unfolding cut_after
  cut_map test [] = refl
  cut_map test (a ∷ s) = behind_map (test (f a)) a (cut_after (λ (a : A). test (f a)) s) ∙ ap (behind (test (f a)) (f a)) (cut_map test s)

-- ---- the pieces are what `CutOf` says, and nothing else is
module _ {A : Type 0} (test : A → Bool) where
  abbrev all_of : List (List A) → List A
  all_of pieces = flat_map (λ (piece : List A). piece) pieces

  behind_joined : (b : Bool) (a : A) (pieces : List (List A)) → all_of (behind b a pieces) ≡ a ∷ all_of pieces
  unfolding flat_map
  behind_joined true a pieces = refl
  behind_joined false a [] = refl
  behind_joined false a (piece ∷ pieces) = refl

  cut_joined : (list : List A) → all_of (cut_after test list) ≡ list
  unfolding cut_after flat_map
  cut_joined [] = refl
  cut_joined (a ∷ rest) = behind_joined (test a) a (cut_after test rest) ∙ ap (λ (l : List A). a ∷ l) (cut_joined rest)

  abbrev alone : (a : A) → Piece test (a ∷ [])
  alone a = record { start = []; last = a; split = refl; before = tt }

  abbrev longer : (a : A) (piece : List A) → test a ≡ false → Piece test piece → Piece test (a ∷ piece)
  longer a piece h p = record { start = a ∷ p.start; last = p.last; split = ap (λ (l : List A). a ∷ l) p.split; before = (h, p.before) }

  behind_pieces : (b : Bool) (a : A) → test a ≡ b → (pieces : List (List A)) → Pieces test pieces → Pieces test (behind b a pieces)
  behind_pieces true a e [] h = alone a
  behind_pieces true a e (piece ∷ pieces) h = (record { is_piece = alone a; passes = e }, h)
  behind_pieces false a e [] h = alone a
  behind_pieces false a e (piece ∷ []) h = longer a piece e h
  behind_pieces false a e (piece ∷ next ∷ pieces) h =
      (record { is_piece = longer a piece e h.0.is_piece; passes = h.0.passes }, h.1)

  cut_pieces : (list : List A) → Pieces test (cut_after test list)
  unfolding cut_after
  cut_pieces [] = tt
  cut_pieces (a ∷ rest) = behind_pieces (test a) a refl (cut_after test rest) (cut_pieces rest)

  pub cut_is : (list : List A) → CutOf test list (cut_after test list)
  cut_is list = record { joined = cut_joined list; pieces_are = cut_pieces list }

  -- one piece, whether its last entry passes or not
  cut_one : (s : List A) (e : A) (b : Bool) → test e ≡ b → All (λ (a : A). test a ≡ false) s → cut_after test (s ++ (e ∷ [])) ≡ (s ++ (e ∷ [])) ∷ []
  unfolding cut_after
  cut_one [] e true k h = ap (λ (b : Bool). behind b e []) k
  cut_one [] e false k h = ap (λ (b : Bool). behind b e []) k
  cut_one (a ∷ s) e b k h = ap₂ (λ (c : Bool) (p : List (List A)). behind c a p) h.0 (cut_one s e b k h.1)

  only_pieces : (pieces : List (List A)) → Pieces test pieces → pieces ≡ cut_after test (all_of pieces)
  unfolding cut_after flat_map
  only_pieces [] h = refl
  only_pieces (piece ∷ []) h =
      sym
      (ap (cut_after test) (append-nil piece ∙ h.split)
      ∙ cut_one h.start h.last (test h.last) refl h.before
      ∙ ap (λ (l : List A). l ∷ []) (sym h.split))
  only_pieces (piece ∷ next ∷ pieces) h =
      let p = h.0.is_piece in
      let rest = all_of (next ∷ pieces) in
      sym
      (ap (λ (l : List A). cut_after test (l ++ rest)) p.split
      ∙ ap (cut_after test) (append_assoc p.start (p.last ∷ []) rest)
      ∙ cut_piece test p.start rest p.last p.before h.0.passes
      ∙ ap₂ (λ (l : List A) (ls : List (List A)). l ∷ ls) (sym p.split) (sym (only_pieces (next ∷ pieces) h.1)))

  pub only_cut : (list : List A) (pieces : List (List A)) → CutOf test list pieces → pieces ≡ cut_after test list
  only_cut list pieces c = only_pieces pieces c.pieces_are ∙ ap (cut_after test) c.joined
