-- RULES, Contours: a contour by itself is a drawing too, defined by the commands of the whole. Assumes nothing.
use Rattle.std.specs.Prelude.{ℕ, zero, suc, ◌+◌, ◌≡◌, true, length, take, drop}
use mathlib.Core.List.{List, [], ◌∷◌, flat_map}
use Rattle.store.specs.declared.StoreState.{StoreState}
use Rattle.store.specs.Columns.{Columns, columns, move_command, uses_of, state_at}
use Rattle.store.specs.Drawable.{total_uses_of, drawable_of}

-- a drawing: its counts and open index, and its columns
pub record Drawing : Type 0 where
  pub state : StoreState
  pub columns : Columns

abbrev pub drawing : StoreState → Columns → Drawing
drawing state c = record { state = state; columns = c }

-- n entries of a column, from entry i on
abbrev pub part {ℓ} : {A : Type ℓ} → ℕ → ℕ → List A → List A
part i n column = take n (drop i column)

-- these commands, whose points begin with point j, as a drawing: exactly their points with weights, the counts are those lengths, and point 0 is the open one
unfoldable pub alone_of : Columns → List ℕ → ℕ → Drawing
alone_of c ks j =
    let n = total_uses_of ks in
    drawing (state_at n (length ks) 0) (columns (part j n c.x) (part j n c.y) (part j n c.weight) ks)

-- the commands up to the next Move or the end
unfoldable pub upto_move : List ℕ → List ℕ
upto_move [] = []
upto_move (zero ∷ ks) = []
upto_move (suc k ∷ ks) = suc k ∷ upto_move ks

-- the contours of these commands, in order, "each flattened as a drawing by itself": one from each Move up to the next Move or the end; no closing is added
unfoldable pub contours_from : Columns → List ℕ → ℕ → List Drawing
contours_from c [] j = []
contours_from c (zero ∷ ks) j = alone_of c (move_command ∷ upto_move ks) j ∷ contours_from c ks (j + uses_of move_command)
contours_from c (suc k ∷ ks) j = contours_from c ks (j + uses_of (suc k))

unfoldable pub contours_of : StoreState → Columns → List Drawing
contours_of st c = contours_from c (take st.commands c.commands) 0

-- joined in order the contours are the whole: each command and each point is in exactly one
pub record Covered (st : StoreState) (c : Columns) (contours : List Drawing) : Type 0 where
  pub commands : flat_map (λ (d : Drawing). d.columns.commands) contours ≡ take st.commands c.commands
  pub x : flat_map (λ (d : Drawing). d.columns.x) contours ≡ take st.points c.x
  pub y : flat_map (λ (d : Drawing). d.columns.y) contours ≡ take st.points c.y
  pub weight : flat_map (λ (d : Drawing). d.columns.weight) contours ≡ take st.points c.weight

abbrev pub ContoursCover : Type 0
ContoursCover = (st : StoreState) (c : Columns) → drawable_of st c ≡ true → Covered st c (contours_of st c)
