-- RULES, Finished points: what a list of finished points is, in floats or in whole plotter units. Assumes nothing.
use Rattle.std.specs.Prelude.{ℕ, min, Bool, List, [], ◌∷◌}
use Rattle.columns.specs.Flags.{is_flag_of}

pub record Position (A : Type 0) : Type 0 where
  pub x : A
  pub y : A

-- a finished point; `end` says whether a contour ends here
pub record Vertex (A : Type 0) : Type 0 where
  pub position : Position A
  pub end : Bool

abbrev pub position : {A : Type 0} → A → A → Position A
position x y = record { x = x; y = y }

abbrev pub vertex : {A : Type 0} → Position A → Bool → Vertex A
vertex p end = record { position = p; end = end }

-- the points of three columns, as many as the shortest has entries; a flag is any byte but 0
unfoldable pub finished_of : {A : Type 0} → List A → List A → List ℕ → List (Vertex A)
finished_of [] ys ends = []
finished_of (x ∷ xs) [] ends = []
finished_of (x ∷ xs) (y ∷ ys) [] = []
finished_of (x ∷ xs) (y ∷ ys) (byte ∷ ends) = vertex (position x y) (is_flag_of byte) ∷ finished_of xs ys ends

unfoldable pub shortest_of : ℕ → ℕ → ℕ → ℕ
shortest_of x y end = min (min x y) end
