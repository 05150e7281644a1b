-- RULES, Contours: the calls that draw each contour of a drawing, and what it is that a contour's own calls draw it. Assumes nothing.
use Rattle.std.specs.Prelude.{◌≤◌, ◌≡◌, Bool, true, false, ◌||◌, cond, List, [], ◌∷◌, ◌++◌, length, take}
use Rattle.leaves.specs.Single.{zero32}
use Rattle.answer.specs.Answer.{Done}
use Rattle.point.specs.Point.{point_at}
use Rattle.store.specs.declared.Call.{Call}
use Rattle.store.specs.declared.Call.TheVariants.{Move, Line, Quad, Cubic, RatQuad, RatCubic, Build}
use Rattle.store.specs.Columns.{Columns, columns, even_of}
use Rattle.store.specs.Drawing.{Outcome, draw_of, fresh_of}
use Rattle.store.specs.Replay.{replay_of}
use Rattle.store.specs.Contours.{Drawing, drawing, contours_of}

-- whether a call is a Move
abbrev pub moves_of : Call → Bool
moves_of (Move p) = true
moves_of (Line p) = false
moves_of (Quad p1 p2) = false
moves_of (Cubic p1 p2 p3) = false
moves_of (RatQuad p1 p2 w) = false
moves_of (RatCubic p1 p2 p3 w1 w2) = false
moves_of Build = false

-- whether a call draws a line or a curve
abbrev pub draws_of : Call → Bool
draws_of (Move p) = false
draws_of (Line p) = true
draws_of (Quad p1 p2) = true
draws_of (Cubic p1 p2 p3) = true
draws_of (RatQuad p1 p2 w) = true
draws_of (RatCubic p1 p2 p3 w1 w2) = true
draws_of Build = false

-- whether any of these calls passes a test
unfoldable pub any_of : (Call → Bool) → List Call → Bool
any_of test [] = false
any_of test (call ∷ calls) = test call || any_of test calls

-- the calls up to the next Move or the end
unfoldable pub calls_upto_move : List Call → List Call
calls_upto_move [] = []
calls_upto_move (call ∷ calls) = cond (moves_of call) [] (call ∷ calls_upto_move calls)

-- A Move, the calls after it, and the contours of those that come later; whether another Move comes, and whether anything is drawn before it. The next Move closes a
-- contour as a build does, and overwrites a Move with nothing drawn after it; the last contour is built only if its calls say so.
unfoldable pub contour_calls : Bool → Bool → Call → List Call → List (List Call) → List (List Call)
contour_calls false draws move calls later = (move ∷ calls) ∷ []
contour_calls true true move calls later = (move ∷ (calls_upto_move calls ++ (Build ∷ []))) ∷ later
contour_calls true false move calls later = later

-- the own calls of each contour, in order
unfoldable pub own_calls_of : List Call → List (List Call)
own_calls_of [] = []
own_calls_of (call ∷ calls) =
    cond (moves_of call) (contour_calls (any_of moves_of calls) (any_of draws_of (calls_upto_move calls)) call calls (own_calls_of calls)) (own_calls_of calls)

-- every call is answered with 0, each on what the one before left
abbrev pub AllDone : List Call → Outcome → Type 0
AllDone [] o = o.answer ≡ Done
AllDone (call ∷ calls) o = (o.answer ≡ Done) × AllDone calls (draw_of call o.state o.columns)

-- what is in use of a store
unfoldable pub in_use : Outcome → Drawing
in_use o =
    let st = o.state in
    let c = o.columns in
    drawing st (columns (take st.points c.x) (take st.points c.y) (take st.points c.weight) (take st.commands c.commands))

-- on any columns with room for it these calls are all done after a fresh one, and leave just this drawing
abbrev pub DrawnBy : Drawing → List Call → Type 0
DrawnBy d calls =
    (c : Columns) → even_of c ≡ true → d.state.points ≤ length c.x → d.state.commands ≤ length c.commands
    → AllDone calls (fresh_of c) × (in_use (replay_of calls (fresh_of c)) ≡ d)

-- two lists of one length, whose entries stand in a relation one by one
abbrev pub Pairwise : {A B : Type 0} → (A → B → Type 0) → List A → List B → Type 0
Pairwise R [] [] = Unit {0}
Pairwise R [] (b ∷ bs) = ⊥
Pairwise R (a ∷ rest) [] = ⊥
Pairwise R (a ∷ rest) (b ∷ bs) = R a b × Pairwise R rest bs

-- Each contour of a drawing is what its own calls draw alone. A fresh drawing is a Move at (0,0).
abbrev pub ContoursDrawn : Type 0
ContoursDrawn =
    (calls : List Call) (c : Columns) → AllDone calls (fresh_of c) → let o = replay_of calls (fresh_of c) in
    Pairwise DrawnBy (contours_of o.state o.columns) (own_calls_of (Move (point_at zero32 zero32) ∷ calls))
