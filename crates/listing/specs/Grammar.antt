-- RULES, The program 3: the six op names, their keys in order, and the call that each makes. Assumes nothing.
use Rattle.std.specs.Prelude.{ℕ, List, [], ◌∷◌, ◌++◌, map, Float, get_or}
use Rattle.std.specs.Borrow.{Bor}
use Rattle.std.specs.Float.{nan}
use Rattle.point.specs.declared.Point.{Point}
use Rattle.point.specs.Point.{point_at}
use Rattle.store.specs.declared.Call as Calls
use Rattle.store.specs.declared.Call.TheVariants as Call
use Rattle.text.specs.Bytes.{bytes}
use Rattle.listing.specs.declared.Op.{Op}
use Rattle.listing.specs.declared.Op.TheVariants.{Move, Line, Quad, RatQuad, Cubic, RatCubic}

-- "op=move or op=line, then x, y; op=quad: x1, y1, x2, y2; op=rquad: the same, then w; op=cubic: x1 to y3 in pairs; op=rcubic: the same, then w1, w2"
unfoldable pub op_line_of : Op → List ℕ
op_line_of Move = bytes "op=move\n"
op_line_of Line = bytes "op=line\n"
op_line_of Quad = bytes "op=quad\n"
op_line_of RatQuad = bytes "op=rquad\n"
op_line_of Cubic = bytes "op=cubic\n"
op_line_of RatCubic = bytes "op=rcubic\n"

unfoldable pub quad_keys : List (List ℕ)
quad_keys = bytes "x1" ∷ bytes "y1" ∷ bytes "x2" ∷ bytes "y2" ∷ []

unfoldable pub cubic_keys : List (List ℕ)
cubic_keys = quad_keys ++ (bytes "x3" ∷ bytes "y3" ∷ [])

unfoldable pub keys_of : Op → List (List ℕ)
keys_of Move = bytes "x" ∷ bytes "y" ∷ []
keys_of Line = bytes "x" ∷ bytes "y" ∷ []
keys_of Quad = quad_keys
keys_of RatQuad = quad_keys ++ (bytes "w" ∷ [])
keys_of Cubic = cubic_keys
keys_of RatCubic = cubic_keys ++ (bytes "w1" ∷ bytes "w2" ∷ [])

-- the keys of a lent list of keys
abbrev pub key_texts : List (Bor (List ℕ)) → List (List ℕ)
key_texts keys = map (λ k. k.now) keys

-- the point whose coordinates are the values i and i + 1
abbrev pub value_point : List Float → ℕ → ℕ → Point
value_point values i j = point_at (get_or values i nan) (get_or values j nan)

unfoldable pub call_of : Op → List Float → Calls.Call
call_of Move v = Call.Move (value_point v 0 1)
call_of Line v = Call.Line (value_point v 0 1)
call_of Quad v = Call.Quad (value_point v 0 1) (value_point v 2 3)
call_of RatQuad v = Call.RatQuad (value_point v 0 1) (value_point v 2 3) (get_or v 4 nan)
call_of Cubic v = Call.Cubic (value_point v 0 1) (value_point v 2 3) (value_point v 4 5)
call_of RatCubic v = Call.RatCubic (value_point v 0 1) (value_point v 2 3) (value_point v 4 5) (get_or v 6 nan) (get_or v 7 nan)
