-- A contour as plain lists, what each call adds to it, and the contours that a list of calls draws. Assumes nothing.
use Prim.Native.Nat.{ℕ, zero, suc, ◌+◌}
use native.Mathlib.Omega.{arith}
use mathlib.Core.Path.{◌≡◌, refl, sym, ap, ◌∙◌}
use mathlib.Core.Bool.{Bool, true, false, not, ◌||◌, cond, true≢false}
use mathlib.Core.List.{List, [], ◌∷◌, ◌++◌, map}
use lib.ListN.{length, length-append}
use lib.Ieee.{Float, is_nan, nan, inf, fin, le, div, of_bits}
use Rattle.leaves.specs.Single.{◌⊗◌, zero32, one32, recip}
use Rattle.point.specs.declared.Point.{Point}
use Rattle.point.specs.declared.WeightedPoint.{WeightedPoint}
use Rattle.point.specs.Point.{point_at, plain, applied_of}
use Rattle.store.specs.declared.StoreState.{StoreState}
use Rattle.store.specs.declared.Call.{Call}
use Rattle.store.specs.declared.Call.TheVariants.{Move, Line, Quad, Cubic, RatQuad, RatCubic, Build}
use Rattle.store.specs.Columns.{Columns, columns, state_at, move_command, stored_point_of}
use Rattle.store.specs.Closing.{unclosed_of}
use Rattle.store.specs.Drawing.{Writes, every, coordinate_ok_of, coordinates_of, weight_ok_of, weights_of, appended, closed, writes_of}
use Rattle.store.specs.Drawable.{stored_ok_of, total_uses_of}
use Rattle.store.specs.Contours.{Drawing, drawing}
use Rattle.store.specs.OwnCalls.{moves_of, draws_of}
use Rattle.store.proofs.Ranges.{product_stored}
use Rattle.store.proofs.Keeping.{first_point}
use Rattle.store.proofs.Written.{x_of, y_of, weight_of, uses_append}
use Rattle.store.proofs.Built.{same_self}

-- ---- a contour: the point of its Move, and the points and commands after it
pub record Contour : Type 0 where
  pub first : Point
  pub more : List WeightedPoint
  pub kinds : List ℕ

abbrev pub contour : Point → List WeightedPoint → List ℕ → Contour
contour first more kinds = record { first = first; more = more; kinds = kinds }

abbrev pub begun : Point → Contour
begun p = contour p [] []

abbrev pub points_of : Contour → List WeightedPoint
points_of s = plain s.first ∷ s.more

abbrev pub commands_of : Contour → List ℕ
commands_of s = move_command ∷ s.kinds

-- the same in a store of its own, with no room to spare
abbrev pub columns_of : List WeightedPoint → List ℕ → Columns
columns_of ps ks = columns (map x_of ps) (map y_of ps) (map weight_of ps) ks

abbrev pub own_state : Contour → StoreState
own_state s = state_at (length (points_of s)) (length (commands_of s)) 0

abbrev pub own_columns : Contour → Columns
own_columns s = columns_of (points_of s) (commands_of s)

abbrev pub drawing_of : Contour → Drawing
drawing_of s = drawing (own_state s) (own_columns s)

-- ---- what calls other than a Move add to it
abbrev pub added_by : Call → Contour → Writes
added_by call s = writes_of call (own_state s) (own_columns s)

abbrev pub with_call : Call → Contour → Contour
with_call call s = contour s.first (s.more ++ (added_by call s).points) (s.kinds ++ (added_by call s).commands)

abbrev pub with_calls : List Call → Contour → Contour
with_calls [] s = s
with_calls (call ∷ calls) s = with_calls calls (with_call call s)

pub with_append : (calls more : List Call) (s : Contour) → with_calls (calls ++ more) s ≡ with_calls more (with_calls calls s)
with_append [] more s = refl
with_append (call ∷ calls) more s = with_append calls more (with_call call s)

-- ---- a call is a Move, or it is another
pub by_move : (P : Call → Type 0) → ((p : Point) → P (Move p)) → ((call : Call) → moves_of call ≡ false → P call) → (call : Call) → P call
by_move P m o (Move p) = m p
by_move P m o (Line p) = o (Line p) refl
by_move P m o (Quad p1 p2) = o (Quad p1 p2) refl
by_move P m o (Cubic p1 p2 p3) = o (Cubic p1 p2 p3) refl
by_move P m o (RatQuad p1 p2 w) = o (RatQuad p1 p2 w) refl
by_move P m o (RatCubic p1 p2 p3 w1 w2) = o (RatCubic p1 p2 p3 w1 w2) refl
by_move P m o Build = o Build refl

-- commands with no Move among them
abbrev pub NoMoves : List ℕ → Type 0
NoMoves [] = Unit {0}
NoMoves (zero ∷ ks) = ⊥
NoMoves (suc k ∷ ks) = NoMoves ks

pub no_moves_append : (ks ls : List ℕ) → NoMoves ks → NoMoves ls → NoMoves (ks ++ ls)
no_moves_append [] ls h k = k
no_moves_append (zero ∷ ks) ls h k = h
no_moves_append (suc n ∷ ks) ls h k = no_moves_append ks ls h k

module _ (st : StoreState) (c : Columns) where
  abbrev Added : Writes → Type 0
  Added w = (length w.points ≡ total_uses_of w.commands) × NoMoves w.commands

  closed_added : (b : Bool) → Added (closed st c b)
  unfolding closed appended total_uses_of
  closed_added true = (refl, tt)
  closed_added false = (refl, tt)

  writes_added : (call : Call) → moves_of call ≡ false → Added (writes_of call st c)
  unfolding writes_of appended total_uses_of
  writes_added (Move p) e = absurd (true≢false e)
  writes_added (Line p) e = (refl, tt)
  writes_added (Quad p1 p2) e = (refl, tt)
  writes_added (Cubic p1 p2 p3) e = (refl, tt)
  writes_added (RatQuad p1 p2 w) e = (refl, tt)
  writes_added (RatCubic p1 p2 p3 w1 w2) e = (refl, tt)
  writes_added Build e = closed_added (unclosed_of st c)

-- ---- a contour as calls that pass the tests 1 and 2 leave it
abbrev pub Fit : Call → Type 0
Fit call = (every coordinate_ok_of (coordinates_of call) ≡ true) × (every weight_ok_of (weights_of call) ≡ true)

pub record Regular (s : Contour) : Type 0 where
  pub move : Fit (Move s.first)
  pub uses : length s.more ≡ total_uses_of s.kinds
  pub curves : NoMoves s.kinds

pub begun_regular : (p : Point) → Fit (Move p) → Regular (begun p)
unfolding total_uses_of
begun_regular p h = record { move = h; uses = refl; curves = tt }

pub regular_kept : (call : Call) (s : Contour) → moves_of call ≡ false → Regular s → Regular (with_call call s)
regular_kept call s e g =
    let a = writes_added (own_state s) (own_columns s) call e in
    let ps = (added_by call s).points in
    let ks = (added_by call s).commands in
    record {
      move = g.move;
      uses = length-append s.more ps ∙ sum g.uses a.0 ∙ sym (uses_append s.kinds ks);
      curves = no_moves_append s.kinds ks g.curves a.1;
    }
  where
    sum : {a b m n : ℕ} → a ≡ b → m ≡ n → a + m ≡ b + n
    sum e f = omega arith

-- ---- nothing is drawn yet: a build adds nothing, since the only point equals itself
stored_number : (v : Float) → stored_ok_of v ≡ true → is_nan v ≡ false
unfolding stored_ok_of le is_nan of_bits
stored_number nan e = absurd (true≢false (sym e))
stored_number (inf s) e = refl
stored_number (fin s m x) e = refl

one_recip : weight_ok_of (recip one32) ≡ true
unfolding weight_ok_of le div of_bits
one_recip = refl

abbrev pub own_unclosed : Contour → Bool
own_unclosed s = unclosed_of (own_state s) (own_columns s)

begun_closed : (p : Point) → Fit (Move p) → own_unclosed (begun p) ≡ false
unfolding unclosed_of stored_point_of coordinates_of applied_of
begun_closed p h =
    let q = first_point p [] h.0 in
    ap not (same_self (applied_of (plain p)) (number p.x q.0) (number p.y q.1))
  where
    number : (v : Float) → coordinate_ok_of v ≡ true → is_nan (v ⊗ recip one32) ≡ false
    number v e = stored_number (v ⊗ recip one32) (product_stored v (recip one32) e one_recip)

length_zero : {A : Type 0} (l : List A) → length l ≡ 0 → l ≡ []
length_zero [] e = refl
length_zero (a ∷ l) e = absurd (omega arith)

pub nothing_drawn : (s : Contour) → Regular s → s.kinds ≡ [] → s ≡ begun s.first
unfolding total_uses_of
nothing_drawn s g e =
    let m = length_zero s.more (g.uses ∙ ap total_uses_of e) in
    ap (λ (ks : List ℕ). contour s.first s.more ks) e ∙ ap (λ (ps : List WeightedPoint). contour s.first ps []) m

-- ---- whether anything is drawn
abbrev pub some : List ℕ → Bool
some [] = false
some (k ∷ ks) = true

some_append : (ks : List ℕ) (k : ℕ) → some (ks ++ k ∷ []) ≡ (some ks || true)
some_append [] k = refl
some_append (l ∷ ks) k = refl

some_built : (s : Contour) → Regular s → (ks : List ℕ) → s.kinds ≡ ks → some (with_call Build s).kinds ≡ (some ks || false)
unfolding writes_of closed
some_built s g [] e = ap (λ (t : Contour). some (with_call Build t).kinds) (nothing_drawn s g e) ∙ rw (begun_closed s.first g.move)
some_built s g (k ∷ ks) e = rw e

pub some_kept : (call : Call) (s : Contour) → moves_of call ≡ false → Regular s → some (with_call call s).kinds ≡ (some s.kinds || draws_of call)
unfolding writes_of appended
some_kept (Move p) s e g = absurd (true≢false e)
some_kept (Line p) s e g = some_append s.kinds 1
some_kept (Quad p1 p2) s e g = some_append s.kinds 2
some_kept (Cubic p1 p2 p3) s e g = some_append s.kinds 3
some_kept (RatQuad p1 p2 w) s e g = some_append s.kinds 2
some_kept (RatCubic p1 p2 p3 w1 w2) s e g = some_append s.kinds 3
some_kept Build s e g = some_built s g s.kinds refl

-- ---- the contours that calls draw, from one that is begun: a Move closes it and begins another, or overwrites it where nothing is drawn
abbrev pub target_of : Call → Point
target_of (Move p) = p
target_of (Line p) = p
target_of (Quad p1 p2) = p2
target_of (Cubic p1 p2 p3) = p3
target_of (RatQuad p1 p2 w) = p2
target_of (RatCubic p1 p2 p3 w1 w2) = p3
target_of Build = point_at zero32 zero32

abbrev pub left : Bool → Contour → List Contour → List Contour
left true s later = with_call Build s ∷ later
left false s later = later

abbrev pub listed_by : Contour → List Call → List Contour
listed_by s [] = s ∷ []
listed_by s (call ∷ calls) = cond (moves_of call) (left (some s.kinds) s (listed_by (begun (target_of call)) calls)) (listed_by (with_call call s) calls)

abbrev pub AllFit : List Call → Type 0
AllFit [] = Unit {0}
AllFit (call ∷ calls) = Fit call × AllFit calls

abbrev pub AllRegular : List Contour → Type 0
AllRegular [] = Unit {0}
AllRegular (s ∷ rest) = Regular s × AllRegular rest

pub listed_regular : (s : Contour) (calls : List Call) → Regular s → AllFit calls → AllRegular (listed_by s calls)
listed_regular s [] g h = (g, tt)
listed_regular s (call ∷ calls) g h =
    by_move (λ call. Fit call → AllRegular (listed_by s (call ∷ calls)))
    (λ p f. left_regular (some s.kinds) _ (listed_regular (begun p) calls (begun_regular p f) h.1))
    (λ call e f. rw e (listed_regular (with_call call s) calls (regular_kept call s e g) h.1)) call h.0
  where
    left_regular : (b : Bool) (later : List Contour) → AllRegular later → AllRegular (left b s later)
    left_regular true later h = (regular_kept Build s refl g, h)
    left_regular false later h = h
