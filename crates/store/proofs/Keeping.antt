-- The writes of an accepted call keep a store in the state that flattening's test for answer 3 requires. Assumes nothing.
use Prim.Native.Nat.{ℕ, ◌+◌, ◌≤◌, ◌<◌}
use native.Mathlib.Omega.{arith}
use native.Mathlib.Nat.{le_refl}
use mathlib.Core.Path.{◌≡◌, refl, sym, ap, ◌∙◌, subst}
use mathlib.Core.Bool.{Bool, true, false}
use mathlib.Core.List.{List, [], ◌∷◌, ◌++◌, map}
use lib.ListN.{length, get_or, take, get_or-append}
use lib.Seq.{sets, length-sets, length-take-le, get_or-take}
use lib.Dec.{leb}
use lib.Ieee.{Float, nan}
use mathlib.Mathlib.Data.Bool.Basic.{and_elim_left, and_elim_right, and_intro}
use Rattle.point.specs.declared.WeightedPoint.{WeightedPoint}
use Rattle.point.specs.declared.Point.{Point}
use Rattle.point.specs.Point.{plain, rational_of}
use Rattle.store.specs.declared.StoreState.{StoreState}
use Rattle.store.specs.declared.Call.{Call}
use Rattle.store.specs.declared.Call.TheVariants.{Move, Line, Quad, Cubic, RatQuad, RatCubic, Build}
use Rattle.store.specs.Columns.{Columns, columns, uses_of, stored_point_of}
use Rattle.store.specs.Drawing.{Writes, every, coordinate_ok_of, weight_ok_of, coordinates_of, weights_of, appended, closed, moved, writes_of, written}
use Rattle.store.specs.Drawing.{state_after}
use Rattle.store.specs.Drawable.{stored_ok_of, known_of, total_uses_of}
use Rattle.store.proofs.Deciding.{Fitting}
use Rattle.store.proofs.Tests.{every_append}
use Rattle.store.proofs.Ranges.{coordinate_stored, product_stored, one_ok}
use Rattle.store.proofs.Written.{x_of, y_of, weight_of, all_written, take_sets, take_mapped, every_take, every_at, known_append, uses_append}
use Rattle.store.proofs.Sound.{Sound}

-- ---- what a call writes
pub record PointOk (p : WeightedPoint) : Type 0 where
  pub weight : weight_ok_of p.weight ≡ true
  pub x : stored_ok_of p.point.x ≡ true
  pub y : stored_ok_of p.point.y ≡ true

abbrev AllOk : List WeightedPoint → Type 0
AllOk [] = Unit {0}
AllOk (p ∷ ps) = PointOk p × AllOk ps

pub record Good (w : Writes) (st : StoreState) : Type 0 where
  pub at : w.at ≤ st.points
  pub count : w.at + length w.points ≡ st.points + total_uses_of w.commands
  pub opening : w.opening < w.at + length w.points
  pub known : known_of w.commands ≡ true
  pub points : AllOk w.points

abbrev Ok : Float → Type 0
Ok v = coordinate_ok_of v ≡ true

plain_ok : (p : Point) → Ok p.x → Ok p.y → PointOk (plain p)
plain_ok p h k = record { weight = one_ok; x = coordinate_stored p.x h; y = coordinate_stored p.y k }

rational_ok : (p : Point) (w : Float) → Ok p.x → Ok p.y → weight_ok_of w ≡ true → PointOk (rational_of p w)
unfolding rational_of
rational_ok p w h k l = record { weight = l; x = product_stored p.x w h l; y = product_stored p.y w k l }

head_ok : (ok : Float → Bool) (v : Float) (vs : List Float) → every ok (v ∷ vs) ≡ true → ok v ≡ true
unfolding every
head_ok ok v vs e = and_elim_left (ok v) (every ok vs) e

tail_ok : (ok : Float → Bool) (v : Float) (vs : List Float) → every ok (v ∷ vs) ≡ true → every ok vs ≡ true
unfolding every
tail_ok ok v vs e = and_elim_right (ok v) (every ok vs) e

abbrev Coordinates : List Float → Type 0
Coordinates l = every coordinate_ok_of l ≡ true

-- a point at the head of the coordinates of a call, and what comes after it
pub first_point : (p : Point) (l : List Float) → Coordinates (p.x ∷ p.y ∷ l) → Ok p.x × Ok p.y
first_point p l e = (head_ok coordinate_ok_of p.x (p.y ∷ l) e, head_ok coordinate_ok_of p.y l (tail_ok coordinate_ok_of p.x (p.y ∷ l) e))

behind : (p : Point) (l : List Float) → Coordinates (p.x ∷ p.y ∷ l) → Coordinates l
behind p l e = tail_ok coordinate_ok_of p.y l (tail_ok coordinate_ok_of p.x (p.y ∷ l) e)

module _ (st : StoreState) (c : Columns) (g : Sound st c) where
  opening_ok : PointOk (stored_point_of c st.opening)
  unfolding stored_point_of
  opening_ok =
      let f = g.counted in
      let n = st.points in
      let i = st.opening in
      let hy : n ≤ length c.y = omega arith in
      let hw : n ≤ length c.weight = omega arith in
      record {
        weight = at weight_ok_of c.weight n i f.opening hw g.weights;
        x = at stored_ok_of c.x n i f.opening f.points g.xs;
        y = at stored_ok_of c.y n i f.opening hy g.ys;
      }
    where
      at : (ok : Float → Bool) (l : List Float) (n i : ℕ) → i < n → n ≤ length l → every ok (take n l) ≡ true → ok (get_or l i nan) ≡ true
      at ok l n i h k e = ap ok (sym (get_or-take n l i nan h)) ∙ every_at ok nan (take n l) i (rw (length-take-le n l k) h) e

  appended_good : (ps : List WeightedPoint) (k : ℕ) → AllOk ps → length ps ≡ uses_of k → leb k 3 ≡ true → Good (appended st ps k) st
  unfolding appended total_uses_of known_of
  appended_good ps k a e h =
      let o = g.counted.opening in
      record { at = le_refl st.points; count = sum st.points e; opening = omega arith; known = and_intro h refl; points = a }
    where
      sum : (n : ℕ) {a b : ℕ} → a ≡ b → n + a ≡ n + (b + 0)
      sum n e = omega arith

  closed_good : (unclosed : Bool) → Good (closed st c unclosed) st
  unfolding closed total_uses_of known_of
  closed_good true = appended_good (stored_point_of c st.opening ∷ []) 1 (opening_ok, tt) refl refl
  closed_good false = let o = g.counted.opening in record { at = le_refl st.points; count = refl; opening = omega arith; known = refl; points = tt }

  moved_good : (p : Point) → PointOk (plain p) → (again unclosed : Bool) → Good (moved st c p again unclosed) st
  unfolding moved total_uses_of known_of
  moved_good p a true unclosed =
      let f = g.counted in record { at = omega arith; count = omega arith; opening = omega arith; known = refl; points = (a, tt) }
  moved_good p a false true = record { at = le_refl st.points; count = refl; opening = omega arith; known = refl; points = (opening_ok, (a, tt)) }
  moved_good p a false false = record { at = le_refl st.points; count = refl; opening = omega arith; known = refl; points = (a, tt) }

  pub writes_good : (call : Call) → Coordinates (coordinates_of call) → every weight_ok_of (weights_of call) ≡ true → Good (writes_of call st c) st
  unfolding coordinates_of weights_of writes_of
  writes_good (Move p) h k = let q = first_point p [] h in moved_good p (plain_ok p q.0 q.1) _ _
  writes_good (Line p) h k = let q = first_point p [] h in appended_good (plain p ∷ []) 1 (plain_ok p q.0 q.1, tt) refl refl
  writes_good (Quad p1 p2) h k =
      let q1 = first_point p1 _ h in
      let q2 = first_point p2 [] (behind p1 _ h) in
      appended_good (plain p1 ∷ plain p2 ∷ []) 2 (plain_ok p1 q1.0 q1.1, (plain_ok p2 q2.0 q2.1, tt)) refl refl
  writes_good (Cubic p1 p2 p3) h k =
      let h2 = behind p1 _ h in
      let q1 = first_point p1 _ h in
      let q2 = first_point p2 _ h2 in
      let q3 = first_point p3 [] (behind p2 _ h2) in
      appended_good (plain p1 ∷ plain p2 ∷ plain p3 ∷ []) 3 (plain_ok p1 q1.0 q1.1, (plain_ok p2 q2.0 q2.1, (plain_ok p3 q3.0 q3.1, tt))) refl refl
  writes_good (RatQuad p1 p2 w) h k =
      let q1 = first_point p1 _ h in
      let q2 = first_point p2 [] (behind p1 _ h) in
      appended_good (rational_of p1 w ∷ plain p2 ∷ []) 2 (rational_ok p1 w q1.0 q1.1 (head_ok weight_ok_of w [] k), (plain_ok p2 q2.0 q2.1, tt)) refl refl
  writes_good (RatCubic p1 p2 p3 w1 w2) h k =
      let h2 = behind p1 _ h in
      let q1 = first_point p1 _ h in
      let q2 = first_point p2 _ h2 in
      let q3 = first_point p3 [] (behind p2 _ h2) in
      let l1 = head_ok weight_ok_of w1 (w2 ∷ []) k in
      let l2 = head_ok weight_ok_of w2 [] (tail_ok weight_ok_of w1 (w2 ∷ []) k) in
      appended_good (rational_of p1 w1 ∷ rational_of p2 w2 ∷ plain p3 ∷ []) 3
      (rational_ok p1 w1 q1.0 q1.1 l1, (rational_ok p2 w2 q2.0 q2.1 l2, (plain_ok p3 q3.0 q3.1, tt))) refl refl
  writes_good Build h k = closed_good _

-- ---- the points of good writes, column by column
weights_ok : (ps : List WeightedPoint) → AllOk ps → every weight_ok_of (map weight_of ps) ≡ true
unfolding every
weights_ok [] a = refl
weights_ok (p ∷ ps) a = and_intro a.0.weight (weights_ok ps a.1)

xs_ok : (ps : List WeightedPoint) → AllOk ps → every stored_ok_of (map x_of ps) ≡ true
unfolding every
xs_ok [] a = refl
xs_ok (p ∷ ps) a = and_intro a.0.x (xs_ok ps a.1)

ys_ok : (ps : List WeightedPoint) → AllOk ps → every stored_ok_of (map y_of ps) ≡ true
unfolding every
ys_ok [] a = refl
ys_ok (p ∷ ps) a = and_intro a.0.y (ys_ok ps a.1)

column_ok : (ok : Float → Bool) (part : WeightedPoint → Float) (ps : List WeightedPoint) (l : List Float) (i n : ℕ) → i ≤ n → i + length ps ≤ length l
    → every ok (take n l) ≡ true → every ok (map part ps) ≡ true → every ok (take (i + length ps) (sets l i (map part ps))) ≡ true
column_ok ok part ps l i n h k e a =
    ap (every ok) (take_mapped part ps l i k) ∙ every_append ok (take i l) (map part ps) ∙ and_intro (every_take ok l i n h e) a

module _ (st : StoreState) (c : Columns) (g : Sound st c) (w : Writes) (v : Good w st) (r : Fitting w st c) where
  abbrev after : Columns
  after =
      columns (sets c.x w.at (map x_of w.points)) (sets c.y w.at (map y_of w.points)) (sets c.weight w.at (map weight_of w.points))
      (sets c.commands st.commands w.commands)

  commands_after : take (st.commands + length w.commands) after.commands ≡ take st.commands c.commands ++ w.commands
  commands_after = take_sets w.commands c.commands st.commands r.commands

  first_kept : get_or after.commands 0 0 ≡ get_or c.commands 0 0
  first_kept =
      let n = st.commands in
      let m = n + length w.commands in
      let h : 0 < n = g.counted.begun in
      let hm : 0 < m = omega arith in
      let l : n ≤ length c.commands = g.counted.commands in
      sym (get_or-take m after.commands 0 0 hm) ∙ ap (λ (k : List ℕ). get_or k 0 0) commands_after
      ∙ get_or-append (take n c.commands) w.commands 0 0 (rw (length-take-le n c.commands l) h) ∙ get_or-take n c.commands 0 0 h

  sound_after : Sound (state_after w st) after
  unfolding state_after
  sound_after =
      let f = g.counted in
      let s = v.count in
      let o = v.opening in
      record {
        counted =
            record {
              y = length-sets c.y w.at (map y_of w.points) ∙ f.y ∙ sym (length-sets c.x w.at (map x_of w.points));
              weight = length-sets c.weight w.at (map weight_of w.points) ∙ f.weight ∙ sym (length-sets c.x w.at (map x_of w.points));
              some = omega arith;
              points = rw (length-sets c.x w.at (map x_of w.points)) r.points.x;
              begun = omega arith;
              commands = rw (length-sets c.commands st.commands w.commands) r.commands;
              opening = o;
            };
        known = ap known_of commands_after ∙ known_append (take st.commands c.commands) w.commands g.known v.known;
        first = first_kept ∙ g.first;
        uses = ap total_uses_of commands_after ∙ uses_append (take st.commands c.commands) w.commands ∙ ap (λ (n : ℕ). n + total_uses_of w.commands) g.uses ∙ sym s;
        weights = column_ok weight_ok_of weight_of w.points c.weight w.at st.points v.at r.points.weight g.weights (weights_ok w.points v.points);
        xs = column_ok stored_ok_of x_of w.points c.x w.at st.points v.at r.points.x g.xs (xs_ok w.points v.points);
        ys = column_ok stored_ok_of y_of w.points c.y w.at st.points v.at r.points.y g.ys (ys_ok w.points v.points);
      }

  pub sound_kept : Sound (state_after w st) (written w st c)
  sound_kept = subst (λ (d : Columns). Sound (state_after w st) d) (sym (all_written w st c)) sound_after
