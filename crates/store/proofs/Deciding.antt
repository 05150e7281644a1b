-- Room for what a call writes, and what writing does point by point and command by command. Assumes nothing.
use Prim.Native.Nat.{◌+◌, ◌≤◌}
use native.Mathlib.Nat.{le_refl}
use native.Mathlib.Omega.{arith}
use mathlib.Core.Path.{◌≡◌, ap}
use mathlib.Core.Bool.{Bool, true, false}
use mathlib.Core.List.{[]}
use lib.Dec.{leb}
use lib.ListN.{length}
use borrow.Author.Tests.{leb-true, le-leb, ne_eqb}
use mathlib.Mathlib.Data.Bool.Basic.{and_elim_left, and_elim_right}
use Rattle.answer.specs.Answer.{Done}
use Rattle.leaves.specs.Single.{zero32}
use Rattle.point.specs.declared.Point.{Point}
use Rattle.point.specs.declared.WeightedPoint.{WeightedPoint}
use Rattle.point.specs.Point.{point_at, plain}
use lib.Seq.{drop-cons}
use native.Mathlib.Numerals.{add-one}
use Rattle.std.proofs.Common.{ℕ, ◌<◌, List, drop, get_or, refl, cond, not, ◌||◌, ◌&&◌, eqb, add-zero, zero, suc, ◌∷◌}
use Rattle.std.proofs.Math.ListN.{drop_of_length-le}
use Rattle.store.specs.declared.StoreState.{StoreState}
use Rattle.store.specs.declared.Call.{Call}
use Rattle.store.specs.declared.Call.TheVariants.{Move, Line, Quad, Cubic, RatQuad, RatCubic, Build}
use Rattle.store.specs.Columns.{Columns, usable_of, even_of, state_at, move_command, put_point, put_command}
use Rattle.store.specs.Closing.{unclosed_of}
use Rattle.store.specs.Drawing.{Writes, appended, closed, moved, writes_of, room_of}
use Rattle.store.specs.Drawing.{Outcome, outcome, fresh_of, state_after, written, put_points, put_commands, writes}
use Rattle.store.specs.Writing.{carried_out}
use Rattle.store.proofs.Usable.{Counted, usable_counts}

-- n points have room in each column
pub record Room (n : ℕ) (c : Columns) : Type 0 where
  pub x : n ≤ length c.x
  pub y : n ≤ length c.y
  pub weight : n ≤ length c.weight

-- there is room for what will be written
pub record Fitting (w : Writes) (st : StoreState) (c : Columns) : Type 0 where
  pub points : Room (w.at + length w.points) c
  pub commands : st.commands + length w.commands ≤ length c.commands

-- ---- no call leaves a gap after the last point
moved_at : (st : StoreState) (c : Columns) (p : Point) (again unclosed : Bool) → (moved st c p again unclosed).at ≤ st.points
unfolding moved
moved_at st c p true unclosed = omega arith
moved_at st c p false true = le_refl st.points
moved_at st c p false false = le_refl st.points

closed_at : (st : StoreState) (c : Columns) (unclosed : Bool) → (closed st c unclosed).at ≤ st.points
unfolding closed appended
closed_at st c true = le_refl st.points
closed_at st c false = le_refl st.points

pub writes_at : (call : Call) (st : StoreState) (c : Columns) → (writes_of call st c).at ≤ st.points
unfolding writes_of appended
writes_at (Move p) st c = moved_at st c p _ _
writes_at (Line p) st c = le_refl st.points
writes_at (Quad p1 p2) st c = le_refl st.points
writes_at (Cubic p1 p2 p3) st c = le_refl st.points
writes_at (RatQuad p1 p2 w) st c = le_refl st.points
writes_at (RatCubic p1 p2 p3 w1 w2) st c = le_refl st.points
writes_at Build st c = closed_at st c _

-- columns of one length with room in x have room in all
pub room_fits : (st : StoreState) (c : Columns) → Counted st c → (w : Writes) → room_of w st c ≡ true → Fitting w st c
unfolding room_of
room_fits st c f w r =
    let behind = w.at + length w.points in
    let next = st.commands + length w.commands in
    let points = leb behind (length c.x) in
    let n = leb-true behind (length c.x) (and_elim_left points _ r) in
    let m = leb-true next (length c.commands) (and_elim_right points _ r) in
    record { points = record { x = n; y = omega arith; weight = omega arith }; commands = m }

-- ---- one point, or command, of a list
pub points_step : (at i : ℕ) (ps : List WeightedPoint) (d : WeightedPoint) (c : Columns) → i < length ps
    → put_points (at + i) (drop i ps) c ≡ put_points (at + (i + 1)) (drop (i + 1) ps) (put_point c (at + i) (get_or ps i d))
unfolding put_points
points_step at i ps d c h = let e : at + i + 1 ≡ at + (i + 1) = omega arith in rw (drop-cons ps i d h, ← add-one i) (ap (λ (j : ℕ). put_points j (drop (i + 1) ps) (put_point c (at + i) (get_or ps i d))) e)

pub commands_step : (at i : ℕ) (ks : List ℕ) (d : ℕ) (c : Columns) → i < length ks
    → put_commands (at + i) (drop i ks) c ≡ put_commands (at + (i + 1)) (drop (i + 1) ks) (put_command c (at + i) (get_or ks i d))
unfolding put_commands
commands_step at i ks d c h = let e : at + i + 1 ≡ at + (i + 1) = omega arith in rw (drop-cons ks i d h, ← add-one i) (ap (λ (j : ℕ). put_commands j (drop (i + 1) ks) (put_command c (at + i) (get_or ks i d))) e)

pub points_done : (at i : ℕ) (ps : List WeightedPoint) (c : Columns) → length ps ≤ i → put_points (at + i) (drop i ps) c ≡ c
unfolding put_points
points_done at i ps c h = rw (drop_of_length-le ps h)

pub commands_done : (at i : ℕ) (ks : List ℕ) (c : Columns) → length ks ≤ i → put_commands (at + i) (drop i ks) c ≡ c
unfolding put_commands
commands_done at i ks c h = rw (drop_of_length-le ks h)

-- ---- a closed contour: there is room for nothing, and it leaves the store as it is
pub close_none : (st : StoreState) (c : Columns) → usable_of st c ≡ true → unclosed_of st c ≡ false → outcome Done st c ≡ carried_out (writes_of Build st c) st c
unfolding writes_of closed carried_out room_of state_after written put_points put_commands
close_none st c u e =
    let f = usable_counts st c u in
    rw (e, add-zero st.points, add-zero st.commands, le-leb _ _ f.points, le-leb _ _ f.commands)

-- ---- a fresh drawing
module _ (c : Columns) where
  some : (n : ℕ) → leb 1 n ≡ not (eqb n 0)
  some zero = refl
  some (suc n) = rw (le-leb 1 (suc n) (omega arith), ne_eqb (suc n) 0 (λ e. omega arith))

  both : (a b : Bool) → (not a && not b) ≡ not (a || b)
  both true b = refl
  both false b = refl

  turned : (b : Bool) (o p : Outcome) → cond (not b) o p ≡ cond b p o
  turned true o p = refl
  turned false o p = refl

  pub fresh_even : {p : WeightedPoint} {st : StoreState} → even_of c ≡ true → p ≡ plain (point_at zero32 zero32) → st ≡ state_at 0 0 0
      → carried_out (writes 0 (p ∷ []) (move_command ∷ []) 0) st c ≡ fresh_of c
  unfolding fresh_of carried_out room_of state_after written put_points put_commands
  fresh_even e h k =
      let n = eqb (length c.x) 0 in
      let m = eqb (length c.commands) 0 in
      rw (k, h, e, some (length c.x), some (length c.commands), both n m) (turned (n || m) _ _)
