-- A store that holds given points and commands: what a call writes on it, and what it then holds. Assumes nothing.
use Prim.Native.Nat.{ℕ, zero, suc, ◌+◌, ◌-◌, ◌≤◌, ◌<◌}
use native.Mathlib.Omega.{arith}
use native.Mathlib.Nat.{add-zero, le-add_right}
use mathlib.Core.Path.{◌≡◌, refl, sym, ap, ap₂, ◌∙◌, subst}
use mathlib.Core.Bool.{Bool, true, false, not, true≢false}
use mathlib.Core.List.{List, [], ◌∷◌, ◌++◌, map, map-append}
use lib.ListN.{length, get_or, take, length-append, length-map}
use lib.Seq.{sets, take_at, take-take, get_or-take, get_or-append-add}
use lib.Dec.{eqb}
use lib.Ieee.{Float, nan}
use borrow.Author.Tests.{ne_eqb}
use Rattle.point.specs.declared.Point.{Point}
use Rattle.point.specs.declared.WeightedPoint.{WeightedPoint}
use Rattle.point.specs.Point.{plain, applied_of, same_of, rational_of}
use Rattle.store.specs.declared.StoreState.{StoreState}
use Rattle.store.specs.declared.Call.{Call}
use Rattle.store.specs.declared.Call.TheVariants.{Move, Line, Quad, Cubic, RatQuad, RatCubic, Build}
use Rattle.store.specs.Columns.{Columns, columns, state_at, move_command, stored_point_of, last_command_of}
use Rattle.store.specs.Closing.{unclosed_of}
use Rattle.store.specs.Drawing.{Outcome, Writes, writes, appended, closed, moved, writes_of, state_after, draw_of}
use Rattle.store.specs.OwnCalls.{moves_of}
use Rattle.store.proofs.Deciding.{Fitting, room_fits}
use Rattle.store.proofs.Sound.{Sound}
use Rattle.store.proofs.Written.{x_of, y_of, weight_of, all_written, take_sets, take_mapped}
use Rattle.store.proofs.Laws.{Accepted, accepted_outcome, drawn_sound}
use Rattle.store.proofs.Listed.{Contour, points_of, commands_of, own_state, own_columns, own_unclosed, added_by, some, NoMoves}

pub record Holds (ps : List WeightedPoint) (ks : List ℕ) (from : ℕ) (st : StoreState) (c : Columns) : Type 0 where
  pub sound : Sound st c
  pub state : st ≡ state_at (length ps) (length ks) from
  pub x : take (length ps) c.x ≡ map x_of ps
  pub y : take (length ps) c.y ≡ map y_of ps
  pub weight : take (length ps) c.weight ≡ map weight_of ps
  pub commands : take (length ks) c.commands ≡ ks

-- ---- points written after the first ones of a column
column_front : (f : WeightedPoint → Float) (front back : List WeightedPoint) (l : List Float) → take (length (front ++ back)) l ≡ map f (front ++ back)
    → take (length front) l ≡ map f front
column_front f front back l e =
    let m = length front in
    let n = length (front ++ back) in
    let h : m ≤ n = rw length-append (le-add_right m (length back)) in
    sym (take-take m n l h) ∙ ap (take m) (e ∙ map-append f front back) ∙ take_at (map f front) (map f back) m (length-map front f)

column_written : (f : WeightedPoint → Float) (front back new : List WeightedPoint) (l : List Float) → take (length (front ++ back)) l ≡ map f (front ++ back)
    → length front + length new ≤ length l → take (length (front ++ new)) (sets l (length front) (map f new)) ≡ map f (front ++ new)
column_written f front back new l e h =
    ap (λ (n : ℕ). take n (sets l (length front) (map f new))) (length-append front new) ∙ take_mapped f new l (length front) h
    ∙ ap (λ (r : List Float). r ++ map f new) (column_front f front back l e) ∙ sym (map-append f front new)

commands_written : (ks new l : List ℕ) → take (length ks) l ≡ ks → length ks + length new ≤ length l
    → take (length (ks ++ new)) (sets l (length ks) new) ≡ ks ++ new
commands_written ks new l e h =
    ap (λ (n : ℕ). take n (sets l (length ks) new)) (length-append ks new) ∙ take_sets new l (length ks) h ∙ ap (λ (r : List ℕ). r ++ new) e

-- a call that is carried out, and writes behind the points `front`
module _ (call : Call) (st : StoreState) (c : Columns) (front back : List WeightedPoint) (ks : List ℕ) (from : ℕ) (h : Holds (front ++ back) ks from st c)
    (a : Accepted call st c) (w : Writes) (e : writes_of call st c ≡ w) (place : w.at ≡ length front) where
  fitting : Fitting w st c
  fitting = rw e at (room_fits st c h.sound.counted (writes_of call st c) a.room)

  after_is : (accepted_outcome call st c).columns
      ≡ columns (sets c.x (length front) (map x_of w.points)) (sets c.y (length front) (map y_of w.points))
      (sets c.weight (length front) (map weight_of w.points)) (sets c.commands (length ks) w.commands)
  after_is = rw e (all_written w st c ∙ rw (place, h.state))

  accepted_holds : Holds (front ++ w.points) (ks ++ w.commands) w.opening (accepted_outcome call st c).state (accepted_outcome call st c).columns
  unfolding state_after
  accepted_holds =
      let r = fitting in
      let room = rw place at r.points in
      record {
        sound = subst (λ (o : Outcome). Sound o.state o.columns) a.outcome (drawn_sound call st c h.sound);
        state = rw (e, place, h.state, length-append front w.points, length-append ks w.commands);
        x = ap (λ (d : Columns). take (length (front ++ w.points)) d.x) after_is ∙ column_written x_of front back w.points c.x h.x room.x;
        y = ap (λ (d : Columns). take (length (front ++ w.points)) d.y) after_is ∙ column_written y_of front back w.points c.y h.y room.y;
        weight =
            ap (λ (d : Columns). take (length (front ++ w.points)) d.weight) after_is
            ∙ column_written weight_of front back w.points c.weight h.weight room.weight;
        commands =
            ap (λ (d : Columns). take (length (ks ++ w.commands)) d.commands) after_is
            ∙ commands_written ks w.commands c.commands h.commands (rw h.state at r.commands);
      }

  pub call_holds : Holds (front ++ w.points) (ks ++ w.commands) w.opening (draw_of call st c).state (draw_of call st c).columns
  call_holds =
      subst (λ (o : Outcome). Holds (front ++ w.points) (ks ++ w.commands) w.opening o.state o.columns) (sym a.outcome) accepted_holds

-- ---- a contour that stands at the end of a store, behind the points bp and the commands bk: an entry of it is one of the store's
entry_at : {A : Type 0} (l before own : List A) (i : ℕ) (d : A) → take (length (before ++ own)) l ≡ before ++ own → i < length own
    → get_or l (length before + i) d ≡ get_or own i d
entry_at l before own i d e h =
    let n = length (before ++ own) in
    let k : length before + i < n = rw length-append (omega arith) in
    sym (get_or-take n l (length before + i) d k) ∙ rw e (get_or-append-add before own i d)

mapped_at : (f : WeightedPoint → Float) (l : List Float) (before own : List WeightedPoint) (i : ℕ)
    → take (length (before ++ own)) l ≡ map f (before ++ own) → i < length own → get_or l (length before + i) nan ≡ get_or (map f own) i nan
mapped_at f l before own i e h =
    let all = map f before ++ map f own in
    let n : length (before ++ own) ≡ length all = sym (length-map (before ++ own) f) ∙ ap length (map-append f before own) in
    let t : take (length all) l ≡ all = ap (λ (k : ℕ). take k l) (sym n) ∙ e ∙ map-append f before own in
    ap (λ (k : ℕ). get_or l (k + i) nan) (sym (length-map before f)) ∙ entry_at l (map f before) (map f own) i nan t (rw (length-map own f) h)

module _ (bp : List WeightedPoint) (bk : List ℕ) (s : Contour) (st : StoreState) (c : Columns)
    (h : Holds (bp ++ points_of s) (bk ++ commands_of s) (length bp) st c) where
  point_at_lem : (i : ℕ) → i < length (points_of s) → stored_point_of c (length bp + i) ≡ stored_point_of (own_columns s) i
  unfolding stored_point_of
  point_at_lem i k =
      let ps = points_of s in
      rw (mapped_at x_of c.x bp ps i h.x k, mapped_at y_of c.y bp ps i h.y k, mapped_at weight_of c.weight bp ps i h.weight k)

  open_point : stored_point_of c st.opening ≡ plain s.first
  unfolding stored_point_of
  open_point = ap (stored_point_of c) (ap (λ (t : StoreState). t.opening) h.state ∙ sym (add-zero (length bp))) ∙ point_at_lem 0 (omega arith)

  last_point : stored_point_of c (st.points - 1) ≡ stored_point_of (own_columns s) (length (points_of s) - 1)
  last_point =
      let n = length (points_of s) in
      let e : st.points ≡ length bp + n = ap (λ (t : StoreState). t.points) h.state ∙ length-append bp (points_of s) in
      let i : st.points - 1 ≡ length bp + (n - 1) = omega arith in
      ap (stored_point_of c) i ∙ point_at_lem (n - 1) (omega arith)

  unclosed_own : unclosed_of st c ≡ own_unclosed s
  unfolding unclosed_of stored_point_of
  unclosed_own = ap₂ (λ (a b : WeightedPoint). not (same_of (applied_of a) (applied_of b))) last_point open_point

  -- ---- what a call other than a Move writes
  abbrev Shifted : Call → Type 0
  Shifted call = writes_of call st c ≡ writes (length (bp ++ points_of s)) (added_by call s).points (added_by call s).commands (length bp)

  appended_own : (ps : List WeightedPoint) (k : ℕ) → appended st ps k ≡ writes (length (bp ++ points_of s)) ps (k ∷ []) (length bp)
  unfolding appended
  appended_own ps k = ap (λ (t : StoreState). writes t.points ps (k ∷ []) t.opening) h.state

  closed_own : (b : Bool) → let own = closed (own_state s) (own_columns s) b in
      closed st c b ≡ writes (length (bp ++ points_of s)) own.points own.commands (length bp)
  unfolding closed appended stored_point_of
  closed_own true = rw (open_point, h.state)
  closed_own false = rw h.state

  pub shifted : (call : Call) → moves_of call ≡ false → Shifted call
  unfolding writes_of appended
  shifted (Move p) e = absurd (true≢false e)
  shifted (Line p) e = appended_own (plain p ∷ []) 1
  shifted (Quad p1 p2) e = appended_own (plain p1 ∷ plain p2 ∷ []) 2
  shifted (Cubic p1 p2 p3) e = appended_own (plain p1 ∷ plain p2 ∷ plain p3 ∷ []) 3
  shifted (RatQuad p1 p2 w) e = appended_own (rational_of p1 w ∷ plain p2 ∷ []) 2
  shifted (RatCubic p1 p2 p3 w1 w2) e = appended_own (rational_of p1 w1 ∷ rational_of p2 w2 ∷ plain p3 ∷ []) 3
  shifted Build e = ap (closed st c) unclosed_own ∙ closed_own (own_unclosed s)

  -- ---- what a Move writes: the closing and its own point, or its point over the last one
  last_command : last_command_of st c ≡ get_or (commands_of s) (length s.kinds) 0
  unfolding last_command_of
  last_command =
      let m = length s.kinds in
      let n = st.commands in
      let e : n ≡ length bk + suc m = ap (λ (t : StoreState). t.commands) h.state ∙ length-append bk (commands_of s) in
      let i : n - 1 ≡ length bk + m = omega arith in
      ap (λ (k : ℕ). get_or c.commands k 0) i ∙ entry_at c.commands bk (commands_of s) m 0 h.commands (omega arith)

  moving : (p : Point) (b : Bool) → let own = closed (own_state s) (own_columns s) b in
      moved st c p false b
      ≡ writes (length (bp ++ points_of s)) (own.points ++ plain p ∷ []) (own.commands ++ move_command ∷ []) (length (bp ++ points_of s) + length own.points)
  unfolding moved closed appended stored_point_of
  moving p true = rw (open_point, h.state)
  moving p false = rw (h.state, add-zero)

  last_is_move : NoMoves s.kinds → eqb (last_command_of st c) move_command ≡ not (some s.kinds)
  last_is_move g = ap (λ (k : ℕ). eqb k move_command) last_command ∙ start s.kinds g
    where
      curve : (ks : List ℕ) (k : ℕ) → NoMoves (k ∷ ks) → eqb (get_or (k ∷ ks) (length ks) 0) 0 ≡ false
      curve [] zero g = absurd g
      curve [] (suc k) g = ne_eqb (suc k) 0 (λ e. omega arith)
      curve (l ∷ ks) zero g = absurd g
      curve (l ∷ ks) (suc k) g = curve ks l g

      start : (ks : List ℕ) → NoMoves ks → eqb (get_or (0 ∷ ks) (length ks) 0) 0 ≡ not (some ks)
      start [] g = refl
      start (k ∷ ks) g = curve ks k g

  pub moves_on : (p : Point) → NoMoves s.kinds → some s.kinds ≡ true
      → writes_of (Move p) st c
      ≡ writes (length (bp ++ points_of s)) ((added_by Build s).points ++ plain p ∷ []) ((added_by Build s).commands ++ move_command ∷ [])
      (length (bp ++ points_of s) + length (added_by Build s).points)
  unfolding writes_of
  moves_on p g e = ap₂ (moved st c p) (last_is_move g ∙ ap not e) unclosed_own ∙ moving p (own_unclosed s)

  pub moves_again : (p : Point) → NoMoves s.kinds → some s.kinds ≡ false → length s.more ≡ 0
      → writes_of (Move p) st c ≡ writes (length bp) (plain p ∷ []) [] (length bp)
  unfolding writes_of moved
  moves_again p g e z =
      let n : st.points ≡ length bp + suc (length s.more) = ap (λ (t : StoreState). t.points) h.state ∙ length-append bp (points_of s) in
      let i : st.points - 1 ≡ length bp = omega arith in
      let b = last_is_move g ∙ ap not e in
      ap (λ (again : Bool). moved st c p again (unclosed_of st c)) b ∙ rw (i, h.state)
