-- Laws of the drawing store, over the definitions: what a refusal keeps, that counts never fall, that a build closes, and that flattening's test for answer 3
-- finds no fault in what the calls draw. Assumes nothing.
use Prim.Native.Nat.{◌+◌, ◌≤◌, ◌<◌}
use native.Mathlib.Omega.{arith}
use native.Mathlib.Nat.{le_refl, le-add_right}
use mathlib.Core.Path.{◌≡◌, refl, sym, ap, ◌∙◌, subst}
use mathlib.Core.Bool.{Bool, true, false, not, ◌||◌, cond, false≢true, true≢false}
use mathlib.Core.List.{List, [], ◌∷◌, ◌++◌}
use lib.Dec.{eqb}
use lib.ListN.{length, length-set}
use lib.Seq.{take-suc-set, get_or-set_same}
use borrow.Author.Tests.{eqb-true, eqb-false}
use mathlib.Mathlib.Data.Bool.Basic.{and_elim_left, and_elim_right, or-eq-false-eq-eq-false-and-eq-false}
use Rattle.answer.specs.Answer.{Answer}
use Rattle.answer.specs.Answer.{Done, BadCoordinate, BadWeight, Unusable, StoreFull}
use Rattle.answer.specs.Number.{is_done}
use Rattle.answer.proofs.Laws.{done_is}
use Rattle.leaves.specs.Single.{zero32, one32}
use Rattle.point.specs.declared.Point.{Point}
use Rattle.point.specs.Point.{point_at, plain}
use Rattle.store.specs.declared.StoreState.{StoreState}
use Rattle.store.specs.declared.Call.{Call}
use Rattle.store.specs.declared.Call.TheVariants.{Move, Line, Quad, Cubic, RatQuad, RatCubic, Build}
use Rattle.store.specs.Columns.{Columns, state_at, move_command, put_point, put_command, even_of, usable_of}
use Rattle.store.specs.Drawing.{Outcome, outcome, every, coordinate_ok_of, weight_ok_of, coordinates_of, weights_of, appended, closed, moved, writes_of}
use Rattle.store.specs.Drawing.{written, state_after, room_of, answer_of, draw_of, fresh_of}
use Rattle.store.specs.Replay.{replay_of}
use Rattle.store.specs.Drawable.{stored_ok_of, known_of, total_uses_of, drawable_of}
use Rattle.store.proofs.Deciding.{room_fits}
use Rattle.store.proofs.Ranges.{one_ok, zero_stored}
use Rattle.store.proofs.Sound.{Sound, sound, sound_drawable, sound_usable}
use Rattle.store.proofs.Keeping.{writes_good, sound_kept}

-- ---- a call is refused and changes nothing, or all its tests passed and it is carried out
module _ (call : Call) (st : StoreState) (c : Columns) where
  abbrev pub refused_outcome : Outcome
  refused_outcome = outcome (answer_of call st c) st c

  abbrev pub accepted_outcome : Outcome
  accepted_outcome = outcome Done (state_after (writes_of call st c) st) (written (writes_of call st c) st c)

  cases : (b : Bool) → is_done (answer_of call st c) ≡ b → draw_of call st c ≡ cond b accepted_outcome refused_outcome
  unfolding draw_of
  cases b e = rw e

  -- the answer of a call is that of its tests
  pub draw_answer : (draw_of call st c).answer ≡ answer_of call st c
  draw_answer = go (is_done (answer_of call st c)) refl
    where
      go : (b : Bool) → is_done (answer_of call st c) ≡ b → (draw_of call st c).answer ≡ answer_of call st c
      go true e = ap (λ (o : Outcome). o.answer) (cases true e) ∙ sym (done_is (answer_of call st c) e)
      go false e = ap (λ (o : Outcome). o.answer) (cases false e)

  pub refused : is_done (draw_of call st c).answer ≡ false → draw_of call st c ≡ refused_outcome
  refused e = cases false (ap is_done (sym draw_answer) ∙ e)

  -- "on refusal return the old state, all buffers unchanged"
  pub refused_keeps : is_done (draw_of call st c).answer ≡ false → ((draw_of call st c).state ≡ st) × ((draw_of call st c).columns ≡ c)
  refused_keeps e = (ap (λ (o : Outcome). o.state) (refused e), ap (λ (o : Outcome). o.columns) (refused e))

  pub record Accepted : Type 0 where
    pub usable : usable_of st c ≡ true
    pub coordinates : every coordinate_ok_of (coordinates_of call) ≡ true
    pub weights : every weight_ok_of (weights_of call) ≡ true
    pub room : room_of (writes_of call st c) st c ≡ true
    pub outcome : draw_of call st c ≡ accepted_outcome

  abbrev answer_by : Bool → Bool → Bool → Bool → Answer
  answer_by u k w r = cond (not u) Unusable (cond (not k) BadCoordinate (cond (not w) BadWeight (cond (not r) StoreFull Done)))

  all_passed : (u k w r : Bool) → is_done (answer_by u k w r) ≡ true → (u ≡ true) × (k ≡ true) × (w ≡ true) × (r ≡ true)
  all_passed true true true true e = (refl, refl, refl, refl)
  all_passed true true true false e = absurd (false≢true e)
  all_passed true true false r e = absurd (false≢true e)
  all_passed true false w r e = absurd (false≢true e)
  all_passed false k w r e = absurd (false≢true e)

  pub accepted : is_done (draw_of call st c).answer ≡ true → Accepted
  unfolding answer_of
  accepted e =
      let d : is_done (answer_of call st c) ≡ true = ap is_done (sym draw_answer) ∙ e in
      let p = all_passed (usable_of st c) (every coordinate_ok_of (coordinates_of call)) (every weight_ok_of (weights_of call)) (room_of (writes_of call st c) st c) d in
      record { usable = p.0; coordinates = p.1; weights = p.2; room = p.3; outcome = cases true d }

-- fresh: "then with counts and index 0"
pub fresh_refused_keeps : (c : Columns) → is_done (fresh_of c).answer ≡ false → ((fresh_of c).state ≡ state_at 0 0 0) × ((fresh_of c).columns ≡ c)
unfolding fresh_of
fresh_refused_keeps c e = go (even_of c) (eqb (length c.x) 0 || eqb (length c.commands) 0) e
  where
    done : Outcome
    done = outcome Done (state_at 1 1 0) (put_command (put_point c 0 (plain (point_at zero32 zero32))) 0 move_command)

    by : Bool → Bool → Outcome
    by v n = cond (not v) (outcome Unusable (state_at 0 0 0) c) (cond n (outcome StoreFull (state_at 0 0 0) c) done)

    go : (v n : Bool) → is_done (by v n).answer ≡ false → ((by v n).state ≡ state_at 0 0 0) × ((by v n).columns ≡ c)
    go false n e = (refl, refl)
    go true true e = (refl, refl)
    go true false e = absurd (true≢false e)

-- ---- no call but fresh lowers a count
moved_count : (st : StoreState) (c : Columns) (p : Point) (again unclosed : Bool)
    → st.points ≤ (moved st c p again unclosed).at + length (moved st c p again unclosed).points
unfolding moved
moved_count st c p true unclosed = omega arith
moved_count st c p false true = le-add_right st.points 2
moved_count st c p false false = le-add_right st.points 1

closed_count : (st : StoreState) (c : Columns) (unclosed : Bool) → st.points ≤ (closed st c unclosed).at + length (closed st c unclosed).points
unfolding closed appended
closed_count st c true = le-add_right st.points 1
closed_count st c false = le-add_right st.points 0

writes_count : (call : Call) (st : StoreState) (c : Columns) → st.points ≤ (writes_of call st c).at + length (writes_of call st c).points
unfolding writes_of appended
writes_count (Move p) st c = moved_count st c p _ _
writes_count (Line p) st c = le-add_right st.points 1
writes_count (Quad p1 p2) st c = le-add_right st.points 2
writes_count (Cubic p1 p2 p3) st c = le-add_right st.points 3
writes_count (RatQuad p1 p2 w) st c = le-add_right st.points 2
writes_count (RatCubic p1 p2 p3 w1 w2) st c = le-add_right st.points 3
writes_count Build st c = closed_count st c _

abbrev NoFewer : StoreState → StoreState → Type 0
NoFewer st st' = (st.points ≤ st'.points) × (st.commands ≤ st'.commands)

counted_after : (call : Call) (st : StoreState) (c : Columns) → NoFewer st (accepted_outcome call st c).state
unfolding state_after
counted_after call st c = (writes_count call st c, le-add_right st.commands (length (writes_of call st c).commands))

pub counts_kept : (call : Call) (st : StoreState) (c : Columns) → NoFewer st (draw_of call st c).state
counts_kept call st c = go (is_done (draw_of call st c).answer) refl
  where
    go : (b : Bool) → is_done (draw_of call st c).answer ≡ b → NoFewer st (draw_of call st c).state
    go true e = subst (λ (o : Outcome). NoFewer st o.state) (sym (accepted call st c e).outcome) (counted_after call st c)
    go false e = subst (λ (o : Outcome). NoFewer st o.state) (sym (refused call st c e)) (le_refl st.points, le_refl st.commands)

-- ---- flattening's test for answer 3 finds no fault in what the calls draw
pub drawn_sound : (call : Call) (st : StoreState) (c : Columns) → Sound st c → Sound (draw_of call st c).state (draw_of call st c).columns
drawn_sound call st c g = go (is_done (draw_of call st c).answer) refl
  where
    go : (b : Bool) → is_done (draw_of call st c).answer ≡ b → Sound (draw_of call st c).state (draw_of call st c).columns
    go true e =
        let a = accepted call st c e in
        let w = writes_of call st c in
        subst (λ (o : Outcome). Sound o.state o.columns) (sym a.outcome)
        (sound_kept st c g w (writes_good st c g call a.coordinates a.weights) (room_fits st c g.counted w a.room))
    go false e = subst (λ (o : Outcome). Sound o.state o.columns) (sym (refused call st c e)) g

pub drawn_drawable : (call : Call) (st : StoreState) (c : Columns) → drawable_of st c ≡ true → drawable_of (draw_of call st c).state (draw_of call st c).columns ≡ true
drawn_drawable call st c e = sound_drawable _ _ (drawn_sound call st c (sound st c e))

-- the first point and command, of columns with room for them
fresh_made : (c : Columns) → even_of c ≡ true → (eqb (length c.x) 0 || eqb (length c.commands) 0) ≡ false
    → Sound (state_at 1 1 0) (put_command (put_point c 0 (plain (point_at zero32 zero32))) 0 move_command)
unfolding put_command put_point even_of every known_of total_uses_of
fresh_made c v n =
    let lx = length c.x in
    let lk = length c.commands in
    let hx = eqb-false lx 0 ((or-eq-false-eq-eq-false-and-eq-false (eqb lx 0) (eqb lk 0)).0 n).0 in
    let hk = eqb-false lk 0 ((or-eq-false-eq-eq-false-and-eq-false (eqb lx 0) (eqb lk 0)).0 n).1 in
    let ey = eqb-true (length c.y) lx (and_elim_left (eqb (length c.y) lx) _ v) in
    let ew = eqb-true (length c.weight) lx (and_elim_right (eqb (length c.y) lx) _ v) in
    let px : 0 < lx = omega (arith, hx) in
    let py : 0 < length c.y = omega (arith, hx) in
    let pw : 0 < length c.weight = omega (arith, hx) in
    let pk : 0 < lk = omega (arith, hk) in
    record {
      counted =
          record {
            y = length-set c.y 0 zero32 ∙ ey ∙ sym (length-set c.x 0 zero32);
            weight = length-set c.weight 0 one32 ∙ ew ∙ sym (length-set c.x 0 zero32);
            some = le_refl 1;
            points = rw (length-set c.x 0 zero32) px;
            begun = le_refl 1;
            commands = rw (length-set c.commands 0 0) pk;
            opening = le_refl 1;
          };
      known = ap known_of (take-suc-set c.commands 0 0 pk);
      first = get_or-set_same c.commands 0 0 0 pk;
      uses = ap total_uses_of (take-suc-set c.commands 0 0 pk);
      weights = ap (every weight_ok_of) (take-suc-set c.weight 0 one32 pw) ∙ rw one_ok;
      xs = ap (every stored_ok_of) (take-suc-set c.x 0 zero32 px) ∙ rw zero_stored;
      ys = ap (every stored_ok_of) (take-suc-set c.y 0 zero32 py) ∙ rw zero_stored;
    }

pub fresh_sound : (c : Columns) → is_done (fresh_of c).answer ≡ true → Sound (fresh_of c).state (fresh_of c).columns
unfolding fresh_of
fresh_sound c e = go (even_of c) (eqb (length c.x) 0 || eqb (length c.commands) 0) refl refl e
  where
    done : Outcome
    done = outcome Done (state_at 1 1 0) (put_command (put_point c 0 (plain (point_at zero32 zero32))) 0 move_command)

    by : Bool → Bool → Outcome
    by v n = cond (not v) (outcome Unusable (state_at 0 0 0) c) (cond n (outcome StoreFull (state_at 0 0 0) c) done)

    go : (v n : Bool) → even_of c ≡ v → (eqb (length c.x) 0 || eqb (length c.commands) 0) ≡ n → is_done (by v n).answer ≡ true → Sound (by v n).state (by v n).columns
    go false n p q e = absurd (false≢true e)
    go true true p q e = absurd (false≢true e)
    go true false p q e = fresh_made c p q

replay_sound : (calls : List Call) (o : Outcome) → Sound o.state o.columns → Sound (replay_of calls o).state (replay_of calls o).columns
unfolding replay_of
replay_sound [] o g = g
replay_sound (call ∷ calls) o g = replay_sound calls (draw_of call o.state o.columns) (drawn_sound call o.state o.columns g)

pub replay_drawable : (calls : List Call) (c : Columns) → is_done (fresh_of c).answer ≡ true
    → drawable_of (replay_of calls (fresh_of c)).state (replay_of calls (fresh_of c)).columns ≡ true
replay_drawable calls c e = sound_drawable _ _ (replay_sound calls (fresh_of c) (fresh_sound c e))

-- so no later call finds the store unusable
pub replay_usable : (calls : List Call) (c : Columns) → is_done (fresh_of c).answer ≡ true → usable_of (replay_of calls (fresh_of c)).state (replay_of calls (fresh_of c)).columns ≡ true
replay_usable calls c e = sound_usable _ _ (replay_sound calls (fresh_of c) (fresh_sound c e))

-- one list of calls after another
pub replay_append : (calls more : List Call) (o : Outcome) → replay_of (calls ++ more) o ≡ replay_of more (replay_of calls o)
unfolding replay_of
replay_append [] more o = refl
replay_append (call ∷ calls) more o = replay_append calls more (draw_of call o.state o.columns)
