-- A Move, then other calls that all pass the tests 1 and 2: on a fresh store with just enough room they are all done, and draw their contour. Assumes nothing.
use Prim.Native.Nat.{◌+◌, ◌≤◌, ◌<◌}
use native.Mathlib.Omega.{arith}
use native.Mathlib.Nat.{le_refl, le_trans, le-add_right}
use mathlib.Core.Path.{◌≡◌, refl, sym, ap, ◌∙◌, subst}
use mathlib.Core.Bool.{Bool, true, false, not, ◌||◌, cond, false≢true}
use mathlib.Core.List.{List, [], ◌∷◌, map}
use lib.ListN.{length, length-append, length-set}
use lib.Seq.{length-sets, take-suc-set}
use lib.Dec.{eqb}
use lib.Ieee.{le, of_bits}
use borrow.Author.Tests.{le-leb, ne_eqb}
use Rattle.answer.specs.Answer.{Done, Unusable, StoreFull}
use Rattle.answer.specs.Number.{is_done}
use Rattle.leaves.specs.Single.{zero32, one32}
use Rattle.point.specs.declared.Point.{Point}
use Rattle.point.specs.Point.{point_at, plain}
use Rattle.store.specs.declared.StoreState.{StoreState}
use Rattle.store.specs.declared.Call.{Call}
use Rattle.store.specs.declared.Call.TheVariants.{Move}
use Rattle.store.specs.Columns.{Columns, state_at, move_command, put_point, put_command, even_of, usable_of}
use Rattle.store.specs.Drawing.{Outcome, outcome, every, coordinate_ok_of, coordinates_of, weights_of, writes_of, room_of, answer_of, draw_of, fresh_of}
use Rattle.store.specs.Replay.{replay_of}
use Rattle.store.specs.OwnCalls.{moves_of, AllDone, in_use, DrawnBy}
use Rattle.store.proofs.Sound.{Sound, sound_usable}
use Rattle.store.proofs.Written.{x_of, all_written}
use Rattle.store.proofs.Laws.{accepted, draw_answer, fresh_sound}
use Rattle.store.proofs.Listed.{Contour, begun, points_of, commands_of, drawing_of, added_by, with_call, with_calls, Fit, AllFit, Regular, begun_regular}
use Rattle.store.proofs.Holding.{shifted, moves_again}
use Rattle.store.proofs.Steps.{Stands, drawn_on, moved_over}

abbrev SameLengths : Columns → Columns → Type 0
SameLengths d c = (length d.x ≡ length c.x) × (length d.commands ≡ length c.commands)

-- ---- a fresh store: a Move at (0,0)
abbrev pub origin : Point
origin = point_at zero32 zero32

module _ (c : Columns) where
  abbrev fresh_columns : Columns
  fresh_columns = put_command (put_point c 0 (plain origin)) 0 move_command

  abbrev fresh_outcome : Outcome
  fresh_outcome = outcome Done (state_at 1 1 0) fresh_columns

  fresh_is : is_done (fresh_of c).answer ≡ true → fresh_of c ≡ fresh_outcome
  unfolding fresh_of
  fresh_is e = go (even_of c) (eqb (length c.x) 0 || eqb (length c.commands) 0) e
    where
      by : Bool → Bool → Outcome
      by v n = cond (not v) (outcome Unusable (state_at 0 0 0) c) (cond n (outcome StoreFull (state_at 0 0 0) c) fresh_outcome)

      go : (v n : Bool) → is_done (by v n).answer ≡ true → by v n ≡ fresh_outcome
      go false n e = absurd (false≢true e)
      go true true e = absurd (false≢true e)
      go true false e = refl

  made_stands : Sound (state_at 1 1 0) fresh_columns → Stands [] [] (begun origin) fresh_outcome
  unfolding put_command put_point
  made_stands g =
      let f = g.counted in
      let px : 0 < length c.x = rw (length-set c.x 0 zero32) at f.points in
      let ly : length c.y ≡ length c.x = sym (length-set c.y 0 zero32) ∙ f.y ∙ length-set c.x 0 zero32 in
      let lw : length c.weight ≡ length c.x = sym (length-set c.weight 0 one32) ∙ f.weight ∙ length-set c.x 0 zero32 in
      record {
        sound = g;
        state = refl;
        x = take-suc-set c.x 0 zero32 px;
        y = take-suc-set c.y 0 zero32 (omega arith);
        weight = take-suc-set c.weight 0 one32 (omega arith);
        commands = take-suc-set c.commands 0 0 (rw (length-set c.commands 0 0) at f.commands);
      }

  pub fresh_stands : is_done (fresh_of c).answer ≡ true → Stands [] [] (begun origin) (fresh_of c)
  fresh_stands e =
      let i = fresh_is e in
      subst (Stands [] [] (begun origin)) (sym i) (made_stands (subst (λ (o : Outcome). Sound o.state o.columns) i (fresh_sound c e)))

  fresh_done : even_of c ≡ true → 1 ≤ length c.x → 1 ≤ length c.commands → (fresh_of c).answer ≡ Done
  unfolding fresh_of
  fresh_done e h k = rw (e, ne_eqb (length c.x) 0 (λ z. omega arith), ne_eqb (length c.commands) 0 (λ z. omega arith))

  fresh_lengths : is_done (fresh_of c).answer ≡ true → SameLengths (fresh_of c).columns c
  unfolding put_command put_point
  fresh_lengths e = (
    ap (λ (o : Outcome). length o.columns.x) (fresh_is e) ∙ length-set c.x 0 zero32,
    ap (λ (o : Outcome). length o.columns.commands) (fresh_is e) ∙ length-set c.commands 0 0,
  )

-- ---- a call with room is done, and no column changes its length
module _ (call : Call) (st : StoreState) (c : Columns) where
  call_done : usable_of st c ≡ true → Fit call → room_of (writes_of call st c) st c ≡ true → (draw_of call st c).answer ≡ Done
  unfolding answer_of
  call_done u f r = draw_answer call st c ∙ rw (u, f.0, f.1, r)

  lengths_kept : (draw_of call st c).answer ≡ Done → SameLengths (draw_of call st c).columns c
  lengths_kept d =
      let w = writes_of call st c in
      let e = ap (λ (o : Outcome). o.columns) (accepted call st c (ap is_done d)).outcome ∙ all_written w st c in (
        ap (λ (d : Columns). length d.x) e ∙ length-sets c.x w.at (map x_of w.points),
        ap (λ (d : Columns). length d.commands) e ∙ length-sets c.commands st.commands w.commands,
      )

-- ---- a contour alone in its store
pub record RoomFor (s : Contour) (c : Columns) : Type 0 where
  pub points : length (points_of s) ≤ length c.x
  pub commands : length (commands_of s) ≤ length c.commands

room_kept : (s : Contour) (call : Call) (st : StoreState) (c : Columns) → (draw_of call st c).answer ≡ Done → RoomFor s c → RoomFor s (draw_of call st c).columns
room_kept s call st c d r = let l = lengths_kept call st c d in record { points = rw l.0 r.points; commands = rw l.1 r.commands }

abbrev pub Moveless : List Call → Type 0
Moveless [] = Unit {0}
Moveless (call ∷ calls) = (moves_of call ≡ false) × Moveless calls

-- calls never shorten a contour, so room for the last is room for each
longer : (calls : List Call) (s : Contour) → (length s.more ≤ length (with_calls calls s).more) × (length s.kinds ≤ length (with_calls calls s).kinds)
longer [] s = (le_refl (length s.more), le_refl (length s.kinds))
longer (call ∷ calls) s =
    let w = added_by call s in
    let m = longer calls (with_call call s) in (
      le_trans (rw length-append (le-add_right (length s.more) (length w.points))) m.0,
      le_trans (rw length-append (le-add_right (length s.kinds) (length w.commands))) m.1,
    )

room_before : (calls : List Call) (s : Contour) (c : Columns) → RoomFor (with_calls calls s) c → RoomFor s c
room_before calls s c r =
    let m = longer calls s in
    let p = r.points in
    let k = r.commands in
    let m0 = m.0 in
    let m1 = m.1 in
    record { points = omega arith; commands = omega arith }

module _ (s : Contour) (o : Outcome) (h : Stands [] [] s o) where
  drawn_done : (call : Call) → moves_of call ≡ false → Fit call → RoomFor (with_call call s) o.columns → (draw_of call o.state o.columns).answer ≡ Done
  unfolding room_of
  drawn_done call e f r =
      let st = o.state in
      let c = o.columns in
      let w = added_by call s in
      let p = le-leb (length (points_of s) + length w.points) (length c.x) (rw (← length-append) r.points) in
      let k = le-leb (length (commands_of s) + length w.commands) (length c.commands) (rw (← length-append) r.commands) in
      call_done call st c (sound_usable st c h.sound) f (rw (shifted [] [] s st c h call e, h.state, p, k))

drawn_alone : (calls : List Call) (s : Contour) (o : Outcome) → Moveless calls → AllFit calls → o.answer ≡ Done → Stands [] [] s o
    → RoomFor (with_calls calls s) o.columns → AllDone calls o × Stands [] [] (with_calls calls s) (replay_of calls o)
unfolding replay_of
drawn_alone [] s o m f d h r = (d, h)
drawn_alone (call ∷ calls) s o m f d h r =
    let next = draw_of call o.state o.columns in
    let t = with_call call s in
    let done = drawn_done s o h call m.0 f.0 (room_before calls t o.columns r) in
    let stands = drawn_on [] [] s o h call m.0 (accepted call o.state o.columns (ap is_done done)) in
    let rest = drawn_alone calls t next m.1 f.1 done stands (room_kept (with_calls calls t) call o.state o.columns done r) in
    ((d, rest.0), rest.1)

-- ---- the Move that comes first overwrites that of the fresh store
origin_fit : Fit (Move origin)
unfolding every coordinate_ok_of coordinates_of weights_of le of_bits
origin_fit = (refl, refl)

pub origin_regular : Regular (begun origin)
origin_regular = begun_regular origin origin_fit

module _ (q p : Point) (o : Outcome) (h : Stands [] [] (begun q) o) where
  moved_done : Fit (Move p) → RoomFor (begun p) o.columns → (draw_of (Move p) o.state o.columns).answer ≡ Done
  unfolding room_of
  moved_done f r =
      let st = o.state in
      let c = o.columns in
      let j = le-leb 1 (length c.x) r.points in
      let k = le-leb 1 (length c.commands) r.commands in
      call_done (Move p) st c (sound_usable st c h.sound) f (rw (moves_again [] [] (begun q) st c h p tt refl refl, h.state, j, k))

in_use_lem : (s : Contour) (o : Outcome) → Stands [] [] s o → in_use o ≡ drawing_of s
unfolding in_use
in_use_lem s o h = rw (h.state, h.x, h.y, h.weight, h.commands)

pub drawn_by : (p : Point) (calls : List Call) → Fit (Move p) → Moveless calls → AllFit calls → DrawnBy (drawing_of (with_calls calls (begun p))) (Move p ∷ calls)
unfolding replay_of
drawn_by p calls f m a c even rp rk =
    let s = with_calls calls (begun p) in
    let o = fresh_of c in
    let next = draw_of (Move p) o.state o.columns in
    let d = fresh_done c even (omega arith) (omega arith) in
    let h = fresh_stands c (ap is_done d) in
    let l = fresh_lengths c (ap is_done d) in
    let r : RoomFor s o.columns = record { points = rw l.0 rp; commands = rw l.1 rk } in
    let done = moved_done origin p o h f (room_before calls (begun p) o.columns r) in
    let stands = moved_over [] [] (begun origin) o h p origin_regular refl (accepted (Move p) o.state o.columns (ap is_done done)) in
    let rest = drawn_alone calls (begun p) next m a done stands (room_kept s (Move p) o.state o.columns done r) in
    ((d, rest.0), in_use_lem s (replay_of calls next) rest.1)
