-- The contours that calls draw, all answered Done, stand in the store one after another. Assumes nothing.
use Prim.Native.Nat.{ℕ, ◌+◌}
use mathlib.Core.Path.{◌≡◌, refl, sym, ap, ◌∙◌}
use mathlib.Core.Bool.{Bool, true, false, true≢false}
use mathlib.Core.List.{List, [], ◌∷◌, ◌++◌, append_assoc, append-nil}
use lib.ListN.{length, length-append}
use Rattle.answer.specs.Answer.{Done}
use Rattle.answer.specs.Number.{is_done}
use Rattle.point.specs.declared.Point.{Point}
use Rattle.point.specs.declared.WeightedPoint.{WeightedPoint}
use Rattle.point.specs.Point.{plain}
use Rattle.store.specs.declared.Call.{Call}
use Rattle.store.specs.declared.Call.TheVariants.{Move, Build}
use Rattle.store.specs.Columns.{move_command}
use Rattle.store.specs.Drawing.{Outcome, writes, draw_of}
use Rattle.store.specs.Replay.{replay_of}
use Rattle.store.specs.OwnCalls.{moves_of, AllDone}
use Rattle.store.proofs.Laws.{Accepted, accepted}
use Rattle.store.proofs.Listed.{Contour, begun, points_of, commands_of, added_by, with_call, by_move, AllFit, some, left, listed_by}
use Rattle.store.proofs.Listed.{Regular, begun_regular, regular_kept, nothing_drawn}
use Rattle.store.proofs.Contours.{all_points, all_commands}
use Rattle.store.proofs.Holding.{Holds, call_holds, shifted, moves_on, moves_again}

regroup : {A : Type 0} (j k l m : List A) → j ++ k ++ (l ++ m) ≡ j ++ (k ++ l) ++ m
regroup {A} j k l m = sym (append_assoc (j ++ k) l m) ∙ ap (λ (r : List A). r ++ m) (append_assoc j k l)

none : (ks : List ℕ) → some ks ≡ false → ks ≡ []
none [] e = refl
none (k ∷ ks) e = absurd (true≢false e)

-- ---- a contour at the end of a store, behind the points bp and the commands bk, and open
abbrev pub Stands : List WeightedPoint → List ℕ → Contour → Outcome → Type 0
Stands bp bk s o = Holds (bp ++ points_of s) (bk ++ commands_of s) (length bp) o.state o.columns

module _ (bp : List WeightedPoint) (bk : List ℕ) (s : Contour) (o : Outcome) (h : Stands bp bk s o) where
  pub drawn_on : (call : Call) → moves_of call ≡ false → Accepted call o.state o.columns
      → Stands bp bk (with_call call s) (draw_of call o.state o.columns)
  drawn_on call e a =
      let ps = bp ++ points_of s in
      let w = writes (length ps) (added_by call s).points (added_by call s).commands (length bp) in
      let k : Holds (ps ++ []) (bk ++ commands_of s) (length bp) o.state o.columns = rw append-nil h in
      let m = call_holds call o.state o.columns ps [] (bk ++ commands_of s) (length bp) k a w (shifted bp bk s o.state o.columns h call e) refl in
      rw (append_assoc bp (points_of s) w.points, append_assoc bk (commands_of s) w.commands) at m

  pub moved_over : (p : Point) → Regular s → some s.kinds ≡ false → Accepted (Move p) o.state o.columns
      → Stands bp bk (begun p) (draw_of (Move p) o.state o.columns)
  moved_over p g e a =
      let ks = bk ++ commands_of s in
      let z : s ≡ begun s.first = nothing_drawn s g (none s.kinds e) in
      let w = writes (length bp) (plain p ∷ []) [] (length bp) in
      let wrote = moves_again bp bk s o.state o.columns h p g.curves e (ap (λ (t : Contour). length t.more) z) in
      let m = call_holds (Move p) o.state o.columns bp (points_of s) ks (length bp) h a w wrote refl in
      let same : ks ++ [] ≡ bk ++ commands_of (begun p) = append-nil ks ∙ ap (λ (t : Contour). bk ++ commands_of t) z in
      rw same at m

  pub moved_on : (p : Point) → Regular s → some s.kinds ≡ true → Accepted (Move p) o.state o.columns
      → Stands (bp ++ points_of (with_call Build s)) (bk ++ commands_of (with_call Build s)) (begun p) (draw_of (Move p) o.state o.columns)
  moved_on p g e a =
      let ps = bp ++ points_of s in
      let ks = bk ++ commands_of s in
      let b = added_by Build s in
      let w = writes (length ps) (b.points ++ plain p ∷ []) (b.commands ++ move_command ∷ []) (length ps + length b.points) in
      let k : Holds (ps ++ []) ks (length bp) o.state o.columns = rw append-nil h in
      let m = call_holds (Move p) o.state o.columns ps [] ks (length bp) k a w (moves_on bp bk s o.state o.columns h p g.curves e) refl in
      let n = sym (length-append ps b.points) ∙ ap length (append_assoc bp (points_of s) b.points) in
      rw (regroup bp (points_of s) b.points (plain p ∷ []), regroup bk (commands_of s) b.commands (move_command ∷ []), n) at m

-- ---- all calls are answered Done
pub last_done : (calls : List Call) (o : Outcome) → AllDone calls o → o.answer ≡ Done
last_done [] o d = d
last_done (call ∷ calls) o d = d.0

pub next_accepted : (call : Call) (calls : List Call) (o : Outcome) → AllDone (call ∷ calls) o → Accepted call o.state o.columns
next_accepted call calls o d = accepted call o.state o.columns (ap is_done (last_done calls (draw_of call o.state o.columns) d.1))

pub done_fit : (calls : List Call) (o : Outcome) → AllDone calls o → AllFit calls
done_fit [] o d = tt
done_fit (call ∷ calls) o d =
    let a = next_accepted call calls o d in
    ((a.coordinates, a.weights), done_fit calls (draw_of call o.state o.columns) d.1)

-- the store holds these contours behind the points bp and the commands bk
pub record HoldsAll (bp : List WeightedPoint) (bk : List ℕ) (list : List Contour) (o : Outcome) : Type 0 where
  pub from : ℕ
  pub holds : Holds (bp ++ all_points list) (bk ++ all_commands list) from o.state o.columns

left_behind : (bp : List WeightedPoint) (bk : List ℕ) (s : Contour) (list : List Contour) (o : Outcome)
    → HoldsAll (bp ++ points_of s) (bk ++ commands_of s) list o → HoldsAll bp bk (s ∷ list) o
left_behind bp bk s list o h =
    let m = h.holds in
    record { from = h.from; holds = rw (append_assoc bp (points_of s) (all_points list), append_assoc bk (commands_of s) (all_commands list)) at m }

pub holds_listed : (calls : List Call) (bp : List WeightedPoint) (bk : List ℕ) (s : Contour) (o : Outcome) → Regular s → Stands bp bk s o → AllDone calls o
    → HoldsAll bp bk (listed_by s calls) (replay_of calls o)
unfolding replay_of
holds_listed [] bp bk s o g h d = record { from = length bp; holds = rw (append-nil (points_of s), append-nil (commands_of s)) h }
holds_listed (call ∷ calls) bp bk s o g h d =
    by_move
    (λ call. Accepted call o.state o.columns → AllDone calls (draw_of call o.state o.columns)
    → HoldsAll bp bk (listed_by s (call ∷ calls)) (replay_of calls (draw_of call o.state o.columns)))
    (λ p a k. moves p a (some s.kinds) refl
    (λ bp' bk' j. holds_listed calls bp' bk' (begun p) (draw_of (Move p) o.state o.columns) (begun_regular p (a.coordinates, a.weights)) j k))
    (λ call e a k. rw e
    (holds_listed calls bp bk (with_call call s) (draw_of call o.state o.columns) (regular_kept call s e g) (drawn_on bp bk s o h call e a) k))
    call (next_accepted call calls o d) d.1
  where
    moves : (p : Point) → Accepted (Move p) o.state o.columns → (b : Bool) → some s.kinds ≡ b
        → ((bp' : List WeightedPoint) (bk' : List ℕ) → Stands bp' bk' (begun p) (draw_of (Move p) o.state o.columns)
        → HoldsAll bp' bk' (listed_by (begun p) calls) (replay_of calls (draw_of (Move p) o.state o.columns)))
        → HoldsAll bp bk (left b s (listed_by (begun p) calls)) (replay_of calls (draw_of (Move p) o.state o.columns))
    moves p a true e f =
        let t = with_call Build s in left_behind bp bk t _ _ (f (bp ++ points_of t) (bk ++ commands_of t) (moved_on bp bk s o h p g e a))
    moves p a false e f = f bp bk (moved_over bp bk s o h p g e a)
