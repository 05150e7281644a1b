-- Each contour of a drawing is what its own calls draw when they are made alone on a fresh store. Assumes nothing.
use Prim.Native.Nat.{ℕ}
use mathlib.Core.Path.{◌≡◌, refl, sym, ap, ◌∙◌}
use mathlib.Core.Bool.{Bool, true, false, ◌||◌, or_assoc, or-false}
use mathlib.Core.List.{List, [], ◌∷◌, ◌++◌, map, append-nil}
use lib.ListN.{length, take, drop, take-append-drop}
use lib.Seq.{append_snoc}
use lib.Ieee.{Float}
use Rattle.answer.specs.Number.{is_done}
use Rattle.point.specs.declared.Point.{Point}
use Rattle.store.specs.declared.StoreState.{StoreState}
use Rattle.store.specs.declared.Call.{Call}
use Rattle.store.specs.declared.Call.TheVariants.{Move, Build}
use Rattle.store.specs.Columns.{Columns, columns}
use Rattle.store.specs.Drawing.{every, coordinates_of, weights_of, fresh_of}
use Rattle.store.specs.Replay.{replay_of}
use Rattle.store.specs.Contours.{contours_from, contours_of}
use Rattle.store.specs.OwnCalls.{moves_of, draws_of, any_of, calls_upto_move, contour_calls, own_calls_of, DrawnBy, Pairwise, ContoursDrawn}
use Rattle.store.proofs.Listed.{Contour, begun, drawing_of, with_call, with_calls, with_append, by_move, Fit, AllFit, some, left, listed_by}
use Rattle.store.proofs.Listed.{Regular, AllRegular, begun_regular, regular_kept, some_kept, listed_regular}
use Rattle.store.proofs.Contours.{all_points, all_commands, Laid, contours_cut}
use Rattle.store.proofs.Holding.{Holds}
use Rattle.store.proofs.Steps.{last_done, done_fit, holds_listed}
use Rattle.store.proofs.Alone.{Moveless, origin, origin_regular, fresh_stands, drawn_by}

-- ---- calls with no Move among them
moveless_append : (calls more : List Call) → Moveless calls → Moveless more → Moveless (calls ++ more)
moveless_append [] more h k = k
moveless_append (call ∷ calls) more h k = (h.0, moveless_append calls more h.1 k)

fit_append : (calls more : List Call) → AllFit calls → AllFit more → AllFit (calls ++ more)
fit_append [] more h k = k
fit_append (call ∷ calls) more h k = (h.0, fit_append calls more h.1 k)

build_fit : Fit Build
unfolding every coordinates_of weights_of
build_fit = (refl, refl)

any_moves : (calls more : List Call) → Moveless calls → any_of moves_of (calls ++ more) ≡ any_of moves_of more
unfolding any_of
any_moves [] more h = refl
any_moves (call ∷ calls) more h = rw h.0 (any_moves calls more h.1)

upto_move_lem : (calls : List Call) (q : Point) (more : List Call) → Moveless calls → calls_upto_move (calls ++ Move q ∷ more) ≡ calls
unfolding calls_upto_move
upto_move_lem [] q more h = refl
upto_move_lem (call ∷ calls) q more h = rw (h.0, upto_move_lem calls q more h.1)

own_after : (calls more : List Call) → Moveless calls → own_calls_of (calls ++ more) ≡ own_calls_of more
unfolding own_calls_of
own_after [] more h = refl
own_after (call ∷ calls) more h = rw h.0 (own_after calls more h.1)

some_drawn : (calls : List Call) (s : Contour) → Moveless calls → Regular s → some (with_calls calls s).kinds ≡ (some s.kinds || any_of draws_of calls)
unfolding any_of
some_drawn [] s m g = sym (or-false (some s.kinds))
some_drawn (call ∷ calls) s m g =
    some_drawn calls (with_call call s) m.1 (regular_kept call s m.0 g) ∙ ap (λ (b : Bool). b || any_of draws_of calls) (some_kept call s m.0 g)
    ∙ or_assoc (some s.kinds) (draws_of call) (any_of draws_of calls)

-- ---- the own calls of a contour that is begun by a Move to p and goes on with `since`
module _ (p : Point) (since : List Call) (m : Moveless since) where
  own_last : own_calls_of (Move p ∷ since) ≡ (Move p ∷ since) ∷ []
  unfolding own_calls_of contour_calls any_of
  own_last = rw none
    where
      none : any_of moves_of since ≡ false
      none = ap (any_of moves_of) (sym (append-nil since)) ∙ any_moves since [] m

  abbrev own_then : Bool → List (List Call) → List (List Call)
  own_then true later = (Move p ∷ (since ++ Build ∷ [])) ∷ later
  own_then false later = later

  module _ (q : Point) (more : List Call) where
    abbrev calls : List Call
    calls = since ++ Move q ∷ more

    own_begins : own_calls_of (Move p ∷ calls) ≡ contour_calls true (any_of draws_of since) (Move p) calls (own_calls_of (Move q ∷ more))
    unfolding own_calls_of any_of
    own_begins = rw (any_moves since (Move q ∷ more) m, upto_move_lem since q more m, own_after since (Move q ∷ more) m)

    own_ends : (draws : Bool) (later : List (List Call)) → contour_calls true draws (Move p) calls later ≡ own_then draws later
    unfolding contour_calls
    own_ends true later = rw (upto_move_lem since q more m)
    own_ends false later = refl

    own_then_lem : own_calls_of (Move p ∷ calls) ≡ own_then (any_of draws_of since) (own_calls_of (Move q ∷ more))
    own_then_lem = own_begins ∙ own_ends (any_of draws_of since) (own_calls_of (Move q ∷ more))

-- ---- the contours that calls draw, and their own calls, one by one
abbrev Drawn : List Contour → List (List Call) → Type 0
Drawn list own = Pairwise DrawnBy (map drawing_of list) own

module _ (p : Point) (since : List Call) (f : Fit (Move p)) (m : Moveless since) (a : AllFit since) where
  abbrev current : Contour
  current = with_calls since (begun p)

  drawn_last : Drawn (listed_by current []) (own_calls_of (Move p ∷ (since ++ [])))
  drawn_last = rw (append-nil since, own_last p since m) (drawn_by p since f m a, tt)

  left_drawn : (b : Bool) (list : List Contour) (later : List (List Call)) → Drawn list later → Drawn (left b current list) (own_then p since m b later)
  left_drawn true list later d =
      let built = since ++ Build ∷ [] in
      let alone = drawn_by p built f (moveless_append since (Build ∷ []) m (refl, tt)) (fit_append since (Build ∷ []) a (build_fit, tt)) in
      (rw (with_append since (Build ∷ []) (begun p)) at alone, d)
  left_drawn false list later d = d

  drawn_then : (q : Point) (more : List Call) → Drawn (listed_by (begun q) more) (own_calls_of (Move q ∷ more))
      → Drawn (listed_by current (Move q ∷ more)) (own_calls_of (Move p ∷ (since ++ Move q ∷ more)))
  drawn_then q more d =
      let e = some_drawn since (begun p) m (begun_regular p f) in
      rw (own_then_lem p since m q more, e) (left_drawn (any_of draws_of since) (listed_by (begun q) more) (own_calls_of (Move q ∷ more)) d)

all_drawn : (calls : List Call) (p : Point) (since : List Call) → Fit (Move p) → Moveless since → AllFit since → AllFit calls
    → Drawn (listed_by (with_calls since (begun p)) calls) (own_calls_of (Move p ∷ (since ++ calls)))
all_drawn [] p since f m a h = drawn_last p since f m a
all_drawn (call ∷ calls) p since f m a h =
    by_move (λ call. Fit call → Drawn (listed_by (with_calls since (begun p)) (call ∷ calls)) (own_calls_of (Move p ∷ (since ++ call ∷ calls))))
    (λ q k. drawn_then p since f m a q calls (all_drawn calls q [] k tt tt h.1))
    (λ call e k.
    let longer = since ++ call ∷ [] in
    let d = all_drawn calls p longer f (moveless_append since (call ∷ []) m (e, tt)) (fit_append since (call ∷ []) a (k, tt)) h.1 in
    rw e (rw (with_append since (call ∷ []) (begun p), append_snoc since call calls) at d)) call h.0

-- ---- the contours of the store are those that the calls draw
module _ (list : List Contour) (from : ℕ) (st : StoreState) (c : Columns) (h : Holds (all_points list) (all_commands list) from st c) (g : AllRegular list) where
  held_contours : contours_of st c ≡ map drawing_of list
  unfolding contours_of
  held_contours =
      let n = length (all_points list) in
      let behind = columns (drop n c.x) (drop n c.y) (drop n c.weight) [] in
      let laid : Laid c behind 0 (all_points list) = record { x = cut c.x h.x; y = cut c.y h.y; weight = cut c.weight h.weight } in
      let used : take st.commands c.commands ≡ all_commands list = ap (λ (t : StoreState). take t.commands c.commands) h.state ∙ h.commands in
      ap (λ (ks : List ℕ). contours_from c ks 0) used ∙ contours_cut c behind list 0 g laid
    where
      cut : (l : List Float) {front : List Float} → take (length (all_points list)) l ≡ front → l ≡ front ++ drop (length (all_points list)) l
      cut l e = sym (take-append-drop (length (all_points list)) l) ∙ ap (λ (r : List Float). r ++ drop (length (all_points list)) l) e

pub contours_drawn : ContoursDrawn
contours_drawn calls c d =
    let o = replay_of calls (fresh_of c) in
    let stands = fresh_stands c (ap is_done (last_done calls (fresh_of c) d)) in
    let fit = done_fit calls (fresh_of c) d in
    let all = holds_listed calls [] [] (begun origin) (fresh_of c) origin_regular stands d in
    let list = listed_by (begun origin) calls in
    let contours = held_contours list all.from o.state o.columns all.holds (listed_regular (begun origin) calls origin_regular fit) in
    rw contours (all_drawn calls origin [] origin_regular.move tt tt fit)
