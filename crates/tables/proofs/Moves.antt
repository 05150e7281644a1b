-- The Moves that a run meets are those of the command list, and the number of splines never falls. Assumes nothing.
use mathlib.Core.Path.{◌≡◌, refl, sym, ap, ◌∙◌, subst}
use mathlib.Core.Logic.{◌⊎◌, inl, inr}
use mathlib.Core.List.{List, [], ◌∷◌, ◌++◌, append_assoc}
use mathlib.Core.Bool.{Bool, true, false, cond}
use Prim.Native.Nat.{ℕ, zero, suc, ◌+◌, ◌-◌, ◌≤◌, ◌<◌, suc-le-suc}
use native.Mathlib.Nat.{le_trans, le_of_eq, le_refl, le_of_suc-le-suc, not-suc-le-zero, zero-lt-suc, suc-ne-zero, add_assoc, add-zero, zero-add, le-add_right}
use lib.Dec.{T, leb}
use lib.ListN.{length, get_or, take, drop}
use lib.Seq.{take-add}
use Rattle.answer.specs.Number.{is_done}
use Rattle.point.specs.declared.Setting.{Setting}
use Rattle.primitives.specs.declared.Capacities.{Capacities}
use Rattle.primitives.specs.declared.Cubic.{Cubic}
use Rattle.primitives.specs.declared.Primitive.{Primitive}
use Rattle.primitives.specs.Cubics.{cubic_pieces_of, quads_from, cut_of, cubic_quads_of}
use Rattle.primitives.specs.Splines.{spline_edit_of}
use Rattle.primitives.specs.Plan.{refused_of, marked_of}
use Rattle.point.specs.declared.Point.{Point}
use Rattle.store.specs.Columns.{Columns, uses_of}
use Rattle.store.specs.Drawable.{total_uses_of}
use Rattle.tables.specs.Run.{World, apply_of, push_of, run_of}
use Rattle.tables.specs.Commands.{cubic_from, command_primitives_of, primitives_from}
use Rattle.tables.proofs.Pushes.{is_mark, Pushed, kept, marked, lined, bent, pushed}
use Rattle.tables.proofs.Flags.{Met, next_of}
use Rattle.tables.proofs.Runs
use lib.Ieee.{Float}

module _ (setting : Setting) (caps : Capacities) where
  pub run_done : (ps qs : List Primitive) (w : World) → is_done (run_of setting caps (ps ++ qs) w).state.answer ≡ true
      → is_done (run_of setting caps ps w).state.answer ≡ true
  run_done ps qs w h = go (is_done (run_of setting caps ps w).state.answer) refl
    where
      go : (b : Bool) → is_done (run_of setting caps ps w).state.answer ≡ b → is_done (run_of setting caps ps w).state.answer ≡ true
      go true e = e
      go false e = sym (ap (λ (v : World). is_done v.state.answer)
          (Runs.run_append setting caps ps qs w ∙ Runs.run_stop setting caps qs (run_of setting caps ps w) e)) ∙ h

  -- a run that is done took its first primitive
  pub taken : (p : Primitive) (ps : List Primitive) (w : World) → is_done (run_of setting caps (p ∷ ps) w).state.answer ≡ true
      → (is_done w.state.answer ≡ true) × (is_done (push_of setting caps p w).state.answer ≡ true)
      × (run_of setting caps (p ∷ ps) w ≡ run_of setting caps ps (push_of setting caps p w))
  unfolding run_of
  taken p ps w d =
      let done = run_done [] (p ∷ ps) w d in
      let e = Runs.next_is setting caps p ps w done in
      (done, run_done [] ps (push_of setting caps p w) (ap (λ (u : World). is_done u.state.answer) (sym e) ∙ d), e)

  -- ---- the numbers of splines and of quads never fall
  pub push_grows : (w : World) {setting : Setting} {b : Bool} {w' : World} → Pushed setting caps w b w' → w.state.splines ≤ w'.state.splines
  unfolding refused_of marked_of apply_of spline_edit_of
  push_grows w (kept answer) = le_refl w.state.splines
  push_grows w marked = le_refl w.state.splines
  push_grows w (lined true start end angle A) = le-add_right w.state.splines 1
  push_grows w (lined false start end angle A) = le_refl w.state.splines
  push_grows w (bent true start end angle c row A B K fit R) = le-add_right w.state.splines 1
  push_grows w (bent false start end angle c row A B K fit R) = le_refl w.state.splines

  pub run_grows : (ps : List Primitive) (w : World) → w.state.splines ≤ (run_of setting caps ps w).state.splines
  unfolding run_of
  run_grows [] w = le_refl w.state.splines
  run_grows (p ∷ ps) w = le_trans (go (is_done w.state.answer)) (run_grows ps (next_of setting caps p w))
    where
      go : (b : Bool) → w.state.splines ≤ (cond b (push_of setting caps p w) w).state.splines
      go true = push_grows w (pushed setting caps w p)
      go false = le_refl w.state.splines

  push_more : (w : World) {b : Bool} {w' : World} → Pushed setting caps w b w' → w.state.quads ≤ w'.state.quads
  unfolding refused_of marked_of apply_of spline_edit_of
  push_more w (kept answer) = le_refl w.state.quads
  push_more w marked = le_refl w.state.quads
  push_more w (lined true start end angle A) = le_refl w.state.quads
  push_more w (lined false start end angle A) = le_refl w.state.quads
  push_more w (bent true start end angle c row A B K fit R) = le-add_right w.state.quads 1
  push_more w (bent false start end angle c row A B K fit R) = le-add_right w.state.quads 1

  pub run_more : (ps : List Primitive) (w : World) → w.state.quads ≤ (run_of setting caps ps w).state.quads
  unfolding run_of
  run_more [] w = le_refl w.state.quads
  run_more (p ∷ ps) w = le_trans (go (is_done w.state.answer)) (run_more ps (next_of setting caps p w))
    where
      go : (b : Bool) → w.state.quads ≤ (cond b (push_of setting caps p w) w).state.quads
      go true = push_more w (pushed setting caps w p)
      go false = le_refl w.state.quads

  -- ---- the Moves that a run meets
  met_append : (ps qs : List Primitive) (w : World) (m : ℕ) → Met setting caps (ps ++ qs) w m
      → Met setting caps ps w m ⊎ Met setting caps qs (run_of setting caps ps w) m
  unfolding run_of
  met_append [] qs w m h = inr h
  met_append (p ∷ ps) qs w m h = go h (met_append ps qs (next_of setting caps p w) m)
    where
      go : Met setting caps (p ∷ (ps ++ qs)) w m
          → (Met setting caps (ps ++ qs) (next_of setting caps p w) m
          → Met setting caps ps (next_of setting caps p w) m ⊎ Met setting caps qs (run_of setting caps ps (next_of setting caps p w)) m)
          → Met setting caps (p ∷ ps) w m ⊎ Met setting caps qs (run_of setting caps ps (next_of setting caps p w)) m
      go (inl a) f = inl (inl a)
      go (inr a) f = elim (f a) [ inl b ↦ inl (inr b) | inr b ↦ inr b ]

  met_left : (ps qs : List Primitive) (w : World) (m : ℕ) → Met setting caps ps w m → Met setting caps (ps ++ qs) w m
  met_left [] qs w m h = absurd h
  met_left (p ∷ ps) qs w m (inl a) = inl a
  met_left (p ∷ ps) qs w m (inr a) = inr (met_left ps qs (next_of setting caps p w) m a)

  met_right : (ps qs : List Primitive) (w : World) (m : ℕ) → Met setting caps qs (run_of setting caps ps w) m → Met setting caps (ps ++ qs) w m
  unfolding run_of
  met_right [] qs w m h = h
  met_right (p ∷ ps) qs w m h = inr (met_right ps qs (next_of setting caps p w) m h)

  abbrev pub NoMark : List Primitive → Type 0
  NoMark [] = Unit {0}
  NoMark (p ∷ ps) = (is_mark p ≡ false) × NoMark ps

  unmet : (ps : List Primitive) (w : World) (m : ℕ) → NoMark ps → Met setting caps ps w m → ⊥
  unmet [] w m h k = k
  unmet (p ∷ ps) w m h (inl a) = subst T h.0 a.1.0
  unmet (p ∷ ps) w m h (inr a) = unmet ps (next_of setting caps p w) m h.1 a

  pieces_no_mark : (n i : ℕ) (start : Point) (incr : Float) (c : Cubic) → NoMark (quads_from n i start incr c)
  unfolding quads_from
  pieces_no_mark zero i start incr c = tt
  pieces_no_mark (suc n) i start incr c = (refl, pieces_no_mark n (i + 1) _ incr c)

  cubic_no_mark : (c : Cubic) → NoMark (cubic_quads_of c)
  unfolding cubic_quads_of cut_of
  cubic_no_mark c = go (leb (cubic_pieces_of c) 1024) (cubic_pieces_of c)
    where
      go : (b : Bool) (n : ℕ) → NoMark (cut_of b n c)
      go true n = pieces_no_mark n 1 _ _ c
      go false n = (refl, tt)

  pub command_no_mark : (c : Columns) (k j : ℕ) → NoMark (command_primitives_of c (suc k) j)
  unfolding command_primitives_of
  command_no_mark c zero j = (refl, tt)
  command_no_mark c (suc zero) j = (refl, tt)
  command_no_mark c (suc (suc k)) j = cubic_no_mark (cubic_from c (j - 1))

  -- ---- the Moves of the command list
  module _ (c : Columns) where
    -- the run of the commands before the i-th
    abbrev pub before : List ℕ → ℕ → World → ℕ → World
    before ks j w i = run_of setting caps (primitives_from c (take i ks) j) w

    pub record MoveAt (ks : List ℕ) (j : ℕ) (w : World) (m : ℕ) : Type 0 where
      pub at : ℕ
      pub inside : at < length ks
      pub move : get_or ks at 0 ≡ 0
      pub splines : (before ks j w at).state.splines ≡ m

    pub met_move : (ks : List ℕ) (j : ℕ) (w : World) (m : ℕ) → Met setting caps (primitives_from c ks j) w m → MoveAt ks j w m
    unfolding primitives_from run_of command_primitives_of
    met_move [] j w m h = absurd h
    met_move (k ∷ ks) j w m h =
        go k (met_append (command_primitives_of c k j) (primitives_from c ks (j + uses_of k)) w m h)
        (met_move ks (j + uses_of k) (run_of setting caps (command_primitives_of c k j) w) m)
      where
        later : (k : ℕ) → MoveAt ks (j + uses_of k) (run_of setting caps (command_primitives_of c k j) w) m → MoveAt (k ∷ ks) j w m
        later k z =
            record {
              at = suc z.at;
              inside = suc-le-suc z.inside;
              move = z.move;
              splines = ap (λ (v : World). v.state.splines)
                  (Runs.run_append setting caps (command_primitives_of c k j) (primitives_from c (take z.at ks) (j + uses_of k)) w) ∙ z.splines;
            }

        first : (k : ℕ) → Met setting caps (command_primitives_of c k j) w m → MoveAt (k ∷ ks) j w m
        first zero (inl h) = record { at = 0; inside = zero-lt-suc (length ks); move = refl; splines = h.1.1 }
        first zero (inr h) = absurd h
        first (suc k) h = absurd (unmet (command_primitives_of c (suc k) j) w m (command_no_mark c k j) h)

        go : (k : ℕ) → Met setting caps (command_primitives_of c k j) w m
            ⊎ Met setting caps (primitives_from c ks (j + uses_of k)) (run_of setting caps (command_primitives_of c k j) w) m
            → (Met setting caps (primitives_from c ks (j + uses_of k)) (run_of setting caps (command_primitives_of c k j) w) m
            → MoveAt ks (j + uses_of k) (run_of setting caps (command_primitives_of c k j) w) m) → MoveAt (k ∷ ks) j w m
        go k (inl h) f = first k h
        go k (inr h) f = later k (f h)

    pub move_met : (ks : List ℕ) (j : ℕ) (w : World) (i : ℕ) → i < length ks → get_or ks i 0 ≡ 0 → is_done (before ks j w i).state.answer ≡ true
        → Met setting caps (primitives_from c ks j) w (before ks j w i).state.splines
    unfolding primitives_from run_of command_primitives_of
    move_met [] j w i l h d = absurd (not-suc-le-zero l)
    move_met (zero ∷ ks) j w zero l h d = inl (subst T (sym d) tt, (tt, refl))
    move_met (suc k ∷ ks) j w zero l h d = absurd (suc-ne-zero k h)
    move_met (k ∷ ks) j w (suc i) l h d =
        let v = run_of setting caps (command_primitives_of c k j) w in
        let e = Runs.run_append setting caps (command_primitives_of c k j) (primitives_from c (take i ks) (j + uses_of k)) w in
        met_right (command_primitives_of c k j) (primitives_from c ks (j + uses_of k)) w _
        (subst (λ (u : World). Met setting caps (primitives_from c ks (j + uses_of k)) v u.state.splines) (sym e)
        (move_met ks (j + uses_of k) v i (le_of_suc-le-suc l) h (ap (λ (u : World). is_done u.state.answer) (sym e) ∙ d)))

    pub primitives_append : (ks ls : List ℕ) (j : ℕ) → primitives_from c (ks ++ ls) j ≡ primitives_from c ks j ++ primitives_from c ls (j + total_uses_of ks)
    unfolding primitives_from total_uses_of
    primitives_append [] ls j = ap (primitives_from c ls) (sym (add-zero j))
    primitives_append (k ∷ ks) ls j =
        ap (λ (x : List Primitive). command_primitives_of c k j ++ x)
        (primitives_append ks ls (j + uses_of k)
        ∙ ap (λ (x : ℕ). primitives_from c ks (j + uses_of k) ++ primitives_from c ls x) (add_assoc j (uses_of k) (total_uses_of ks)))
        ∙ sym (append_assoc (command_primitives_of c k j) (primitives_from c ks (j + uses_of k)) _)

    -- the commands before the i-th, and d more
    more : (ks : List ℕ) (w : World) (i d : ℕ)
        → before ks 0 w (i + d) ≡ run_of setting caps (primitives_from c (take d (drop i ks)) (total_uses_of (take i ks))) (before ks 0 w i)
    more ks w i d =
        ap (λ (x : List ℕ). run_of setting caps (primitives_from c x 0) w) (take-add i d ks)
        ∙ ap (λ (x : List Primitive). run_of setting caps x w)
        (primitives_append (take i ks) (take d (drop i ks)) 0
        ∙ ap (λ (x : ℕ). primitives_from c (take i ks) 0 ++ primitives_from c (take d (drop i ks)) x) (zero-add (total_uses_of (take i ks))))
        ∙ Runs.run_append setting caps (primitives_from c (take i ks) 0) (primitives_from c (take d (drop i ks)) (total_uses_of (take i ks))) w

    pub before_grows : (ks : List ℕ) (w : World) (i d : ℕ) → (before ks 0 w i).state.splines ≤ (before ks 0 w (i + d)).state.splines
    before_grows ks w i d =
        le_trans (run_grows (primitives_from c (take d (drop i ks)) (total_uses_of (take i ks))) (before ks 0 w i))
        (le_of_eq (sym (ap (λ (v : World). v.state.splines) (more ks w i d))))

    pub before_done : (ks : List ℕ) (w : World) (i d : ℕ) → is_done (before ks 0 w (i + d)).state.answer ≡ true
        → is_done (before ks 0 w i).state.answer ≡ true
    before_done ks w i d h =
        let qs = primitives_from c (take d (drop i ks)) (total_uses_of (take i ks)) in
        run_done (primitives_from c (take i ks) 0) qs w
        (ap (λ (v : World). is_done v.state.answer) (Runs.run_append setting caps (primitives_from c (take i ks) 0) qs w ∙ sym (more ks w i d)) ∙ h)
