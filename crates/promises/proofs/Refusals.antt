-- A run is refused exactly at its first refused primitive, and the test for answer 3 fails exactly on its faults. Assumes nothing.
use Prim.Native.Nat.{ℕ, zero, suc, ◌≤◌, ◌<◌, suc-le-suc}
use mathlib.Core.Path.{◌≡◌, refl, sym, ap, ◌∙◌, subst}
use mathlib.Core.Logic.{◌⊎◌, inl, inr, ◌≢◌}
use mathlib.Core.Bool.{Bool, true, false, ◌&&◌, true≢false}
use mathlib.Core.List.Memᴰ
use mathlib.Core.List.{List, [], ◌∷◌, Memᴰ}
use native.Mathlib.Nat.{le_trans, le_of_eq, lt_of_lt_of_le, le_of_suc-le-suc, not-suc-le-zero, zero-lt-suc}
use native.Mathlib.Decide.{ℕ_discrete}
use native.Mathlib.Omega.{by_contra}
use lib.Dec.{leb, eqb}
use lib.Ieee.{Float, nan, of_bits}
use lib.ListN.{length, get_or, take}
use lib.Seq.{get_or-take, length-take-le}
use mathlib.Mathlib.Data.Bool.Basic.{and_elim_left}
use Rattle.answer.proofs.Laws.{done_is}
use Rattle.answer.specs.Answer.{Answer}
use Rattle.answer.specs.Answer.{Done}
use Rattle.answer.specs.Number.{is_done}
use Rattle.leaves.specs.Single.{f32}
use Rattle.point.specs.declared.Setting.{Setting}
use Rattle.primitives.specs.declared.Capacities.{Capacities}
use Rattle.primitives.specs.declared.Primitive.{Primitive}
use Rattle.store.specs.declared.StoreState.{StoreState}
use Rattle.store.specs.Columns.{Columns, move_command, usable_of}
use Rattle.store.specs.Drawable.{stored_ok_of, known_of, total_uses_of, drawable_of}
use Rattle.store.specs.Drawing.{every, weight_ok_of}
use Rattle.primitives.specs.Splines.{spline_edit_of}
use Rattle.primitives.specs.Plan.{refused_of, marked_of}
use Rattle.tables.specs.Run.{World, world, apply_of, push_of, run_of}
use Rattle.tables.proofs.Pushes.{Pushed, kept, marked, lined, bent, pushed}
use Rattle.tables.proofs.Sound.{Sound, sound_push}
use Rattle.tables.proofs.Runs.{next_is, run_append, run_stop as run-stays}
use Rattle.promises.specs.DrawingAnswers.{UnusableStore, uneven_y, uneven_weight, points_over, commands_over, Outside}
use Rattle.promises.specs.FlattenAnswers.{Undrawable, unusable, unknown, no_move, other_sum, weight_outside, x_outside, y_outside, Refuses, RefusedIn}
use Rattle.promises.proofs.Telling.{Tells, tells_as, passes, tells_and, tells_leb, tells_eqb, tells_outside, Some, tells_every}
use Rattle.promises.proofs.DrawingAnswers.{tells_usable, weight_tells}
use Rattle.promises.proofs.Refusing.{refuses_answer, push_told, refuses_not_done}

-- ---- the run
module _ (setting : Setting) (caps : Capacities) where
  -- a run that is refused ends with the refused primitive
  refused_run : (ps : List Primitive) (w : World) (a : Answer) (R : RefusedIn setting caps ps w a) → run_of setting caps ps w ≡ push_of setting caps R.primitive (run_of setting caps R.before w)
  refused_run ps w a R =
      let v = run_of setting caps R.before w in
      ap (λ (x : List Primitive). run_of setting caps x w) R.split
      ∙ run_append setting caps R.before (R.primitive ∷ R.after) w
      ∙ next_is setting caps R.primitive R.after v R.pushed
      ∙ run-stays setting caps R.after (push_of setting caps R.primitive v) (ap is_done (refuses_answer setting caps v R.cause) ∙ refuses_not_done R.cause)

  -- the refused primitive gives the run's answer
  pub refused_answer : (ps : List Primitive) (w : World) (a : Answer) → RefusedIn setting caps ps w a → (run_of setting caps ps w).state.answer ≡ a
  refused_answer ps w a R = ap (λ (x : World). x.state.answer) (refused_run ps w a R) ∙ refuses_answer setting caps (run_of setting caps R.before w) R.cause

  -- the refused primitive keeps the counts and the tables
  push_kept : (w : World) {b : Bool} {w' : World} → Pushed setting caps w b w' → is_done w.state.answer ≡ true → is_done w'.state.answer ≡ false
      → w' ≡ world (refused_of w.state w'.state.answer) w.quads w.splines
  unfolding refused_of marked_of apply_of spline_edit_of
  push_kept w (kept answer) d h = refl
  push_kept w marked d h = absurd (true≢false (sym d ∙ h))
  push_kept w (lined true start end angle A) d h = absurd (true≢false h)
  push_kept w (lined false start end angle A) d h = absurd (true≢false h)
  push_kept w (bent true start end angle c row A B K fit R) d h = absurd (true≢false h)
  push_kept w (bent false start end angle c row A B K fit R) d h = absurd (true≢false h)

  pub refused_world : (ps : List Primitive) (w : World) (a : Answer) (R : RefusedIn setting caps ps w a)
      → run_of setting caps ps w ≡ world (refused_of (run_of setting caps R.before w).state a) (run_of setting caps R.before w).quads (run_of setting caps R.before w).splines
  refused_world ps w a R =
      let v = run_of setting caps R.before w in
      let e = refuses_answer setting caps v R.cause in
      refused_run ps w a R
      ∙ push_kept v (pushed setting caps v R.primitive) R.pushed (ap is_done e ∙ refuses_not_done R.cause)
      ∙ ap (λ (x : Answer). world (refused_of v.state x) v.quads v.splines) e

  pub run_told : (ps : List Primitive) (w : World) → Sound caps w → is_done w.state.answer ≡ true
      → ((run_of setting caps ps w).state.answer ≡ Done) ⊎ RefusedIn setting caps ps w (run_of setting caps ps w).state.answer
  unfolding run_of
  run_told [] w S D = inl (done_is w.state.answer D)
  run_told (p ∷ ps) w S D =
      let v = push_of setting caps p w in
      subst (λ (x : World). (x.state.answer ≡ Done) ⊎ RefusedIn setting caps (p ∷ ps) w x.state.answer) (sym (next_is setting caps p ps w D))
      (go (push_told setting caps w S (done_is w.state.answer D) p) (run_told ps v (sound_push caps w S (pushed setting caps w p))))
    where
      later : (a : Answer) → RefusedIn setting caps ps (push_of setting caps p w) a → RefusedIn setting caps (p ∷ ps) w a
      later a R =
          record {
            before = p ∷ R.before;
            primitive = R.primitive;
            after = R.after;
            split = ap (λ (x : List Primitive). p ∷ x) R.split;
            pushed = ap (λ (x : World). is_done x.state.answer) (next_is setting caps p R.before w D) ∙ R.pushed;
            cause = subst (λ (x : World). Refuses setting caps x R.primitive a) (sym (next_is setting caps p R.before w D)) R.cause;
          }

      go : ((push_of setting caps p w).state.answer ≡ Done) ⊎ Refuses setting caps w p (push_of setting caps p w).state.answer
          → (is_done (push_of setting caps p w).state.answer ≡ true
          → ((run_of setting caps ps (push_of setting caps p w)).state.answer ≡ Done)
          ⊎ RefusedIn setting caps ps (push_of setting caps p w) (run_of setting caps ps (push_of setting caps p w)).state.answer)
          → ((run_of setting caps ps (push_of setting caps p w)).state.answer ≡ Done) ⊎ RefusedIn setting caps (p ∷ ps) w (run_of setting caps ps (push_of setting caps p w)).state.answer
      go (inl e) f = elim (f (ap is_done e)) [ inl d ↦ inl d | inr R ↦ inr (later (run_of setting caps ps (push_of setting caps p w)).state.answer R) ]
      go (inr r) f =
          inr (subst (λ (x : World). RefusedIn setting caps (p ∷ ps) w x.state.answer) (sym (run-stays setting caps ps (push_of setting caps p w) (refuses_not_done r)))
          (record { before = []; primitive = p; after = ps; split = refl; pushed = D; cause = r }))

-- ---- the test for answer 3
tells_then : (a b : Bool) (X Y : Type 0) → Tells a X → (a ≡ true → Tells b Y) → Tells (a && b) (X ⊎ Y)
tells_then true b X Y s t = tells_and true b X Y s (t refl)
tells_then false b X Y s t = (λ e. inl (s.0 refl), λ h. refl)

record Unknown (l : List ℕ) : Type 0 where
  at : ℕ
  inside : at < length l
  over : 3 < get_or l at 0

tells_known : (l : List ℕ) → Tells (known_of l) (Unknown l)
unfolding known_of
tells_known [] = (λ e. absurd (true≢false e), λ u. absurd (not-suc-le-zero u.inside))
tells_known (k ∷ l) = tells_as (leb k 3 && known_of l) ((3 < k) ⊎ Unknown l) (Unknown (k ∷ l)) to from (tells_and (leb k 3) (known_of l) (3 < k) (Unknown l) (tells_leb k 3) (tells_known l))
  where
    to : (3 < k) ⊎ Unknown l → Unknown (k ∷ l)
    to (inl h) = record { at = 0; inside = zero-lt-suc (length l); over = h }
    to (inr u) = record { at = suc u.at; inside = suc-le-suc u.inside; over = u.over }

    split : (i : ℕ) → i < length (k ∷ l) → 3 < get_or (k ∷ l) i 0 → (3 < k) ⊎ Unknown l
    split zero h o = inl o
    split (suc i) h o = inr (record { at = i; inside = le_of_suc-le-suc h; over = o })

    from : Unknown (k ∷ l) → (3 < k) ⊎ Unknown l
    from u = split u.at u.inside u.over

-- an entry of a column among the first n
record Entry (bad : Float → Type 0) (n : ℕ) (l : List Float) : Type 0 where
  at : ℕ
  inside : at < n
  fault : bad (get_or l at nan)

index_of : (l : List Float) (v : Float) → Memᴰ v l → (i : ℕ) × (i < length l) × (get_or l i nan ≡ v)
index_of [] v m = elim m [ ]
index_of (x ∷ l) v m = elim (Memᴰ.cases_cons m) [ inl e ↦ (0, zero-lt-suc (length l), sym e) | inr k ↦ step (index_of l v k) ]
  where
    step : (i : ℕ) × (i < length l) × (get_or l i nan ≡ v) → (i : ℕ) × (i < length (x ∷ l)) × (get_or (x ∷ l) i nan ≡ v)
    step z = (suc z.0, suc-le-suc z.1, z.2)

member_at : (l : List Float) (i : ℕ) → i < length l → Memᴰ (get_or l i nan) l
member_at [] i h = absurd (not-suc-le-zero h)
member_at (x ∷ l) zero h = Memᴰ.head refl
member_at (x ∷ l) (suc i) h = Memᴰ.tail (member_at l i (le_of_suc-le-suc h))

tells_entries : (ok : Float → Bool) (bad : Float → Type 0) → ((v : Float) → Tells (ok v) (bad v)) → (n : ℕ) (l : List Float) → n ≤ length l
    → Tells (every ok (take n l)) (Entry bad n l)
tells_entries ok bad t n l h = tells_as (every ok (take n l)) (Some bad (take n l)) (Entry bad n l) to from (tells_every ok bad t (take n l))
  where
    short : length (take n l) ≡ n
    short = length-take-le n l h

    to : Some bad (take n l) → Entry bad n l
    to s =
        let z = index_of (take n l) s.v s.member in
        let i : z.0 < n = lt_of_lt_of_le z.1 (le_of_eq short) in
        record { at = z.0; inside = i; fault = subst bad (sym z.2 ∙ get_or-take n l z.0 nan i) s.fault }

    from : Entry bad n l → Some bad (take n l)
    from e =
        record {
          v = get_or (take n l) e.at nan;
          member = member_at (take n l) e.at (lt_of_lt_of_le e.inside (le_of_eq (sym short)));
          fault = subst bad (sym (get_or-take n l e.at nan e.inside)) e.fault;
        }

stored_tells : (v : Float) → Tells (stored_ok_of v) (Outside (f32 0xca80_0000) (f32 0x4a80_0000) v)
unfolding stored_ok_of of_bits
stored_tells v = tells_outside (f32 0xca80_0000) (f32 0x4a80_0000) v tt tt

-- ---- what a usable store has

module _ (st : StoreState) (c : Columns) where
  module _ (u : usable_of st c ≡ true) where
    sound_store : UnusableStore st c → ⊥
    sound_store = passes (usable_of st c) (UnusableStore st c) (tells_usable st c) u

    points_fit : st.points ≤ length c.x
    points_fit = by_contra st.points (length c.x) (λ h. sound_store (points_over h))

    commands_fit : st.commands ≤ length c.commands
    commands_fit = by_contra st.commands (length c.commands) (λ h. sound_store (commands_over h))

    same : (a b : ℕ) → (a ≢ b → ⊥) → a ≡ b
    same a b h = go (ℕ_discrete a b)
      where
        go : Dec (a ≡ b) → a ≡ b
        go (yes e) = e
        go (no n) = absurd (h n)

    y_fit : st.points ≤ length c.y
    y_fit = le_trans points_fit (le_of_eq (sym (same (length c.y) (length c.x) (λ h. sound_store (uneven_y h)))))

    weight_fit : st.points ≤ length c.weight
    weight_fit = le_trans points_fit (le_of_eq (sym (same (length c.weight) (length c.x) (λ h. sound_store (uneven_weight h)))))

  record UnknownCommand : Type 0 where
    at : ℕ
    inside : at < st.commands
    over : 3 < get_or c.commands at 0

  known_told : usable_of st c ≡ true → Tells (known_of (take st.commands c.commands)) UnknownCommand
  known_told u = tells_as (known_of (take n c.commands)) (Unknown (take n c.commands)) UnknownCommand to from (tells_known (take n c.commands))
    where
      n : ℕ
      n = st.commands

      short : length (take n c.commands) ≡ n
      short = length-take-le n c.commands (commands_fit u)

      to : Unknown (take n c.commands) → UnknownCommand
      to k =
          let i : k.at < n = lt_of_lt_of_le k.inside (le_of_eq short) in
          record { at = k.at; inside = i; over = subst (λ (x : ℕ). 3 < x) (get_or-take n c.commands k.at 0 i) k.over }

      from : UnknownCommand → Unknown (take n c.commands)
      from k = record { at = k.at; inside = lt_of_lt_of_le k.inside (le_of_eq (sym short)); over = subst (λ (x : ℕ). 3 < x) (sym (get_or-take n c.commands k.at 0 k.inside)) k.over }

  -- ---- the seven tests
  t1 : Bool
  t1 = usable_of st c

  t2 : Bool
  t2 = known_of (take st.commands c.commands)

  t3 : Bool
  t3 = eqb (get_or c.commands 0 0) move_command

  t4 : Bool
  t4 = eqb (total_uses_of (take st.commands c.commands)) st.points

  t5 : Bool
  t5 = every weight_ok_of (take st.points c.weight)

  t6 : Bool
  t6 = every stored_ok_of (take st.points c.x)

  t7 : Bool
  t7 = every stored_ok_of (take st.points c.y)

  Weights : Type 0
  Weights = Entry (Outside (f32 0x3c80_0000) (f32 0x4280_0000)) st.points c.weight

  Xs : Type 0
  Xs = Entry (Outside (f32 0xca80_0000) (f32 0x4a80_0000)) st.points c.x

  Ys : Type 0
  Ys = Entry (Outside (f32 0xca80_0000) (f32 0x4a80_0000)) st.points c.y

  Faults : Type 0
  Faults = (((((UnusableStore st c ⊎ UnknownCommand) ⊎ (get_or c.commands 0 0 ≢ move_command)) ⊎ (total_uses_of (take st.commands c.commands) ≢ st.points)) ⊎ Weights) ⊎ Xs) ⊎ Ys

  faults_told : Tells (drawable_of st c) Faults
  unfolding drawable_of Faults Weights Xs Ys t1 t2 t3 t4 t5 t6 t7
  faults_told =
      tells_then (t1 && t2 && t3 && t4 && t5 && t6) t7 _ _
      (tells_then (t1 && t2 && t3 && t4 && t5) t6 _ _
      (tells_then (t1 && t2 && t3 && t4) t5 _ _
      (tells_and (t1 && t2 && t3) t4 _ _
      (tells_and (t1 && t2) t3 _ _
      (tells_then t1 t2 _ _ (tells_usable st c) known_told)
      (tells_eqb (get_or c.commands 0 0) move_command))
      (tells_eqb (total_uses_of (take st.commands c.commands)) st.points))
      (λ h. tells_entries weight_ok_of (Outside (f32 0x3c80_0000) (f32 0x4280_0000)) weight_tells st.points c.weight
      (weight_fit (and_elim_left t1 t2
      (and_elim_left (t1 && t2) t3 (and_elim_left (t1 && t2 && t3) t4 h))))))
      (λ h. tells_entries stored_ok_of (Outside (f32 0xca80_0000) (f32 0x4a80_0000)) stored_tells st.points c.x
      (points_fit (and_elim_left t1 t2
      (and_elim_left (t1 && t2) t3 (and_elim_left (t1 && t2 && t3) t4 (and_elim_left (t1 && t2 && t3 && t4) t5 h)))))))
      (λ h. tells_entries stored_ok_of (Outside (f32 0xca80_0000) (f32 0x4a80_0000)) stored_tells st.points c.y
      (y_fit (and_elim_left t1 t2
      (and_elim_left (t1 && t2) t3 (and_elim_left (t1 && t2 && t3) t4 (and_elim_left (t1 && t2 && t3 && t4) t5 (and_elim_left (t1 && t2 && t3 && t4 && t5) t6 h)))))))

  pub tells_drawable : Tells (drawable_of st c) (Undrawable st c)
  unfolding Faults Weights Xs Ys
  tells_drawable = tells_as (drawable_of st c) Faults (Undrawable st c) to from faults_told
    where
      to : Faults → Undrawable st c
      to (inl (inl (inl (inl (inl (inl h)))))) = unusable h
      to (inl (inl (inl (inl (inl (inr h)))))) = unknown h.at h.inside h.over
      to (inl (inl (inl (inl (inr h))))) = no_move h
      to (inl (inl (inl (inr h)))) = other_sum h
      to (inl (inl (inr h))) = weight_outside h.at h.inside h.fault
      to (inl (inr h)) = x_outside h.at h.inside h.fault
      to (inr h) = y_outside h.at h.inside h.fault

      from : Undrawable st c → Faults
      from (unusable h) = inl (inl (inl (inl (inl (inl h)))))
      from (unknown i l h) = inl (inl (inl (inl (inl (inr (record { at = i; inside = l; over = h }))))))
      from (no_move h) = inl (inl (inl (inl (inr h))))
      from (other_sum h) = inl (inl (inl (inr h)))
      from (weight_outside i l h) = inl (inl (inr (record { at = i; inside = l; fault = h })))
      from (x_outside i l h) = inl (inr (record { at = i; inside = l; fault = h }))
      from (y_outside i l h) = inr (record { at = i; inside = l; fault = h })
