-- Demand 3c. The number of splines never falls from command to command, so the Moves divide the splines: each is in one contour, found from the first Move on.
-- A spline is flagged exactly if, at a Move or at the end, it is the last spline so far (laws of the tables); then it is the last of its contour. Assumes
-- nothing.
use mathlib.Core.Path.{◌≡◌, refl, sym, ap, ◌∙◌, subst}
use mathlib.Core.Logic.{◌⊎◌, inl, inr, ◌≢◌, ◌↔◌}
use mathlib.Core.Bool.{Bool, true, false, ◌&&◌, cond, true≢false, or-false}
use mathlib.Core.List.{List, [], ◌∷◌, ◌++◌}
use Prim.Native.Nat.{ℕ, zero, suc, ◌+◌, ◌-◌, ◌≤◌, ◌<◌, zero-le}
use native.Mathlib.Nat.{le_trans, le_of_eq, le_refl, le_of_lt, lt_of_lt_of_le, lt_irrefl, eq-or-lt_of_le, add-sub_of_le, add-zero}
use native.Mathlib.Nat.{le_of_suc-le-suc, lt-suc_self, not-le_of_lt}
use native.Mathlib.Decide.{ℕ_discrete, dec_lt}
use native.Mathlib.Omega.{arith, by_contra}
use lib.Dec.{T, leb, ltb, eqb, leb→le, eqb→eq}
use lib.ListN.{length, get_or, take, replicate}
use lib.Seq.{take-take, get_or-take, length-take-le}
use lib.Ieee.{Float}
use Rattle.facts.proofs.Numbers.{shift}
use Rattle.answer.specs.Number.{is_done}
use Rattle.command.specs.declared.PointCommand.{PointCommand}
use Rattle.command.specs.declared.PointCommand.TheVariants.{Start, Incr, End}
use Rattle.store.specs.Columns.{move_command, last_command_of, even_of, usable_of}
use Rattle.store.specs.Drawable.{stored_ok_of, known_of, total_uses_of, drawable_of}
use Rattle.store.specs.Drawing.{every, weight_ok_of}
use Rattle.tables.specs.Tables.{SplineTable, spline_at}
use Rattle.tables.specs.Run.{World, world, start_state, run_of}
use Rattle.tables.specs.Commands.{primitives_from, primitives_of, tables_of}
use Rattle.tables.proofs.Sound.{sound_start}
use Rattle.tables.proofs.Flags.{Flagged, Met, flag_at, flagged_run, flagged_start}
use Rattle.tables.proofs.Moves.{before, met_move, move_met, before_grows, before_done}
use Rattle.walk.specs.Walk.{starts_of, step_size_of}
use Rattle.flatten.specs.Flatten.{Flattening, walked}
use Rattle.promises.specs.Words.{decoded, pieces_in, is_flagged}
use Rattle.promises.specs.Accepted.{Job, flattening_of, words_in, command_at, splines_before, Contour, Within, ContourLast, steps_of, piece_of}
use Rattle.promises.specs.Demand3.{Demand3c}
use Rattle.promises.proofs.Flattened.{world_of, Passed, passed}
use Rattle.promises.proofs.Decoding.{caps_of, job_pieces}

-- ---- what the test for answer 3 gives
third : (a b c d e f g : Bool) → a && b && c && d && e && f && g ≡ true → T a × T c
third true true true d e f g h = (tt, tt)
third true true false d e f g h = absurd (true≢false (sym h))
third true false c d e f g h = absurd (true≢false (sym h))
third false b c d e f g h = absurd (true≢false (sym h))

fourth : (a b c d e f g : Bool) → T (a && b && c && d && e && f && g) → T d × T e
fourth true true true true true f g h = (tt, tt)
fourth true true true true false f g h = absurd h
fourth true true true false e f g h = absurd h
fourth true true false d e f g h = absurd h
fourth true false c d e f g h = absurd h
fourth false b c d e f g h = absurd h

abbrev pub count_of : Job → ℕ
count_of job = job.state.commands

abbrev pub start_of : Job → World
start_of job = world start_state job.quads job.splines

module _ (job : Job) (P : Passed job) where
  usable : T (usable_of job.state job.columns) × T (eqb (get_or job.columns.commands 0 0) move_command)
  unfolding drawable_of
  usable =
      third (usable_of job.state job.columns) (known_of (take (count_of job) job.columns.commands)) (eqb (get_or job.columns.commands 0 0) move_command)
      (eqb (total_uses_of (take (count_of job) job.columns.commands)) job.state.points) (every weight_ok_of (take job.state.points job.columns.weight))
      (every stored_ok_of (take job.state.points job.columns.x)) (every stored_ok_of (take job.state.points job.columns.y)) P.drawable

  some_commands : (1 ≤ (count_of job)) × ((count_of job) ≤ length job.columns.commands)
  unfolding usable_of
  some_commands =
      let z =
      fourth (even_of job.columns) (leb 1 job.state.points) (leb job.state.points (length job.columns.x)) (leb 1 (count_of job)) (leb (count_of job) (length job.columns.commands))
      (ltb job.state.opening job.state.points) (leb (last_command_of job.state job.columns) 3) usable.0 in
      (leb→le 1 (count_of job) z.0, leb→le (count_of job) (length job.columns.commands) z.1)

  first_move : command_at job 0 ≡ move_command
  first_move = eqb→eq (command_at job 0) move_command usable.1

  -- ---- the splines before a command
  grows : (i j : ℕ) → i ≤ j → splines_before job i ≤ splines_before job j
  unfolding splines_before
  grows i j h =
      subst (λ (x : ℕ). splines_before job i ≤ splines_before job x) (add-sub_of_le h) (before_grows job.setting (caps_of job) job.columns job.columns.commands (start_of job) i (j - i))

  none_first : splines_before job 0 ≡ 0
  unfolding splines_before primitives_from run_of
  none_first = refl

  all_last : splines_before job (count_of job) ≡ (world_of job).state.splines
  unfolding splines_before tables_of primitives_of
  all_last = refl

  -- ---- each spline is in a contour
  found : (k d b a : ℕ) → b + d ≡ (count_of job) → a < b → command_at job a ≡ move_command → splines_before job a ≤ k → ((i : ℕ) → a < i → i < b → command_at job i ≢ move_command) → k < splines_before job (count_of job) → (a' : ℕ) × (b' : ℕ) × Within job a' b' k
  found k zero b a e l m h n t = (
    a,
    b,
    record {
      contour = record { order = l; inside = le_of_eq (sym (add-zero b) ∙ e); opens = m; between = n; closes = inl (sym (add-zero b) ∙ e) };
      from = h;
      below = lt_of_lt_of_le t (le_of_eq (ap (splines_before job) (sym (sym (add-zero b) ∙ e))));
    },
  )
  found k (suc d) b a e l m h n t = go (ℕ_discrete (command_at job b) move_command) (dec_lt k (splines_before job b)) (found k d (suc b))
    where
      within : (b d n : ℕ) → b + suc d ≡ n → b ≤ n
      within b d n e = omega arith

      weak : (a b : ℕ) → a < b → a < suc b
      weak a b h = omega arith

      split : (P : ℕ → Type 0) (i : ℕ) → i < suc b → (i < b → P i) → P b → P i
      split P i h f p = elim (eq-or-lt_of_le (le_of_suc-le-suc h)) [ inl z ↦ subst P (sym z) p | inr z ↦ f z ]

      none : (i b : ℕ) → b < i → i < suc b → ⊥
      none i b h g = omega arith

      go : Dec (command_at job b ≡ move_command) → Dec (k < splines_before job b)
          → ((a : ℕ) → suc b + d ≡ (count_of job) → a < suc b → command_at job a ≡ move_command → splines_before job a ≤ k → ((i : ℕ) → a < i → i < suc b → command_at job i ≢ move_command) → k < splines_before job (count_of job) → (a' : ℕ) × (b' : ℕ) × Within job a' b' k)
          → (a' : ℕ) × (b' : ℕ) × Within job a' b' k
      go (yes z) (yes y) f = (a, b, record { contour = record { order = l; inside = within b d (count_of job) e; opens = m; between = n; closes = inr z }; from = h; below = y })
      go (yes z) (no y) f = f b (shift b d ∙ e) (lt-suc_self b) z (by_contra (splines_before job b) k y) (λ i g s. absurd (none i b g s)) t
      go (no z) c f = f a (shift b d ∙ e) (weak a b l) m h (λ i g s. split (λ (x : ℕ). command_at job x ≢ move_command) i s (λ u. n i g u) z) t

  pub contour_of : (k : ℕ) → k < (world_of job).state.splines → (a : ℕ) × (b : ℕ) × Within job a b k
  contour_of k h =
      found k ((count_of job) - 1) 1 0 (back (count_of job) some_commands.0) (le_refl 1) first_move (le_trans (le_of_eq none_first) zero-le) (λ i g s. absurd (not-le_of_lt s g)) (lt_of_lt_of_le h (le_of_eq (sym all_last)))
    where
      back : (n : ℕ) → 1 ≤ n → 1 + (n - 1) ≡ n
      back n h = omega arith

  -- ---- each spline is in only one contour
  after : (a b i : ℕ) → Contour job a b → a < i → command_at job i ≡ move_command → b ≤ i
  after a b i C l m = go (dec_lt i b)
    where
      go : Dec (i < b) → b ≤ i
      go (yes h) = absurd (C.between i l h m)
      go (no h) = by_contra b i h

  -- a contour that begins after another's Move has none of its splines
  apart : (a b c d k : ℕ) → Within job a b k → Within job c d k → a < c → ⊥
  apart a b c d k A C l = lt_irrefl k (lt_of_lt_of_le A.below (le_trans (grows b c (after a b c A.contour l C.contour.opens)) C.from))

  same_order : (a c : ℕ) → (a < c → ⊥) → (c < a → ⊥) → c ≡ a
  same_order a c h k = omega arith

  -- two contours that begin at the same Move end at the same next Move
  not_short : (a b d : ℕ) → Contour job a b → Contour job a d → b < d → ⊥
  not_short a b d B D l = elim B.closes [ inl e ↦ lt_irrefl b (lt_of_lt_of_le l (le_trans D.inside (le_of_eq (sym e)))) | inr m ↦ D.between b B.order l m ]

  pub only_contour : (a b k : ℕ) → Within job a b k → (c d : ℕ) → Within job c d k → (c ≡ a) × (d ≡ b)
  only_contour a b k A c d C =
      let e : c ≡ a = same_order a c (apart a b c d k A C) (apart c d a b k C A) in
      let D : Contour job a d = subst (λ (x : ℕ). Contour job x d) e C.contour in
      (e, same_order b d (not_short a b d A.contour D) (not_short a d b D A.contour))

  -- ---- the flags of the tables
  flags : Flagged (λ (m : ℕ). ⊥ ⊎ Met job.setting (caps_of job) (primitives_of job.state job.columns) (start_of job) m) (world_of job)
  unfolding tables_of
  flags = flagged_run job.setting (caps_of job) (primitives_of job.state job.columns) (λ (m : ℕ). ⊥) (start_of job) (sound_start job.quads job.splines) (flagged_start job.quads job.splines)

  cut_list : (i : ℕ) → i ≤ count_of job → (before job.setting (caps_of job) job.columns (take (count_of job) job.columns.commands) 0 (start_of job) i).state.splines ≡ splines_before job i
  unfolding splines_before
  cut_list i h = ap (λ (x : List ℕ). (run_of job.setting (caps_of job) (primitives_from job.columns x 0) (start_of job)).state.splines) (take-take i (count_of job) job.columns.commands h)

  -- that many splines are there at a Move
  move_of_lem : (m : ℕ) → Met job.setting (caps_of job) (primitives_of job.state job.columns) (start_of job) m → (i : ℕ) × (command_at job i ≡ move_command) × (splines_before job i ≡ m)
  unfolding primitives_of
  move_of_lem m h =
      let z = met_move job.setting (caps_of job) job.columns (take (count_of job) job.columns.commands) 0 (start_of job) m h in
      let l : z.at < count_of job = lt_of_lt_of_le z.inside (le_of_eq (length-take-le (count_of job) job.columns.commands some_commands.1)) in
      (z.at, sym (get_or-take (count_of job) job.columns.commands z.at 0 l) ∙ z.move, sym (cut_list z.at (le_of_lt l)) ∙ z.splines)

  met_of : (i : ℕ) → i < count_of job → command_at job i ≡ move_command → Met job.setting (caps_of job) (primitives_of job.state job.columns) (start_of job) (splines_before job i)
  unfolding primitives_of tables_of
  met_of i l m =
      let ks = take (count_of job) job.columns.commands in
      subst (λ (x : ℕ). Met job.setting (caps_of job) (primitives_from job.columns ks 0) (start_of job) x) (cut_list i (le_of_lt l))
      (move_met job.setting (caps_of job) job.columns ks 0 (start_of job) i (lt_of_lt_of_le l (le_of_eq (sym (length-take-le (count_of job) job.columns.commands some_commands.1)))) (get_or-take (count_of job) job.columns.commands i 0 l ∙ m)
      (before_done job.setting (caps_of job) job.columns ks (start_of job) i (count_of job - i)
      (ap (λ (x : List ℕ). is_done (run_of job.setting (caps_of job) (primitives_from job.columns x 0) (start_of job)).state.answer)
      (ap (λ (x : ℕ). take x ks) (add-sub_of_le (le_of_lt l)) ∙ take-take (count_of job) (count_of job) job.columns.commands (le_refl (count_of job))) ∙ P.done)))

  -- ---- a flag, and the contour's last
  pub flag_last : (k : ℕ) → k < (world_of job).state.splines → (flag_at (world_of job).splines k ≡ true) ↔ ContourLast job k
  flag_last k h = (to, from)
    where
      z : (a : ℕ) × (b : ℕ) × Within job a b k
      z = contour_of k h

      tight : (k s m : ℕ) → k < s → s ≤ m → m ≡ suc k → suc k ≡ s
      tight k s m l g e = omega arith

      later : (i : ℕ) → splines_before job i ≡ suc k → (i ≤ z.0 → ⊥)
      later i e g = lt_irrefl k (le_trans (le_of_eq (sym e)) (le_trans (grows i z.0 g) z.2.from))

      beyond : (a i : ℕ) → (i ≤ a → ⊥) → a < i
      beyond a i h = omega arith

      last_at : (m : ℕ) → splines_before job z.1 ≤ m → m ≡ suc k → ContourLast job k
      last_at m g e = record { a = z.0; b = z.1; within = z.2; last = tight k (splines_before job z.1) m z.2.below g e }

      to : flag_at (world_of job).splines k ≡ true → ContourLast job k
      to f = elim (flags.closed k h f) [
        | inl e ↦ last_at (world_of job).state.splines (le_trans (grows z.1 (count_of job) z.2.contour.inside) (le_of_eq all_last)) (sym e)
        | inr e ↦ elim e [
          | inl a ↦ absurd a
          | inr a ↦
              let i = move_of_lem (suc k) a in
              last_at (splines_before job i.0) (grows z.1 i.0 (after z.0 z.1 i.0 z.2.contour (beyond z.0 i.0 (later i.0 i.2)) i.1)) i.2
        ]
      ]

      at_end : (b : ℕ) → b ≡ count_of job → suc k ≡ splines_before job b → flag_at (world_of job).splines k ≡ true
      at_end b e l = flags.closing k h (inl (l ∙ ap (splines_before job) e ∙ all_last))

      at_move : (b : ℕ) → b < count_of job → command_at job b ≡ move_command → suc k ≡ splines_before job b → flag_at (world_of job).splines k ≡ true
      at_move b g m l = flags.closing k h (inr (inr (subst (λ (x : ℕ). Met job.setting (caps_of job) (primitives_of job.state job.columns) (start_of job) x) (sym l) (met_of b g m))))

      from : ContourLast job k → flag_at (world_of job).splines k ≡ true
      from c = elim (eq-or-lt_of_le c.within.contour.inside) [
        | inl e ↦ at_end c.b e c.last
        | inr g ↦ elim c.within.contour.closes [ inl e ↦ at_end c.b e c.last | inr m ↦ at_move c.b g m c.last ]
      ]

-- ---- the flag in the words of piece k is the spline's
steps_no_flag : (n : ℕ) (size : Float) (rest : List PointCommand) → is_flagged (replicate n (Incr size) ++ rest) ≡ is_flagged rest
steps_no_flag zero size rest = refl
steps_no_flag (suc n) size rest = steps_no_flag n size rest

pub piece_flag : (s : SplineTable) (k : ℕ) → is_flagged (piece_of s k) ≡ flag_at s k
unfolding piece_of
piece_flag s k = go (starts_of s k) ∙ steps_no_flag (steps_of s k) (step_size_of s k) (End k (spline_at s k).contour ∷ []) ∙ or-false (spline_at s k).contour
  where
    go : (b : Bool) → is_flagged (cond b (Start k ∷ []) [] ++ (replicate (steps_of s k) (Incr (step_size_of s k)) ++ (End k (spline_at s k).contour ∷ []))) ≡ is_flagged (replicate (steps_of s k) (Incr (step_size_of s k)) ++ (End k (spline_at s k).contour ∷ []))
    go true = refl
    go false = refl

pub demand3c : Demand3c
unfolding walked
demand3c job h k l =
    let P = passed job h in
    let L : k < (world_of job).state.splines = subst (λ (f : Flattening). k < f.result.splines) P.result l in
    let z = contour_of job P k L in
    let e : is_flagged (decoded (get_or (pieces_in (words_in (flattening_of job))) k [])) ≡ flag_at (world_of job).splines k =
    ap (λ (f : Flattening). is_flagged (decoded (get_or (pieces_in (words_in f)) k []))) P.result ∙ ap is_flagged ((job_pieces job).each k L) ∙ piece_flag (world_of job).splines k in
    record {
      a = z.0;
      b = z.1;
      within = z.2;
      alone = only_contour job P z.0 z.1 k z.2;
      flag = (λ f. (flag_last job P k L).0 (sym e ∙ f), λ c. e ∙ (flag_last job P k L).1 c);
    }
