-- The flags at every moment of a run: a spline is flagged exactly if it is the last one so far, or was the last one when a Move came.
-- `ended m` says that m splines were there at a Move. The last spline was the last one at a Move exactly while a mark waits. Assumes nothing.
use mathlib.Core.Path.{◌≡◌, refl, sym, ap, ◌∙◌, subst}
use mathlib.Core.Logic.{◌⊎◌, inl, inr, ◌≢◌}
use mathlib.Core.List.{List, [], ◌∷◌}
use mathlib.Core.Bool.{Bool, true, false, not, cond, true≢false}
use Prim.Native.Nat.{ℕ, suc, ◌-◌, ◌≤◌, ◌<◌, zero-le}
use native.Mathlib.Nat.{le_trans, le_of_eq, le_refl, le_of_lt, lt_of_lt_of_le, lt_of_le_of_lt, lt_irrefl, eq-or-lt_of_le, le_of_suc-le-suc, ne_of_lt}
use native.Mathlib.Nat.{not-suc-le-zero}
use native.Mathlib.Numerals.{add-one}
use native.Mathlib.Omega.{arith}
use lib.Dec.{T}
use lib.Ieee.{Float}
use lib.ListN.{length, get_or, set}
use lib.Seq.{get_or-set_same, get_or-set_other}
use Rattle.columns.proofs.Flags.{flag_back}
use Rattle.answer.specs.Number.{is_done}
use Rattle.columns.specs.Flags.{flag_byte_of, is_flag_of}
use Rattle.point.specs.declared.Point.{Point}
use Rattle.point.specs.Angle.{Angle}
use Rattle.point.specs.declared.Setting.{Setting}
use Rattle.primitives.specs.declared.Capacities.{Capacities}
use Rattle.primitives.specs.declared.Kind.{Kind}
use Rattle.primitives.specs.declared.Primitive.{Primitive}
use Rattle.primitives.specs.declared.SplineRow.{SplineRow}
use Rattle.primitives.specs.Edits.{SplineEdit}
use Rattle.primitives.specs.Splines.{spline_edit_of}
use Rattle.primitives.specs.Plan.{refused_of, marked_of}
use Rattle.tables.specs.Tables.{QuadTable, SplineTable, clear_flag, put_spline, spline_at}
use Rattle.tables.specs.Run.{World, world, apply_of, push_of, run_of, start_state}
use Rattle.tables.proofs.Pushes.{last_of, is_mark, Allowed, spline_edit, Pushed, kept, marked, lined, bent, pushed}
use Rattle.tables.proofs.SplineRows.{clear_length}
use Rattle.tables.proofs.Sound.{Sound, sound_push, last_is, pred_suc, pred_lt}

abbrev pub flag_at : SplineTable → ℕ → Bool
flag_at s j = (spline_at s j).contour

-- spline j is the last one so far, or was when a Move came
abbrev pub Closes : (ℕ → Type 0) → ℕ → ℕ → Type 0
Closes ended n j = (suc j ≡ n) ⊎ ended (suc j)

pub record Flagged (ended : ℕ → Type 0) (w : World) : Type 0 where
  pub closed : (j : ℕ) → j < w.state.splines → flag_at w.splines j ≡ true → Closes ended w.state.splines j
  pub closing : (j : ℕ) → j < w.state.splines → Closes ended w.state.splines j → flag_at w.splines j ≡ true
  pub waits : w.state.mark ≡ true → 0 < w.state.splines → ended w.state.splines
  pub free : w.state.mark ≡ false → ended w.state.splines → ⊥
  pub within : (m : ℕ) → ended m → m ≤ w.state.splines

pub flagged_same : (E F : ℕ → Type 0) (w : World) → ((m : ℕ) → E m → F m) → ((m : ℕ) → F m → E m) → Flagged E w → Flagged F w
flagged_same E F w f g S =
    record {
      closed = λ j h e. elim (S.closed j h e) [ inl a ↦ inl a | inr a ↦ inr (f (suc j) a) ];
      closing = λ j h c. S.closing j h (back j c);
      waits = λ e h. f _ (S.waits e h);
      free = λ e h. S.free e (g _ h);
      within = λ m h. S.within m (g m h);
    }
  where
    back : (j : ℕ) → Closes F w.state.splines j → Closes E w.state.splines j
    back j (inl a) = inl a
    back j (inr a) = inr (g (suc j) a)

-- ---- the flags after a spline is written

module _ (s : SplineTable) (edit : SplineEdit) where
  flag_new : edit.at < length s.contour → flag_at (put_spline s edit) edit.at ≡ edit.row.contour
  unfolding put_spline spline_at
  flag_new h =
      ap is_flag_of (get_or-set_same (clear_flag edit.clears s.contour edit.at) edit.at (flag_byte_of edit.row.contour) 0
      (lt_of_lt_of_le h (le_of_eq (sym (clear_length s edit edit.clears)))))
      ∙ flag_back edit.row.contour

  flag_rest : (j : ℕ) → j ≢ edit.at → flag_at (put_spline s edit) j ≡ is_flag_of (get_or (clear_flag edit.clears s.contour edit.at) j 0)
  unfolding put_spline spline_at
  flag_rest j h = ap is_flag_of (get_or-set_other (clear_flag edit.clears s.contour edit.at) edit.at j (flag_byte_of edit.row.contour) 0 h)

  flag_kept : (j : ℕ) → j ≢ edit.at → edit.clears ≡ false → flag_at (put_spline s edit) j ≡ flag_at s j
  unfolding clear_flag spline_at
  flag_kept j h c = flag_rest j h ∙ ap (λ (b : Bool). is_flag_of (get_or (clear_flag b s.contour edit.at) j 0)) c

  flag_far : (j : ℕ) → j ≢ edit.at → j ≢ edit.at - 1 → edit.clears ≡ true → flag_at (put_spline s edit) j ≡ flag_at s j
  unfolding clear_flag spline_at
  flag_far j h k c =
      flag_rest j h ∙ ap (λ (b : Bool). is_flag_of (get_or (clear_flag b s.contour edit.at) j 0)) c
      ∙ ap is_flag_of (get_or-set_other s.contour (edit.at - 1) j (flag_byte_of false) 0 k)

  flag_gone : (j : ℕ) → j ≢ edit.at → j ≡ edit.at - 1 → j < length s.contour → edit.clears ≡ true → flag_at (put_spline s edit) j ≡ false
  unfolding clear_flag
  flag_gone j h k l c =
      flag_rest j h ∙ ap (λ (b : Bool). is_flag_of (get_or (clear_flag b s.contour edit.at) j 0)) c
      ∙ ap (λ (x : ℕ). is_flag_of (get_or (set s.contour x (flag_byte_of false)) j 0)) (sym k)
      ∙ ap is_flag_of (get_or-set_same s.contour j (flag_byte_of false) 0 l)
      ∙ flag_back false

-- ---- a push

not_next : (j n : ℕ) → j < n → suc j ≡ suc n → ⊥
not_next j n h e = omega arith

before_is : (j n : ℕ) → suc j ≡ n → j ≡ n - 1
before_is j n e = omega arith

not_before : (j n : ℕ) → 0 < n → suc j ≢ n → j ≢ n - 1
not_before j n N h e = h (ap suc e ∙ pred_suc n N)

le_or_next : (j n : ℕ) → j < n → (suc j ≡ n) ⊎ (suc j ≢ n)
le_or_next j n h = elim (eq-or-lt_of_le h) [ inl e ↦ inl e | inr l ↦ inr (λ e. lt_irrefl n (lt_of_le_of_lt (le_of_eq (sym e)) l)) ]

module _ (caps : Capacities) (E : ℕ → Type 0) (w : World) (S : Sound caps w) (G : Flagged E w) where
  fits_flags : (j : ℕ) → j < caps.splines → j < length w.splines.contour
  fits_flags j h = lt_of_lt_of_le h S.room.flags

  -- one spline more, which is flagged
  one_more : (w' : World) → w'.state.splines ≡ suc w.state.splines → w'.state.mark ≡ false → flag_at w'.splines w.state.splines ≡ true
      → ((j : ℕ) → j < w.state.splines → flag_at w'.splines j ≡ true → E (suc j))
      → ((j : ℕ) → j < w.state.splines → E (suc j) → flag_at w'.splines j ≡ true) → Flagged E w'
  one_more w' next done new set unset =
      record {
        closed = λ j h e. elim
            (eq-or-lt_of_le (le_of_suc-le-suc (lt_of_lt_of_le h (le_of_eq next)))) [ inl z ↦ inl (ap suc z ∙ sym next) | inr l ↦ inr (set j l e) ];
        closing = λ j h c. elim
            (eq-or-lt_of_le (le_of_suc-le-suc (lt_of_lt_of_le h (le_of_eq next))))
            [ inl z ↦ subst (λ (x : ℕ). flag_at w'.splines x ≡ true) (sym z) new | inr l ↦ old j l c ];
        waits = λ e h. absurd (true≢false (sym e ∙ done));
        free = λ e h. lt_irrefl w.state.splines (G.within (suc w.state.splines) (subst E next h));
        within = λ m h. le_trans (G.within m h) (le_trans (le_of_lt (le_refl (suc w.state.splines))) (le_of_eq (sym next)));
      }
    where
      old : (j : ℕ) → j < w.state.splines → Closes E w'.state.splines j → flag_at w'.splines j ≡ true
      old j l (inl e) = absurd (not_next j w.state.splines l (e ∙ next))
      old j l (inr e) = unset j l e

  -- "The mark moves to the new spline": if one waits, the last spline keeps its flag; otherwise the flag is cleared
  opened : (edit : SplineEdit) (q' : QuadTable) (m : Bool) → w.state.mark ≡ m → edit.at ≡ w.state.splines → edit.row.contour ≡ true
      → edit.clears ≡ not m → edit.next.splines ≡ suc w.state.splines → edit.next.mark ≡ false
      → w.state.splines < caps.splines → Flagged E (world edit.next q' (put_spline w.splines edit))
  opened edit q' m mark at row clears next done room =
      one_more (world edit.next q' (put_spline w.splines edit)) next done
      (subst (λ (x : ℕ). flag_at (put_spline w.splines edit) x ≡ edit.row.contour) at
      (flag_new w.splines edit (lt_of_le_of_lt (le_of_eq at) (fits_flags w.state.splines room))) ∙ row)
      (set m mark clears) (unset m mark clears)
    where
      off : (j : ℕ) → j < w.state.splines → j ≢ edit.at
      off j h e = ne_of_lt h (e ∙ at)

      gone : (j : ℕ) → j < w.state.splines → suc j ≡ w.state.splines → edit.clears ≡ true → flag_at (put_spline w.splines edit) j ≡ false
      gone j h e c = flag_gone w.splines edit j (off j h) (before_is j w.state.splines e ∙ ap (λ (x : ℕ). x - 1) (sym at))
          (fits_flags j (lt_of_lt_of_le h S.room.splines)) c

      far : (j : ℕ) → j < w.state.splines → suc j ≢ w.state.splines → edit.clears ≡ true → flag_at (put_spline w.splines edit) j ≡ flag_at w.splines j
      far j h e c = flag_far w.splines edit j (off j h) (λ k. not_before j w.state.splines (lt_of_le_of_lt zero-le h) e (k ∙ ap (λ (x : ℕ). x - 1) at)) c

      set : (m : Bool) → w.state.mark ≡ m → edit.clears ≡ not m → (j : ℕ) → j < w.state.splines → flag_at (put_spline w.splines edit) j ≡ true → E (suc j)
      set true e c j h f = elim
          (G.closed j h (sym (flag_kept w.splines edit j (off j h) c) ∙ f)) [ inl z ↦ subst E (sym z) (G.waits e (lt_of_le_of_lt zero-le h)) | inr z ↦ z ]
      set false e c j h f = elim (le_or_next j w.state.splines h) [
        | inl z ↦ absurd (true≢false (sym f ∙ gone j h z c))
        | inr z ↦ elim (G.closed j h (sym (far j h z c) ∙ f)) [ inl y ↦ absurd (z y) | inr y ↦ y ]
      ]

      unset : (m : Bool) → w.state.mark ≡ m → edit.clears ≡ not m → (j : ℕ) → j < w.state.splines → E (suc j)
          → flag_at (put_spline w.splines edit) j ≡ true
      unset true e c j h f = flag_kept w.splines edit j (off j h) c ∙ G.closing j h (inr f)
      unset false e c j h f = elim (le_or_next j w.state.splines h) [
        | inl z ↦ absurd (G.free e (subst E z f))
        | inr z ↦ far j h z c ∙ G.closing j h (inr f)
      ]

  joined : (edit : SplineEdit) (q' : QuadTable) → w.state.mark ≡ false → edit.at ≡ w.state.splines - 1 → edit.row.contour ≡ (last_of w).contour
      → edit.clears ≡ false → edit.next.splines ≡ w.state.splines → edit.next.mark ≡ false
      → Flagged E (world edit.next q' (put_spline w.splines edit))
  joined edit q' mark at row clears next done =
      record {
        closed = λ j h e. elim (G.closed j (old h) (sym (same j (old h)) ∙ e)) [ inl z ↦ inl (z ∙ sym next) | inr z ↦ inr z ];
        closing = λ j h c. same j (old h) ∙ G.closing j (old h) (back j c);
        waits = λ e h. absurd (true≢false (sym e ∙ done));
        free = λ e h. G.free mark (subst E next h);
        within = λ m h. le_trans (G.within m h) (le_of_eq (sym next));
      }
    where
      N : 0 < w.state.splines
      N = S.waits mark

      old : {j : ℕ} → j < edit.next.splines → j < w.state.splines
      old h = lt_of_lt_of_le h (le_of_eq next)

      back : (j : ℕ) → Closes E edit.next.splines j → Closes E w.state.splines j
      back j (inl e) = inl (e ∙ next)
      back j (inr e) = inr e

      same : (j : ℕ) → j < w.state.splines → flag_at (put_spline w.splines edit) j ≡ flag_at w.splines j
      same j h = elim (le_or_next j w.state.splines h) [
        | inl z ↦
            let e : j ≡ edit.at = before_is j w.state.splines z ∙ sym at in
            subst (λ (x : ℕ). flag_at (put_spline w.splines edit) x ≡ flag_at w.splines x) (sym e)
            (flag_new w.splines edit
            (fits_flags edit.at (lt_of_le_of_lt (le_of_eq at) (lt_of_lt_of_le (pred_lt w.state.splines N) S.room.splines))) ∙ row
            ∙ ap (λ (r : SplineRow). r.contour) (last_is w N) ∙ ap (flag_at w.splines) (sym at))
        | inr z ↦ flag_kept w.splines edit j (λ e. not_before j w.state.splines N z (e ∙ at)) clears
      ]

  edited : {setting : Setting} {kind : Kind} (opens : Bool) (start end : Point) (sum : Float) (quads : ℕ) (angle : Angle) (q' : QuadTable)
      → Allowed setting kind caps w opens
      → Flagged E (world (spline_edit w opens start end sum quads angle).next q' (put_spline w.splines (spline_edit w opens start end sum quads angle)))
  unfolding spline_edit_of
  edited true start end sum quads angle q' A = opened (spline_edit w true start end sum quads angle) q' w.state.mark refl refl refl refl
      (add-one w.state.splines) refl (A.room refl)
  edited false start end sum quads angle q' A = joined (spline_edit w false start end sum quads angle) q' (A.joins refl) refl refl refl refl refl

-- m splines are there before a push of a Move's primitive
abbrev pub Now : World → Bool → ℕ → Type 0
Now w mark m = T mark × (w.state.splines ≡ m)

module _ (caps : Capacities) (E : ℕ → Type 0) (w : World) (S : Sound caps w) (G : Flagged E w) where
  no_move : {w' : World} → Flagged E w' → Flagged (λ (m : ℕ). E m ⊎ Now w false m) w'
  no_move {w'} F = flagged_same E (λ (m : ℕ). E m ⊎ Now w false m) w' (λ m h. inl h) (λ m h. elim h [ inl a ↦ a | inr a ↦ absurd a.0 ]) F

  pub flagged_push : {setting : Setting} {b : Bool} {w' : World} → Pushed setting caps w b w' → Flagged (λ (m : ℕ). E m ⊎ Now w b m) w'
  unfolding refused_of marked_of apply_of
  flagged_push (kept answer) = no_move (record { closed = G.closed; closing = G.closing; waits = G.waits; free = G.free; within = G.within })
  flagged_push marked =
      record {
        closed = λ j h e. elim (G.closed j h e) [ inl a ↦ inl a | inr a ↦ inr (inl a) ];
        closing = λ j h c. G.closing j h (back j c);
        waits = λ e h. inr (tt, refl);
        free = λ e h. absurd (true≢false e);
        within = λ m h. elim h [ inl a ↦ G.within m a | inr a ↦ le_of_eq (sym a.1) ];
      }
    where
      back : (j : ℕ) → Closes (λ (m : ℕ). E m ⊎ Now w true m) w.state.splines j → Closes E w.state.splines j
      back j (inl e) = inl e
      back j (inr (inl e)) = inr e
      back j (inr (inr e)) = inl (sym e.1)
  flagged_push (lined opens start end angle A) = no_move (edited caps E w S G opens start end _ _ angle _ A)
  flagged_push (bent opens start end angle c row A B K fit R) = no_move (edited caps E w S G opens start end _ _ angle _ A)

-- ---- a run: m splines are there at one of its Moves
abbrev pub next_of : Setting → Capacities → Primitive → World → World
next_of setting caps p w = cond (is_done w.state.answer) (push_of setting caps p w) w

abbrev pub Met : Setting → Capacities → List Primitive → World → ℕ → Type 0
Met setting caps [] w m = ⊥
Met setting caps (p ∷ ps) w m = (T (is_done w.state.answer) × Now w (is_mark p) m) ⊎ Met setting caps ps (next_of setting caps p w) m

pub flagged_run : (setting : Setting) (caps : Capacities) (ps : List Primitive) (E : ℕ → Type 0) (w : World) → Sound caps w → Flagged E w
    → Flagged (λ (m : ℕ). E m ⊎ Met setting caps ps w m) (run_of setting caps ps w)
unfolding run_of
flagged_run setting caps [] E w S G = flagged_same E (λ (m : ℕ). E m ⊎ ⊥) w (λ m h. inl h) (λ m h. elim h [ inl a ↦ a | inr a ↦ absurd a ]) G
flagged_run setting caps (p ∷ ps) E w S G =
    flagged_same (λ (m : ℕ). E' m ⊎ Met setting caps ps (next_of setting caps p w) m) (λ (m : ℕ). E m ⊎ Met setting caps (p ∷ ps) w m)
    (run_of setting caps ps (next_of setting caps p w)) to from
    (flagged_run setting caps ps E' (next_of setting caps p w) (next_sound (is_done w.state.answer)) (next_flagged (is_done w.state.answer)))
  where
    E' : ℕ → Type 0
    E' m = E m ⊎ (T (is_done w.state.answer) × Now w (is_mark p) m)

    to : (m : ℕ) → E' m ⊎ Met setting caps ps (next_of setting caps p w) m → E m ⊎ Met setting caps (p ∷ ps) w m
    to m (inl (inl a)) = inl a
    to m (inl (inr a)) = inr (inl a)
    to m (inr a) = inr (inr a)

    from : (m : ℕ) → E m ⊎ Met setting caps (p ∷ ps) w m → E' m ⊎ Met setting caps ps (next_of setting caps p w) m
    from m (inl a) = inl (inl a)
    from m (inr (inl a)) = inl (inr a)
    from m (inr (inr a)) = inr a

    next_sound : (b : Bool) → Sound caps (cond b (push_of setting caps p w) w)
    next_sound true = sound_push caps w S (pushed setting caps w p)
    next_sound false = S

    next_flagged : (b : Bool) → Flagged (λ (m : ℕ). E m ⊎ (T b × Now w (is_mark p) m)) (cond b (push_of setting caps p w) w)
    next_flagged true =
        flagged_same (λ (m : ℕ). E m ⊎ Now w (is_mark p) m) (λ (m : ℕ). E m ⊎ (Unit {0} × Now w (is_mark p) m)) (push_of setting caps p w)
        (λ m h. elim h [ inl a ↦ inl a | inr a ↦ inr (tt, a) ])
        (λ m h. elim h [ inl a ↦ inl a | inr a ↦ inr a.1 ])
        (flagged_push caps E w S G (pushed setting caps w p))
    next_flagged false = flagged_same E (λ (m : ℕ). E m ⊎ (⊥ × Now w (is_mark p) m)) w (λ m h. inl h) (λ m h. elim h [ inl a ↦ a | inr a ↦ absurd a.0 ]) G

pub flagged_start : (q : QuadTable) (s : SplineTable) → Flagged (λ (m : ℕ). ⊥) (world start_state q s)
flagged_start q s =
    record {
      closed = λ j h e. absurd (not-suc-le-zero h);
      closing = λ j h c. absurd (not-suc-le-zero h);
      waits = λ e h. lt_irrefl 0 h;
      free = λ e h. h;
      within = λ m h. absurd h;
    }
