-- A run writes below its counts alone, and so does a walk that is delivered: every entry past them is as it was. Assumes nothing.
use Prim.Native.Nat.{ℕ, ◌+◌, ◌-◌, ◌≤◌, ◌<◌}
use mathlib.Core.Path.{◌≡◌, refl, sym, ap, ◌∙◌}
use mathlib.Core.Logic.{◌≢◌}
use mathlib.Core.Bool.{Bool, true, false, cond}
use mathlib.Core.List.{List, [], ◌∷◌, ◌++◌}
use native.Mathlib.Nat.{le_refl, le-add_right}
use native.Mathlib.Omega.{arith}
use lib.ListN.{length, get_or, set, drop, length-set, length-append, length-drop}
use lib.Seq.{get_or-set_other, get_or-append-add, get_or-drop}
use native.Mathlib.Numerals.{lt-add-one}
use Rattle.columns.specs.Flags.{flag_byte_of}
use Rattle.answer.specs.Number.{is_done}
use Rattle.primitives.specs.Edits.{SplineEdit}
use Rattle.point.specs.declared.Setting.{Setting}
use Rattle.primitives.specs.declared.Capacities.{Capacities}
use Rattle.primitives.specs.declared.Primitive.{Primitive}
use Rattle.primitives.specs.Splines.{spline_edit_of}
use Rattle.primitives.specs.Plan.{refused_of, marked_of}
use Rattle.tables.specs.Tables.{QuadTable, SplineTable, clear_flag, put_spline}
use Rattle.tables.specs.Past.{Past, QuadsPast, SplinesPast}
use Rattle.tables.specs.Run.{World, apply_of, push_of, run_of}
use Rattle.tables.proofs.RowLaws.{past_self, put_past}
use Rattle.tables.proofs.Pushes.{Pushed, kept, marked, lined, bent, pushed}
use Rattle.tables.proofs.Sound.{Sound, sound_push, pred_lt}
use Rattle.flatten.specs.Flatten.{Output, over}
use Rattle.promises.specs.FlattenAnswers.{OutputPast}

-- ---- one column
module _ {A : Type 0} where
  -- an entry below the count is written
  past_set : (n m i : ℕ) (v : A) (old new : List A) → n ≤ m → i < m → Past n old new → Past m old (set new i v)
  past_set n m i v old new h k P =
      record {
        as_long = length-set new i v ∙ P.as_long;
        entries = λ j d l. get_or-set_other new i j v d (apart i j k l) ∙ P.entries j d (more n m j h l);
      }
    where
      apart : (i j : ℕ) → i < m → m ≤ j → j ≢ i
      apart i j k l e = omega arith

      more : (n m j : ℕ) → n ≤ m → m ≤ j → n ≤ j
      more n m j h l = omega arith

  -- new entries come before the rest of the old ones
  pub past_over : (n : ℕ) (old new : List A) → length new ≡ n → n ≤ length old → Past n old (over new old)
  unfolding over
  past_over n old new e h =
      record {
        as_long = length-append new (drop (length new) old) ∙ ap (λ (k : ℕ). length new + k) (length-drop (length new) old) ∙ whole (length new) (length old) n e h;
        entries = λ i d l.
            ap (λ (k : ℕ). get_or (new ++ drop (length new) old) k d) (sym (whole (length new) i n e l))
            ∙ get_or-append-add new (drop (length new) old) (i - length new) d
            ∙ get_or-drop (length new) old (i - length new) d
            ∙ ap (λ (k : ℕ). get_or old k d) (whole (length new) i n e l);
      }
    where
      whole : (a b n : ℕ) → a ≡ n → n ≤ b → a + (b - a) ≡ b
      whole a b n e h = omega arith

-- ---- a spline that is opened or joined
put_spline_past : (n m : ℕ) (edit : SplineEdit) (s₀ s : SplineTable) → n ≤ m → edit.at < m → SplinesPast n s₀ s → SplinesPast m s₀ (put_spline s edit)
unfolding put_spline clear_flag
put_spline_past n m edit s₀ s h k P =
    let at = edit.at in
    let row = edit.row in
    record {
      curvature = past_set n m at row.curvature s₀.curvature s.curvature h k P.curvature;
      p0x = past_set n m at row.p0.x s₀.p0x s.p0x h k P.p0x;
      p0y = past_set n m at row.p0.y s₀.p0y s.p0y h k P.p0y;
      p2x = past_set n m at row.p2.x s₀.p2x s.p2x h k P.p2x;
      p2y = past_set n m at row.p2.y s₀.p2y s.p2y h k P.p2y;
      contour = past_set m m at (flag_byte_of row.contour) s₀.contour (clear_flag edit.clears s.contour at) (le_refl m) k (cleared edit.clears P.contour);
      first_quad = past_set n m at row.first_quad s₀.first_quad s.first_quad h k P.first_quad;
      quad_count = past_set n m at row.quad_count s₀.quad_count s.quad_count h k P.quad_count;
    }
  where
    below : (i : ℕ) → i < m → i - 1 < m
    below i l = omega arith

    more : (j : ℕ) → m ≤ j → n ≤ j
    more j l = omega arith

    -- the flag that is cleared is that of the spline before
    cleared : (b : Bool) → Past n s₀.contour s.contour → Past m s₀.contour (clear_flag b s.contour edit.at)
    cleared true Q = past_set n m (edit.at - 1) (flag_byte_of false) s₀.contour s.contour h (below edit.at k) Q
    cleared false Q = record { as_long = Q.as_long; entries = λ i d l. Q.entries i d (more i l) }

-- ---- a run
pub record TablesPast (q : QuadTable) (s : SplineTable) (w : World) : Type 0 where
  pub quads : QuadsPast w.state.quads q w.quads
  pub splines : SplinesPast w.state.splines s w.splines

module _ (caps : Capacities) (q : QuadTable) (s : SplineTable) where
  push_past : (w : World) → Sound caps w → TablesPast q s w → {setting : Setting} {b : Bool} {w' : World} → Pushed setting caps w b w' → TablesPast q s w'
  unfolding refused_of marked_of apply_of spline_edit_of
  push_past w S P (kept answer) = record { quads = P.quads; splines = P.splines }
  push_past w S P marked = record { quads = P.quads; splines = P.splines }
  push_past w S P (lined true start end angle A) =
      let n = w.state.splines in
      record { quads = P.quads; splines = put_spline_past n (n + 1) _ s w.splines (le-add_right n 1) (lt-add-one n) P.splines }
  push_past w S P (lined false start end angle A) =
      let n = w.state.splines in
      record { quads = P.quads; splines = put_spline_past n n _ s w.splines (le_refl n) (pred_lt n (S.waits (A.joins refl))) P.splines }
  push_past w S P (bent true start end angle c row A B K fit R) =
      let n = w.state.splines in
      record {
        quads = put_past w.state.quads row q w.quads P.quads;
        splines = put_spline_past n (n + 1) _ s w.splines (le-add_right n 1) (lt-add-one n) P.splines;
      }
  push_past w S P (bent false start end angle c row A B K fit R) =
      let n = w.state.splines in
      record {
        quads = put_past w.state.quads row q w.quads P.quads;
        splines = put_spline_past n n _ s w.splines (le_refl n) (pred_lt n (S.waits (A.joins refl))) P.splines;
      }

  pub run_past : (setting : Setting) (ps : List Primitive) (w : World) → Sound caps w → TablesPast q s w → TablesPast q s (run_of setting caps ps w)
  unfolding run_of
  run_past setting [] w S P = P
  run_past setting (p ∷ ps) w S P = run_past setting ps (cond (is_done w.state.answer) (push_of setting caps p w) w) (sound (is_done w.state.answer)) (past (is_done w.state.answer))
    where
      sound : (b : Bool) → Sound caps (cond b (push_of setting caps p w) w)
      sound true = sound_push caps w S (pushed setting caps w p)
      sound false = S

      past : (b : Bool) → TablesPast q s (cond b (push_of setting caps p w) w)
      past true = push_past w S P (pushed setting caps w p)
      past false = P

-- ---- nothing written
pub splines_self : (n : ℕ) (s : SplineTable) → SplinesPast n s s
splines_self n s =
    record {
      curvature = past_self n s.curvature;
      p0x = past_self n s.p0x;
      p0y = past_self n s.p0y;
      p2x = past_self n s.p2x;
      p2y = past_self n s.p2y;
      contour = past_self n s.contour;
      first_quad = past_self n s.first_quad;
      quad_count = past_self n s.quad_count;
    }

pub output_self : (n : ℕ) (o : Output) → OutputPast n o o
output_self n o = record { words = past_self n o.words; x = past_self n o.x; y = past_self n o.y; end = past_self n o.end }
