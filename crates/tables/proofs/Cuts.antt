-- The loop over the pieces of a cubic. Its invariant: running what is left gives what running the whole gives. Assumes nothing.
use mathlib.Core.Path.{◌≡◌, sym, ap, ◌∙◌}
use mathlib.Core.Bool.{false}
use mathlib.Core.List.{[], ◌∷◌}
use Prim.Native.Nat.{ℕ, zero, suc, ◌+◌, ◌-◌, ◌≤◌, ◌<◌}
use native.Mathlib.Omega.{arith}
use lib.Ieee.{Float}
use borrow.Author.Tests.{le-leb, lt-leb}
use Rattle.leaves.specs.Single.{◌⊖◌, ◌⊗◌, half32, whole32, recip}
use Rattle.answer.specs.Number.{is_done}
use Rattle.point.specs.declared.Point.{Point}
use Rattle.point.specs.Point.{plain, applied_of}
use Rattle.point.specs.declared.Setting.{Setting}
use Rattle.primitives.specs.declared.Capacities.{Capacities}
use Rattle.primitives.specs.declared.Cubic.{Cubic}
use Rattle.primitives.specs.declared.Primitive.{Primitive}
use Rattle.primitives.specs.declared.Primitive.TheVariants.{Quad, Excess}
use Rattle.primitives.specs.Cubics.{cubic_pieces_of, cubic_point_of, control_of, quads_from, cut_of, cubic_quads_of}
use Rattle.tables.specs.Run.{World, run_of}
use Rattle.tables.proofs.Runs.{run_stop, run_cons}

-- the invariant: pieces i to n are left, from the point start on
pub record Cutting (setting : Setting) (caps : Capacities) (c : Cubic) (n : ℕ) (incr : Float) (start₀ : Point) (w₀ w : World) (start : Point) (i : ℕ) : Type 0 where
  pub same : run_of setting caps (quads_from n 1 start₀ incr c) w₀ ≡ run_of setting caps (quads_from (n + 1 - i) i start incr c) w

more : (n i : ℕ) → i ≤ n → n + 1 - i ≡ suc (n + 1 - (i + 1))
more n i h = omega arith

none : (n i : ℕ) → n < i → n + 1 - i ≡ zero
none n i h = omega arith

module _
    (setting : Setting) (caps : Capacities) (c : Cubic) (n : ℕ) (incr : Float) (start₀ : Point) (w₀ w : World) (start : Point) (i : ℕ)
    (g : Cutting setting caps c n incr start₀ w₀ w start i)
  where
    pub cut_on :
        {p : Primitive} {end : Point} {w' : World}
        → i ≤ n
        → end ≡ cubic_point_of c (whole32 i ⊗ incr)
        → p ≡ Quad (plain start) (plain (control_of start (cubic_point_of c (whole32 i ⊗ incr ⊖ half32 ⊗ incr)) end)) (plain end)
        → w' ≡ run_of setting caps (p ∷ []) w
        → Cutting setting caps c n incr start₀ w₀ w' end (i + 1)
    unfolding quads_from
    cut_on {p} {end} {w'} h ee ep ew =
        record {
          same =
              g.same
              ∙ ap (λ (m : ℕ). run_of setting caps (quads_from m i start incr c) w) (more n i h)
              ∙ run_cons setting caps _ _ w
              ∙ rw (← ee, ← ep, ← ew);
        }

    -- after a refusal the pieces left change nothing
    pub cut_stop : is_done w.state.answer ≡ false → w ≡ run_of setting caps (quads_from n 1 start₀ incr c) w₀
    cut_stop e = sym (g.same ∙ run_stop setting caps (quads_from (n + 1 - i) i start incr c) w e)

    pub cut_end : n < i → w ≡ run_of setting caps (quads_from n 1 start₀ incr c) w₀
    unfolding quads_from run_of
    cut_end h = sym (g.same ∙ ap (λ (m : ℕ). run_of setting caps (quads_from m i start incr c) w) (none n i h))

-- ---- the whole cubic
module _ (setting : Setting) (caps : Capacities) (c : Cubic) (w₀ : World) where
  pub excess : {n : ℕ} {w : World} → n ≡ cubic_pieces_of c → 1024 < n → w ≡ run_of setting caps (Excess ∷ []) w₀ → w ≡ run_of setting caps (cubic_quads_of c) w₀
  unfolding cubic_quads_of cut_of
  excess e h ew = rw (← e, lt-leb _ _ h) ew

  pub cut :
      {n : ℕ} {start : Point} {w : World}
      → n ≡ cubic_pieces_of c
      → n ≤ 1024
      → start ≡ applied_of c.p0
      → w ≡ run_of setting caps (quads_from n 1 start (recip (whole32 n)) c) w₀
      → w ≡ run_of setting caps (cubic_quads_of c) w₀
  unfolding cubic_quads_of cut_of
  cut e h es ew = rw (← e, le-leb _ _ h, ← es) ew
