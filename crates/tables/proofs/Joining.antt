-- A contour's primitives, run in the whole and alone: where both are done, or one is and the other has the room, both are, and the contour's tables are beside
-- each other. A Move forgets what the contour before left: in the whole the contour begins as it does alone. Assumes nothing.
use Prim.Native.Nat.{ℕ, ◌+◌, ◌≤◌, zero-le}
use mathlib.Core.Path.{◌≡◌, refl, sym, subst₂}
use mathlib.Core.Bool.{true≢false}
use mathlib.Core.List.{List, [], ◌∷◌}
use native.Mathlib.Nat.{le_trans, le_of_eq, add-zero, not-suc-le-zero}
use native.Mathlib.Omega.{arith}
use Rattle.point.specs.Angle.{Angle}
use Rattle.std.specs.Prelude.{None}
use Rattle.point.specs.declared.Setting.{Setting}
use Rattle.point.specs.declared.Setting.TheVariants.{Screen, Knife}
use Rattle.primitives.specs.declared.Capacities.{Capacities}
use Rattle.primitives.specs.declared.Primitive.{Primitive}
use Rattle.primitives.specs.declared.Primitive.TheVariants.{Contour}
use Rattle.primitives.specs.Splines.{line_angle_of, move_angle_of}
use Rattle.primitives.specs.Plan.{marked_of, plan_of}
use Rattle.tables.specs.Tables.{QuadTable, SplineTable, capacities_of}
use Rattle.tables.specs.Run.{World, world, apply_of, push_of, run_of, start_state}
use Rattle.tables.proofs.Runs.{next_is}
use Rattle.tables.proofs.Moves.{run_done, run_grows, run_more, NoMark}
use Rattle.tables.proofs.Beside.{done, Holds, Kept, kept_self, kept_then, Beside}
use Rattle.tables.proofs.Stepping.{Stepped, Given, both, whole, alone}
use Rattle.tables.proofs.Pushing.{push_step}

-- ---- primitives without a Move's
module _ (setting : Setting) (bq bs : ℕ) (capsW caps_a : Capacities) where
  -- what is given of a run is given of its first step
  first_given : (ps : List Primitive) (v u : World) → Given setting bq bs capsW caps_a (run_of setting capsW ps v) (run_of setting caps_a ps u)
      → Given setting bq bs capsW caps_a v u
  unfolding run_of
  first_given ps v u (both d e) = both (run_done setting capsW [] ps v d) (run_done setting caps_a [] ps u e)
  first_given ps v u (whole d q s) = whole (run_done setting capsW [] ps v d) q s
  first_given ps v u (alone d q s) =
      alone (run_done setting caps_a [] ps u d) (le_trans (on bq (run_more setting caps_a ps u)) q) (le_trans (on bs (run_grows setting caps_a ps u)) s)
    where
      on : (b : ℕ) {x y : ℕ} → x ≤ y → b + x ≤ b + y
      on b h = omega arith

  pub run_step : (ps : List Primitive) → NoMark setting capsW ps → (W A : World) → Beside setting bq bs W A → Holds capsW W → Holds caps_a A → done W → done A
      → Given setting bq bs capsW caps_a (run_of setting capsW ps W) (run_of setting caps_a ps A)
      → Stepped setting bq bs capsW caps_a W (run_of setting capsW ps W) (run_of setting caps_a ps A)
  unfolding run_of
  run_step [] n W A B HW HA d e g =
      record { whole_done = d; alone_done = e; beside = B; kept = kept_self bq bs W; whole_holds = HW; alone_holds = HA }
  run_step (p ∷ ps) n W A B HW HA d e g =
      let v = push_of setting capsW p W in
      let u = push_of setting caps_a p A in
      let e_w = next_is setting capsW p ps W d in
      let e_a = next_is setting caps_a p ps A e in
      let g' = subst₂ (Given setting bq bs capsW caps_a) e_w e_a g in
      let S = push_step setting bq bs capsW caps_a W A B HW HA p n.0 d e (first_given ps v u g') in
      let R = run_step ps n.1 v u S.beside S.whole_holds S.alone_holds S.whole_done S.alone_done g' in
      subst₂ (Stepped setting bq bs capsW caps_a W) (sym e_w) (sym e_a)
      (record {
        whole_done = R.whole_done;
        alone_done = R.alone_done;
        beside = R.beside;
        kept = kept_then S.kept R.kept;
        whole_holds = R.whole_holds;
        alone_holds = R.alone_holds;
      })

-- ---- a contour: its Move, and the rest
-- after a Move no line keeps an angle that was there before
forgotten : (setting : Setting) (last a : Angle) → line_angle_of setting (move_angle_of setting last) a ≡ line_angle_of setting (move_angle_of setting None) a
unfolding line_angle_of move_angle_of
forgotten Screen last a = refl
forgotten Knife last a = refl

module _ (setting : Setting) (capsW : Capacities) (W : World) (q : QuadTable) (s : SplineTable) where
  abbrev fresh : World
  fresh = world start_state q s

  abbrev caps_a : Capacities
  caps_a = capacities_of q s

  begins : Beside setting W.state.quads W.state.splines (push_of setting capsW Contour W) (push_of setting caps_a Contour fresh)
  unfolding push_of plan_of apply_of marked_of
  begins =
      record {
        splines = sym (add-zero W.state.splines);
        quads = sym (add-zero W.state.quads);
        mark = refl;
        angle = λ a. forgotten setting W.state.last a;
        last = λ m. absurd (true≢false m);
        some = λ m. absurd (true≢false m);
        spline_rows = λ k h. absurd (not-suc-le-zero h);
        quad_rows = λ i h. absurd (not-suc-le-zero h);
      }

  marks_whole : Holds capsW W → done W → Holds capsW (push_of setting capsW Contour W) × done (push_of setting capsW Contour W)
      × Kept W.state.quads W.state.splines W (push_of setting capsW Contour W)
  unfolding push_of plan_of apply_of marked_of
  marks_whole H d = (
    record { quads = H.quads; splines = H.splines; within = H.within },
    d,
    record { splines = λ k h. refl; quads = λ i h. refl },
  )

  marks_alone : Holds caps_a (push_of setting caps_a Contour fresh) × done (push_of setting caps_a Contour fresh)
  unfolding push_of plan_of apply_of marked_of capacities_of
  marks_alone = (record { quads = le_of_eq refl; splines = le_of_eq refl; within = zero-le }, refl)

  pub contour_step : (ps : List Primitive) → NoMark setting capsW ps → Holds capsW W → done W
      → Given setting W.state.quads W.state.splines capsW caps_a (run_of setting capsW (Contour ∷ ps) W) (run_of setting caps_a (Contour ∷ ps) fresh)
      → Stepped setting W.state.quads W.state.splines capsW caps_a W (run_of setting capsW (Contour ∷ ps) W) (run_of setting caps_a (Contour ∷ ps) fresh)
  contour_step ps n H d g =
      let bq = W.state.quads in
      let bs = W.state.splines in
      let e_w = next_is setting capsW Contour ps W d in
      let e_a = next_is setting caps_a Contour ps fresh refl in
      let mW = marks_whole H d in
      let R =
      run_step setting bq bs capsW caps_a ps n (push_of setting capsW Contour W) (push_of setting caps_a Contour fresh) begins mW.0 marks_alone.0 mW.1
      marks_alone.1 (subst₂ (Given setting bq bs capsW caps_a) e_w e_a g) in
      subst₂ (Stepped setting bq bs capsW caps_a W) (sym e_w) (sym e_a)
      (record {
        whole_done = R.whole_done;
        alone_done = R.alone_done;
        beside = R.beside;
        kept = kept_then mW.2 R.kept;
        whole_holds = R.whole_holds;
        alone_holds = R.alone_holds;
      })
