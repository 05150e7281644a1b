-- What a list of primitives does to the tables: the laws by which runs are put together. Assumes nothing.
use mathlib.Core.Path.{◌≡◌, refl, ap}
use mathlib.Core.Bool.{Bool, true, false, cond}
use mathlib.Core.List.{List, [], ◌∷◌, ◌++◌}
use Rattle.answer.specs.Number.{is_done}
use Rattle.point.specs.declared.Setting.{Setting}
use Rattle.primitives.specs.declared.Capacities.{Capacities}
use Rattle.primitives.specs.declared.Primitive.{Primitive}
use Rattle.tables.specs.Run.{World, push_of, run_of}

module _ (setting : Setting) (caps : Capacities) where
  -- "a refusal stops the run"
  pub run_stop : (ps : List Primitive) (w : World) → is_done w.state.answer ≡ false → run_of setting caps ps w ≡ w
  unfolding run_of
  run_stop [] w e = refl
  run_stop (p ∷ ps) w e = rw e (run_stop ps w e)

  -- what is done goes on with its first primitive
  pub next_is : (p : Primitive) (ps : List Primitive) (w : World) → is_done w.state.answer ≡ true
      → run_of setting caps (p ∷ ps) w ≡ run_of setting caps ps (push_of setting caps p w)
  unfolding run_of
  next_is p ps w h = ap (λ (b : Bool). run_of setting caps ps (cond b (push_of setting caps p w) w)) h

  pub run_append : (ps qs : List Primitive) (w : World) → run_of setting caps (ps ++ qs) w ≡ run_of setting caps qs (run_of setting caps ps w)
  unfolding run_of
  run_append [] qs w = refl
  run_append (p ∷ ps) qs w = run_append ps qs (cond (is_done w.state.answer) (push_of setting caps p w) w)

  pub run_cons : (p : Primitive) (ps : List Primitive) (w : World) → run_of setting caps (p ∷ ps) w ≡ run_of setting caps ps (run_of setting caps (p ∷ []) w)
  unfolding run_of
  run_cons p ps w = refl
