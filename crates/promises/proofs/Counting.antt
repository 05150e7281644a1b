-- What a primitive counts as (02, Two) is what it writes; what is dropped writes nothing. Assumes nothing.
use mathlib.Core.Path.{◌≡◌, refl, ap, ap₂, ◌∙◌}
use mathlib.Core.Bool.{Bool, true, false, cond}
use mathlib.Core.List.{List, [], ◌∷◌, Memᴰ}
use Rattle.answer.specs.Number.{is_done}
use Rattle.point.specs.declared.Point.{Point}
use Rattle.point.specs.Angle.{Angle}
use Rattle.point.specs.declared.Setting.{Setting}
use Rattle.point.specs.Point.{applied_of}
use Rattle.primitives.specs.declared.Capacities.{Capacities}
use Rattle.primitives.specs.declared.Kind.{Kind}
use Rattle.primitives.specs.declared.Primitive.{Primitive}
use Rattle.primitives.specs.declared.Primitive.TheVariants.{Line, Quad}
use Rattle.primitives.specs.Shapes.{legs_of, quad_shape_of, shape_of}
use Rattle.tables.specs.Run.{World, push_of, run_of}
use Rattle.tables.proofs.Pushes.{is_mark}
use Rattle.tables.proofs.Sound.{Sound}
use Rattle.tables.proofs.Drawn.{Drew, drew_straight, drew_round, dropped}
use Rattle.promises.specs.FlattenAnswers.{first_missing, second_missing}
use Rattle.promises.specs.StraightRound.{DrawnAs, line, as_line, quad, Dropped, both_missing}

-- ---- what a primitive counts as is what it writes
pub record Here (setting : Setting) (is : Kind) (from to : Point) (w w' : World) : Type 0 where
  pub first : Angle
  pub after : Angle
  pub drew : Drew setting is from to first after w w'

module _ (setting : Setting) (caps : Capacities) (w : World) where
  pub here : {p : Primitive} {is : Kind} {from to : Point} → DrawnAs p is from to → is_done (push_of setting caps p w).state.answer ≡ true → Sound caps w
      → Here setting is from to w (push_of setting caps p w)
  unfolding shape_of quad_shape_of legs_of
  here (line a b) d S = record { first = _; after = _; drew = drew_straight setting caps w (Line a b) (applied_of a) (applied_of b) refl d }
  here (as_line a b c (first_missing y e f)) d S =
      record { first = _; after = _; drew = drew_straight setting caps w (Quad a b c) (applied_of a) (applied_of c) (ap₂ (legs_of a b c) e f) d }
  here (as_line a b c (second_missing x e f)) d S =
      record { first = _; after = _; drew = drew_straight setting caps w (Quad a b c) (applied_of a) (applied_of c) (ap₂ (legs_of a b c) e f) d }
  here (quad a b c C) d S =
      record {
        first = _;
        after = _;
        drew = drew_round setting caps w (Quad a b c) a b c _ _ (ap₂ (legs_of a b c) C.first_leg C.second_leg) d S;
      }

  pub dropped_push : (p : Primitive) → Dropped p → push_of setting caps p w ≡ w
  unfolding shape_of quad_shape_of legs_of
  dropped_push p (both_missing a b c e f) = dropped setting caps w (Quad a b c) (ap₂ (legs_of a b c) e f)

  pub dropped_run : (ps : List Primitive) → ((p : Primitive) → Memᴰ p ps → Dropped p) → run_of setting caps ps w ≡ w
  unfolding run_of
  dropped_run [] h = refl
  dropped_run (p ∷ ps) h =
      ap (run_of setting caps ps) (go (is_done w.state.answer)) ∙ dropped_run ps (λ q m. h q (Memᴰ.tail m))
    where
      go : (b : Bool) → cond b (push_of setting caps p w) w ≡ w
      go true = dropped_push p (h p (Memᴰ.head refl))
      go false = refl

pub not_mark : {p : Primitive} {is : Kind} {from to : Point} → DrawnAs p is from to → is_mark p ≡ false
not_mark (line a b) = refl
not_mark (as_line a b c h) = refl
not_mark (quad a b c h) = refl
