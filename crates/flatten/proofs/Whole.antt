-- The four ways that a flattening ends: unusable, refused while the tables are filled, too long for the outputs, and done. Assumes nothing.
use Prim.Native.Nat.{ℕ}
use native.Mathlib.Omega.{arith}
use mathlib.Core.Path.{◌≡◌, sym, ap}
use mathlib.Core.Bool.{Bool, true, false, cond}
use mathlib.Core.List.{List}
use lib.ListN.{length}
use Rattle.std.specs.Prelude.{Option, Some, None, Err}
use Rattle.answer.specs.declared.Refusal.{Refusal}
use Rattle.answer.proofs.Laws.{ok_is_done}
use Rattle.answer.specs.Answer.{Done, Unusable, OutputShort}
use Rattle.answer.specs.Number.{is_done}
use Rattle.point.specs.declared.Setting.{Setting}
use Rattle.primitives.specs.Edits.{State}
use Rattle.store.specs.declared.StoreState.{StoreState}
use Rattle.store.specs.Columns.{Columns}
use Rattle.store.specs.Drawable.{drawable_of}
use Rattle.tables.specs.Tables.{QuadTable, SplineTable, quad_row_at}
use Rattle.tables.specs.Run.{World, world}
use Rattle.tables.specs.Commands.{tables_of}
use Rattle.walk.specs.Walk.{Item, walk_of}
use Rattle.evaluate.specs.Output.{Output, fits_output, write_output}
use Rattle.evaluate.specs.Delivery.{Delivery, delivery, delivers, deliver_of}
use Rattle.flatten.specs.Flatten.{Flattening, flattened, flattening, walked, tabled, flatten_drawable, flatten_of}

-- what is told of what was delivered
abbrev pub laid_as : World → Option ℕ → Output → Flattening
laid_as w (Some points) o = flattening (flattened Done w.state.splines w.state.quads points) w.quads w.splines o
laid_as w None o = flattening (flattened OutputShort w.state.splines w.state.quads 0) w.quads w.splines o

-- whether the walk was delivered decides between 0 and 9
module _ (w : World) (items : List Item) (o : Output) where
  unfoldable laid : Bool → Delivery
  laid b = cond b (delivery true (length items) (write_output (quad_row_at w.quads) w.splines items o)) (delivery false 0 o)

  never : true ≡ false → ⊥
  never e = let z : ◌≡◌ {A = ℕ} 0 1 = cc in omega arith

  laid_lem : (b : Bool) (r : Option ℕ) (o' : Output) → delivers r o' ≡ laid b → laid_as w r o' ≡ walked b w items o
  unfolding laid walked
  laid_lem true (Some points) o' e =
      ap (λ (d : Delivery). flattening (flattened Done w.state.splines w.state.quads d.result.points) w.quads w.splines d.output) e
  laid_lem true None o' e = absurd (never (sym (ap (λ (d : Delivery). d.result.fits) e)))
  laid_lem false (Some points) o' e = absurd (never (ap (λ (d : Delivery). d.result.fits) e))
  laid_lem false None o' e =
      ap (λ (d : Delivery). flattening (flattened OutputShort w.state.splines w.state.quads 0) w.quads w.splines d.output) e

module _ (setting : Setting) (st : StoreState) (c : Columns) (q : QuadTable) (s : SplineTable) (o : Output) where
  pub unusable : drawable_of st c ≡ false → flattening (flattened Unusable 0 0 0) q s o ≡ flatten_of setting st c q s o
  unfolding flatten_of flatten_drawable
  unusable e = rw e

  module _ (state : State) (q' : QuadTable) (s' : SplineTable) (e : drawable_of st c ≡ true) (hw : world state q' s' ≡ tables_of setting st c q s) where
    pub refused : (refusal : Refusal) → state.answer ≡ Err refusal
        → flattening (flattened (Err refusal) state.splines state.quads 0) q' s' o ≡ flatten_of setting st c q s o
    unfolding flatten_of flatten_drawable tabled
    refused refusal h = rw (e, ← hw, h, sym (ok_is_done (Err refusal)))

    pub delivered : (o' : Output) (r : Option ℕ) {q'' : QuadTable} {s'' : SplineTable} → state.answer ≡ Done → q'' ≡ q' → s'' ≡ s'
        → delivers r o' ≡ deliver_of setting (quad_row_at q'') s'' state.splines o
        → laid_as (world state q' s') r o' ≡ flatten_of setting st c q s o
    unfolding flatten_of flatten_drawable tabled deliver_of laid
    delivered o' r h hq hs hd =
        let items = walk_of setting (quad_row_at q') s' state.splines in
        let d : delivers r o' ≡ deliver_of setting (quad_row_at q') s' state.splines o = rw (← hq, ← hs) hd in
        let done : is_done state.answer ≡ true = ap is_done h in
        rw (e, ← hw, done) (laid_lem (world state q' s') items o (fits_output (length items) o) r o' d)
