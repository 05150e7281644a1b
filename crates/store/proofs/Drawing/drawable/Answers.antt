-- `store::Drawing::drawable` meets its contract: each chain tests a column's first entries, and their results joined are the definition. Assumes nothing.
use native.Mathlib.Omega.{arith}
use Rattle.std.proofs.Common.{rules, tests, sym, ◌∙◌, leb, take, length-take-le}
use Rattle.std.proofs.lemmas.Iterator.{YieldsList-from_slice}
use Rattle.std.proofs.lemmas.Iterator.Search.{all_from_yields_List}
use Rattle.store.specs.Drawing.{weight_ok_of}
use Rattle.store.specs.Drawable.{stored_ok_of}
use Rattle.store.proofs.Usable.{usable_counts}
use Rattle.store.proofs.Loops.{undrawable, drawn, known_all, every_all}
use Rattle.store.proofs.Drawing.drawable.Goals as goal

pub returns-then-not-usable : goal.returns-then-not-usable
returns-then-not-usable c = undrawable _ _ (sym c.usable.ensures ∙ c.if-not-usable.true)

pub slice_bounds-iter-end : goal.slice_bounds-iter-end
slice_bounds-iter-end c =
    let u = usable_counts _ _ (sym c.usable.ensures ∙ c.if-not-usable.false) in
    sym (length-take-le _ _ (omega (arith, u.commands)))

pub slice_bounds-iter-end-2 : goal.slice_bounds-iter-end-2
slice_bounds-iter-end-2 c =
    let u = usable_counts _ _ (sym c.usable.ensures ∙ c.if-not-usable.false) in
    sym (length-take-le _ _ (omega (arith, u.weight, u.points)))

pub slice_bounds-iter-end-3 : goal.slice_bounds-iter-end-3
slice_bounds-iter-end-3 c =
    let u = usable_counts _ _ (sym c.usable.ensures ∙ c.if-not-usable.false) in
    sym (length-take-le _ _ (omega (arith, u.points)))

pub slice_bounds-iter-end-4 : goal.slice_bounds-iter-end-4
slice_bounds-iter-end-4 c =
    let u = usable_counts _ _ (sym c.usable.ensures ∙ c.if-not-usable.false) in
    sym (length-take-le _ _ (omega (arith, u.y, u.points)))

pub returns : goal.returns
returns c =
    let d = c.args.self.now in
    let n = d.state.points in
    let k = all_from_yields_List (λ v. leb v 3) _ _ _ c.all.ensures.ran (YieldsList-from_slice (take d.state.commands d.commands.now) cc) (λ x b q k. search (rules, tests)) in
    let w = all_from_yields_List weight_ok_of _ _ _ c.all-2.ensures.ran (YieldsList-from_slice (take n d.weight.now) cc) (λ x b q k. search (rules, tests)) in
    let x = all_from_yields_List stored_ok_of _ _ _ c.all-3.ensures.ran (YieldsList-from_slice (take n d.x.now) cc) (λ x b q k. search (rules, tests)) in
    let y = all_from_yields_List stored_ok_of _ _ _ c.all-4.ensures.ran (YieldsList-from_slice (take n d.y.now) cc) (λ x b q k. search (rules, tests)) in
    rw c.read.ensures
    (drawn _ _ (sym c.usable.ensures ∙ c.if-not-usable.false) (k ∙ known_all _) c.uses_all.ensures (w ∙ every_all weight_ok_of _) (x ∙ every_all stored_ok_of _) (y ∙ every_all stored_ok_of _))
