-- `store::Drawing::uses_all` meets its contract: the points that are left after each command are none in the end. Assumes nothing.
use Rattle.std.proofs.Common.{◌≡◌, ◌∙◌, ap, refl, rules, tests, Some, fold}
use Rattle.std.proofs.lemmas.Fn.{fold_over, fronts}
use Rattle.std.specs.Iterator.Adapters.{take_steps}
use Rattle.std.proofs.lemmas.Iterator.{YieldsList-from_slice, YieldsList-from_take}
use Rattle.std.specs.Option.{option_eq}
use lib.Dec.{eqb}
use Rattle.store.proofs.Loops.{left_after, left_more, left_zero}
use Rattle.store.proofs.Drawing.uses_all.Goals as goal

pub returns : goal.returns
returns c =
    let d = c.args.self.now in
    let f =
    fold_over (take_steps fronts) (λ y. y.now) _ (λ ys a. a ≡ fold left_after (Some d.state.points) ys) _
    (λ ys a x b f' j k. let e : b ≡ left_after a x.now = search (rules, tests) in (left_more d.state.points ys x.now j e, refl)) c.take.result _ _ _
    (YieldsList-from_take d.state.commands (YieldsList-from_slice d.commands.now cc) cc).runs refl c.fold.ensures.ran in
    c.eq.ensures ∙ ap (λ o. option_eq eqb o (Some 0)) f ∙ left_zero _ _
