-- `leaves::parts::finite` meets its contract. Assumes nothing.
use mathlib.Core.Path.{◌≡◌, refl, sym, ap, ◌∙◌}
use mathlib.Core.Bool.{true, false, true≢false}
use lib.Ieee.{Float, nan, inf, fin, binary32, lt, neg, of_bits}
use lib.Ieee.Scale.{finite}
use Rattle.leaves.proofs.parts.finite.Goals as goal

inf_is : of_bits binary32 2139095040 ≡ inf false
unfolding of_bits
inf_is = refl

above : (x : Float) → lt x (inf false) ≡ true → lt (neg (inf false)) x ≡ finite x
unfolding lt neg
above nan h = absurd (true≢false (sym h))
above (inf true) h = refl
above (inf false) h = absurd (true≢false (sym h))
above (fin s m e) h = refl

not_below : (x : Float) → lt x (inf false) ≡ false → false ≡ finite x
unfolding lt
not_below nan h = refl
not_below (inf s) h = refl
not_below (fin s m e) h = absurd (true≢false h)

pub returns-then-x : goal.returns-then-x
returns-then-x c =
    ap (λ (i : Float). lt (neg i) c.args.x) inf_is
    ∙ above c.args.x (sym (ap (λ (i : Float). lt c.args.x i) inf_is) ∙ c.if-x.true)

pub returns-else-x : goal.returns-else-x
returns-else-x c = not_below c.args.x (sym (ap (λ (i : Float). lt c.args.x i) inf_is) ∙ c.if-x.false)
