-- `leaves::parts::Positive::sixth_root` meets its contract. m * 2 ^ l * 2 ^ 96 has 139 to 144 digits, so its root has 24. Assumes nothing.
use mathlib.Core.Path.{◌∙◌, subst}
use mathlib.Core.Logic.{inr}
use Prim.Native.Nat.{ℕ, ◌+◌, ◌-◌, ◌*◌, ◌^◌, ◌≤◌, ◌<◌}
use native.Mathlib.Nat.{mod-eq_of_lt, lt_of_lt_of_le, le_of_lt}
use native.Mathlib.Omega.{arith}
use lib.Dec.{lit≤}
use Rattle.rounding.specs.Roots.{IsRoot}
use Rattle.leaves.proofs.SixthParts.{digits_lt, digits_ge, parts_value}
use Rattle.leaves.proofs.parts.Positive.sixth_root.Lts as lts
use Rattle.leaves.proofs.parts.Positive.sixth_root.Reads as reads
use Rattle.leaves.proofs.parts.Positive.sixth_root.Tie as tie
use Rattle.leaves.proofs.parts.Positive.sixth_root.Goals as goal

abbrev After-settle : Type 0
After-settle = lts.After-settle tie.the-claims reads.Pre reads.Post tie.handed_clauses

-- what `settle` gives, of m shifted itself
found : (c : After-settle)
    → let a = c.args.self in IsRoot 6 (a.digits * 2 ^ (a.place + 649 - c.root_place-k.result * 6) * 2 ^ 96) c.settle.result
found c =
    subst (λ (x : ℕ). IsRoot 6 (x * 2 ^ 96) c.settle.result) (mod-eq_of_lt (lt_of_lt_of_le c.root_place-k.ensures.3 (lit≤ tt)))
    c.settle.ensures

low_k : (e k : ℕ) → e < 1024 → k * 6 ≤ e + 649 → k < 65536
low_k e k h g = omega arith

pub join-requires : goal.join-requires
join-requires c =
    let a = c.args.self in
    let p = c.root_place-k in
    let t = a.digits * 2 ^ (a.place + 649 - p.result * 6) in
    let s = c.settle.result in record { q_bound = le_of_lt (digits_lt t s p.ensures.3 (found c)); k_bound = low_k a.place p.result a.place_bound p.ensures.0; normal = inr (digits_ge t s p.ensures.2 (found c)) }

pub returns : goal.returns
returns c =
    let a = c.args.self in
    let p = c.root_place-k in
    c.join.ensures ∙ parts_value a.digits a.place p.result c.settle.result p.ensures.0 p.ensures.2 p.ensures.3 (found c.before)
