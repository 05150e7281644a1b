-- `leaves::whole::ceil` meets its contract. Assumes nothing.
use mathlib.Core.Path.{◌≡◌, sym, ◌∙◌}
use mathlib.Core.Bool.{true, false}
use Prim.Native.Nat.{ℕ, ◌+◌, ◌-◌, ◌/◌, ◌^◌, ◌<◌, ◌≤◌}
use native.Mathlib.Omega.{arith}
use native.Mathlib.Nat.{lt_of_le_of_lt, lt_of_lt_of_le, le_of_eq, add-sub_of_le, div-le_self}
use lib.Dec.{lit<, lit≤}
use lib.Ieee.{binary32, to_bits}
use lib.Ieee.Scale.{finite}
use lib.Pow.{pow_pos}
use Rattle.rounding.specs.Parts.{sig, place}
use Rattle.rounding.proofs.Parts.{sig_lt, place_le}
use Rattle.leaves.proofs.Comparisons.{held, yes, finite_no_nan}
use Rattle.leaves.proofs.WholeUp.{pattern_value, not_finite, ceil_below, ceil_above, ceil_whole, up_le}
use Rattle.leaves.proofs.whole.ceil.Lts as lts
use Rattle.leaves.proofs.whole.ceil.Reads as reads
use Rattle.leaves.proofs.whole.ceil.Tie as tie
use Rattle.leaves.proofs.whole.ceil.Goals as goal

abbrev Else-not-finite : Type 0
Else-not-finite = lts.Else1 tie.the-claims reads.Pre reads.Post tie.handed_clauses

digits_lt : (t b : ℕ) → t ≡ sig binary32 b → t < 16777216
digits_lt t b e = lt_of_le_of_lt (le_of_eq e) (sig_lt binary32 b)

-- x is finite
first : (c : Else-not-finite) → finite c.args.x ≡ true
first c = sym c.finite.ensures ∙ c.if-not-finite.false

down_lt : (t d q : ℕ) → t < 16777216 → q ≡ t / 2 ^ d → q < 2 ^ 62
down_lt t d q h e = lt_of_le_of_lt (le_of_eq e) (lt_of_le_of_lt (div-le_self t (2 ^ d)) (lt_of_lt_of_le h (lit≤ tt)))

up_lt : (t d q : ℕ) → t < 16777216 → q ≡ (t + 2 ^ d - 1) / 2 ^ d → q < 2 ^ 62
up_lt t d q h e = lt_of_le_of_lt (le_of_eq e) (lt_of_le_of_lt (up_le t (2 ^ d) (pow_pos d)) (lt_of_lt_of_le h (lit≤ tt)))

-- 149 - p, for a p below 149
back : (p : ℕ) → p < 149 → 149 - p + p ≡ 149
back p h = omega arith

pub returns-then-not-finite : goal.returns-then-not-finite
returns-then-not-finite c = not_finite c.args.x (sym c.finite.ensures ∙ c.if-not-finite.true)

pub float_to_bits-b : goal.float_to_bits-b
float_to_bits-b c = finite_no_nan c.args.x (first c)

pub overflow_add-p : goal.overflow_add-p
overflow_add-p c =
    let x = c.args.x in omega
    (arith, c.place-p.ensures, place_le binary32 (to_bits binary32 x))

pub rounded-requires : goal.rounded-requires
rounded-requires c =
    let b = to_bits binary32 c.args.x in
    let p = c.place-p in record { m_bound = lt_of_lt_of_le (digits_lt c.digits-t.result b c.digits-t.ensures) (lit≤ tt); z_bound = small p.result (place binary32 b) p.ensures (place_le binary32 b); y_bound = lit< tt }
  where
    small : (p q : ℕ) → p ≡ q → q ≤ 254 → p + 1 < 4096
    small p q e h = omega arith

pub returns-then-p-ge149 : goal.returns-then-p-ge149
returns-then-p-ge149 c =
    let x = c.args.x in
    let t = c.digits-t in
    let p = c.place-p in
    c.rounded.ensures
    ∙ ceil_whole x t.result p.result c.minus.result
    (pattern_value x (held x c.well_formed.0.1) (yes (finite x) (first c.before.before.before.before.before)) c.minus.result t.result
    p.result c.minus.ensures t.ensures p.ensures)
    (p.result - 149) (add-sub_of_le c.if-p-ge149.true)

pub rounded-requires-then-minus : goal.rounded-requires-then-minus
rounded-requires-then-minus c =
    let x = c.args.x in
    let t = c.digits-t in
    let p = c.place-p in record { m_bound = down_lt t.result (149 - p.result) c.whole_below.result (digits_lt t.result (to_bits binary32 x) t.ensures) c.whole_below.ensures; z_bound = lit< tt; y_bound = lit< tt }

pub returns-then-minus : goal.returns-then-minus
returns-then-minus c =
    let x = c.args.x in
    let t = c.digits-t in
    let p = c.place-p in
    let s = c.minus-2 in
    c.rounded-then-minus.ensures
    ∙ ceil_below x t.result p.result
    (pattern_value x (held x c.well_formed.0.1) (yes (finite x) (first c.before.before.before.before.before.before.before)) true t.result
    p.result (sym c.if-minus.true ∙ s.ensures) t.ensures p.ensures)
    (149 - p.result) c.whole_below.result (back p.result c.if-p-ge149.false) c.whole_below.ensures

pub whole_above-requires : goal.whole_above-requires
whole_above-requires c =
    let x = c.args.x in digits_lt c.digits-t.result
    (to_bits binary32 x) c.digits-t.ensures

pub rounded-requires-2 : goal.rounded-requires-2
rounded-requires-2 c =
    let x = c.args.x in
    let t = c.digits-t in
    let p = c.place-p in record { m_bound = up_lt t.result (149 - p.result) c.whole_above.result (digits_lt t.result (to_bits binary32 x) t.ensures) c.whole_above.ensures; z_bound = lit< tt; y_bound = lit< tt }

pub returns : goal.returns
returns c =
    let x = c.args.x in
    let t = c.digits-t in
    let p = c.place-p in
    let s = c.minus-2 in
    c.rounded-2.ensures
    ∙ ceil_above x t.result p.result
    (pattern_value x (held x c.well_formed.0.1) (yes (finite x) (first c.before.before.before.before.before.before.before)) false t.result
    p.result (sym c.if-minus.false ∙ s.ensures) t.ensures p.ensures)
    (149 - p.result) c.whole_above.result (back p.result c.if-p-ge149.false) c.whole_above.ensures
