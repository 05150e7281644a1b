-- `leaves::whole::whole_near` meets its contract. Assumes nothing.
use mathlib.Core.Path.{◌≡◌, refl, sym, ◌∙◌}
use mathlib.Core.Bool.{true, false}
use Prim.Native.Nat.{ℕ, ◌+◌, ◌-◌, ◌*◌, ◌/◌, ◌^◌, ◌≤◌}
use native.Mathlib.Omega.{arith}
use native.Mathlib.Nat.{lt_of_le_of_lt, lt_of_lt_of_le, le_of_eq}
use lib.Dec.{T, leb, lit≤}
use lib.Pow.{pow_pos}
use lib.Ieee.{Float, binary32, fits, le, neg, to_bits}
use Rattle.rounding.specs.Parts.{sig, place}
use Rattle.rounding.proofs.Parts.{sig_lt, leads, decode}
use Rattle.leaves.specs.Whole.{limit32, whole_near_of}
use Rattle.leaves.proofs.Comparisons.{held}
use Rattle.leaves.proofs.WholeUp.{place_small, pattern_value}
use Rattle.leaves.proofs.WholeNear.{within, digits_near, whole_near_is, near_lt}
use Rattle.leaves.proofs.whole.whole_near.Goals as goal

module _ (x : Float) (F : T (fits binary32 x)) (A : le (neg limit32) x ≡ true) (B : le x limit32 ≡ true) where
  place_le : place binary32 (to_bits binary32 x) ≤ 142
  place_le =
      let b = to_bits binary32 x in
      place_small x (leb 2147483648 b) (sig binary32 b) (place binary32 b) (decode binary32 x F (within x A B).0) (within x A B).1 (leads binary32 b)

  value : (t p q : ℕ) → t ≡ sig binary32 (to_bits binary32 x) → p ≡ place binary32 (to_bits binary32 x) → q ≡ (2 * t + 2 ^ (149 - p)) / (2 * 2 ^ (149 - p))
      → q ≡ whole_near_of x
  value t p q e g h =
      let s = leb 2147483648 (to_bits binary32 x) in
      h ∙ sym (digits_near x s t p (pattern_value x F (within x A B).0 s t p refl e g) (149 - p) (back p g)) ∙ whole_near_is x true true A B
    where
      back : (p : ℕ) → p ≡ place binary32 (to_bits binary32 x) → 149 - p + p ≡ 149
      back p g = omega (arith, place_le)

pub overflow_sub-place : goal.overflow_sub-place
overflow_sub-place c =
    omega (
      arith,
      c.place.ensures,
      place_le c.args.x (held c.args.x c.well_formed.0.1) c.if-x.true
          c.if-x-2.true,
    )

pub whole_nearest-requires : goal.whole_nearest-requires
whole_nearest-requires c =
    lt_of_le_of_lt (le_of_eq c.digits.ensures) (sig_lt binary32 (to_bits binary32 c.args.x))

pub overflow_cast-result : goal.overflow_cast-result
overflow_cast-result c =
    let t = c.digits in
    let d = 149 - c.place.result in
    record {
      fits =
          lt_of_le_of_lt (le_of_eq c.whole_nearest.ensures)
          (lt_of_lt_of_le (near_lt t.result (2 ^ d) (pow_pos d))
          (lt_of_lt_of_le (lt_of_le_of_lt (le_of_eq t.ensures) (sig_lt binary32 (to_bits binary32 c.args.x)))
          (lit≤ tt)));
    }

pub returns-then-x-2 : goal.returns-then-x-2
returns-then-x-2 c =
    let x = c.args.x in
    let t = c.digits in
    let p = c.place in
    value x (held x c.well_formed.0.1) c.if-x.true c.if-x-2.true t.result p.result
    c.whole_nearest.result t.ensures p.ensures c.whole_nearest.ensures

pub returns-else-x-2 : goal.returns-else-x-2
returns-else-x-2 c = let x = c.args.x in whole_near_is x true false c.if-x.true c.if-x-2.false

pub returns-else-x : goal.returns-else-x
returns-else-x c = let x = c.args.x in whole_near_is x false (le x limit32) c.if-x.false refl
