-- `leaves::parts::rounded` meets its contract. m is shifted to 62 digits; then either 24 of them stay, or as many as reach down to the smallest value.
-- Assumes nothing.
use mathlib.Core.Path.{◌≡◌, refl, sym, ap, ◌∙◌, subst}
use mathlib.Core.Logic.{inl, inr}
use mathlib.Core.Bool.{Bool}
use Prim.Native.Nat.{ℕ, ◌+◌, ◌-◌, ◌*◌, ◌/◌, ◌%◌, ◌^◌, ◌≤◌, ◌<◌}
use native.Mathlib.Nat.{le-div_iff_mul-le, div-eq_of_lt, mod-eq_of_lt, lt_of_lt_of_le, zero-mul, zero-div, add-zero}
use native.Mathlib.Omega.{arith}
use lib.Dec.{lit≤, lit<}
use lib.Pow.{pow_pos, pow_mono, shr_lt}
use lib.Ieee.{binary32, units, round}
use Rattle.rounding.specs.Halves.{halve}
use Rattle.rounding.proofs.Halves.{halve_even}
use Rattle.rounding.proofs.Rounding.{round_at}
use Rattle.leaves.proofs.parts.rounded.Goals as goal

zeroth : (s : Bool) (m z y : ℕ) → m ≡ 0 → units binary32 s 0 0 ≡ round binary32 s (m * 2 ^ z) (2 ^ (150 + y))
zeroth s m z y e =
    let n : m * 2 ^ z ≡ 0 = ap (λ (x : ℕ). x * 2 ^ z) e ∙ zero-mul (2 ^ z) in
    let q : m * 2 ^ z / 2 ^ y ≡ 0 = ap (λ (x : ℕ). x / 2 ^ y) n ∙ zero-div (2 ^ y) in
    sym (round_at binary32 s m z z y 0 y (ap (λ (x : ℕ). x + z) (add-zero y)) (subst (λ (x : ℕ). x < 2 ^ 25) (sym q) (pow_pos 25)) (inl refl)
    ∙ ap (λ (x : ℕ). units binary32 s x 0) (ap (λ (x : ℕ). halve x (m * 2 ^ z % 2 ^ y)) q ∙ halve_even 0 (m * 2 ^ z % 2 ^ y)))

-- w is the m * 2 ^ l that the code computes, which does not wrap
module _ (m l : ℕ) (L : m * 2 ^ l < 2 ^ 62) where
  same : m * 2 ^ l % 2 ^ 64 ≡ m * 2 ^ l
  same = mod-eq_of_lt (lt_of_lt_of_le L (lit≤ tt))

  w_lt : m * 2 ^ l % 2 ^ 64 < 2 ^ 62
  w_lt = subst (λ (w : ℕ). w < 2 ^ 62) (sym same) L

  top_lt : m * 2 ^ l % 2 ^ 64 / 2 ^ 37 < 33554432
  top_lt = subst (λ (w : ℕ). w / 2 ^ 37 < 33554432) (sym same) (shr_lt 25 37 L)

  top_ge : 2 ^ 61 ≤ m * 2 ^ l → 16777216 ≤ m * 2 ^ l % 2 ^ 64 / 2 ^ 37
  top_ge g = subst (λ (w : ℕ). 16777216 ≤ w / 2 ^ 37) (sym same) ((le-div_iff_mul-le (pow_pos 37)).1 g)

  low_lt : (d : ℕ) → 37 < d → m * 2 ^ l % 2 ^ 64 / 2 ^ d < 33554432
  low_lt d D = subst (λ (w : ℕ). w / 2 ^ d < 33554432) (sym same) (shr_lt 25 d (lt_of_lt_of_le L (pow_mono (enough d D))))
    where
      enough : (d : ℕ) → 37 < d → 62 ≤ 25 + d
      enough d h = omega arith

  module _ (s : Bool) (z y : ℕ) where
    normal : l + y ≤ z + 37 → 2 ^ 61 ≤ m * 2 ^ l
        → units binary32 s (halve (m * 2 ^ l % 2 ^ 64 / 2 ^ 37) (m * 2 ^ l % 2 ^ 64 % 2 ^ 37)) (z + 37 - (l + y)) ≡ round binary32 s (m * 2 ^ z) (2 ^ (150 + y))
    normal h g =
        ap (λ (w : ℕ). units binary32 s (halve (w / 2 ^ 37) (w % 2 ^ 37)) (z + 37 - (l + y))) same
        ∙ sym (round_at binary32 s m z l y (z + 37 - (l + y)) 37 (level z l y h) (shr_lt 25 37 L) (inr ((le-div_iff_mul-le (pow_pos 37)).1 g)))
      where
        level : (z l y : ℕ) → l + y ≤ z + 37 → y + (z + 37 - (l + y)) + l ≡ 37 + z
        level z l y h = omega arith

    subnormal : (d : ℕ) → d ≡ l + y - z → z + 37 < l + y
        → units binary32 s (halve (m * 2 ^ l % 2 ^ 64 / 2 ^ d) (m * 2 ^ l % 2 ^ 64 % 2 ^ d)) 0 ≡ round binary32 s (m * 2 ^ z) (2 ^ (150 + y))
    subnormal d e h =
        ap (λ (w : ℕ). units binary32 s (halve (w / 2 ^ d) (w % 2 ^ d)) 0) same
        ∙ sym (round_at binary32 s m z l y 0 d (level d z l y e h) (subst (λ (w : ℕ). w / 2 ^ d < 33554432) same (low_lt d (deep d z l y e h))) (inl refl))
      where
        level : (d z l y : ℕ) → d ≡ l + y - z → z + 37 < l + y → y + 0 + l ≡ d + z
        level d z l y e h = omega arith

        deep : (d z l y : ℕ) → d ≡ l + y - z → z + 37 < l + y → 37 < d
        deep d z l y e h = omega arith

    flushed : (d : ℕ) → d ≡ l + y - z → z + 37 < l + y → 62 < d → units binary32 s 0 0 ≡ round binary32 s (m * 2 ^ z) (2 ^ (150 + y))
    flushed d e h g =
        let q : m * 2 ^ l % 2 ^ 64 / 2 ^ d ≡ 0 = div-eq_of_lt (subst (λ (w : ℕ). w < 2 ^ d) (sym same) (lt_of_lt_of_le L (pow_mono (up d g)))) in
        sym (ap (λ (x : ℕ). units binary32 s x 0) (ap (λ (x : ℕ). halve x (m * 2 ^ l % 2 ^ 64 % 2 ^ d)) q ∙ halve_even 0 (m * 2 ^ l % 2 ^ 64 % 2 ^ d)))
        ∙ subnormal d e h
      where
        up : (d : ℕ) → 62 < d → 62 ≤ d
        up d g = omega arith

deep : (z l y : ℕ) → z + 37 < l + y → 37 < l + y - z
deep z l y h = omega arith

pub returns-then-m-eq0 : goal.returns-then-m-eq0
returns-then-m-eq0 c =
    c.join.ensures ∙ zeroth c.args.s c.args.m c.args.z c.args.y
    c.if-m-eq0.true

pub returns-then-z-l : goal.returns-then-z-l
returns-then-z-l c =
    let a = c.args in
    let l = c.lift-l.result in
    c.cut.ensures ∙ normal a.m l c.lift-l.ensures.2 a.s a.z a.y c.if-z-l.true c.lift-l.ensures.1

pub returns-then-d-gt62 : goal.returns-then-d-gt62
returns-then-d-gt62 c =
    let a = c.args in
    let l = c.lift-l.result in
    c.join-then-d-gt62.ensures ∙ flushed a.m l c.lift-l.ensures.2 a.s a.z a.y (l + a.y - a.z) refl
    c.if-z-l.false c.if-d-gt62.true

pub cut-requires-2 : goal.cut-requires-2
cut-requires-2 c =
    let a = c.args in
    let l = c.lift-l.result in
    let lt : a.z + 37 < l + a.y = c.if-z-l.false in
    let w = c.lift-l.ensures.2 in
    record { d_bound = omega arith; k_bound = lit< tt; w_bound = w_lt a.m l w; cut_bound = low_lt a.m l w (l + a.y - a.z) (deep a.z l a.y lt); normal = inl refl }

pub returns : goal.returns
returns c =
    let a = c.args in
    let l = c.lift-l.result in
    c.cut-2.ensures ∙ subnormal a.m l c.lift-l.ensures.2 a.s a.z a.y (l + a.y - a.z) refl
    c.if-z-l.false
