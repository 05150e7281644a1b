-- The points of an accepted drawing, as applied, and the differences of two of them are finite: a stored coordinate is at most 2^22 in size and a weight's
-- reciprocal at most 64, so an applied coordinate is at most 2^28 and a difference at most 2^30. Assumes nothing.
use Prim.Native.Nat.{ℕ, zero, suc, ◌+◌, ◌*◌, ◌^◌, ◌≤◌, ◌<◌}
use mathlib.Core.Path.{◌≡◌, refl, sym, ap, subst}
use mathlib.Core.Logic.{inl, inr}
use mathlib.Core.Bool.{Bool, true, false, not, cond}
use native.Mathlib.Nat.{le_trans, le_of_eq, lt_of_lt_of_le, lt_of_le_of_lt, one-mul, mul_assoc, mul_comm, mul_left_comm, mul-pos, mul-le-mul}
use native.Mathlib.Nat.{mul-le-mul_right, zero-mul, zero-lt-suc}
use native.Mathlib.Omega.{arith, by_contra}
use lib.Dec.{T, ltb, eqb, lt→ltb, eqb-suc-zero}
use lib.Ieee.{Float, nan, inf, fin, binary32, up, down, round, add, sub, mul, div, neg, lt, fits, unlike, of_bits}
use lib.Ieee.Fits.{up_pos, down_pos, and_i}
use lib.Ieee.Scale.{finite}
use lib.IntN.{pos}
use lib.ListN.{get_or}
use Rattle.rounding.specs.Sums.{sum_sign, sum_size}
use Rattle.rounding.proofs.Bounds.{AtMost, round_at_most}
use Rattle.rounding.proofs.Signed.{sum_rounds, sum_size_lt}
use Rattle.leaves.specs.Single.{◌⊖◌, ◌⊗◌, f32, recip}
use Rattle.leaves.specs.Small.{abs_of}
use Rattle.leaves.proofs.Signs.{abs_round}
use Rattle.point.specs.Point.{applied_of, minus_of}
use Rattle.point.specs.Turning.{finite_of}
use Rattle.store.specs.declared.StoreState.{StoreState}
use Rattle.store.specs.Columns.{Columns, stored_point_of}
use Rattle.promises.specs.DrawingAnswers.{Outside}
use Rattle.promises.specs.FlattenAnswers.{Undrawable, weight_outside, x_outside, y_outside}

-- finite, and at most n in size
abbrev Within : Float → ℕ → Type 0
Within v n = AtMost (abs_of v) n 1

within_finite : (v : Float) (n : ℕ) → Within v n → T (finite v)
unfolding abs_of
within_finite nan n h = h
within_finite (inf s) n h = h
within_finite (fin s m e) n h = tt

-- a fraction of at most 2 ^ k, which is a value of the format
round_within : (s : Bool) (a c k : ℕ) → T (fits binary32 (fin false 1 (pos k))) → 0 < c → a ≤ 2 ^ k * c → Within (round binary32 s a c) (2 ^ k)
round_within s a c k F C h =
    subst (λ (x : Float). AtMost x (2 ^ k) 1) (sym (abs_round binary32 s a c))
    (round_at_most binary32 (fin false 1 (pos k)) a c (2 ^ k) 1 F (refl, ap (λ (z : ℕ). z * 1) (one-mul (2 ^ k))) C (zero-lt-suc 0) (plain a (2 ^ k * c) h))
  where
    plain : (a b : ℕ) → a ≤ b → a * 1 ≤ b
    plain a b h = omega arith

-- ---- what is stored
not_below : (a b : ℕ) → (T (ltb b a) → ⊥) → a ≤ b
not_below a b h = by_contra a b (λ l. h (lt→ltb b a l))

stored_within : (v : Float) → (Outside (f32 0xca80_0000) (f32 0x4a80_0000) v → ⊥) → Within v 4194304
unfolding lt of_bits abs_of
stored_within nan h = absurd (h (inl refl))
stored_within (inf true) h = absurd (h (inr (inl tt)))
stored_within (inf false) h = absurd (h (inr (inr tt)))
stored_within (fin true m e) h = (refl, not_below (m * up e * 1) (4194304 * down e) (λ t. h (inr (inl t))))
stored_within (fin false m e) h = (refl, not_below (m * up e * 1) (4194304 * down e) (λ t. h (inr (inr t))))

recip_within : (w : Float) → (Outside (f32 0x3c80_0000) (f32 0x4280_0000) w → ⊥) → Within (recip w) 64
unfolding lt of_bits div fits
recip_within nan h = absurd (h (inl refl))
recip_within (inf true) h = absurd (h (inr (inl tt)))
recip_within (inf false) h = absurd (h (inr (inr tt)))
recip_within (fin true m e) h = absurd (h (inr (inl (lt→ltb 0 (m * up e * 64 + 1 * 1 * down e) (some (m * up e * 64) (down e) (down_pos e))))))
  where
    some : (a d : ℕ) → 0 < d → 0 < a + 1 * 1 * d
    some a d h = omega arith
recip_within (fin false zero e) h =
    absurd
    (none (0 * up e * 64) (down e) (down_pos e) (ap (λ (x : ℕ). x * 64) (zero-mul (up e))) (not_below (1 * 1 * down e) (0 * up e * 64) (λ t. h (inr (inl t)))))
  where
    none : (a d : ℕ) → 0 < d → a ≡ 0 * 64 → 1 * 1 * d ≤ a → ⊥
    none a d p e l = omega arith
recip_within (fin false (suc m) e) h =
    let x = suc m * up e in
    subst (λ (b : Bool). Within (cond b (cond (eqb 1 0) nan (inf (unlike false false))) (round binary32 (unlike false false) (1 * 1 * down e) (x * 1))) 64)
    (sym (eqb-suc-zero m))
    (round_within false (1 * 1 * down e) (x * 1) 6 tt (some x (mul-pos (zero-lt-suc m) (up_pos e)))
    (over x (down e) (not_below (1 * 1 * down e) (x * 64) (λ t. h (inr (inl t))))))
  where
    some : (x : ℕ) → 0 < x → 0 < x * 1
    some x h = omega arith

    over : (x d : ℕ) → 1 * 1 * d ≤ x * 64 → 1 * 1 * d ≤ 64 * (x * 1)
    over x d h = omega arith

-- ---- what is worked out from it
product_within : (x r : Float) → Within x 4194304 → Within r 64 → Within (x ⊗ r) 268435456
unfolding mul abs_of fits
product_within nan r h k = absurd h
product_within (inf s) r h k = absurd h
product_within (fin s m e) nan h k = absurd k
product_within (fin s m e) (inf t) h k = absurd k
product_within (fin s m e) (fin t n d) h k =
    round_within (unlike s t) (m * up e * (n * up d)) (down e * down d) 28 tt (mul-pos (down_pos e) (down_pos d))
    (times (m * up e) (down e) (n * up d) (down d) h.1 k.1)
  where
    regroup : (x y z b d : ℕ) → x * y ≡ z → x * b * (y * d) ≡ z * (b * d)
    regroup x y z b d e = rw (← e) (simp (mul_assoc, mul_left_comm))

    times : (a b c d : ℕ) → a * 1 ≤ 4194304 * b → c * 1 ≤ 64 * d → a * c ≤ 268435456 * (b * d)
    times a b c d h k =
        let p : a ≤ 4194304 * b = omega arith in
        let q : c ≤ 64 * d = omega arith in
        le_trans (mul-le-mul p q) (le_of_eq (regroup 4194304 64 268435456 b d refl))

difference_within : (x y : Float) → Within x 268435456 → Within y 268435456 → Within (x ⊖ y) 1073741824
unfolding sub add neg abs_of fits
difference_within nan y h k = absurd h
difference_within (inf s) y h k = absurd h
difference_within (fin s m e) nan h k = absurd k
difference_within (fin s m e) (inf t) h k = absurd k
difference_within (fin s m e) (fin t n d) h k =
    let a = m * up e * down d in
    let b = n * up d * down e in
    let c = down e * down d in
    let C = mul-pos (down_pos e) (down_pos d) in
    subst (λ (v : Float). Within v 1073741824) (sym (sum_rounds binary32 s a (not t) b c))
    (round_within (sum_sign s a (not t) b) (sum_size s a (not t) b) c 30 tt C
    (twice (sum_size s a (not t) b) c
    (sum_size_lt s a (not t) b (536870912 * c) (less (m * up e) (down e) (down d) C h.1)
    (lt_of_lt_of_le (less (n * up d) (down d) (down e) (mul-pos (down_pos d) (down_pos e)) k.1)
    (le_of_eq (ap (λ (z : ℕ). 536870912 * z) (mul_comm (down d) (down e))))))))
  where
    twice : (z c : ℕ) → z < 536870912 * c + 536870912 * c → z ≤ 1073741824 * c
    twice z c h = omega arith

    half : (z : ℕ) → 0 < z → 268435456 * z < 536870912 * z
    half z h = omega arith

    less : (M e d : ℕ) → 0 < e * d → M * 1 ≤ 268435456 * e → M * d < 536870912 * (e * d)
    less M e d p h =
        let q : M ≤ 268435456 * e = omega arith in
        lt_of_le_of_lt (le_trans (mul-le-mul_right d q) (le_of_eq (mul_assoc 268435456 e d))) (half (e * d) p)

-- ---- the points of an accepted drawing
module _ (st : StoreState) (c : Columns) (drawn : Undrawable st c → ⊥) where
  applied_within : (i : ℕ) → i < st.points
      → Within (applied_of (stored_point_of c i)).x 268435456 × Within (applied_of (stored_point_of c i)).y 268435456
  unfolding applied_of stored_point_of
  applied_within i h =
      let r = recip_within (get_or c.weight i nan) (λ o. drawn (weight_outside i h o)) in (
        product_within (get_or c.x i nan) (recip (get_or c.weight i nan)) (stored_within (get_or c.x i nan) (λ o. drawn (x_outside i h o))) r,
        product_within (get_or c.y i nan) (recip (get_or c.weight i nan)) (stored_within (get_or c.y i nan) (λ o. drawn (y_outside i h o))) r,
      )

  pub direction_finite : (i j : ℕ) → i < st.points → j < st.points → T (finite_of (minus_of (applied_of (stored_point_of c j)) (applied_of (stored_point_of c i))))
  unfolding minus_of
  direction_finite i j h k =
      let p = applied_of (stored_point_of c i) in
      let q = applied_of (stored_point_of c j) in
      let P = applied_within i h in
      let Q = applied_within j k in
      and_i (finite (q.x ⊖ p.x)) (finite (q.y ⊖ p.y)) (within_finite (q.x ⊖ p.x) 1073741824 (difference_within q.x p.x Q.0 P.0))
      (within_finite (q.y ⊖ p.y) 1073741824 (difference_within q.y p.y Q.1 P.1))
