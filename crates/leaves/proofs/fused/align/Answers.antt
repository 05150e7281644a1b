-- `leaves::fused::align` meets its contract. What `jam` loses is so small that it only decides which way to round. Assumes nothing.
use mathlib.Core.Path.{◌≡◌, refl, sym, ap, ◌∙◌, subst}
use mathlib.Core.Logic.{◌⊎◌, inl, inr}
use mathlib.Core.Bool.{Bool}
use Prim.Native.Nat.{ℕ, suc, ◌+◌, ◌-◌, ◌*◌, ◌/◌, ◌%◌, ◌^◌, ◌≤◌, ◌<◌}
use native.Mathlib.Nat.{mul_assoc, lt_of_lt_of_le, le_of_suc-le-suc, div-le_self, le_of_lt, sub-pos_iff_lt}
use native.Mathlib.Omega.{arith}
use lib.Pow.{pow-add, pow_mono, shr_lt}
use lib.Ieee.{binary32, sum}
use Rattle.rounding.specs.Alike.{Alike}
use Rattle.rounding.proofs.Sums.{alike_scale, deep, sum_jam, sum_comm}
use Rattle.leaves.specs.Aligned.{Aligns}
use Rattle.leaves.proofs.fused.align.Goals.{else-pe-qe, then-pe-qe}
use Rattle.leaves.proofs.fused.align.Lts as lts
use Rattle.leaves.proofs.fused.align.Reads as reads
use Rattle.leaves.proofs.fused.align.Tie as tie
use Rattle.leaves.proofs.fused.align.Goals as goal

abbrev After-jam-2 : Type 0
After-jam-2 = lts.After-jam2 tie.the-claims reads.Pre reads.Post tie.handed_clauses

abbrev Joined-pe-qe : Type 0
Joined-pe-qe = lts.Joined1 tie.the-claims reads.Pre reads.Post tie.handed_clauses

-- N lost its d lowest digits to x; both are then multiplied by 2 ^ a
scaled : (d a z N x : ℕ) → d + a ≡ z → Alike (suc d) N (x * 2 ^ d) → Alike (suc z) (N * 2 ^ a) (x * 2 ^ z)
scaled d a z N x e h =
    subst (λ (t : ℕ). Alike t (N * 2 ^ a) (x * 2 ^ z)) (ap suc e ∙ refl)
    (subst (λ (M : ℕ). Alike (suc (d + a)) (N * 2 ^ a) M) (mul_assoc x (2 ^ d) (2 ^ a) ∙ ap (λ (y : ℕ). x * y) (sym (pow-add 2 d a) ∙ ap (λ (y : ℕ). 2 ^ y) e))
    (subst (λ (t : ℕ). Alike t (N * 2 ^ a) (x * 2 ^ d * 2 ^ a)) (suc_out d a) (alike_scale (suc d) a N (x * 2 ^ d) h)))
  where
    suc_out : (d a : ℕ) → suc d + a ≡ suc (d + a)
    suc_out d a = omega arith

-- in the sum of x * 2 ^ z and B * 2 ^ z, x * 2 ^ z may replace N * 2 ^ a
module _ (s t : Bool) (N a B z x k : ℕ) (l : a ≤ z) (zeros : N % 2 ^ k ≡ 0) (even : B % 2 ≡ 0) (h : Alike (suc (z - a)) N (x * 2 ^ (z - a))) where
  there : z - a + a ≡ z
  there = omega (arith, l)

  stands : (k ≤ z - a → (suc z ≤ 161) ⊎ (x + 33554432 ≤ B))
      → sum binary32 s (x * 2 ^ z) t (B * 2 ^ z) (2 ^ 311) ≡ sum binary32 s (N * 2 ^ a) t (B * 2 ^ z) (2 ^ 311)
  stands c = elim h [
    | inl e ↦
        ap (λ (M : ℕ). sum binary32 s M t (B * 2 ^ z) (2 ^ 311))
        (ap (λ (y : ℕ). x * 2 ^ y) (sym there) ∙ ap (λ (y : ℕ). x * y) (pow-add 2 (z - a) a) ∙ sym (mul_assoc x (2 ^ (z - a)) (2 ^ a))
        ∙ ap (λ (y : ℕ). y * 2 ^ a) (sym e))
    | inr b ↦
        sym (sum_jam binary32 s (N * 2 ^ a) x t B z 161 (scaled (z - a) a z N x there (inr b)) even
        (elim (c (le_of_suc-le-suc (deep N k (suc (z - a)) b.0 zeros b.1))) [ inl y ↦ inl y | inr y ↦ inr (inr y) ]))
  ]

-- ---- the bounds
even_p : (p : ℕ) → p % 8192 ≡ 0 → p % 2 ≡ 0
even_p p h = omega arith

even_q : (q : ℕ) → q % 137438953472 ≡ 0 → q % 2 ≡ 0
even_q q h = omega arith

part_lt : (n i j d : ℕ) → n < 2 ^ i → i ≤ j + d → n / 2 ^ d < 2 ^ j
part_lt n i j d h l = shr_lt j d (lt_of_lt_of_le h (pow_mono l))

low_cond : (p q qe d x : ℕ) → p < 2 ^ 61 → (qe ≤ 160) ⊎ (2 ^ 60 ≤ q) → x ≤ p / 2 ^ d + 1 → 13 ≤ d → (suc qe ≤ 161) ⊎ (x + 33554432 ≤ q)
low_cond p q qe d x P Q X D = elim Q [
  | inl l ↦ inl (one l)
  | inr l ↦ inr (fits (p / 2 ^ d) (part_lt p 61 48 d P (far D)) X l)
]
  where
    one : qe ≤ 160 → suc qe ≤ 161
    one l = omega arith

    far : 13 ≤ d → 61 ≤ 48 + d
    far l = omega arith

    fits : (r : ℕ) → r < 281474976710656 → x ≤ r + 1 → 1152921504606846976 ≤ q → x + 33554432 ≤ q
    fits r a b c = omega arith

high_cond : (p pe qe q d x : ℕ) → q < 2 ^ 61 → d ≡ pe - qe → (pe ≡ 0) ⊎ (2 ^ 36 ≤ p) → x ≤ q / 2 ^ d + 1 → 37 ≤ d → (suc pe ≤ 161) ⊎ (x + 33554432 ≤ p)
high_cond p pe qe q d x Q e P X D = elim P [
  | inl z ↦ absurd (no z e D)
  | inr l ↦ inr (fits (q / 2 ^ d) (part_lt q 61 24 d Q (far D)) X l)
]
  where
    no : pe ≡ 0 → d ≡ pe - qe → 37 ≤ d → ⊥
    no z e l = omega arith

    far : 37 ≤ d → 61 ≤ 24 + d
    far l = omega arith

    fits : (r : ℕ) → r < 16777216 → x ≤ r + 1 → 68719476736 ≤ p → x + 33554432 ≤ p
    fits r a b c = omega arith

low_x : (p d x : ℕ) → p < 2 ^ 61 → 0 < d → x ≤ p / 2 ^ d + 1 → x < 2 ^ 61
low_x p d x P D X = last (p / 2 ^ d) (part_lt p 61 60 d P (far D)) X
  where
    far : 0 < d → 61 ≤ 60 + d
    far l = omega arith

    last : (r : ℕ) → r < 1152921504606846976 → x ≤ r + 1 → x < 2305843009213693952
    last r a b = omega arith

high_x : (q d x : ℕ) → q < 2 ^ 61 → q % 2 ^ 37 ≡ 0 → x ≤ q / 2 ^ d + 1 → x < 2 ^ 61
high_x q d x Q z X = last (q / 2 ^ d) (div-le_self q (2 ^ d)) Q z X
  where
    last : (r : ℕ) → r ≤ q → q < 2305843009213693952 → q % 137438953472 ≡ 0 → x ≤ r + 1 → x < 2305843009213693952
    last r a b c e = omega arith

none : (a : ℕ) → a - a ≡ 0
none a = omega arith

-- ---- both brought to the higher exponent z, as x and y
abbrev Jam : ℕ → ℕ → ℕ → Type 0
Jam n d r = Alike (suc d) n (r * 2 ^ d) × (r ≤ n / 2 ^ d + 1) × (d ≡ 0 → r ≡ n)

abbrev Higher : ℕ → ℕ → ℕ → Type 0
Higher pe qe z = ((pe < qe) × (z ≡ qe)) ⊎ ((qe ≤ pe) × (z ≡ pe))

record Brought (s t : Bool) (p pe q qe z x y : ℕ) : Type 0 where
  x_lt : x < 2 ^ 61
  y_lt : y < 2 ^ 61
  z_lt : z < 1024
  same : sum binary32 s (x * 2 ^ z) t (y * 2 ^ z) (2 ^ 311) ≡ sum binary32 s (p * 2 ^ pe) t (q * 2 ^ qe) (2 ^ 311)

module _ (s t : Bool) (p pe q qe x y : ℕ) (A : Aligns p pe q qe) where
  product_moves : pe < qe → Jam p (qe - pe) x → Jam q (qe - qe) y → Brought s t p pe q qe qe x y
  product_moves h j k =
      let e : y ≡ q = k.2 (none qe) in
      record {
        x_lt = low_x p (qe - pe) x A.p_lt (sub-pos_iff_lt.1 h) j.1;
        y_lt = subst (λ (n : ℕ). n < 2 ^ 61) (sym e) A.q_lt;
        z_lt = A.qe_lt;
        same =
            ap (λ (n : ℕ). sum binary32 s (x * 2 ^ qe) t (n * 2 ^ qe) (2 ^ 311)) e
            ∙ stands s t p pe q qe x 13 (le_of_lt h) A.p_zeros (even_q q A.q_zeros) j.0 (low_cond p q qe (qe - pe) x A.p_lt A.q_leads j.1);
      }

  addend_moves : qe ≤ pe → Jam p (pe - pe) x → Jam q (pe - qe) y → Brought s t p pe q qe pe x y
  addend_moves h j k =
      let e : x ≡ p = j.2 (none pe) in
      record {
        x_lt = subst (λ (n : ℕ). n < 2 ^ 61) (sym e) A.p_lt;
        y_lt = high_x q (pe - qe) y A.q_lt A.q_zeros k.1;
        z_lt = A.pe_lt;
        same =
            ap (λ (n : ℕ). sum binary32 s (n * 2 ^ pe) t (y * 2 ^ pe) (2 ^ 311)) e
            ∙ sum_comm binary32 s (p * 2 ^ pe) t (y * 2 ^ pe) (2 ^ 311)
            ∙ stands t s q qe p pe y 37 h A.q_zeros (even_p p A.p_zeros) k.0 (high_cond p pe qe q (pe - qe) y A.q_lt refl A.p_leads k.1)
            ∙ sum_comm binary32 t (q * 2 ^ qe) s (p * 2 ^ pe) (2 ^ 311);
      }

  brought : (z : ℕ) → Higher pe qe z → Jam p (z - pe) x → Jam q (z - qe) y → Brought s t p pe q qe z x y
  brought z o j k = elim o [
    | inl h ↦
        subst (λ (n : ℕ). Brought s t p pe q qe n x y) (sym h.1)
        (product_moves h.0 (subst (λ (n : ℕ). Jam p (n - pe) x) h.1 j) (subst (λ (n : ℕ). Jam q (n - qe) y) h.1 k))
    | inr h ↦
        subst (λ (n : ℕ). Brought s t p pe q qe n x y) (sym h.1)
        (addend_moves h.0 (subst (λ (n : ℕ). Jam p (n - pe) x) h.1 j) (subst (λ (n : ℕ). Jam q (n - qe) y) h.1 k))
  ]

-- ---- the code's numbers
higher : (c : Joined-pe-qe) → Higher c.args.pe c.args.qe c.if-pe-qe.z
higher c = elim c.if-pe-qe.branch [ then-pe-qe w ↦ inl (w.if-pe-qe.true, w.z-is) | else-pe-qe w ↦ inr (w.if-pe-qe.false, w.z-is) ]

found : (c : After-jam-2) → let a = c.args in
    Brought a.s a.t a.p a.pe a.q a.qe c.if-pe-qe.z c.jam.result c.jam-2.result
found c =
    let a = c.args in
    brought a.s a.t a.p a.pe a.q a.qe c.jam.result c.jam-2.result c.requires c.if-pe-qe.z (higher c.before.before.before)
    c.jam.ensures c.jam-2.ensures

pub returns : goal.returns
returns c = c.total.ensures ∙ (found c.before).same
