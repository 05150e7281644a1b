-- Double rounding. A fraction rounded to binary64, and from there to the 24 digits of binary32, is the fraction rounded to binary32 at once, where the first
-- result's last 29 digits are not a tie, 2 ^ 28, and the field of its exponent is from 898 to 1149. A zero is exact. Assumes nothing.
use mathlib.Core.Path.{◌≡◌, refl, sym, ap, ◌∙◌, subst}
use mathlib.Core.Logic.{◌⊎◌, inl, inr}
use mathlib.Core.Bool.{Bool, true, false, cond}
use Prim.Native.Nat.{ℕ, suc, ◌+◌, ◌-◌, ◌*◌, ◌/◌, ◌%◌, ◌^◌, ◌≤◌, ◌<◌}
use native.Mathlib.Nat.{div-add-mod', mod-lt, mul_assoc, mul_comm, mul_left_comm, mul_right_comm, mul-pos, add-mul, one-mul, mul-one, zero-mul, suc-mul}
use native.Mathlib.Nat.{le_of_suc-le-suc, lt_of_mul-lt-mul_right, div-div-eq-div-mul, le-div_iff_mul-le, lt_of_le_of_lt, le_trans, le_of_eq, le_of_lt}
use native.Mathlib.Nat.{mul-le-mul, mul-le-mul_right, eq-zero-or-pos, eq_of_mul-eq-mul_right}
use native.Mathlib.Omega.{arith}
use lib.Dec.{T, lit≤, lit<}
use lib.Pow.{pow-add, pow_pos, pow_mono}
use lib.IntN.{pos}
use lib.Ieee.{Float, nan, inf, fin, Format, binary32, binary64, up, down, size, odd, units, round, fits, to_bits, of_bits}
use lib.Ieee.Fits.{round_is, round-fits, fits_widens}
use lib.Ieee.Bits.{of_bits-fits}
use lib.Ieee.Exact.{HasValue, units_val}
use lib.Ieee.Nearest.{closest, closest_same, div_same}
use lib.Ieee.Order.{drop, kept}
use lib.Ieee.Scale.{round_same}
use Rattle.rounding.proofs.Basics.{le_or_lt}
use Rattle.rounding.proofs.Rounding.{drop_at}
use Rattle.rounding.proofs.Packing.{finite_bits, infinite_bits, units_bits, units_finite, units_no, to_bits_inf}
use Rattle.rounding.proofs.Signed.{gap}
use Rattle.rounding.proofs.Distances.{same_float}
use Rattle.rounding.proofs.Closest.{closest_near}
use Rattle.rounding.proofs.Nearest.{part_lt, part_full, kept_most, kept_least, kept_full}

-- ---- the nearest whole number to n / u is within a half of it, and it is the only one that is nearer than a half
within : (n u : ℕ) → 0 < u → (2 * (closest n u * u) ≤ 2 * n + u) × (2 * n ≤ 2 * (closest n u * u) + u)
within n u U =
    half (closest n u * u) (n / u * u) (suc (n / u) * u) (n % u) (suc-mul (n / u) u) (div-add-mod' n u) (mod-lt n U)
    (closest_near n u U (n / u)) (closest_near n u U (suc (n / u)))
  where
    half : (c a b r : ℕ) → b ≡ a + u → a + r ≡ n → r < u → gap c n ≤ gap a n → gap c n ≤ gap b n → (2 * c ≤ 2 * n + u) × (2 * n ≤ 2 * c + u)
    half c a b r e d l h k = omega arith

closest_only : (n u q : ℕ) → 0 < u → 2 * (q * u) < 2 * n + u → 2 * n < 2 * (q * u) + u → closest n u ≡ q
closest_only n u q U a b =
    let c = closest n u in
    let k = within n u U in
    last c (below c q (first (c * u) k.0)) (below q c (second (c * u) k.1))
  where
    first : (x : ℕ) → 2 * x ≤ 2 * n + u → x < q * u + u
    first x h = omega (arith, b)

    second : (x : ℕ) → 2 * n ≤ 2 * x + u → q * u < x + u
    second x h = omega (arith, a)

    below : (x y : ℕ) → x * u < y * u + u → x ≤ y
    below x y h = le_of_suc-le-suc (lt_of_mul-lt-mul_right u (subst (λ (z : ℕ). x * u < z) (sym (suc-mul y u)) h))

    last : (c : ℕ) → c ≤ q → q ≤ c → c ≡ q
    last c h k = omega arith

-- so n / u rounded to a whole number, and that, off a tie, to a multiple of 2 ^ 29, is n / u rounded to a multiple of 2 ^ 29
closest_twice : (n u q t : ℕ) → 0 < u → closest n u + 268435456 ≡ q * 536870912 + t → 0 < t → t < 536870912 → closest n (u * 536870912) ≡ q
closest_twice n u q t U e lo hi =
    let c = closest n u in
    let k = within n u U in
    let d : c * u + 268435456 * u ≡ q * u * 536870912 + t * u =
    sym (add-mul c 268435456 u)
    ∙ ap (λ (x : ℕ). x * u) e
    ∙ add-mul (q * 536870912) t u
    ∙ ap (λ (x : ℕ). x + t * u) (mul_right_comm q 536870912 u) in
    let l : u ≤ t * u = le_trans (le_of_eq (sym (one-mul u))) (mul-le-mul_right u lo) in
    let h : t * u + u ≤ 536870912 * u = le_trans (le_of_eq (sym (suc-mul t u))) (mul-le-mul_right u hi) in
    closest_only n (u * 536870912) q (mul-pos U (lit< tt))
    (subst (λ (x : ℕ). 2 * x < 2 * n + u * 536870912) (mul_assoc q u 536870912) (under (c * u) (q * u) (t * u) d l k.0))
    (subst (λ (x : ℕ). 2 * n < 2 * x + u * 536870912) (mul_assoc q u 536870912) (over (c * u) (q * u) (t * u) d h k.1))
  where
    under : (a b c : ℕ) → a + 268435456 * u ≡ b * 536870912 + c → u ≤ c → 2 * a ≤ 2 * n + u → 2 * (b * 536870912) < 2 * n + u * 536870912
    under a b c d l k = omega (arith, U)

    over : (a b c : ℕ) → a + 268435456 * u ≡ b * 536870912 + c → c + u ≤ 536870912 * u → 2 * n ≤ 2 * a + u
        → 2 * n < 2 * (b * 536870912) + u * 536870912
    over a b c d h k = omega (arith, U)

-- ---- the law's words
-- what is asked of the pattern u of the first result: the field of its exponent is from 898 to 1149, and its last 29 digits are not 2 ^ 28
pub record Clear (u : ℕ) : Type 0 where
  pub from : 898 ≤ u / 4503599627370496 % 2048
  pub to : u / 4503599627370496 % 2048 ≤ 1149
  pub no_tie : u % 536870912 ≡ 268435456 → ⊥

-- the pattern with its last 29 digits rounded off
abbrev pub shorter : ℕ → ℕ
shorter u = (u + 268435456) / 536870912 * 536870912

-- ---- patterns of binary64: w without the sign, which does not count
abbrev signed : Bool → ℕ → ℕ
signed s w = cond s 9223372036854775808 0 + w

unsigned : (s : Bool) (w : ℕ) → w ≤ 9218868437227405312
    → (signed s w / 4503599627370496 % 2048 ≡ w / 4503599627370496) × (signed s w % 536870912 ≡ w % 536870912) × (shorter (signed s w) ≡ signed s (shorter w))
unsigned true w h = omega arith
unsigned false w h = omega arith

-- w is k * 2 ^ 52 + R. The numbers that follow from `Clear`, with K = k - 896
record Parts (k R : ℕ) : Type 0 where
  K_is : k ≡ k - 896 + 896
  K_le : k - 896 ≤ 252
  some : 0 < k
  short : shorter (k * 4503599627370496 + R) ≡ k * 4503599627370496 + (R + 268435456) / 536870912 * 536870912
  rest : 0 < (R + 268435456) % 536870912
  q_le : (R + 268435456) / 536870912 ≤ 16777216
  finite : k * 4503599627370496 + (R + 268435456) / 536870912 * 536870912 < 9218868437227405312
  leads : 4503599627370496 ≤ R → 4503599627370496 ≤ (R + 268435456) / 536870912 * 536870912

parts : (k R : ℕ) → R ≤ 9007199254740992 → (0 < k → 4503599627370496 ≤ R) → 898 ≤ (k * 4503599627370496 + R) / 4503599627370496
    → (k * 4503599627370496 + R) / 4503599627370496 ≤ 1149 → ((k * 4503599627370496 + R) % 536870912 ≡ 268435456 → ⊥) → Parts k R
parts k R hi lo a b t =
    let k-lo : 896 ≤ k = omega (arith, hi, a) in
    let R-lo : 4503599627370496 ≤ R = lo (omega arith) in
    let k-hi : k ≤ 1148 = omega (arith, b) in
    record {
      K_is = omega arith;
      K_le = omega arith;
      some = omega arith;
      short = omega arith;
      rest = omega arith;
      q_le = omega arith;
      finite = omega arith;
      leads = λ _. omega arith;
    }

-- ---- the fraction rounded at once, from what binary64 keeps of it, where binary64 drops 896 digits or more
module _ (num den K : ℕ) (D : 0 < den) (k_is : drop 53 (num * 2 ^ 1074) den ≡ K + 896) where
  cross : num * 2 ^ 149 * (den * 2 ^ (K + 896) * 536870912) ≡ num * 2 ^ 1074 * (den * 2 ^ K)
  cross =
      ap (λ (x : ℕ). num * 2 ^ 149 * (den * x * 536870912)) (pow-add 2 K 896)
      ∙ moved num (2 ^ 149) den (2 ^ K) (2 ^ 896) 536870912 (2 ^ 1074) refl
    where
      moved : (a b d x y z c : ℕ) → b * y * z ≡ c → a * b * (d * (x * y) * z) ≡ a * c * (d * x)
      moved a b d x y z c e = left a b d x y z ∙ ap (λ (m : ℕ). a * m * (d * x)) e
        where
          left : (a b d x y z : ℕ) → a * b * (d * (x * y) * z) ≡ a * (b * y * z) * (d * x)
          left a b d x y z = simp (mul_assoc, mul_comm, mul_left_comm)

  wide_pos : 0 < den * 2 ^ (K + 896)
  wide_pos = mul-pos D (pow_pos (K + 896))

  narrow_pos : 0 < den * 2 ^ K
  narrow_pos = mul-pos D (pow_pos K)

  div_is : num * 2 ^ 149 / (den * 2 ^ K) ≡ num * 2 ^ 1074 / (den * 2 ^ (K + 896)) / 536870912
  div_is =
      div_same (num * 2 ^ 149) (den * 2 ^ K) (num * 2 ^ 1074) (den * 2 ^ (K + 896) * 536870912) narrow_pos (mul-pos wide_pos (lit< tt)) cross
      ∙ sym (div-div-eq-div-mul (num * 2 ^ 1074) (den * 2 ^ (K + 896)) 536870912)

  wide_lt : num * 2 ^ 1074 / (den * 2 ^ (K + 896)) < 9007199254740992
  wide_lt = subst (λ (k : ℕ). num * 2 ^ 1074 / (den * 2 ^ k) < 9007199254740992) k_is (part_lt 53 (num * 2 ^ 1074) den (lit< tt) D)

  wide_ge : 4503599627370496 ≤ num * 2 ^ 1074 / (den * 2 ^ (K + 896))
  wide_ge =
      subst (λ (k : ℕ). 4503599627370496 ≤ num * 2 ^ 1074 / (den * 2 ^ k)) k_is
      (part_full 53 (num * 2 ^ 1074) den (lit< tt) D (subst (λ (k : ℕ). 0 < k) (sym k_is) (some K)))
    where
      some : (K : ℕ) → 0 < K + 896
      some K = omega arith

  drops : drop 24 (num * 2 ^ 149) den ≡ K
  drops =
      drop_at 24 (num * 2 ^ 149) den K (lit< tt)
      (subst (λ (x : ℕ). x < 16777216) (sym div_is) (less (num * 2 ^ 1074 / (den * 2 ^ (K + 896))) wide_lt))
      (inr (subst (λ (x : ℕ). 8388608 ≤ x) (sym div_is) (more (num * 2 ^ 1074 / (den * 2 ^ (K + 896))) wide_ge)))
    where
      less : (x : ℕ) → x < 9007199254740992 → x / 536870912 < 16777216
      less x h = omega arith

      more : (x : ℕ) → 4503599627370496 ≤ x → 8388608 ≤ x / 536870912
      more x h = omega arith

  at_once : (s : Bool) (q t : ℕ) → closest (num * 2 ^ 1074) (den * 2 ^ (K + 896)) + 268435456 ≡ q * 536870912 + t → 0 < t → t < 536870912
      → round binary32 s num den ≡ units binary32 s q K
  at_once s q t e lo hi =
      round_is binary32 s num den
      ∙ ap (λ (z : ℕ). units binary32 s (closest (num * 2 ^ 149) (den * 2 ^ z)) z) drops
      ∙ ap (λ (z : ℕ). units binary32 s z K)
      (closest_same (num * 2 ^ 149) (den * 2 ^ K) (num * 2 ^ 1074) (den * 2 ^ (K + 896) * 536870912) narrow_pos (mul-pos wide_pos (lit< tt)) cross
      ∙ closest_twice (num * 2 ^ 1074) (den * 2 ^ (K + 896)) q t wide_pos e lo hi)

-- ---- the two formats' ways to write the result
rescale : (x : Float) (s : Bool) (w l num den : ℕ) → 0 < l → num * l ≡ w * den → HasValue x s w l → HasValue x s num den
rescale nan s w l num den p h v = v
rescale (inf t) s w l num den p h v = v
rescale (fin t m e) s w l num den p h v = (
  v.0,
  eq_of_mul-eq-mul_right l p (m * up e * den) (num * down e)
      (mul_right_comm (m * up e) den l
      ∙ ap (λ (x : ℕ). x * den) v.1
      ∙ mul_right_comm w (down e) den
      ∙ ap (λ (x : ℕ). x * down e) (sym h)
      ∙ mul_right_comm num l (down e)),
)

agree : (v w : Float) (s : Bool) (q K : ℕ) → q ≤ 16777216 → K ≤ 252 → T (fits binary64 v) → T (fits binary64 w)
    → v ≡ units binary64 s (q * 536870912) (K + 896) → w ≡ units binary32 s q K → v ≡ w
agree v w s q K Q L F G a b =
    same_float binary64 v w s (q * 536870912 * 2 ^ (K + 896)) F G
    (subst (λ (x : Float). HasValue x s (q * 536870912 * 2 ^ (K + 896)) (2 ^ 1074)) (sym a)
    (units_val binary64 s (q * 536870912) (K + 896) (lt_of_le_of_lt (mul-le-mul (mul-le-mul_right 536870912 Q) (pow_mono (far K L))) (lit< tt))))
    (rescale w s (q * 2 ^ K) (2 ^ 149) (q * 536870912 * 2 ^ (K + 896)) (2 ^ 1074) (pow_pos 149)
    (ap (λ (x : ℕ). q * 536870912 * x * 2 ^ 149) (pow-add 2 K 896) ∙ moved q 536870912 (2 ^ K) (2 ^ 896) (2 ^ 149) (2 ^ 1074) refl)
    (subst (λ (x : Float). HasValue x s (q * 2 ^ K) (2 ^ 149)) (sym b)
    (units_val binary32 s q K (lt_of_le_of_lt (mul-le-mul Q (pow_mono L)) (lit< tt)))))
  where
    far : (K : ℕ) → K ≤ 252 → K + 896 ≤ 1148
    far K h = omega arith

    moved : (a b x y z c : ℕ) → b * y * z ≡ c → a * b * (x * y) * z ≡ a * x * c
    moved a b x y z c e = left a b x y z ∙ ap (λ (m : ℕ). a * x * m) e
      where
        left : (a b x y z : ℕ) → a * b * (x * y) * z ≡ a * x * (b * y * z)
        left a b x y z = simp (mul_assoc, mul_left_comm)

-- ---- the law
module _ (s : Bool) (num den : ℕ) (D : 0 < den) where
  R_le : kept 53 (num * 2 ^ 1074) den ≤ 9007199254740992
  R_le = kept_most 53 (num * 2 ^ 1074) den (lit< tt) D

  R_leads : (drop 53 (num * 2 ^ 1074) den ≡ 0) ⊎ (4503599627370496 ≤ kept 53 (num * 2 ^ 1074) den)
  R_leads = kept_full 53 (num * 2 ^ 1074) den (lit< tt) D

  R_least : num * 2 ^ 1074 / (den * 2 ^ drop 53 (num * 2 ^ 1074) den) ≤ kept 53 (num * 2 ^ 1074) den
  R_least = kept_least 53 (num * 2 ^ 1074) den (lit< tt) D

  R_ge : 0 < drop 53 (num * 2 ^ 1074) den → 4503599627370496 ≤ kept 53 (num * 2 ^ 1074) den
  R_ge g = le_trans (part_full 53 (num * 2 ^ 1074) den (lit< tt) D g) R_least

  body : (k R : ℕ) → drop 53 (num * 2 ^ 1074) den ≡ k → kept 53 (num * 2 ^ 1074) den ≡ R → k * 4503599627370496 + R < 9218868437227405312
      → Clear (signed s (k * 4503599627370496 + R)) → of_bits binary64 (shorter (signed s (k * 4503599627370496 + R))) ≡ round binary32 s num den
  body k R k_is R-is l c =
      let n = num * 2 ^ 1074 in
      let w = k * 4503599627370496 + R in
      let K = k - 896 in
      let q = (R + 268435456) / 536870912 in
      let z = unsigned s w (le_of_lt l) in
      let hi : R ≤ 9007199254740992 = subst (λ (x : ℕ). x ≤ 9007199254740992) R-is R_le in
      let lo : 0 < k → 4503599627370496 ≤ R = subst (λ (x : ℕ). 0 < x → 4503599627370496 ≤ R) k_is
      (subst (λ (x : ℕ). 0 < drop 53 n den → 4503599627370496 ≤ x) R-is R_ge) in
      let p = parts k R hi lo (le_trans c.from (le_of_eq z.0)) (le_trans (le_of_eq (sym z.0)) c.to) (λ e. c.no_tie (z.1 ∙ e)) in
      let kK : drop 53 n den ≡ K + 896 = k_is ∙ p.K_is in
      let R-at : closest n (den * 2 ^ (K + 896)) ≡ R = ap (λ (x : ℕ). closest n (den * 2 ^ x)) (sym kK) ∙ R-is in
      let v-is : of_bits binary64 (shorter (signed s w)) ≡ units binary64 s (q * 536870912) (K + 896) =
      ap (λ (x : ℕ). of_bits binary64 x) (z.2 ∙ ap (λ (x : ℕ). signed s x) p.short)
      ∙ sym (units_finite binary64 s (q * 536870912) k (mul-le-mul_right 536870912 p.q_le) (inr (p.leads (lo p.some))) p.finite)
      ∙ ap (λ (x : ℕ). units binary64 s (q * 536870912) x) p.K_is in
      let w_is : round binary32 s num den ≡ units binary32 s q K = at_once num den K D kK s q ((R + 268435456) % 536870912)
      (ap (λ (x : ℕ). x + 268435456) R-at ∙ sym (div-add-mod' (R + 268435456) 536870912)) p.rest (mod-lt (R + 268435456) (lit< tt)) in
      agree (of_bits binary64 (shorter (signed s w))) (round binary32 s num den) s q K p.q_le p.K_le (of_bits-fits binary64 (shorter (signed s w)))
      (fits_widens (round binary32 s num den) (round-fits binary32 s num den)) v-is w_is

  -- the pattern is that of k * 2 ^ 52 + R, or an infinity's
  pattern_is : let w = drop 53 (num * 2 ^ 1074) den * 4503599627370496 + kept 53 (num * 2 ^ 1074) den in
      ((w < 9218868437227405312) × (to_bits binary64 (round binary64 s num den) ≡ signed s w))
      ⊎ (to_bits binary64 (round binary64 s num den) ≡ signed s 9218868437227405312)
  pattern_is =
      let k = drop 53 (num * 2 ^ 1074) den in
      let R = kept 53 (num * 2 ^ 1074) den in
      let is : to_bits binary64 (round binary64 s num den) ≡ to_bits binary64 (units binary64 s R k) =
      ap (λ (x : Float). to_bits binary64 x) (round_is binary64 s num den) in
      elim (le_or_lt 9218868437227405312 (k * 4503599627370496 + R)) [
        | inl g ↦
            inr (is
            ∙ ap (λ (x : Float). to_bits binary64 x) (units_no binary64 s R k (infinite_bits binary64 R k R_le R_leads g))
            ∙ to_bits_inf binary64 s)
        | inr l ↦ inl (l, is ∙ units_bits binary64 s R k R_le R_leads (finite_bits binary64 R k R_le R_leads l))
      ]

  pub double : Clear (to_bits binary64 (round binary64 s num den))
      → of_bits binary64 (shorter (to_bits binary64 (round binary64 s num den))) ≡ round binary32 s num den
  double c = elim pattern_is [
    | inl z ↦
        ap (λ (x : ℕ). of_bits binary64 (shorter x)) z.1
        ∙ body (drop 53 (num * 2 ^ 1074) den) (kept 53 (num * 2 ^ 1074) den) refl refl z.0 (subst Clear z.1 c)
    | inr u ↦ absurd (too_far s (subst Clear u c))
  ]
    where
      no : 2047 ≤ 1149 → ⊥
      no h = omega arith

      too_far : (s : Bool) → Clear (signed s 9218868437227405312) → ⊥
      too_far true c = no c.to
      too_far false c = no c.to

  -- a fraction that is not 0 does not round to 0 where den is at most 2 ^ 1074: it is a smallest value or more
  not_zero : den ≤ 2 ^ 1074 → 0 < num → to_bits binary64 (round binary64 s num den) % 9223372036854775808 ≡ 0 → ⊥
  not_zero L P e = elim pattern_is [
    | inl z ↦
        let k = drop 53 (num * 2 ^ 1074) den in
        let R = kept 53 (num * 2 ^ 1074) den in
        let a : R ≡ 0 = none s (k * 4503599627370496) R z.0 (ap (λ (x : ℕ). x % 9223372036854775808) (sym z.1) ∙ e) in
        clash R a (elim R_leads [
          | inr g ↦ le_trans (lit≤ tt) g
          | inl k0 ↦
              let u = den * 2 ^ k in
              let u-is : 1 * u ≡ den = one-mul u ∙ ap (λ (x : ℕ). den * 2 ^ x) k0 ∙ mul-one den in
              let reach : 2 ^ 1074 ≤ num * 2 ^ 1074 = le_trans (le_of_eq (sym (one-mul (2 ^ 1074)))) (mul-le-mul_right (2 ^ 1074) P) in
              le_trans ((le-div_iff_mul-le (mul-pos D (pow_pos k))).1 (le_trans (le_of_eq u-is) (le_trans L reach))) R_least
        ])
    | inr u ↦ far s (ap (λ (x : ℕ). x % 9223372036854775808) (sym u) ∙ e)
  ]
    where
      none : (s : Bool) (a R : ℕ) → a + R < 9218868437227405312 → signed s (a + R) % 9223372036854775808 ≡ 0 → R ≡ 0
      none true a R l e = omega arith
      none false a R l e = omega arith

      clash : (R : ℕ) → R ≡ 0 → 1 ≤ R → ⊥
      clash R e h = omega arith

      off : ◌≡◌ {A = ℕ} 9218868437227405312 0 → ⊥
      off h = omega arith

      far : (s : Bool) → signed s 9218868437227405312 % 9223372036854775808 ≡ 0 → ⊥
      far true h = off h
      far false h = off h

-- ---- zero
zero_one : (f : Format) (s : Bool) → round f s 0 1 ≡ fin s 0 (pos 0)
unfolding round size units odd
zero_one binary32 s = refl
zero_one binary64 s = refl

pub round_zero : (f : Format) (s : Bool) (den : ℕ) → 0 < den → round f s 0 den ≡ fin s 0 (pos 0)
round_zero f s den D = round_same f s 0 den 0 1 D (pow_pos 0) (zero-mul 1 ∙ sym (zero-mul den)) ∙ zero_one f s

pub double_zero : (s : Bool) (num den : ℕ) → 0 < den → den ≤ 2 ^ 1074 → to_bits binary64 (round binary64 s num den) % 9223372036854775808 ≡ 0
    → round binary64 s num den ≡ round binary32 s num den
double_zero s num den D L e = elim (eq-zero-or-pos num) [
  | inl z ↦
      ap (λ (x : ℕ). round binary64 s x den) z
      ∙ round_zero binary64 s den D
      ∙ sym (round_zero binary32 s den D)
      ∙ ap (λ (x : ℕ). round binary32 s x den) (sym z)
  | inr p ↦ absurd (not_zero s num den D L p e)
]
