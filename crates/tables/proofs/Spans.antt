-- The quads of one spline: they are consecutive and in order, each running sum is above 1 and at most 65,536 and 1 or more above the one before, and
-- the spline's sum is its last quad's. Laws for an empty one, for tables that agree, and for one more quad. Assumes nothing.
use mathlib.Core.Path.{◌≡◌, refl, sym, ap, ◌∙◌, subst, subst₂}
use mathlib.Core.Logic.{◌⊎◌, inl, inr}
use Prim.Native.Nat.{ℕ, zero, suc, ◌+◌, ◌-◌, ◌*◌, ◌≤◌, ◌<◌}
use native.Mathlib.Nat.{le_trans, le_of_eq, le_refl, le_of_lt, lt_of_le_of_lt, lt_irrefl, eq-or-lt_of_le, le_of_suc-le-suc, suc_inj}
use native.Mathlib.Nat.{add-zero, one-mul, le_of_mul-le-mul_right}
use native.Mathlib.Omega.{arith}
use lib.Dec.{T}
use lib.Ieee.{Float, le}
use lib.Ieee.Positive.{num, den, den_pos}
use Rattle.leaves.specs.Single.{◌⊕◌, zero32}
use Rattle.leaves.specs.Whole.{limit32}
use Rattle.primitives.specs.declared.QuadRow.{QuadRow}
use Rattle.tables.proofs.RunningSums.{Sum, Grows, grows_reaches, Bent, sum_after, sum_first}
use Rattle.tables.proofs.Growth.{sum_grows}

-- a quad's running sum, and the number of its spline
abbrev pub sum_at : (ℕ → QuadRow) → ℕ → Float
sum_at rows i = (rows i).partial_curvature

abbrev pub owner_at : (ℕ → QuadRow) → ℕ → ℕ
owner_at rows i = (rows i).spline

-- the quads of spline j are those from lo to below hi, and its sum is total
pub record Span (rows : ℕ → QuadRow) (total : Float) (lo hi j : ℕ) : Type 0 where
  pub ordered : lo ≤ hi
  pub owned : (i : ℕ) → lo ≤ i → i < hi → owner_at rows i ≡ j
  pub sums : (i : ℕ) → lo ≤ i → i < hi → Sum (sum_at rows i)
  pub grows : (i : ℕ) → lo ≤ i → suc i < hi → Grows (sum_at rows i) (sum_at rows (suc i))
  pub none : lo ≡ hi → total ≡ zero32
  pub last : (i : ℕ) → lo ≤ i → suc i ≡ hi → total ≡ sum_at rows i

-- two tables hold the same rows below k
abbrev pub Agree : (ℕ → QuadRow) → (ℕ → QuadRow) → ℕ → Type 0
Agree rows rows' k = (i : ℕ) → i < k → rows' i ≡ rows i

pub same_sum : {r r' : QuadRow} → r ≡ r' → r.partial_curvature ≡ r'.partial_curvature
same_sum = ap (λ (r : QuadRow). r.partial_curvature)

pub same_owner : {r r' : QuadRow} → r ≡ r' → r.spline ≡ r'.spline
same_owner = ap (λ (r : QuadRow). r.spline)

-- ---- no quad
nothing : (lo i : ℕ) → lo ≤ i → i < lo → ⊥
nothing lo i h k = omega arith

pub span_none : (rows : ℕ → QuadRow) (lo j : ℕ) → Span rows zero32 lo lo j
span_none rows lo j =
    record {
      ordered = le_refl lo;
      owned = λ i h k. absurd (nothing lo i h k);
      sums = λ i h k. absurd (nothing lo i h k);
      grows = λ i h k. absurd (nothing lo i h (le_of_lt k));
      none = λ e. refl;
      last = λ i h e. absurd (nothing lo i h (le_of_eq e));
    }

-- ---- tables that agree
module _ (rows rows' : ℕ → QuadRow) (total total' : Float) (lo hi j : ℕ) (A : Agree rows rows' hi) (e : total' ≡ total) (S : Span rows total lo hi j) where
  pub span_agree : Span rows' total' lo hi j
  span_agree =
      record {
        ordered = S.ordered;
        owned = λ i h k. same_owner (A i k) ∙ S.owned i h k;
        sums = λ i h k. subst Sum (sym (same_sum (A i k))) (S.sums i h k);
        grows = λ i h k. subst₂ Grows (sym (same_sum (A i (le_of_lt k)))) (sym (same_sum (A (suc i) k))) (S.grows i h k);
        none = λ z. e ∙ S.none z;
        last = λ i h z. e ∙ S.last i h z ∙ sym (same_sum (A i (le_of_eq z)));
      }

-- ---- the sum of a spline: zero, or its last quad's
pub record LastOf (rows : ℕ → QuadRow) (total : Float) (lo hi : ℕ) : Type 0 where
  pub at : ℕ
  pub inside : lo ≤ at
  pub next : suc at ≡ hi
  pub same : total ≡ sum_at rows at
  pub sum : Sum total

before : (lo hi : ℕ) → lo < hi → (lo ≤ hi - 1) × (suc (hi - 1) ≡ hi) × (hi - 1 < hi)
before lo hi h = (omega arith, omega arith, omega arith)

pub span_last : (rows : ℕ → QuadRow) (total : Float) (lo hi j : ℕ) → Span rows total lo hi j → lo < hi → LastOf rows total lo hi
span_last rows total lo hi j S h =
    let z = before lo hi h in
    let e = S.last (hi - 1) z.0 z.1 in
    record { at = hi - 1; inside = z.0; next = z.1; same = e; sum = subst Sum (sym e) (S.sums (hi - 1) z.0 z.2) }

pub span_total : (rows : ℕ → QuadRow) (total : Float) (lo hi j : ℕ) → Span rows total lo hi j → ((lo ≡ hi) × (total ≡ zero32)) ⊎ LastOf rows total lo hi
span_total rows total lo hi j S = elim (eq-or-lt_of_le S.ordered) [ inl e ↦ inl (e, S.none e) | inr h ↦ inr (span_last rows total lo hi j S h) ]

-- ---- a spline has no more quads than its sum, for each quad's sum reaches the next whole number
module _ (rows : ℕ → QuadRow) (total : Float) (lo hi j : ℕ) (S : Span rows total lo hi j) where
  sum_counts : (d : ℕ) → lo + d < hi → suc d * den (sum_at rows (lo + d)) ≤ num (sum_at rows (lo + d))
  sum_counts zero h =
      subst (λ (x : ℕ). suc 0 * den (sum_at rows x) ≤ num (sum_at rows x)) (sym (add-zero lo))
      (le_trans (le_of_eq (one-mul _)) (le_of_lt (S.sums lo (le_refl lo) (le_trans (le_of_eq (ap suc (sym (add-zero lo)))) h)).over))
  sum_counts (suc d) h =
      let e = next lo d in
      let k = lt_of_le_of_lt (le_of_eq e) h in
      subst (λ (x : ℕ). suc (suc d) * den (sum_at rows x) ≤ num (sum_at rows x)) e
      (grows_reaches (sum_at rows (lo + d)) (sum_at rows (suc (lo + d))) (S.grows (lo + d) (from lo d) k) (suc d) (sum_counts d (le_of_lt k)))
    where
      next : (a b : ℕ) → suc (a + b) ≡ a + suc b
      next a b = omega arith

      from : (a b : ℕ) → a ≤ a + b
      from a b = omega arith

  pub few_quads : hi ≤ lo + 65536
  few_quads = elim (eq-or-lt_of_le S.ordered) [
    | inl e ↦ le_trans (le_of_eq (sym e)) (from lo 65536)
    | inr h ↦
        let L = span_last rows total lo hi j S h in
        let e = split L.at lo L.inside in
        let most = (subst Sum L.same L.sum).most in
        let n = subst (λ (x : ℕ). suc (L.at - lo) * den (sum_at rows x) ≤ num (sum_at rows x)) e
        (sum_counts (L.at - lo) (lt_of_le_of_lt (le_of_eq e) (le_of_eq L.next))) in
        last L.at (le_of_mul-le-mul_right (le_trans n most) (den_pos (sum_at rows L.at))) L.inside L.next
  ]
    where
      from : (a b : ℕ) → a ≤ a + b
      from a b = omega arith

      split : (a b : ℕ) → b ≤ a → b + (a - b) ≡ a
      split a b h = omega arith

      last : (at : ℕ) → suc (at - lo) ≤ 65536 → lo ≤ at → suc at ≡ hi → hi ≤ lo + 65536
      last at h k e = omega arith

-- ---- one more quad, at k
module _ (rows rows' : ℕ → QuadRow) (total c : Float) (lo k j : ℕ) (S : Span rows total lo k j) (A : Agree rows rows' k) (B : Bent c)
    (fit : T (le (total ⊕ c) limit32)) (e : sum_at rows' k ≡ total ⊕ c) (o : owner_at rows' k ≡ j) where
  new_sum : Sum (total ⊕ c) × (lo < k → Grows total (total ⊕ c))
  new_sum = elim (span_total rows total lo k j S) [
    | inl z ↦ (
      subst (λ (t : Float). T (le (t ⊕ c) limit32) → Sum (t ⊕ c)) (sym z.1) (sum_first c B) fit,
      λ h. absurd (lt_irrefl k (lt_of_le_of_lt (le_of_eq (sym z.0)) h)),
    )
    | inr l ↦ (sum_after total c l.sum B fit, λ h. sum_grows total c l.sum B fit)
  ]

  or_new : (P : ℕ → Type 0) → (i : ℕ) → i < suc k → (i < k → P i) → P k → P i
  or_new P i h f p = elim (eq-or-lt_of_le (le_of_suc-le-suc h)) [ inl z ↦ subst P (sym z) p | inr l ↦ f l ]

  pub span_more : Span rows' (total ⊕ c) lo (suc k) j
  span_more =
      record {
        ordered = le_trans S.ordered (le_of_lt (le_refl (suc k)));
        owned = λ i h l. or_new (λ (x : ℕ). owner_at rows' x ≡ j) i l (λ g. same_owner (A i g) ∙ S.owned i h g) o;
        sums = λ i h l. or_new (λ (x : ℕ). Sum (sum_at rows' x)) i l (λ g. subst Sum (sym (same_sum (A i g))) (S.sums i h g)) (subst Sum (sym e) new_sum.0);
        grows = λ i h l. elim (eq-or-lt_of_le (le_of_suc-le-suc l)) [
          | inl z ↦
              subst (λ (x : ℕ). Grows (sum_at rows' i) (sum_at rows' x)) (sym z)
              (subst₂ Grows (S.last i h z ∙ sym (same_sum (A i (le_of_eq z)))) (sym e) (new_sum.1 (lt_of_le_of_lt h (le_of_eq z))))
          | inr g ↦ subst₂ Grows (sym (same_sum (A i (le_of_lt g)))) (sym (same_sum (A (suc i) g))) (S.grows i h g)
        ];
        none = λ z. absurd (nothing lo k S.ordered (le_of_eq (sym z)));
        last = λ i h z. sym e ∙ ap (sum_at rows') (sym (suc_inj z));
      }
