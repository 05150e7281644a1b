-- Laws of the quad cursor over sound tables, within one spline whose quads are those from lo to l. It never passes l, since no step p reaches the spline's sum. Started at
-- lo it is, at each step p, on the one quad that p falls on: the first whose sum is p or more. Going on by one is enough, since each sum reaches the next whole
-- number above the one before. Assumes nothing.
use mathlib.Core.Path.{◌≡◌, refl, sym, ap, ◌∙◌, subst, subst₂}
use mathlib.Core.Logic.{◌⊎◌, inl, inr}
use mathlib.Core.Bool.{Bool, true, false, not, cond}
use mathlib.Core.List.{List, Memᴰ}
use Prim.Native.Nat.{ℕ, zero, suc, ◌+◌, ◌-◌, ◌*◌, ◌/◌, ◌≤◌, ◌<◌}
use native.Mathlib.Nat.{le_trans, le_of_eq, le_refl, le_of_lt, lt_of_lt_of_le, lt_of_le_of_lt, lt_irrefl, eq-or-lt_of_le, not-suc-le-zero}
use native.Mathlib.Nat.{zero-lt-suc, mul-le-mul_right, one-mul, zero-mul, suc-mul, div-mul-le_self, div-lt_iff_lt-mul, add-zero, le-suc, sub-le, suc_inj}
use native.Mathlib.Numerals.{add-one}
use native.Mathlib.Omega.{arith}
use lib.Dec.{T, ltb, ltb→lt, nltb→le, lit≤}
use lib.Ieee.{Float, lt}
use lib.Ieee.Positive.{num, den, den_pos}
use Rattle.facts.proofs.Numbers.{shift, shift_one}
use Rattle.leaves.specs.Single.{whole32}
use Rattle.command.specs.declared.PointCommand.TheVariants.{Incr}
use Rattle.primitives.specs.declared.QuadRow.{QuadRow}
use Rattle.tables.proofs.RunningSums.{Sum, Reaches, grows_reaches, Up, lt_whole, below_up, up_below, up_two, up_limit}
use Rattle.tables.proofs.Spans.{sum_at, Span}
use Rattle.walk.specs.Walk.{Item, item, cursor_at, steps_from, cursor_from}
use Rattle.facts.specs.Every.{All}

-- p is at most x
abbrev pub AtMost : ℕ → Float → Type 0
AtMost p x = p * den x ≤ num x

-- x is below p
abbrev pub Below : Float → ℕ → Type 0
Below x p = num x < p * den x

-- ---- where the cursor goes at step p
cursor_goes : (rows : ℕ → QuadRow) (p c : ℕ) → Sum (sum_at rows c) → p ≤ 65537 → (Below (sum_at rows c) p × (cursor_at rows p c ≡ suc c)) ⊎ (AtMost p (sum_at rows c) × (cursor_at rows p c ≡ c))
unfolding cursor_at
cursor_goes rows p c S h = go (ltb (num x) (p * den x)) (lt_whole x p S h) (ltb→lt (num x) (p * den x)) (nltb→le (num x) (p * den x))
  where
    x : Float
    x = sum_at rows c

    go : (b : Bool) → lt x (whole32 p) ≡ b → (T b → Below x p) → (T (not b) → AtMost p x)
        → (Below x p × (cond (lt x (whole32 p)) (c + 1) c ≡ suc c)) ⊎ (AtMost p x × (cond (lt x (whole32 p)) (c + 1) c ≡ c))
    go true e f g = inl (f tt, ap (λ (b : Bool). cond b (c + 1) c) e ∙ add-one c)
    go false e f g = inr (g tt, ap (λ (b : Bool). cond b (c + 1) c) e)

-- it goes on by one at most
cursor_step : (rows : ℕ → QuadRow) (p c : ℕ) → cursor_at rows p c ≤ suc c
unfolding cursor_at
cursor_step rows p c = go (lt (sum_at rows c) (whole32 p))
  where
    go : (b : Bool) → cond b (c + 1) c ≤ suc c
    go true = le_of_eq (add-one c)
    go false = le_of_lt (le_refl (suc c))

-- ---- 3e's half: up to the last quad l, whose sum no step of the spline reaches
module _ (rows : ℕ → QuadRow) (l m : ℕ) (S : Sum (sum_at rows l)) (U : Up (sum_at rows l) m) where
  small : (p : ℕ) → p < m → p ≤ 65537
  small p h = le_trans (le_of_lt h) (le_trans (up_limit (sum_at rows l) m S U) (lit≤ tt))

  pub cursor_under : (p c : ℕ) → c ≤ l → p < m → cursor_at rows p c ≤ l
  cursor_under p c h k = elim (eq-or-lt_of_le h) [
    | inl e ↦ subst (λ (x : ℕ). cursor_at rows p x ≤ l) (sym e) (at_last (cursor_goes rows p l S (small p k)))
    | inr g ↦ le_trans (cursor_step rows p c) g
  ]
    where
      at_last : (Below (sum_at rows l) p × (cursor_at rows p l ≡ suc l)) ⊎ (AtMost p (sum_at rows l) × (cursor_at rows p l ≡ l)) → cursor_at rows p l ≤ l
      at_last (inl z) = absurd (lt_irrefl (num (sum_at rows l)) (lt_of_lt_of_le z.0 (le_of_lt (up_below (sum_at rows l) m p U k))))
      at_last (inr z) = le_of_eq z.1

  pub cursor_from_under : (n p c : ℕ) → c ≤ l → p + n ≤ m → cursor_from rows n p c ≤ l
  unfolding cursor_from
  cursor_from_under zero p c h k = h
  cursor_from_under (suc n) p c h k = cursor_from_under n (p + 1) (cursor_at rows p c) (cursor_under p c h (first p n m k)) (rest p n m k)
    where
      first : (p n m : ℕ) → p + suc n ≤ m → p < m
      first p n m k = omega arith

      rest : (p n m : ℕ) → p + suc n ≤ m → p + 1 + n ≤ m
      rest p n m k = omega arith

  pub steps_under : (size : Float) (n p c : ℕ) → c ≤ l → p + n ≤ m → All (λ (i : Item). i.quad ≤ l) (steps_from rows size n p c)
  unfolding steps_from
  steps_under size zero p c h k = tt
  steps_under size (suc n) p c h k =
      let g = cursor_under p c h (first p n m k) in
      (g, steps_under size n (p + 1) (cursor_at rows p c) g (rest p n m k))
    where
      first : (p n m : ℕ) → p + suc n ≤ m → p < m
      first p n m k = omega arith

      rest : (p n m : ℕ) → p + suc n ≤ m → p + 1 + n ≤ m
      rest p n m k = omega arith

-- ---- 3f's half: the quads from lo to l of one spline
module _ (rows : ℕ → QuadRow) (total : Float) (lo l j m : ℕ) (R : Span rows total lo (suc l) j) (inside : lo ≤ l) (S : Sum (sum_at rows l)) (U : Up (sum_at rows l) m) where
  sum_of : (i : ℕ) → lo ≤ i → i ≤ l → Sum (sum_at rows i)
  sum_of i h k = R.sums i h (le-suc i l k)
    where
      le-suc : (i l : ℕ) → i ≤ l → i < suc l
      le-suc i l h = omega arith

  reach : (i : ℕ) → lo ≤ i → i < l → Reaches (sum_at rows i) (sum_at rows (suc i))
  reach i h k = grows_reaches (sum_at rows i) (sum_at rows (suc i)) (R.grows i h (le-suc i l k))
    where
      le-suc : (i l : ℕ) → i < l → suc i < suc l
      le-suc i l h = omega arith

  -- step p falls on quad i: p is at most its sum, and above the one before
  pub record Falls (p i : ℕ) : Type 0 where
    pub low : lo ≤ i
    pub high : i ≤ l
    pub upto : AtMost p (sum_at rows i)
    pub above : (b : ℕ) → suc b ≡ i → lo ≤ b → Below (sum_at rows b) p

  weaker : (p : ℕ) (x : Float) → AtMost (suc p) x → AtMost p x
  weaker p x h = le_trans (less (p * den x) (den x) (suc p * den x) (suc-mul p (den x))) h
    where
      less : (a d b : ℕ) → b ≡ a + d → a ≤ b
      less a d b e = omega arith

  -- a whole number at most a sum is at most the later ones
  carry : (p i d : ℕ) → lo ≤ i → i + d ≤ l → AtMost p (sum_at rows i) → AtMost p (sum_at rows (i + d))
  carry p i zero h k a = subst (λ (x : ℕ). AtMost p (sum_at rows x)) (sym (add-zero i)) a
  carry p i (suc d) h k a =
      subst (λ (x : ℕ). AtMost p (sum_at rows x)) (shift i d)
      (carry p (suc i) d (le_trans h (le-suc i)) (le_trans (le_of_eq (shift i d)) k) (weaker p (sum_at rows (suc i)) (reach i h (below i d l k) p a)))
    where
      below : (i d l : ℕ) → i + suc d ≤ l → i < l
      below i d l k = omega arith

  not_less : (p i i' : ℕ) → Falls p i → Falls p i' → i < i' → ⊥
  not_less p i i' F G h =
      lt_irrefl (num (sum_at rows (i' - 1)))
      (lt_of_lt_of_le (G.above (i' - 1) (back i i' h) (le_trans F.low (last i i' h)))
      (subst (λ (x : ℕ). AtMost p (sum_at rows x)) (join i i' h) (carry p i (i' - 1 - i) F.low (le_trans (le_of_eq (join i i' h)) (le_trans (sub-le i' 1) G.high)) F.upto)))
    where
      back : (i i' : ℕ) → i < i' → suc (i' - 1) ≡ i'
      back i i' h = omega arith

      last : (i i' : ℕ) → i < i' → i ≤ i' - 1
      last i i' h = omega arith

      join : (i i' : ℕ) → i < i' → i + (i' - 1 - i) ≡ i' - 1
      join i i' h = omega arith

  -- a step falls on one quad only
  pub falls_once : (p i i' : ℕ) → Falls p i → Falls p i' → i ≡ i'
  falls_once p i i' F G = equal i i' (not_less p i i' F G) (not_less p i' i G F)
    where
      equal : (i i' : ℕ) → (i < i' → ⊥) → (i' < i → ⊥) → i ≡ i'
      equal i i' h k = omega arith

  -- ---- the cursor is where the step falls
  under_limit : (p : ℕ) → p < m → p ≤ 65537
  under_limit p h = le_trans (le_of_lt h) (le_trans (up_limit (sum_at rows l) m S U) (lit≤ tt))

  clash : (x : Float) (p : ℕ) → Below x p → AtMost p x → ⊥
  clash x p h k = lt_irrefl (num x) (lt_of_lt_of_le h k)

  pub first_falls : Falls 1 (cursor_at rows 1 lo)
  first_falls = go (cursor_goes rows 1 lo (sum_of lo (le_refl lo) inside) (lit≤ tt))
    where
      over : AtMost 1 (sum_at rows lo)
      over = le_trans (le_of_eq (one-mul (den (sum_at rows lo)))) (le_of_lt (sum_of lo (le_refl lo) inside).over)

      no : (b lo : ℕ) → suc b ≡ lo → lo ≤ b → ⊥
      no b lo e h = omega arith

      go : (Below (sum_at rows lo) 1 × (cursor_at rows 1 lo ≡ suc lo)) ⊎ (AtMost 1 (sum_at rows lo) × (cursor_at rows 1 lo ≡ lo)) → Falls 1 (cursor_at rows 1 lo)
      go (inl z) = absurd (clash (sum_at rows lo) 1 z.0 over)
      go (inr z) = subst (Falls 1) (sym z.1) (record { low = le_refl lo; high = inside; upto = over; above = λ b e h. absurd (no b lo e h) })

  next_falls : (p i : ℕ) → Falls p i → suc p < m → Falls (suc p) (cursor_at rows (suc p) i)
  next_falls p i F k = go (cursor_goes rows (suc p) i (sum_of i F.low F.high) (under_limit (suc p) k))
    where
      go : (Below (sum_at rows i) (suc p) × (cursor_at rows (suc p) i ≡ suc i)) ⊎ (AtMost (suc p) (sum_at rows i) × (cursor_at rows (suc p) i ≡ i)) → Falls (suc p) (cursor_at rows (suc p) i)
      go (inr z) =
          subst (Falls (suc p)) (sym z.1)
          (record { low = F.low; high = F.high; upto = z.0; above = λ b e h. lt_of_lt_of_le (F.above b e h) (mul-le-mul_right (den (sum_at rows b)) (le-suc p)) })
      go (inl z) = elim (eq-or-lt_of_le F.high) [
        | inl e ↦ absurd (clash (sum_at rows l) (suc p) (subst (λ (x : ℕ). Below (sum_at rows x) (suc p)) e z.0) (le_of_lt (up_below (sum_at rows l) m (suc p) U k)))
        | inr g ↦
            subst (Falls (suc p)) (sym z.1)
            (record {
              low = le_trans F.low (le_of_lt (le_refl (suc i)));
              high = g;
              upto = reach i F.low g p F.upto;
              above = λ b e h. subst (λ (x : ℕ). Below (sum_at rows x) (suc p)) (sym (suc_inj e)) z.0;
            })
      ]

  -- ---- n steps from step p on, at a cursor from which p falls
  ready_next : (n p c : ℕ) → (0 < suc n → Falls p (cursor_at rows p c)) → p + suc n ≤ m → 0 < n → Falls (p + 1) (cursor_at rows (p + 1) (cursor_at rows p c))
  ready_next n p c F k h = subst (λ (x : ℕ). Falls x (cursor_at rows x (cursor_at rows p c))) (sym (add-one p)) (next_falls p (cursor_at rows p c) (F (zero-lt-suc n)) (more p n m k h))
    where
      more : (p n m : ℕ) → p + suc n ≤ m → 0 < n → suc p < m
      more p n m k h = omega arith

  shifted : (p n m : ℕ) → p + suc n ≤ m → p + 1 + n ≤ m
  shifted p n m k = omega arith

  pub record StepAt (size : Float) (steps : List Item) (p : ℕ) : Type 0 where
    pub quad : ℕ
    pub falls : Falls p quad
    pub member : Memᴰ (item (Incr size) p quad) steps

  pub step_at : (size : Float) (n p c : ℕ) → (0 < n → Falls p (cursor_at rows p c)) → p + n ≤ m → (x : ℕ) → p ≤ x → x < p + n → StepAt size (steps_from rows size n p c) x
  unfolding steps_from
  step_at size zero p c F k x h g = absurd (no p x h g)
    where
      no : (p x : ℕ) → p ≤ x → x < p + 0 → ⊥
      no p x h g = omega arith
  step_at size (suc n) p c F k x h g = elim (eq-or-lt_of_le h) [
    | inl e ↦ subst (StepAt size (steps_from rows size (suc n) p c)) e (record { quad = cursor_at rows p c; falls = F (zero-lt-suc n); member = Memᴰ.head refl })
    | inr u ↦
        let z = step_at size n (p + 1) (cursor_at rows p c) (ready_next n p c F k) (shifted p n m k) x (le_trans (le_of_eq (add-one p)) u) (lt_of_lt_of_le g (le_of_eq (sym (shift_one p n)))) in
        record { quad = z.quad; falls = z.falls; member = Memᴰ.tail z.member }
  ]

  -- each of them falls on its quad
  pub steps_fall : (size : Float) (n p c : ℕ) → (0 < n → Falls p (cursor_at rows p c)) → p + n ≤ m
      → All (λ (i : Item). Falls i.step i.quad × (i.step < m)) (steps_from rows size n p c)
  unfolding steps_from
  steps_fall size zero p c F k = tt
  steps_fall size (suc n) p c F k = ((F (zero-lt-suc n), first p n m k), steps_fall size n (p + 1) (cursor_at rows p c) (ready_next n p c F k) (shifted p n m k))
    where
      first : (p n m : ℕ) → p + suc n ≤ m → p < m
      first p n m k = omega arith

  cursor_falls : (n p c : ℕ) → (0 < suc n → Falls p (cursor_at rows p c)) → p + suc n ≤ m → Falls (p + n) (cursor_from rows (suc n) p c)
  unfolding cursor_from
  cursor_falls zero p c F k = subst (λ (x : ℕ). Falls x (cursor_at rows p c)) (sym (add-zero p)) (F (zero-lt-suc 0))
  cursor_falls (suc n) p c F k =
      subst (λ (x : ℕ). Falls x (cursor_from rows (suc n) (p + 1) (cursor_at rows p c))) (shift_one p n)
      (cursor_falls n (p + 1) (cursor_at rows p c) (λ h. ready_next (suc n) p c F k h) (shifted p (suc n) m k))

  -- ---- a quad that some step of the spline falls on
  pub record Reached (i : ℕ) : Type 0 where
    pub step : ℕ
    pub least : 1 ≤ step
    pub most : step < m
    pub falls : Falls step i

  -- the first quad: step 1
  pub reached_first : Reached lo
  reached_first =
      record {
        step = 1;
        least = le_refl 1;
        most = up_two (sum_at rows l) m S U;
        falls =
            record {
              low = le_refl lo;
              high = inside;
              upto = le_trans (le_of_eq (one-mul (den (sum_at rows lo)))) (le_of_lt (sum_of lo (le_refl lo) inside).over);
              above = λ b e g. absurd (no b lo e g);
            };
      }
    where
      no : (b lo : ℕ) → suc b ≡ lo → lo ≤ b → ⊥
      no b lo e h = omega arith

  -- before the last quad: the next whole number above the sum before it, which is below the spline's sum
  reached_inner : (b : ℕ) → lo ≤ b → suc b < l → Reached (suc b)
  reached_inner b h k =
      let x = sum_at rows b in
      let p = suc (num x / den x) in
      let u : AtMost p (sum_at rows (suc b)) = reach b h (le_of_lt k) (num x / den x) (div-mul-le_self (num x) (den x)) in
      let t : AtMost (suc p) (sum_at rows l) =
      subst (λ (y : ℕ). AtMost (suc p) (sum_at rows y)) (join b l k)
      (carry (suc p) (suc (suc b)) (l - suc (suc b)) (le_trans h (two b)) (le_of_eq (join b l k)) (reach (suc b) (le_trans h (le-suc b)) k p u)) in
      record {
        step = p;
        least = zero-lt-suc (num x / den x);
        most = below_up (sum_at rows l) m p U (strict (sum_at rows l) p t);
        falls =
            record {
              low = le_trans h (le-suc b);
              high = le_of_lt k;
              upto = u;
              above = λ c e g. subst (λ (y : ℕ). Below (sum_at rows y) p) (sym (suc_inj e)) ((div-lt_iff_lt-mul (den_pos x)).0 (le_refl p));
            };
      }
    where
      two : (b : ℕ) → b ≤ suc (suc b)
      two b = omega arith

      join : (b l : ℕ) → suc b < l → suc (suc b) + (l - suc (suc b)) ≡ l
      join b l h = omega arith

      strict : (x : Float) (p : ℕ) → AtMost (suc p) x → p * den x < num x
      strict x p h = less (p * den x) (den x) (suc p * den x) (num x) (den_pos x) (suc-mul p (den x)) h
        where
          less : (a d b n : ℕ) → 0 < d → b ≡ a + d → b ≤ n → a < n
          less a d b n D e h = omega arith

  -- the last of two or more: a whole number strictly between its sum and the one before
  pub reached_last : (b : ℕ) → lo ≤ b → suc b ≡ l → (p : ℕ) × Below (sum_at rows b) p × (p * den (sum_at rows l) < num (sum_at rows l)) → Reached l
  reached_last b h e z =
      record {
        step = z.0;
        least = some z.0 (den (sum_at rows b)) (num (sum_at rows b)) z.1;
        most = below_up (sum_at rows l) m z.0 U z.2;
        falls = record { low = inside; high = le_refl l; upto = le_of_lt z.2; above = λ c f g. subst (λ (y : ℕ). Below (sum_at rows y) z.0) (same b c l e f) z.1 };
      }
    where
      same : (b c l : ℕ) → suc b ≡ l → suc c ≡ l → b ≡ c
      same b c l e f = omega arith

      some : (p d n : ℕ) → n < p * d → 1 ≤ p
      some zero d n h = absurd (not-suc-le-zero (lt_of_lt_of_le h (le_of_eq (zero-mul d))))
      some (suc p) d n h = zero-lt-suc p

  -- so each quad but the last of two or more is reached
  pub reached_early : (i : ℕ) → lo ≤ i → i < l → Reached i
  reached_early i h k = elim (eq-or-lt_of_le h) [
    | inl e ↦ subst Reached e reached_first
    | inr g ↦ subst Reached (back lo i g) (reached_inner (i - 1) (under lo i g) (lt_of_le_of_lt (le_of_eq (back lo i g)) k))
  ]
    where
      back : (lo i : ℕ) → lo < i → suc (i - 1) ≡ i
      back lo i h = omega arith

      under : (lo i : ℕ) → lo < i → lo ≤ i - 1
      under lo i h = omega arith

  -- ---- where a whole number lies strictly between the last two sums, some step falls on each quad, and the last one on the last
  module _ (spread : (b : ℕ) → suc b ≡ l → lo ≤ b → (p : ℕ) × Below (sum_at rows b) p × (p * den (sum_at rows l) < num (sum_at rows l))) where
    last_falls : Falls (m - 1) l
    last_falls =
        record {
          low = inside;
          high = le_refl l;
          upto = le_of_lt (up_below (sum_at rows l) m (m - 1) U (pred m (up_two (sum_at rows l) m S U)));
          above = λ b e h.
              let z = spread b e h in
              lt_of_lt_of_le z.1 (mul-le-mul_right (den (sum_at rows b)) (under z.0 m (below_up (sum_at rows l) m z.0 U z.2)));
        }
      where
        pred : (m : ℕ) → 2 ≤ m → m - 1 < m
        pred m h = omega arith

        under : (p m : ℕ) → p < m → p ≤ m - 1
        under p m h = omega arith

    pub cursor_ends : cursor_from rows (m - 1) 1 lo ≡ l
    cursor_ends =
        let h = up_two (sum_at rows l) m S U in
        falls_once (m - 1) (cursor_from rows (m - 1) 1 lo) l
        (subst₂ (λ (x y : ℕ). Falls x (cursor_from rows y 1 lo)) (one m h) (two m h) (cursor_falls (m - 2) 1 lo (λ k. first_falls) (le_of_eq (three m h))))
        last_falls
      where
        one : (m : ℕ) → 2 ≤ m → 1 + (m - 2) ≡ m - 1
        one m h = omega arith

        two : (m : ℕ) → 2 ≤ m → suc (m - 2) ≡ m - 1
        two m h = omega arith

        three : (m : ℕ) → 2 ≤ m → 1 + suc (m - 2) ≡ m
        three m h = omega arith

    pub reached : (i : ℕ) → lo ≤ i → i ≤ l → Reached i
    reached i h k = elim (eq-or-lt_of_le k) [
      | inl e ↦ subst Reached (sym e) (at_last (eq-or-lt_of_le inside))
      | inr g ↦ reached_early i h g
    ]
      where
        back : (lo l : ℕ) → lo < l → suc (l - 1) ≡ l
        back lo l h = omega arith

        under : (lo l : ℕ) → lo < l → lo ≤ l - 1
        under lo l h = omega arith

        at_last : (lo ≡ l) ⊎ (lo < l) → Reached l
        at_last (inl e) = subst Reached e reached_first
        at_last (inr g) = reached_last (l - 1) (under lo l g) (back lo l g) (spread (l - 1) (back lo l g) (under lo l g))
