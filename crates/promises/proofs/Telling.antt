-- A test tells a fault if it fails exactly when the fault is there. Laws for numbers, floats, lists and tests joined by "and"; and a ladder of tests, of which
-- the first that fails gives the answer. Assumes nothing.
use Prim.Native.Nat.{ℕ, ◌+◌, ◌*◌, ◌≤◌, ◌<◌}
use mathlib.Core.Path.{◌≡◌, refl, sym, ◌∙◌, subst}
use mathlib.Core.Logic.{◌⊎◌, inl, inr, ◌≢◌, ◌↔◌}
use mathlib.Core.Bool.{Bool, true, false, not, ◌&&◌, ◌||◌, true≢false}
use mathlib.Core.List.Memᴰ
use mathlib.Core.List.{List, [], ◌∷◌, Memᴰ}
use native.Mathlib.Omega.{arith}
use lib.Dec.{T, leb, ltb, eqb, nleb→lt, ltb→lt, lt→ltb, nltb→le, eqb→eq, T_not}
use lib.Arith.{lt→nleb, le→nltb}
use lib.IntN.{ℤ}
use lib.Ieee.{Float, nan, inf, fin, up, down, below, level, lt, le}
use lib.Ieee.Bits.{is_false}
use lib.Ieee.Fits.{eq→eqb}
use lib.Ieee.Scale.{finite}
use Rattle.store.specs.Drawing.{every}
use Rattle.promises.specs.DrawingAnswers.{Outside}

abbrev pub Tells : Bool → Type 0 → Type 0
Tells b X = (b ≡ false → X) × (X → b ≡ false)

pub tells_as : (b : Bool) (X Y : Type 0) → (X → Y) → (Y → X) → Tells b X → Tells b Y
tells_as b X Y f g t = (λ e. f (t.0 e), λ y. t.1 (g y))

-- if the test holds there is no fault
pub passes : (b : Bool) (X : Type 0) → Tells b X → b ≡ true → X → ⊥
passes b X t e x = true≢false (sym e ∙ t.1 x)

pub tells_and : (a b : Bool) (X Y : Type 0) → Tells a X → Tells b Y → Tells (a && b) (X ⊎ Y)
tells_and true b X Y s t = (λ e. inr (t.0 e), λ h. elim h [ inl x ↦ absurd (true≢false (s.1 x)) | inr y ↦ t.1 y ])
tells_and false b X Y s t = (λ e. inl (s.0 refl), λ h. refl)

-- ---- numbers
is_false_of : (b : Bool) → b ≡ false → T (not b)
is_false_of b e = subst (λ (x : Bool). T (not x)) (sym e) tt

pub tells_leb : (a b : ℕ) → Tells (leb a b) (b < a)
tells_leb a b = (λ e. nleb→lt a b (is_false_of (leb a b) e), λ h. is_false (leb a b) (lt→nleb a b h))

pub tells_ltb : (a b : ℕ) → Tells (ltb a b) (b ≤ a)
tells_ltb a b = (λ e. nltb→le a b (is_false_of (ltb a b) e), λ h. is_false (ltb a b) (le→nltb a b h))

pub tells_eqb : (a b : ℕ) → Tells (eqb a b) (a ≢ b)
tells_eqb a b = (λ e p. T_not (eqb a b) (is_false_of (eqb a b) e) (eq→eqb p), λ h. go (eqb a b) (eqb→eq a b) h)
  where
    go : (t : Bool) → (T t → a ≡ b) → a ≢ b → t ≡ false
    go true f h = absurd (h (f tt))
    go false f h = refl

-- ---- floats: le x y fails exactly if y is NaN or less than x, for an x that is a number
test_of : (t u : Bool) → (t ≡ false → T u) → (T u → t ≡ false) → Tells t (T u)
test_of t u f g = (f, g)

swap_le : (a b : ℕ) → Tells (ltb a b || (eqb a b && true)) (T (ltb b a))
swap_le a b = go (ltb a b) (eqb a b) (ltb→lt a b) (nltb→le a b) (eqb→eq a b) (λ h. eq→eqb h)
  where
    apart : a < b → b < a → ⊥
    apart h k = omega arith

    apart' : a ≡ b → b < a → ⊥
    apart' h k = omega arith

    strict : b ≤ a → a ≢ b → b < a
    strict h k = omega arith

    go : (l e : Bool) → (T l → a < b) → (T (not l) → b ≤ a) → (T e → a ≡ b) → (a ≡ b → T e) → Tells (l || (e && true)) (T (ltb b a))
    go true e f g h k = (λ z. absurd (true≢false z), λ t. absurd (apart (f tt) (ltb→lt b a t)))
    go false true f g h k = (λ z. absurd (true≢false z), λ t. absurd (apart' (h tt) (ltb→lt b a t)))
    go false false f g h k = (λ z. lt→ltb b a (strict (g tt) (λ e. k e)), λ t. refl)

module _ (a b : ℕ) where
  -- a positive left against a negative right: at most it only if both are 0
  plus_minus : Tells (false || (eqb a b && (false || eqb a 0))) (T (ltb 0 (b + a)))
  plus_minus = go (eqb a b) (eqb a 0) (eqb→eq a b) (eqb→eq a 0) (λ h. eq→eqb h) (λ h. eq→eqb h)
    where
      none : a ≡ b → a ≡ 0 → 0 < b + a → ⊥
      none e z h = omega arith

      some : a ≢ b → 0 < b + a
      some h = omega arith

      some' : a ≢ 0 → 0 < b + a
      some' h = omega arith

      go : (e z : Bool) → (T e → a ≡ b) → (T z → a ≡ 0) → (a ≡ b → T e) → (a ≡ 0 → T z) → Tells (false || (e && (false || z))) (T (ltb 0 (b + a)))
      go true true f g h k = (λ y. absurd (true≢false y), λ t. absurd (none (f tt) (g tt) (ltb→lt 0 (b + a) t)))
      go true false f g h k = (λ y. lt→ltb 0 (b + a) (some' (λ e. k e)), λ t. refl)
      go false z f g h k = (λ y. lt→ltb 0 (b + a) (some (λ e. h e)), λ t. refl)

  -- a negative left against a positive right: always at most it
  minus_plus : Tells (ltb 0 (a + b) || (eqb a b && (false || eqb a 0))) ⊥
  minus_plus = go (ltb 0 (a + b)) (eqb a b) (eqb a 0) (nltb→le 0 (a + b)) (λ h. eq→eqb h) (λ h. eq→eqb h)
    where
      zero_a : a + b ≤ 0 → a ≡ 0
      zero_a h = omega arith

      same : a + b ≤ 0 → a ≡ b
      same h = omega arith

      go : (l e z : Bool) → (T (not l) → a + b ≤ 0) → (a ≡ b → T e) → (a ≡ 0 → T z) → Tells (l || (e && (false || z))) ⊥
      go true e z f g h = (λ y. true≢false y, λ t. absurd t)
      go false true true f g h = (λ y. true≢false y, λ t. absurd t)
      go false true false f g h = (λ y. absurd (h (zero_a (f tt))), λ t. absurd t)
      go false false z f g h = (λ y. absurd (g (same (f tt))), λ t. absurd t)

  minus_minus : Tells (ltb b a || (eqb a b && true)) (T (ltb a b))
  minus_minus = tells_sym (swap_le b a)
    where
      same : eqb b a ≡ eqb a b
      same = go (eqb b a) (eqb a b) (eqb→eq b a) (eqb→eq a b) (λ h. eq→eqb h) (λ h. eq→eqb h)
        where
          go : (x y : Bool) → (T x → b ≡ a) → (T y → a ≡ b) → (b ≡ a → T x) → (a ≡ b → T y) → x ≡ y
          go true true f g h k = refl
          go false false f g h k = refl
          go true false f g h k = absurd (k (sym (f tt)))
          go false true f g h k = absurd (h (sym (g tt)))

      tells_sym : Tells (ltb b a || (eqb b a && true)) (T (ltb a b)) → Tells (ltb b a || (eqb a b && true)) (T (ltb a b))
      tells_sym t = subst (λ (e : Bool). Tells (ltb b a || (e && true)) (T (ltb a b))) same t

fractions : (s t : Bool) (a b : ℕ) → Tells (below s a t b || level s a t b) (T (below t b s a))
fractions false false a b = swap_le a b
fractions false true a b = plus_minus a b
fractions true false a b = minus_plus a b
fractions true true a b = minus_minus a b

not_nan_fin : (s : Bool) (m : ℕ) (e : ℤ) → fin s m e ≡ nan → ⊥
not_nan_fin s m e p = subst (λ (x : Float). T (finite x)) p tt

infinite : Float → Bool
infinite nan = false
infinite (inf s) = true
infinite (fin s m e) = false

not_nan_inf : (s : Bool) → inf s ≡ nan → ⊥
unfolding infinite
not_nan_inf s p = subst (λ (x : Float). T (infinite x)) p tt

-- against a number on the left, and on the right
pub tells_above : (x y : Float) → T (finite x) → Tells (le x y) ((y ≡ nan) ⊎ T (lt y x))
unfolding le
tells_above nan y h = absurd h
tells_above (inf s) y h = absurd h
tells_above (fin s m e) nan h = (λ z. inl refl, λ z. refl)
tells_above (fin s m e) (inf true) h = (λ z. inr tt, λ z. refl)
tells_above (fin s m e) (inf false) h = (λ z. absurd (true≢false z), λ z. elim z [ inl p ↦ absurd (not_nan_inf false p) | inr p ↦ absurd p ])
tells_above (fin s m e) (fin t n d) h =
    tells_as _ _ _ (λ z. inr z) (λ z. elim z [ inl p ↦ absurd (not_nan_fin t n d p) | inr p ↦ p ]) (fractions s t (m * up e * down d) (n * up d * down e))

pub tells_under : (x y : Float) → T (finite y) → Tells (le x y) ((x ≡ nan) ⊎ T (lt y x))
unfolding le
tells_under x nan h = absurd h
tells_under x (inf s) h = absurd h
tells_under nan (fin s m e) h = (λ z. inl refl, λ z. refl)
tells_under (inf true) (fin s m e) h = (λ z. absurd (true≢false z), λ z. elim z [ inl p ↦ absurd (not_nan_inf true p) | inr p ↦ absurd p ])
tells_under (inf false) (fin s m e) h = (λ z. inr tt, λ z. refl)
tells_under (fin t n d) (fin s m e) h =
    tells_as _ _ _ (λ z. inr z) (λ z. elim z [ inl p ↦ absurd (not_nan_fin t n d p) | inr p ↦ p ]) (fractions t s (n * up d * down e) (m * up e * down d))

pub tells_outside : (lo hi v : Float) → T (finite lo) → T (finite hi) → Tells (le lo v && le v hi) (Outside lo hi v)
tells_outside lo hi v l h = tells_as (le lo v && le v hi) _ _ to from (tells_and (le lo v) (le v hi) _ _ (tells_above lo v l) (tells_under v hi h))
  where
    to : ((v ≡ nan) ⊎ T (lt v lo)) ⊎ ((v ≡ nan) ⊎ T (lt hi v)) → Outside lo hi v
    to (inl (inl e)) = inl e
    to (inl (inr t)) = inr (inl t)
    to (inr (inl e)) = inl e
    to (inr (inr t)) = inr (inr t)

    from : Outside lo hi v → ((v ≡ nan) ⊎ T (lt v lo)) ⊎ ((v ≡ nan) ⊎ T (lt hi v))
    from (inl e) = inl (inl e)
    from (inr (inl t)) = inl (inr t)
    from (inr (inr t)) = inr (inr t)

-- ---- lists
pub record Some (bad : Float → Type 0) (l : List Float) : Type 0 where
  pub v : Float
  pub member : Memᴰ v l
  pub fault : bad v

pub tells_every : (ok : Float → Bool) (bad : Float → Type 0) → ((v : Float) → Tells (ok v) (bad v)) → (l : List Float) → Tells (every ok l) (Some bad l)
unfolding every
tells_every ok bad t [] = (λ e. absurd (true≢false e), λ s. absurd (none s.member))
  where
    none : {v : Float} → Memᴰ v [] → ⊥
    none m = elim m [ ]
tells_every ok bad t (x ∷ l) = tells_as (ok x && every ok l) (bad x ⊎ Some bad l) (Some bad (x ∷ l)) to from (tells_and (ok x) (every ok l) (bad x) (Some bad l) (t x) (tells_every ok bad t l))
  where
    to : bad x ⊎ Some bad l → Some bad (x ∷ l)
    to (inl b) = record { v = x; member = Memᴰ.head refl; fault = b }
    to (inr s) = record { v = s.v; member = Memᴰ.tail s.member; fault = s.fault }

    from : Some bad (x ∷ l) → bad x ⊎ Some bad l
    from s = elim (Memᴰ.cases_cons s.member) [ inl e ↦ inl (subst bad e s.fault) | inr m ↦ inr (record { v = s.v; member = m; fault = s.fault }) ]

-- ---- equivalences
pub both_hold : {X Y : Type 0} → X → Y → X ↔ Y
both_hold x y = (λ z. y, λ z. x)

pub neither : {X Y : Type 0} → (X → ⊥) → (Y → ⊥) → X ↔ Y
neither f g = (λ z. absurd (f z), λ z. absurd (g z))
