-- A float tested against 0 and infinity, as the square root and the sixth root test it: which floats go to which branch. Assumes nothing.
use mathlib.Core.Path.{◌≡◌, refl, sym, ap, ap₂, ◌∙◌, subst}
use mathlib.Core.Logic.{inl, inr}
use mathlib.Core.Bool.{Bool, true, false, not, ◌&&◌, ◌||◌, beq, true≢false, or-true}
use Prim.Native.Nat.{ℕ, zero, suc, ◌*◌, ◌^◌, ◌<◌, zero-le}
use native.Mathlib.Nat.{mul-pos, mul-one, zero-mul, zero-lt-suc, eq-zero-or-pos, lt_of_le_of_lt, ne_of_gt}
use lib.IntN.{ℤ, pos}
use lib.Dec.{T, leb, ltb, eqb, eqb→eq}
use lib.Pow.{pow_pos}
use lib.Ieee.{Float, nan, inf, fin, binary32, up, down, lt, eq, fits, is_nan, to_bits, of_bits}
use lib.Ieee.Fits.{up_pos}
use lib.Ieee.Exact.{HasValue}
use lib.Ieee.Scale.{finite}
use borrow.Author.Tests.{lt-ltb, ltb-true}
use mathlib.Mathlib.Data.Bool.Basic.{and_elim_left}
use lib.Ieee.Positive.{first_pos}
use Rattle.rounding.specs.Parts.{sig, place}
use Rattle.rounding.proofs.Parts.{decode}

abbrev pub plain : Float
plain = fin false 0 (pos 0)

pub zero_is : of_bits binary32 0 ≡ plain
unfolding of_bits
zero_is = refl

pub inf_is : of_bits binary32 2139095040 ≡ inf false
unfolding of_bits
inf_is = refl

pub no : {X : Type 0} → true ≡ false → X
no e = absurd (true≢false e)

pub yes : (b : Bool) → b ≡ true → T b
yes b e = subst (λ (t : Bool). T t) (sym e) tt

pub finite_no_nan : (x : Float) → finite x ≡ true → T (not (is_nan x))
unfolding is_nan
finite_no_nan nan h = no (sym h)
finite_no_nan (inf s) h = no (sym h)
finite_no_nan (fin s m e) h = tt

-- ---- the tests as the code makes them, by patterns
pub above : (x : Float) (b : Bool) → lt (of_bits binary32 0) x ≡ b → lt plain x ≡ b
above x b h = ap (λ (z : Float). lt z x) (sym zero_is) ∙ h

pub under : (x : Float) (b : Bool) → lt x (of_bits binary32 2139095040) ≡ b → lt x (inf false) ≡ b
under x b h = ap (λ (z : Float). lt x z) (sym inf_is) ∙ h

pub level : (x : Float) (b : Bool) → eq x (of_bits binary32 0) ≡ b → eq x plain ≡ b
level x b h = ap (λ (z : Float). eq x z) (sym zero_is) ∙ h

pub held : (x : Float) → fits binary32 x ≡ true → T (fits binary32 x)
held x e = subst T (sym e) tt

-- ---- 0 < x by numerators: false if the digits are 0, true for any others
no_zero : (e : ℤ) → ltb (0 * down e) (0 * up e * 1) ≡ true → ⊥
no_zero e h = ne_of_gt (lt_of_le_of_lt zero-le (ltb-true (0 * down e) (0 * up e * 1) h)) (mul-one (0 * up e) ∙ zero-mul (up e))

pub some : (m : ℕ) (e : ℤ) → 0 < suc m * up e * 1
some m e = subst (λ (x : ℕ). 0 < x) (sym (mul-one (suc m * up e))) (mul-pos (zero-lt-suc m) (up_pos e))

pub above_zero : (m : ℕ) (e : ℤ) → ltb (0 * down e) (suc m * up e * 1) ≡ true
above_zero m e = lt-ltb (0 * down e) (suc m * up e * 1) (subst (λ (x : ℕ). x < suc m * up e * 1) (sym (zero-mul (down e))) (some m e))

-- ---- x > 0
pub finite_above : (x : Float) → lt plain x ≡ true → lt x (inf false) ≡ true → finite x ≡ true
unfolding lt
finite_above nan h k = no (sym h)
finite_above (inf true) h k = no (sym h)
finite_above (inf false) h k = no (sym k)
finite_above (fin s m e) h k = refl

pub above_no_nan : (x : Float) → lt plain x ≡ true → T (not (is_nan x))
unfolding lt is_nan
above_no_nan nan h = no (sym h)
above_no_nan (inf s) h = tt
above_no_nan (fin s m e) h = tt

-- which x it is: a numerator above 0, with no sign
pub positive_is : (x : Float) (s : Bool) (A L : ℕ) → lt plain x ≡ true → HasValue x s A L
    → (m : ℕ) × (e : ℤ) × (x ≡ fin false (suc m) e) × (suc m * up e * L ≡ A * down e)
unfolding lt
positive_is nan s A L h v = absurd v
positive_is (inf t) s A L h v = absurd v
positive_is (fin true m e) s A L h v = no (sym h)
positive_is (fin false zero e) s A L h v = absurd (no_zero e h)
positive_is (fin false (suc m) e) s A L h v = (m, e, refl, v.1)

pos_of : (m : ℕ) (e : ℤ) (A : ℕ) → suc m * up e * 2 ^ 149 ≡ A * down e → 0 < A
pos_of m e A h = elim (eq-zero-or-pos A) [
  | inl z ↦
      absurd (ne_of_gt (subst (λ (x : ℕ). 0 < x) h (mul-pos (mul-pos (zero-lt-suc m) (up_pos e)) (pow_pos 149)))
      (ap (λ (x : ℕ). x * down e) z ∙ zero-mul (down e)))
  | inr p ↦ p
]

pub bits_value : (x : Float) → T (fits binary32 x) → lt plain x ≡ true → lt x (inf false) ≡ true
    → HasValue x (leb 2147483648 (to_bits binary32 x)) (sig binary32 (to_bits binary32 x) * 2 ^ place binary32 (to_bits binary32 x)) (2 ^ 149)
bits_value x F h k = decode binary32 x F (yes (finite x) (finite_above x h k))

pub sig_pos : (x : Float) → T (fits binary32 x) → lt plain x ≡ true → lt x (inf false) ≡ true → 0 < sig binary32 (to_bits binary32 x)
sig_pos x F h k =
    let b = to_bits binary32 x in
    let A = sig binary32 b * 2 ^ place binary32 b in
    let p = positive_is x (leb 2147483648 b) A (2 ^ 149) h (bits_value x F h k) in
    first_pos (sig binary32 b) (2 ^ place binary32 b) (pos_of p.0 p.1 A p.3)

-- ---- the other branches
pub only_infinity : (x : Float) → lt plain x ≡ true → lt x (inf false) ≡ false → x ≡ inf false
unfolding lt
only_infinity nan h k = no (sym h)
only_infinity (inf true) h k = no (sym h)
only_infinity (inf false) h k = refl
only_infinity (fin s m e) h k = no k

pub only_zero : (x : Float) → eq x plain ≡ true → (s : Bool) × (e : ℤ) × (x ≡ fin s zero e)
unfolding eq
only_zero nan h = no (sym h)
only_zero (inf s) h = no (sym h)
only_zero (fin s zero e) h = (s, e, refl)
only_zero (fin s (suc m) e) h =
    let n = suc m * up e * 1 in
    absurd (ne_of_gt (some m e)
    (eqb→eq n (0 * down e) (yes (eqb n (0 * down e)) (and_elim_left (eqb n (0 * down e)) (beq s false || eqb n 0) h)) ∙ zero-mul (down e)))

zero_equal : (s : Bool) (e : ℤ) → (eqb (0 * up e * 1) (0 * down e) && (beq s false || eqb (0 * up e * 1) 0)) ≡ true
zero_equal s e =
    ap₂ (λ (a b : ℕ). eqb a b && (beq s false || eqb a 0)) (mul-one (0 * up e) ∙ zero-mul (up e)) (zero-mul (down e)) ∙ or-true (beq s false)

-- x has no root: a NaN, -infinity or a finite value below 0
data Rootless : Float → Type 0 where
  no_number : Rootless nan
  below_all : Rootless (inf true)
  below_zero : {m : ℕ} {e : ℤ} → Rootless (fin true (suc m) e)

rootless : (x : Float) → lt plain x ≡ false → eq x plain ≡ false → Rootless x
unfolding lt eq
rootless nan h k = no_number
rootless (inf true) h k = below_all
rootless (inf false) h k = no h
rootless (fin s zero e) h k = no (sym (zero_equal s e) ∙ k)
rootless (fin true (suc m) e) h k = below_zero
rootless (fin false (suc m) e) h k = no (sym (above_zero m e) ∙ h)

-- so a function that gives NaN for each of those gives NaN for every x without a root
pub elsewhere : (f : Float → Float) → f nan ≡ nan → f (inf true) ≡ nan → ((m : ℕ) (e : ℤ) → f (fin true (suc m) e) ≡ nan) → (x : Float) → lt plain x ≡ false
    → eq x plain ≡ false → f x ≡ nan
elsewhere f a b c x h k = go (rootless x h k)
  where
    go : {x : Float} → Rootless x → f x ≡ nan
    go no_number = a
    go below_all = b
    go (below_zero {m} {e}) = c m e
