-- A coordinate in range times a weight in range lies within ±4,194,304, which is 65,536 · 64: rounding keeps order. Assumes nothing.
use Prim.Native.Nat.{ℕ, zero, suc, ◌+◌, ◌*◌, ◌^◌, ◌≤◌, ◌<◌}
use native.Mathlib.Omega.{arith}
use native.Mathlib.Nat.{le_trans, le_of_eq, eq-or-lt_of_le, mul-one, mul-le-mul, mul-pos, mul_assoc, mul_left_comm}
use mathlib.Core.Logic.{inl, inr}
use mathlib.Core.Path.{◌≡◌, refl, sym, ap, ◌∙◌, subst}
use mathlib.Core.Bool.{Bool, true, false, ◌&&◌, ◌||◌, cond, false≢true}
use lib.Dec.{T, ltb, eqb}
use lib.IntN.{ℤ, pos}
use lib.Pow.{pow_pos}
use lib.Ieee.{Float, nan, inf, fin, Format, binary32, low, emax, prec, up, down, units, odd, round, mul, le, of_bits, unlike}
use lib.Ieee.Fits.{down_pos, round_is}
use lib.Ieee.Order.{round_mono}
use borrow.Author.Tests.{ltb-true, eqb-true, lt-ltb, eq-eqb}
use mathlib.Mathlib.Data.Bool.Basic.{and_elim_left, and_elim_right, and_intro, or_inr}
use lib.Ieee.Bits.{is_true}
use Rattle.leaves.specs.Single.{◌⊗◌, f32, one32, zero32}
use Rattle.store.specs.Drawing.{coordinate_ok_of, weight_ok_of}
use Rattle.store.specs.Drawable.{stored_ok_of}

-- ---- from -2^k to 2^k, and the magnitude m·2^e of a number in it
unfoldable inside : ℕ → Float → Bool
inside k v = le (fin true 1 (pos k)) v && le v (fin false 1 (pos k))

coordinate_inside : (v : Float) → coordinate_ok_of v ≡ inside 16 v
unfolding coordinate_ok_of inside of_bits
coordinate_inside v = refl

stored_inside : (v : Float) → stored_ok_of v ≡ inside 22 v
unfolding stored_ok_of inside of_bits
stored_inside v = refl

-- the test by which `le` compares two positive numbers: less, or equal
test_le : (a b : ℕ) (x : Bool) → (ltb a b || (eqb a b && x)) ≡ true → a ≤ b
test_le a b x e = go (ltb a b) refl e
  where
    go : (t : Bool) → ltb a b ≡ t → (t || (eqb a b && x)) ≡ true → a ≤ b
    go true p q = let l = ltb-true a b p in omega arith
    go false p q = let l = eqb-true a b (and_elim_left (eqb a b) x q) in omega arith

le_test : (a b : ℕ) → a ≤ b → (ltb a b || (eqb a b && true)) ≡ true
le_test a b h = elim (eq-or-lt_of_le h) [ inl p ↦ or_inr (ltb a b) _ (and_intro (eq-eqb a b p) refl) | inr q ↦ rw (lt-ltb a b q) ]

-- the test by which `le` compares two negative ones
test_ge : (a b : ℕ) (x : Bool) → (ltb b a || (eqb a b && x)) ≡ true → b ≤ a
test_ge a b x e = go (ltb b a) refl e
  where
    go : (t : Bool) → ltb b a ≡ t → (t || (eqb a b && x)) ≡ true → b ≤ a
    go true p q = let l = ltb-true b a p in omega arith
    go false p q = let l = eqb-true a b (and_elim_left (eqb a b) x q) in omega arith

ge_test : (a b : ℕ) → b ≤ a → (ltb b a || (eqb a b && true)) ≡ true
ge_test a b h = elim (eq-or-lt_of_le h) [ inl p ↦ or_inr (ltb b a) _ (and_intro (eq-eqb a b (sym p)) refl) | inr q ↦ rw (lt-ltb b a q) ]

magnitude : (k : ℕ) (s : Bool) (m : ℕ) (e : ℤ) → inside k (fin s m e) ≡ true → m * up e * 1 ≤ 1 * 2 ^ k * down e
unfolding inside le
magnitude k false m e h = test_le (m * up e * 1) (1 * 2 ^ k * down e) true (and_elim_right (le (fin true 1 (pos k)) (fin false m e)) (le (fin false m e) (fin false 1 (pos k))) h)
magnitude k true m e h = test_ge (1 * 2 ^ k * down e) (m * up e * 1) true (and_elim_left (le (fin true 1 (pos k)) (fin true m e)) (le (fin true m e) (fin false 1 (pos k))) h)

bound_pos : (k : ℕ) (e : ℤ) → 0 < 1 * 2 ^ k * down e
bound_pos k e = mul-pos (mul-pos (omega arith) (pow_pos k)) (down_pos e)

of_magnitude : (k : ℕ) (s : Bool) (m : ℕ) (e : ℤ) → m * up e * 1 ≤ 1 * 2 ^ k * down e → inside k (fin s m e) ≡ true
unfolding inside le
of_magnitude k false m e h =
    let a = m * up e * 1 in
    let b = 1 * 2 ^ k * down e in
    let p = bound_pos k e in
    rw (lt-ltb 0 (b + a) (omega arith), le_test a b h)
of_magnitude k true m e h =
    let a = m * up e * 1 in
    let b = 1 * 2 ^ k * down e in
    let p = bound_pos k e in
    rw (lt-ltb 0 (a + b) (omega arith), ge_test b a h)

nothing : {A : Type 0} → false ≡ true → A
nothing e = absurd (false≢true e)

-- ---- a coordinate as it is given
wider : (a d : ℕ) → a ≤ 65536 * d → a ≤ 4194304 * d
wider a d h = omega arith

inside_wider : (v : Float) → inside 16 v ≡ true → inside 22 v ≡ true
unfolding inside le
inside_wider nan e = nothing e
inside_wider (inf true) e = nothing e
inside_wider (inf false) e = nothing e
inside_wider (fin s m e) h = of_magnitude 22 s m e (wider (m * up e * 1) (down e) (magnitude 16 s m e h))

pub coordinate_stored : (v : Float) → coordinate_ok_of v ≡ true → stored_ok_of v ≡ true
coordinate_stored v e = stored_inside v ∙ inside_wider v (sym (coordinate_inside v) ∙ e)

-- ---- the sign does not matter to what is rounded
unfoldable with_sign : Bool → Float → Float
with_sign s nan = nan
with_sign s (inf t) = inf s
with_sign s (fin t m e) = fin s m e

odd_signed : (d : ℕ) (s : Bool) (q k l : ℕ) → odd d s q k l ≡ with_sign s (odd d false q k l)
unfolding odd with_sign
odd_signed d s zero k l = refl
odd_signed d s (suc q) k l = refl

units_signed : (f : Format) (s : Bool) (q k : ℕ) → units f s q k ≡ with_sign s (units f false q k)
unfolding units with_sign
units_signed f s q k = go (ltb (q * 2 ^ k) (2 ^ (low f + suc (emax f))))
  where
    go : (b : Bool) → cond b (odd (suc (prec f)) s q k (low f)) (inf s) ≡ with_sign s (cond b (odd (suc (prec f)) false q k (low f)) (inf false))
    go true = odd_signed (suc (prec f)) s q k (low f)
    go false = refl

round_signed : (f : Format) (s : Bool) (a b : ℕ) → round f s a b ≡ with_sign s (round f false a b)
round_signed f s a b = round_is f s a b ∙ units_signed f s _ _ ∙ ap (with_sign s) (sym (round_is f false a b))

bound_rounds : round binary32 false 4194304 1 ≡ fin false 1 (pos 22)
unfolding round
bound_rounds = refl

below_bound : (s : Bool) (x : Float) → T (le (with_sign false x) (fin false 1 (pos 22))) → inside 22 (with_sign s x) ≡ true
unfolding with_sign inside le
below_bound s nan t = absurd t
below_bound s (inf u) t = absurd t
below_bound s (fin u m e) t = of_magnitude 22 s m e (test_le (m * up e * 1) (1 * 2 ^ 22 * down e) true (is_true _ t))

round_inside : (s : Bool) (n d : ℕ) → 0 < d → n ≤ 4194304 * d → inside 22 (round binary32 s n d) ≡ true
round_inside s n d h l =
    let t = round_mono binary32 n d 4194304 1 h (omega arith) (le_trans (le_of_eq (mul-one n)) l) in
    let u = subst (λ (x : Float). T (le (round binary32 false n d) x)) bound_rounds t in
    let v = subst (λ (x : Float). T (le x (fin false 1 (pos 22)))) (round_signed binary32 false n d) u in
    ap (inside 22) (round_signed binary32 s n d) ∙ below_bound s (round binary32 false n d) v

-- ---- a coordinate times a weight
product_le : (a b c d : ℕ) → a * 1 ≤ 65536 * b → c * 1 ≤ 64 * d → a * c ≤ 4194304 * (b * d)
product_le a b c d h k =
    let p : a ≤ 65536 * b = omega arith in
    let q : c ≤ 64 * d = omega arith in
    le_trans (mul-le-mul p q) (le_of_eq (regroup 65536 64 4194304 b d refl))
  where
    regroup : (x y z b d : ℕ) → x * y ≡ z → x * b * (y * d) ≡ z * (b * d)
    regroup x y z b d e = rw (← e) (simp (mul_assoc, mul_left_comm))

module _ (s : Bool) (m : ℕ) (e : ℤ) (h : inside 16 (fin s m e) ≡ true) where
  product_inside : (w : Float) → weight_ok_of w ≡ true → inside 22 (fin s m e ⊗ w) ≡ true
  unfolding weight_ok_of le of_bits mul
  product_inside nan k = nothing k
  product_inside (inf true) k = nothing k
  product_inside (inf false) k = nothing k
  product_inside (fin true n d) k =
      let z = and_elim_left _ _ k in
      let p = down_pos d in
      let q = eqb-true (1 * 1 * down d) 0 (and_elim_right (eqb (1 * 1 * down d) (n * up d * 64)) _ z) in
      absurd (omega arith)
  product_inside (fin false n d) k =
      let l = test_le (n * up d * 1) (1 * 64 * down d) true (and_elim_right (le (f32 0x3c80_0000) (fin false n d)) _ k) in
      round_inside (unlike s false) (m * up e * (n * up d)) (down e * down d) (mul-pos (down_pos e) (down_pos d))
      (product_le (m * up e) (down e) (n * up d) (down d) (magnitude 16 s m e h) l)

inside_product : (v w : Float) → inside 16 v ≡ true → weight_ok_of w ≡ true → inside 22 (v ⊗ w) ≡ true
unfolding inside le
inside_product nan w h k = nothing h
inside_product (inf true) w h k = nothing h
inside_product (inf false) w h k = nothing h
inside_product (fin s m e) w h k = product_inside s m e h w k

pub product_stored : (v w : Float) → coordinate_ok_of v ≡ true → weight_ok_of w ≡ true → stored_ok_of (v ⊗ w) ≡ true
product_stored v w h k = stored_inside (v ⊗ w) ∙ inside_product v w (sym (coordinate_inside v) ∙ h) k

-- ---- a plain point's weight, and the origin
pub one_ok : weight_ok_of one32 ≡ true
unfolding weight_ok_of le of_bits
one_ok = refl

pub zero_stored : stored_ok_of zero32 ≡ true
unfolding stored_ok_of le of_bits
zero_stored = refl
