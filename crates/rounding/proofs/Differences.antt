-- Values that are not negative, by fractions that they equal: how they compare, and their difference, which is rounded once. Assumes nothing.
use mathlib.Core.Path.{◌≡◌, sym, ap, ap₂, ◌∙◌}
use mathlib.Core.Bool.{Bool, true, false, ◌&&◌, ◌||◌, true≢false}
use Prim.Native.Nat.{ℕ, ◌-◌, ◌*◌, ◌≤◌, ◌<◌}
use native.Mathlib.Nat.{mul_assoc, mul_comm, mul_left_comm, mul-pos, mul-sub, le_of_lt, le_of_eq}
use native.Mathlib.Nat.{lt_of_mul-lt-mul_right, mul-lt-mul_of_pos_right, lt_of_lt_of_le, lt_of_le_of_lt}
use native.Mathlib.Omega.{arith}
use borrow.Author.Tests.{le-ltb, lt-ltb, le-leb, lt-leb, eq-eqb, ne_eqb}
use lib.Dec.{leb, ltb, eqb}
use lib.Ieee.{Float, nan, inf, fin, Format, up, down, round, add, sub, neg, lt, eq, le}
use lib.Ieee.Exact.{HasValue}
use lib.Ieee.Fits.{down_pos}
use lib.Ieee.Order.{transfer}
use lib.Ieee.Scale.{round_same}
use mathlib.Core.Logic.{inl, inr}
use Rattle.rounding.proofs.Basics.{le_or_lt}
use Rattle.rounding.proofs.Signed.{sum_less}

-- ---- whole numbers
-- x / de is a / c and y / dd is b / c', strictly
transfer_lt : (x y de dd a b c c' : ℕ) → 0 < de → 0 < dd → x * c ≡ a * de → y * c' ≡ b * dd → a * c' < b * c → x * dd < y * de
transfer_lt x y de dd a b c c' E D p q h =
    let l : x * dd * (c * c') ≡ a * c' * (de * dd) =
    simp (mul_assoc, mul_comm, mul_left_comm) (simp (mul_assoc, mul_comm, mul_left_comm) at (ap (λ (z : ℕ). z * (dd * c')) p)) in
    let r : y * de * (c * c') ≡ b * c * (de * dd) =
    simp (mul_assoc, mul_comm, mul_left_comm) (simp (mul_assoc, mul_comm, mul_left_comm) at (ap (λ (z : ℕ). z * (de * c)) q)) in
    lt_of_mul-lt-mul_right (c * c') (lt_of_le_of_lt (le_of_eq l) (lt_of_lt_of_le (mul-lt-mul_of_pos_right h (mul-pos E D)) (le_of_eq (sym r))))

-- ---- comparisons
or_equal : (a b : ℕ) → ltb a b || (eqb a b && true) ≡ leb a b
or_equal a b = elim (le_or_lt a b) [ inl h ↦ up_to h ∙ sym (le-leb a b h) | inr h ↦ over h ∙ sym (lt-leb a b h) ]
  where
    same : (a b : ℕ) → a ≤ b → b ≤ a → a ≡ b
    same a b h k = omega arith

    up_to : a ≤ b → ltb a b || (eqb a b && true) ≡ true
    up_to h =
        elim (le_or_lt b a) [
          | inl k ↦ ap₂ (λ (x y : Bool). x || (y && true)) (le-ltb a b k) (eq-eqb a b (same a b h k))
          | inr k ↦ ap (λ (x : Bool). x || (eqb a b && true)) (lt-ltb a b k)
        ]

    apart : (a b : ℕ) → b < a → a ≡ b → ⊥
    apart a b h k = omega arith

    over : b < a → ltb a b || (eqb a b && true) ≡ false
    over h = ap₂ (λ (x y : Bool). x || (y && true)) (le-ltb a b (le_of_lt h)) (ne_eqb a b (apart a b h))

pub lt_values : (x y : Float) (a c b d : ℕ) → 0 < c → 0 < d → HasValue x false a c → HasValue y false b d → lt x y ≡ ltb (a * d) (b * c)
unfolding lt
lt_values nan y a c b d C D p q = absurd p
lt_values (inf s) y a c b d C D p q = absurd p
lt_values (fin true m e) y a c b d C D p q = absurd (true≢false p.0)
lt_values (fin false m e) nan a c b d C D p q = absurd q
lt_values (fin false m e) (inf t) a c b d C D p q = absurd q
lt_values (fin false m e) (fin true n g) a c b d C D p q = absurd (true≢false q.0)
lt_values (fin false m e) (fin false n g) a c b d C D p q =
    let x = m * up e in
    let y = n * up g in
    elim (le_or_lt (b * c) (a * d)) [
      | inl h ↦ le-ltb (x * down g) (y * down e) (transfer y x (down g) (down e) b a d c D C q.1 p.1 h) ∙ sym (le-ltb (a * d) (b * c) h)
      | inr h ↦
          lt-ltb (x * down g) (y * down e) (transfer_lt x y (down e) (down g) a b c d (down_pos e) (down_pos g) p.1 q.1 h)
          ∙ sym (lt-ltb (a * d) (b * c) h)
    ]

pub le_values : (x y : Float) (a c b d : ℕ) → 0 < c → 0 < d → HasValue x false a c → HasValue y false b d → le x y ≡ leb (a * d) (b * c)
unfolding le lt eq
le_values nan y a c b d C D p q = absurd p
le_values (inf s) y a c b d C D p q = absurd p
le_values (fin true m e) y a c b d C D p q = absurd (true≢false p.0)
le_values (fin false m e) nan a c b d C D p q = absurd q
le_values (fin false m e) (inf t) a c b d C D p q = absurd q
le_values (fin false m e) (fin true n g) a c b d C D p q = absurd (true≢false q.0)
le_values (fin false m e) (fin false n g) a c b d C D p q =
    let x = m * up e in
    let y = n * up g in
    or_equal (x * down g) (y * down e)
    ∙ elim (le_or_lt (a * d) (b * c)) [
      | inl h ↦ le-leb (x * down g) (y * down e) (transfer x y (down e) (down g) a b c d C D p.1 q.1 h) ∙ sym (le-leb (a * d) (b * c) h)
      | inr h ↦
          lt-leb (x * down g) (y * down e) (transfer_lt y x (down g) (down e) b a d c (down_pos g) (down_pos e) q.1 p.1 h)
          ∙ sym (lt-leb (a * d) (b * c) h)
    ]

-- ---- the difference of a greater and a lesser value
pub minus_values : (f : Format) (x y : Float) (a c b d : ℕ) → 0 < c → 0 < d → HasValue x false a c → HasValue y false b d → b * c ≤ a * d
    → sub f x y ≡ round f false (a * d - b * c) (c * d)
unfolding sub add neg
minus_values f nan y a c b d C D p q h = absurd p
minus_values f (inf s) y a c b d C D p q h = absurd p
minus_values f (fin true m e) y a c b d C D p q h = absurd (true≢false p.0)
minus_values f (fin false m e) nan a c b d C D p q h = absurd q
minus_values f (fin false m e) (inf t) a c b d C D p q h = absurd q
minus_values f (fin false m e) (fin true n g) a c b d C D p q h = absurd (true≢false q.0)
minus_values f (fin false m e) (fin false n g) a c b d C D p q h =
    let x = m * up e in
    let y = n * up g in
    let X = x * down g in
    let Y = y * down e in
    let E = down e * down g in
    sum_less f X Y E (transfer y x (down g) (down e) b a d c D C q.1 p.1 h)
    ∙ round_same f false (X - Y) E (a * d - b * c) (c * d) (mul-pos (down_pos e) (down_pos g)) (mul-pos C D)
    (less X Y (c * d) ∙ ap₂ (λ (u v : ℕ). u - v) (first x (down g) c d a (down e) p.1) (second y (down e) c d b (down g) q.1)
    ∙ sym (less (a * d) (b * c) E))
  where
    less : (X Y k : ℕ) → (X - Y) * k ≡ X * k - Y * k
    less X Y k = mul_comm (X - Y) k ∙ mul-sub k X Y ∙ ap₂ (λ (u v : ℕ). u - v) (mul_comm k X) (mul_comm k Y)

    first : (x g c d a e : ℕ) → x * c ≡ a * e → x * g * (c * d) ≡ a * d * (e * g)
    first x g c d a e h = simp (mul_assoc, mul_comm, mul_left_comm) (simp (mul_assoc, mul_comm, mul_left_comm) at (ap (λ (z : ℕ). z * (g * d)) h))

    second : (y e c d b g : ℕ) → y * d ≡ b * g → y * e * (c * d) ≡ b * c * (e * g)
    second y e c d b g h = simp (mul_assoc, mul_comm, mul_left_comm) (simp (mul_assoc, mul_comm, mul_left_comm) at (ap (λ (z : ℕ). z * (e * c)) h))
