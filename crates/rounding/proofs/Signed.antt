-- Whole numbers with signs: how far two of them lie apart, and their sum as `sum` has it. Assumes nothing.
use mathlib.Core.Path.{◌≡◌, refl, sym, ap, ap₂, ◌∙◌}
use mathlib.Core.Bool.{Bool, true, false, not, ◌&&◌, beq, cond, true≢false}
use Prim.Native.Nat.{ℕ, zero, suc, ◌+◌, ◌-◌, ◌*◌, ◌≤◌, ◌<◌}
use native.Mathlib.Nat.{add_comm, add-mul, mul-sub, mul_comm, zero-mul, mul-lt-mul_of_pos_right, mul-le-mul_right, not-suc-le-zero, le_of_lt}
use mathlib.Core.Logic.{◌⊎◌, inl, inr}
use native.Mathlib.Omega.{arith}
use lib.Dec.{T, ltb, ltb→lt, nltb→le}
use borrow.Author.Tests.{lt-ltb, le-ltb}
use lib.IntN.{ℤ, pos, negsuc, neg_ℤ, nat_abs, ◌+ℤ◌, ◌-ℤ◌, ◌*ℤ◌, neg_ℤ-neg_ℤ, neg_ℤ-+ℤ, +ℤ_comm}
use lib.Ieee.{Format, round, sum}
use Rattle.rounding.specs.Nearest.{signed}
use Rattle.rounding.specs.Sums.{sum_sign, sum_size}

-- how far a and b lie apart, and the same of ±a and ±b
abbrev pub gap : ℕ → ℕ → ℕ
gap a b = a - b + (b - a)

unfoldable pub apart : Bool → ℕ → Bool → ℕ → ℕ
apart s a t b = cond (beq s t) (gap a b) (a + b)

-- ---- a difference of two naturals
less_is : (a b : ℕ) → a < b → pos a +ℤ neg_ℤ (pos b) ≡ neg_ℤ (pos (b - a))
less_is a zero h = absurd (not-suc-le-zero h)
less_is a (suc b) h =
    ap (λ (t : Bool). cond t (negsuc (suc b - suc a)) (pos (a - suc b))) (lt-ltb a (suc b) h) ∙ ap (λ (n : ℕ). neg_ℤ (pos n)) (one a b h)
  where
    one : (a b : ℕ) → a < suc b → suc (suc b - suc a) ≡ suc b - a
    one a b h = omega arith

more_is : (a b : ℕ) → b ≤ a → pos a +ℤ neg_ℤ (pos b) ≡ pos (a - b)
more_is a zero h = ap pos (none a)
  where
    none : (a : ℕ) → a + 0 ≡ a - 0
    none a = omega arith
more_is a (suc b) h = ap (λ (t : Bool). cond t (negsuc (suc b - suc a)) (pos (a - suc b))) (le-ltb a (suc b) h)

abs_neg : (n : ℕ) → nat_abs (neg_ℤ (pos n)) ≡ n
abs_neg zero = refl
abs_neg (suc n) = refl

by_order : {X : Type 0} (a b : ℕ) → (a < b → X) → (b ≤ a → X) → X
by_order {X} a b h k = go (ltb a b) (ltb→lt a b) (nltb→le a b)
  where
    go : (t : Bool) → (T t → a < b) → (T (not t) → b ≤ a) → X
    go true p q = h (p tt)
    go false p q = k (q tt)

either : (a b : ℕ) → cond (ltb b a) (a - b) (b - a) ≡ cond (ltb a b) (b - a) (a - b)
either a b =
    by_order a b (λ h. ap (λ (x : Bool). cond x (a - b) (b - a)) (le-ltb b a (less h)) ∙ sym (ap (λ (x : Bool). cond x (b - a) (a - b)) (lt-ltb a b h)))
    (λ h. level h ∙ sym (ap (λ (x : Bool). cond x (b - a) (a - b)) (le-ltb a b h)))
  where
    less : a < b → a ≤ b
    less h = omega arith

    same : a ≤ b → b ≤ a → b - a ≡ a - b
    same h k = omega arith

    level : b ≤ a → cond (ltb b a) (a - b) (b - a) ≡ a - b
    level h =
        by_order b a (λ k. ap (λ (x : Bool). cond x (a - b) (b - a)) (lt-ltb b a k))
        (λ k. ap (λ (x : Bool). cond x (a - b) (b - a)) (le-ltb b a k) ∙ same k h)

difference : (a b : ℕ) → nat_abs (pos a +ℤ neg_ℤ (pos b)) ≡ gap a b
difference a b = by_order a b (λ h. ap nat_abs (less_is a b h) ∙ abs_neg (b - a) ∙ below a b h) (λ h. ap nat_abs (more_is a b h) ∙ above a b h)
  where
    below : (a b : ℕ) → a < b → b - a ≡ a - b + (b - a)
    below a b h = omega arith

    above : (a b : ℕ) → b ≤ a → a - b ≡ a - b + (b - a)
    above a b h = omega arith

-- ---- ±a less ±b, times b, and scaled
pub apart_is : (s : Bool) (a : ℕ) (t : Bool) (b : ℕ) → nat_abs (signed s a -ℤ signed t b) ≡ apart s a t b
unfolding apart
apart_is false a false b = difference a b
apart_is false a true b = ap (λ (k : ℤ). nat_abs (pos a +ℤ k)) (neg_ℤ-neg_ℤ (pos b))
apart_is true a false b = ap nat_abs (sym (neg_ℤ-+ℤ (pos a) (pos b))) ∙ abs_neg (a + b)
apart_is true a true b =
    ap (λ (k : ℤ). nat_abs (neg_ℤ (pos a) +ℤ k)) (neg_ℤ-neg_ℤ (pos b)) ∙ ap nat_abs (+ℤ_comm (neg_ℤ (pos a)) (pos b)) ∙ difference b a ∙ add_comm (b - a) (a - b)

pub signed_times : (s : Bool) (a b : ℕ) → signed s a *ℤ pos b ≡ signed s (a * b)
signed_times false a b = refl
signed_times true zero b = ap pos (zero-mul b) ∙ ap (λ (n : ℕ). neg_ℤ (pos n)) (sym (zero-mul b))
signed_times true (suc a) b = refl

pub gap_scale : (a b k : ℕ) → gap (a * k) (b * k) ≡ gap a b * k
gap_scale a b k =
    ap₂ (λ (x y : ℕ). x + y) (take a b) (take b a) ∙ sym (add-mul (a - b) (b - a) k)
  where
    take : (a b : ℕ) → a * k - b * k ≡ (a - b) * k
    take a b = ap₂ (λ (x y : ℕ). x - y) (mul_comm a k) (mul_comm b k) ∙ sym (mul-sub k a b) ∙ mul_comm k (a - b)

pub apart_scale : (s : Bool) (a : ℕ) (t : Bool) (b k : ℕ) → apart s (a * k) t (b * k) ≡ apart s a t b * k
unfolding apart
apart_scale s a t b k = go (beq s t)
  where
    go : (e : Bool) → cond e (gap (a * k) (b * k)) (a * k + b * k) ≡ cond e (gap a b) (a + b) * k
    go true = gap_scale a b k
    go false = sym (add-mul a b k)

-- ---- `sum` rounds the sum: its sign and its size
pub sum_rounds : (f : Format) (s : Bool) (a : ℕ) (t : Bool) (b c : ℕ) → sum f s a t b c ≡ round f (sum_sign s a t b) (sum_size s a t b) c
unfolding sum sum_sign sum_size
sum_rounds f s a t b c = go (beq s t) (ltb a b)
  where
    go : (e l : Bool) → cond e (round f s (a + b) c) (cond l (round f t (b - a) c) (round f (s && ltb b a) (a - b) c)) ≡ round f
        (cond e s (cond l t (s && ltb b a))) (cond e (a + b) (cond l (b - a) (a - b))) c
    go true l = refl
    go false true = refl
    go false false = refl

-- a - b, where b is not greater
pub sum_less : (f : Format) (a b c : ℕ) → b ≤ a → sum f false a true b c ≡ round f false (a - b) c
unfolding sum
sum_less f a b c h = ap (λ (t : Bool). cond t (round f true (b - a) c) (round f false (a - b) c)) (le-ltb a b h)

pub sum_signed : (s : Bool) (a : ℕ) (t : Bool) (b : ℕ) → signed (sum_sign s a t b) (sum_size s a t b) ≡ signed s a +ℤ signed t b
unfolding sum_sign sum_size
sum_signed false a false b = refl
sum_signed true a true b = neg_ℤ-+ℤ (pos a) (pos b)
sum_signed false a true b = by_order a b low high
  where
    low : a < b → signed (cond (ltb a b) true false) (cond (ltb a b) (b - a) (a - b)) ≡ pos a +ℤ neg_ℤ (pos b)
    low h = ap (λ (l : Bool). signed (cond l true false) (cond l (b - a) (a - b))) (lt-ltb a b h) ∙ sym (less_is a b h)

    high : b ≤ a → signed (cond (ltb a b) true false) (cond (ltb a b) (b - a) (a - b)) ≡ pos a +ℤ neg_ℤ (pos b)
    high h = ap (λ (l : Bool). signed (cond l true false) (cond l (b - a) (a - b))) (le-ltb a b h) ∙ sym (more_is a b h)
sum_signed true a false b = by_order a b low high ∙ sym (+ℤ_comm (neg_ℤ (pos a)) (pos b))
  where
    low : a < b → signed (cond (ltb a b) false (ltb b a)) (cond (ltb a b) (b - a) (a - b)) ≡ pos b +ℤ neg_ℤ (pos a)
    low h = ap (λ (l : Bool). signed (cond l false (ltb b a)) (cond l (b - a) (a - b))) (lt-ltb a b h) ∙ sym (more_is b a (less h))
      where
        less : a < b → a ≤ b
        less h = omega arith

    one_way : b < a → signed (ltb b a) (a - b) ≡ pos b +ℤ neg_ℤ (pos a)
    one_way h = ap (λ (l : Bool). signed l (a - b)) (lt-ltb b a h) ∙ sym (less_is b a h)

    level : a ≤ b → b ≤ a → signed (ltb b a) (a - b) ≡ pos b +ℤ neg_ℤ (pos a)
    level h k = ap₂ (λ (l : Bool) (n : ℕ). signed l n) (le-ltb b a h) (same h k) ∙ sym (more_is b a h)
      where
        same : a ≤ b → b ≤ a → a - b ≡ b - a
        same h k = omega arith

    high : b ≤ a → signed (cond (ltb a b) false (ltb b a)) (cond (ltb a b) (b - a) (a - b)) ≡ pos b +ℤ neg_ℤ (pos a)
    high h = ap (λ (l : Bool). signed (cond l false (ltb b a)) (cond l (b - a) (a - b))) (le-ltb a b h) ∙ by_order b a one_way (λ k. level k h)

-- a sum that is exactly zero is -0 only where both are negative
pub zero_sign : (s : Bool) (a : ℕ) (t : Bool) (b : ℕ) → sum_size s a t b ≡ 0 → sum_sign s a t b ≡ s && t
unfolding sum_sign sum_size
zero_sign false a false b h = refl
zero_sign true a true b h = refl
zero_sign false a true b h =
    by_order a b (λ l. absurd (some l (sym (ap (λ (c : Bool). cond c (b - a) (a - b)) (lt-ltb a b l)) ∙ h)))
    (λ l. ap (λ (c : Bool). cond c true false) (le-ltb a b l))
  where
    some : a < b → b - a ≡ 0 → ⊥
    some l e = omega arith
zero_sign true a false b h =
    by_order a b (λ l. ap (λ (c : Bool). cond c false (ltb b a)) (lt-ltb a b l))
    (λ l. ap (λ (c : Bool). cond c false (ltb b a)) (le-ltb a b l) ∙ le-ltb b a (least l (sym (ap (λ (c : Bool). cond c (b - a) (a - b)) (le-ltb a b l)) ∙ h)))
  where
    least : b ≤ a → a - b ≡ 0 → a ≤ b
    least l e = omega arith

-- ---- a common factor w stays outside
module _ (s : Bool) (a : ℕ) (t : Bool) (b w : ℕ) (W : 0 < w) where
  test_scale : (a b : ℕ) → ltb (a * w) (b * w) ≡ ltb a b
  test_scale a b =
      by_order a b (λ h. lt-ltb (a * w) (b * w) (mul-lt-mul_of_pos_right h W) ∙ sym (lt-ltb a b h))
      (λ h. le-ltb (a * w) (b * w) (mul-le-mul_right w h) ∙ sym (le-ltb a b h))

  less_scale : (a b : ℕ) → a * w - b * w ≡ (a - b) * w
  less_scale a b = ap₂ (λ (x y : ℕ). x - y) (mul_comm a w) (mul_comm b w) ∙ sym (mul-sub w a b) ∙ mul_comm w (a - b)

  sign_scale : sum_sign s (a * w) t (b * w) ≡ sum_sign s a t b
  unfolding sum_sign
  sign_scale = ap₂ (λ (l g : Bool). cond (beq s t) s (cond l t (s && g))) (test_scale a b) (test_scale b a)

  size_scale : sum_size s (a * w) t (b * w) ≡ sum_size s a t b * w
  unfolding sum_size
  size_scale =
      ap₂ (λ (x y : ℕ). cond (beq s t) x y) (sym (add-mul a b w))
      (ap₂ (λ (x y : ℕ). cond (ltb (a * w) (b * w)) x y) (less_scale b a) (less_scale a b)
      ∙ ap (λ (l : Bool). cond l ((b - a) * w) ((a - b) * w)) (test_scale a b))
      ∙ outside (beq s t) (ltb a b)
    where
      outside : (e l : Bool) → cond e ((a + b) * w) (cond l ((b - a) * w) ((a - b) * w)) ≡ cond e (a + b) (cond l (b - a) (a - b)) * w
      outside true l = refl
      outside false true = refl
      outside false false = refl

  pub sum_scaled : (f : Format) (c : ℕ) → round f (sum_sign s a t b) (sum_size s a t b * w) c ≡ sum f s (a * w) t (b * w) c
  sum_scaled f c = sym (sum_rounds f s (a * w) t (b * w) c ∙ ap₂ (λ (x : Bool) (y : ℕ). round f x y c) sign_scale size_scale)

-- a - b and b - a have the same size
pub size_swap : (s : Bool) (a : ℕ) (t : Bool) (b : ℕ) → sum_size t b (not s) a ≡ sum_size s a (not t) b
unfolding sum_size
size_swap true a false b = add_comm b a
size_swap false a true b = add_comm b a
size_swap true a true b = either a b
size_swap false a false b = either a b

-- and, where that size is not 0, unlike signs
pub sign_swap : (s : Bool) (a : ℕ) (t : Bool) (b : ℕ) → (a ≡ b → ⊥) ⊎ (s ≡ not t) → sum_sign t b (not s) a ≡ not (sum_sign s a (not t) b)
unfolding sum_sign
sign_swap true a false b h = refl
sign_swap false a true b h = refl
sign_swap true a true b (inl h) =
    by_order a b
    (λ l. ap₂ (λ (x y : Bool). cond x false y) (le-ltb b a (le_of_lt l)) (lt-ltb a b l) ∙ sym (ap (λ (x : Bool). not (cond x false (ltb b a))) (lt-ltb a b l)))
    (λ l. ap (λ (x : Bool). cond x false (ltb a b)) (lt-ltb b a (more a b h l))
    ∙ sym (ap₂ (λ (x y : Bool). not (cond x false y)) (le-ltb a b l) (lt-ltb b a (more a b h l))))
  where
    more : (a b : ℕ) → (a ≡ b → ⊥) → b ≤ a → b < a
    more a b h l = omega (arith, h)
sign_swap true a true b (inr h) = absurd (true≢false h)
sign_swap false a false b (inl h) =
    by_order a b
    (λ l. ap (λ (x : Bool). cond x true false) (le-ltb b a (le_of_lt l)) ∙ sym (ap (λ (x : Bool). not (cond x true false)) (lt-ltb a b l)))
    (λ l. ap (λ (x : Bool). cond x true false) (lt-ltb b a (more a b h l)) ∙ sym (ap (λ (x : Bool). not (cond x true false)) (le-ltb a b l)))
  where
    more : (a b : ℕ) → (a ≡ b → ⊥) → b ≤ a → b < a
    more a b h l = omega (arith, h)
sign_swap false a false b (inr h) = absurd (true≢false (sym h))

-- the size is at most that of both together, and nothing is left of a - a
pub size_le : (s : Bool) (a : ℕ) (t : Bool) (b : ℕ) → sum_size s a t b ≤ a + b
unfolding sum_size
size_le s a t b = go (beq s t) (ltb a b)
  where
    all : a + b ≤ a + b
    all = omega arith

    first : b - a ≤ a + b
    first = omega arith

    second : a - b ≤ a + b
    second = omega arith

    go : (e l : Bool) → cond e (a + b) (cond l (b - a) (a - b)) ≤ a + b
    go true l = all
    go false true = first
    go false false = second

pub size_none : (s : Bool) (a : ℕ) → sum_size s a (not s) a ≡ 0
unfolding sum_size
size_none s a = go s
  where
    less : (l : Bool) → cond l (a - a) (a - a) ≡ 0
    less true = omega arith
    less false = omega arith

    go : (s : Bool) → cond (beq s (not s)) (a + a) (cond (ltb a a) (a - a) (a - a)) ≡ 0
    go true = less (ltb a a)
    go false = less (ltb a a)

pub sum_size_lt : (s : Bool) (a : ℕ) (t : Bool) (b c : ℕ) → a < c → b < c → sum_size s a t b < c + c
sum_size_lt s a t b c h k = both (sum_size s a t b) (size_le s a t b)
  where
    both : (n : ℕ) → n ≤ a + b → n < c + c
    both n l = omega (arith, h, k)
