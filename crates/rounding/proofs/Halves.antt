-- Laws of `halve`: rounding a fraction sees its number of halves, their parity, and whether anything lies above them. Assumes nothing.
use mathlib.Core.Path.{◌≡◌, refl, sym, ap, ap₂, ◌∙◌, subst}
use Prim.Native.Nat.{ℕ, zero, suc, ◌+◌, ◌-◌, ◌*◌, ◌/◌, ◌%◌, ◌≤◌, ◌<◌, compare, Ordering}
use native.Mathlib.Nat.{div-add-mod', mod-lt, mul_assoc, add-mul, suc-mul, one-mul, suc-ne-zero, zero-lt-suc, le_of_eq, le_of_lt, le-suc, le_refl, add-zero}
use native.Mathlib.Omega.{arith}
use mathlib.Core.Bool.{not}
use lib.Dec.{T, is_le, compare_is_eq, eqb, leb→le, nleb→lt, eqb→eq, eqb_refl}
use lib.Arith.{lt_of_le-ne, digits_div, digits_mod}
use lib.Ieee.{nearest}
use lib.Ieee.Nearest.{closest}
use Rattle.facts.proofs.Numbers.{no_digit}
use Rattle.rounding.specs.Halves.{tip, halve}

abbrev pub Cmp : Ordering → ℕ → ℕ → Type 0
Cmp Ordering.lt a b = a < b
Cmp Ordering.eq a b = a ≡ b
Cmp Ordering.gt a b = b < a

pub cmp : (a b : ℕ) → Cmp (compare a b) a b
cmp a b = go (compare a b) (leb→le a b) (nleb→lt a b) (eqb→eq a b) (λ (e : a ≡ b). subst (λ (x : ℕ). T (eqb a x)) e (eqb_refl a))
  where
    go : (o : Ordering) → (T (is_le o) → a ≤ b) → (T (not (is_le o)) → b < a) → (T (compare_is_eq o) → a ≡ b) → (a ≡ b → T (compare_is_eq o)) → Cmp o a b
    go Ordering.lt h k e n = lt_of_le-ne (h tt) n
    go Ordering.eq h k e n = e tt
    go Ordering.gt h k e n = k tt

even_mod : (a : ℕ) → 2 * a % 2 ≡ 0
even_mod a = omega arith

even_div : (a : ℕ) → 2 * a / 2 ≡ a
even_div a = omega arith

odd_mod : (a : ℕ) → (2 * a + 1) % 2 ≡ 1
odd_mod a = omega arith

odd_div : (a : ℕ) → (2 * a + 1) / 2 ≡ a
odd_div a = omega arith

pub halve_even : (a r : ℕ) → halve (2 * a) r ≡ a
unfolding halve
halve_even a r = ap₂ (λ (b q : ℕ). tip b r q) (even_mod a) (even_div a)

pub halve_tie : (a : ℕ) → halve (2 * a + 1) 0 ≡ a + a % 2
unfolding halve
halve_tie a = ap₂ (λ (b q : ℕ). tip b 0 q) (odd_mod a) (odd_div a)

pub halve_over : (a r : ℕ) → 0 < r → halve (2 * a + 1) r ≡ suc a
unfolding halve
halve_over a zero h = absurd (no h)
  where
    no : 0 < 0 → ⊥
    no h = omega arith
halve_over a (suc r) h = ap₂ (λ (b q : ℕ). tip b (suc r) q) (odd_mod a) (odd_div a)

-- n / u has h whole halves and r more
parted : (n u h r : ℕ) → n * 2 ≡ h * u + r → r < u → halve (n * 2 / u) (n * 2 % u) ≡ halve h r
parted n u h r e l =
    ap₂ (λ (x y : ℕ). halve x y) (ap (λ (x : ℕ). x / u) e ∙ digits_div h l) (ap (λ (x : ℕ). x % u) e ∙ digits_mod h l)

twice : (n a u r p : ℕ) → a * u + r ≡ n → p ≡ 2 * (a * u) → n * 2 ≡ p + r * 2
twice n a u r p e f = omega arith

over : (n a u r p : ℕ) → a * u + r ≡ n → p ≡ 2 * (a * u) + u → u ≤ r * 2 → n * 2 ≡ p + (r * 2 - u)
over n a u r p e f h = omega arith

two_more : (a u : ℕ) → (2 * a + 1) * u ≡ 2 * (a * u) + u
two_more a u = simp (add-mul, mul_assoc, one-mul)

short : (r u : ℕ) → r < u → r * 2 - u < u
short r u h = omega arith

left : (r u : ℕ) → u < r * 2 → 0 < r * 2 - u
left r u h = omega arith

none : (r u : ℕ) → r * 2 ≡ u → r * 2 - u ≡ 0
none r u h = omega arith

pub closest_halves : (n u : ℕ) → 0 < u → closest n u ≡ halve (n * 2 / u) (n * 2 % u)
closest_halves n u U = go (compare (n % u * 2) u) (cmp (n % u * 2) u)
  where
    go : (o : Ordering) → Cmp o (n % u * 2) u → nearest (n / u) o ≡ halve (n * 2 / u) (n * 2 % u)
    go Ordering.lt h =
        sym (parted n u (2 * (n / u)) (n % u * 2) (twice n (n / u) u (n % u) (2 * (n / u) * u) (div-add-mod' n u) (mul_assoc 2 (n / u) u)) h
        ∙ halve_even (n / u) (n % u * 2))
    go Ordering.eq h =
        sym (parted n u (2 * (n / u) + 1) (n % u * 2 - u)
        (over n (n / u) u (n % u) ((2 * (n / u) + 1) * u) (div-add-mod' n u) (two_more (n / u) u) (le_of_eq (sym h))) (short (n % u) u (mod-lt n U))
        ∙ ap (λ (x : ℕ). halve (2 * (n / u) + 1) x) (none (n % u) u h)
        ∙ halve_tie (n / u))
    go Ordering.gt h =
        sym (parted n u (2 * (n / u) + 1) (n % u * 2 - u)
        (over n (n / u) u (n % u) ((2 * (n / u) + 1) * u) (div-add-mod' n u) (two_more (n / u) u) (le_of_lt h)) (short (n % u) u (mod-lt n U))
        ∙ halve_over (n / u) (n % u * 2 - u) (left (n % u) u h))

-- r counts only by whether it is 0
pub halve_sticky : (h r t : ℕ) → (r ≡ 0 → t ≡ 0) → (t ≡ 0 → r ≡ 0) → halve h r ≡ halve h t
unfolding halve
halve_sticky h zero zero f g = refl
halve_sticky h zero (suc t) f g = absurd (suc-ne-zero t (f refl))
halve_sticky h (suc r) zero f g = absurd (suc-ne-zero r (g refl))
halve_sticky h (suc r) (suc t) f g = go (h % 2)
  where
    go : (b : ℕ) → tip b (suc r) (h / 2) ≡ tip b (suc t) (h / 2)
    go zero = refl
    go (suc b) = refl

pub halve_le : (h r : ℕ) → halve h r ≤ suc (h / 2)
unfolding halve
halve_le h r = go (h % 2) r (h / 2)
  where
    tie : (q : ℕ) → q + q % 2 ≤ suc q
    tie q = omega arith

    go : (b r q : ℕ) → tip b r q ≤ suc q
    go zero r q = le-suc q
    go (suc b) zero q = tie q
    go (suc b) (suc r) q = le_refl (suc q)

pub halve_ge : (h r : ℕ) → h / 2 ≤ halve h r
unfolding halve
halve_ge h r = go (h % 2) r (h / 2)
  where
    tie : (q : ℕ) → q ≤ q + q % 2
    tie q = omega arith

    go : (b r q : ℕ) → q ≤ tip b r q
    go zero r q = le_refl q
    go (suc b) zero q = tie q
    go (suc b) (suc r) q = le-suc q

-- ---- rounding by one addition: D less one is added, and one more if the whole part is odd, so that a half goes to the even number
module _ (w D : ℕ) (P : 0 < D) where
  h : ℕ
  h = w / D

  a : ℕ
  a = w / D / 2

  N : ℕ
  N = w + (D - 1) + a % 2

  at : (b r : ℕ) → N ≡ b * (D * 2) + r → r < D * 2 → N / (D * 2) ≡ b
  at b r e l = ap (λ (x : ℕ). x / (D * 2)) e ∙ digits_div b l

  last_lt : a % 2 < 2
  last_lt = mod-lt a (zero-lt-suc 1)

  whole : h * D + w % D ≡ w
  unfolding h
  whole = div-add-mod' w D

  even : h ≡ 2 * a → N / (D * 2) ≡ halve h (w % D)
  unfolding N
  even e =
      at a (w % D + (D - 1) + a % 2)
      (split w (h * D) (w % D) (a * D) (a * (D * 2)) D (a % 2) whole (ap (λ (x : ℕ). x * D) e ∙ mul_assoc 2 a D) (sym (mul_assoc a D 2)))
      (fits (w % D) D (a % 2) (mod-lt w P) last_lt)
      ∙ sym (ap (λ (x : ℕ). halve x (w % D)) e ∙ halve_even a (w % D))
    where
      split : (w hD r p q D u : ℕ) → hD + r ≡ w → hD ≡ 2 * p → q ≡ p * 2 → w + (D - 1) + u ≡ q + (r + (D - 1) + u)
      split w hD r p q D u e f g = omega arith

      fits : (r D u : ℕ) → r < D → u < 2 → r + (D - 1) + u < D * 2
      fits r D u k l = omega arith

  odd : h ≡ 2 * a + 1 → (r : ℕ) → w % D ≡ r → N / (D * 2) ≡ halve h r
  unfolding N
  odd e zero z = tie (a % 2) refl last_lt ∙ sym (ap (λ (x : ℕ). halve x 0) e ∙ halve_tie a)
    where
      same : (w hD r p q D u : ℕ) → hD + r ≡ w → r ≡ 0 → hD ≡ 2 * p + D → q ≡ p * 2 → u ≡ 0 → w + (D - 1) + u ≡ q + (D + (D - 1))
      same w hD r p q D u e f g k l = omega arith

      next : (w hD r p q D u : ℕ) → hD + r ≡ w → r ≡ 0 → hD ≡ 2 * p + D → q ≡ p * 2 + D * 2 → u ≡ 1 → 0 < D → w + (D - 1) + u ≡ q + 0
      next w hD r p q D u e f g k l P = omega arith

      under : (D : ℕ) → 0 < D → D + (D - 1) < D * 2
      under D P = omega arith

      none : (D : ℕ) → 0 < D → 0 < D * 2
      none D P = omega arith

      plus : (c b : ℕ) → b ≡ 0 → c ≡ c + b
      plus c b e = omega arith

      one : (c b : ℕ) → b ≡ 1 → suc c ≡ c + b
      one c b e = omega arith

      tie : (b : ℕ) → a % 2 ≡ b → b < 2 → N / (D * 2) ≡ a + a % 2
      tie zero k l =
          at a (D + (D - 1)) (same w (h * D) (w % D) (a * D) (a * (D * 2)) D (a % 2) whole z (ap (λ (x : ℕ). x * D) e ∙ two_more a D)
          (sym (mul_assoc a D 2)) k) (under D P)
          ∙ plus a (a % 2) k
      tie (suc zero) k l =
          at (suc a) 0 (next w (h * D) (w % D) (a * D) (suc a * (D * 2)) D (a % 2) whole z (ap (λ (x : ℕ). x * D) e ∙ two_more a D)
          (suc-mul a (D * 2) ∙ ap (λ (x : ℕ). x + D * 2) (sym (mul_assoc a D 2))) k P) (none D P)
          ∙ one a (a % 2) k
      tie (suc (suc b)) k l = absurd (no_digit b l)
  odd e (suc r) z =
      at (suc a) (r + a % 2) (over_half w (h * D) (w % D) r (a * D) (suc a * (D * 2)) D (a % 2) whole z (ap (λ (x : ℕ). x * D) e ∙ two_more a D)
      (suc-mul a (D * 2) ∙ ap (λ (x : ℕ). x + D * 2) (sym (mul_assoc a D 2))) P)
      (fits r (w % D) D (a % 2) z (mod-lt w P) last_lt)
      ∙ sym (ap (λ (x : ℕ). halve x (suc r)) e ∙ halve_over a (suc r) (zero-lt-suc r))
    where
      over_half : (w hD m r p q D u : ℕ) → hD + m ≡ w → m ≡ suc r → hD ≡ 2 * p + D → q ≡ p * 2 + D * 2 → 0 < D → w + (D - 1) + u ≡ q + (r + u)
      over_half w hD m r p q D u e f g k P = omega arith

      fits : (r m D u : ℕ) → m ≡ suc r → m < D → u < 2 → r + u < D * 2
      fits r m D u e k l = omega arith

  pub halve_adds : (w + (D - 1) + w / D / 2 % 2) / (D * 2) ≡ halve (w / D) (w % D)
  unfolding N a h
  halve_adds = by_last (h % 2) refl (mod-lt h (zero-lt-suc 1))
    where
      halves : (h b : ℕ) → h % 2 ≡ b → h ≡ 2 * (h / 2) + b
      halves h b e = omega arith

      by_last : (b : ℕ) → h % 2 ≡ b → b < 2 → N / (D * 2) ≡ halve h (w % D)
      by_last zero e l = even (halves h 0 e ∙ add-zero (2 * a))
      by_last (suc zero) e l = odd (halves h 1 e) (w % D) refl
      by_last (suc (suc b)) e l = absurd (no_digit b l)
