-- Decimal digits: one digit below ten, otherwise those of the tenth and the last one; at most twenty, and at most k below 10 ^ k. Assumes nothing.
use mathlib.Core.Path.{◌≡◌, refl, sym, ap, ◌∙◌}
use mathlib.Core.Bool.{Bool, true, false}
use mathlib.Core.List.{List, [], ◌∷◌, ◌++◌}
use Prim.Native.Nat.{ℕ, zero, suc, ◌+◌, ◌*◌, ◌/◌, ◌%◌, ◌^◌, ◌≤◌, ◌<◌}
use native.Mathlib.Nat.{mod-eq_of_lt, pow-suc, pow-le-pow_right}
use native.Mathlib.Omega.{arith}
use borrow.Author.Tests.{lt-ltb, le-ltb, ltb-true, ltb-false}
use lib.Dec.{ltb}
use lib.ListN.{length, length-append}
use Rattle.text.specs.Decimal.{decimal_in, decimal_of}

abbrev digits : ℕ → ℕ → List ℕ
digits k n = decimal_in k (ltb n 10) n

few : (k n : ℕ) → n < 10 → digits k n ≡ (0x30 + n) ∷ []
unfolding decimal_in
few zero n h = rw (mod-eq_of_lt h)
few (suc k) n h = rw (lt-ltb n 10 h, mod-eq_of_lt h)

more : (k n : ℕ) → 10 ≤ n → digits (suc k) n ≡ digits k (n / 10) ++ ((0x30 + n % 10) ∷ [])
unfolding decimal_in
more k n h = rw (le-ltb n 10 h)

tenth : (k n : ℕ) → n < 10 ^ suc (suc k) → n / 10 < 10 ^ suc k
tenth k n h =
    let e : 10 ^ suc (suc k) ≡ 10 ^ suc k * 10 = pow-suc 10 (suc k) in
    omega arith

-- if the digits are enough, allowing one more changes nothing
enough : (k n : ℕ) (b : Bool) → ltb n 10 ≡ b → n < 10 ^ suc k → digits k n ≡ digits (suc k) n
enough zero n b e h = let t : n < 10 = h in few 0 n t ∙ sym (few 1 n t)
enough (suc k) n true e h = few (suc k) n (ltb-true n 10 e) ∙ sym (few (suc (suc k)) n (ltb-true n 10 e))
enough (suc k) n false e h =
    more k n (ltb-false n 10 e)
    ∙ ap (λ (l : List ℕ). l ++ ((0x30 + n % 10) ∷ [])) (enough k (n / 10) (ltb (n / 10) 10) refl (tenth k n h))
    ∙ sym (more (suc k) n (ltb-false n 10 e))

pub one_digit : (n : ℕ) → n < 10 → decimal_of n ≡ (0x30 + n) ∷ []
unfolding decimal_of
one_digit n h = few 19 n h

pub more_digits : (n : ℕ) → 10 ≤ n → n < 2 ^ 64 → decimal_of n ≡ decimal_of (n / 10) ++ ((0x30 + n % 10) ∷ [])
unfolding decimal_of
more_digits n h fits =
    more 18 n h ∙ ap (λ (l : List ℕ). l ++ ((0x30 + n % 10) ∷ [])) (enough 18 (n / 10) (ltb (n / 10) 10) refl (omega arith))

length_last : (l : List ℕ) (d : ℕ) → length (l ++ (d ∷ [])) ≡ length l + 1
length_last l d = length-append l (d ∷ [])

pub more-length : (n : ℕ) → 10 ≤ n → n < 2 ^ 64 → length (decimal_of n) ≡ length (decimal_of (n / 10)) + 1
more-length n h fits = ap length (more_digits n h fits) ∙ length_last (decimal_of (n / 10)) (0x30 + n % 10)

short : (k n : ℕ) (b : Bool) → (1 ≤ length (decimal_in k b n)) × (length (decimal_in k b n) ≤ k + 1)
unfolding decimal_in
short zero n b = omega arith
short (suc k) n true = omega arith
short (suc k) n false =
    let e = length_last (decimal_in k (ltb (n / 10) 10) (n / 10)) (0x30 + n % 10) in
    let below = short k (n / 10) (ltb (n / 10) 10) in
    omega arith

pub decimal_short : (n : ℕ) → (1 ≤ length (decimal_of n)) × (length (decimal_of n) ≤ 20)
unfolding decimal_of
decimal_short n = short 19 n (ltb n 10)

-- below a power of ten, whatever is allowed
within : (j k n : ℕ) (b : Bool) → ltb n 10 ≡ b → n < 10 ^ suc k → length (digits j n) ≤ suc k
within zero k n b e h = omega (arith, short zero n (ltb n 10))
within (suc j) zero n b e h = let t : n < 10 = h in let one : length (digits (suc j) n) ≡ 1 = ap length (few (suc j) n t) in omega arith
within (suc j) (suc k) n true e h = let one : length (digits (suc j) n) ≡ 1 = ap length (few (suc j) n (ltb-true n 10 e)) in omega arith
within (suc j) (suc k) n false e h =
    let last : length (digits (suc j) n) ≡ length (digits j (n / 10)) + 1 =
    ap length (more j n (ltb-false n 10 e)) ∙ length_last (digits j (n / 10)) (0x30 + n % 10) in
    omega (arith, within j k (n / 10) (ltb (n / 10) 10) refl (tenth k n h))

pub decimal_within : (k n : ℕ) → n < 10 ^ suc k → length (decimal_of n) ≤ suc k
unfolding decimal_of
decimal_within k n h = within 19 k n (ltb n 10) refl h

-- between two powers of ten
pub decimal_between : (k n : ℕ) → n < 2 ^ 64 → 10 ^ k ≤ n → n < 10 * 10 ^ k → length (decimal_of n) ≡ k + 1
decimal_between zero n f l h = ap length (one_digit n (omega arith))
decimal_between (suc k) n f l h =
    let e : 10 ^ suc k ≡ 10 ^ k * 10 = pow-suc 10 k in
    let p : 10 ^ 0 ≤ 10 ^ k = pow-le-pow_right (let z : 0 < 10 = omega arith in z) (let z : 0 ≤ k = omega arith in z) in
    let t : 10 ≤ n = omega arith in
    more-length n t f ∙ omega (arith, decimal_between k (n / 10) (omega arith) (omega arith) (omega arith))
