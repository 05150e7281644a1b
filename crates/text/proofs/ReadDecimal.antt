-- What is printed in decimal is read back: its digits, its sign, and where it ends. Assumes nothing.
use mathlib.Core.Path.{◌≡◌, refl, ap, ◌∙◌}
use mathlib.Core.Bool.{Bool, true, false, cond}
use mathlib.Core.List.{List, [], ◌∷◌, ◌++◌}
use Prim.Native.Nat.{ℕ, zero, suc, ◌+◌, ◌-◌, ◌*◌, ◌/◌, ◌%◌, ◌^◌, ◌≤◌, ◌<◌}
use native.Mathlib.Nat.{mod-lt, mod-eq_of_lt, pow-suc, not-suc-le-zero}
use native.Mathlib.Omega.{arith}
use borrow.Author.Tests.{ltb-true, eq-eqb, ne_eqb}
use lib.ListN.{length}
use lib.IntN.{ℤ, pos, negsuc, neg_ℤ}
use lib.Signed.{mag}
use lib.Dec.{eqb, ltb}
use Rattle.facts.specs.Every.{All}
use Rattle.facts.proofs.Every.{all_append}
use Rattle.text.specs.Decimal.{decimal_in, decimal_of}
use Rattle.text.specs.Signed.{signed_of}
use Rattle.text.specs.ReadDecimal.{decimal_number, signed_number, up_to, past}
use Rattle.text.proofs.Decimals.{decimal_short}

-- ---- every byte of a printed number
module _ (P : ℕ → Type 0) (digit : (d : ℕ) → d < 10 → P (0x30 + d)) where
  last : (n : ℕ) → P (0x30 + n % 10)
  last n = digit (n % 10) (mod-lt n (omega arith))

  in_bytes_lem : (k : ℕ) (b : Bool) (n : ℕ) → All P (decimal_in k b n)
  unfolding decimal_in
  in_bytes_lem zero b n = (last n, tt)
  in_bytes_lem (suc k) true n = (last n, tt)
  in_bytes_lem (suc k) false n = all_append P (decimal_in k (ltb (n / 10) 10) (n / 10)) ((0x30 + n % 10) ∷ []) (in_bytes_lem k (ltb (n / 10) 10) (n / 10)) (last n, tt)

  pub decimal_bytes : (n : ℕ) → All P (decimal_of n)
  unfolding decimal_of
  decimal_bytes n = in_bytes_lem 19 (ltb n 10) n

  pub signed_bytes : P 0x2d → (z : ℤ) → All P (signed_of z)
  unfolding signed_of
  signed_bytes minus (pos n) = decimal_bytes n
  signed_bytes minus (negsuc n) = (minus, decimal_bytes (suc n))

-- ---- the number
number_append : (n : ℕ) (s t : List ℕ) → decimal_number n (s ++ t) ≡ decimal_number (decimal_number n s) t
unfolding decimal_number
number_append n [] t = refl
number_append n (b ∷ s) t = number_append (10 * n + (b - 0x30)) s t

number_in : (k n : ℕ) (b : Bool) → ltb n 10 ≡ b → n < 10 ^ suc k → decimal_number 0 (decimal_in k b n) ≡ n
unfolding decimal_number decimal_in
number_in zero n b e h = let t : n < 10 = h in omega (arith, mod-eq_of_lt t)
number_in (suc k) n true e h = omega (arith, mod-eq_of_lt (ltb-true n 10 e))
number_in (suc k) n false e h =
    let p : 10 ^ suc (suc k) ≡ 10 ^ suc k * 10 = pow-suc 10 (suc k) in
    number_append 0 (decimal_in k (ltb (n / 10) 10) (n / 10)) ((0x30 + n % 10) ∷ [])
    ∙ omega (arith, number_in k (n / 10) (ltb (n / 10) 10) refl (omega arith))

pub number_back : (n : ℕ) → n < 2 ^ 64 → decimal_number 0 (decimal_of n) ≡ n
unfolding decimal_of
number_back n h = number_in 19 n (ltb n 10) refl (omega arith)

-- ---- with its sign
-- no digit is the byte b
pub digit_apart : (b : ℕ) → ((d : ℕ) → d < 10 → 0x30 + d ≡ b → ⊥) → (d : ℕ) → d < 10 → eqb (0x30 + d) b ≡ false
digit_apart b h d k = ne_eqb (0x30 + d) b (h d k)

unsigned : (l : List ℕ) → 1 ≤ length l → All (λ (c : ℕ). eqb c 0x2d ≡ false) l → signed_number l ≡ pos (decimal_number 0 l)
unfolding signed_number
unsigned [] h k = absurd (not-suc-le-zero h)
unsigned (b ∷ bs) h k = ap (λ (t : Bool). cond t (neg_ℤ (pos (decimal_number 0 bs))) (pos (decimal_number 0 (b ∷ bs)))) k.0

pub signed_back : (z : ℤ) → mag z < 2 ^ 63 → signed_number (signed_of z) ≡ z
unfolding signed_of signed_number
signed_back (pos n) h =
    unsigned (decimal_of n) (decimal_short n).0 (decimal_bytes (λ (c : ℕ). eqb c 0x2d ≡ false) (digit_apart 0x2d (λ d k e. omega arith)) n)
    ∙ ap pos (number_back n (omega arith))
signed_back (negsuc n) h = ap (λ (m : ℕ). neg_ℤ (pos m)) (number_back (suc n) (omega arith))

-- ---- where it ends
module _ (b : ℕ) where
  found : eqb b b ≡ true
  found = eq-eqb b b refl

  pub up_to_first : (s t : List ℕ) → All (λ (c : ℕ). eqb c b ≡ false) s → up_to b (s ++ (b ∷ t)) ≡ s
  unfolding up_to
  up_to_first [] t h = ap (λ (x : Bool). cond x [] (b ∷ up_to b t)) found
  up_to_first (c ∷ s) t h = ap (λ (x : Bool). cond x [] (c ∷ up_to b (s ++ (b ∷ t)))) h.0 ∙ ap (λ (l : List ℕ). c ∷ l) (up_to_first s t h.1)

  pub past_first : (s t : List ℕ) → All (λ (c : ℕ). eqb c b ≡ false) s → past b (s ++ (b ∷ t)) ≡ t
  unfolding past
  past_first [] t h = ap (λ (x : Bool). cond x t (past b t)) found
  past_first (c ∷ s) t h = ap (λ (x : Bool). cond x (s ++ (b ∷ t)) (past b (s ++ (b ∷ t)))) h.0 ∙ past_first s t h.1
