-- Laws of `sig` and `place`: what a pattern's parts are worth, their bounds, and how code has them by shifts and masks. Assumes nothing.
use mathlib.Core.Path.{◌≡◌, refl, sym, ap, ap₂, ◌∙◌, subst}
use mathlib.Core.Logic.{◌⊎◌, inl, inr}
use Prim.Native.Nat.{ℕ, zero, suc, ◌+◌, ◌-◌, ◌*◌, ◌/◌, ◌%◌, ◌^◌, ◌≤◌, ◌<◌}
use native.Mathlib.Nat.{zero-add, mul_assoc, mul_comm, mul-pos, zero-lt-suc, mod-lt, div-add-mod', div-lt_iff_lt-mul, le-add_right, pow-suc}
use native.Mathlib.Omega.{arith}
use mathlib.Core.Bool.{Bool, true, false, cond}
use lib.Dec.{T, leb, eqb, eqb-suc-zero}
use lib.Pow as Pow
use lib.Pow.{pow_pos}
use lib.Bits.{bit_and, and_mask}
use borrow.Author.Tests.{eq-eqb, ne_eqb}
use lib.Ieee.{Float, nan, inf, Format, prec, emax, low, odd, fits, hid, ones, top, to_bits, of_bits, of_fields}
use lib.Ieee.Fits.{two, two-le_pos}
use lib.Ieee.Bits.{of_bits-to_bits}
use lib.Ieee.Exact.{HasValue, odd_sign}
use lib.Ieee.Scale.{finite}
use Rattle.rounding.proofs.Basics.{top_digit}
use Rattle.rounding.specs.Parts.{field, sig, place}

abbrev lead : Format → ℕ → ℕ
lead f x = cond (eqb x 0) 0 (hid f)

less_one : (x : ℕ) → suc x - 1 ≡ x
less_one x = omega arith

fields_value : (f : Format) (s : Bool) (x t : ℕ) → T (finite (of_fields f s x t)) → HasValue (of_fields f s x t) s ((lead f x + t) * 2 ^ (x - 1)) (2 ^ low f)
unfolding of_fields
fields_value f s zero t h =
    subst (λ (y : ℕ). HasValue (odd (prec f) s t 0 (low f)) s (y * 2 ^ 0) (2 ^ low f)) (sym (zero-add t)) (odd_sign (prec f) s t 0 (low f))
fields_value f s (suc x) t h =
    subst (λ (b : Bool). HasValue (cond (eqb (suc x) (ones f)) (cond (eqb t 0) (inf s) nan) (odd (prec f) s (hid f + t) x (low f))) s
    ((cond b 0 (hid f) + t) * 2 ^ (suc x - 1)) (2 ^ low f)) (sym (eqb-suc-zero x))
    (subst (λ (y : ℕ). HasValue (cond (eqb (suc x) (ones f)) (cond (eqb t 0) (inf s) nan) (odd (prec f) s (hid f + t) x (low f))) s ((hid f + t) * 2 ^ y)
    (2 ^ low f)) (sym (less_one x))
    (go (eqb (suc x) (ones f)) (eqb t 0) h))
  where
    go : (b c : Bool) → T (finite (cond b (cond c (inf s) nan) (odd (prec f) s (hid f + t) x (low f))))
        → HasValue (cond b (cond c (inf s) nan) (odd (prec f) s (hid f + t) x (low f))) s ((hid f + t) * 2 ^ x) (2 ^ low f)
    go true true k = absurd k
    go true false k = absurd k
    go false c k = odd_sign (prec f) s (hid f + t) x (low f)

of_bits_is : (f : Format) (b : ℕ) → of_bits f b ≡ of_fields f (leb (top f) b) (field f b) (b % hid f)
unfolding of_bits
of_bits_is f b = refl

pub pattern_value : (f : Format) (n : ℕ) → T (finite (of_bits f n)) → HasValue (of_bits f n) (leb (top f) n) (sig f n * 2 ^ place f n) (2 ^ low f)
unfolding sig place
pattern_value f n h =
    subst (λ (v : Float). HasValue v (leb (top f) n) ((lead f (field f n) + n % hid f) * 2 ^ (field f n - 1)) (2 ^ low f)) (sym (of_bits_is f n))
    (fields_value f (leb (top f) n) (field f n) (n % hid f) (subst (λ (v : Float). T (finite v)) (of_bits_is f n) h))

pub decode : (f : Format) (v : Float) → T (fits f v) → T (finite v)
    → HasValue v (leb (top f) (to_bits f v)) (sig f (to_bits f v) * 2 ^ place f (to_bits f v)) (2 ^ low f)
decode f v F h =
    let n = to_bits f v in
    let e : of_bits f n ≡ v = of_bits-to_bits f v F in
    subst (λ (w : Float). HasValue w (leb (top f) n) (sig f n * 2 ^ place f n) (2 ^ low f)) e
    (pattern_value f n (subst (λ (w : Float). T (finite w)) (sym e) h))

-- ---- the last digit
pub hid_even : (f : Format) → hid f ≡ 2 ^ (prec f - 2) * 2
hid_even f = ap (λ (x : ℕ). 2 ^ x) (one (prec f) (two f)) ∙ pow-suc 2 (prec f - 2)
  where
    one : (p : ℕ) → 2 ≤ p → p - 1 ≡ suc (p - 2)
    one p h = omega arith

pub sig_last : (f : Format) (n : ℕ) → sig f n % 2 ≡ n % 2
unfolding sig
sig_last f n =
    go (eqb (field f n) 0) (hid f) (2 ^ (prec f - 2)) (n / hid f) (n / hid f * 2 ^ (prec f - 2)) (n % hid f) (hid_even f)
    (ap (λ (x : ℕ). n / hid f * x) (hid_even f) ∙ sym (mul_assoc (n / hid f) (2 ^ (prec f - 2)) 2)) (div-add-mod' n (hid f))
  where
    go : (b : Bool) (h h' c e t : ℕ) → h ≡ h' * 2 → c * h ≡ e * 2 → c * h + t ≡ n → (cond b 0 h + t) % 2 ≡ n % 2
    go true h h' c e t i j k = last (c * h) j k
      where
        last : (d : ℕ) → d ≡ e * 2 → d + t ≡ n → (0 + t) % 2 ≡ n % 2
        last d j k = omega arith
    go false h h' c e t i j k = last (c * h) j k
      where
        last : (d : ℕ) → d ≡ e * 2 → d + t ≡ n → (h + t) % 2 ≡ n % 2
        last d j k = omega (arith, i)

-- ---- bounds
pub sig_lt : (f : Format) (n : ℕ) → sig f n < 2 ^ prec f
unfolding sig
sig_lt f n =
    go (eqb (field f n) 0) (hid f) (n % hid f) (2 ^ prec f) (mod-lt n (pow_pos (prec f - 1)))
    (top_digit (prec f) (two-le_pos (prec f) (two f)) ∙ mul_comm (2 ^ (prec f - 1)) 2)
  where
    no : (h t w : ℕ) → t < h → w ≡ 2 * h → 0 + t < w
    no h t w l e = omega arith

    yes : (h t w : ℕ) → t < h → w ≡ 2 * h → h + t < w
    yes h t w l e = omega arith

    go : (b : Bool) (h t w : ℕ) → t < h → w ≡ 2 * h → cond b 0 h + t < w
    go true h t w l e = no h t w l e
    go false h t w l e = yes h t w l e

pub place_le : (f : Format) (n : ℕ) → place f n ≤ 2 * emax f
unfolding place
place_le f n =
    cut (field f n) (emax f) ((div-lt_iff_lt-mul (pow_pos (prec f - 1))).1
    (subst (λ (a : ℕ). n % top f < a) (mul_comm (hid f) (suc (ones f))) (mod-lt n (mul-pos (pow_pos (prec f - 1)) (zero-lt-suc (ones f))))))
  where
    cut : (x e : ℕ) → x < suc (2 * e + 1) → x - 1 ≤ 2 * e
    cut x e h = omega arith

pub leads : (f : Format) (n : ℕ) → (place f n ≡ 0) ⊎ (hid f ≤ sig f n)
unfolding sig place
leads f n = go (field f n)
  where
    go : (x : ℕ) → (x - 1 ≡ 0) ⊎ (hid f ≤ cond (eqb x 0) 0 (hid f) + n % hid f)
    go zero = inl refl
    go (suc x) = inr (subst (λ (b : Bool). hid f ≤ cond b 0 (hid f) + n % hid f) (sym (eqb-suc-zero x)) (le-add_right (hid f) (n % hid f)))

-- ---- the parts as code has them, by shifts and masks: the digits are i wide, and the exponent's field j
module _ (f : Format) (i j b : ℕ) (H : hid f ≡ 2 ^ i) (K : top f ≡ 2 ^ (j + i)) where
  pub field_is : field f b ≡ bit_and (b / 2 ^ i) (2 ^ j - 1)
  field_is = ap₂ (λ (t h : ℕ). b % t / h) K H ∙ Pow.field b j i ∙ sym (and_mask (b / 2 ^ i) j)

  pub sig_zero : bit_and (b / 2 ^ i) (2 ^ j - 1) ≡ 0 → bit_and b (2 ^ i - 1) ≡ sig f b
  unfolding sig
  sig_zero z =
      and_mask b i ∙ ap (λ (h : ℕ). b % h) (sym H)
      ∙ sym (ap (λ (t : Bool). cond t 0 (hid f) + b % hid f) (eq-eqb (field f b) 0 (field_is ∙ z)) ∙ zero-add (b % hid f))

  pub sig_more : (bit_and (b / 2 ^ i) (2 ^ j - 1) ≡ 0 → ⊥) → 2 ^ i + bit_and b (2 ^ i - 1) ≡ sig f b
  unfolding sig
  sig_more z =
      ap (λ (x : ℕ). 2 ^ i + x) (and_mask b i) ∙ ap (λ (h : ℕ). h + b % h) (sym H)
      ∙ sym (ap (λ (t : Bool). cond t 0 (hid f) + b % hid f) (ne_eqb (field f b) 0 (λ e. z (sym field_is ∙ e))))

  pub place_is : bit_and (b / 2 ^ i) (2 ^ j - 1) - 1 ≡ place f b
  unfolding place
  place_is = ap (λ (x : ℕ). x - 1) (sym field_is)
