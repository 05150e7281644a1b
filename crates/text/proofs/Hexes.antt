-- Reading hex digits one by one, with what is read so far; and writing them from the last. Assumes nothing.
use mathlib.Core.Path.{◌≡◌, refl, sym, ap, ◌∙◌}
use mathlib.Core.Bool.{Bool, true, false, ◌&&◌, cond, and-true, and-false, and_assoc, and-eq-true_iff}
use mathlib.Core.List.{List, [], ◌∷◌, ◌++◌}
use Prim.Native.Nat.{ℕ, zero, suc, ◌+◌, ◌-◌, ◌*◌, ◌/◌, ◌%◌, ◌^◌, ◌≤◌, ◌<◌}
use native.Mathlib.Nat.{add-zero, pow-suc, le_refl}
use native.Mathlib.Numerals.{add-one}
use native.Mathlib.Omega.{arith}
use borrow.Author.Tests.{ltb-true, lt-ltb, le-ltb, leb-true, le-leb, lt-leb, ltb-false, eqb-true, ne_eqb}
use lib.Dec.{leb, ltb, eqb, eqb-suc-suc, eqb-zero-suc}
use lib.ListN.{length, take, drop, get_or, length-append, length-take, take-append-drop}
use Rattle.std.proofs.Common.{take-take}
use lib.Seq.{drop-drop, get_or-drop, take-suc, take_all, take-append_seam}
use Rattle.std.specs.Prelude.{Option, None, Some}
use Rattle.text.specs.Bytes.{part_at}
use Rattle.text.specs.Hex.{hex_digit_of, hex_value_of, digit_in, all_hex, hex_number, hex_stands_at, hex_number_at, hex_at_of, hex_digits, hex_of}

-- k more digits, after those whose number is n
unfoldable pub digits_in : List ℕ → ℕ → ℕ → Option ℕ
digits_in rest k n = cond (eqb (length (take k rest)) k && all_hex (take k rest)) (Some (hex_number n (take k rest))) None

pub digits_none : (rest : List ℕ) (n : ℕ) → digits_in rest 0 n ≡ Some n
unfolding digits_in all_hex hex_number
digits_none rest n = refl

-- the eight digits from a place on, where there are so many bytes
pub digits_all : (text : List ℕ) (at : ℕ) (rest digits : List ℕ) → rest ≡ drop at text → digits ≡ take 8 rest → hex_at_of text at ≡ digits_in digits 8 0
unfolding hex_at_of hex_stands_at hex_number_at part_at digits_in
digits_all text at rest digits e d =
    ap (λ (l : List ℕ). cond (eqb (length l) 8 && all_hex l) (Some (hex_number 0 l)) None)
    (ap (take 8) (sym e) ∙ sym d ∙ sym (ap (take 8) d ∙ take-take 8 8 rest (le_refl 8) ∙ sym d))

pub digits_short : (text : List ℕ) (at : ℕ) → length (drop at text) < 8 → hex_at_of text at ≡ None
unfolding hex_at_of hex_stands_at part_at
digits_short text at h =
    let e : length (take 8 (drop at text)) < 8 = rw length-take (omega arith) in
    rw (ne_eqb (length (take 8 (drop at text))) 8 (λ f. omega arith))

-- what a digit is, or is not
value_is : (b v : ℕ) → Some v ≡ digit_in (hex_value_of b) → (ltb (hex_value_of b) 16 ≡ true) × (v ≡ hex_value_of b)
value_is b v e = go (ltb (hex_value_of b) 16) e
  where
    go : (t : Bool) → ◌≡◌ {A = Option ℕ} (Some v) (cond t (Some (hex_value_of b)) None) → (t ≡ true) × (v ≡ hex_value_of b)
    go true f = (refl, cc)
    go false f = cc

no_value : (b : ℕ) → None ≡ digit_in (hex_value_of b) → ltb (hex_value_of b) 16 ≡ false
no_value b e = go (ltb (hex_value_of b) 16) e
  where
    go : (t : Bool) → ◌≡◌ {A = Option ℕ} None (cond t (Some (hex_value_of b)) None) → t ≡ false
    go true f = cc
    go false f = refl

pub value_small : (b v : ℕ) → Some v ≡ digit_in (hex_value_of b) → v < 16
value_small b v e = let r = value_is b v e in let l : hex_value_of b < 16 = ltb-true (hex_value_of b) 16 r.0 in omega (arith, r.1)

-- the first of k + 1 digits
digits_on : (rest : List ℕ) (k n v : ℕ) → Some v ≡ digit_in (hex_value_of (get_or rest 0 0)) → digits_in rest (suc k) n ≡ digits_in (drop 1 rest) k (16 * n + v)
unfolding digits_in all_hex hex_number hex_value_of
digits_on [] k n v e = cc
digits_on (b ∷ rest) k n v e = let r = value_is b v e in rw (eqb-suc-suc, r.0, r.1)

digits_off : (rest : List ℕ) (k n : ℕ) → None ≡ digit_in (hex_value_of (get_or rest 0 0)) → digits_in rest (suc k) n ≡ None
unfolding digits_in all_hex
digits_off [] k n e = rw eqb-zero-suc
digits_off (b ∷ rest) k n e = rw (no_value b e, and-false)

-- with i digits read
module _ (digits : List ℕ) (i n : ℕ) (h : i < 8) where
  next : get_or (drop i digits) 0 0 ≡ get_or digits i 0
  next = get_or-drop i digits 0 0 ∙ ap (λ (m : ℕ). get_or digits m 0) (add-zero i)

  more : 8 - i ≡ suc (8 - (i + 1))
  more = omega arith

  pub digit_on : (v : ℕ) → Some v ≡ digit_in (hex_value_of (get_or digits i 0)) → digits_in (drop i digits) (8 - i) n ≡ digits_in (drop (i + 1) digits) (8 - (i + 1)) (16 * n + v)
  digit_on v e =
      ap (λ (m : ℕ). digits_in (drop i digits) m n) more
      ∙ digits_on (drop i digits) (8 - (i + 1)) n v (rw next e)
      ∙ ap (λ (r : List ℕ). digits_in r (8 - (i + 1)) (16 * n + v)) (drop-drop 1 i digits)

  pub digit_off : None ≡ digit_in (hex_value_of (get_or digits i 0)) → digits_in (drop i digits) (8 - i) n ≡ None
  digit_off e = ap (λ (m : ℕ). digits_in (drop i digits) m n) more ∙ digits_off (drop i digits) (8 - (i + 1)) n (rw next e)

-- n of i digits and one digit more
pub one_more : (i n v : ℕ) → n < 16 ^ i → v < 16 → 16 * n + v < 16 ^ (i + 1)
one_more i n v h t =
    let e : 16 ^ (i + 1) ≡ 16 ^ i * 16 = rw (add-one, pow-suc) in
    omega arith

pub hex_digits-length : (k n : ℕ) → length (hex_digits k n) ≡ k
unfolding hex_digits
hex_digits-length zero n = refl
hex_digits-length (suc k) n = length-append (hex_digits k (n / 16)) (hex_digit_of (n % 16) ∷ []) ∙ omega (arith, hex_digits-length k (n / 16))

-- ---- a digit and its value
data ByteIs (b : ℕ) : Type 0 where
  number : 0x30 ≤ b → b ≤ 0x39 → hex_value_of b ≡ b - 0x30 → ByteIs b
  letter : 0x61 ≤ b → b ≤ 0x66 → hex_value_of b ≡ b - 0x57 → ByteIs b
  other : hex_value_of b ≡ 16 → ByteIs b

byte_is : (b : ℕ) → ByteIs b
unfolding hex_value_of
byte_is b = go (leb 0x30 b && leb b 0x39) (leb 0x61 b && leb b 0x66) refl refl
  where
    go : (p q : Bool) → (leb 0x30 b && leb b 0x39) ≡ p → (leb 0x61 b && leb b 0x66) ≡ q → ByteIs b
    go true q e f = let t = (and-eq-true_iff (leb 0x30 b) (leb b 0x39)).0 e in number (leb-true 0x30 b t.0) (leb-true b 0x39 t.1) (rw e)
    go false true e f = let t = (and-eq-true_iff (leb 0x61 b) (leb b 0x66)).0 f in letter (leb-true 0x61 b t.0) (leb-true b 0x66 t.1) (rw (e, f))
    go false false e f = other (rw (e, f))

pub value_digit : (b : ℕ) → hex_value_of b < 16 → hex_digit_of (hex_value_of b) ≡ b
unfolding hex_digit_of
value_digit b h = go (byte_is b)
  where
    go : ByteIs b → cond (ltb (hex_value_of b) 10) (0x30 + hex_value_of b) (0x57 + hex_value_of b) ≡ b
    go (number low high e) = rw (lt-ltb (hex_value_of b) 10 (omega arith)) (omega arith)
    go (letter low high e) = rw (le-ltb (hex_value_of b) 10 (omega arith)) (omega arith)
    go (other e) = absurd (omega arith)

number_value : (b : ℕ) → 0x30 ≤ b → b ≤ 0x39 → hex_value_of b ≡ b - 0x30
unfolding hex_value_of
number_value b low high = rw (le-leb 0x30 b low, le-leb b 0x39 high)

letter_value : (b : ℕ) → 0x61 ≤ b → b ≤ 0x66 → hex_value_of b ≡ b - 0x57
unfolding hex_value_of
letter_value b low high = rw (lt-leb b 0x39 (omega arith), and-false, le-leb 0x61 b low, le-leb b 0x66 high)

pub digit_value : (v : ℕ) → v < 16 → hex_value_of (hex_digit_of v) ≡ v
unfolding hex_digit_of
digit_value v h = go (ltb v 10) refl
  where
    go : (t : Bool) → ltb v 10 ≡ t → hex_value_of (cond t (0x30 + v) (0x57 + v)) ≡ v
    go true e = let low : v < 10 = ltb-true v 10 e in number_value (0x30 + v) (omega arith) (omega arith) ∙ omega arith
    go false e = let high : 10 ≤ v = ltb-false v 10 e in letter_value (0x57 + v) (omega arith) (omega arith) ∙ omega arith

-- ---- the digits of a number, and the number of the digits
number_last : (n : ℕ) (bs : List ℕ) (b : ℕ) → hex_number n (bs ++ (b ∷ [])) ≡ 16 * hex_number n bs + hex_value_of b
unfolding hex_number
number_last n [] b = refl
number_last n (a ∷ bs) b = number_last (16 * n + hex_value_of a) bs b

all_last : (bs : List ℕ) (b : ℕ) → all_hex (bs ++ (b ∷ [])) ≡ all_hex bs && ltb (hex_value_of b) 16
unfolding all_hex
all_last [] b = and-true (ltb (hex_value_of b) 16)
all_last (a ∷ bs) b =
    ap (λ (t : Bool). ltb (hex_value_of a) 16 && t) (all_last bs b) ∙ sym (and_assoc (ltb (hex_value_of a) 16) (all_hex bs) (ltb (hex_value_of b) 16))

pub digits_number : (k n : ℕ) → n < 16 ^ k → hex_number 0 (hex_digits k n) ≡ n
unfolding hex_digits hex_number
digits_number zero n h = omega arith
digits_number (suc k) n h =
    let e : 16 ^ suc k ≡ 16 ^ k * 16 = pow-suc 16 k in
    let below : hex_number 0 (hex_digits k (n / 16)) ≡ n / 16 = digits_number k (n / 16) (omega arith) in
    let last : hex_value_of (hex_digit_of (n % 16)) ≡ n % 16 = digit_value (n % 16) (omega arith) in
    number_last 0 (hex_digits k (n / 16)) (hex_digit_of (n % 16)) ∙ omega arith

pub digits_hex : (k n : ℕ) → all_hex (hex_digits k n) ≡ true
unfolding hex_digits all_hex
digits_hex zero n = refl
digits_hex (suc k) n =
    let last : hex_value_of (hex_digit_of (n % 16)) ≡ n % 16 = digit_value (n % 16) (omega arith) in
    all_last (hex_digits k (n / 16)) (hex_digit_of (n % 16)) ∙ rw (digits_hex k (n / 16), lt-ltb (hex_value_of (hex_digit_of (n % 16))) 16 (omega arith))

-- k hex digits are those of a number
pub record DigitsOf (k : ℕ) (bs : List ℕ) : Type 0 where
  pub number : ℕ
  pub small : number < 16 ^ k
  pub digits : bs ≡ hex_digits k number

digits_snoc : (k : ℕ) (bs : List ℕ) (b : ℕ) → DigitsOf k bs → hex_value_of b < 16 → DigitsOf (suc k) (bs ++ (b ∷ []))
unfolding hex_digits
digits_snoc k bs b d v =
    let n = 16 * d.number + hex_value_of b in
    let p : 16 ^ suc k ≡ 16 ^ k * 16 = pow-suc 16 k in
    let high : n / 16 ≡ d.number = omega arith in
    let low : n % 16 ≡ hex_value_of b = omega arith in
    record { number = n; small = omega arith; digits = rw (high, low, value_digit b v, ← d.digits) }

digits_cut : (k : ℕ) (bs : List ℕ) (b : ℕ) → length bs ≡ suc k → b ≡ get_or bs k 0 → bs ≡ take k bs ++ (b ∷ [])
digits_cut k bs b e h = sym (take_all (suc k) bs (omega arith)) ∙ rw h (take-suc bs k 0 (omega arith))

pub digits_of : (k : ℕ) (bs : List ℕ) → length bs ≡ k → all_hex bs ≡ true → DigitsOf k bs
unfolding hex_digits
digits_of zero [] e h = record { number = 0; small = omega arith; digits = refl }
digits_of zero (b ∷ bs) e h = absurd (omega arith)
digits_of (suc k) bs e h = last (get_or bs k 0) refl (digits_of k (take k bs))
  where
    last : (b : ℕ) → b ≡ get_or bs k 0 → (length (take k bs) ≡ k → all_hex (take k bs) ≡ true → DigitsOf k (take k bs)) → DigitsOf (suc k) bs
    last b g below =
        let cut : bs ≡ take k bs ++ (b ∷ []) = digits_cut k bs b e g in
        let both = (and-eq-true_iff (all_hex (take k bs)) (ltb (hex_value_of b) 16)).0 (sym (all_last (take k bs) b) ∙ ap all_hex (sym cut) ∙ h) in
        let d : DigitsOf k (take k bs) = below (omega (arith, length-take k bs)) both.0 in
        rw cut (digits_snoc k (take k bs) b d (ltb-true (hex_value_of b) 16 both.1))

-- ---- eight digits at a place
pub record NumberAt (rest : List ℕ) : Type 0 where
  pub number : ℕ
  pub small : number < 2 ^ 32
  pub behind : List ℕ
  pub split : rest ≡ hex_of number ++ behind

pub hex_split : (text : List ℕ) (at : ℕ) → hex_stands_at text at ≡ true → NumberAt (drop at text)
unfolding hex_stands_at part_at hex_of
hex_split text at h =
    let rest = drop at text in
    let both = (and-eq-true_iff (eqb (length (take 8 rest)) 8) (all_hex (take 8 rest))).0 h in
    let d : DigitsOf 8 (take 8 rest) = digits_of 8 (take 8 rest) (eqb-true (length (take 8 rest)) 8 both.0) both.1 in
    record {
      number = d.number;
      small = d.small;
      behind = drop 8 rest;
      split = sym (take-append-drop 8 rest) ∙ ap (λ (l : List ℕ). l ++ drop 8 rest) d.digits;
    }

module _ (text : List ℕ) (at n : ℕ) (rest : List ℕ) (split : drop at text ≡ hex_of n ++ rest) where
  part_is : part_at text at 8 ≡ hex_of n
  unfolding part_at hex_of
  part_is =
      ap (take 8) split
      ∙ ap (λ (k : ℕ). take k (hex_digits 8 n ++ rest)) (sym (hex_digits-length 8 n))
      ∙ take-append_seam (hex_digits 8 n) rest

  pub split_hex : hex_stands_at text at ≡ true
  unfolding hex_stands_at hex_of
  split_hex = rw (part_is, hex_digits-length, digits_hex)

  pub split_number : n < 2 ^ 32 → hex_number_at text at ≡ n
  unfolding hex_number_at hex_of
  split_number h = ap (hex_number 0) part_is ∙ digits_number 8 n h
