-- Shapes of texts: a list of classes of bytes, each one byte or any hex digit. The longest beginning of a text that fits a shape: it can be completed
-- to the whole shape, and it has a newline for each of the shape's lines that is whole. Assumes nothing.
use mathlib.Core.Path.{◌≡◌, refl, sym, ap, ◌∙◌}
use mathlib.Core.Bool.{Bool, true, false, not, ◌&&◌, cond, and-eq-true_iff}
use mathlib.Core.List.{List, [], ◌∷◌, ◌++◌, map}
use Prim.Native.Nat.{ℕ, zero, suc, ◌+◌, ◌≤◌}
use native.Mathlib.Nat.{zero-add}
use native.Mathlib.Omega.{arith}
use borrow.Author.Tests.{eqb-true, eq-eqb, not-true}
use lib.Dec.{eqb, ltb}
use lib.ListN.{length}
use Rattle.text.specs.Hex.{hex_value_of, all_hex, hex_digits, hex_of}
use Rattle.text.specs.Places.{newlines}
use Rattle.text.proofs.Hexes.{DigitsOf, digits_of, digits_hex, hex_digits-length}

-- ---- lists one after another
module _ {A : Type 0} where
  -- of two beginnings of a list, one is a beginning of the other
  pub data Overlap (xs ys zs ws : List A) : Type 0 where
    shorter : (between : List A) → zs ≡ xs ++ between → ys ≡ between ++ ws → Overlap xs ys zs ws
    longer : (between : List A) → xs ≡ zs ++ between → ws ≡ between ++ ys → Overlap xs ys zs ws

  overlap_cons : (x z : A) (xs ys zs ws : List A) → x ≡ z → Overlap xs ys zs ws → Overlap (x ∷ xs) ys (z ∷ zs) ws
  overlap_cons x z xs ys zs ws e (shorter m p q) = shorter m (cc) q
  overlap_cons x z xs ys zs ws e (longer m p q) = longer m (cc) q

  pub overlap : (xs ys zs ws : List A) → xs ++ ys ≡ zs ++ ws → Overlap xs ys zs ws
  overlap [] ys zs ws h = shorter zs refl h
  overlap (x ∷ xs) ys [] ws h = longer (x ∷ xs) refl (sym h)
  overlap (x ∷ xs) ys (z ∷ zs) ws h = overlap_cons x z xs ys zs ws (cc) (overlap xs ys zs ws (cc))

pub newlines-append : (a b : List ℕ) → newlines (a ++ b) ≡ newlines a + newlines b
unfolding newlines
newlines-append [] b = sym (zero-add (newlines b))
newlines-append (x ∷ a) b = go (eqb x 0x0a) (newlines-append a b)
  where
    go : (t : Bool) → newlines (a ++ b) ≡ newlines a + newlines b
        → cond t (suc (newlines (a ++ b))) (newlines (a ++ b)) ≡ cond t (suc (newlines a)) (newlines a) + newlines b
    go true e = omega arith
    go false e = e

-- of two beginnings of a text, the longer has no fewer newlines
pub newlines_longer : (a b x y : List ℕ) → a ++ x ≡ b ++ y → length a ≤ length b → newlines a ≤ newlines b
unfolding newlines
newlines_longer [] b x y h l = omega arith
newlines_longer (p ∷ a) [] x y h l = absurd (omega arith)
newlines_longer (p ∷ a) (q ∷ b) x y h l =
    let same : p ≡ q = cc in
    rw same (go (eqb q 0x0a) (newlines_longer a b x y (cc) (omega arith)))
  where
    go : (t : Bool) → newlines a ≤ newlines b → cond t (suc (newlines a)) (newlines a) ≤ cond t (suc (newlines b)) (newlines b)
    go true e = omega arith
    go false e = e

-- ---- classes and shapes
pub data Class : Type 0 where
  byte : ℕ → Class
  digit : Class

unfoldable pub admits : Class → ℕ → Bool
admits (byte a) b = eqb b a
admits digit b = ltb (hex_value_of b) 16

pub data Fits : List Class → List ℕ → Type 0 where
  none : Fits [] []
  more : {k : Class} {ks : List Class} {b : ℕ} {bs : List ℕ} → admits k b ≡ true → Fits ks bs → Fits (k ∷ ks) (b ∷ bs)

unfoldable pub digits : ℕ → List Class
digits zero = []
digits (suc k) = digit ∷ digits k

pub fits_append : {p q : List Class} {s t : List ℕ} → Fits p s → Fits q t → Fits (p ++ q) (s ++ t)
fits_append none g = g
fits_append (more e f) g = more e (fits_append f g)

pub record FitsParts (p q : List Class) (s : List ℕ) : Type 0 where
  pub first : List ℕ
  pub second : List ℕ
  pub split : s ≡ first ++ second
  pub fits_first : Fits p first
  pub fits_second : Fits q second

pub fits_parts : (p q : List Class) (s : List ℕ) → Fits (p ++ q) s → FitsParts p q s
fits_parts (k ∷ p) q [] f = elim f [ ]
fits_parts [] q s f = record { first = []; second = s; split = refl; fits_first = none; fits_second = f }
fits_parts (k ∷ p) q (b ∷ s) (more e f) =
    let r = fits_parts p q s f in
    record {
      first = b ∷ r.first;
      second = r.second;
      split = ap (λ (l : List ℕ). b ∷ l) r.split;
      fits_first = more e r.fits_first;
      fits_second = r.fits_second;
    }

pub fits_bytes : (s : List ℕ) → Fits (map byte s) s
unfolding admits
fits_bytes [] = none
fits_bytes (b ∷ s) = more (eq-eqb b b refl) (fits_bytes s)

pub bytes_fit : (s t : List ℕ) → Fits (map byte s) t → t ≡ s
unfolding admits
bytes_fit [] (b ∷ t) x'' = elim x'' [ ]
bytes_fit (a ∷ s) [] x3 = elim x3 [ ]
bytes_fit [] [] none = refl
bytes_fit (a ∷ s) (b ∷ t) (more e f) =
    let first : b ≡ a = eqb-true b a e in
    let later : t ≡ s = bytes_fit s t f in
    cc

pub fits_digits : (k : ℕ) (s : List ℕ) → length s ≡ k → all_hex s ≡ true → Fits (digits k) s
unfolding admits digits all_hex
fits_digits zero [] e h = none
fits_digits zero (b ∷ s) e h = absurd (omega arith)
fits_digits (suc k) [] e h = absurd (omega arith)
fits_digits (suc k) (b ∷ s) e h =
    let both = (and-eq-true_iff (ltb (hex_value_of b) 16) (all_hex s)).0 h in
    more both.0 (fits_digits k s (omega arith) both.1)

pub digits_fit : (k : ℕ) (s : List ℕ) → Fits (digits k) s → (length s ≡ k) × (all_hex s ≡ true)
unfolding admits digits all_hex
digits_fit zero (b ∷ s) x'' = elim x'' [ ]
digits_fit (suc k) [] x3 = elim x3 [ ]
digits_fit zero [] none = (refl, refl)
digits_fit (suc k) (b ∷ s) (more e f) = let later = digits_fit k s f in (ap suc later.0, rw (e, later.1))

pub fits_hex : (n : ℕ) → Fits (digits 8) (hex_of n)
unfolding hex_of
fits_hex n = fits_digits 8 (hex_digits 8 n) (hex_digits-length 8 n) (digits_hex 8 n)

pub hex_fit : (s : List ℕ) → Fits (digits 8) s → DigitsOf 8 s
hex_fit s f = let d = digits_fit 8 s f in digits_of 8 s d.0 d.1

-- ---- the longest beginning that fits
unfoldable pub fit : List Class → List ℕ → List ℕ
fit [] s = []
fit (k ∷ p) [] = []
fit (k ∷ p) (b ∷ s) = cond (admits k b) (b ∷ fit p s) []

pub fit_append : {p : List Class} {s : List ℕ} (q : List Class) (rest : List ℕ) → Fits p s → fit (p ++ q) (s ++ rest) ≡ s ++ fit q rest
unfolding fit
fit_append q rest none = refl
fit_append q rest (more {b = b} e f) = rw e (ap (λ (l : List ℕ). b ∷ l) (fit_append q rest f))

pub fit_split : (p : List Class) (s : List ℕ) → (rest : List ℕ) × (s ≡ fit p s ++ rest)
unfolding fit
fit_split [] s = (s, refl)
fit_split (k ∷ p) [] = ([], refl)
fit_split (k ∷ p) (b ∷ s) = go (admits k b) (fit_split p s)
  where
    go : (t : Bool) → (rest : List ℕ) × (s ≡ fit p s ++ rest) → (rest : List ℕ) × (b ∷ s ≡ cond t (b ∷ fit p s) [] ++ rest)
    go true r = (r.0, ap (λ (l : List ℕ). b ∷ l) r.1)
    go false r = (b ∷ s, refl)

some_fit : (p : List Class) → (s : List ℕ) × Fits p s
unfolding admits hex_value_of
some_fit [] = ([], none)
some_fit (byte a ∷ p) = let r = some_fit p in (a ∷ r.0, more (eq-eqb a a refl) r.1)
some_fit (digit ∷ p) = let r = some_fit p in (0x30 ∷ r.0, more refl r.1)

pub fit_complete : (p : List Class) (s : List ℕ) → (ending : List ℕ) × Fits p (fit p s ++ ending)
unfolding fit
fit_complete [] s = ([], none)
fit_complete (k ∷ p) [] = some_fit (k ∷ p)
fit_complete (k ∷ p) (b ∷ s) = go (admits k b) refl (fit_complete p s)
  where
    go : (t : Bool) → admits k b ≡ t → (ending : List ℕ) × Fits p (fit p s ++ ending) → (ending : List ℕ) × Fits (k ∷ p) (cond t (b ∷ fit p s) [] ++ ending)
    go true e r = (r.0, more e r.1)
    go false e r = some_fit (k ∷ p)

pub fit_longest : (p : List Class) (s ending rest : List ℕ) → Fits p (s ++ ending) → length s ≤ length (fit p (s ++ rest))
unfolding fit
fit_longest [] (b ∷ s) ending rest f = elim f [ ]
fit_longest p [] ending rest f = omega arith
fit_longest (k ∷ p) (b ∷ s) ending rest (more e f) = rw e (omega (arith, fit_longest p s ending rest f))

-- ---- lines: a shape with no newline, then a newline
unfoldable pub plain : List Class → Bool
plain [] = true
plain (byte a ∷ p) = not (eqb a 0x0a) && plain p
plain (digit ∷ p) = plain p

plain_first : (k : Class) (p : List Class) (b : ℕ) → plain (k ∷ p) ≡ true → admits k b ≡ true → eqb b 0x0a ≡ false
unfolding plain admits hex_value_of
plain_first (byte a) p b h e =
    let same : b ≡ a = eqb-true b a e in
    ap (λ (m : ℕ). eqb m 0x0a) same ∙ not-true (eqb a 0x0a) ((and-eq-true_iff (not (eqb a 0x0a)) (plain p)).0 h).0
plain_first digit p b h e = go (eqb b 0x0a) refl
  where
    go : (t : Bool) → eqb b 0x0a ≡ t → t ≡ false
    go true f = let same : b ≡ 0x0a = eqb-true b 0x0a f in sym e ∙ ap (λ (m : ℕ). ltb (hex_value_of m) 16) same
    go false f = refl

plain_rest : (k : Class) (p : List Class) → plain (k ∷ p) ≡ true → plain p ≡ true
unfolding plain
plain_rest (byte a) p h = ((and-eq-true_iff (not (eqb a 0x0a)) (plain p)).0 h).1
plain_rest digit p h = h

pub plain_newlines : (p : List Class) (s : List ℕ) → plain p ≡ true → Fits p s → newlines s ≡ 0
unfolding newlines
plain_newlines [] (b ∷ s) h x4 = elim x4 [ ]
plain_newlines (k ∷ p) [] h x4 = elim x4 [ ]
plain_newlines [] [] h none = refl
plain_newlines (k ∷ p) (b ∷ s) h (more e f) = rw (plain_first k p b h e) (plain_newlines p s (plain_rest k p h) f)

-- a line is whole; or the beginning that fits has no newline
pub data LineAt (p q : List Class) (s : List ℕ) : Type 0 where
  whole : (line rest : List ℕ) → s ≡ line ++ (0x0a ∷ rest) → Fits p line → LineAt p q s
  part : newlines (fit (p ++ (byte 0x0a ∷ q)) s) ≡ 0 → LineAt p q s

pub line_at : (p q : List Class) (s : List ℕ) → plain p ≡ true → LineAt p q s
unfolding fit newlines admits
line_at [] q [] h = part refl
line_at [] q (b ∷ s) h = go (eqb b 0x0a) refl
  where
    go : (t : Bool) → eqb b 0x0a ≡ t → LineAt [] q (b ∷ s)
    go true e = whole [] s (ap (λ (m : ℕ). m ∷ s) (eqb-true b 0x0a e)) none
    go false e = part (rw e)
line_at (k ∷ p) q [] h = part refl
line_at (k ∷ p) q (b ∷ s) h = go (admits k b) refl (line_at p q s (plain_rest k p h))
  where
    go : (t : Bool) → admits k b ≡ t → LineAt p q s → LineAt (k ∷ p) q (b ∷ s)
    go true e (whole line rest split f) = whole (b ∷ line) rest (ap (λ (l : List ℕ). b ∷ l) split) (more e f)
    go true e (part z) = part (rw (e, plain_first k p b h e) z)
    go false e r = part (rw e)

pub line_newlines : (p q : List Class) (line rest : List ℕ) → plain p ≡ true → Fits p line
    → newlines (fit (p ++ (byte 0x0a ∷ q)) (line ++ (0x0a ∷ rest))) ≡ suc (newlines (fit q rest))
unfolding fit newlines admits
line_newlines p q line rest h f =
    ap newlines (fit_append (byte 0x0a ∷ q) (0x0a ∷ rest) f)
    ∙ newlines-append line (0x0a ∷ fit q rest)
    ∙ omega (arith, plain_newlines p line h f)
