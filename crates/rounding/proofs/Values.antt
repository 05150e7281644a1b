-- What a finite float is worth: as a fraction, and as a whole number of the format's smallest values. Assumes nothing.
use mathlib.Core.Path.{◌≡◌, sym, ap, ◌∙◌, subst}
use mathlib.Core.Bool.{Bool, ◌&&◌}
use Prim.Native.Nat.{ℕ, zero, suc, ◌+◌, ◌*◌, ◌%◌, ◌^◌, ◌<◌}
use native.Mathlib.Nat.{lt_of_lt_of_le, le_trans, le_of_eq, zero-mul, mul_comm, mul_right_comm, mul-pos, mul-le-mul_left, mul-lt-mul_of_pos_right}
use native.Mathlib.Nat.{lt_of_mul-lt-mul_right, lt_of_le_of_lt, mul_assoc}
use lib.Dec.{T, leb, ltb, eqb, ltb→lt}
use lib.Pow.{pow-add, pow_pos, pow_mono}
use lib.Ieee.{Float, nan, inf, fin, Format, prec, emax, low, up, down, fits, top, to_bits}
use lib.Ieee.Exact.{HasValue}
use lib.Ieee.Fits.{and_r, down_pos}
use lib.Ieee.Scale.{finite, overflow}
use lib.Ieee.Positive.{num, den}
use Rattle.rounding.specs.Parts.{sig, place}
use Rattle.rounding.proofs.Parts.{sig_lt, place_le, decode}

pub value_finite : (x : Float) (s : Bool) (a c : ℕ) → HasValue x s a c → T (finite x)
value_finite nan s a c h = absurd h
value_finite (inf t) s a c h = absurd h
value_finite (fin t m e) s a c h = tt

pub cross : (x : Float) (s : Bool) (a c : ℕ) → HasValue x s a c → num x * c ≡ a * den x
cross nan s a c h = absurd h
cross (inf t) s a c h = absurd h
cross (fin t m e) s a c h = h.1

-- an order of A / L and B / L is one of the fractions that they equal
pub fraction_lt : (a d b e A B L : ℕ) → 0 < d * e → a * L ≡ A * d → b * L ≡ B * e → A < B → a * e < b * d
fraction_lt a d b e A B L D g h l =
    lt_of_mul-lt-mul_right L
    (lt_of_le_of_lt (le_of_eq (mul_right_comm a e L ∙ ap (λ (z : ℕ). z * e) g ∙ mul_assoc A d e))
    (lt_of_lt_of_le (mul-lt-mul_of_pos_right l D)
    (le_of_eq (ap (λ (z : ℕ). B * z) (mul_comm d e) ∙ sym (mul_assoc B e d) ∙ ap (λ (z : ℕ). z * d) (sym h) ∙ mul_right_comm b L d))))

-- the number of smallest values in x, from its pattern
unfoldable pub worth : Format → Float → ℕ
worth f x = sig f (to_bits f x) * 2 ^ place f (to_bits f x)

pub worth_value : (f : Format) (x : Float) → T (fits f x) → T (finite x) → HasValue x (leb (top f) (to_bits f x)) (worth f x) (2 ^ low f)
unfolding worth
worth_value f x F h = decode f x F h

pub worth_cross : (f : Format) (x : Float) → T (fits f x) → T (finite x) → num x * 2 ^ low f ≡ worth f x * den x
worth_cross f x F h = cross x (leb (top f) (to_bits f x)) (worth f x) (2 ^ low f) (worth_value f x F h)

pub worth_lt : (f : Format) (x : Float) → worth f x < 2 ^ (prec f + 2 * emax f)
unfolding worth
worth_lt f x =
    let b = to_bits f x in
    lt_of_lt_of_le (mul-lt-mul_of_pos_right (sig_lt f b) (pow_pos (place f b)))
    (le_trans (mul-le-mul_left (2 ^ prec f) (pow_mono (place_le f b))) (le_of_eq (sym (pow-add 2 (prec f) (2 * emax f)))))

-- a finite value of the format lies below 2 ^ (emax + 1)
num_lt : (f : Format) (x : Float) → T (fits f x) → T (finite x) → num x < 2 ^ suc (emax f) * den x
unfolding fits
num_lt f nan F h = absurd h
num_lt f (inf s) F h = absurd h
num_lt f (fin s zero e) F h = subst (λ (k : ℕ). k < 2 ^ suc (emax f) * down e) (sym (zero-mul (up e))) (mul-pos (pow_pos (suc (emax f))) (down_pos e))
num_lt f (fin s (suc m) e) F h =
    ltb→lt (suc m * up e) (2 ^ suc (emax f) * down e)
    (and_r (eqb (suc m % 2) 1 && ltb (suc m) (2 ^ prec f) && leb (down e) (2 ^ low f)) (ltb (suc m * up e) (2 ^ suc (emax f) * down e)) F)

pub worth_under : (f : Format) (x : Float) → T (fits f x) → T (finite x) → worth f x < overflow f
worth_under f x F h =
    lt_of_mul-lt-mul_right (den x)
    (subst (λ (k : ℕ). k < overflow f * den x) (worth_cross f x F h)
    (subst (λ (k : ℕ). num x * 2 ^ low f < k)
    (mul_right_comm (2 ^ suc (emax f)) (den x) (2 ^ low f)
    ∙ ap (λ (k : ℕ). k * den x) (mul_comm (2 ^ suc (emax f)) (2 ^ low f) ∙ sym (pow-add 2 (low f) (suc (emax f)))))
    (mul-lt-mul_of_pos_right (num_lt f x F h) (pow_pos (low f)))))
