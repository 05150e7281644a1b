-- Laws of one coordinate: what the code makes of its size and its sign is what `unit_of` says. Assumes nothing.
use mathlib.Core.Path.{◌≡◌, refl, sym, ap, ap₂, ◌∙◌, subst}
use mathlib.Core.Bool.{Bool, true, false, ◌&&◌, cond}
use Prim.Native.Nat.{ℕ, zero, suc, ◌+◌, ◌*◌, ◌/◌, ◌<◌, ◌≤◌}
use native.Mathlib.Nat.{mul-pos, zero-lt-suc, le-div_iff_mul-le}
use native.Mathlib.Omega.{arith}
use lib.IntN.{ℤ, pos, negsuc, neg_ℤ, ◌-ℤ◌, +ℤ_idl}
use lib.Dec.{leb, leb-suc-suc, lit<}
use lib.Signed.{mag}
use lib.Ieee.{Float, nan, inf, fin, up, down, le, lt, eq, neg, of_bits}
use lib.Ieee.Fits.{down_pos}
use borrow.Author.Tests.{leb-true, lt-leb}
use mir.Syntax.{w32}
use mir.Val.{SFits, of_z, to_z}
use mir.Facts.{to_z-of_z, to_z_pos}
use Rattle.std.specs.Prelude.{Option, Some, None}
use Rattle.rounding.specs.Nearest.{signed}
use Rattle.leaves.specs.Small.{negative_of}
use Rattle.leaves.specs.Whole.{limit32, whole_near_of}
use Rattle.leaves.proofs.WholeNear.{beyond, whole_near_is}
use Rattle.units.specs.Whole.{whole_of, in_range, printable_of, unit_of}

-- ---- the range, by the sign
pub range_above : (n : ℕ) → in_range (signed false n) ≡ leb n 32767
unfolding in_range
range_above n = refl

pub range_below : (n : ℕ) → in_range (signed true n) ≡ leb n 32768
unfolding in_range
range_below zero = refl
range_below (suc n) = sym (leb-suc-suc n 32767)

out : (s : Bool) (n : ℕ) → 32768 < n → in_range (signed s n) ≡ false
out true n h = range_below n ∙ lt-leb n 32768 h
out false n h = range_above n ∙ lt-leb n 32767 (less n h)
  where
    less : (n : ℕ) → 32768 < n → 32767 < n
    less n h = omega arith

-- ---- a unit of a sign and a size
abbrev pub of_size : Bool → ℕ → Option ℤ
of_size s n = cond (in_range (signed s n)) (Some (signed s n)) None

pub size_yes : (s : Bool) (n : ℕ) → in_range (signed s n) ≡ true → Some (signed s n) ≡ of_size s n
size_yes s n h = sym (ap (λ (t : Bool). cond t (Some (signed s n)) None) h)

pub size_no : (s : Bool) (n : ℕ) → in_range (signed s n) ≡ false → None ≡ of_size s n
size_no s n h = sym (ap (λ (t : Bool). cond t (Some (signed s n)) None) h)

-- a size above 65,536 is still one after rounding
far : (N D : ℕ) → 0 < D → 65536 * D < N → 32768 < (2 * N + D) / (2 * D)
far N D P h = (le-div_iff_mul-le (mul-pos (zero-lt-suc 1) P)).1 (last N D h)
  where
    last : (N D : ℕ) → 65536 * D < N → 32769 * (2 * D) ≤ 2 * N + D
    last N D h = omega arith

nan_far : whole_near_of nan ≡ 65537
unfolding whole_near_of of_bits neg le lt eq
nan_far = refl

inf_far : (s : Bool) → whole_near_of (inf s) ≡ 65537
unfolding whole_near_of of_bits neg le lt eq
inf_far true = refl
inf_far false = refl

-- by whether x lies from -65,536 to 65,536
finished : (t : Bool) (m : ℕ) (e : ℤ) (b : Bool) → (le (neg limit32) (fin t m e) && le (fin t m e) limit32) ≡ b
    → of_size t (cond b ((2 * (m * up e) + down e) / (2 * down e)) 65537) ≡ of_size t ((2 * (m * up e) + down e) / (2 * down e))
finished t m e true h = refl
finished t m e false h =
    let q = (2 * (m * up e) + down e) / (2 * down e) in
    sym (size_no t 65537 (out t 65537 (lit< tt)))
    ∙ size_no t q (out t q (far (m * up e) (down e) (down_pos e) (beyond (fin t m e) tt h)))

of_both : (x : Float) → of_size (negative_of x) (whole_near_of x) ≡ unit_of x
unfolding unit_of printable_of negative_of whole_of
of_both nan = ap (of_size false) nan_far ∙ sym (size_no false 65537 (out false 65537 (lit< tt)))
of_both (inf s) = ap (of_size s) (inf_far s) ∙ sym (size_no s 65537 (out s 65537 (lit< tt)))
of_both (fin t m e) =
    ap (of_size t) (sym (whole_near_is (fin t m e) (le (neg limit32) (fin t m e)) (le (fin t m e) limit32) refl refl))
    ∙ finished t m e (le (neg limit32) (fin t m e) && le (fin t m e) limit32) refl

pub unit_is : (x : Float) (s : Bool) (n : ℕ) → s ≡ negative_of x → n ≡ whole_near_of x → of_size s n ≡ unit_of x
unit_is x s n h k = ap₂ of_size h k ∙ of_both x

-- ---- the machine's negation
small : (n : ℕ) → n ≤ 32768 → n < 2147483648
small n h = omega arith

less : (n : ℕ) → n ≤ 32767 → n ≤ 32768
less n h = omega arith

pub negated : (n : ℕ) → n ≤ 32768 → to_z w32 0 -ℤ to_z w32 n ≡ neg_ℤ (pos n)
negated n h = ap (λ (z : ℤ). pos 0 -ℤ z) (to_z_pos w32 (small n h)) ∙ +ℤ_idl (neg_ℤ (pos n))

pub negated_fits : (n : ℕ) → n ≤ 32768 → SFits w32 (to_z w32 0 -ℤ to_z w32 n)
negated_fits n h = record { sfits = subst (λ (z : ℤ). mag z < 2147483648) (sym (negated n h)) (size n (small n h)) }
  where
    size : (n : ℕ) → n < 2147483648 → mag (neg_ℤ (pos n)) < 2147483648
    size zero h = h
    size (suc n) h = less n h
      where
        less : (n : ℕ) → suc n < 2147483648 → n < 2147483648
        less n h = omega arith

pub negative_is : (n : ℕ) → n ≤ 32768 → to_z w32 (of_z w32 (to_z w32 0 -ℤ to_z w32 n)) ≡ signed true n
negative_is n h = to_z-of_z (negated_fits n h) ∙ negated n h

pub positive_is : (n : ℕ) → n ≤ 32767 → to_z w32 n ≡ signed false n
positive_is n h = to_z_pos w32 (small n (less n h))

-- what is in range fits
pub range_fits : (z : ℤ) → in_range z ≡ true → SFits w32 z
unfolding in_range
range_fits (pos n) h = record { sfits = small n (less n (leb-true n 32767 h)) }
range_fits (negsuc n) h = record { sfits = small n (less n (leb-true n 32767 h)) }
