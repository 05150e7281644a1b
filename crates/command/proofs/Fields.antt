-- The fields of a word of 32 bits: what the masks of the code keep, and which words are a step, a Start and an End. Assumes nothing.
use Prim.Native.Nat.{ℕ, zero, suc, ◌+◌, ◌*◌, ◌/◌, ◌%◌, ◌^◌, ◌<◌, ◌≤◌}
use mathlib.Core.Path.{◌≡◌, refl, sym, ◌∙◌, ap}
use mathlib.Core.Bool.{true, false, not}
use native.Mathlib.Nat.{mod-eq_of_lt, add-zero}
use native.Mathlib.Omega.{arith}
use lib.Dec.{eqb, lit<}
use lib.Bits.{bit_and, bit_or, and_high, and_mask, or_shifted_r, or_block, or_zero_r}
use lib.Ieee.{binary32, nan_bits}
use lib.Ieee.Bits.{nan_bits_above}
use borrow.Author.Tests.{eq-eqb, ne_eqb, le-ltb}
use Rattle.leaves.specs.Bits.{float_of}
use Rattle.command.specs.declared.PointCommand.TheVariants.{Start, Incr, End}
use Rattle.command.specs.Packing.{index_limit, pack_of, unpack_of}

-- the eight digits below the sign are all ones: the word is no step
abbrev pub Marked : ℕ → Type 0
Marked w = w / 0x80_0000 % 0x100 ≡ 0xff

-- ---- what `unpack_of` gives, by the fields

pub is_step : (w : ℕ) → (Marked w → ⊥) → unpack_of w ≡ Incr (float_of w)
unfolding unpack_of
is_step w h = rw (ne_eqb (w / 0x80_0000 % 0x100) 0xff h)

pub is_start : (w : ℕ) → Marked w → w / 0x8000_0000 ≡ 0 → unpack_of w ≡ Start (w % index_limit)
unfolding unpack_of
is_start w h s = rw (eq-eqb (w / 0x80_0000 % 0x100) 0xff h, eq-eqb (w / 0x8000_0000) 0 s)

pub is_end_lem : (w : ℕ) → Marked w → (w / 0x8000_0000 ≡ 0 → ⊥) → unpack_of w ≡ End (w % index_limit) (eqb (w / 0x40_0000 % 2) 1)
unfolding unpack_of
is_end_lem w h s = rw (eq-eqb (w / 0x80_0000 % 0x100) 0xff h, ne_eqb (w / 0x8000_0000) 0 s)

under : (w : ℕ) → (Marked w → ⊥) → w % 0x8000_0000 ≤ 0x7f80_0000
under w h = omega arith

-- a step's word is no NaN's
pub step_real : (w : ℕ) → (Marked w → ⊥) → nan_bits binary32 w ≡ false
step_real w h = nan_bits_above binary32 w ∙ le-ltb 0x7f80_0000 (w % 0x8000_0000) (under w h)

-- ---- the masks of the code

marked_mask : (w : ℕ) → bit_and w 0x7f80_0000 ≡ w / 0x80_0000 % 0x100 * 0x80_0000
marked_mask w = and_high w 8 23

pub marked : (w : ℕ) → bit_and w 0x7f80_0000 ≡ 0x7f80_0000 → Marked w
marked w h = let m = marked_mask w in omega arith

pub unmarked : (w : ℕ) → (bit_and w 0x7f80_0000 ≡ 0x7f80_0000 → ⊥) → Marked w → ⊥
unmarked w h k = h (marked_mask w ∙ ap (λ (x : ℕ). x * 0x80_0000) k)

pub index : (w : ℕ) → bit_and w 0x3f_ffff ≡ w % index_limit
index w = and_mask w 22

sign_mask : (w : ℕ) → bit_and w 0x8000_0000 ≡ w / 0x8000_0000 % 2 * 0x8000_0000
sign_mask w = and_high w 1 31

pub plus : (w : ℕ) → w < 2 ^ 32 → bit_and w 0x8000_0000 ≡ 0 → w / 0x8000_0000 ≡ 0
plus w l h =
    let m = sign_mask w in
    let q : w / 0x8000_0000 < 2 = omega arith in
    let z : w / 0x8000_0000 % 2 ≡ 0 = omega arith in
    sym (mod-eq_of_lt q) ∙ z

pub minus : (w : ℕ) → (bit_and w 0x8000_0000 ≡ 0 → ⊥) → w / 0x8000_0000 ≡ 0 → ⊥
minus w h k = let m = sign_mask w in h (omega arith)

-- a bit, and its weight
bit : (b : ℕ) → b < 2 → not (eqb (b * 0x40_0000) 0) ≡ eqb b 1
bit zero l = refl
bit (suc zero) l = refl
bit (suc (suc b)) l = absurd (omega arith)

pub flag : (w : ℕ) → not (eqb (bit_and w 0x40_0000) 0) ≡ eqb (w / 0x40_0000 % 2) 1
flag w = rw (and_high w 1 22) (bit (w / 0x40_0000 % 2) (omega arith))

-- ---- the words that the code puts together

index_lt : (i : ℕ) → i % index_limit < 2 ^ 22
index_lt i = omega arith

pub start : (i : ℕ) → bit_or (i % index_limit) 0x7f80_0000 ≡ pack_of (Start i)
unfolding pack_of
start i = or_shifted_r 0x1fe 22 (i % index_limit) (index_lt i)

end : (i : ℕ) → bit_or (i % index_limit) 0xff80_0000 ≡ 0xff80_0000 + i % index_limit
end i = or_shifted_r 0x3fe 22 (i % index_limit) (index_lt i)

pub end_plain : (i : ℕ) → bit_or (i % index_limit) 0xff80_0000 ≡ pack_of (End i false)
unfolding pack_of
end_plain i = end i ∙ sym (add-zero (0xff80_0000 + i % index_limit))

-- the flag's bit is the lowest of the ten above the index, and an End's word does not have it
pub end_flagged : (i : ℕ) → bit_or (bit_or (i % index_limit) 0xff80_0000) 0x40_0000 ≡ pack_of (End i true)
unfolding pack_of
end_flagged i =
    let r = i % index_limit in
    ap (λ (x : ℕ). bit_or x 0x40_0000) (end i) ∙ or_block 22 0x3fe 1 r 0 (index_lt i) (lit< tt) ∙ ap (λ (x : ℕ). 0x3ff * 2 ^ 22 + x) (or_zero_r r) ∙ omega arith
