-- Laws of the packed words: unpacking gives back what was packed, packing gives back every word but 7FC00000 to 7FFFFFFF, and only a NaN step has the word
-- 7FC00000. Assumes nothing.
use Prim.Native.Nat.{ℕ, ◌+◌, ◌/◌, ◌%◌, ◌^◌, ◌<◌, ◌≤◌}
use mathlib.Core.Path.{◌≡◌, refl, sym, ◌∙◌, ap, subst}
use mathlib.Core.Logic.{◌⊎◌, inl, inr}
use mathlib.Core.Bool.{Bool, true, false, not, cond}
use native.Mathlib.Nat.{mod-eq_of_lt}
use native.Mathlib.Omega.{arith}
use lib.Dec.{T, eqb, leb}
use lib.Ieee.{Float, nan, inf, fin, binary32, fits, is_nan, of_bits, to_bits, of_fields}
use lib.Ieee.Bits.{of_bits-to_bits, to_bits-of_bits, nan_bits_is}
use lib.Ieee.Scale.{finite}
use borrow.Author.Tests.{eqb-true, eqb-false}
use Rattle.leaves.specs.Bits.{bits_of, float_of}
use Rattle.command.specs.declared.PointCommand.{PointCommand}
use Rattle.command.specs.declared.PointCommand.TheVariants.{Start, Incr, End}
use Rattle.command.specs.Packing.{index_limit, pack_of, unpack_of}
use Rattle.command.proofs.Fields.{Marked, is_step, is_start, is_end_lem, step_real}

-- P9: the highest spline number, and the flagged End of it
pub highest : (pack_of (Start 4194303) ≡ 0x7fbf_ffff) × (pack_of (End 4194303 true) ≡ 0xffff_ffff)
unfolding pack_of
highest = (refl, refl)

-- ---- unpack_of (pack_of c) ≡ c

start_word : (i : ℕ) → i < index_limit → pack_of (Start i) ≡ 0x7f80_0000 + i
unfolding pack_of
start_word i h = rw (mod-eq_of_lt h)

start_back : (i : ℕ) → i < index_limit → unpack_of (pack_of (Start i)) ≡ Start i
start_back i h =
    ap unpack_of (start_word i h) ∙ is_start (0x7f80_0000 + i) (omega arith) (omega arith) ∙ ap Start (let e : (0x7f80_0000 + i) % index_limit ≡ i = omega arith in e)

-- an End's word: e is the index, with the flag's bit if it is flagged
end_word : (i : ℕ) (flag : Bool) → i < index_limit → pack_of (End i flag) ≡ 0xff80_0000 + (i + cond flag 0x40_0000 0)
unfolding pack_of
end_word i flag h = rw (mod-eq_of_lt h) (omega arith)

module _ (e : ℕ) (h : e < 0x80_0000) where
  end_marked : Marked (0xff80_0000 + e)
  end_marked = let q : (0xff80_0000 + e) / 0x80_0000 ≡ 511 = omega arith in ap (λ (x : ℕ). x % 0x100) q

  end_sign : (0xff80_0000 + e) / 0x8000_0000 ≡ 0 → ⊥
  end_sign k = omega arith

  end_reads : unpack_of (0xff80_0000 + e) ≡ End ((0xff80_0000 + e) % index_limit) (eqb ((0xff80_0000 + e) / 0x40_0000 % 2) 1)
  end_reads = is_end_lem (0xff80_0000 + e) end_marked end_sign

end_back : (i : ℕ) (flag : Bool) → i < index_limit → unpack_of (pack_of (End i flag)) ≡ End i flag
end_back i false h =
    let w = 0xff80_0000 + (i + 0) in
    let e : w % index_limit ≡ i = omega arith in
    let q : w / 0x40_0000 ≡ 1022 = omega arith in
    ap unpack_of (end_word i false h) ∙ end_reads (i + 0) (omega arith) ∙ rw (e, q)
end_back i true h =
    let w = 0xff80_0000 + (i + 0x40_0000) in
    let e : w % index_limit ≡ i = omega arith in
    let q : w / 0x40_0000 ≡ 1023 = omega arith in
    ap unpack_of (end_word i true h) ∙ end_reads (i + 0x40_0000) (omega arith) ∙ rw (e, q)

-- the fields of a marked word are those of an infinity or a NaN
all_ones : (s : Bool) (t : ℕ) → finite (of_fields binary32 s 0xff t) ≡ false
unfolding of_fields
all_ones s t = go (eqb t 0)
  where
    go : (b : Bool) → finite (cond b (inf s) nan) ≡ false
    go true = refl
    go false = refl

marked_field : (w : ℕ) → Marked w → w % 0x8000_0000 / 0x80_0000 ≡ 0xff
marked_field w h = omega arith

no_step : (w : ℕ) → Marked w → finite (of_bits binary32 w) ≡ false
unfolding of_bits
no_step w h = rw (marked_field w h) (all_ones (leb 0x8000_0000 w) (w % 0x80_0000))

finite_real : (x : Float) → T (finite x) → bits_of x ≡ to_bits binary32 x
unfolding bits_of is_nan
finite_real nan h = absurd h
finite_real (inf s) h = absurd h
finite_real (fin s m e) h = refl

step_back : (step : Float) → T (fits binary32 step) → T (finite step) → unpack_of (pack_of (Incr step)) ≡ Incr step
unfolding pack_of float_of
step_back step f h =
    let e = of_bits-to_bits binary32 step f in
    let u : Marked (to_bits binary32 step) → ⊥ = λ k. subst T (sym (ap finite e) ∙ no_step (to_bits binary32 step) k) h in
    ap unpack_of (finite_real step h) ∙ is_step (to_bits binary32 step) u ∙ ap Incr e

-- an index below the limit, or a finite step
abbrev pub Packs : PointCommand → Type 0
Packs (Start i) = i < index_limit
Packs (Incr step) = T (fits binary32 step) × T (finite step)
Packs (End i flag) = i < index_limit

pub command_back : (c : PointCommand) → Packs c → unpack_of (pack_of c) ≡ c
command_back (Start i) h = start_back i h
command_back (Incr step) h = step_back step h.0 h.1
command_back (End i flag) h = end_back i flag h

-- ---- pack_of (unpack_of w) ≡ w

flag_back : (w : ℕ) (b : Bool) → eqb (w / 0x40_0000 % 2) 1 ≡ b → 0xff80_0000 ≤ w → w < 2 ^ 32 → pack_of (End (w % index_limit) b) ≡ w
unfolding pack_of
flag_back w true f lo hi =
    let b = eqb-true (w / 0x40_0000 % 2) 1 f in
    let q : w / 0x40_0000 ≡ 1023 = omega arith in
    omega arith
flag_back w false f lo hi =
    let b = eqb-false (w / 0x40_0000 % 2) 1 f in
    let q : w / 0x40_0000 ≡ 1022 = omega arith in
    omega arith

step_word : (w : ℕ) → w < 2 ^ 32 → (Marked w → ⊥) → pack_of (Incr (float_of w)) ≡ w
unfolding pack_of float_of bits_of
step_word w l u =
    let r : is_nan (of_bits binary32 w) ≡ false = sym (nan_bits_is binary32 w) ∙ step_real w u in
    rw r (to_bits-of_bits binary32 w l (subst (λ (b : Bool). T (not b)) (sym r) tt))

start_again : (w : ℕ) → Marked w → w / 0x8000_0000 ≡ 0 → w < 0x7fc0_0000 → pack_of (Start (w % index_limit)) ≡ w
unfolding pack_of
start_again w m s h =
    let q : w / 0x80_0000 ≡ 0xff = omega arith in
    omega arith

marked_end : (w : ℕ) → Marked w → w < 2 ^ 32 → (w / 0x8000_0000 ≡ 0 → ⊥) → 0xff80_0000 ≤ w
marked_end w m l s = omega arith

low_plus : (w : ℕ) → w / 0x8000_0000 ≡ 0 → (w < 0x7fc0_0000) ⊎ (0x7fff_ffff < w) → w < 0x7fc0_0000
low_plus w s (inl h) = h
low_plus w s (inr h) = absurd (omega arith)

pub word_back : (w : ℕ) → w < 2 ^ 32 → (w < 0x7fc0_0000) ⊎ (0x7fff_ffff < w) → pack_of (unpack_of w) ≡ w
word_back w l h = by_mark (eqb (w / 0x80_0000 % 0x100) 0xff) refl
  where
    by_sign : Marked w → (b : Bool) → eqb (w / 0x8000_0000) 0 ≡ b → pack_of (unpack_of w) ≡ w
    by_sign m true e =
        let s = eqb-true (w / 0x8000_0000) 0 e in
        ap pack_of (is_start w m s) ∙ start_again w m s (low_plus w s h)
    by_sign m false e =
        let s = eqb-false (w / 0x8000_0000) 0 e in
        ap pack_of (is_end_lem w m s) ∙ flag_back w (eqb (w / 0x40_0000 % 2) 1) refl (marked_end w m l s) l

    by_mark : (b : Bool) → eqb (w / 0x80_0000 % 0x100) 0xff ≡ b → pack_of (unpack_of w) ≡ w
    by_mark true e = by_sign (eqb-true (w / 0x80_0000 % 0x100) 0xff e) (eqb (w / 0x8000_0000) 0) refl
    by_mark false e =
        let u = eqb-false (w / 0x80_0000 % 0x100) 0xff e in
        ap pack_of (is_step w u) ∙ step_word w l u

-- ---- 7FC00000 is written for a NaN step alone

nan_bits_lem : (x : Float) → T (fits binary32 x) → bits_of x ≡ 0x7fc0_0000 → x ≡ nan
unfolding bits_of is_nan of_bits
nan_bits_lem nan f h = refl
nan_bits_lem (inf s) f h = sym (of_bits-to_bits binary32 (inf s) f) ∙ ap (of_bits binary32) h
nan_bits_lem (fin s m e) f h = sym (of_bits-to_bits binary32 (fin s m e) f) ∙ ap (of_bits binary32) h

-- an f32 of the code is always a value of the format, so every command of the code has this
abbrev pub Holds : PointCommand → Type 0
Holds (Start i) = Unit {0}
Holds (Incr step) = T (fits binary32 step)
Holds (End i flag) = Unit {0}

pub only_nan : (c : PointCommand) → Holds c → pack_of c ≡ 0x7fc0_0000 → c ≡ Incr nan
unfolding pack_of
only_nan (Start i) f h = absurd (omega arith)
only_nan (Incr step) f h = ap Incr (nan_bits_lem step f h)
only_nan (End i flag) f h = absurd (omega arith)

pub nan_word : pack_of (Incr nan) ≡ 0x7fc0_0000
unfolding pack_of bits_of is_nan
nan_word = refl
