-- `text::put_digits` meets its contract: the digits left are those of what is left of the number. Assumes nothing.
use mathlib.Core.Path.{◌≡◌, refl, sym, ap, ◌∙◌}
use mathlib.Core.List.{List}
use Prim.Native.Nat.{ℕ, suc, ◌+◌, ◌-◌, ◌/◌, ◌%◌, ◌≤◌, ◌<◌}
use native.Mathlib.Omega.{arith}
use lib.ListN.{set}
use lib.Seq.{sets}
use Rattle.text.specs.Hex.{hex_digit_of}
use Rattle.text.specs.Digits.{digits_of}
use Rattle.text.proofs.Bases.{digits_of-length}
use Rattle.text.proofs.Stores.{sets_last}
use Rattle.text.proofs.digits.put_digits.Goals as goal

module _ (base : ℕ) (buffer : List ℕ) (at left rest : ℕ) where
  on : (all after : List ℕ) (d : ℕ) → 0 < left → all ≡ sets buffer at (digits_of base left rest) → d ≡ hex_digit_of (rest % base) → after ≡ set buffer (at + (left - 1)) d → all ≡ sets after at (digits_of base (left - 1) (rest / base))
  unfolding digits_of
  on all after d h whole e w =
      let k : left ≡ suc (left - 1) = omega arith in
      let before = digits_of base (left - 1) (rest / base) in
      whole
      ∙ ap (λ (m : ℕ). sets buffer at (digits_of base m rest)) k
      ∙ sets_last buffer at before (hex_digit_of (rest % base))
      ∙ ap (λ (m : ℕ). sets (set buffer (at + m) (hex_digit_of (rest % base))) at before) (digits_of-length base (left - 1) (rest / base))
      ∙ ap (λ (v : ℕ). sets (set buffer (at + (left - 1)) v) at before) (sym e)
      ∙ ap (λ (l : List ℕ). sets l at before) (sym w)

  done : (all : List ℕ) → left ≤ 0 → all ≡ sets buffer at (digits_of base left rest) → buffer ≡ all
  unfolding digits_of
  done all h whole = let k : left ≡ 0 = omega arith in sym (whole ∙ ap (λ (m : ℕ). sets buffer at (digits_of base m rest)) k)

pub loop-left-init : goal.loop-left-init
loop-left-init g c = refl

pub loop-left-preserved : goal.loop-left-preserved
loop-left-preserved g c = on _ _ _ _ _ _ _ _ c.loop-left-test.true c.loop-left.invariant c.digit.ensures c.put_byte.ensures

pub returns : goal.returns
returns g c = done g.row.BASE _ _ _ _ _ c.loop-left-test.false c.loop-left.invariant
