-- `listing::field_at` meets its contract: a field is refused at its first missing part. Assumes nothing.
use mathlib.Core.Path.{◌≡◌, sym, ap, ◌∙◌}
use mathlib.Core.Bool.{Bool, true, false}
use mathlib.Core.List.{List, [], ◌∷◌}
use Prim.Native.Nat.{ℕ, ◌+◌}
use native.Mathlib.Omega.{arith}
use Rattle.text.specs.Bytes.{stands_at}
use Rattle.text.proofs.Standing.{stands_inside}
use Rattle.std.specs.Prelude.{Some, None}
use Rattle.listing.proofs.FieldLaws.{no_key, no_equals, no_number, no_end, all_there}
use Rattle.listing.proofs.fields.field_at.Goals as goal

-- the line end's place, eight after the digits' start
line_end : (text : List ℕ) (at n : ℕ) (b : Bool) → stands_at text (at + n + 1 + 8) (0x0a ∷ []) ≡ b → stands_at text (at + n + 9) (0x0a ∷ []) ≡ b
line_end text at n b h = let p : at + n + 9 ≡ at + n + 1 + 8 = omega arith in ap (λ (m : ℕ). stands_at text m (0x0a ∷ [])) p ∙ h

pub returns-then-not-stands_at : goal.returns-then-not-stands_at
returns-then-not-stands_at c = no_key _ _ _ (sym c.stands_at.ensures ∙ c.if-not-stands_at.true)

pub returns-then-not-byte_stands_at : goal.returns-then-not-byte_stands_at
returns-then-not-byte_stands_at c = no_equals _ _ _ (sym c.byte_stands_at.ensures ∙ c.if-not-byte_stands_at.true)

pub overflow_add-digits : goal.overflow_add-digits
overflow_add-digits c =
    omega (
      arith,
      stands_inside _ _ (0x3d ∷ []) (omega arith) (sym c.byte_stands_at.ensures ∙ c.if-not-byte_stands_at.false),
    )

pub overflow_add-digits-2 : goal.overflow_add-digits-2
overflow_add-digits-2 c =
    omega (
      arith,
      stands_inside _ _ (0x3d ∷ []) (omega arith) (sym c.byte_stands_at.ensures ∙ c.if-not-byte_stands_at.false),
    )

pub returns-in_err-bits : goal.returns-in_err-bits
returns-in_err-bits c =
    let gone : c.from_residual.result ≡ None = grind arith in gone ∙ no_number _ _ _ (sym c.hex_at.ensures ∙ c.in_err-bits.was)

pub returns-then-not-byte_stands_at-2 : goal.returns-then-not-byte_stands_at-2
returns-then-not-byte_stands_at-2 c = no_end _ _ _ (line_end _ _ _ false (sym c.byte_stands_at-2.ensures ∙ c.if-not-byte_stands_at-2.true))

pub returns : goal.returns
returns c =
    ap Some c.from_bits.ensures
    ∙ all_there _ _ _ _ (sym c.stands_at.ensures ∙ c.if-not-stands_at.false)
    (sym c.byte_stands_at.ensures ∙ c.if-not-byte_stands_at.false)
    (sym c.hex_at.ensures ∙ c.in_ok-bits.was)
    (line_end _ _ _ true (sym c.byte_stands_at-2.ensures ∙ c.if-not-byte_stands_at-2.false))
