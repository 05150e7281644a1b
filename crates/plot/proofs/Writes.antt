-- The parts of a move, written one after another. Assumes nothing.
use mathlib.Core.Path.{◌≡◌, sym, ap, ◌∙◌}
use mathlib.Core.Bool.{Bool}
use mathlib.Core.List.{List, [], ◌∷◌, ◌++◌, append_assoc}
use Prim.Native.Nat.{ℕ, ◌+◌}
use native.Mathlib.Nat.{add-zero}
use native.Mathlib.Omega.{arith}
use lib.IntN.{ℤ}
use lib.ListN.{length, set, length-append}
use lib.Seq.{sets}
use Rattle.text.specs.Signed.{signed_of}
use Rattle.text.specs.Written.{WrittenAs}
use Rattle.text.proofs.Stores.{sets_append}
use Rattle.text.proofs.Written.{written_then, written_same}
use Rattle.contours.specs.Finished.{Position}
use Rattle.plot.specs.Text.{move_of, pen_of}
use Rattle.plot.proofs.Measure.{pen_length}

pub pen_written : (up pen : Bool) (b b' : List ℕ) (at : ℕ) → up ≡ pen → b' ≡ sets b at (pen_of pen ++ (0x20 ∷ [])) → WrittenAs (pen_of up ++ (0x20 ∷ [])) b at b' (at + 3)
pen_written up pen b b' at e h =
    record {
      stored = h ∙ ap (λ (t : Bool). sets b at (pen_of t ++ (0x20 ∷ []))) (sym e);
      next = omega (arith, length-append (pen_of up) (0x20 ∷ []), pen_length up);
    }

pub number_written : (z n : ℤ) (b b' b'' : List ℕ) (at d after : ℕ) → n ≡ z → d ≡ length (signed_of n) → b' ≡ sets b at (signed_of n) → b'' ≡ set b' (at + d + 0) after
    → WrittenAs (signed_of z ++ (after ∷ [])) b at b'' (at + d + 1)
number_written z n b b' b'' at d after e k h l =
    let m : d ≡ length (signed_of z) = k ∙ ap (λ (v : ℤ). length (signed_of v)) e in
    record {
      stored =
          l
          ∙ ap (λ (i : ℕ). set b' i after) (add-zero (at + d) ∙ ap (λ (i : ℕ). at + i) m)
          ∙ ap (λ (x : List ℕ). set x (at + length (signed_of z)) after) (h ∙ ap (λ (v : ℤ). sets b at (signed_of v)) e)
          ∙ sym (sets_append b at (signed_of z) (after ∷ []));
      next = omega (arith, m, length-append (signed_of z) (after ∷ []));
    }

-- the letters and the blank, then x and a comma, then y and a semicolon
module _ (up : Bool) (p : Position ℤ) where
  abbrev pen : List ℕ
  pen = pen_of up

  abbrev x : List ℕ
  x = signed_of p.x

  abbrev y : List ℕ
  y = signed_of p.y

  move_parts : (pen ++ (0x20 ∷ [])) ++ ((x ++ (0x2c ∷ [])) ++ (y ++ (0x3b ∷ []))) ≡ move_of pen p
  unfolding move_of
  move_parts =
      append_assoc pen (0x20 ∷ []) ((x ++ (0x2c ∷ [])) ++ (y ++ (0x3b ∷ [])))
      ∙ ap (λ (l : List ℕ). pen ++ (0x20 ∷ l)) (append_assoc x (0x2c ∷ []) (y ++ (0x3b ∷ [])))

  pub move_written : (a b : ℤ) (b0 b1 b2 b3 : List ℕ) (at n1 n2 n3 : ℕ) → a ≡ p.x → b ≡ p.y → WrittenAs (pen ++ (0x20 ∷ [])) b0 at b1 n1
      → WrittenAs (signed_of a ++ (0x2c ∷ [])) b1 n1 b2 n2 → WrittenAs (signed_of b ++ (0x3b ∷ [])) b2 n2 b3 n3 → WrittenAs (move_of pen p) b0 at b3 n3
  move_written a b b0 b1 b2 b3 at n1 n2 n3 e f w v u =
      written_same _ (move_of pen p) b0 b3 at n3 move_parts
      (written_then (pen ++ (0x20 ∷ [])) ((x ++ (0x2c ∷ [])) ++ (y ++ (0x3b ∷ []))) b0 b1 b3 at n1 n3 w
      (written_then (x ++ (0x2c ∷ [])) (y ++ (0x3b ∷ [])) b1 b2 b3 n1 n2 n3
      (written_same _ _ b1 b2 n1 n2 (ap (λ (z : ℤ). signed_of z ++ (0x2c ∷ [])) e) v)
      (written_same _ _ b2 b3 n2 n3 (ap (λ (z : ℤ). signed_of z ++ (0x3b ∷ [])) f) u)))
