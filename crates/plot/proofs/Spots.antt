-- A point in plotter units, from its two coordinates; and signed numbers as the machine holds them. Assumes nothing.
use mathlib.Core.Path.{◌≡◌, refl, sym, ap, ap₂, ◌∙◌, subst}
use mathlib.Core.Bool.{Bool, true, false, ◌&&◌, cond, and-false, and-eq-true_iff}
use lib.IntN.{ℤ}
use lib.Ieee.{Float}
use mir.Syntax.{w32, w64}
use mir.Val.{SFits, to_z, of_z}
use mir.ValLaws.{to_z-of_z}
use mir.Facts.{sfits_widen}
use Rattle.std.specs.Prelude.{Option, Some, None}
use Rattle.units.specs.Whole.{whole_of, printable_of, unit_of}
use Rattle.units.proofs.Nearest.{whole_range}
use Rattle.units.proofs.Units.{range_fits}
use Rattle.units.proofs.Points.{unit_beyond, unit_whole, unit_written}
use Rattle.plot.specs.Plot.{spot_of}

-- ---- a number of 32 bits, and widened to 64
module _ (z : ℤ) (F : SFits w32 z) where
  pub narrow_back : to_z w32 (of_z w32 z) ≡ z
  narrow_back = to_z-of_z w32 z F

  wide : SFits w64 z
  wide = sfits_widen tt F

  pub wide_fits : SFits w64 (to_z w32 (of_z w32 z))
  wide_fits = subst (SFits w64) (sym narrow_back) wide

  pub wide_back : to_z w64 (of_z w64 (to_z w32 (of_z w32 z))) ≡ z
  wide_back = to_z-of_z w64 (to_z w32 (of_z w32 z)) wide_fits ∙ narrow_back

  -- the same of an i64 made from it
  pub widened : (r : ℤ) → r ≡ to_z w32 (of_z w32 z) → to_z w64 (of_z w64 r) ≡ z
  widened r h = ap (λ (n : ℤ). to_z w64 (of_z w64 n)) h ∙ wide_back

-- ---- what the two coordinates are
module _ (x y : Float) where
  abbrev chosen : Bool → Option (ℤ × ℤ)
  chosen b = cond b (Some (whole_of x, whole_of y)) None

  pub no_x : unit_of x ≡ None → None ≡ spot_of x y
  unfolding spot_of
  no_x h = sym (ap (λ (b : Bool). chosen (b && printable_of y)) (unit_beyond x h))

  pub no_y : unit_of y ≡ None → None ≡ spot_of x y
  unfolding spot_of
  no_y h = sym (ap (λ (b : Bool). chosen (printable_of x && b)) (unit_beyond y h) ∙ ap chosen (and-false (printable_of x)))

  pub both : (a b : ℤ) → unit_of x ≡ Some a → unit_of y ≡ Some b → Some (to_z w32 (of_z w32 a), to_z w32 (of_z w32 b)) ≡ spot_of x y
  unfolding spot_of
  both a b h k =
      ap₂ (λ (m n : ℤ). Some (m, n)) (unit_written x a h) (unit_written y b k)
      ∙ sym (ap₂ (λ (s t : Bool). chosen (s && t)) (unit_whole x a h).0 (unit_whole y b k).0)

-- ---- and back: what a found point says of its coordinates, which are as the machine holds them
held : (x : Float) (z : ℤ) → printable_of x ≡ true → z ≡ whole_of x → to_z w32 (of_z w32 z) ≡ whole_of x
held x z h e = ap (λ (n : ℤ). to_z w32 (of_z w32 n)) e ∙ to_z-of_z w32 (whole_of x) (range_fits (whole_of x) (whole_range x h))

spot_cases : (b : Bool) (p : ℤ × ℤ) (x y : ℤ) → Some p ≡ cond b (Some (x, y)) None → (b ≡ true) × (p.0 ≡ x) × (p.1 ≡ y)
spot_cases true p x y h = (refl, cc, cc)
spot_cases false p x y h = (cc, cc, cc)

none_cases : (b : Bool) (p : ℤ × ℤ) → None ≡ cond b (Some p) None → b ≡ false
none_cases true p h = cc
none_cases false p h = refl

pub spot_yes : (x y : Float) (p : ℤ × ℤ) → Some p ≡ spot_of x y
    → (printable_of x && printable_of y ≡ true) × (to_z w32 (of_z w32 p.0) ≡ whole_of x) × (to_z w32 (of_z w32 p.1) ≡ whole_of y)
unfolding spot_of
spot_yes x y p h =
    let s = spot_cases (printable_of x && printable_of y) p (whole_of x) (whole_of y) h in
    let b = (and-eq-true_iff (printable_of x) (printable_of y)).0 s.0 in
    (s.0, held x p.0 b.0 s.1, held y p.1 b.1 s.2)

pub spot_no : (x y : Float) → None ≡ spot_of x y → printable_of x && printable_of y ≡ false
unfolding spot_of
spot_no x y h = none_cases (printable_of x && printable_of y) (whole_of x, whole_of y) h

-- the plotter units of both coordinates, as one argument
abbrev pub spot_at : Float × Float → Option (ℤ × ℤ)
spot_at p = spot_of p.0 p.1
