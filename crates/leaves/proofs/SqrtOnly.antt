-- `sqrt32` obeys the laws of IEEE 754's squareRoot, and whatever obeys them is `sqrt32`. Assumes nothing.
use mathlib.Core.Path.{◌≡◌, refl, sym, ap, ◌∙◌, subst}
use mathlib.Core.Bool.{Bool, true, false, not}
use Prim.Native.Nat.{ℕ, zero, suc, ◌*◌, ◌^◌}
use native.Mathlib.Nat.{mul-pos}
use lib.Dec.{T}
use lib.Pow.{pow_pos}
use lib.Ieee.{Float, nan, inf, fin, binary32, units, fits, is_nan, lt}
use lib.Ieee.Bits.{is_true}
use lib.Ieee.Exact.{HasValue, units_val}
use lib.Ieee.Positive.{num, den, den_pos}
use lib.Ieee.Scale.{finite}
use Rattle.rounding.proofs.Distances.{same_float}
use Rattle.rounding.proofs.Packing.{units_fits}
use Rattle.rounding.proofs.RootOnly.{NearRoot, root_worth}
use Rattle.rounding.proofs.Values.{cross, fraction_lt, value_finite, worth, worth_value, worth_cross}
use Rattle.leaves.specs.Single.{zero32}
use Rattle.leaves.specs.Small.{negative_of, is_zero}
use Rattle.leaves.specs.Sqrt.{sqrt32, sqrt_of, NearestRoot}
use Rattle.leaves.specs.SqrtLaws.{SqrtLaws}
use Rattle.leaves.proofs.Comparisons.{zero_is, above_zero, finite_no_nan}
use Rattle.leaves.proofs.Fits.{sqrt_fits}
use Rattle.leaves.proofs.RootNearest.{M, W, of_lower, of_upper, root_nearest}
use Rattle.leaves.proofs.Signs.{sign_of}

-- ---- a nearest root, in smallest values
module _ (x : Float) (F : T (fits binary32 x)) (g : T (finite x)) where
  module _ (r : Float) (h : NearestRoot x r) where
    r_cross : num r * 2 ^ 149 ≡ worth binary32 r * den r
    r_cross = worth_cross binary32 r h.held h.whole

    near : NearRoot binary32 (worth binary32 x * 2 ^ 149) (worth binary32 r)
    unfolding M W
    near q k Q K =
        let y = units binary32 false q k in
        let v = units_val binary32 false q k K in
        let fit = units_fits binary32 false q k Q K in
        let fine = value_finite y false (q * 2 ^ k) (2 ^ 149) v in
        let c = cross y false (q * 2 ^ k) (2 ^ 149) v in
        let D = mul-pos (mul-pos (mul-pos (den_pos r) (den_pos y)) (mul-pos (den_pos r) (den_pos y))) (den_pos x) in
        let xc = worth_cross binary32 x F g in (
          λ l.
              of_lower (num r) (den r) (num y) (den y) (num x) (den x) (worth binary32 r) (q * 2 ^ k) (worth binary32 x) (2 ^ 149) r_cross c xc (pow_pos 149) D
              (h.below y fit fine
              (fraction_lt (num y) (den y) (num r) (den r) (q * 2 ^ k) (worth binary32 r) (2 ^ 149) (mul-pos (den_pos y) (den_pos r)) c r_cross l)),
          λ l.
              of_upper (num r) (den r) (num y) (den y) (num x) (den x) (worth binary32 r) (q * 2 ^ k) (worth binary32 x) (2 ^ 149) r_cross c xc (pow_pos 149) D
              (h.above y fit fine
              (fraction_lt (num r) (den r) (num y) (den y) (worth binary32 r) (q * 2 ^ k) (2 ^ 149) (mul-pos (den_pos r) (den_pos y)) r_cross c l)),
        )

    value : HasValue r false (worth binary32 r) (2 ^ 149)
    value =
        subst (λ (s : Bool). HasValue r s (worth binary32 r) (2 ^ 149))
        (sign_of r h.held (finite_no_nan r (is_true (finite r) h.whole)) ∙ h.unsigned) (worth_value binary32 r h.held h.whole)

  pub nearest_root_only : (r r' : Float) → NearestRoot x r → NearestRoot x r' → r ≡ r'
  nearest_root_only r r' h k =
      same_float binary32 r r' false (worth binary32 r') h.held k.held
      (subst (λ (n : ℕ). HasValue r false n (2 ^ 149))
      (root_worth binary32 x r r' h.held h.whole k.held k.whole (near r h) (near r' k)) (value r h)) (value r' k)

-- ---- what `sqrt32` gives elsewhere
of_nan : (x : Float) → T (is_nan x) → sqrt32 x ≡ nan
unfolding sqrt_of is_nan
of_nan nan h = refl
of_nan (inf s) h = absurd h
of_nan (fin s m e) h = absurd h

of_below : (x : Float) → T (negative_of x) → T (not (is_zero x)) → sqrt32 x ≡ nan
unfolding sqrt_of negative_of is_zero
of_below nan h k = absurd h
of_below (inf true) h k = refl
of_below (inf false) h k = absurd h
of_below (fin s zero e) h k = absurd k
of_below (fin true (suc m) e) h k = refl
of_below (fin false (suc m) e) h k = absurd h

of_zero : (x : Float) → T (is_zero x) → sqrt32 x ≡ x
unfolding sqrt_of is_zero
of_zero nan h = absurd h
of_zero (inf s) h = absurd h
of_zero (fin s zero e) h = refl
of_zero (fin s (suc m) e) h = absurd h

of_infinity : sqrt32 (inf false) ≡ inf false
unfolding sqrt_of
of_infinity = refl

positive : (x : Float) → T (finite x) → T (not (is_zero x)) → T (not (negative_of x)) → T (lt zero32 x)
unfolding is_zero negative_of lt
positive nan g h k = absurd g
positive (inf s) g h k = absurd g
positive (fin s zero e) g h k = absurd h
positive (fin true (suc m) e) g h k = absurd k
positive (fin false (suc m) e) g h k = subst (λ (v : Float). T (lt v (fin false (suc m) e))) (sym zero_is) (subst T (sym (above_zero m e)) tt)

-- ---- the laws
pub sqrt_lawful : (x : Float) → T (fits binary32 x) → SqrtLaws x (sqrt32 x)
sqrt_lawful x F = record {
  held = sqrt_fits x F;
  no_number = of_nan x;
  below_zero = of_below x;
  zeros = of_zero x;
  infinite = λ e. ap sqrt32 e ∙ of_infinity;
  root = λ g h k. root_nearest x F g (positive x g h k);
}

pub sqrt_only : (x r : Float) → T (fits binary32 x) → SqrtLaws x r → r ≡ sqrt32 x
unfolding is_nan is_zero negative_of
sqrt_only nan r F l = l.no_number tt ∙ sym (of_nan nan tt)
sqrt_only (inf true) r F l = l.below_zero tt tt ∙ sym (of_below (inf true) tt tt)
sqrt_only (inf false) r F l = l.infinite refl ∙ sym of_infinity
sqrt_only (fin s zero e) r F l = l.zeros tt ∙ sym (of_zero (fin s zero e) tt)
sqrt_only (fin true (suc m) e) r F l = l.below_zero tt tt ∙ sym (of_below (fin true (suc m) e) tt tt)
sqrt_only (fin false (suc m) e) r F l =
    let x = fin false (suc m) e in
    nearest_root_only x F tt r (sqrt32 x) (l.root tt tt tt) ((sqrt_lawful x F).root tt tt tt)
