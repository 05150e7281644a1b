-- `fma32` obeys the laws of IEEE 754's fusedMultiplyAdd, and whatever obeys them is `fma32`. Assumes nothing.
use mathlib.Core.Path.{◌≡◌, refl, sym, ap, ◌∙◌, subst}
use mathlib.Core.Logic.{◌⊎◌, inl, inr}
use mathlib.Core.Bool.{Bool, true, false, not, ◌&&◌, ◌||◌, cond}
use Prim.Native.Nat.{ℕ, zero, suc, ◌-◌, ◌*◌, ◌^◌, ◌≤◌, ◌<◌}
use lib.IntN.{ℤ, nat_abs}
use lib.Dec.{T, leb, eqb-suc-zero}
use lib.Ieee.{Float, nan, inf, fin, binary32, unlike, is_nan, add, mul, to_bits, top}
use lib.Ieee.Bits.{is_true}
use lib.Ieee.Scale.{finite}
use Rattle.rounding.specs.Nearest.{signed, limit, NearestTo}
use Rattle.rounding.proofs.Basics.{le_or_lt}
use Rattle.rounding.proofs.Distances.{abs_signed}
use Rattle.rounding.proofs.NearestOnly.{nearest_only}
use Rattle.rounding.proofs.Overflow.{round_overflows, round_stays}
use Rattle.leaves.specs.Exact.{exact_num, exact_den}
use Rattle.leaves.specs.Fma.{fma32, fma_of}
use Rattle.leaves.specs.FmaLaws.{inf_product, product_sign, sign_or, exact_sign, FmaFinite, FmaLaws}
use Rattle.leaves.specs.Small.{negative_of, is_inf, is_zero}
use Rattle.leaves.proofs.Fits.{fma_fits}
use Rattle.leaves.proofs.FmaNearest.{fma_rounds, fma_nearest, exact_den_pos, round_sign}
use Rattle.leaves.proofs.Signs.{sign_of}
use Rattle.leaves.proofs.Comparisons.{finite_no_nan}

-- ---- what `fma32` gives where not all three are finite
add_nan : (x : Float) → add binary32 x nan ≡ nan
unfolding add
add_nan nan = refl
add_nan (inf s) = refl
add_nan (fin s m e) = refl

module _ (z : Float) where
  nan_times : (x y : Float) → T (is_nan x || is_nan y) → fma32 x y z ≡ nan
  unfolding fma_of is_nan mul add
  nan_times nan y h = refl
  nan_times (inf s) nan h = refl
  nan_times (inf s) (inf t) h = absurd h
  nan_times (inf s) (fin t n d) h = absurd h
  nan_times (fin s m e) nan h = refl
  nan_times (fin s m e) (inf t) h = absurd h
  nan_times (fin s m e) (fin t n d) h = absurd h

  zero_times : (x y : Float) → T (is_zero x && is_inf y || is_inf x && is_zero y) → fma32 x y z ≡ nan
  unfolding fma_of is_zero is_inf mul add
  zero_times nan y h = absurd h
  zero_times (inf s) nan h = absurd h
  zero_times (inf s) (inf t) h = absurd h
  zero_times (inf s) (fin t zero d) h = refl
  zero_times (inf s) (fin t (suc n) d) h = absurd h
  zero_times (fin s zero e) nan h = absurd h
  zero_times (fin s zero e) (inf t) h = refl
  zero_times (fin s zero e) (fin t n d) h = absurd h
  zero_times (fin s (suc m) e) nan h = absurd h
  zero_times (fin s (suc m) e) (inf t) h = absurd h
  zero_times (fin s (suc m) e) (fin t n d) h = absurd h

  inf_times : (x y : Float) → T (inf_product x y) → fma32 x y z ≡ add binary32 (inf (product_sign x y)) z
  unfolding fma_of inf_product product_sign negative_of is_zero is_inf is_nan mul
  inf_times nan nan h = absurd h
  inf_times nan (inf t) h = absurd h
  inf_times nan (fin t zero d) h = absurd h
  inf_times nan (fin t (suc n) d) h = absurd h
  inf_times (inf s) nan h = absurd h
  inf_times (inf s) (inf t) h = refl
  inf_times (inf s) (fin t zero d) h = absurd h
  inf_times (inf s) (fin t (suc n) d) h = ap (λ (b : Bool). add binary32 (cond b nan (inf (unlike s t))) z) (eqb-suc-zero n)
  inf_times (fin s zero e) nan h = absurd h
  inf_times (fin s zero e) (inf t) h = absurd h
  inf_times (fin s zero e) (fin t n d) h = absurd h
  inf_times (fin s (suc m) e) nan h = absurd h
  inf_times (fin s (suc m) e) (inf t) h = ap (λ (b : Bool). add binary32 (cond b nan (inf (unlike s t))) z) (eqb-suc-zero m)
  inf_times (fin s (suc m) e) (fin t n d) h = absurd h

nan_plus : (x y z : Float) → T (is_nan z) → fma32 x y z ≡ nan
unfolding fma_of is_nan
nan_plus nan y nan h = refl
nan_plus (inf s) y nan h = add_nan (mul binary32 (inf s) y)
nan_plus (fin s m e) nan nan h = refl
nan_plus (fin s m e) (inf t) nan h = add_nan (mul binary32 (fin s m e) (inf t))
nan_plus (fin s m e) (fin t n d) nan h = refl
nan_plus x y (inf u) h = absurd h
nan_plus x y (fin u o g) h = absurd h

inf_plus : (x y z : Float) → T (finite x) → T (finite y) → T (is_inf z) → fma32 x y z ≡ z
unfolding fma_of is_inf
inf_plus (fin s m e) (fin t n d) (inf u) X Y h = refl
inf_plus (fin s m e) (fin t n d) nan X Y h = absurd h
inf_plus (fin s m e) (fin t n d) (fin u o g) X Y h = absurd h
inf_plus nan y z X Y h = absurd X
inf_plus (inf s) y z X Y h = absurd X
inf_plus (fin s m e) nan z X Y h = absurd Y
inf_plus (fin s m e) (inf t) z X Y h = absurd Y

-- an infinite product and an addend
inf_and_finite : (p : Bool) (z : Float) → T (finite z) → add binary32 (inf p) z ≡ inf p
unfolding add
inf_and_finite p nan h = absurd h
inf_and_finite p (inf u) h = absurd h
inf_and_finite p (fin u o g) h = refl

inf_and_like : (p : Bool) → add binary32 (inf p) (inf p) ≡ inf p
unfolding add
inf_and_like true = refl
inf_and_like false = refl

inf_and_unlike : (p : Bool) → add binary32 (inf p) (inf (not p)) ≡ nan
unfolding add
inf_and_unlike true = refl
inf_and_unlike false = refl

same_inf : (v w : Float) → T (is_inf v) → T (is_inf w) → negative_of v ≡ negative_of w → v ≡ w
unfolding is_inf negative_of
same_inf (inf s) (inf t) h g e = ap inf e
same_inf nan w h g e = absurd h
same_inf (fin s m e) w h g i = absurd h
same_inf (inf s) nan h g e = absurd g
same_inf (inf s) (fin t n d) h g e = absurd g

-- ---- three finite values
module _ (x y z : Float) (X : T (finite x)) (Y : T (finite y)) (Z : T (finite z)) where
  D : 0 < exact_den x y z
  D = exact_den_pos x y z

  size_is : nat_abs (exact_num x y z) ≡ (fma_rounds x y z X Y Z).M
  size_is = let r = fma_rounds x y z X Y Z in ap nat_abs (sym r.exact) ∙ abs_signed r.S r.M

  sign_from : (S : Bool) (M : ℕ) (s : Bool) → (M ≡ 0 → S ≡ s) → S ≡ sign_or s (signed S M)
  sign_from true zero s h = h refl
  sign_from true (suc m) s h = refl
  sign_from false zero s h = h refl
  sign_from false (suc m) s h = refl

  finite_lawful : FmaFinite x y z (fma32 x y z)
  unfolding limit exact_sign product_sign is_inf
  finite_lawful =
      let r = fma_rounds x y z X Y Z in
      let s = unlike (negative_of x) (negative_of y) && negative_of z in
      record {
        overflows = λ l.
            subst (λ (v : Float). T (is_inf v))
            (sym (r.is ∙ round_overflows binary32 r.S r.M (exact_den x y z) D
            (subst (λ (k : ℕ). (2 ^ 128 - 2 ^ 103) * exact_den x y z ≤ k) size_is l))) tt;
        rounds = λ l.
            fma_nearest x y z X Y Z
            (subst (λ (v : Float). T (finite v)) (sym r.is)
            (round_stays binary32 r.S r.M (exact_den x y z) D (subst (λ (k : ℕ). k < (2 ^ 128 - 2 ^ 103) * exact_den x y z) size_is l)));
        sign =
            ap negative_of r.is ∙ round_sign binary32 r.S r.M (exact_den x y z) ∙ sign_from r.S r.M s r.at_zero
            ∙ ap (λ (k : ℤ). sign_or s k) r.exact;
      }

  finite_only : (r r' : Float) → FmaFinite x y z r → FmaFinite x y z r' → r ≡ r'
  finite_only r r' h g = elim (le_or_lt ((2 ^ 128 - 2 ^ 103) * exact_den x y z) (nat_abs (exact_num x y z))) [
    | inl l ↦ same_inf r r' (h.overflows l) (g.overflows l) (h.sign ∙ sym g.sign)
    | inr l ↦
        nearest_only binary32 (exact_num x y z) (exact_den x y z) D r r' (h.rounds l) (g.rounds l)
        (inl (bit r (h.rounds l) ∙ h.sign ∙ sym (bit r' (g.rounds l) ∙ g.sign)))
  ]
    where
      bit : (v : Float) → NearestTo binary32 (exact_num x y z) (exact_den x y z) v → leb (top binary32) (to_bits binary32 v) ≡ negative_of v
      bit v n = sign_of v n.held (finite_no_nan v (is_true (finite v) n.whole))

-- ---- the laws
which : (x y : Float) → T (is_nan x || is_nan y) ⊎ (T (is_zero x && is_inf y || is_inf x && is_zero y) ⊎ (T (inf_product x y) ⊎ (T (finite x) × T (finite y))))
unfolding inf_product is_zero is_inf is_nan
which nan y = inl tt
which (inf s) nan = inl tt
which (inf s) (inf t) = inr (inr (inl tt))
which (inf s) (fin t zero d) = inr (inl tt)
which (inf s) (fin t (suc n) d) = inr (inr (inl tt))
which (fin s m e) nan = inl tt
which (fin s zero e) (inf t) = inr (inl tt)
which (fin s (suc m) e) (inf t) = inr (inr (inl tt))
which (fin s m e) (fin t n d) = inr (inr (inr (tt, tt)))

pub fma_lawful : (x y z : Float) → FmaLaws x y z (fma32 x y z)
fma_lawful x y z =
    let p = product_sign x y in
    record {
      held = fma_fits x y z;
      nan_factor = nan_times z x y;
      nan_addend = nan_plus x y z;
      no_product = zero_times z x y;
      no_sum = λ h e. inf_times z x y h ∙ ap (add binary32 (inf p)) e ∙ inf_and_unlike p;
      product_wins = λ h k. inf_times z x y h ∙ inf_and_finite p z k;
      infinities_agree = λ h e. inf_times z x y h ∙ ap (add binary32 (inf p)) e ∙ inf_and_like p;
      addend_wins = inf_plus x y z;
      finites = finite_lawful x y z;
    }

by_product : (x y z r : Float) → FmaLaws x y z r → T (inf_product x y) → r ≡ add binary32 (inf (product_sign x y)) z
unfolding is_nan
by_product x y nan r l h = l.nan_addend tt ∙ sym (add_nan (inf (product_sign x y)))
by_product x y (fin u o g) r l h = l.product_wins h tt ∙ sym (inf_and_finite (product_sign x y) (fin u o g) tt)
by_product x y (inf u) r l h = elim (like_or_not u (product_sign x y)) [
  | inl e ↦ l.infinities_agree h (ap inf e) ∙ sym (ap (λ (s : Bool). add binary32 (inf (product_sign x y)) (inf s)) e ∙ inf_and_like (product_sign x y))
  | inr e ↦ l.no_sum h (ap inf e) ∙ sym (ap (λ (s : Bool). add binary32 (inf (product_sign x y)) (inf s)) e ∙ inf_and_unlike (product_sign x y))
]
  where
    like_or_not : (u p : Bool) → (u ≡ p) ⊎ (u ≡ not p)
    like_or_not true true = inl refl
    like_or_not true false = inr refl
    like_or_not false true = inr refl
    like_or_not false false = inl refl

by_addend : (x y z r : Float) → FmaLaws x y z r → T (finite x) → T (finite y) → r ≡ fma32 x y z
unfolding is_nan is_inf
by_addend x y nan r l X Y = l.nan_addend tt ∙ sym (nan_plus x y nan tt)
by_addend x y (inf u) r l X Y = l.addend_wins X Y tt ∙ sym (inf_plus x y (inf u) X Y tt)
by_addend x y (fin u o g) r l X Y =
    let z = fin u o g in finite_only x y z X Y tt r (fma32 x y z) (l.finites X Y tt) (finite_lawful x y z X Y tt)

pub fma_only : (x y z r : Float) → FmaLaws x y z r → r ≡ fma32 x y z
fma_only x y z r l = elim (which x y) [
  | inl h ↦ l.nan_factor h ∙ sym (nan_times z x y h)
  | inr o ↦ elim o [
    | inl h ↦ l.no_product h ∙ sym (zero_times z x y h)
    | inr o ↦ elim o [ inl h ↦ by_product x y z r l h ∙ sym (inf_times z x y h) | inr h ↦ by_addend x y z r l h.0 h.1 ]
  ]
]
