-- Flattening's test for answer 3. The invariant of its loops: testing what is left gives what testing the whole gives. The parts joined are the definition.
-- Assumes nothing.
use Prim.Native.Nat.{ℕ, ◌+◌, ◌-◌, ◌≤◌}
use native.Mathlib.Omega.{arith}
use mathlib.Core.Path.{◌≡◌, refl, sym, ap, ◌∙◌}
use mathlib.Core.Bool.{Bool, true, false, ◌&&◌, and_assoc}
use mathlib.Core.List.{List, [], ◌∷◌}
use lib.ListN.{get_or, take}
use lib.Dec.{leb, eqb}
use lib.Ieee.{Float}
use borrow.Author.Tests.{eqb-true, eqb-false, eq-eqb, ne_eqb, leb-true, leb-false}
use Rattle.std.proofs.Common.{Option, Some, None, fold, cond, ◌++◌}
use Rattle.std.specs.Option.{option_eq}
use Rattle.std.specs.List.{list_all}
use Rattle.std.proofs.lemmas.List.Sums.{fold-append}
use Rattle.store.specs.declared.StoreState.{StoreState}
use Rattle.store.specs.Columns.{Columns, uses_of, usable_of, move_command}
use Rattle.store.specs.Drawing.{every, weight_ok_of}
use Rattle.store.specs.Drawable.{stored_ok_of, known_of, total_uses_of, drawable_of}

-- ---- a sum of uses, tested by what is left
eqb_less : (u t m : ℕ) → u ≤ m → eqb (u + t) m ≡ eqb t (m - u)
eqb_less u t m h = go (eqb (u + t) m) refl
  where
    go : (b : Bool) → eqb (u + t) m ≡ b → b ≡ eqb t (m - u)
    go true e = let q = eqb-true (u + t) m e in sym (eq-eqb t (m - u) (omega arith))
    go false e = sym (ne_eqb t (m - u) (λ q. eqb-false (u + t) m e (omega arith)))

eqb_sym : (a b : ℕ) → eqb a b ≡ eqb b a
eqb_sym a b = go (eqb a b) refl
  where
    go : (t : Bool) → eqb a b ≡ t → t ≡ eqb b a
    go true e = let q = eqb-true a b e in sym (eq-eqb b a (sym q))
    go false e = sym (ne_eqb b a (λ q. eqb-false a b e (sym q)))

-- ---- the tests as the library's words say them
pub known_all : (l : List ℕ) → list_all (λ (k : ℕ). leb k 3) l ≡ known_of l
unfolding known_of
known_all [] = refl
known_all (k ∷ l) = ap (λ (b : Bool). leb k 3 && b) (known_all l)

pub every_all : (ok : Float → Bool) (l : List Float) → list_all ok l ≡ every ok l
unfolding every
every_all ok [] = refl
every_all ok (v ∷ l) = ap (λ (b : Bool). ok v && b) (every_all ok l)

-- what is left of the points after a command, and after all of a list
abbrev pub left_after : Option ℕ → ℕ → Option ℕ
left_after None k = None
left_after (Some left) k = cond (leb (uses_of k) left) (Some (left - uses_of k)) None

pub left_more : (points : ℕ) (ks : List ℕ) (k : ℕ) {a b : Option ℕ} → a ≡ fold left_after (Some points) ks → b ≡ left_after a k → b ≡ fold left_after (Some points) (ks ++ (k ∷ []))
left_more points ks k e h = h ∙ ap (λ o. left_after o k) e ∙ sym (fold-append left_after (Some points) ks (k ∷ []))

left_none : (l : List ℕ) → option_eq eqb (fold left_after None l) (Some 0) ≡ false
left_none [] = refl
left_none (k ∷ l) = left_none l

pub left_zero : (l : List ℕ) (points : ℕ) → option_eq eqb (fold left_after (Some points) l) (Some 0) ≡ eqb (total_uses_of l) points
unfolding total_uses_of
left_zero [] points = eqb_sym points 0
left_zero (k ∷ l) points = go (leb (uses_of k) points) refl (left_zero l (points - uses_of k))
  where
    go : (b : Bool) → leb (uses_of k) points ≡ b
        → option_eq eqb (fold left_after (Some (points - uses_of k)) l) (Some 0) ≡ eqb (total_uses_of l) (points - uses_of k)
        → option_eq eqb (fold left_after (cond b (Some (points - uses_of k)) None) l) (Some 0) ≡ eqb (uses_of k + total_uses_of l) points
    go true e rest = rest ∙ sym (eqb_less (uses_of k) (total_uses_of l) points (leb-true _ _ e))
    go false e rest = let h = leb-false _ _ e in left_none l ∙ sym (ne_eqb (uses_of k + total_uses_of l) points (λ q. omega arith))

-- ---- all of it together
module _ (st : StoreState) (c : Columns) where
  pub undrawable : usable_of st c ≡ false → false ≡ drawable_of st c
  unfolding drawable_of
  undrawable e = rw e

  pub drawn : usable_of st c ≡ true → {k u w x y : Bool}
      → k ≡ known_of (take st.commands c.commands)
      → u ≡ eqb (total_uses_of (take st.commands c.commands)) st.points
      → w ≡ every weight_ok_of (take st.points c.weight)
      → x ≡ every stored_ok_of (take st.points c.x)
      → y ≡ every stored_ok_of (take st.points c.y)
      → (k && eqb (get_or c.commands 0 0) move_command && u && (w && x && y)) ≡ drawable_of st c
  unfolding drawable_of
  drawn e {k} {u} {w} {x} {y} hk hu hw hx hy =
      let m = eqb (get_or c.commands 0 0) move_command in
      sym (and_assoc (k && m && u) (w && x) y) ∙ ap (λ (b : Bool). b && y) (sym (and_assoc (k && m && u) w x)) ∙ rw (e, hk, hu, hw, hx, hy)
