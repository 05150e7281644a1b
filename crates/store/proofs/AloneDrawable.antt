-- Each contour of a drawing in which flattening's test for answer 3 finds no fault has none either, as a drawing by itself. Assumes nothing.
use Prim.Native.Nat.{ℕ, zero, suc, ◌+◌, ◌-◌, ◌≤◌, zero-le, suc-le-suc}
use native.Mathlib.Nat.{le_refl, le_of_eq, zero-add}
use native.Mathlib.Omega.{arith}
use mathlib.Core.Path.{◌≡◌, refl, sym, ap, ◌∙◌}
use mathlib.Core.Bool.{Bool, true, ◌&&◌}
use mathlib.Core.List.{List, [], ◌∷◌}
use mathlib.Mathlib.Data.Bool.Basic.{and_elim_left, and_elim_right}
use lib.Dec.{leb}
use lib.Ieee.{Float}
use lib.ListN.{length, take, drop, length-drop}
use lib.Seq.{length-take-le, take-length, take-take, take-add}
use Rattle.store.specs.declared.StoreState.{StoreState}
use Rattle.store.specs.Columns.{Columns, uses_of}
use Rattle.store.specs.Drawing.{every, weight_ok_of}
use Rattle.store.specs.Drawable.{stored_ok_of, known_of, total_uses_of, drawable_of}
use Rattle.store.specs.Contours.{Drawing, part, alone_of, upto_move, contours_from, contours_of}
use Rattle.store.proofs.Tests.{every_append}
use Rattle.store.proofs.Written.{every_take}
use Rattle.store.proofs.Sound.{Sound, sound, sound_drawable}

abbrev pub AllDrawable : List Drawing → Type 0
AllDrawable [] = Unit {0}
AllDrawable (d ∷ ds) = (drawable_of d.state d.columns ≡ true) × AllDrawable ds

-- ---- a part of a column
part_length : (l : List Float) (j n p : ℕ) → j + n ≤ p → p ≤ length l → length (part j n l) ≡ n
part_length l j n p h k = length-take-le n (drop j l) (fits (length l) (length (drop j l)) (length-drop j l) k)
  where
    fits : (a b : ℕ) → b ≡ a - j → p ≤ a → n ≤ b
    fits a b e k = omega arith

part_every : (ok : Float → Bool) (l : List Float) (j n p : ℕ) → j + n ≤ p → every ok (take p l) ≡ true → every ok (take n (part j n l)) ≡ true
part_every ok l j n p h e =
    let split : p ≡ j + (p - j) = omega arith in
    let all = sym (every_append ok (take j l) (take (p - j) (drop j l))) ∙ sym (ap (every ok) (ap (λ (x : ℕ). take x l) split ∙ take-add j (p - j) l)) ∙ e in
    ap (every ok) (take-take n n (drop j l) (le_refl n))
    ∙ every_take ok (drop j l) n (p - j) (omega arith) (and_elim_right (every ok (take j l)) _ all)

-- ---- the commands up to the next Move
upto_known : (ks : List ℕ) → known_of ks ≡ true → known_of (upto_move ks) ≡ true
unfolding known_of upto_move
upto_known [] e = refl
upto_known (zero ∷ ks) e = refl
upto_known (suc k ∷ ks) e =
    ap (λ (b : Bool). b && known_of (upto_move ks)) (and_elim_left (leb (suc k) 3) (known_of ks) e) ∙ upto_known ks (and_elim_right (leb (suc k) 3) (known_of ks) e)

upto_uses : (ks : List ℕ) → total_uses_of (upto_move ks) ≤ total_uses_of ks
unfolding total_uses_of upto_move
upto_uses [] = le_refl 0
upto_uses (zero ∷ ks) = zero-le
upto_uses (suc k ∷ ks) = on (uses_of (suc k)) (upto_uses ks)
  where
    on : (u : ℕ) {a b : ℕ} → a ≤ b → u + a ≤ u + b
    on u h = omega arith

-- ---- each contour, among the first p points
module _ (c : Columns) (p : ℕ) (x : p ≤ length c.x) (y : p ≤ length c.y) (weight : p ≤ length c.weight)
    (weights : every weight_ok_of (take p c.weight) ≡ true) (xs : every stored_ok_of (take p c.x) ≡ true) (ys : every stored_ok_of (take p c.y) ≡ true) where
  alone_sound : (ks : List ℕ) (j : ℕ) → j + (1 + total_uses_of ks) ≤ p → known_of ks ≡ true → Sound (alone_of c (0 ∷ ks) j).state (alone_of c (0 ∷ ks) j).columns
  unfolding alone_of total_uses_of known_of
  alone_sound ks j h k =
      let n = 1 + total_uses_of ks in
      let lx = part_length c.x j n p h x in
      record {
        counted =
            record {
              y = part_length c.y j n p h y ∙ sym lx;
              weight = part_length c.weight j n p h weight ∙ sym lx;
              some = some (total_uses_of ks);
              points = le_of_eq (sym lx);
              begun = suc-le-suc zero-le;
              commands = le_refl (suc (length ks));
              opening = some (total_uses_of ks);
            };
        known = ap known_of (take-length ks) ∙ k;
        first = refl;
        uses = ap (λ (ls : List ℕ). 1 + total_uses_of ls) (take-length ks);
        weights = part_every weight_ok_of c.weight j n p h weights;
        xs = part_every stored_ok_of c.x j n p h xs;
        ys = part_every stored_ok_of c.y j n p h ys;
      }
    where
      some : (m : ℕ) → 1 ≤ 1 + m
      some m = omega arith

  all_drawable : (ks : List ℕ) (j : ℕ) → known_of ks ≡ true → j + total_uses_of ks ≤ p → AllDrawable (contours_from c ks j)
  unfolding contours_from known_of total_uses_of
  all_drawable [] j k h = tt
  all_drawable (zero ∷ ks) j k h = (
    sound_drawable (alone_of c (0 ∷ upto_move ks) j).state (alone_of c (0 ∷ upto_move ks) j).columns
        (alone_sound (upto_move ks) j (less (total_uses_of (upto_move ks)) (total_uses_of ks) (upto_uses ks) h) (upto_known ks k)),
    all_drawable ks (j + 1) k (rest (total_uses_of ks) h),
  )
    where
      less : (a b : ℕ) → a ≤ b → j + (1 + b) ≤ p → j + (1 + a) ≤ p
      less a b l h = omega arith

      rest : (b : ℕ) → j + (1 + b) ≤ p → j + 1 + b ≤ p
      rest b h = omega arith
  all_drawable (suc k ∷ ks) j e h =
      all_drawable ks (j + uses_of (suc k)) (and_elim_right (leb (suc k) 3) (known_of ks) e) (rest (uses_of (suc k)) (total_uses_of ks) h)
    where
      rest : (u b : ℕ) → j + (u + b) ≤ p → j + u + b ≤ p
      rest u b h = omega arith

pub contours_drawable : (st : StoreState) (c : Columns) → drawable_of st c ≡ true → AllDrawable (contours_of st c)
unfolding contours_of
contours_drawable st c e =
    let g = sound st c e in
    let f = g.counted in
    all_drawable c st.points f.points (wide f.y f.points) (wide f.weight f.points) g.weights g.xs g.ys
    (take st.commands c.commands) 0 g.known (le_of_eq (zero-add _ ∙ g.uses))
  where
    wide : {a b p : ℕ} → b ≡ a → p ≤ a → p ≤ b
    wide e h = omega arith
