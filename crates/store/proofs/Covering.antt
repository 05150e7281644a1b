-- The contours of a drawing, joined in order, are the whole drawing. Assumes nothing.
use Prim.Native.Nat.{ℕ, zero, suc, ◌+◌}
use native.Mathlib.Nat.{suc-ne-zero}
use mathlib.Core.Path.{◌≡◌, refl, sym, ap, ◌∙◌}
use mathlib.Core.List.{List, [], ◌∷◌, ◌++◌, flat_map, append_assoc}
use lib.Ieee.{Float}
use lib.ListN.{take, drop, get_or}
use lib.Seq.{take-add, drop-drop}
use Rattle.store.specs.Columns.{Columns, uses_of}
use Rattle.store.specs.Drawable.{total_uses_of}
use Rattle.store.specs.Contours.{Drawing, part, alone_of, upto_move, contours_from, contours_of, ContoursCover}
use Rattle.store.proofs.Sound.{sound}

part_add : (l : List Float) (j n m : ℕ) → part j (n + m) l ≡ part j n l ++ part (j + n) m l
part_add l j n m = take-add n m (drop j l) ∙ ap (λ (r : List Float). part j n l ++ take m r) (drop-drop n j l)

-- the commands before the first Move come first
commands_from_lem : (c : Columns) (ks : List ℕ) (j : ℕ) → upto_move ks ++ flat_map (λ (d : Drawing). d.columns.commands) (contours_from c ks j) ≡ ks
unfolding upto_move contours_from flat_map alone_of
commands_from_lem c [] j = refl
commands_from_lem c (zero ∷ ks) j = ap (λ (r : List ℕ). 0 ∷ r) (commands_from_lem c ks (j + 1))
commands_from_lem c (suc k ∷ ks) j = ap (λ (r : List ℕ). suc k ∷ r) (commands_from_lem c ks (j + uses_of (suc k)))

-- one column of the points, `of` the columns
module _ (c : Columns) (of : Columns → List Float) (alone : (ks : List ℕ) (j : ℕ) → of (alone_of c ks j).columns ≡ part j (total_uses_of ks) (of c)) where
  points_from : (ks : List ℕ) (j : ℕ)
      → part j (total_uses_of (upto_move ks)) (of c) ++ flat_map (λ (d : Drawing). of d.columns) (contours_from c ks j) ≡ part j (total_uses_of ks) (of c)
  unfolding upto_move contours_from flat_map total_uses_of
  points_from [] j = refl
  points_from (zero ∷ ks) j =
      let l = of c in
      let rest = flat_map (λ (d : Drawing). of d.columns) (contours_from c ks (j + 1)) in
      ap (λ (r : List Float). r ++ rest) (alone (0 ∷ upto_move ks) j ∙ part_add l j 1 (total_uses_of (upto_move ks)))
      ∙ append_assoc (part j 1 l) (part (j + 1) (total_uses_of (upto_move ks)) l) rest
      ∙ ap (λ (r : List Float). part j 1 l ++ r) (points_from ks (j + 1))
      ∙ sym (part_add l j 1 (total_uses_of ks))
  points_from (suc k ∷ ks) j =
      let l = of c in
      let u = uses_of (suc k) in
      let rest = flat_map (λ (d : Drawing). of d.columns) (contours_from c ks (j + u)) in
      ap (λ (r : List Float). r ++ rest) (part_add l j u (total_uses_of (upto_move ks)))
      ∙ append_assoc (part j u l) (part (j + u) (total_uses_of (upto_move ks)) l) rest
      ∙ ap (λ (r : List Float). part j u l ++ r) (points_from ks (j + u))
      ∙ sym (part_add l j u (total_uses_of ks))

-- a drawing begins with a Move, so nothing comes before its first contour
none_before : (n : ℕ) (l : List ℕ) → get_or l 0 0 ≡ 0 → upto_move (take n l) ≡ []
unfolding upto_move
none_before zero l e = refl
none_before (suc n) [] e = refl
none_before (suc n) (zero ∷ ks) e = refl
none_before (suc n) (suc k ∷ ks) e = absurd (suc-ne-zero k e)

module _ (c : Columns) (n p : ℕ) (first : get_or c.commands 0 0 ≡ 0) (uses : total_uses_of (take n c.commands) ≡ p) where
  abbrev contours : List Drawing
  contours = contours_from c (take n c.commands) 0

  all_points_lem : (of : Columns → List Float) → ((ks : List ℕ) (j : ℕ) → of (alone_of c ks j).columns ≡ part j (total_uses_of ks) (of c))
      → flat_map (λ (d : Drawing). of d.columns) contours ≡ take p (of c)
  unfolding total_uses_of
  all_points_lem of alone =
      ap (λ (ks : List ℕ). part 0 (total_uses_of ks) (of c) ++ flat_map (λ (d : Drawing). of d.columns) contours) (sym (none_before n c.commands first))
      ∙ points_from c of alone (take n c.commands) 0
      ∙ ap (λ (m : ℕ). part 0 m (of c)) uses

  all_commands_lem : flat_map (λ (d : Drawing). d.columns.commands) contours ≡ take n c.commands
  all_commands_lem =
      ap (λ (ks : List ℕ). ks ++ flat_map (λ (d : Drawing). d.columns.commands) contours) (sym (none_before n c.commands first))
      ∙ commands_from_lem c (take n c.commands) 0

pub contours_cover : ContoursCover
unfolding contours_of alone_of
contours_cover st c e =
    let g = sound st c e in
    let points = all_points_lem c st.commands st.points g.first g.uses in
    record {
      commands = all_commands_lem c st.commands st.points g.first g.uses;
      x = points (λ (k : Columns). k.x) (λ ks j. refl);
      y = points (λ (k : Columns). k.y) (λ ks j. refl);
      weight = points (λ (k : Columns). k.weight) (λ ks j. refl);
    }
