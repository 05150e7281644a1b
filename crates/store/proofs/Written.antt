-- What the columns hold after the writes of a call, as lists: what was before, then what was written. Assumes nothing.
use Prim.Native.Nat.{ℕ, zero, suc, ◌+◌, ◌≤◌, ◌<◌}
use native.Mathlib.Omega.{arith}
use native.Mathlib.Numerals.{add-one}
use mathlib.Core.Path.{◌≡◌, refl, sym, ap, ◌∙◌}
use mathlib.Core.Bool.{Bool, true, ◌&&◌}
use mathlib.Core.List.{List, [], ◌∷◌, ◌++◌, map}
use lib.ListN.{length, get_or, take, drop, take-append-drop, length-append, length-map}
use lib.Seq.{sets, sets-eq, length-take-le, take_at, take-take}
use lib.Dec.{leb}
use lib.Ieee.{Float}
use borrow.Author.Tests.{leb-true}
use mathlib.Mathlib.Data.Bool.Basic.{and_elim_left, and_elim_right, and_intro}
use native.Mathlib.Nat.{zero-add}
use Rattle.point.specs.declared.WeightedPoint.{WeightedPoint}
use Rattle.store.specs.declared.StoreState.{StoreState}
use Rattle.store.specs.Columns.{Columns, columns, uses_of, put_point, put_command}
use Rattle.store.specs.Drawing.{Writes, every, put_points, put_commands, written}
use Rattle.store.specs.Drawable.{known_of, total_uses_of}
use Rattle.store.proofs.Tests.{every_append}

-- ---- the columns of a list of points
abbrev pub x_of : WeightedPoint → Float
x_of p = p.point.x

abbrev pub y_of : WeightedPoint → Float
y_of p = p.point.y

abbrev pub weight_of : WeightedPoint → Float
weight_of p = p.weight

points_written : (i : ℕ) (ps : List WeightedPoint) (c : Columns)
    → put_points i ps c ≡ columns (sets c.x i (map x_of ps)) (sets c.y i (map y_of ps)) (sets c.weight i (map weight_of ps)) c.commands
unfolding put_points put_point
points_written i [] c = refl
points_written i (p ∷ ps) c = points_written (i + 1) ps (put_point c i p) ∙ rw add-one

commands_written : (i : ℕ) (ks : List ℕ) (c : Columns) → put_commands i ks c ≡ columns c.x c.y c.weight (sets c.commands i ks)
unfolding put_commands put_command
commands_written i [] c = refl
commands_written i (k ∷ ks) c = commands_written (i + 1) ks (put_command c i k) ∙ rw add-one

pub all_written : (w : Writes) (st : StoreState) (c : Columns)
    → written w st c
    ≡ columns (sets c.x w.at (map x_of w.points)) (sets c.y w.at (map y_of w.points)) (sets c.weight w.at (map weight_of w.points))
    (sets c.commands st.commands w.commands)
unfolding written
all_written w st c =
    ap (put_commands st.commands w.commands) (points_written w.at w.points c) ∙ commands_written st.commands w.commands _

-- ---- the part of a column that counts
module _ {A : Type 0} where
  pub take_sets : (vs l : List A) (i : ℕ) → i + length vs ≤ length l → take (i + length vs) (sets l i vs) ≡ take i l ++ vs
  take_sets vs l i h =
      ap (take (i + length vs)) (sets-eq vs l i h) ∙ take_at (take i l ++ vs) (drop (i + length vs) l) (i + length vs) (rw length-append (rw (length-take-le i l (omega arith))))

  pub take_mapped : {B : Type 0} (f : B → A) (ps : List B) (l : List A) (i : ℕ) → i + length ps ≤ length l
      → take (i + length ps) (sets l i (map f ps)) ≡ take i l ++ map f ps
  take_mapped f ps l i h = rw (← length-map ps f) (take_sets (map f ps) l i (rw (length-map ps f) h))

-- ---- every entry of a part, and of two parts in a row
pub every_take : (ok : Float → Bool) (l : List Float) (m n : ℕ) → m ≤ n → every ok (take n l) ≡ true → every ok (take m l) ≡ true
every_take ok l m n h e =
    let k = take n l in
    let split : every ok k ≡ (every ok (take m k) && every ok (drop m k)) = ap (every ok) (sym (take-append-drop m k)) ∙ every_append ok (take m k) (drop m k) in
    ap (every ok) (sym (take-take m n l h)) ∙ and_elim_left (every ok (take m k)) (every ok (drop m k)) (sym split ∙ e)

pub every_at : (ok : Float → Bool) (d : Float) (l : List Float) (i : ℕ) → i < length l → every ok l ≡ true → ok (get_or l i d) ≡ true
unfolding every
every_at ok d [] i h e = absurd (omega arith)
every_at ok d (v ∷ l) zero h e = and_elim_left (ok v) (every ok l) e
every_at ok d (v ∷ l) (suc i) h e = every_at ok d l i (omega arith) (and_elim_right (ok v) (every ok l) e)

pub known_at : (l : List ℕ) (i : ℕ) → i < length l → known_of l ≡ true → get_or l i 0 ≤ 3
unfolding known_of
known_at [] i h e = absurd (omega arith)
known_at (k ∷ l) zero h e = leb-true k 3 (and_elim_left (leb k 3) (known_of l) e)
known_at (k ∷ l) (suc i) h e = known_at l i (omega arith) (and_elim_right (leb k 3) (known_of l) e)

pub known_append : (l m : List ℕ) → known_of l ≡ true → known_of m ≡ true → known_of (l ++ m) ≡ true
unfolding known_of
known_append [] m p q = q
known_append (k ∷ l) m p q = and_intro (and_elim_left (leb k 3) (known_of l) p) (known_append l m (and_elim_right (leb k 3) (known_of l) p) q)

pub uses_append : (l m : List ℕ) → total_uses_of (l ++ m) ≡ total_uses_of l + total_uses_of m
unfolding total_uses_of
uses_append [] m = sym (zero-add (total_uses_of m))
uses_append (k ∷ l) m = regroup (uses_of k) (total_uses_of l) (total_uses_of m) (uses_append l m)
  where
    regroup : (a b d : ℕ) {s : ℕ} → s ≡ b + d → a + s ≡ a + b + d
    regroup a b d e = omega arith
