-- Laws of the flattened drawing: what a finished flattening delivered, its points read back from their columns, and how many there are; a refused one has none.
-- Assumes nothing.
use mathlib.Core.Path.{◌≡◌, refl, sym, ap, ◌∙◌}
use mathlib.Core.Bool.{Bool, true, false, ◌&&◌, true≢false}
use mathlib.Core.List.{List, [], ◌∷◌, ◌++◌, map}
use Prim.Native.Nat.{ℕ, ◌+◌, ◌≤◌}
use native.Mathlib.Nat.{add-zero}
use native.Mathlib.Omega.{arith}
use borrow.Author.Tests.{leb-true}
use lib.Dec.{leb}
use lib.Ieee.{Float, nan}
use lib.ListN.{length, drop, get_or, length-append, length-map}
use lib.Seq.{drop-drop, get_or-drop}
use Rattle.columns.proofs.Flags.{flag_back}
use Rattle.columns.specs.Flags.{flag_byte_of, is_flag_of}
use Rattle.answer.specs.Number.{is_done}
use Rattle.point.specs.declared.Setting.{Setting}
use Rattle.store.specs.declared.StoreState.{StoreState}
use Rattle.store.specs.Columns.{Columns}
use Rattle.store.specs.Drawable.{drawable_of}
use Rattle.tables.specs.Tables.{QuadTable, SplineTable, quad_row_at}
use Rattle.tables.specs.Run.{World}
use Rattle.tables.specs.Commands.{tables_of}
use Rattle.point.specs.Point.{point_at}
use Rattle.walk.specs.Walk.{Item, walk_of}
use Rattle.evaluate.specs.Evaluate.{Finished, finished, points_of, item_point_of}
use Rattle.evaluate.specs.Output.{Output, over, fits_output, write_output}
use Rattle.flatten.specs.Flatten.{Flattening, walked, tabled, flatten_drawable, flatten_of}
use Rattle.listing.specs.Writing.{column_points}

-- ---- what was delivered
abbrev items_of : Setting → Flattening → List Item
items_of setting f = walk_of setting (quad_row_at f.quads) f.splines f.result.splines

pub record Delivered (setting : Setting) (f : Flattening) (o : Output) : Type 0 where
  pub fits : fits_output (length (items_of setting f)) o ≡ true
  pub points : f.result.points ≡ length (items_of setting f)
  pub written : f.output ≡ write_output (quad_row_at f.quads) f.splines (items_of setting f) o

walked_done : (setting : Setting) (b : Bool) (w : World) (o : Output)
    → fits_output (length (walk_of setting (quad_row_at w.quads) w.splines w.state.splines)) o ≡ b
    → is_done (walked b w (walk_of setting (quad_row_at w.quads) w.splines w.state.splines) o).result.answer ≡ true
    → Delivered setting (walked b w (walk_of setting (quad_row_at w.quads) w.splines w.state.splines) o) o
unfolding walked
walked_done setting true w o e h = record { fits = e; points = refl; written = refl }
walked_done setting false w o e h = absurd (let z : ◌≡◌ {A = ℕ} 0 1 = cc in omega arith)

tabled_done : (setting : Setting) (b : Bool) (w : World) (o : Output) → is_done w.state.answer ≡ b → is_done (tabled setting b w o).result.answer ≡ true
    → Delivered setting (tabled setting b w o) o
unfolding tabled
tabled_done setting true w o e h = walked_done setting
    (fits_output (length (walk_of setting (quad_row_at w.quads) w.splines w.state.splines)) o) w o refl h
tabled_done setting false w o e h = absurd (let z : ◌≡◌ {A = ℕ} 0 1 = cc in omega arith)

drawable_done : (b : Bool) (setting : Setting) (st : StoreState) (c : Columns) (q : QuadTable) (s : SplineTable) (o : Output)
    → is_done (flatten_drawable b setting st c q s o).result.answer ≡ true → Delivered setting (flatten_drawable b setting st c q s o) o
unfolding flatten_drawable
drawable_done true setting st c q s o h = let w = tables_of setting st c q s in tabled_done setting (is_done w.state.answer) w o refl h
drawable_done false setting st c q s o h = absurd (let z : ◌≡◌ {A = ℕ} 0 1 = cc in omega arith)

pub flatten_done : (setting : Setting) (st : StoreState) (c : Columns) (q : QuadTable) (s : SplineTable) (o : Output)
    → is_done (flatten_of setting st c q s o).result.answer ≡ true → Delivered setting (flatten_of setting st c q s o) o
unfolding flatten_of
flatten_done setting st c q s o h = drawable_done (drawable_of st c) setting st c q s o h

-- ---- a refused flattening has no point
walked_undone : (b : Bool) (w : World) (items : List Item) (o : Output) → is_done (walked b w items o).result.answer ≡ false → (walked b w items o).result.points ≡ 0
unfolding walked
walked_undone true w items o h = absurd (true≢false h)
walked_undone false w items o h = refl

tabled_undone : (setting : Setting) (b : Bool) (w : World) (o : Output) → is_done (tabled setting b w o).result.answer ≡ false → (tabled setting b w o).result.points ≡ 0
unfolding tabled
tabled_undone setting true w o h =
    let items = walk_of setting (quad_row_at w.quads) w.splines w.state.splines in
    walked_undone (fits_output (length items) o) w items o h
tabled_undone setting false w o h = refl

drawable_undone : (b : Bool) (setting : Setting) (st : StoreState) (c : Columns) (q : QuadTable) (s : SplineTable) (o : Output)
    → is_done (flatten_drawable b setting st c q s o).result.answer ≡ false → (flatten_drawable b setting st c q s o).result.points ≡ 0
unfolding flatten_drawable
drawable_undone true setting st c q s o h = let w = tables_of setting st c q s in tabled_undone setting (is_done w.state.answer) w o h
drawable_undone false setting st c q s o h = refl

pub flatten_undone : (setting : Setting) (st : StoreState) (c : Columns) (q : QuadTable) (s : SplineTable) (o : Output)
    → is_done (flatten_of setting st c q s o).result.answer ≡ false → (flatten_of setting st c q s o).result.points ≡ 0
unfolding flatten_of
flatten_undone setting st c q s o h = drawable_undone (drawable_of st c) setting st c q s o h

-- ---- the points from their columns

module _ {A : Type 0} where
  head_at : (l : List A) (i : ℕ) (d v : A) (rest : List A) → drop i l ≡ v ∷ rest → get_or l i d ≡ v
  head_at l i d v rest h =
      sym (get_or-drop i l 0 d ∙ ap (λ (n : ℕ). get_or l n d) (add-zero i)) ∙ ap (λ (r : List A). get_or r 0 d) h

  tail_at : (l : List A) (i : ℕ) (v : A) (rest : List A) → drop i l ≡ v ∷ rest → drop (i + 1) l ≡ rest
  tail_at l i v rest h = sym (drop-drop 1 i l) ∙ ap (drop 1) h

pub points_from : (ps : List Finished) (i : ℕ) (x y : List Float) (end : List ℕ) (rx ry : List Float) (re : List ℕ)
    → drop i x ≡ map (λ p. p.point.x) ps ++ rx → drop i y ≡ map (λ p. p.point.y) ps ++ ry → drop i end ≡ map (λ p. flag_byte_of p.end) ps ++ re
    → column_points i (length ps) x y end ≡ ps
unfolding column_points
points_from [] i x y end rx ry re hx hy he = refl
points_from (p ∷ ps) i x y end rx ry re hx hy he =
    ap (λ (v : Float). finished (point_at v (get_or y i nan)) (is_flag_of (get_or end i 0)) ∷ column_points (i + 1) (length ps) x y end)
    (head_at x i nan p.point.x (map (λ q. q.point.x) ps ++ rx) hx)
    ∙ ap (λ (v : Float). finished (point_at p.point.x v) (is_flag_of (get_or end i 0)) ∷ column_points (i + 1) (length ps) x y end)
    (head_at y i nan p.point.y (map (λ q. q.point.y) ps ++ ry) hy)
    ∙ ap (λ (v : ℕ). finished p.point (is_flag_of v) ∷ column_points (i + 1) (length ps) x y end)
    (head_at end i 0 (flag_byte_of p.end) (map (λ q. flag_byte_of q.end) ps ++ re) he)
    ∙ ap (λ (b : Bool). finished p.point b ∷ column_points (i + 1) (length ps) x y end) (flag_back p.end)
    ∙ ap (λ (r : List Finished). p ∷ r)
    (points_from ps (i + 1) x y end rx ry re
    (tail_at x i p.point.x (map (λ q. q.point.x) ps ++ rx) hx)
    (tail_at y i p.point.y (map (λ q. q.point.y) ps ++ ry) hy)
    (tail_at end i (flag_byte_of p.end) (map (λ q. flag_byte_of q.end) ps ++ re) he))

first_of : (a b c d : Bool) → (a && b && c && d) ≡ true → a ≡ true
first_of true b c d h = refl
first_of false b c d h = h

module _ (setting : Setting) (f : Flattening) (o : Output) (d : Delivered setting f o) where
  abbrev delivered : List Finished
  delivered = points_of (quad_row_at f.quads) f.splines (items_of setting f)

  pub delivered_count : length delivered ≡ f.result.points
  unfolding points_of
  delivered_count = length-map (items_of setting f) (item_point_of (quad_row_at f.quads) f.splines) ∙ sym d.points

  pub delivered_points : column_points 0 f.result.points f.output.x f.output.y f.output.end ≡ delivered
  unfolding write_output over
  delivered_points =
      let w = write_output (quad_row_at f.quads) f.splines (items_of setting f) o in
      ap (λ (n : ℕ). column_points 0 n f.output.x f.output.y f.output.end) (sym delivered_count)
      ∙ ap (λ (u : Output). column_points 0 (length delivered) u.x u.y u.end) d.written
      ∙ points_from delivered 0 w.x w.y w.end (drop (length (map (λ p. p.point.x) delivered)) o.x)
      (drop (length (map (λ p. p.point.y) delivered)) o.y) (drop (length (map (λ p. flag_byte_of p.end) delivered)) o.end) refl refl refl

  -- the columns hold all points
  pub delivered_room : (f.result.points ≤ length f.output.x) × (f.result.points ≤ length f.output.y) × (f.result.points ≤ length f.output.end)
  unfolding write_output over
  delivered_room =
      let xs = map (λ (p : Finished). p.point.x) delivered in
      let ys = map (λ (p : Finished). p.point.y) delivered in
      let ends = map (λ (p : Finished). flag_byte_of p.end) delivered in (
        omega (
          arith,
          delivered_count,
          ap (λ (u : Output). length u.x) d.written,
          length-append xs (drop (length xs) o.x),
          length-map delivered (λ (p : Finished). p.point.x),
        ),
        omega (
          arith,
          delivered_count,
          ap (λ (u : Output). length u.y) d.written,
          length-append ys (drop (length ys) o.y),
          length-map delivered (λ (p : Finished). p.point.y),
        ),
        omega (
          arith,
          delivered_count,
          ap (λ (u : Output). length u.end) d.written,
          length-append ends (drop (length ends) o.end),
          length-map delivered (λ (p : Finished). flag_byte_of p.end),
        ),
      )

  pub delivered_fit : f.result.points ≤ length o.words
  unfolding fits_output
  delivered_fit = omega (
    arith,
    d.points,
    leb-true (length (items_of setting f)) (length o.words)
        (first_of (leb (length (items_of setting f)) (length o.words)) (leb (length (items_of setting f)) (length o.x))
        (leb (length (items_of setting f)) (length o.y)) (leb (length (items_of setting f)) (length o.end)) d.fits),
  )
