-- Contours' tables stand one after the other in those of the whole: the condition on sums holds of the whole exactly if it holds of each contour alone. A quad
-- of a contour has a spline of that contour, so the last two quads of a spline lie in one contour. Assumes nothing.
use Prim.Native.Nat.{ℕ, suc, ◌+◌, ◌-◌, ◌≤◌, ◌<◌, zero-le}
use mathlib.Core.Path.{◌≡◌, refl, sym, ap, ◌∙◌, subst, subst₂}
use mathlib.Core.Logic.{◌↔◌}
use mathlib.Core.List.{List, [], ◌∷◌}
use native.Mathlib.Nat.{le_trans, le_of_eq, le_of_lt, le_refl, lt_of_lt_of_le, lt_irrefl, add-suc, add_left_cancel, add-sub_of_le, le-add_right}
use native.Mathlib.Decide.{dec_lt}
use native.Mathlib.Omega.{arith, by_contra}
use Rattle.answer.specs.Answer.{Done}
use Rattle.tables.specs.Tables.{QuadTable, quad_row_at}
use Rattle.tables.specs.Run.{World}
use Rattle.tables.proofs.Spans.{sum_at, owner_at, same_sum, same_owner}
use Rattle.tables.proofs.Owners.{owned}
use Rattle.flatten.specs.Flatten.{Flattening, Output, flattened, flattening}
use Rattle.promises.specs.Demand3.{spline_of_quad, sum_of_quad, LastQuad, Between, Spread}
use Rattle.facts.specs.Every.{All}
use Rattle.tables.proofs.Standing.{Stands, StandFrom}
use Rattle.promises.specs.Nests.{total}
use Rattle.promises.proofs.JoinedWalks.{counts_from}

-- a flattening that leaves these tables, with some number of points and some outputs
abbrev pub left : ℕ → Output → World → Flattening
left points o w = flattening (flattened Done w.state.splines w.state.quads points) w.quads w.splines o

-- the condition reads the quad table and the number of quads alone
pub spread_same : (f f' : Flattening) → f.quads ≡ f'.quads → f.result.quads ≡ f'.result.quads → Spread f → Spread f'
spread_same f f' e n h k i L z =
    subst (λ (q : QuadTable). Between (sum_at (quad_row_at q) i) (sum_at (quad_row_at q) (suc i))) e
    (h k i
    (record {
      stored = lt_of_lt_of_le L.stored (le_of_eq (sym n));
      own = ap (λ (q : QuadTable). owner_at (quad_row_at q) (suc i)) e ∙ L.own;
      last = λ j l u y. L.last j l (lt_of_lt_of_le u (le_of_eq n)) (ap (λ (q : QuadTable). owner_at (quad_row_at q) j) (sym e) ∙ y);
    })
    (ap (λ (q : QuadTable). owner_at (quad_row_at q) i) e ∙ z))

-- ---- from quad bq on the splines are those from bs on
inside : (i bq n : ℕ) → bq ≤ i → i < bq + n → i - bq < n
inside i bq n l u = omega arith

later : (whole : World) (bq bs : ℕ) (alones : List World) → StandFrom whole bq bs alones
    → (i : ℕ) → bq ≤ i → i < whole.state.quads → bs ≤ owner_at (quad_row_at whole.quads) i
later whole bq bs [] h i l u = absurd (lt_irrefl i (lt_of_lt_of_le u (le_trans (le_of_eq h.0) l)))
later whole bq bs (a ∷ rest) h i l u = go (dec_lt i (bq + a.state.quads))
    (λ z. le_trans (le-add_right bs a.state.splines) (later whole (bq + a.state.quads) (bs + a.state.splines) rest h.1 i z u))
  where
    go : Dec (i < bq + a.state.quads) → (bq + a.state.quads ≤ i → bs ≤ owner_at (quad_row_at whole.quads) i) → bs ≤ owner_at (quad_row_at whole.quads) i
    go (yes z) after =
        let e = h.0.quads (i - bq) (inside i bq a.state.quads l z) in
        subst (λ (x : ℕ). bs ≤ owner_at (quad_row_at whole.quads) x) (add-sub_of_le l)
        (le_trans (le-add_right bs (owner_at (quad_row_at a.quads) (i - bq))) (le_of_eq (sym (same_owner e))))
    go (no z) after = after (by_contra (bq + a.state.quads) i z)

module _ (points : World → ℕ) (o : World → Output) where
  abbrev f : World → Flattening
  f w = left (points w) (o w) w

  -- the condition, for the quads from bq on
  abbrev SpreadFrom : World → ℕ → Type 0
  SpreadFrom w bq = (k i : ℕ) → bq ≤ i → LastQuad (f w) k (suc i) → spline_of_quad (f w) i ≡ k → Between (sum_of_quad (f w) i) (sum_of_quad (f w) (suc i))

  -- ---- a contour with bq quads and bs splines before, and more contours after it
  module _ (whole a : World) (bq bs : ℕ) (rest : List World) (S : Stands bq bs whole a)
      (R : StandFrom whole (bq + a.state.quads) (bs + a.state.splines) rest) where
    -- the contour's quads are in the whole
    in_whole : (i : ℕ) → i < a.state.quads → bq + i < whole.state.quads
    in_whole i h =
        most bq a.state.quads (total (λ x. x.state.quads) rest) i whole.state.quads
        (counts_from whole (bq + a.state.quads) (bs + a.state.splines) rest R).0 h
      where
        most : (bq n t i w : ℕ) → w ≡ bq + n + t → i < n → bq + i < w
        most bq n t i w e h = omega arith

    owner_on : (i : ℕ) → i < a.state.quads → spline_of_quad (f whole) (bq + i) ≡ bs + spline_of_quad (f a) i
    owner_on i h = same_owner (S.quads i h)

    sum_on : (i : ℕ) → i < a.state.quads → sum_of_quad (f whole) (bq + i) ≡ sum_of_quad (f a) i
    sum_on i h = same_sum (S.quads i h)

    owner_below : (i : ℕ) → i < a.state.quads → spline_of_quad (f a) i < a.state.splines
    owner_below i h = (owned S.caps a S.sound i (spline_of_quad (f a) i) h refl).0

    -- its quads have its splines, and the quads after it have later ones
    not_after : (i j : ℕ) → i < a.state.quads → bq + a.state.quads ≤ j → j < whole.state.quads
        → spline_of_quad (f whole) j ≡ spline_of_quad (f whole) (bq + i) → ⊥
    not_after i j h l u e =
        clash (spline_of_quad (f whole) j) bs (spline_of_quad (f a) i) a.state.splines (e ∙ owner_on i h) (owner_below i h)
        (later whole (bq + a.state.quads) (bs + a.state.splines) rest R j l u)
      where
        clash : (x bs k n : ℕ) → x ≡ bs + k → k < n → bs + n ≤ x → ⊥
        clash x bs k n e h l = omega arith

    -- ---- the last quad of a spline
    last_on : (i k : ℕ) → LastQuad (f a) k i → LastQuad (f whole) (bs + k) (bq + i)
    last_on i k L =
        record {
          stored = in_whole i L.stored;
          own = own;
          last = λ j l u e. go j l u e (dec_lt j (bq + a.state.quads));
        }
      where
        own : spline_of_quad (f whole) (bq + i) ≡ bs + k
        own = owner_on i L.stored ∙ ap (λ (x : ℕ). bs + x) L.own

        low : (i j bq : ℕ) → bq + i < j → bq ≤ j
        low i j bq h = omega arith

        above : (i j bq : ℕ) → bq + i < j → i < j - bq
        above i j bq h = omega arith

        below : (i j bq n : ℕ) → bq + i < j → j < bq + n → j - bq < n
        below i j bq n h u = omega arith

        go : (j : ℕ) → bq + i < j → j < whole.state.quads → spline_of_quad (f whole) j ≡ bs + k → Dec (j < bq + a.state.quads) → ⊥
        go j l u e (yes z) =
            let b = below i j bq a.state.quads l z in
            let y = ap (spline_of_quad (f whole)) (add-sub_of_le (low i j bq l)) in
            L.last (j - bq) (above i j bq l) b (add_left_cancel bs (sym (owner_on (j - bq) b) ∙ y ∙ e))
        go j l u e (no z) = not_after i j L.stored (by_contra (bq + a.state.quads) j z) u (e ∙ sym own)

    last_off : (i k : ℕ) → i < a.state.quads → LastQuad (f whole) (bs + k) (bq + i) → LastQuad (f a) k i
    last_off i k h L =
        record {
          stored = h;
          own = add_left_cancel bs (sym (owner_on i h) ∙ L.own);
          last = λ j l u e. L.last (bq + j) (up i j bq l) (in_whole j u) (owner_on j u ∙ ap (λ (x : ℕ). bs + x) e);
        }
      where
        up : (i j bq : ℕ) → i < j → bq + i < bq + j
        up i j bq h = omega arith

    -- ---- of the whole from bq on: of the contour, and of the whole from the next one on
    spread_apart : SpreadFrom whole bq → Spread (f a) × SpreadFrom whole (bq + a.state.quads)
    spread_apart h = (alone, λ k i l. h k i (le_trans (le-add_right bq a.state.quads) l))
      where
        alone : Spread (f a)
        alone k i L e =
            let u = lt_of_lt_of_le (le_refl (suc i)) (le_of_lt L.stored) in
            subst₂ Between (sum_on i u) (ap (sum_of_quad (f whole)) (sym (add-suc bq i)) ∙ sum_on (suc i) L.stored)
            (h (bs + k) (bq + i) (le-add_right bq i) (subst (LastQuad (f whole) (bs + k)) (add-suc bq i) (last_on (suc i) k L))
            (owner_on i u ∙ ap (λ (x : ℕ). bs + x) e))

    spread_together : Spread (f a) → SpreadFrom whole (bq + a.state.quads) → SpreadFrom whole bq
    spread_together alone after k i l L e = go (dec_lt i (bq + a.state.quads)) (dec_lt (suc i) (bq + a.state.quads))
      where
        n : ℕ
        n = a.state.quads

        both : (i bq n : ℕ) → bq ≤ i → suc i < bq + n → suc (i - bq) < n
        both i bq n l u = omega arith

        next : (i bq : ℕ) → bq ≤ i → bq + suc (i - bq) ≡ suc i
        next i bq l = omega arith

        go : Dec (i < bq + n) → Dec (suc i < bq + n) → Between (sum_of_quad (f whole) i) (sum_of_quad (f whole) (suc i))
        go (no y) z = after k i (by_contra (bq + n) i y) L e
        go (yes y) (no z) =
            absurd (not_after (i - bq) (suc i) (inside i bq n l y) (by_contra (bq + n) (suc i) z) L.stored
            (L.own ∙ sym e ∙ ap (spline_of_quad (f whole)) (sym (add-sub_of_le l))))
        go (yes y) (yes z) =
            let j = i - bq in
            let own = spline_of_quad (f a) j in
            let u = inside i bq n l y in
            let v = both i bq n l z in
            let same : k ≡ bs + own = sym e ∙ ap (spline_of_quad (f whole)) (sym (add-sub_of_le l)) ∙ owner_on j u in
            subst₂ Between (sym (sum_on j u) ∙ ap (sum_of_quad (f whole)) (add-sub_of_le l)) (sym (sum_on (suc j) v) ∙ ap (sum_of_quad (f whole)) (next i bq l))
            (alone own j (last_off (suc j) own v (subst₂ (LastQuad (f whole)) same (sym (next i bq l)) L)) refl)

  -- ---- all of them
  spread_from : (whole : World) (bq bs : ℕ) (alones : List World) → StandFrom whole bq bs alones
      → SpreadFrom whole bq ↔ All (λ (a : World). Spread (f a)) alones
  spread_from whole bq bs [] h = (λ s. tt, λ u k i l L e. absurd (none i bq whole.state.quads h.0 l L.stored))
    where
      none : (i bq n : ℕ) → n ≡ bq → bq ≤ i → suc i < n → ⊥
      none i bq n e l u = omega arith
  spread_from whole bq bs (a ∷ rest) h =
      let z = spread_from whole (bq + a.state.quads) (bs + a.state.splines) rest h.1 in (
        λ s. let y = spread_apart whole a bq bs rest h.0 h.1 s in (y.0, z.0 y.1),
        λ u. spread_together whole a bq bs rest h.0 h.1 u.0 (z.1 u.1),
      )

  pub spread_join : (n : ℕ) (out : Output) (whole : World) (alones : List World) → StandFrom whole 0 0 alones
      → Spread (left n out whole) ↔ All (λ (a : World). Spread (left (points a) (o a) a)) alones
  spread_join n out whole alones h =
      let z = spread_from whole 0 0 alones h in
      let w = left n out whole in (
        λ s. let same = spread_same w (f whole) refl refl s in z.0 (λ k i l. same k i),
        λ u. spread_same (f whole) w refl refl (λ k i. z.1 u k i zero-le),
      )
