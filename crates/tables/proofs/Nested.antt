-- The contours of a drawing, run in the whole and each alone: where all are done, or the whole is and each has no less room, or each is and there is room for
-- the sums of theirs, all are done, and the tables of the contours stand in those of the whole one after the other. Assumes nothing.
use Prim.Native.Nat.{ℕ, zero, suc, ◌+◌, ◌≤◌, ◌<◌}
use mathlib.Core.Path.{◌≡◌, refl, sym, ap, ap₂, ◌∙◌, subst₂}
use mathlib.Core.Logic.{◌⊎◌, inl}
use mathlib.Core.List.{List, [], ◌∷◌}
use native.Mathlib.Nat.{le_trans, le_of_eq, lt_of_le_of_lt, le_of_suc-le-suc, not-suc-le-zero}
use native.Mathlib.Omega.{arith}
use lib.ListN.{length}
use Rattle.point.specs.declared.Setting.{Setting}
use Rattle.primitives.specs.declared.Capacities.{Capacities}
use Rattle.primitives.specs.declared.Primitive.{Primitive}
use Rattle.primitives.specs.declared.Primitive.TheVariants.{Contour}
use Rattle.primitives.specs.declared.QuadRow.{QuadRow}
use Rattle.primitives.specs.declared.SplineRow.{SplineRow}
use Rattle.store.specs.Columns.{Columns}
use Rattle.store.specs.Drawable.{total_uses_of}
use Rattle.store.specs.Contours.{Drawing, upto_move, contours_from}
use Rattle.tables.specs.Tables.{QuadTable, SplineTable, quad_capacity_of, spline_capacity_of, capacities_of, quad_row_at, spline_at}
use Rattle.tables.specs.Run.{World, world, run_of, start_state}
use Rattle.tables.specs.Commands.{primitives_from, tables_of}
use Rattle.tables.proofs.Runs.{run_append}
use Rattle.tables.proofs.Moves.{run_done}
use Rattle.tables.proofs.Sound.{Sound, sound, sound_run}
use Rattle.tables.proofs.Owners.{home, home_owner}
use Rattle.tables.proofs.Flags.{Flagged, Met, flagged_run}
use Rattle.tables.proofs.Standing.{Stands, StandFrom}
use Rattle.tables.proofs.Beside.{done, Holds, Kept, kept_self}
use Rattle.tables.proofs.Stepping.{Stepped, Given, both, whole, alone}
use Rattle.tables.proofs.Joining.{contour_step}
use Rattle.tables.proofs.Slices.{alone_primitives, from_move, upto_no_mark, later_contours, from_short, Moves, from_moves, contour_first}

-- ---- a list of tables: whether each is done, and how many quads and splines they have
abbrev pub AllDone : List World → Type 0
AllDone [] = Unit {0}
AllDone (a ∷ rest) = done a × AllDone rest

abbrev pub quads_in : List World → ℕ
quads_in [] = 0
quads_in (a ∷ rest) = a.state.quads + quads_in rest

abbrev pub splines_in : List World → ℕ
splines_in [] = 0
splines_in (a ∷ rest) = a.state.splines + splines_in rest

module _ (setting : Setting) (capsW : Capacities) (tq : ℕ → QuadTable) (ts : ℕ → SplineTable) where
  -- the tables of each contour alone, the i-th with tables tq i and ts i
  unfoldable pub worlds_from : ℕ → List Drawing → List World
  worlds_from i [] = []
  worlds_from i (d ∷ ds) = tables_of setting d.state d.columns (tq i) (ts i) ∷ worlds_from (suc i) ds

  -- what is given of the whole at the end, which has bq quads and bs splines now, and of the contours that are still to come
  pub data AllGiven (bq bs : ℕ) (end : World) (alones : List World) : Type 0 where
    all_both : done end → AllDone alones → AllGiven bq bs end alones
    from_whole : done end → ((i : ℕ) → capsW.quads ≤ quad_capacity_of (tq i)) → ((i : ℕ) → capsW.splines ≤ spline_capacity_of (ts i)) → AllGiven bq bs end alones
    from_alones : AllDone alones → bq + quads_in alones ≤ capsW.quads → bs + splines_in alones ≤ capsW.splines → AllGiven bq bs end alones

  pub record Joins (W end : World) (alones : List World) : Type 0 where
    pub whole_done : done end
    pub alones_done : AllDone alones
    pub stand : StandFrom end W.state.quads W.state.splines alones
    pub kept : Kept W.state.quads W.state.splines W end

  -- ---- a contour that was run stands in the whole, and in what the whole becomes
  module _ (W W' A end : World) (q : QuadTable) (s : SplineTable) (S : Sound capsW W) (SA : Sound (capacities_of q s) A) (E : ℕ → Type 0) (F : Flagged E W)
      (T : Stepped setting W.state.quads W.state.splines capsW (capacities_of q s) W W' A) (K : Kept W'.state.quads W'.state.splines W' end) where
    abbrev bq : ℕ
    bq = W.state.quads

    abbrev bs : ℕ
    bs = W.state.splines

    more_splines : (k : ℕ) → k < bs → k < W'.state.splines
    more_splines k h = go W'.state.splines A.state.splines T.beside.splines
      where
        go : (w a : ℕ) → w ≡ bs + a → k < w
        go w a e = omega arith

    more_quads : (i : ℕ) → i < bq → i < W'.state.quads
    more_quads i h = go W'.state.quads A.state.quads T.beside.quads
      where
        go : (w a : ℕ) → w ≡ bq + a → i < w
        go w a e = omega arith

    early_spline : (k : ℕ) → k < bs → spline_at end.splines k ≡ spline_at W.splines k
    early_spline k h = K.splines k (more_splines k h) ∙ T.kept.splines k h

    early_quad : (i : ℕ) → i < bq → quad_row_at end.quads i ≡ quad_row_at W.quads i
    early_quad i h = K.quads i (more_quads i h) ∙ T.kept.quads i h

    stands : Stands bq bs end A
    stands =
        record {
          caps = capacities_of q s;
          sound = SA;
          splines = λ k h. K.splines (bs + k) (inside W'.state.splines A.state.splines bs k T.beside.splines h) ∙ T.beside.spline_rows k h;
          quads = λ i h. K.quads (bq + i) (inside W'.state.quads A.state.quads bq i T.beside.quads h) ∙ T.beside.quad_rows i h;
          flagged = λ k e.
              let l = le_of_eq e in
              ap (λ (r : SplineRow). r.contour) (early_spline k l) ∙ F.closing k l (inl e);
          earlier = λ i e.
              let l = le_of_eq e in
              let H = home capsW W S i l in
              lt_of_le_of_lt (le_of_eq (ap (λ (r : QuadRow). r.spline) (early_quad i l) ∙ home_owner capsW W S i H)) H.inside;
        }
      where
        inside : (w a b k : ℕ) → w ≡ b + a → k < a → b + k < w
        inside w a b k e h = omega arith

    earlier_kept : Kept bq bs W end
    earlier_kept = record { splines = early_spline; quads = early_quad }

    pub joins_more : {rest : List World} → Joins W' end rest → Joins W end (A ∷ rest)
    joins_more {rest} J =
        record {
          whole_done = J.whole_done;
          alones_done = (T.alone_done, J.alones_done);
          stand = (stands, subst₂ (λ (a b : ℕ). StandFrom end a b rest) T.beside.quads T.beside.splines J.stand);
          kept = earlier_kept;
        }

  -- ---- what is given of all is given of the first contour, and of the others
  module _ (W W' A end : World) (q : QuadTable) (s : SplineTable) (i : ℕ) (rest : List World) where
    first_given : q ≡ tq i → s ≡ ts i → (done end → done W') → AllGiven W.state.quads W.state.splines end (A ∷ rest)
        → Given setting W.state.quads W.state.splines capsW (capacities_of q s) W' A
    unfolding capacities_of
    first_given eq es up (all_both d e) = both (up d) e.0
    first_given eq es up (from_whole d u v) =
        whole (up d) (on W.state.quads (le_trans (u i) (le_of_eq (ap quad_capacity_of (sym eq)))))
        (on W.state.splines (le_trans (v i) (le_of_eq (ap spline_capacity_of (sym es)))))
      where
        on : (b : ℕ) {x y : ℕ} → x ≤ y → x ≤ b + y
        on b h = omega arith
    first_given eq es up (from_alones e u v) =
        alone e.0 (part W.state.quads A.state.quads (quads_in rest) u) (part W.state.splines A.state.splines (splines_in rest) v)
      where
        part : (b x y : ℕ) {c : ℕ} → b + (x + y) ≤ c → b + x ≤ c
        part b x y h = omega arith

    rest_given : W'.state.quads ≡ W.state.quads + A.state.quads → W'.state.splines ≡ W.state.splines + A.state.splines
        → AllGiven W.state.quads W.state.splines end (A ∷ rest) → AllGiven W'.state.quads W'.state.splines end rest
    rest_given x y (all_both d e) = all_both d e.1
    rest_given x y (from_whole d u v) = from_whole d u v
    rest_given x y (from_alones e u v) =
        from_alones e.1 (moved W.state.quads A.state.quads (quads_in rest) x u) (moved W.state.splines A.state.splines (splines_in rest) y v)
      where
        moved : (b a r : ℕ) {w c : ℕ} → w ≡ b + a → b + (a + r) ≤ c → w + r ≤ c
        moved b a r e h = omega arith

  -- ---- the contours from a Move on, at most n commands
  module _ (c : Columns) where
    -- after a Move: the primitives of its contour, and those from the next Move on
    abbrev first_of : List ℕ → ℕ → List Primitive
    first_of ks j = Contour ∷ primitives_from c (upto_move ks) (j + 1)

    abbrev rest_of : List ℕ → ℕ → List Primitive
    rest_of ks j = primitives_from c (from_move ks) (j + 1 + total_uses_of (upto_move ks))

    -- the whole after the contour and at the end, the contour alone, and the others
    abbrev after : World → List ℕ → ℕ → World
    after W ks j = run_of setting capsW (first_of ks j) W

    abbrev end_of : World → List ℕ → ℕ → World
    end_of W ks j = run_of setting capsW (rest_of ks j) (after W ks j)

    abbrev alone_of_lem : List ℕ → ℕ → ℕ → World
    alone_of_lem ks j i = run_of setting (capacities_of (tq i) (ts i)) (first_of ks j) (world start_state (tq i) (ts i))

    abbrev others : List ℕ → ℕ → ℕ → List World
    others ks j i = worlds_from (suc i) (contours_from c (from_move ks) (j + 1 + total_uses_of (upto_move ks)))

    whole_is : (W : World) (ks : List ℕ) (j : ℕ) → run_of setting capsW (primitives_from c (0 ∷ ks) j) W ≡ end_of W ks j
    whole_is W ks j =
        ap (λ (x : List Primitive). run_of setting capsW x W) (contour_first setting capsW c ks j) ∙ run_append setting capsW (first_of ks j) (rest_of ks j) W

    alones_are : (ks : List ℕ) (j i : ℕ) → worlds_from i (contours_from c (0 ∷ ks) j) ≡ alone_of_lem ks j i ∷ others ks j i
    unfolding contours_from worlds_from tables_of
    alones_are ks j i =
        ap₂ (λ (a : World) (r : List World). a ∷ r)
        (ap (λ (x : List Primitive). run_of setting (capacities_of (tq i) (ts i)) x (world start_state (tq i) (ts i))) (alone_primitives c (upto_move ks) j))
        (ap (worlds_from (suc i)) (later_contours c ks (j + 1)))

    first_run : (W : World) (ks : List ℕ) (j i : ℕ) → Holds capsW W → done W
        → AllGiven W.state.quads W.state.splines (end_of W ks j) (alone_of_lem ks j i ∷ others ks j i)
        → Stepped setting W.state.quads W.state.splines capsW (capacities_of (tq i) (ts i)) W (after W ks j) (alone_of_lem ks j i)
    unfolding run_of
    first_run W ks j i H d g =
        contour_step setting capsW W (tq i) (ts i) (primitives_from c (upto_move ks) (j + 1)) (upto_no_mark setting capsW c ks (j + 1)) H d
        (first_given W (after W ks j) (alone_of_lem ks j i) (end_of W ks j) (tq i) (ts i) i (others ks j i) refl refl
        (run_done setting capsW [] (rest_of ks j) (after W ks j)) g)

    -- what is claimed of at most n commands
    abbrev Claim : ℕ → Type 1
    Claim n =
        (ks : List ℕ) (j i : ℕ) (W : World) (E : ℕ → Type 0) → length ks ≤ n → Moves ks → Sound capsW W → Flagged E W → Holds capsW W → done W
        → AllGiven W.state.quads W.state.splines (run_of setting capsW (primitives_from c ks j) W) (worlds_from i (contours_from c ks j))
        → Joins W (run_of setting capsW (primitives_from c ks j) W) (worlds_from i (contours_from c ks j))

    none : (n : ℕ) (j i : ℕ) (W : World) → done W
        → Joins W (run_of setting capsW (primitives_from c [] j) W) (worlds_from i (contours_from c [] j))
    unfolding primitives_from run_of contours_from worlds_from
    none n j i W d = record { whole_done = d; alones_done = tt; stand = (refl, refl); kept = kept_self _ _ W }

    more : (n : ℕ) → Claim n → Claim (suc n)
    more n later [] j i W E l m S F H d g = none n j i W d
    more n later (suc k ∷ ks) j i W E l m S F H d g = absurd (not-suc-le-zero (le_of_eq m))
    more n later (zero ∷ ks) j i W E l m S F H d g =
        let given = subst₂ (AllGiven W.state.quads W.state.splines) (whole_is W ks j) (alones_are ks j i) g in
        let T = first_run W ks j i H d given in
        let J =
        later (from_move ks) (j + 1 + total_uses_of (upto_move ks)) (suc i) (after W ks j) (λ (x : ℕ). E x ⊎ Met setting capsW (first_of ks j) W x)
        (le_trans (from_short ks) (le_of_suc-le-suc l)) (from_moves ks) (sound_run setting capsW (first_of ks j) W S)
        (flagged_run setting capsW (first_of ks j) E W S F) T.whole_holds T.whole_done
        (rest_given W (after W ks j) (alone_of_lem ks j i) (end_of W ks j) (tq i) (ts i) i (others ks j i) T.beside.quads T.beside.splines given) in
        subst₂ (Joins W) (sym (whole_is W ks j)) (sym (alones_are ks j i))
        (joins_more W (after W ks j) (alone_of_lem ks j i) (end_of W ks j) (tq i) (ts i) S (sound setting (first_of ks j) (tq i) (ts i)) E F T J.kept J)

    pub nested : (n : ℕ) → Claim n
    nested zero [] j i W E l m S F H d g = none 0 j i W d
    nested zero (k ∷ ks) j i W E l m S F H d g = absurd (not-suc-le-zero l)
    nested (suc n) ks j i W E l m S F H d g = more n (nested n) ks j i W E l m S F H d g
