-- A primitive that is no Move's, pushed in the whole and alone, by what it comes to: a line, a curve, nothing, or too many pieces. Assumes nothing.
use Prim.Native.Nat.{ℕ, suc, ◌+◌, ◌-◌, ◌≤◌, ◌<◌}
use mathlib.Core.Path.{◌≡◌, refl, sym, ap, ◌∙◌, subst, subst₂}
use mathlib.Core.Logic.{inl, inr, ◌≢◌}
use mathlib.Core.Bool.{Bool, true, false, true≢false}
use native.Mathlib.Nat.{le_of_eq, lt_of_lt_of_le, eq-or-lt_of_le, le_of_suc-le-suc, ne_of_lt}
use native.Mathlib.Numerals.{add-one}
use native.Mathlib.Omega.{arith}
use lib.Dec.{T}
use lib.Ieee.{Float, le}
use Rattle.leaves.specs.Single.{◌⊕◌}
use Rattle.leaves.specs.Whole.{limit32}
use Rattle.point.specs.declared.Point.{Point}
use Rattle.point.specs.declared.WeightedPoint.{WeightedPoint}
use Rattle.point.specs.Angle.{Angle}
use Rattle.std.specs.Prelude.{None, Some}
use Rattle.point.specs.declared.Setting.{Setting}
use Rattle.point.specs.Point.{applied_of, minus_of}
use Rattle.point.specs.Angle.{angle_of}
use Rattle.primitives.specs.declared.Capacities.{Capacities}
use Rattle.primitives.specs.declared.Primitive.{Primitive}
use Rattle.primitives.specs.declared.Primitive.TheVariants.{Contour, Line, Quad, Excess}
use Rattle.primitives.specs.declared.Kind.TheVariants.{Straight, Round}
use Rattle.primitives.specs.declared.QuadRow.{QuadRow}
use Rattle.primitives.specs.Edits.{SplineEdit, Edit, Extend}
use Rattle.primitives.specs.Splines.{spline_edit_of}
use Rattle.primitives.specs.Plan.{refused_of, plan_line_of, quad_row_of, plan_curve_of, plan_legs_of, plan_quad_of, plan_of}
use Rattle.tables.specs.Tables.{QuadTable, quad_capacity_of, put_quad, quad_row_at, put_spline}
use Rattle.tables.specs.Run.{World, world, apply_of, push_of}
use Rattle.tables.proofs.Pushes.{last_of, is_mark, spline_edit}
use Rattle.tables.proofs.Drawn.{edit_sets}
use Rattle.tables.proofs.RowLaws.{row_put, row_stays, capacity_stays}
use Rattle.tables.proofs.Verdicts.{Opening, line_opens, line_edit, line_needs, line_stored, curve_opens, own_curve, curve_sum, curve_edit, bend_edit, CurveNeeds, curve_needs, curve_stored}
use Rattle.tables.proofs.Standing.{quad_on}
use Rattle.tables.proofs.Beside.{done, Holds, kept_self, Beside, opens_same, free, sum_same, EditOn, edit_on, top}
use Rattle.tables.proofs.Stepping.{Stepped, Given, both, whole, alone, edited}

-- ---- any edit of a world with room for it
module _ (caps : Capacities) (w : World) (H : Holds caps w) (opens : Bool) (start end : Point) (sum : Float) (quads : ℕ) (a : Angle) where
  at_room : Opening caps w opens → (opens ≡ false → 0 < w.state.splines) → (spline_edit w opens start end sum quads a).at < caps.splines
  unfolding spline_edit_of
  at_room h f = go opens h f
    where
      less : (n c : ℕ) → 0 < n → n ≤ c → n - 1 < c
      less n c h k = omega arith

      go : (o : Bool) → Opening caps w o → (o ≡ false → 0 < w.state.splines) → (spline_edit w o start end sum quads a).at < caps.splines
      go true h f = h refl
      go false h f = less w.state.splines caps.splines (f refl) H.within

  opened : opens ≡ true → (spline_edit w opens start end sum quads a).next.splines ≡ suc w.state.splines
  unfolding spline_edit_of
  opened h = go opens h
    where
      go : (o : Bool) → o ≡ true → (spline_edit w o start end sum quads a).next.splines ≡ suc w.state.splines
      go true e = add-one w.state.splines
      go false e = absurd (true≢false (sym e))

module _ (setting : Setting) (bq bs : ℕ) (capsW caps_a : Capacities) (W A : World) (B : Beside setting bq bs W A) (HW : Holds capsW W) (HA : Holds caps_a A) where
  -- ---- room on one side is room on the other
  less_alone : (w a cw ca b : ℕ) → w ≡ b + a → w < cw → cw ≤ b + ca → a < ca
  less_alone w a cw ca b e h k = omega arith

  less_whole : (w a n cw b : ℕ) → w ≡ b + a → n ≡ suc a → b + n ≤ cw → w < cw
  less_whole w a n cw b e f h = omega arith

  free_whole : W.state.mark ≡ false → 0 < W.state.splines
  free_whole m = go W.state.splines A.state.splines B.splines (B.some (sym B.mark ∙ m))
    where
      go : (w a : ℕ) → w ≡ bs + a → 0 < a → 0 < w
      go w a e h = omega arith

  -- ---- an edit that is stored on both sides
  module _ (opens : Bool) (f : opens ≡ false → A.state.mark ≡ false) (oW : Opening capsW W opens) (oA : Opening caps_a A opens) (start end : Point)
      {sum sum' : Float} (es : sum ≡ sum') (n m : ℕ) (en : n ≡ bq + m) {a a' : Angle} (ea : a ≡ a') where
    abbrev e_w : SplineEdit
    e_w = spline_edit W opens start end sum n a

    abbrev e_a : SplineEdit
    e_a = spline_edit A opens start end sum' m a'

    abbrev E : EditOn setting bq bs W A B e_w e_a
    E = edit_on setting bq bs W A B opens f start end es n m en ea

    both_edited : (qW qA : QuadTable) → quad_capacity_of qW ≡ quad_capacity_of W.quads → quad_capacity_of qA ≡ quad_capacity_of A.quads
        → ((i : ℕ) → i < m → quad_row_at qW (bq + i) ≡ quad_on bs (quad_row_at qA i))
        → ((i : ℕ) → i < bq → quad_row_at qW i ≡ quad_row_at W.quads i)
        → Stepped setting bq bs capsW caps_a W (world e_w.next qW (put_spline W.splines e_w)) (world e_a.next qA (put_spline A.splines e_a))
    both_edited qW qA cW cA rows before =
        edited setting bq bs capsW caps_a W A B HW HA e_w e_a E
        (top W opens (λ o. B.mark ∙ f o) free_whole start end sum n a)
        (top A opens f B.some start end sum' m a')
        (at_room capsW W HW opens start end sum n a oW (λ o. free_whole (B.mark ∙ f o)))
        (at_room caps_a A HA opens start end sum' m a' oA (λ o. B.some (f o)))
        qW qA cW cA (λ i h. rows i (lt_of_lt_of_le h (le_of_eq (edit_sets A start end sum' m a' opens).4))) before

  -- ---- a line
  module _ (start end : Point) where
    abbrev line_w : World
    line_w = apply_of (plan_line_of setting capsW W.state (last_of W) start end) W.quads W.splines

    abbrev line_a : World
    line_a = apply_of (plan_line_of setting caps_a A.state (last_of A) start end) A.quads A.splines

    abbrev angle : Angle
    angle = angle_of (minus_of end start)

    abbrev o : Bool
    o = line_opens setting caps_a A start end

    same : line_opens setting capsW W start end ≡ o
    same = opens_same setting bq bs W A B Straight angle start

    stored_alone : Opening caps_a A o → line_a ≡ apply_of (Extend (line_edit setting caps_a A start end o)) A.quads A.splines
    stored_alone h = ap (λ (e : Edit). apply_of e A.quads A.splines) (line_stored setting caps_a A start end h)

    stored_whole : Opening capsW W o → line_w ≡ apply_of (Extend (line_edit setting capsW W start end o)) W.quads W.splines
    stored_whole h =
        ap (λ (e : Edit). apply_of e W.quads W.splines) (line_stored setting capsW W start end (subst (Opening capsW W) (sym same) h))
        ∙ ap (λ (b : Bool). apply_of (Extend (line_edit setting capsW W start end b)) W.quads W.splines) same

    needs : Given setting bq bs capsW caps_a line_w line_a → Opening capsW W o × Opening caps_a A o
    unfolding apply_of
    needs (both d e) = (subst (Opening capsW W) same (line_needs setting capsW W start end d), line_needs setting caps_a A start end e)
    needs (whole d q s) =
        let h = subst (Opening capsW W) same (line_needs setting capsW W start end d) in
        (h, λ z. less_alone W.state.splines A.state.splines capsW.splines caps_a.splines bs B.splines (h z) s)
    needs (alone d q s) =
        let h = line_needs setting caps_a A start end d in (
          λ z. less_whole W.state.splines A.state.splines line_a.state.splines capsW.splines bs B.splines
              (ap (λ (w : World). w.state.splines) (stored_alone h) ∙ opened caps_a A HA o start end _ _ _ z) s,
          h,
        )

    line_step : Given setting bq bs capsW caps_a line_w line_a → Stepped setting bq bs capsW caps_a W line_w line_a
    unfolding apply_of
    line_step g =
        let n = needs g in
        let f : (o ≡ false → A.state.mark ≡ false) = free setting bq bs W A B Straight angle start in
        subst₂ (Stepped setting bq bs capsW caps_a W) (sym (stored_whole n.0)) (sym (stored_alone n.1))
        (both_edited o f n.0 n.1 start end (sum_same setting bq bs W A B o f) W.state.quads A.state.quads B.quads (B.angle angle)
        W.quads A.quads refl refl B.quad_rows (λ i h. refl))

  -- ---- a curve
  module _ (p0 p1 p2 : WeightedPoint) (a b : Angle) where
    abbrev curve_w : World
    curve_w = apply_of (plan_curve_of setting capsW W.state (last_of W) p0 p1 p2 a b) W.quads W.splines

    abbrev curve_a : World
    curve_a = apply_of (plan_curve_of setting caps_a A.state (last_of A) p0 p1 p2 a b) A.quads A.splines

    abbrev oc : Bool
    oc = curve_opens setting caps_a A p0 p1 p2 a b

    same_curve : curve_opens setting capsW W p0 p1 p2 a b ≡ oc
    same_curve = opens_same setting bq bs W A B Round a (applied_of p0)

    free_curve : oc ≡ false → A.state.mark ≡ false
    free_curve = free setting bq bs W A B Round a (applied_of p0)

    sum_curve : curve_sum setting capsW W p0 p1 p2 a b oc ≡ curve_sum setting caps_a A p0 p1 p2 a b oc
    sum_curve = ap (λ (s : Float). s ⊕ (own_curve setting caps_a A p0 p1 p2 a b).curvature) (sum_same setting bq bs W A B oc free_curve)

    sum_fits_lem : T (le (curve_sum setting capsW W p0 p1 p2 a b (curve_opens setting capsW W p0 p1 p2 a b)) limit32)
        ≡ T (le (curve_sum setting caps_a A p0 p1 p2 a b oc) limit32)
    sum_fits_lem =
        ap (λ (x : Bool). T (le (curve_sum setting capsW W p0 p1 p2 a b x) limit32)) same_curve ∙ ap (λ (s : Float). T (le s limit32)) sum_curve

    bent_alone : CurveNeeds setting caps_a A p0 p1 p2 a b → curve_a ≡ apply_of (bend_edit setting caps_a A p0 p1 p2 a b oc) A.quads A.splines
    bent_alone h = ap (λ (e : Edit). apply_of e A.quads A.splines) (curve_stored setting caps_a A p0 p1 p2 a b h)

    bent_whole : CurveNeeds setting capsW W p0 p1 p2 a b → curve_w ≡ apply_of (bend_edit setting capsW W p0 p1 p2 a b oc) W.quads W.splines
    bent_whole h =
        ap (λ (e : Edit). apply_of e W.quads W.splines) (curve_stored setting capsW W p0 p1 p2 a b h)
        ∙ ap (λ (x : Bool). apply_of (bend_edit setting capsW W p0 p1 p2 a b x) W.quads W.splines) same_curve

    curve_both : Given setting bq bs capsW caps_a curve_w curve_a → CurveNeeds setting capsW W p0 p1 p2 a b × CurveNeeds setting caps_a A p0 p1 p2 a b
    unfolding apply_of
    curve_both (both d e) = (curve_needs setting capsW W p0 p1 p2 a b d, curve_needs setting caps_a A p0 p1 p2 a b e)
    curve_both (whole d q s) =
        let h = curve_needs setting capsW W p0 p1 p2 a b d in (
          h,
          record {
            quads = less_alone W.state.quads A.state.quads capsW.quads caps_a.quads bq B.quads h.quads q;
            opening = λ z. less_alone W.state.splines A.state.splines capsW.splines caps_a.splines bs B.splines (h.opening (same_curve ∙ z)) s;
            fits = subst (λ (t : Type 0). t) sum_fits_lem h.fits;
          },
        )
    curve_both (alone d q s) =
        let h = curve_needs setting caps_a A p0 p1 p2 a b d in
        let e = bent_alone h in
        let sets = edit_sets A (applied_of p0) (applied_of p2) (curve_sum setting caps_a A p0 p1 p2 a b oc) (A.state.quads + 1) b oc in (
          record {
            quads =
                less_whole W.state.quads A.state.quads curve_a.state.quads capsW.quads bq B.quads
                (ap (λ (w : World). w.state.quads) e ∙ sets.4 ∙ add-one A.state.quads) q;
            opening = λ z.
                less_whole W.state.splines A.state.splines curve_a.state.splines capsW.splines bs B.splines
                (ap (λ (w : World). w.state.splines) e ∙ opened caps_a A HA oc _ _ _ _ _ (sym same_curve ∙ z)) s;
            fits = subst (λ (t : Type 0). t) (sym sum_fits_lem) h.fits;
          },
          h,
        )

    -- ---- the quad's row in both tables
    module _ (nW : CurveNeeds setting capsW W p0 p1 p2 a b) (nA : CurveNeeds setting caps_a A p0 p1 p2 a b) where
      abbrev edit_w : SplineEdit
      edit_w = curve_edit setting capsW W p0 p1 p2 a b oc

      abbrev edit_a : SplineEdit
      edit_a = curve_edit setting caps_a A p0 p1 p2 a b oc

      abbrev row_w : QuadRow
      row_w = quad_row_of p0 p1 p2 (own_curve setting capsW W p0 p1 p2 a b) edit_w

      abbrev row_a : QuadRow
      row_a = quad_row_of p0 p1 p2 (own_curve setting caps_a A p0 p1 p2 a b) edit_a

      more : W.state.quads + 1 ≡ bq + (A.state.quads + 1)
      more = go W.state.quads A.state.quads B.quads
        where
          go : (w a : ℕ) → w ≡ bq + a → w + 1 ≡ bq + (a + 1)
          go w a e = omega arith

      on : EditOn setting bq bs W A B edit_w edit_a
      on = edit_on setting bq bs W A B oc free_curve (applied_of p0) (applied_of p2) sum_curve (W.state.quads + 1) (A.state.quads + 1) more refl

      row_on : row_w ≡ quad_on bs row_a
      unfolding quad_row_of
      row_on = rw (on.row, on.at)

      stored : quad_row_at (put_quad W.quads W.state.quads row_w) (bq + A.state.quads) ≡ quad_on bs (quad_row_at (put_quad A.quads A.state.quads row_a) A.state.quads)
      stored =
          ap (quad_row_at (put_quad W.quads W.state.quads row_w)) (sym B.quads)
          ∙ row_put W.quads W.state.quads row_w (lt_of_lt_of_le nW.quads HW.quads)
          ∙ row_on
          ∙ sym (ap (quad_on bs) (row_put A.quads A.state.quads row_a (lt_of_lt_of_le nA.quads HA.quads)))

      rows : (i : ℕ) → i < A.state.quads + 1
          → quad_row_at (put_quad W.quads W.state.quads row_w) (bq + i) ≡ quad_on bs (quad_row_at (put_quad A.quads A.state.quads row_a) i)
      rows i h = elim (eq-or-lt_of_le (le_of_suc-le-suc (lt_of_lt_of_le h (le_of_eq (add-one A.state.quads))))) [
        | inl e ↦
            subst (λ (j : ℕ). quad_row_at (put_quad W.quads W.state.quads row_w) (bq + j) ≡ quad_on bs (quad_row_at (put_quad A.quads A.state.quads row_a) j))
            (sym e) stored
        | inr l ↦
            row_stays W.quads W.state.quads row_w (bq + i) (off W.state.quads A.state.quads B.quads i l)
            ∙ B.quad_rows i l
            ∙ sym (ap (quad_on bs) (row_stays A.quads A.state.quads row_a i (ne_of_lt l)))
      ]
        where
          off : (w a : ℕ) → w ≡ bq + a → (i : ℕ) → i < a → bq + i ≢ w
          off w a e i l f = omega arith

      earlier : (i : ℕ) → i < bq → quad_row_at (put_quad W.quads W.state.quads row_w) i ≡ quad_row_at W.quads i
      earlier i h = row_stays W.quads W.state.quads row_w i (off W.state.quads A.state.quads B.quads)
        where
          off : (w a : ℕ) → w ≡ bq + a → i ≢ w
          off w a e f = omega arith

      curve_stepped : Stepped setting bq bs capsW caps_a W curve_w curve_a
      unfolding apply_of
      curve_stepped =
          subst₂ (Stepped setting bq bs capsW caps_a W) (sym (bent_whole nW)) (sym (bent_alone nA))
          (both_edited oc free_curve (subst (Opening capsW W) same_curve nW.opening) nA.opening (applied_of p0) (applied_of p2) sum_curve
          (W.state.quads + 1) (A.state.quads + 1) more refl
          (put_quad W.quads W.state.quads row_w) (put_quad A.quads A.state.quads row_a)
          (capacity_stays W.quads W.state.quads row_w) (capacity_stays A.quads A.state.quads row_a) rows earlier)

    curve_step : Given setting bq bs capsW caps_a curve_w curve_a → Stepped setting bq bs capsW caps_a W curve_w curve_a
    curve_step g = let n = curve_both g in curve_stepped n.0 n.1

  -- ---- any primitive but a Move's
  legs_step : (p0 p1 p2 : WeightedPoint) (x y : Angle) → done W → done A
      → Given setting bq bs capsW caps_a (apply_of (plan_legs_of setting capsW W.state (last_of W) p0 p1 p2 x y) W.quads W.splines)
      (apply_of (plan_legs_of setting caps_a A.state (last_of A) p0 p1 p2 x y) A.quads A.splines)
      → Stepped setting bq bs capsW caps_a W (apply_of (plan_legs_of setting capsW W.state (last_of W) p0 p1 p2 x y) W.quads W.splines)
      (apply_of (plan_legs_of setting caps_a A.state (last_of A) p0 p1 p2 x y) A.quads A.splines)
  unfolding plan_legs_of apply_of
  legs_step p0 p1 p2 None None d e g =
      record { whole_done = d; alone_done = e; beside = B; kept = kept_self bq bs W; whole_holds = HW; alone_holds = HA }
  legs_step p0 p1 p2 None (Some y) d e g = line_step (applied_of p0) (applied_of p2) g
  legs_step p0 p1 p2 (Some x) None d e g = line_step (applied_of p0) (applied_of p2) g
  legs_step p0 p1 p2 (Some x) (Some y) d e g = curve_step p0 p1 p2 (Some x) (Some y) g

  pub push_step : (p : Primitive) → is_mark p ≡ false → done W → done A → Given setting bq bs capsW caps_a (push_of setting capsW p W) (push_of setting caps_a p A)
      → Stepped setting bq bs capsW caps_a W (push_of setting capsW p W) (push_of setting caps_a p A)
  unfolding push_of plan_of plan_quad_of apply_of refused_of
  push_step Contour m d e g = absurd (true≢false m)
  push_step (Line p0 p1) m d e g = line_step (applied_of p0) (applied_of p1) g
  push_step (Quad p0 p1 p2) m d e g = legs_step p0 p1 p2 _ _ d e g
  push_step Excess m d e (both x y) = absurd (true≢false (sym x))
  push_step Excess m d e (whole x q s) = absurd (true≢false (sym x))
  push_step Excess m d e (alone x q s) = absurd (true≢false (sym x))
