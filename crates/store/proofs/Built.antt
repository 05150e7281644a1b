-- After a build that answered Done the last point equals the open point, as floats after the division by the weight, where none of these is NaN. Assumes nothing.
use Prim.Native.Nat.{ℕ, ◌+◌, ◌-◌, ◌*◌, ◌<◌}
use native.Mathlib.Omega.{arith}
use native.Mathlib.Nat.{add-zero}
use mathlib.Core.Path.{◌≡◌, refl, sym, ap, ◌∙◌, subst}
use mathlib.Core.Bool.{Bool, true, false, true≢false}
use lib.ListN.{length}
use lib.Seq.{get_or-set_same, get_or-set_other}
use lib.Ieee.{Float, nan, inf, fin, eq, is_nan, up, down}
use borrow.Author.Tests.{not-false, eq-eqb}
use Rattle.answer.specs.Number.{is_done}
use Rattle.point.specs.declared.Point.{Point}
use Rattle.point.specs.declared.WeightedPoint.{WeightedPoint}
use Rattle.point.specs.Point.{applied_of, same_of}
use Rattle.store.specs.declared.StoreState.{StoreState}
use Rattle.store.specs.declared.Call.TheVariants.{Build}
use Rattle.store.specs.Columns.{Columns, line_command, stored_point_of, put_point, put_command}
use Rattle.store.specs.Closing.{unclosed_of}
use Rattle.store.specs.Drawing.{Outcome, appended, closed, writes_of, put_points, put_commands, written, state_after, draw_of}
use Rattle.store.proofs.Usable.{usable_counts}
use Rattle.store.proofs.Deciding.{Room, room_fits}
use Rattle.store.proofs.Laws.{Accepted, accepted, accepted_outcome}

-- ---- a point that holds no NaN equals itself
eq_self : (v : Float) → is_nan v ≡ false → eq v v ≡ true
unfolding eq is_nan
eq_self nan e = absurd (true≢false e)
eq_self (inf true) e = refl
eq_self (inf false) e = refl
eq_self (fin true m e) h = rw (eq-eqb (m * up e * down e) (m * up e * down e) refl)
eq_self (fin false m e) h = rw (eq-eqb (m * up e * down e) (m * up e * down e) refl)

pub same_self : (p : Point) → is_nan p.x ≡ false → is_nan p.y ≡ false → same_of p p ≡ true
unfolding same_of
same_self p h k = rw (eq_self p.x h, eq_self p.y k)

-- ---- a point written, and any other
put_same : (c : Columns) (i : ℕ) (p : WeightedPoint) → i < length c.x → i < length c.y → i < length c.weight → stored_point_of (put_point c i p) i ≡ p
unfolding stored_point_of put_point
put_same c i p hx hy hw =
    rw (get_or-set_same c.x i p.point.x nan hx, get_or-set_same c.y i p.point.y nan hy, get_or-set_same c.weight i p.weight nan hw)

put_other : (c : Columns) (i j : ℕ) (p : WeightedPoint) → (j ≡ i → ⊥) → stored_point_of (put_point c i p) j ≡ stored_point_of c j
unfolding stored_point_of put_point
put_other c i j p h =
    rw (get_or-set_other c.x i j p.point.x nan h, get_or-set_other c.y i j p.point.y nan h, get_or-set_other c.weight i j p.weight nan h)

command_apart : (c : Columns) (i k j : ℕ) → stored_point_of (put_command c i k) j ≡ stored_point_of c j
unfolding stored_point_of put_command
command_apart c i k j = refl

-- ---- the two points that closing compares
abbrev pub last_of : StoreState → Columns → Point
last_of st c = applied_of (stored_point_of c (st.points - 1))

abbrev pub open_of : StoreState → Columns → Point
open_of st c = applied_of (stored_point_of c st.opening)

abbrev pub Closed : Outcome → Type 0
Closed o = is_nan (open_of o.state o.columns).x ≡ false → is_nan (open_of o.state o.columns).y ≡ false
    → same_of (last_of o.state o.columns) (open_of o.state o.columns) ≡ true

module _ (st : StoreState) (c : Columns) (a : Accepted Build st c) where
  was_closed : unclosed_of st c ≡ false → Closed (accepted_outcome Build st c)
  unfolding writes_of closed state_after written put_points put_commands unclosed_of
  was_closed e = rw (e, add-zero) (λ h k. not-false (same_of (last_of st c) (open_of st c)) e)

  -- if it was not closed, the open point is now at both places
  abbrev after : Columns
  after = put_command (put_point c st.points (stored_point_of c st.opening)) st.commands line_command

  last_is : unclosed_of st c ≡ true → stored_point_of after (st.points + 1 - 1) ≡ stored_point_of c st.opening
  unfolding writes_of closed appended
  last_is e =
      let f = usable_counts st c a.usable in
      let r : Room (st.points + 1) c = rw e at (room_fits st c f (writes_of Build st c) a.room).points in
      let hx : st.points < length c.x = omega arith in
      let hy : st.points < length c.y = omega arith in
      let hw : st.points < length c.weight = omega arith in
      let i : st.points + 1 - 1 ≡ st.points = omega arith in
      rw i (command_apart _ st.commands line_command st.points ∙ put_same c st.points (stored_point_of c st.opening) hx hy hw)

  open_is : stored_point_of after st.opening ≡ stored_point_of c st.opening
  open_is =
      let f = usable_counts st c a.usable in
      command_apart _ st.commands line_command st.opening ∙ put_other c st.points st.opening (stored_point_of c st.opening) (λ e. omega arith)

  was_open : unclosed_of st c ≡ true → Closed (accepted_outcome Build st c)
  unfolding writes_of closed appended state_after written put_points put_commands
  was_open e =
      rw e
      (λ h k. ap (λ (p : WeightedPoint). same_of (applied_of p) (applied_of (stored_point_of after st.opening))) (last_is e ∙ sym open_is)
      ∙ same_self (applied_of (stored_point_of after st.opening)) h k)

pub build_closes : (st : StoreState) (c : Columns) → is_done (draw_of Build st c).answer ≡ true → Closed (draw_of Build st c)
build_closes st c e = subst Closed (sym a.outcome) (go (unclosed_of st c) refl)
  where
    a : Accepted Build st c
    a = accepted Build st c e

    go : (b : Bool) → unclosed_of st c ≡ b → Closed (accepted_outcome Build st c)
    go true e = was_open st c a e
    go false e = was_closed st c a e
