-- The answers of the drawing calls are exact: each of the four tests fails exactly on its fault, and the first that fails gives the answer. Assumes nothing.
use Prim.Native.Nat.{ℕ, ◌+◌, ◌-◌, ◌≤◌, ◌<◌}
use mathlib.Core.Path.{◌≡◌, refl, sym, ap, subst}
use mathlib.Core.Logic.{◌⊎◌, inl, inr, ◌≢◌, ◌↔◌}
use mathlib.Core.Bool.{Bool, true, false, not, ◌||◌, cond, true≢false}
use native.Mathlib.Omega.{arith}
use lib.Dec.{T, leb, eqb, eqb→eq}
use lib.Ieee.{Float, of_bits}
use lib.Ieee.Fits.{eq→eqb}
use lib.ListN.{length, get_or}
use borrow.Author.Tests.{eqb-false}
use mathlib.Mathlib.Data.Bool.Basic.{eq-false_of_not-eq-true}
use Rattle.store.proofs.Laws.{draw_answer, refused_keeps as store_keeps}
use Rattle.answer.proofs.Laws.{done_is}
use Rattle.answer.specs.Answer.{Answer}
use Rattle.answer.specs.Answer.{Done, BadCoordinate, BadWeight, Unusable, StoreFull}
use Rattle.answer.specs.Number.{number_of}
use Rattle.leaves.specs.Single.{f32, zero32}
use Rattle.point.specs.Point.{point_at, plain}
use Rattle.store.specs.declared.StoreState.{StoreState}
use Rattle.store.specs.declared.Call.{Call}
use Rattle.store.specs.declared.Call.TheVariants.{Move, Line, Quad, Cubic, RatQuad, RatCubic, Build}
use Rattle.store.specs.Columns.{Columns, state_at, put_point, put_command, move_command, last_command_of, even_of, usable_of}
use Rattle.store.specs.Closing.{unclosed_of}
use Rattle.store.specs.Drawing.{Outcome, outcome, Writes, coordinate_ok_of, weight_ok_of, every, coordinates_of, weights_of, appended, closed, moved, writes_of}
use Rattle.store.specs.Drawing.{room_of, answer_of, draw_of, fresh_of}
use Rattle.promises.specs.DrawingAnswers.{UnusableStore, uneven_y, uneven_weight, no_point, points_over, no_command, commands_over, open_over}
use Rattle.promises.specs.DrawingAnswers.{last_over, Outside, CoordinateOutside, WeightOutside, new_points, new_commands, NoRoom}
use Rattle.promises.specs.DrawingAnswers.{DrawingAnswers, RefusedKeeps, Uneven, NoLength, FreshAnswer}
use Rattle.promises.proofs.Telling.{Tells, tells_as, passes, tells_and, tells_leb, tells_ltb, tells_eqb, tells_outside, Some, tells_every, both_hold}
use Rattle.promises.proofs.Telling.{neither}

-- ---- 3
pub tells_usable : (st : StoreState) (c : Columns) → Tells (usable_of st c) (UnusableStore st c)
unfolding usable_of even_of last_command_of
tells_usable st c =
    tells_as _ _ _ to from
    (tells_and _ _ _ _
    (tells_and _ _ _ _
    (tells_and _ _ _ _
    (tells_and _ _ _ _
    (tells_and _ _ _ _
    (tells_and _ _ _ _
    (tells_and _ _ _ _ (tells_eqb (length c.y) (length c.x)) (tells_eqb (length c.weight) (length c.x)))
    (tells_leb 1 st.points))
    (tells_leb st.points (length c.x)))
    (tells_leb 1 st.commands))
    (tells_leb st.commands (length c.commands)))
    (tells_ltb st.opening st.points))
    (tells_leb (get_or c.commands (st.commands - 1) 0) 3))
  where
    Faults : Type 0
    Faults =
        (((((((length c.y ≢ length c.x) ⊎ (length c.weight ≢ length c.x)) ⊎ (st.points < 1)) ⊎ (length c.x < st.points)) ⊎ (st.commands < 1)) ⊎ (length c.commands < st.commands)) ⊎ (st.points ≤ st.opening))
        ⊎ (3 < get_or c.commands (st.commands - 1) 0)

    zero_of : (n : ℕ) → n < 1 → n ≡ 0
    zero_of n h = omega arith

    none_of : (n : ℕ) → n ≡ 0 → n < 1
    none_of n h = omega arith

    to : Faults → UnusableStore st c
    to (inl (inl (inl (inl (inl (inl (inl h))))))) = uneven_y h
    to (inl (inl (inl (inl (inl (inl (inr h))))))) = uneven_weight h
    to (inl (inl (inl (inl (inl (inr h)))))) = no_point (zero_of st.points h)
    to (inl (inl (inl (inl (inr h))))) = points_over h
    to (inl (inl (inl (inr h)))) = no_command (zero_of st.commands h)
    to (inl (inl (inr h))) = commands_over h
    to (inl (inr h)) = open_over h
    to (inr h) = last_over h

    from : UnusableStore st c → Faults
    from (uneven_y h) = inl (inl (inl (inl (inl (inl (inl h))))))
    from (uneven_weight h) = inl (inl (inl (inl (inl (inl (inr h))))))
    from (no_point h) = inl (inl (inl (inl (inl (inr (none_of st.points h))))))
    from (points_over h) = inl (inl (inl (inl (inr h))))
    from (no_command h) = inl (inl (inl (inr (none_of st.commands h))))
    from (commands_over h) = inl (inl (inr h))
    from (open_over h) = inl (inr h)
    from (last_over h) = inr h

-- ---- 1 and 2
coordinate_tells : (v : Float) → Tells (coordinate_ok_of v) (Outside (f32 0xc780_0000) (f32 0x4780_0000) v)
unfolding coordinate_ok_of of_bits
coordinate_tells v = tells_outside (f32 0xc780_0000) (f32 0x4780_0000) v tt tt

pub weight_tells : (v : Float) → Tells (weight_ok_of v) (Outside (f32 0x3c80_0000) (f32 0x4280_0000) v)
unfolding weight_ok_of of_bits
weight_tells v = tells_outside (f32 0x3c80_0000) (f32 0x4280_0000) v tt tt

tells_coordinates : (call : Call) → Tells (every coordinate_ok_of (coordinates_of call)) (CoordinateOutside call)
tells_coordinates call =
    tells_as (every coordinate_ok_of (coordinates_of call)) (Some (Outside (f32 0xc780_0000) (f32 0x4780_0000)) (coordinates_of call)) (CoordinateOutside call) (λ s. record { v = s.v; given = s.member; outside = s.fault }) (λ s. record { v = s.v; member = s.given; fault = s.outside })
    (tells_every coordinate_ok_of (Outside (f32 0xc780_0000) (f32 0x4780_0000)) coordinate_tells (coordinates_of call))

tells_weights : (call : Call) → Tells (every weight_ok_of (weights_of call)) (WeightOutside call)
tells_weights call =
    tells_as (every weight_ok_of (weights_of call)) (Some (Outside (f32 0x3c80_0000) (f32 0x4280_0000)) (weights_of call)) (WeightOutside call) (λ s. record { w = s.v; given = s.member; outside = s.fault }) (λ s. record { v = s.w; member = s.given; fault = s.outside })
    (tells_every weight_ok_of (Outside (f32 0x3c80_0000) (f32 0x4280_0000)) weight_tells (weights_of call))

-- ---- 4
module _ (st : StoreState) (c : Columns) (P : 1 ≤ st.points) where
  room_as : (w : Writes) (np nc : ℕ) → w.at + length w.points ≡ st.points + np → length w.commands ≡ nc → Tells (room_of w st c) ((length c.x < st.points + np) ⊎ (length c.commands < st.commands + nc))
  unfolding room_of
  room_as w np nc e f =
      subst (λ (a : ℕ). Tells (room_of w st c) ((length c.x < a) ⊎ (length c.commands < st.commands + nc))) e
      (subst (λ (a : ℕ). Tells (room_of w st c) ((length c.x < w.at + length w.points) ⊎ (length c.commands < st.commands + a))) f
      (tells_and (leb (w.at + length w.points) (length c.x)) (leb (st.commands + length w.commands) (length c.commands)) _ _
      (tells_leb (w.at + length w.points) (length c.x)) (tells_leb (st.commands + length w.commands) (length c.commands))))

  last_again : (n : ℕ) → 1 ≤ n → n - 1 + 1 ≡ n + 0
  last_again n h = omega arith

  pub tells_room : (call : Call) → Tells (room_of (writes_of call st c) st c) (NoRoom call st c)
  unfolding writes_of appended closed moved
  tells_room (Move p) = go (eqb (last_command_of st c) move_command) (unclosed_of st c)
    where
      go : (a u : Bool) → Tells (room_of (moved st c p a u) st c) ((length c.x < st.points + new_points (Move p) a u) ⊎ (length c.commands < st.commands + new_commands (Move p) a u))
      go true u = room_as (moved st c p true u) 0 0 (last_again st.points P) refl
      go false true = room_as (moved st c p false true) 2 2 refl refl
      go false false = room_as (moved st c p false false) 1 1 refl refl
  tells_room (Line p) = room_as (writes_of (Line p) st c) 1 1 refl refl
  tells_room (Quad p1 p2) = room_as (writes_of (Quad p1 p2) st c) 2 1 refl refl
  tells_room (Cubic p1 p2 p3) = room_as (writes_of (Cubic p1 p2 p3) st c) 3 1 refl refl
  tells_room (RatQuad p1 p2 w) = room_as (writes_of (RatQuad p1 p2 w) st c) 2 1 refl refl
  tells_room (RatCubic p1 p2 p3 w1 w2) = room_as (writes_of (RatCubic p1 p2 p3 w1 w2) st c) 3 1 refl refl
  tells_room Build = go (unclosed_of st c)
    where
      go : (u : Bool) → Tells (room_of (closed st c u) st c) ((length c.x < st.points + new_points Build true u) ⊎ (length c.commands < st.commands + new_commands Build true u))
      go true = room_as (closed st c true) 1 1 refl refl
      go false = room_as (closed st c false) 0 0 refl refl

-- ---- the ladder
pub differ : {a b : Answer} → number_of a ≢ number_of b → a ≡ b → ⊥
differ h e = h (ap number_of e)

record Ladder (answer : Answer) (U C W R : Type 0) : Type 0 where
  three : (answer ≡ Unusable) ↔ U
  one : (answer ≡ BadCoordinate) ↔ ((¬ U) × C)
  two : (answer ≡ BadWeight) ↔ ((¬ U) × (¬ C) × W)
  four : (answer ≡ StoreFull) ↔ ((¬ U) × (¬ C) × (¬ W) × R)
  zero : (answer ≡ Done) ↔ ((¬ U) × (¬ C) × (¬ W) × (¬ R))

module _ (U C W R : Type 0) where
  ladder : (u c w r : Bool) → Tells u U → Tells c C → Tells w W → (u ≡ true → Tells r R)
      → Ladder (cond (not u) Unusable (cond (not c) BadCoordinate (cond (not w) BadWeight (cond (not r) StoreFull Done)))) U C W R
  ladder false c w r s t v x =
      record {
        three = both_hold refl (s.0 refl);
        one = neither (differ (eqb-false 3 1 refl)) (λ z. z.0 (s.0 refl));
        two = neither (differ (eqb-false 3 2 refl)) (λ z. z.0 (s.0 refl));
        four = neither (differ (eqb-false 3 4 refl)) (λ z. z.0 (s.0 refl));
        zero = neither (differ (eqb-false 3 0 refl)) (λ z. z.0 (s.0 refl));
      }
  ladder true false w r s t v x =
      record {
        three = neither (differ (eqb-false 1 3 refl)) (passes true U s refl);
        one = both_hold refl (passes true U s refl, t.0 refl);
        two = neither (differ (eqb-false 1 2 refl)) (λ z. z.1 (t.0 refl));
        four = neither (differ (eqb-false 1 4 refl)) (λ z. z.1 (t.0 refl));
        zero = neither (differ (eqb-false 1 0 refl)) (λ z. z.1 (t.0 refl));
      }
  ladder true true false r s t v x =
      record {
        three = neither (differ (eqb-false 2 3 refl)) (passes true U s refl);
        one = neither (differ (eqb-false 2 1 refl)) (λ z. passes true C t refl z.1);
        two = both_hold refl (passes true U s refl, passes true C t refl, v.0 refl);
        four = neither (differ (eqb-false 2 4 refl)) (λ z. z.2 (v.0 refl));
        zero = neither (differ (eqb-false 2 0 refl)) (λ z. z.2 (v.0 refl));
      }
  ladder true true true false s t v x =
      record {
        three = neither (differ (eqb-false 4 3 refl)) (passes true U s refl);
        one = neither (differ (eqb-false 4 1 refl)) (λ z. passes true C t refl z.1);
        two = neither (differ (eqb-false 4 2 refl)) (λ z. passes true W v refl z.2);
        four = both_hold refl (passes true U s refl, passes true C t refl, passes true W v refl, (x refl).0 refl);
        zero = neither (differ (eqb-false 4 0 refl)) (λ z. z.3 ((x refl).0 refl));
      }
  ladder true true true true s t v x =
      record {
        three = neither (differ (eqb-false 0 3 refl)) (passes true U s refl);
        one = neither (differ (eqb-false 0 1 refl)) (λ z. passes true C t refl z.1);
        two = neither (differ (eqb-false 0 2 refl)) (λ z. passes true W v refl z.2);
        four = neither (differ (eqb-false 0 4 refl)) (λ z. passes true R (x refl) refl z.3);
        zero = both_hold refl (passes true U s refl, passes true C t refl, passes true W v refl, passes true R (x refl) refl);
      }

-- ---- the drawing calls
usable_points : (st : StoreState) (c : Columns) → usable_of st c ≡ true → 1 ≤ st.points
usable_points st c h = some st.points (λ e. passes (usable_of st c) (UnusableStore st c) (tells_usable st c) h (no_point e))
  where
    some : (n : ℕ) → (n ≡ 0 → ⊥) → 1 ≤ n
    some n h = omega arith

module _ (call : Call) (st : StoreState) (c : Columns) where
  climbed : Ladder (answer_of call st c) (UnusableStore st c) (CoordinateOutside call) (WeightOutside call) (NoRoom call st c)
  unfolding answer_of
  climbed =
      ladder (UnusableStore st c) (CoordinateOutside call) (WeightOutside call) (NoRoom call st c) (usable_of st c) (every coordinate_ok_of (coordinates_of call)) (every weight_ok_of (weights_of call)) (room_of (writes_of call st c) st c)
      (tells_usable st c) (tells_coordinates call) (tells_weights call) (λ h. tells_room st c (usable_points st c h) call)

pub drawing_answers : DrawingAnswers
drawing_answers call st c =
    let e = draw_answer call st c in
    let L : Ladder (draw_of call st c).answer (UnusableStore st c) (CoordinateOutside call) (WeightOutside call) (NoRoom call st c) =
    subst (λ (a : Answer). Ladder a (UnusableStore st c) (CoordinateOutside call) (WeightOutside call) (NoRoom call st c)) (sym e) (climbed call st c) in
    record { three = L.three; one = L.one; two = L.two; four = L.four; zero = L.zero }

pub refused_keeps : RefusedKeeps
refused_keeps call st c h = store_keeps call st c (eq-false_of_not-eq-true (λ e. h (done_is (draw_of call st c).answer e)))

-- ---- the fresh call
pub tells_even : (c : Columns) → Tells (even_of c) (Uneven c)
unfolding even_of
tells_even c = tells_and _ _ _ _ (tells_eqb (length c.y) (length c.x)) (tells_eqb (length c.weight) (length c.x))

no_length : (c : Columns) → (eqb (length c.x) 0 || eqb (length c.commands) 0 ≡ true) ↔ NoLength c
no_length c = go (eqb (length c.x) 0) (eqb (length c.commands) 0) (eqb→eq (length c.x) 0) (eqb→eq (length c.commands) 0) (λ h. eq→eqb h) (λ h. eq→eqb h)
  where
    go : (a b : Bool) → (T a → length c.x ≡ 0) → (T b → length c.commands ≡ 0) → (length c.x ≡ 0 → T a) → (length c.commands ≡ 0 → T b) → (a || b ≡ true) ↔ NoLength c
    go true b f g h k = (λ e. inl (f tt), λ z. refl)
    go false true f g h k = (λ e. inr (g tt), λ z. refl)
    go false false f g h k = (λ e. absurd (true≢false (sym e)), λ z. absurd (elim z [ inl x ↦ h x | inr x ↦ k x ]))

module _ (c : Columns) where
  made : Bool → Bool → Outcome
  made e n =
      cond (not e) (outcome Unusable (state_at 0 0 0) c)
      (cond n (outcome StoreFull (state_at 0 0 0) c) (outcome Done (state_at 1 1 0) (put_command (put_point c 0 (plain (point_at zero32 zero32))) 0 move_command)))

  fresh_is : fresh_of c ≡ made (even_of c) (eqb (length c.x) 0 || eqb (length c.commands) 0)
  unfolding fresh_of made
  fresh_is = refl

  record Freshly (o : Outcome) : Type 0 where
    three : (o.answer ≡ Unusable) ↔ Uneven c
    four : (o.answer ≡ StoreFull) ↔ ((¬ Uneven c) × NoLength c)
    zero : (o.answer ≡ Done) ↔ ((¬ Uneven c) × (¬ NoLength c))
    keeps : o.answer ≢ Done → (o.state ≡ state_at 0 0 0) × (o.columns ≡ c)

  freshly : (e n : Bool) → Tells e (Uneven c) → (n ≡ true) ↔ NoLength c → Freshly (made e n)
  unfolding made
  freshly false n t l =
      record {
        three = both_hold refl (t.0 refl);
        four = neither (differ (eqb-false 3 4 refl)) (λ z. z.0 (t.0 refl));
        zero = neither (differ (eqb-false 3 0 refl)) (λ z. z.0 (t.0 refl));
        keeps = λ h. (refl, refl);
      }
  freshly true true t l =
      record {
        three = neither (differ (eqb-false 4 3 refl)) (passes true (Uneven c) t refl);
        four = both_hold refl (passes true (Uneven c) t refl, l.0 refl);
        zero = neither (differ (eqb-false 4 0 refl)) (λ z. z.1 (l.0 refl));
        keeps = λ h. (refl, refl);
      }
  freshly true false t l =
      record {
        three = neither (differ (eqb-false 0 3 refl)) (passes true (Uneven c) t refl);
        four = neither (differ (eqb-false 0 4 refl)) (λ z. true≢false (sym (l.1 z.1)));
        zero = both_hold refl (passes true (Uneven c) t refl, λ z. true≢false (sym (l.1 z)));
        keeps = λ h. absurd (h refl);
      }

pub fresh_answer : FreshAnswer
fresh_answer c =
    let F : Freshly c (fresh_of c) = subst (Freshly c) (sym (fresh_is c)) (freshly c (even_of c) (eqb (length c.x) 0 || eqb (length c.commands) 0) (tells_even c) (no_length c)) in
    record { three = F.three; four = F.four; zero = F.zero; keeps = F.keeps }
