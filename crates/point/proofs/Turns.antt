-- Both differences of angles, as functions of the turn alone. Over π/2 a turn is a whole number of 2 ^ -23, over π one of 2 ^ -22, so what is subtracted
-- there is exact. Assumes nothing.
use mathlib.Core.Path.{◌≡◌, refl, sym, ap, ap₂, ◌∙◌, subst}
use mathlib.Core.Bool.{Bool, true, false, ◌||◌, cond, or-true, true≢false}
use Prim.Native.Nat.{ℕ, ◌-◌, ◌*◌, ◌≤◌, ◌<◌}
use native.Mathlib.Nat.{zero-lt-suc, le_of_lt}
use native.Mathlib.Omega.{arith}
use mathlib.Core.Logic.{inl, inr}
use borrow.Author.Tests.{le-ltb, lt-ltb, le-leb, lt-leb}
use lib.IntN.{ℤ}
use lib.Dec.{T, leb, ltb, lit≤}
use lib.Ieee.{Float, nan, inf, fin, binary32, up, down, round, lt, le, fits, of_bits}
use lib.Ieee.Exact.{HasValue}
use lib.Ieee.Fits.{down_pos}
use lib.Ieee.Positive.{through}
use Rattle.rounding.proofs.Basics.{le_or_lt}
use Rattle.rounding.proofs.Bounds.{AtMost, AtLeast}
use Rattle.rounding.proofs.Differences.{lt_values, le_values}
use Rattle.leaves.specs.Single.{◌⊖◌}
use Rattle.leaves.specs.Small.{abs_of}
use Rattle.point.specs.Angle.{pi, half_pi, two_pi, max_angle_error}
use Rattle.point.proofs.Grids.{on_grid, less_at, not_less_at, minus_at, round_at, grid_more, grid_most}
use Rattle.point.proofs.TurnSizes.{half_turn_value, quarter_turn_value, full_turn_value, error_value, pi_fits, full_fits, quarter_half, less_least}

-- ---- the two differences, of a turn
abbrev pub folded_of : Float → Float
folded_of t = let once = cond (lt pi t) (t ⊖ pi) t in cond (lt half_pi once) (pi ⊖ once) once

abbrev pub around_of : Float → Float
around_of t = let rest = two_pi ⊖ t in cond (lt rest t) rest t

-- how far a turn lies from π
abbrev pub from_pi : Float → Float
from_pi t = abs_of (t ⊖ pi)

-- ---- against 0.001, which is 8,589,935 / 2 ^ 33
pub error_less : (x : Float) (n d : ℕ) → 0 < d → HasValue x false n d → 8589935 * d < n * 8589934592 → lt max_angle_error x ≡ true
error_less x n d D p h =
    lt_values max_angle_error x 8589935 8589934592 n d (zero-lt-suc 8589934591) D error_value p ∙ lt-ltb (8589935 * d) (n * 8589934592) h

pub over_error : (x : Float) (n d : ℕ) → 0 < d → HasValue x false n d → 8589935 * d < n * 8589934592 → le x max_angle_error ≡ false
over_error x n d D p h =
    le_values x max_angle_error n d 8589935 8589934592 D (zero-lt-suc 8589934591) p error_value ∙ lt-leb (n * 8589934592) (8589935 * d) h

-- one of the two tests passes, whatever the value
pub either_error : (x : Float) (n d : ℕ) → 0 < d → HasValue x false n d → lt max_angle_error x || le x max_angle_error ≡ true
either_error x n d D p =
    ap₂ (λ (a b : Bool). a || b)
    (lt_values max_angle_error x 8589935 8589934592 n d (zero-lt-suc 8589934591) D error_value p)
    (le_values x max_angle_error n d 8589935 8589934592 D (zero-lt-suc 8589934591) p error_value)
    ∙ either (8589935 * d) (n * 8589934592)
  where
    either : (a b : ℕ) → ltb a b || leb b a ≡ true
    either a b =
        elim (le_or_lt b a) [
          | inl h ↦ ap (λ (x : Bool). ltb a b || x) (le-leb b a h) ∙ or-true (ltb a b)
          | inr h ↦ ap (λ (x : Bool). x || leb b a) (lt-ltb a b h)
        ]

-- ---- a turn up to π
-- the rest is not below π then
rest_least : (m : ℕ) (e : ℤ) → m * up e * 8388608 ≤ 26353590 * down e → AtLeast (two_pi ⊖ fin false m e) 26353590 8388608
rest_least m e h = less_least two_pi pi 26353590 full_turn_value half_turn_value full_fits pi_fits m e h

not_below : (x : Float) (m : ℕ) (e : ℤ) → AtLeast x 26353590 8388608 → m * up e * 8388608 ≤ 26353590 * down e → lt x (fin false m e) ≡ false
unfolding lt
not_below nan m e a h = absurd a
not_below (inf s) m e a h = absurd a
not_below (fin true n d) m e a h = absurd (true≢false a.0)
not_below (fin false n d) m e a h =
    le-ltb (n * up d * down e) (m * up e * down d) (through (m * up e) 26353590 (n * up d) (down e) 8388608 (down d) (zero-lt-suc 8388607) h a.1)

pub around_short : (m : ℕ) (e : ℤ) → m * up e * 8388608 ≤ 26353590 * down e → around_of (fin false m e) ≡ fin false m e
around_short m e h =
    ap (λ (b : Bool). cond b (two_pi ⊖ fin false m e) (fin false m e)) (not_below (two_pi ⊖ fin false m e) m e (rest_least m e h) h)

-- ---- and beyond π: in parts of 2 ^ 22 from here on
pub half_at : HasValue pi false 13176795 4194304
unfolding of_bits
half_at = (refl, refl)

pub full_at : HasValue two_pi false 26353590 4194304
unfolding of_bits
full_at = (refl, refl)

pub rest_value : (n : ℕ) → 13176795 < n → HasValue (round binary32 false (26353590 - n) 4194304) false (26353590 - n) 4194304
rest_value n h = round_at 22 (26353590 - n) (lit≤ tt) (few n h)
  where
    few : (n : ℕ) → 13176795 < n → 26353590 - n < 16777216
    few n h = omega arith

pub rest_is : (t : Float) (n : ℕ) → HasValue t false n 4194304 → n ≤ 26353590 → two_pi ⊖ t ≡ round binary32 false (26353590 - n) 4194304
rest_is t n p k = minus_at 22 two_pi t 26353590 n full_at p k

pub around_long : (t : Float) (n : ℕ) → HasValue t false n 4194304 → 13176795 < n → n ≤ 26353590 → around_of t ≡ round binary32 false (26353590 - n) 4194304
around_long t n p h k =
    let is = rest_is t n p k in
    let v : HasValue (two_pi ⊖ t) false (26353590 - n) 4194304 = subst (λ (x : Float). HasValue x false (26353590 - n) 4194304) (sym is) (rest_value n h) in
    ap (λ (b : Bool). cond b (two_pi ⊖ t) t) (less_at 22 (two_pi ⊖ t) t (26353590 - n) n v p (less n h)) ∙ is
  where
    less : (n : ℕ) → 13176795 < n → 26353590 - n < n
    less n h = omega arith

-- ---- where a turn lies: up to π/2, up to π, or up to 2π
pub data Where (t : Float) : Type 0 where
  short : (m : ℕ) (e : ℤ) → t ≡ fin false m e → m * up e * 8388608 ≤ 13176795 * down e → Where t
  wide : (m : ℕ) (e : ℤ) (n : ℕ) → t ≡ fin false m e → HasValue t false n 8388608 → 13176795 < n → n ≤ 26353590 → Where t
  long : (n : ℕ) → HasValue t false n 4194304 → 13176795 < n → n ≤ 26353590 → Where t

pub where_of : (t : Float) → T (fits binary32 t) → AtMost t 52707180 8388608 → Where t
where_of nan F a = absurd a
where_of (inf s) F a = absurd a
where_of (fin true m e) F a = absurd (true≢false a.0)
where_of (fin false m e) F a =
    let N = m * up e in
    let D = down e in
    let t = fin false m e in
    elim (le_or_lt (N * 8388608) (13176795 * D)) [
      | inl h ↦ short m e refl h
      | inr h ↦
          elim (le_or_lt (N * 8388608) (26353590 * D)) [
            | inl k ↦
                let g = on_grid 23 m e F (one (N * 8388608) D h) in
                wide m e g.0 refl g.1 (grid_more N D g.0 8388608 13176795 (down_pos e) g.1.1 h)
                (grid_most N D g.0 8388608 26353590 (down_pos e) g.1.1 k)
            | inr k ↦
                let g = on_grid 22 m e F (two N D k) in
                long g.0 g.1 (grid_more N D g.0 4194304 13176795 (down_pos e) g.1.1 (over N D k))
                (grid_most N D g.0 4194304 26353590 (down_pos e) g.1.1 (under N D a.1))
          ]
    ]
  where
    one : (X D : ℕ) → 13176795 * D < X → 8388608 * D ≤ X
    one X D h = omega arith

    two : (N D : ℕ) → 26353590 * D < N * 8388608 → 8388608 * D ≤ N * 4194304
    two N D h = omega arith

    over : (N D : ℕ) → 26353590 * D < N * 8388608 → 13176795 * D < N * 4194304
    over N D h = omega arith

    under : (N D : ℕ) → N * 8388608 ≤ 52707180 * D → N * 4194304 ≤ 26353590 * D
    under N D h = omega arith

-- ---- the folded difference in each place
pub not_over : (c : Float) (n : ℕ) (m : ℕ) (e : ℤ) → HasValue c false n 8388608 → m * up e * 8388608 ≤ n * down e → lt c (fin false m e) ≡ false
not_over c n m e v h =
    lt_values c (fin false m e) n 8388608 (m * up e) (down e) (zero-lt-suc 8388607) (down_pos e) v (refl, refl) ∙ le-ltb (n * down e) (m * up e * 8388608) h

pub folded_short : (m : ℕ) (e : ℤ) → m * up e * 8388608 ≤ 13176795 * down e → folded_of (fin false m e) ≡ fin false m e
folded_short m e h =
    let t = fin false m e in
    let once : cond (lt pi t) (t ⊖ pi) t ≡ t = ap (λ (b : Bool). cond b (t ⊖ pi) t) (not_over pi 26353590 m e half_turn_value (quarter_half (m * up e * 8388608) (down e) h)) in
    ap (λ (x : Float). cond (lt half_pi x) (pi ⊖ x) x) once ∙ ap (λ (b : Bool). cond b (pi ⊖ t) t) (not_over half_pi 13176795 m e quarter_turn_value h)

pub folded_wide : (t : Float) (n : ℕ) → HasValue t false n 8388608 → 13176795 < n → n ≤ 26353590 → folded_of t ≡ round binary32 false (26353590 - n) 8388608
folded_wide t n v h k =
    let once : cond (lt pi t) (t ⊖ pi) t ≡ t = ap (λ (b : Bool). cond b (t ⊖ pi) t) (not_less_at 23 pi t 26353590 n half_turn_value v k) in
    ap (λ (x : Float). cond (lt half_pi x) (pi ⊖ x) x) once
    ∙ ap (λ (b : Bool). cond b (pi ⊖ t) t) (less_at 23 half_pi t 13176795 n quarter_turn_value v h)
    ∙ minus_at 23 pi t 26353590 n half_turn_value v k

pub beyond_is : (t : Float) (n : ℕ) → HasValue t false n 4194304 → 13176795 < n → t ⊖ pi ≡ round binary32 false (n - 13176795) 4194304
beyond_is t n v h = minus_at 22 t pi n 13176795 v half_at (le_of_lt h)

pub beyond_value : (n : ℕ) → n ≤ 26353590 → HasValue (round binary32 false (n - 13176795) 4194304) false (n - 13176795) 4194304
beyond_value n k = round_at 22 (n - 13176795) (lit≤ tt) (few n k)
  where
    few : (n : ℕ) → n ≤ 26353590 → n - 13176795 < 16777216
    few n h = omega arith

once_long : (t : Float) (n : ℕ) → HasValue t false n 4194304 → 13176795 < n → cond (lt pi t) (t ⊖ pi) t ≡ round binary32 false (n - 13176795) 4194304
once_long t n v h = ap (λ (b : Bool). cond b (t ⊖ pi) t) (less_at 22 pi t 13176795 n half_at v h) ∙ beyond_is t n v h

-- against π/2, in parts of 2 ^ 23
test_quarter : (x : Float) (a : ℕ) → HasValue x false a 4194304 → lt half_pi x ≡ ltb (13176795 * 4194304) (a * 8388608)
test_quarter x a v = lt_values half_pi x 13176795 8388608 a 4194304 (zero-lt-suc 8388607) (zero-lt-suc 4194303) quarter_turn_value v

pub folded_third : (t : Float) (n : ℕ) → HasValue t false n 4194304 → 13176795 < n → n ≤ 26353590 → (n - 13176795) * 2 ≤ 13176795
    → folded_of t ≡ round binary32 false (n - 13176795) 4194304
folded_third t n v h k l =
    let x = round binary32 false (n - 13176795) 4194304 in
    ap (λ (x : Float). cond (lt half_pi x) (pi ⊖ x) x) (once_long t n v h)
    ∙ ap (λ (b : Bool). cond b (pi ⊖ x) x)
    (test_quarter x (n - 13176795) (beyond_value n k) ∙ le-ltb (13176795 * 4194304) ((n - 13176795) * 8388608) (scaled (n - 13176795) l))
  where
    scaled : (a : ℕ) → a * 2 ≤ 13176795 → a * 8388608 ≤ 55267483975680
    scaled a h = omega arith

pub folded_fourth : (t : Float) (n : ℕ) → HasValue t false n 4194304 → 13176795 < n → n ≤ 26353590 → 13176795 < (n - 13176795) * 2
    → folded_of t ≡ round binary32 false (26353590 - n) 4194304
folded_fourth t n v h k l =
    let x = round binary32 false (n - 13176795) 4194304 in
    ap (λ (x : Float). cond (lt half_pi x) (pi ⊖ x) x) (once_long t n v h)
    ∙ ap (λ (b : Bool). cond b (pi ⊖ x) x)
    (test_quarter x (n - 13176795) (beyond_value n k) ∙ lt-ltb (13176795 * 4194304) ((n - 13176795) * 8388608) (scaled (n - 13176795) l))
    ∙ minus_at 22 pi x 13176795 (n - 13176795) half_at (beyond_value n k) (room n k)
    ∙ ap (λ (a : ℕ). round binary32 false a 4194304) (twice n h k)
  where
    scaled : (a : ℕ) → 13176795 < a * 2 → 55267483975680 < a * 8388608
    scaled a h = omega arith

    room : (n : ℕ) → n ≤ 26353590 → n - 13176795 ≤ 13176795
    room n h = omega arith

    twice : (n : ℕ) → 13176795 < n → n ≤ 26353590 → 13176795 - (n - 13176795) ≡ 26353590 - n
    twice n h k = omega arith
