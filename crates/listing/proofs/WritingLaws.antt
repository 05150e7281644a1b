-- Laws of writing: a line is written in four parts, texts one after another, and a point's lines are 28 bytes; a refusal's two lines are at most 36. Assumes
-- nothing.
use mathlib.Core.Path.{◌≡◌, refl, sym, ap, ◌∙◌}
use mathlib.Core.Bool.{Bool, true, false}
use mathlib.Core.List.{List, [], ◌∷◌, ◌++◌, append-nil, append_assoc}
use Prim.Native.Nat.{ℕ, zero, suc, ◌+◌, ◌-◌, ◌*◌, ◌≤◌, ◌<◌}
use native.Mathlib.Numerals.{add-one}
use native.Mathlib.Omega.{arith}
use borrow.Author.Tests.{le-leb, lt-leb}
use lib.Dec.{lit≤}
use lib.Ieee.{Float, nan}
use lib.ListN.{length, get_or, take, length-append}
use Rattle.std.proofs.Math.Seq.{get_or-take}
use lib.Seq.{sets}
use Rattle.columns.specs.Flags.{flag_byte_of, is_flag_of}
use Rattle.leaves.specs.Bits.{bits_of}
use Rattle.answer.specs.Answer.{Answer}
use Rattle.answer.specs.Answer.{Done, BadCoordinate, BadWeight, Unusable, StoreFull, TooManyPieces, QuadsFull, SplinesFull, SumTooLarge, OutputShort, BadText, InputTooLong, NotPrintable, BufferShort}
use Rattle.answer.specs.Number.{number_of}
use Rattle.point.specs.Point.{point_at}
use Rattle.evaluate.specs.Evaluate.{Finished, finished}
use Rattle.text.specs.Bytes.{bytes}
use Rattle.text.specs.Hex.{hex_of}
use Rattle.text.specs.Decimal.{decimal_in, decimal_of}
use Rattle.text.proofs.Hexes.{hex_digits-length}
use Rattle.text.proofs.Decimals.{one_digit, decimal_short}
use Rattle.text.specs.Written.{WrittenAs}
use Rattle.text.proofs.Stores.{sets_append}
use Rattle.text.proofs.Written.{written_then}
use Rattle.std.specs.Prelude.{Some, None}
use Rattle.listing.specs.Writing.{line_of, point_lines, all_point_lines, report_of, refusal_of, head_of, column_points, Listing, listed, listed_as}

-- ---- lengths
pub line-length : (key value : List ℕ) → length (line_of key value) ≡ length key + length value + 2
unfolding line_of
line-length key value =
    length-append key (0x3d ∷ (value ++ (0x0a ∷ []))) ∙ omega (arith, length-append value (0x0a ∷ []))

pub hex_length : (n : ℕ) → length (hex_of n) ≡ 8
unfolding hex_of
hex_length n = hex_digits-length 8 n

flag_small : (b : Bool) → flag_byte_of b < 10
unfolding flag_byte_of
flag_small true = omega arith
flag_small false = omega arith

pub flag_length : (b : Bool) → length (decimal_of (flag_byte_of b)) ≡ 1
flag_length b = ap length (one_digit (flag_byte_of b) (flag_small b))

pub hex_line_length : (key : List ℕ) (n : ℕ) → length (line_of key (hex_of n)) ≡ length key + 10
hex_line_length key n = omega (arith, line-length key (hex_of n), hex_length n)

pub point_length : (p : Finished) → length (point_lines p) ≡ 28
unfolding point_lines
point_length p =
    let x = line_of (bytes "x") (hex_of (bits_of p.point.x)) in
    let y = line_of (bytes "y") (hex_of (bits_of p.point.y)) in
    let e = line_of (bytes "end") (decimal_of (flag_byte_of p.end)) in
    omega (
      arith,
      length-append x (y ++ e),
      length-append y e,
      hex_line_length (bytes "x") (bits_of p.point.x),
      hex_line_length (bytes "y") (bits_of p.point.y),
      line-length (bytes "end") (decimal_of (flag_byte_of p.end)),
      flag_length p.end,
    )

pub points_length : (ps : List Finished) → length (all_point_lines ps) ≡ 28 * length ps
unfolding all_point_lines
points_length [] = refl
points_length (p ∷ ps) = omega (arith, length-append (point_lines p) (all_point_lines ps), point_length p, points_length ps)

pub column_points-length : (i n : ℕ) (x y : List Float) (end : List ℕ) → length (column_points i n x y end) ≡ n
unfolding column_points
column_points-length i zero x y end = refl
column_points-length i (suc n) x y end = ap suc (column_points-length (i + 1) n x y end)

-- the first n rows of columns, from columns that are cut to n
pub column_points-take : (n : ℕ) (x y : List Float) (end : List ℕ) (i m : ℕ) → i + m ≡ n → column_points i m (take n x) (take n y) (take n end) ≡ column_points i m x y end
unfolding column_points
column_points-take n x y end i zero e = refl
column_points-take n x y end i (suc m) e =
    let inside : i < n = omega (arith, e) in
    rw (get_or-take n x i nan inside, get_or-take n y i nan inside, get_or-take n end i 0 inside, column_points-take n x y end (i + 1) m (omega (arith, e)))

pub head_length_is : (number line points : ℕ) → length (head_of number line points) ≡ 22 + length (decimal_of number) + length (decimal_of line) + length (decimal_of points)
unfolding head_of
head_length_is number line points =
    let a = line_of (bytes "answer") (decimal_of number) in
    let l = line_of (bytes "line") (decimal_of line) in
    let p = line_of (bytes "points") (decimal_of points) in
    omega (
      arith,
      length-append a (l ++ p),
      length-append l p,
      line-length (bytes "answer") (decimal_of number),
      line-length (bytes "line") (decimal_of line),
      line-length (bytes "points") (decimal_of points),
    )

pub report_length : (a : Answer) (line : ℕ) (ps : List Finished)
    → length (report_of a line ps) ≡ 22 + length (decimal_of (number_of a)) + length (decimal_of line) + length (decimal_of (length ps)) + 28 * length ps
unfolding report_of
report_length a line ps =
    let n = line_of (bytes "answer") (decimal_of (number_of a)) in
    let l = line_of (bytes "line") (decimal_of line) in
    let p = line_of (bytes "points") (decimal_of (length ps)) in
    omega (
      arith,
      length-append n (l ++ (p ++ all_point_lines ps)),
      length-append l (p ++ all_point_lines ps),
      length-append p (all_point_lines ps),
      line-length (bytes "answer") (decimal_of (number_of a)),
      line-length (bytes "line") (decimal_of line),
      line-length (bytes "points") (decimal_of (length ps)),
      points_length ps,
    )

-- ---- a line in its four parts
pub line_written : (b0 b1 b2 b3 b4 key value : List ℕ) (at d : ℕ) → d ≡ length value → b1 ≡ sets b0 at key
    → b2 ≡ sets b1 (at + length key) (0x3d ∷ []) → b3 ≡ sets b2 (at + length key + 1) value → b4 ≡ sets b3 (at + length key + 1 + d) (0x0a ∷ [])
    → WrittenAs (line_of key value) b0 at b4 (at + length key + 1 + d + 1)
unfolding line_of
line_written b0 b1 b2 b3 b4 key value at d e e1 e2 e3 e4 =
    let k = at + length key in
    record {
      stored =
          e4
          ∙ ap (λ (m : ℕ). sets b3 (k + 1 + m) (0x0a ∷ [])) e
          ∙ ap (λ (b : List ℕ). sets b (k + 1 + length value) (0x0a ∷ [])) e3
          ∙ sym (sets_append b2 (k + 1) value (0x0a ∷ []))
          ∙ ap (λ (m : ℕ). sets b2 m (value ++ (0x0a ∷ []))) (add-one k)
          ∙ ap (λ (b : List ℕ). sets b (suc k) (value ++ (0x0a ∷ []))) e2
          ∙ ap (λ (b : List ℕ). sets b k (0x3d ∷ (value ++ (0x0a ∷ [])))) e1
          ∙ sym (sets_append b0 at key (0x3d ∷ (value ++ (0x0a ∷ []))));
      next = omega (arith, length-append key (0x3d ∷ (value ++ (0x0a ∷ []))), length-append value (0x0a ∷ []));
    }

pub hex_seen : (b b' : List ℕ) (at n m : ℕ) → b ≡ sets b' at (hex_of n) → n ≡ m → b ≡ sets b' at (hex_of m)
hex_seen b b' at n m h e = h ∙ ap (λ (k : ℕ). sets b' at (hex_of k)) e

-- ---- the points, one by one
module _ (x y : List Float) (end : List ℕ) where
  abbrev point_at_row : ℕ → Finished
  point_at_row i = finished (point_at (get_or x i nan) (get_or y i nan)) (is_flag_of (get_or end i 0))

  pub row_lines : (i : ℕ) (px py : Float) (flag : ℕ) → px ≡ get_or x i nan → py ≡ get_or y i nan → flag ≡ get_or end i 0 → point_lines (finished (point_at px py) (is_flag_of flag)) ≡ point_lines (point_at_row i)
  row_lines i px py flag ex ey ef =
      ap (λ (v : Float). point_lines (finished (point_at v py) (is_flag_of flag))) ex
      ∙ ap (λ (v : Float). point_lines (finished (point_at (get_or x i nan) v) (is_flag_of flag))) ey
      ∙ ap (λ (f : ℕ). point_lines (finished (point_at (get_or x i nan) (get_or y i nan)) (is_flag_of f))) ef

  pub point_on : (points i : ℕ) (b0 b1 b2 : List ℕ) (at n1 n2 : ℕ) → i < points
      → sets b0 at (all_point_lines (column_points 0 points x y end)) ≡ sets b1 n1 (all_point_lines (column_points i (points - i) x y end))
      → WrittenAs (point_lines (point_at_row i)) b1 n1 b2 n2
      → sets b0 at (all_point_lines (column_points 0 points x y end)) ≡ sets b2 n2 (all_point_lines (column_points (i + 1) (points - (i + 1)) x y end))
  unfolding column_points all_point_lines
  point_on points i b0 b1 b2 at n1 n2 h whole w =
      let k : points - i ≡ suc (points - (i + 1)) = omega arith in
      let rest = all_point_lines (column_points (i + 1) (points - (i + 1)) x y end) in
      whole
      ∙ ap (λ (m : ℕ). sets b1 n1 (all_point_lines (column_points i m x y end))) k
      ∙ sets_append b1 n1 (point_lines (point_at_row i)) rest
      ∙ ap (λ (b : List ℕ). sets b (n1 + length (point_lines (point_at_row i))) rest) (sym w.stored)
      ∙ ap (λ (m : ℕ). sets b2 m rest) (sym w.next)

  pub points_end : (points i : ℕ) (b0 b1 : List ℕ) (at n1 : ℕ) → points ≤ i
      → sets b0 at (all_point_lines (column_points 0 points x y end)) ≡ sets b1 n1 (all_point_lines (column_points i (points - i) x y end))
      → b1 ≡ sets b0 at (all_point_lines (column_points 0 points x y end))
  unfolding column_points all_point_lines
  points_end points i b0 b1 at n1 h whole =
      let k : points - i ≡ 0 = omega arith in
      sym (whole ∙ ap (λ (m : ℕ). sets b1 n1 (all_point_lines (column_points i m x y end))) k)

-- ---- the whole report
pub refusal_report : (n : ℕ) (a : Answer) (line : ℕ) → n ≡ number_of a → head_of n line 0 ≡ report_of a line []
unfolding report_of head_of all_point_lines
refusal_report n a line e = ap (λ (m : ℕ). head_of m line 0) e ∙ rw append-nil

pub points_report : (ps : List Finished) → head_of 0 0 (length ps) ++ all_point_lines ps ≡ report_of Done 0 ps
unfolding report_of head_of
points_report ps =
    let a = line_of (bytes "answer") (decimal_of 0) in
    let l = line_of (bytes "line") (decimal_of 0) in
    let p = line_of (bytes "points") (decimal_of (length ps)) in
    append_assoc a (l ++ p) (all_point_lines ps) ∙ ap (λ (r : List ℕ). a ++ r) (append_assoc l p (all_point_lines ps))

pub listed_short : (text out : List ℕ) → length out < length text → listed None out ≡ listed_as text out
unfolding listed_as
listed_short text out h = rw (lt-leb (length text) (length out) h)

pub listed_bytes : (text out out' : List ℕ) (n : ℕ) → length text ≤ length out → n ≡ length text → out' ≡ sets out 0 text → listed (Some n) out' ≡ listed_as text out
unfolding listed_as
listed_bytes text out out' n h e w =
    ap (λ (m : ℕ). listed (Some m) out') e ∙ ap (listed (Some (length text))) w ∙ rw (le-leb (length text) (length out) h)

pub listed_seen : (s t out : List ℕ) (l : Listing) → l ≡ listed_as s out → s ≡ t → l ≡ listed_as t out
listed_seen s t out l h e = h ∙ ap (λ (r : List ℕ). listed_as r out) e

-- ---- the report of a drawing, from its columns
module _ (points : ℕ) (x y : List Float) (end : List ℕ) where
  abbrev column_text : List ℕ
  column_text = head_of 0 0 points ++ all_point_lines (column_points 0 points x y end)

  column_length : length column_text ≡ length (head_of 0 0 points) + 28 * points
  column_length =
      let ps = column_points 0 points x y end in
      omega (arith, length-append (head_of 0 0 points) (all_point_lines ps), points_length ps, column_points-length 0 points x y end)

  column_report : column_text ≡ report_of Done 0 (column_points 0 points x y end)
  column_report =
      let ps = column_points 0 points x y end in
      ap (λ (n : ℕ). head_of 0 0 n ++ all_point_lines ps) (sym (column_points-length 0 points x y end)) ∙ points_report ps

  pub report_short : (out : List ℕ) (head : ℕ) → head ≡ length (head_of 0 0 points) → length out < head + 28 * points → listed None out ≡ listed_as (report_of Done 0 (column_points 0 points x y end)) out
  report_short out head e h =
      let l : length column_text ≡ length (head_of 0 0 points) + 28 * points = column_length in
      listed_seen column_text (report_of Done 0 (column_points 0 points x y end)) out (listed None out) (listed_short column_text out (omega arith)) column_report

  pub report_bytes : (out b out' : List ℕ) (head at : ℕ) → head ≡ length (head_of 0 0 points) → head + 28 * points ≤ length out
      → WrittenAs (head_of 0 0 points) out 0 b at → out' ≡ sets b at (all_point_lines (column_points 0 points x y end))
      → listed (Some (head + 28 * points)) out' ≡ listed_as (report_of Done 0 (column_points 0 points x y end)) out
  report_bytes out b out' head at e h w v =
      let l : length column_text ≡ length (head_of 0 0 points) + 28 * points = column_length in
      let lines = all_point_lines (column_points 0 points x y end) in
      let stored : out' ≡ sets out 0 column_text =
      v
      ∙ ap (λ (c : List ℕ). sets c at lines) w.stored
      ∙ ap (λ (n : ℕ). sets (sets out 0 (head_of 0 0 points)) n lines) w.next
      ∙ sym (sets_append out 0 (head_of 0 0 points) lines) in
      listed_seen column_text (report_of Done 0 (column_points 0 points x y end)) out (listed (Some (head + 28 * points)) out')
      (listed_bytes column_text out out' (head + 28 * points) (omega arith) (omega arith) stored) column_report

-- ---- a refusal's two lines
refusal_length : (a : Answer) (line : ℕ) → length (refusal_of a line) ≡ 14 + length (decimal_of (number_of a)) + length (decimal_of line)
unfolding refusal_of
refusal_length a line =
    let n = line_of (bytes "answer") (decimal_of (number_of a)) in
    let l = line_of (bytes "line") (decimal_of line) in
    omega (
      arith,
      length-append n l,
      line-length (bytes "answer") (decimal_of (number_of a)),
      line-length (bytes "line") (decimal_of line),
    )

two_digits : (a : Answer) → length (decimal_of (number_of a)) ≤ 2
unfolding decimal_of decimal_in
two_digits Done = lit≤ tt
two_digits BadCoordinate = lit≤ tt
two_digits BadWeight = lit≤ tt
two_digits Unusable = lit≤ tt
two_digits StoreFull = lit≤ tt
two_digits TooManyPieces = lit≤ tt
two_digits QuadsFull = lit≤ tt
two_digits SplinesFull = lit≤ tt
two_digits SumTooLarge = lit≤ tt
two_digits OutputShort = lit≤ tt
two_digits BadText = lit≤ tt
two_digits InputTooLong = lit≤ tt
two_digits NotPrintable = lit≤ tt
two_digits BufferShort = lit≤ tt

-- "answer=" with two digits, "line=" with twenty, and two line ends
pub refusal_fits : (a : Answer) (line : ℕ) → length (refusal_of a line) ≤ 36
refusal_fits a line = omega (arith, refusal_length a line, two_digits a, decimal_short line)

module _ (n : ℕ) (a : Answer) (line d e : ℕ) (out : List ℕ) (same : n ≡ number_of a) (hd : d ≡ length (decimal_of n)) (he : e ≡ length (decimal_of line)) where
  refusal_needs : 14 + d + e ≡ length (refusal_of a line)
  refusal_needs = omega (arith, refusal_length a line, hd ∙ ap (λ (m : ℕ). length (decimal_of m)) same, he)

  pub refusal_short : length out < 14 + d + e → listed None out ≡ listed_as (refusal_of a line) out
  refusal_short h = listed_short (refusal_of a line) out (omega (arith, h, refusal_needs))

  pub refusal_bytes : (b out' : List ℕ) (n1 n2 : ℕ) → 14 + d + e ≤ length out → WrittenAs (line_of (bytes "answer") (decimal_of n)) out 0 b n1
      → WrittenAs (line_of (bytes "line") (decimal_of line)) b n1 out' n2 → listed (Some (14 + d + e)) out' ≡ listed_as (refusal_of a line) out
  unfolding refusal_of
  refusal_bytes b out' n1 n2 h w v =
      let second = line_of (bytes "line") (decimal_of line) in
      listed_bytes (refusal_of a line) out out' (14 + d + e) (omega (arith, h, refusal_needs)) refusal_needs
      ((written_then (line_of (bytes "answer") (decimal_of n)) second out b out' 0 n1 n2 w v).stored
      ∙ ap (λ (m : ℕ). sets out 0 (line_of (bytes "answer") (decimal_of m) ++ second)) same)
