-- Where two lines meet in a corner, the corner is a vertex of the cut: the run makes a joint of two splines there, and the walk has the End of the first.
-- Assumes nothing.
use Prim.Native.Nat.{ℕ, suc, ◌+◌, ◌-◌, ◌≤◌, ◌<◌}
use mathlib.Core.Path.{◌≡◌, sym, ap, ap₂, ◌∙◌, subst}
use mathlib.Core.Bool.{Bool}
use mathlib.Core.List.{List, [], ◌∷◌, ◌++◌}
use native.Mathlib.Nat.{le_trans, le_of_eq, lt_of_lt_of_le, zero-add}
use native.Mathlib.Numerals.{add-one}
use native.Mathlib.Omega.{arith}
use lib.ListN.{length, take, drop}
use lib.Seq.{take-take, get_or-take, length-take-le, split_at, drop-cons}
use Rattle.answer.specs.Number.{is_done}
use Rattle.command.specs.declared.PointCommand.TheVariants.{Start, End}
use Rattle.point.specs.declared.Point.{Point}
use Rattle.primitives.specs.declared.Primitive.{Primitive}
use Rattle.primitives.specs.declared.Primitive.TheVariants.{Line}
use Rattle.store.specs.Columns.{uses_of, stored_point_of}
use Rattle.store.proofs.Sound as store
use Rattle.tables.specs.Tables.{capacities_of}
use Rattle.tables.specs.Run.{World, world, start_state, run_of}
use Rattle.tables.specs.Commands.{command_primitives_of, primitives_from, primitives_of, tables_of}
use Rattle.tables.proofs.RowLaws.{quads_self}
use Rattle.tables.proofs.Sound.{sound_start}
use Rattle.tables.proofs.Flags.{flag_at, flagged_start}
use Rattle.tables.proofs.Moves.{primitives_append}
use Rattle.tables.proofs.Ends.{Wide, table_wide}
use Rattle.flatten.specs.Flatten.{Flattening, walked}
use Rattle.promises.specs.Accepted.{Job}
use Rattle.promises.specs.Corners.{used_before, corner_of, TwoCommands, TwoLines, Corner, Written, Joint, Vertex, CornersStay}
use Rattle.promises.proofs.Flattened.{world_of, finished_of, Passed, passed}
use Rattle.promises.proofs.Decoding.{caps_of}
use Rattle.promises.proofs.Past.{run_past, splines_self}
use Rattle.promises.proofs.Joints.{Turned, Pair, turned, two_lines}
use Rattle.promises.proofs.Ends.{start_written, end_written}

-- ---- a joint, in the output
pub turned_joint : (job : Job) (p q : Point) → Turned p q (world_of job) → Joint (finished_of job) p q
unfolding walked
turned_joint job p q R =
    let k = R.spline in
    let J = R.joint in
    let w = world_of job in
    record {
      spline = k;
      stored = J.stored;
      ends = J.ends;
      begins = J.begins;
      end_written =
          subst (λ (b : Bool). Written (finished_of job) (End k b) p) R.unflagged
          (subst (Written (finished_of job) (End k (flag_at w.splines k))) J.ends (end_written job k (before k w.state.splines J.stored)));
      start_written = λ e. subst (Written (finished_of job) (Start (suc k))) J.begins (start_written job (suc k) J.stored e);
    }
  where
    before : (k n : ℕ) → suc k < n → k < n
    before k n h = omega arith

-- ---- the columns of the ends, at every moment of a run
module _ (job : Job) where
  abbrev pub start : World
  start = world start_state job.quads job.splines

  pub run_wide : (ps : List Primitive) → Wide (caps_of job).splines (run_of job.setting (caps_of job) ps start).splines
  unfolding capacities_of
  run_wide ps =
      let P =
      (run_past (caps_of job) job.quads job.splines job.setting ps start (sound_start job.quads job.splines)
      (record { quads = quads_self 0 job.quads; splines = splines_self 0 job.splines })).splines in
      let W = table_wide job.splines in
      record {
        p0x = le_trans W.p0x (le_of_eq (sym P.p0x.as_long));
        p0y = le_trans W.p0y (le_of_eq (sym P.p0y.as_long));
        p2x = le_trans W.p2x (le_of_eq (sym P.p2x.as_long));
        p2y = le_trans W.p2y (le_of_eq (sym P.p2y.as_long));
      }

-- ---- two primitives of a drawing
pub turned_in : (job : Job) → Passed job → {first second : Primitive} (p q : Point) (Q : World → Type 0) (ps between qs : List Primitive)
    → Pair job.setting (caps_of job) first second p q Q between
    → primitives_of job.state job.columns ≡ ps ++ (first ∷ (between ++ (second ∷ qs))) → Turned p q (world_of job)
unfolding tables_of
turned_in job P {first} {second} p q Q ps between qs pair e =
    let run : (List Primitive → World) = λ l. run_of job.setting (caps_of job) l (start job) in
    subst (λ (l : List Primitive). Turned p q (run l)) (sym e)
    (turned job.setting (caps_of job) first second p q Q (start job) ps between qs pair (λ (m : ℕ). ⊥) (sound_start job.quads job.splines)
    (flagged_start job.quads job.splines) (run_wide job) (ap (λ (l : List Primitive). is_done (run l).state.answer) (sym e) ∙ P.done))

module _ (job : Job) where
  -- ---- two commands, and their primitives
  module _ (P : Passed job) (i : ℕ) {a b : ℕ} (L : TwoCommands job i a b) where
    abbrev list : List ℕ
    list = job.columns.commands

    abbrev count : ℕ
    count = job.state.commands

    abbrev pub rest : List ℕ
    rest = drop (suc (suc i)) (take count list)

    pub commands_split : take count list ≡ take i list ++ (a ∷ b ∷ rest)
    commands_split =
        split_at (take count list) i 0 (lt_of_lt_of_le early whole)
        ∙ ap₂ (λ (x : List ℕ) (k : ℕ). x ++ (k ∷ drop (suc i) (take count list))) (take-take i count list (under i count L.inside))
        (get_or-take count list i 0 early ∙ L.first)
        ∙ ap (λ (x : List ℕ). take i list ++ (a ∷ x))
        (drop-cons (take count list) (suc i) 0 (lt_of_lt_of_le L.inside whole)
        ∙ ap (λ (k : ℕ). k ∷ rest) (get_or-take count list (suc i) 0 L.inside ∙ L.second))
      where
        whole : count ≤ length (take count list)
        whole = le_of_eq (sym (length-take-le count list (store.sound job.state job.columns P.drawable).counted.commands))

        under : (i n : ℕ) → suc i < n → i ≤ n
        under i n h = omega arith

        early : i < count
        early = below i count L.inside
          where
            below : (i n : ℕ) → suc i < n → i < n
            below i n h = omega arith

    abbrev used : ℕ
    used = used_before job i

    pub primitives_split : primitives_of job.state job.columns
        ≡ primitives_from job.columns (take i list) 0
        ++ (command_primitives_of job.columns a used
        ++ (command_primitives_of job.columns b (used + uses_of a) ++ primitives_from job.columns rest (used + uses_of a + uses_of b)))
    unfolding primitives_of primitives_from
    primitives_split =
        let c = job.columns in
        ap (λ (l : List ℕ). primitives_from c l 0) commands_split
        ∙ primitives_append job.setting (caps_of job) c (take i list) (a ∷ b ∷ rest) 0
        ∙ ap (λ (j : ℕ). primitives_from c (take i list) 0 ++ primitives_from c (a ∷ b ∷ rest) j) (zero-add used)

  lines_split : (P : Passed job) (i : ℕ) (L : TwoLines job i) → let n = used_before job i in primitives_of job.state job.columns
      ≡ primitives_from job.columns (take i job.columns.commands) 0
      ++ (Line (stored_point_of job.columns (n - 1)) (stored_point_of job.columns n)
      ∷ Line (stored_point_of job.columns n) (stored_point_of job.columns (suc n))
      ∷ primitives_from job.columns (rest P i L) (n + 1 + 1))
  unfolding command_primitives_of
  lines_split P i L =
      let c = job.columns in
      let n = used_before job i in
      primitives_split P i L
      ∙ ap₂ (λ (x y : ℕ). primitives_from c (take i c.commands) 0
      ++ (Line (stored_point_of c (n - 1)) (stored_point_of c n) ∷ Line (stored_point_of c x) (stored_point_of c y) ∷ primitives_from c (rest P i L) (n + 1 + 1)))
      (back n) (add-one n)
    where
      back : (n : ℕ) → n + 1 - 1 ≡ n
      back n = omega arith

corner_turned : (job : Job) (P : Passed job) (i : ℕ) → Corner job i → Turned (corner_of job i) (corner_of job i) (world_of job)
corner_turned job P i C =
    let c = job.columns in
    let n = used_before job i in
    turned_in job P (corner_of job i) (corner_of job i) (λ (v : World). v.state.last ≡ _) (primitives_from c (take i c.commands) 0) []
    (primitives_from c (rest job P i C.lines) (n + 1 + 1))
    (two_lines job.setting (caps_of job) (stored_point_of c (n - 1)) (stored_point_of c n) (stored_point_of c (suc n)) C.turns)
    (lines_split job P i C.lines)

pub corners_stay : CornersStay
corners_stay job h i C =
    let P = passed job h in
    subst (λ (f : Flattening). Vertex f (corner_of job i)) (sym P.result) (turned_joint job (corner_of job i) (corner_of job i) (corner_turned job P i C))
