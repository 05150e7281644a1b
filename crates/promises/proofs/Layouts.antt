-- Both layouts of the quad table give the same: answer and counts, spline table, words and points, and every row in use, on each answer. Assumes nothing.
use Prim.Native.Nat.{ℕ}
use mathlib.Core.Path.{◌≡◌, refl, sym, ap, ◌∙◌, subst}
use mathlib.Core.Bool.{Bool, true, false, cond}
use mathlib.Core.List.{List}
use native.Mathlib.Nat.{le_refl, le_of_eq, not-suc-le-zero}
use lib.ListN.{length}
use Rattle.answer.specs.Answer.{Unusable}
use Rattle.answer.specs.Number.{is_done}
use Rattle.primitives.specs.declared.Primitive.{Primitive}
use Rattle.store.specs.Drawable.{drawable_of}
use Rattle.tables.specs.Tables.{QuadTable, quad_capacity_of, spline_capacity_of, capacities_of, quad_row_at}
use Rattle.tables.specs.Run.{world, start_state}
use Rattle.tables.specs.Commands.{primitives_of, tables_of}
use Rattle.tables.proofs.Spans.{Agree}
use Rattle.walk.specs.Walk.{Item}
use Rattle.evaluate.specs.Output.{fits_output}
use Rattle.flatten.specs.Flatten.{flattened, walked, tabled, flatten_drawable, flatten_of}
use Rattle.promises.specs.Accepted.{Job}
use Rattle.promises.specs.Layouts.{Layout, in_rows, in_columns, Laid, laid, Flat, flat, run_in, tables_in, walked_in, tabled_in, flatten_in}
use Rattle.promises.specs.Layouts.{Same, flat_of, BothLayouts, InRows, Lawful, AnyLayout}
use Rattle.promises.proofs.Flattened.{world_of, items_in}
use Rattle.promises.proofs.Decoding.{caps_of, job_sound}
use Rattle.promises.proofs.LayoutLaws.{columns_lawful}
use Rattle.promises.proofs.LayoutRuns.{Follows, run_follows, laid_of, run_rows}
use Rattle.promises.proofs.LayoutWalks.{walk_same, written_same}

module _ (job : Job) where
  abbrev primitives : List Primitive
  primitives = primitives_of job.state job.columns

  abbrev items : List Item
  items = items_in job.setting (world_of job)

  -- what a flattening gives in a layout, once the drawing is tested
  abbrev drawn_in : {Q : Type 0} → Layout Q → Q → Bool → Flat Q
  drawn_in L q b =
      let v = tables_in L job.setting job.state job.columns q job.splines in
      cond b (tabled_in L job.setting (is_done v.state.answer) v job.output) (flat (flattened Unusable 0 0 0) q job.splines job.output)

  abbrev drawn : Bool → Flat QuadTable
  drawn b = flat_of (flatten_drawable b job.setting job.state job.columns job.quads job.splines job.output)

  -- ---- told of the rows, it gives what the library gives
  rows_walked : (b : Bool) → walked_in in_rows b (laid_of (world_of job)) items job.output ≡ flat_of (walked b (world_of job) items job.output)
  unfolding walked_in walked
  rows_walked true = refl
  rows_walked false = refl

  rows_tabled : (b : Bool)
      → tabled_in in_rows job.setting b (laid_of (world_of job)) job.output ≡ flat_of (tabled job.setting b (world_of job) job.output)
  unfolding tabled_in tabled
  rows_tabled true = rows_walked (fits_output (length items) job.output)
  rows_tabled false = refl

  rows_drawn : (b : Bool) → drawn_in in_rows job.quads b ≡ drawn b
  unfolding tables_in tables_of capacities_of flatten_drawable
  rows_drawn true =
      ap (λ (v : Laid QuadTable). tabled_in in_rows job.setting (is_done v.state.answer) v job.output)
      (run_rows job.setting (caps_of job) primitives (world start_state job.quads job.splines))
      ∙ rows_tabled (is_done (world_of job).state.answer)
  rows_drawn false = refl

  -- ---- in a lawful layout with a table of the same capacity
  module _ (Q : Type 0) (L : Layout Q) (law : Lawful L) (q : Q) (e : L.capacity q ≡ quad_capacity_of job.quads) where
    ran : Follows Q L law (caps_of job) (world_of job) (tables_in L job.setting job.state job.columns q job.splines)
    unfolding tables_in tables_of capacities_of
    ran =
        subst
        (λ (n : ℕ).
        Follows Q L law (caps_of job) (world_of job)
        (run_in L job.setting (record { quads = n; splines = spline_capacity_of job.splines }) primitives (laid start_state q job.splines)))
        (sym e)
        (run_follows Q L law (caps_of job) job.setting primitives (world start_state job.quads job.splines) q
        (record { rows = λ i h. absurd (not-suc-le-zero h); own = le_refl (quad_capacity_of job.quads); other = le_of_eq (sym e) }))

    -- the tables that the run in L leaves
    abbrev left : Laid Q
    left = laid (world_of job).state ran.quads (world_of job).splines

    agree : Agree (quad_row_at (world_of job).quads) (L.row ran.quads) (world_of job).state.quads
    agree = ran.beside.rows

    same_walked : (b : Bool) → Same in_rows L (flat_of (walked b (world_of job) items job.output)) (walked_in L b left items job.output)
    unfolding walked walked_in
    same_walked true =
        record {
          result = refl;
          splines = refl;
          output = sym (written_same job.setting (caps_of job) (world_of job) (job_sound job) (L.row ran.quads) agree job.output);
          rows = λ i h. sym (agree i h);
        }
    same_walked false = record { result = refl; splines = refl; output = refl; rows = λ i h. sym (agree i h) }

    same_tabled : (b : Bool) → Same in_rows L (flat_of (tabled job.setting b (world_of job) job.output)) (tabled_in L job.setting b left job.output)
    unfolding tabled tabled_in
    same_tabled true =
        subst
        (λ (found : List Item).
        Same in_rows L (flat_of (walked (fits_output (length items) job.output) (world_of job) items job.output))
        (walked_in L (fits_output (length found) job.output) left found job.output))
        (sym (walk_same job.setting (caps_of job) (world_of job) (job_sound job) (L.row ran.quads) agree))
        (same_walked (fits_output (length items) job.output))
    same_tabled false = record { result = refl; splines = refl; output = refl; rows = λ i h. sym (agree i h) }

    same_drawn : (b : Bool) → Same in_rows L (drawn b) (drawn_in L q b)
    unfolding flatten_drawable
    same_drawn true =
        subst (λ (v : Laid Q). Same in_rows L (drawn true) (tabled_in L job.setting (is_done v.state.answer) v job.output)) (sym ran.same)
        (same_tabled (is_done (world_of job).state.answer))
    same_drawn false = record { result = refl; splines = refl; output = refl; rows = λ i h. absurd (not-suc-le-zero h) }

-- the flattening that is told of the rows is the library's
pub in_rows_lem : InRows
unfolding flatten_in flatten_of
in_rows_lem job = rows_drawn job (drawable_of job.state job.columns)

pub any_layout : AnyLayout
unfolding flatten_in flatten_of
any_layout Q L law job q e = same_drawn job Q L law q e (drawable_of job.state job.columns)

pub both_layouts : BothLayouts
both_layouts job q e = any_layout _ in_columns columns_lawful job q e
