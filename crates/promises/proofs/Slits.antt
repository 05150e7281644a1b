-- In the knife setting the far end of a slit is a vertex of the cut: a line out and the same line back meet in a corner, since an accepted drawing has finite
-- directions alone. Assumes nothing.
use Prim.Native.Nat.{ℕ, suc, ◌+◌, ◌-◌, ◌<◌}
use mathlib.Core.Path.{◌≡◌, sym, ap, ◌∙◌}
use mathlib.Core.List.{◌∷◌}
use native.Mathlib.Omega.{arith}
use lib.Dec.{T}
use lib.ListN.{take}
use Rattle.point.specs.declared.Point.{Point}
use Rattle.point.specs.declared.Setting.{Setting}
use Rattle.point.specs.declared.Setting.TheVariants.{Knife}
use Rattle.point.specs.Point.{minus_of}
use Rattle.point.specs.Angle.{angle_of, changed_of}
use Rattle.point.specs.Turning.{finite_of}
use Rattle.point.proofs.Turning.{turning}
use Rattle.store.specs.Columns.{line_command}
use Rattle.store.specs.Drawable.{total_uses_of, drawable_of}
use Rattle.store.proofs.Sound as store
use Rattle.store.proofs.Written.{uses_append}
use Rattle.promises.specs.Accepted.{Job}
use Rattle.promises.specs.FlattenAnswers.{Undrawable}
use Rattle.promises.specs.Corners.{used_before, before_of, corner_of, after_of, TwoLines, SlitsStay}
use Rattle.promises.proofs.Flattened.{Passed, passed}
use Rattle.promises.proofs.Telling.{passes}
use Rattle.promises.proofs.Refusals.{tells_drawable}
use Rattle.promises.proofs.Corners.{rest, commands_split, corners_stay}
use Rattle.promises.proofs.Finite.{direction_finite}

module _ (job : Job) (P : Passed job) (i : ℕ) (L : TwoLines job i) where
  -- two points more are used by the two lines
  used_inside : suc (used_before job i) < job.state.points
  unfolding total_uses_of
  used_inside =
      two (used_before job i) (total_uses_of (rest job P i L)) job.state.points
      (sym (uses_append (take i job.columns.commands) (line_command ∷ line_command ∷ rest job P i L)) ∙ ap total_uses_of (sym (commands_split job P i L))
      ∙ (store.sound job.state job.columns P.drawable).uses)
    where
      two : (u r p : ℕ) → u + (1 + (1 + r)) ≡ p → suc u < p
      two u r p e = omega arith

  line_finite : T (finite_of (minus_of (corner_of job i) (before_of job i)))
  line_finite =
      direction_finite job.state job.columns
      (passes (drawable_of job.state job.columns) (Undrawable job.state job.columns) (tells_drawable job.state job.columns) P.drawable)
      (used_before job i - 1) (used_before job i) (before (used_before job i) job.state.points used_inside)
      (at (used_before job i) job.state.points used_inside)
    where
      before : (u p : ℕ) → suc u < p → u - 1 < p
      before u p h = omega arith

      at : (u p : ℕ) → suc u < p → u < p
      at u p h = omega arith

pub slits_stay : SlitsStay
slits_stay job h knife i S =
    let out = angle_of (minus_of (corner_of job i) (before_of job i)) in
    corners_stay job h i
    (record {
      lines = S.lines;
      turns =
          ap (λ (s : Setting). changed_of s out (angle_of (minus_of (after_of job i) (corner_of job i)))) knife
          ∙ ap (λ (p : Point). changed_of Knife out (angle_of (minus_of p (corner_of job i)))) S.back
          ∙ turning.out_and_back (before_of job i) (corner_of job i) (line_finite job (passed job h) i S.lines) S.long;
    })
