-- RULES, The walk 7: how many items the walk has, from the splines alone. Assumes nothing.
use Rattle.std.specs.Prelude.{ℕ, zero, suc, ◌+◌, ◌-◌, cond, Float}
use Rattle.leaves.specs.Single.{◌⊘◌, whole32}
use Rattle.leaves.specs.Whole.{whole_up_of}
use Rattle.primitives.specs.declared.SplineRow.{SplineRow}
use Rattle.tables.specs.Tables.{SplineTable, spline_at}
use Rattle.walk.specs.Walk.{starts_after_of}

-- "Then m-1 steps of size c/m; none when m is 0"
abbrev pub steps_of : Float → ℕ
steps_of sum = whole_up_of sum - 1

-- "of size c/m"
abbrev pub size_of : Float → Float
size_of sum = sum ⊘ whole32 (whole_up_of sum)

-- the steps, the End, and a Start where there is one
unfoldable pub spline_length_of : ℕ → SplineRow → SplineRow → ℕ
spline_length_of k last row = cond (starts_after_of k last row) (steps_of row.curvature + 2) (steps_of row.curvature + 1)

-- n splines from spline k on
unfoldable pub length_from : SplineTable → ℕ → ℕ → ℕ
length_from s zero k = 0
length_from s (suc n) k = spline_length_of k (spline_at s (k - 1)) (spline_at s k) + length_from s n (k + 1)

unfoldable pub walk_length_of : SplineTable → ℕ → ℕ
walk_length_of s n = length_from s n 0
