-- Buffers with room for the examples: columns of zeros. Assumes nothing.
use Rattle.std.specs.Prelude.{ℕ, ◌*◌, List, Float, replicate}
use Rattle.leaves.specs.Single.{zero32}
use Rattle.store.specs.Columns.{Columns, columns}
use Rattle.tables.specs.Tables.{QuadTable, quad_table, SplineTable, spline_table}
use Rattle.flatten.specs.Flatten.{Output, output}

abbrev pub zeros : ℕ → List Float
zeros n = replicate n zero32

unfoldable pub empty_columns : ℕ → Columns
empty_columns n = columns (zeros n) (zeros n) (zeros n) (replicate n 0)

unfoldable pub empty_quads : ℕ → QuadTable
empty_quads n = quad_table (zeros (15 * n)) (replicate n 0)

unfoldable pub empty_splines : ℕ → SplineTable
empty_splines n = spline_table (zeros n) (zeros n) (zeros n) (zeros n) (zeros n) (replicate n 0) (replicate n 0) (replicate n 0)

unfoldable pub empty_output : ℕ → Output
empty_output n = output (replicate n 0) (zeros n) (zeros n) (replicate n 0)
