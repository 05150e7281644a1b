-- RULES, Answers 12: what `deliver` gives, with the outputs: the walk is written if it fits. Assumes nothing.
use Rattle.std.specs.Prelude.{ℕ, Bool, true, false, cond, length, Option, Some, None}
use Rattle.point.specs.declared.Setting.{Setting}
use Rattle.primitives.specs.declared.QuadRow.{QuadRow}
use Rattle.tables.specs.Tables.{SplineTable}
use Rattle.walk.specs.Walk.{walk_of}
use Rattle.evaluate.specs.Output.{Output, fits_output, write_output}

-- whether the walk fits, and how many points it has then
pub record Delivered : Type 0 where
  pub fits : Bool
  pub points : ℕ

-- whether the walk fits and how long it is, with the outputs
pub record Delivery : Type 0 where
  pub result : Delivered
  pub output : Output

abbrev pub delivery : Bool → ℕ → Output → Delivery
delivery fits points output = record { result = record { fits = fits; points = points }; output = output }

-- the answer of the code: how many points there are, if the walk fits
abbrev pub delivers : Option ℕ → Output → Delivery
delivers (Some points) o = delivery true points o
delivers None o = delivery false 0 o

-- "9: words or outputs are shorter than the walk": then nothing is written
unfoldable pub deliver_of : Setting → (ℕ → QuadRow) → SplineTable → ℕ → Output → Delivery
deliver_of setting rows s n o =
    let items = walk_of setting rows s n in
    cond (fits_output (length items) o) (delivery true (length items) (write_output rows s items o)) (delivery false 0 o)
