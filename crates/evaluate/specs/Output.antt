-- RULES, Flattening 4: the words and the outputs of a walk. "Words and outputs are written only on 0, entries past the count are unchanged". Assumes nothing.
use Rattle.std.specs.Prelude.{ℕ, Bool, ◌&&◌, List, ◌++◌, map, leb, Float, length, drop}
use Rattle.columns.specs.Flags.{flag_byte_of}
use Rattle.primitives.specs.declared.QuadRow.{QuadRow}
use Rattle.tables.specs.Tables.{SplineTable}
use Rattle.walk.specs.Walk.{Item, words_of}
use Rattle.evaluate.specs.Evaluate.{points_of}

-- the words and the outputs: x, y, and 1 for a flagged End
pub record Output : Type 0 where
  pub words : List ℕ
  pub x : List Float
  pub y : List Float
  pub end : List ℕ

abbrev pub output : List ℕ → List Float → List Float → List ℕ → Output
output words x y end = record { words = words; x = x; y = y; end = end }

-- "entries past the count are unchanged"
unfoldable pub over {ℓ} : {A : Type ℓ} → List A → List A → List A
over new old = new ++ drop (length new) old

unfoldable pub fits_output : ℕ → Output → Bool
fits_output n o = leb n (length o.words) && leb n (length o.x) && leb n (length o.y) && leb n (length o.end)

unfoldable pub write_output : (ℕ → QuadRow) → SplineTable → List Item → Output → Output
write_output rows s items o =
    let points = points_of rows s items in
    output (over (words_of items) o.words) (over (map (λ p. p.point.x) points) o.x) (over (map (λ p. p.point.y) points) o.y)
    (over (map (λ p. flag_byte_of p.end) points) o.end)
