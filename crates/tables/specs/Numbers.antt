-- Scaffolding: the row of 15 numbers, for the contract of a private function in src/rows.rt; no promise rests on it. Assumes nothing.
use Rattle.std.specs.Prelude.{ℕ, List, Float, get_or}
use Rattle.std.specs.Float.{nan}
use Rattle.primitives.specs.declared.QuadRow.{QuadRow}

abbrev pub row_of : List Float → ℕ → QuadRow
row_of numbers spline =
    let at : ℕ → Float = λ k. get_or numbers k nan in
    record {
      x = record { a = at 0; b = at 1; c = at 2 };
      y = record { a = at 3; b = at 4; c = at 5 };
      weight = record { a = at 6; b = at 7; c = at 8 };
      x0 = at 9;
      dx_recip = at 10;
      k0 = at 11;
      dk = at 12;
      curvature_recip = at 13;
      partial_curvature = at 14;
      spline = spline;
    }
