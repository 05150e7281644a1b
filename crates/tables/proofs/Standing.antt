-- The tables of a contour alone stand in those of the whole: the same rows from some quad and some spline on, their quads and splines numbered on. Assumes nothing.
use Prim.Native.Nat.{ℕ, suc, ◌+◌, ◌<◌}
use mathlib.Core.Path.{◌≡◌}
use mathlib.Core.Bool.{true}
use mathlib.Core.List.{List, [], ◌∷◌}
use Rattle.primitives.specs.declared.Capacities.{Capacities}
use Rattle.primitives.specs.declared.QuadRow.{QuadRow}
use Rattle.primitives.specs.declared.SplineRow.{SplineRow}
use Rattle.tables.specs.Tables.{quad_row_at, spline_at}
use Rattle.tables.specs.Run.{World}
use Rattle.tables.proofs.Sound.{Sound}

-- a spline's row and a quad's row, with bq quads and bs splines before
abbrev pub spline_on : ℕ → SplineRow → SplineRow
spline_on bq row =
    record {
      curvature = row.curvature;
      p0 = row.p0;
      p2 = row.p2;
      contour = row.contour;
      first_quad = bq + row.first_quad;
      quad_count = row.quad_count;
    }

abbrev pub quad_on : ℕ → QuadRow → QuadRow
quad_on bs row =
    record {
      x = row.x;
      y = row.y;
      weight = row.weight;
      x0 = row.x0;
      dx_recip = row.dx_recip;
      k0 = row.k0;
      dk = row.dk;
      curvature_recip = row.curvature_recip;
      partial_curvature = row.partial_curvature;
      spline = bs + row.spline;
    }

-- the rows of `alone` are those of `whole` from quad bq and spline bs on
pub record Stands (bq bs : ℕ) (whole alone : World) : Type 0 where
  pub caps : Capacities
  pub sound : Sound caps alone
  pub splines : (k : ℕ) → k < alone.state.splines → spline_at whole.splines (bs + k) ≡ spline_on bq (spline_at alone.splines k)
  pub quads : (i : ℕ) → i < alone.state.quads → quad_row_at whole.quads (bq + i) ≡ quad_on bs (quad_row_at alone.quads i)
  -- the spline before is a contour's last, and the quad before is of an earlier spline
  pub flagged : (k : ℕ) → suc k ≡ bs → (spline_at whole.splines k).contour ≡ true
  pub earlier : (i : ℕ) → suc i ≡ bq → (quad_row_at whole.quads i).spline < bs

-- one after the other they are all of it
abbrev pub StandFrom : World → ℕ → ℕ → List World → Type 0
StandFrom whole bq bs [] = (whole.state.quads ≡ bq) × (whole.state.splines ≡ bs)
StandFrom whole bq bs (alone ∷ rest) =
    Stands bq bs whole alone × StandFrom whole (bq + alone.state.quads) (bs + alone.state.splines) rest
