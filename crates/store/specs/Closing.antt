-- RULES, The store 7: closing. "Closing compares the last point with the open point, each as (x·(1/w), y·(1/w)). If they differ as floats, it appends the open point
-- and a Line." Assumes nothing.
use Rattle.std.specs.Prelude.{◌-◌, Bool, not}
use Rattle.point.specs.Point.{applied_of, same_of}
use Rattle.store.specs.declared.StoreState.{StoreState}
use Rattle.store.specs.Columns.{Columns, stored_point_of}

unfoldable pub unclosed_of : StoreState → Columns → Bool
unclosed_of st c = not (same_of (applied_of (stored_point_of c (st.points - 1))) (applied_of (stored_point_of c st.opening)))
