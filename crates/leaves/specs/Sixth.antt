-- RULES, Numbers 11: "r the largest f32 whose exact sixth power is at most q". A finite q is a whole number of sixth powers of the smallest value, 2 ^ -149, so
-- the division below leaves no rest. Its whole sixth root, cut to the 24 digits that an f32 keeps, counts the smallest values of r. `Largest` says what the
-- rule says. The root of a NaN or a negative q is NaN, that of +infinity is +infinity. Assumes nothing.
use Rattle.std.specs.Prelude.{zero, suc, ◌*◌, ◌/◌, ◌^◌, true, false, pos, Float}
use Rattle.std.specs.Float.{nan, inf, fin, binary32}
use Rattle.std.specs.Float.Ieee.{up, down}
use Rattle.rounding.specs.Roots.{root, cut_to, LargestRoot, next_above}

unfoldable pub sixth_root_of : Float → Float
sixth_root_of nan = nan
sixth_root_of (inf true) = nan
sixth_root_of (inf false) = inf false
sixth_root_of (fin s zero e) = fin false 0 (pos 0)
sixth_root_of (fin true (suc m) e) = nan
sixth_root_of (fin false (suc m) e) = cut_to binary32 (root 6 (suc m * up e * 2 ^ 894 / down e))

-- r is the largest finite f32 whose sixth power is at most q, which is finite
abbrev pub Largest : Float → Float → Type 0
Largest q r = LargestRoot binary32 6 q r

-- the next f32 above an r from 0 up
abbrev pub next_up : Float → Float
next_up r = next_above binary32 r
