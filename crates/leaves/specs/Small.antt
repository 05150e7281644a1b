-- RULES, Numbers 5 to 8: absolute, min, max, clamp ("zeros keep IEEE signs; clamp keeps NaN, min and max drop it") and the next whole number up, as a float.
-- Assumes nothing.
use Rattle.std.specs.Prelude.{zero, suc, ◌+◌, ◌-◌, ◌*◌, ◌/◌, Bool, true, false, not, ◌&&◌, ◌||◌, cond, Float}
use Rattle.std.specs.Float.{nan, inf, fin, binary32}
use Rattle.std.specs.Float.Ieee.{up, down, round, lt, eq, is_nan}

-- whether a value that is no NaN has a minus sign, a zero too
unfoldable pub negative_of : Float → Bool
negative_of nan = false
negative_of (inf s) = s
negative_of (fin s m e) = s

unfoldable pub is_inf : Float → Bool
is_inf nan = false
is_inf (inf s) = true
is_inf (fin s m e) = false

-- either zero
unfoldable pub is_zero : Float → Bool
is_zero nan = false
is_zero (inf s) = false
is_zero (fin s zero e) = true
is_zero (fin s (suc m) e) = false

-- x without its sign, a zero too
unfoldable pub abs_of : Float → Float
abs_of nan = nan
abs_of (inf s) = inf false
abs_of (fin s m e) = fin false m e

-- x is less than y, where -0 counts as less than +0
unfoldable pub less_of : Float → Float → Bool
less_of x y = lt x y || (eq x y && (negative_of x && not (negative_of y)))

-- if one is a NaN, the result is the other
unfoldable pub min_of : Float → Float → Float
min_of x y = cond (is_nan x || less_of y x) y x

unfoldable pub max_of : Float → Float → Float
max_of x y = cond (is_nan x || less_of x y) y x

-- a NaN stays, and so does a -0 at the lower end +0
unfoldable pub clamp_of : Float → Float → Float → Float
clamp_of x lo hi = cond (lt x lo) lo (cond (lt hi x) hi x)

-- the least whole number not below x; between -1 and 0 it is -0
unfoldable pub ceil_of : Float → Float
ceil_of nan = nan
ceil_of (inf s) = inf s
ceil_of (fin s m e) = round binary32 s (cond s (m * up e / down e) ((m * up e + down e - 1) / down e)) 1
