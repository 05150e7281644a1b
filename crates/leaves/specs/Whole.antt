-- RULES, Numbers 9: "Saturating `as usize` becomes a tested conversion". The least whole number not below x, as a count; and the one nearest to its size. Assumes
-- nothing.
use Rattle.std.specs.Prelude.{ℕ, ◌+◌, ◌-◌, ◌*◌, ◌/◌, ◌&&◌, cond, Float}
use Rattle.std.specs.Float.Ieee.{le, neg}
use Rattle.std.specs.Float.Ieee.Positive.{num, den}
use Rattle.leaves.specs.Single.{f32, zero32}

-- 65,536, the largest sum that a spline has
abbrev pub limit32 : Float
limit32 = f32 0x4780_0000

-- x is num x / den x; 65,537 marks an x that is not from 0 to 65,536, a NaN too
unfoldable pub whole_up_of : Float → ℕ
whole_up_of x = cond (le zero32 x && le x limit32) ((num x + den x - 1) / den x) 65537

-- the size is num x / den x; one half more, down to a whole number, is the nearest, halves up. 65,537 marks an x beyond ±65,536, a NaN too
unfoldable pub whole_near_of : Float → ℕ
whole_near_of x = cond (le (neg limit32) x && le x limit32) ((2 * num x + den x) / (2 * den x)) 65537
