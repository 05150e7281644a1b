-- RULES, Answers 9: flattening's test for answer 3, over the whole drawing. It looks at the first `count` entries of each column. Assumes nothing.
use Rattle.std.specs.Prelude.{ℕ, ◌+◌, Bool, true, ◌&&◌, List, [], ◌∷◌, leb, eqb, Float, take, get_or}
use Rattle.std.specs.Float.Ieee.{le}
use Rattle.leaves.specs.Single.{f32}
use Rattle.store.specs.declared.StoreState.{StoreState}
use Rattle.store.specs.Columns.{Columns, move_command, uses_of, usable_of}
use Rattle.store.specs.Drawing.{every, weight_ok_of}

-- "a stored coordinate is NaN or beyond ±4,194,304"
unfoldable pub stored_ok_of : Float → Bool
stored_ok_of v = le (f32 0xca80_0000) v && le v (f32 0x4a80_0000)

unfoldable pub known_of : List ℕ → Bool
known_of [] = true
known_of (k ∷ ks) = leb k 3 && known_of ks

unfoldable pub total_uses_of : List ℕ → ℕ
total_uses_of [] = 0
total_uses_of (k ∷ ks) = uses_of k + total_uses_of ks

-- "Flattening gives 3 for all of these, and also when any command is over 3, the first isn't Move, the commands' points don't sum to the point count, a weight is NaN or
-- outside 1/64..64, or a stored coordinate is NaN or beyond ±4,194,304."
unfoldable pub drawable_of : StoreState → Columns → Bool
drawable_of st c =
    usable_of st c
    && known_of (take st.commands c.commands)
    && eqb (get_or c.commands 0 0) move_command
    && eqb (total_uses_of (take st.commands c.commands)) st.points
    && every weight_ok_of (take st.points c.weight)
    && every stored_ok_of (take st.points c.x)
    && every stored_ok_of (take st.points c.y)
