-- A flag in a column of bytes: 1 is written for a flag and 0 for none; any byte but 0 is read as a flag. Assumes nothing.
use Rattle.std.specs.Prelude.{ℕ, Bool, not, cond, eqb}

unfoldable pub flag_byte_of : Bool → ℕ
flag_byte_of flag = cond flag 1 0

unfoldable pub is_flag_of : ℕ → Bool
is_flag_of byte = not (eqb byte 0)
