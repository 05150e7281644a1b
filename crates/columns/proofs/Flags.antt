-- A flag that was written is read back. Assumes nothing.
use mathlib.Core.Path.{◌≡◌, refl}
use mathlib.Core.Bool.{Bool, true, false}
use Rattle.columns.specs.Flags.{flag_byte_of, is_flag_of}

pub flag_back : (flag : Bool) → is_flag_of (flag_byte_of flag) ≡ flag
unfolding is_flag_of flag_byte_of
flag_back true = refl
flag_back false = refl
