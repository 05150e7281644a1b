-- 02, One: "printed in plain decimal; zero has no sign". Assumes nothing.
use Rattle.std.specs.Prelude.{ℕ, suc, List, ◌++◌, ℤ, pos, negsuc}
use Rattle.text.specs.Bytes.{bytes}
use Rattle.text.specs.Decimal.{decimal_of}

-- `negsuc n` is -(n + 1)
unfoldable pub signed_of : ℤ → List ℕ
signed_of (pos n) = decimal_of n
signed_of (negsuc n) = bytes "-" ++ decimal_of (suc n)
