-- RULES, Cubics 2: "Pieces: r times the largest of w1, w2, 1, rounded, then the least whole number not below that, at least 1". Assumes nothing.
use Rattle.std.specs.Prelude.{ℕ, max, Float}
use Rattle.leaves.specs.Single.{◌⊗◌, one32}
use Rattle.leaves.specs.Small.{max_of}
use Rattle.leaves.specs.Whole.{whole_up_of}
use Rattle.leaves.specs.Sixth.{sixth_root_of}

-- a number over 65,536 comes out as 65,537: over 1,024 either way, which is refused
unfoldable pub pieces_of : Float → Float → Float → ℕ
pieces_of q w1 w2 = max 1 (whole_up_of (sixth_root_of q ⊗ max_of (max_of w1 w2) one32))
