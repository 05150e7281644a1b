-- Comparisons counted, and those that are right. The counts wrap, as no list is that long. Assumes nothing.
use Rattle.std.specs.Prelude.{ℕ, ◌+◌, ◌%◌, ◌^◌, Bool, cond}
use Rattle.replay.specs.declared.counting.Tally.{Tally}

abbrev pub tally : ℕ → ℕ → Tally
tally all right = record { all = all; right = right }

unfoldable pub counted_of : Tally → Bool → Tally
counted_of t right = tally ((t.all + 1) % 2 ^ 64) (cond right ((t.right + 1) % 2 ^ 64) t.right)

unfoldable pub both_of : Tally → Tally → Tally
both_of a b = tally ((a.all + b.all) % 2 ^ 64) ((a.right + b.right) % 2 ^ 64)
