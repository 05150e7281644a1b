-- What can be read from a list of packed words and nothing else: its commands, and its pieces, cut after each End. Assumes nothing.
use Rattle.std.specs.Prelude.{ℕ, Bool, true, false, ◌||◌, List, [], ◌∷◌, map}
use Rattle.command.specs.declared.PointCommand.{PointCommand}
use Rattle.command.specs.declared.PointCommand.TheVariants.{Start, Incr, End}
use Rattle.command.specs.Packing.{unpack_of}
use Rattle.contours.specs.Cutting.{cut_after}

abbrev pub is_step : PointCommand → Bool
is_step (Start i) = false
is_step (Incr size) = true
is_step (End i flag) = false

abbrev pub is_end : PointCommand → Bool
is_end (Start i) = false
is_end (Incr size) = false
is_end (End i flag) = true

-- the commands of a word list
abbrev pub decoded : List ℕ → List PointCommand
decoded words = map unpack_of words

-- a word list, "Cut after each End"
abbrev pub pieces_in : List ℕ → List (List ℕ)
pieces_in words = cut_after (λ (word : ℕ). is_end (unpack_of word)) words

-- whether a list of commands has a flagged End
abbrev pub is_flagged : List PointCommand → Bool
is_flagged [] = false
is_flagged (Start i ∷ commands) = is_flagged commands
is_flagged (Incr size ∷ commands) = is_flagged commands
is_flagged (End i flag ∷ commands) = flag || is_flagged commands
