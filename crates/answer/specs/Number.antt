-- RULES, Answers: the number of each answer. It is matched here and nowhere else. Assumes nothing.
use Rattle.std.specs.Prelude.{ℕ, Bool, eqb, Ok, Err}
use Rattle.answer.specs.declared.Refusal.{Refusal}
use Rattle.answer.specs.declared.Refusal.TheVariants.{BadCoordinate, BadWeight, Unusable, StoreFull, TooManyPieces, QuadsFull, SplinesFull, SumTooLarge, OutputShort, BadText, InputTooLong, NotPrintable, BufferShort}
use Rattle.answer.specs.Answer.{Answer}

abbrev pub refusal_number_of : Refusal → ℕ
refusal_number_of BadCoordinate = 1
refusal_number_of BadWeight = 2
refusal_number_of Unusable = 3
refusal_number_of StoreFull = 4
refusal_number_of TooManyPieces = 5
refusal_number_of QuadsFull = 6
refusal_number_of SplinesFull = 7
refusal_number_of SumTooLarge = 8
refusal_number_of OutputShort = 9
refusal_number_of BadText = 10
refusal_number_of InputTooLong = 11
refusal_number_of NotPrintable = 12
refusal_number_of BufferShort = 13

abbrev pub number_of : Answer → ℕ
number_of (Ok done) = 0
number_of (Err refusal) = refusal_number_of refusal

abbrev pub is_done : Answer → Bool
is_done a = eqb (number_of a) 0
