-- RULES, Answers: done, or a refusal. Assumes nothing.
use Rattle.std.specs.Prelude.{Result, Ok, Err}
use Rattle.answer.specs.declared.Refusal.{Refusal}
use Rattle.answer.specs.declared.Refusal.TheVariants as refusal

abbrev pub Answer : Type 0
Answer = Result Unit Refusal

-- 0
pattern abbrev pub Done : Answer
Done = Ok tt

pattern abbrev pub BadCoordinate : Answer
BadCoordinate = Err refusal.BadCoordinate

pattern abbrev pub BadWeight : Answer
BadWeight = Err refusal.BadWeight

pattern abbrev pub Unusable : Answer
Unusable = Err refusal.Unusable

pattern abbrev pub StoreFull : Answer
StoreFull = Err refusal.StoreFull

pattern abbrev pub TooManyPieces : Answer
TooManyPieces = Err refusal.TooManyPieces

pattern abbrev pub QuadsFull : Answer
QuadsFull = Err refusal.QuadsFull

pattern abbrev pub SplinesFull : Answer
SplinesFull = Err refusal.SplinesFull

pattern abbrev pub SumTooLarge : Answer
SumTooLarge = Err refusal.SumTooLarge

pattern abbrev pub OutputShort : Answer
OutputShort = Err refusal.OutputShort

pattern abbrev pub BadText : Answer
BadText = Err refusal.BadText

pattern abbrev pub InputTooLong : Answer
InputTooLong = Err refusal.InputTooLong

pattern abbrev pub NotPrintable : Answer
NotPrintable = Err refusal.NotPrintable

pattern abbrev pub BufferShort : Answer
BufferShort = Err refusal.BufferShort
