-- The number tells the answers apart, and only 0 is "done". Assumes nothing.
use Prim.Native.Nat.{ℕ}
use mathlib.Core.Path.{◌≡◌, refl, sym, ◌∙◌, ap}
use mathlib.Core.Bool.{true}
use mathlib.Core.List.{List, [], ◌∷◌}
use borrow.Author.Tests.{eqb-true}
use lib.ListN.{get_or}
use Rattle.std.specs.Result.{is_ok}
use Rattle.answer.specs.Answer.{Answer}
use Rattle.answer.specs.Answer.{Done, BadCoordinate, BadWeight, Unusable, StoreFull, TooManyPieces, QuadsFull, SplinesFull, SumTooLarge, OutputShort, BadText, InputTooLong, NotPrintable, BufferShort}
use Rattle.answer.specs.Number.{number_of, is_done}

-- the answers in the order of their numbers
abbrev answers : List Answer
answers =
    Done ∷ BadCoordinate ∷ BadWeight ∷ Unusable ∷ StoreFull ∷ TooManyPieces ∷ QuadsFull ∷ SplinesFull ∷ SumTooLarge ∷ OutputShort ∷ BadText ∷ InputTooLong
    ∷ NotPrintable ∷ BufferShort ∷ []

answer_at : (a : Answer) → get_or answers (number_of a) Done ≡ a
answer_at Done = refl
answer_at BadCoordinate = refl
answer_at BadWeight = refl
answer_at Unusable = refl
answer_at StoreFull = refl
answer_at TooManyPieces = refl
answer_at QuadsFull = refl
answer_at SplinesFull = refl
answer_at SumTooLarge = refl
answer_at OutputShort = refl
answer_at BadText = refl
answer_at InputTooLong = refl
answer_at NotPrintable = refl
answer_at BufferShort = refl

pub number_apart : (a b : Answer) → number_of a ≡ number_of b → a ≡ b
number_apart a b e = sym (answer_at a) ∙ ap (λ (n : ℕ). get_or answers n Done) e ∙ answer_at b

pub done_is : (a : Answer) → is_done a ≡ true → a ≡ Done
done_is a h = number_apart a Done (eqb-true (number_of a) 0 h)

pub is_done_lem : is_done Done ≡ true
is_done_lem = refl

-- a refusal is not done
pub ok_is_done : (a : Answer) → is_ok a ≡ is_done a
ok_is_done Done = refl
ok_is_done BadCoordinate = refl
ok_is_done BadWeight = refl
ok_is_done Unusable = refl
ok_is_done StoreFull = refl
ok_is_done TooManyPieces = refl
ok_is_done QuadsFull = refl
ok_is_done SplinesFull = refl
ok_is_done SumTooLarge = refl
ok_is_done OutputShort = refl
ok_is_done BadText = refl
ok_is_done InputTooLong = refl
ok_is_done NotPrintable = refl
ok_is_done BufferShort = refl
