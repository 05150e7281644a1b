-- Finished points in whole plotter units: RULES, Whole units. Assumes nothing.
use Rattle.std.specs.Prelude.{ℕ, min, Bool, true, false, ◌&&◌, List, [], ◌∷◌, map, Result, Ok, Err, ℤ, leb, Float, length, take}
use Rattle.std.proofs.lemmas.List.Edits.{sets}
use Rattle.answer.specs.declared.Refusal.{Refusal}
use Rattle.answer.specs.Answer.{Answer, Done, NotPrintable, BufferShort}
use Rattle.units.specs.Whole.{whole_of, printable_of}

unfoldable pub all_printable : List Float → Bool
all_printable [] = true
all_printable (v ∷ vs) = printable_of v && all_printable vs

-- the answer, and how many points were written
pub record Wholes : Type 0 where
  pub answer : Answer
  pub points : ℕ

-- what the caller gets: these, and what both columns then hold
pub record Rounding : Type 0 where
  pub result : Wholes
  pub x : List ℤ
  pub y : List ℤ

abbrev pub rounding : Wholes → List ℤ → List ℤ → Rounding
rounding result x y = record { result = result; x = x; y = y }

abbrev pub wholes : Answer → ℕ → Wholes
wholes answer points = record { answer = answer; points = points }

-- what a result says: a refusal writes none
abbrev pub wholes_of : Result ℕ Refusal → Wholes
wholes_of (Ok points) = wholes Done points
wholes_of (Err refusal) = wholes (Err refusal) 0

-- 12, then 13; "neither writes"
unfoldable pub rounding_in : Bool → Bool → List Float → List Float → List ℤ → List ℤ → Rounding
rounding_in false room xs ys x y = rounding (wholes NotPrintable 0) x y
rounding_in true false xs ys x y = rounding (wholes BufferShort 0) x y
rounding_in true true xs ys x y = rounding (wholes Done (length xs)) (sets x 0 (map whole_of xs)) (sets y 0 (map whole_of ys))

-- the points are as many as the shorter column has entries
unfoldable pub rounding_of : List Float → List Float → List ℤ → List ℤ → Rounding
rounding_of from-x from-y x y =
    let n = min (length from-x) (length from-y) in
    rounding_in (all_printable (take n from-x) && all_printable (take n from-y)) (leb n (length x) && leb n (length y)) (take n from-x) (take n from-y) x y
