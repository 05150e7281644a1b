-- The front half of the program, for programs that share it: from a text to its answer and line, and to its words and points in columns that the caller lends. The
-- columns may have any length; on a refusal they are as they came. Assumes nothing.
use Rattle.std.specs.Prelude.{ℕ, List, Result, Ok, Err}
use Rattle.answer.specs.Answer.{Answer, Done}
use Rattle.point.specs.declared.Setting.{Setting}
use Rattle.flatten.specs.Flatten.{Flattening, Output, flatten_of}
use Rattle.listing.specs.declared.Refused.{Refused}
use Rattle.listing.specs.Program.{program_quads, program_splines, Drawn, refused, ready, drawn_of}

-- the answer and its line, and how many points there are
pub record Account : Type 0 where
  pub answer : Answer
  pub line : ℕ
  pub points : ℕ

pub record Telling : Type 0 where
  pub result : Account
  pub output : Output

abbrev pub account_of : Answer → ℕ → ℕ → Account
account_of answer line points = record { answer = answer; line = line; points = points }

-- as the code gives it
abbrev pub account_as : Result ℕ Refused → Account
account_as (Ok points) = account_of Done 0 points
account_as (Err r) = account_of (Err r.refusal) r.line 0

abbrev pub telling : Account → Output → Telling
telling result output = record { result = result; output = output }

-- a refused flattening has no point and leaves the output as it came (flatten/specs/Flatten); line is 0 for 5 to 9 and for 0
abbrev pub flat_telling : Flattening → Telling
flat_telling f = telling (account_of f.result.answer 0 f.result.points) f.output

unfoldable pub told_from : Setting → Drawn → Output → Telling
told_from setting (refused answer line) out = telling (account_of answer line 0) out
told_from setting (ready st c) out = flat_telling (flatten_of setting st c program_quads program_splines out)

unfoldable pub told_of : Setting → List ℕ → Output → Telling
told_of setting text out = told_from setting (drawn_of text) out
