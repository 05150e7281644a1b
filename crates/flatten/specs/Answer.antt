-- What `flatten` gives back, as the definitions have it. Assumes nothing.
use Rattle.std.specs.Prelude.{Result, Ok, Err}
use Rattle.answer.specs.Answer.{Done}
use Rattle.flatten.specs.declared.Flattened.{Flattened}
use Rattle.flatten.specs.declared.Refused.{Refused}
use Rattle.flatten.specs.Flatten.{flattened}
use Rattle.flatten.specs.Flatten as definition

-- a refusal has no points
abbrev pub answered : Result Flattened Refused → definition.Flattened
answered (Ok f) = flattened Done f.splines f.quads f.points
answered (Err r) = flattened (Err r.refusal) r.splines r.quads 0
