-- Quarter rounds whose chord lies at forty-five degrees, the shape on which an earlier version lost a sign: the words and points are those of the original Rust
-- (tests/rust/QUARTER-ROUND.md). Assumes nothing.
use Rattle.std.specs.Prelude.{List, [], ◌∷◌}
use Rattle.leaves.specs.Single.{f32, zero32}
use Rattle.point.specs.Point.{point_at}
use Rattle.store.specs.declared.Call.{Call}
use Rattle.store.specs.declared.Call.TheVariants.{Quad, Cubic, Build}
use Rattle.point.specs.declared.Setting.TheVariants.{Screen}
use Rattle.promises.specs.Examples.{Example, example, P, words_after, points_after}

abbrev pub quad_round : List Call
quad_round = Quad (P 10 0) (P 10 10) ∷ Build ∷ []

-- the control points are (5.5228, 0) and (10, 4.4772)
abbrev pub cubic_round : List Call
cubic_round = Cubic (point_at (f32 0x40b0bac7) zero32) (point_at (f32 0x41200000) (f32 0x408f4539)) (P 10 10) ∷ Build ∷ []

abbrev pub quarter_rounds : List Example
quarter_rounds =
    example (words_after Screen quad_round)
    (0 ∷ 0x7F800000 ∷ 0x3F65EA6A ∷ 0x3F65EA6A ∷ 0x3F65EA6A ∷ 0x3F65EA6A ∷ 0x3F65EA6A ∷ 0x3F65EA6A ∷ 0x3F65EA6A ∷ 0xFF800000 ∷ 0xFFC00001 ∷ [])
    ∷ example (points_after Screen quad_round)
    (0x00000000 ∷ 0x4019104e ∷ 0x408f4d69 ∷ 0x40c502c3 ∷ 0x40f00000 ∷ 0x4108e3e7 ∷ 0x4115707e ∷ 0x411d63a3 ∷ 0x41200000 ∷ 0x00000000
    ∷ 0x00000000 ∷ 0x3e27172f ∷ 0x3f28f82b ∷ 0x3fb8e0c9 ∷ 0x40200000 ∷ 0x4075fa7c ∷ 0x40b0b299 ∷ 0x40f377da ∷ 0x41200000 ∷ 0x00000000 ∷ [])
    ∷ example (words_after Screen cubic_round)
    (0 ∷ 0x7F800000 ∷ 0x3F7FB8F1 ∷ 0x3F7FB8F1 ∷ 0x3F7FB8F1 ∷ 0x3F7FB8F1 ∷ 0x3F7FB8F1 ∷ 0x3F7FB8F1 ∷ 0xFF800000 ∷ 0xFFC00001 ∷ [])
    ∷ example (points_after Screen cubic_round)
    (0x00000000 ∷ 0x4012102d ∷ 0x408b1e91 ∷ 0x40c7b4e1 ∷ 0x40fa033c ∷ 0x41102d07 ∷ 0x411bc934 ∷ 0x41200000 ∷ 0x00000000
    ∷ 0x00000000 ∷ 0x3e86d973 ∷ 0x3f7d2f85 ∷ 0x400bf985 ∷ 0x4070963a ∷ 0x40b4e16c ∷ 0x40f6f7e8 ∷ 0x41200000 ∷ 0x00000000 ∷ [])
    ∷ []
