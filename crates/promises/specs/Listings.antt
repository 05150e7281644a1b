-- RULES, The program: its example, the doubled point, and listings that are refused, each with the output that is claimed. Assumes nothing.
use Rattle.std.specs.Prelude.{ℕ, List, [], ◌∷◌}
use Rattle.text.specs.Bytes.{bytes}
use Rattle.listing.specs.Program.{listing_of}
use Rattle.promises.specs.Examples.{Example, example}

abbrev pub refusal10_at2 : List ℕ
refusal10_at2 = bytes "answer=10\nline=2\npoints=0\n"

abbrev pub listings : List Example
listings =
    example (listing_of (bytes "op=move\nx=00000000\ny=00000000\nop=line\nx=41200000\ny=00000000\nop=line\nx=41200000\ny=00000000\nop=line\nx=41200000\ny=41200000\n"))
    (bytes "answer=0\nline=0\npoints=3\nx=00000000\ny=00000000\nend=0\nx=41200000\ny=41200000\nend=0\nx=00000000\ny=00000000\nend=1\n")
    -- empty input is a good listing
    ∷ example (listing_of []) (bytes "answer=0\nline=0\npoints=0\n")
    -- a field is missing, an upper-case digit, a missing last line end
    ∷ example (listing_of (bytes "op=move\n")) refusal10_at2
    ∷ example (listing_of (bytes "op=line\nx=4120000A\ny=00000000\n")) refusal10_at2
    ∷ example (listing_of (bytes "op=line\nx=41200000\ny=00000000")) (bytes "answer=10\nline=3\npoints=0\n")
    -- a NaN is good text, and is refused as a coordinate, before a later fault
    ∷ example (listing_of (bytes "op=line\nx=41200000\ny=00000000\nop=line\nx=7fc00000\ny=00000000\nop=lune\n")) (bytes "answer=1\nline=4\npoints=0\n")
    ∷ []
