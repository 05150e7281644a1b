-- RULES, The program 5: "Each key and op name is compared byte by byte as a fixed string." Texts as lists of bytes. Assumes nothing.
use Rattle.std.specs.Prelude.{ℕ, Bool, true, false, ◌&&◌, List, [], ◌∷◌, eqb, length, take, drop}
use Prim.Native.String.{String, [] as empty, ◌∷◌ as ◌◂◌}
use Prim.Native.Char.{code}

-- the bytes of a text in ASCII
abbrev pub bytes : String → List ℕ
bytes empty = []
bytes (◌◂◌ c s) = code c ∷ bytes s

unfoldable pub same_bytes : List ℕ → List ℕ → Bool
same_bytes [] [] = true
same_bytes [] (b ∷ bs) = false
same_bytes (a ∷ rest) [] = false
same_bytes (a ∷ rest) (b ∷ bs) = eqb a b && same_bytes rest bs

-- n bytes from a place on, or as many as there are
unfoldable pub part_at : List ℕ → ℕ → ℕ → List ℕ
part_at text at n = take n (drop at text)

-- the text has the fixed string at this place
unfoldable pub stands_at : List ℕ → ℕ → List ℕ → Bool
stands_at text at fixed = same_bytes (part_at text at (length fixed)) fixed
