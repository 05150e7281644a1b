-- RULES, The program 8: a good listing is one that the printer below can print. A command is its op and its numbers as 32-bit patterns, in the order of the
-- op's keys; patterns and not floats, since the bits of every NaN are good text and all NaNs are one float. Assumes nothing.
use Rattle.std.specs.Prelude.{ℕ, ◌^◌, ◌<◌, ◌≡◌, List, [], ◌∷◌, ◌++◌, map}
use Rattle.leaves.specs.Bits.{float_of}
use Rattle.store.specs.declared.Call.{Call}
use Rattle.text.specs.Hex.{hex_of}
use Rattle.listing.specs.declared.Op.{Op}
use Rattle.listing.specs.Grammar.{op_line_of, keys_of, call_of}
use Rattle.listing.specs.Writing.{line_of}

pub record TextCommand : Type 0 where
  pub op : Op
  pub numbers : List ℕ

-- ---- the printer: the op line, then key=number for each key, line by line
unfoldable pub field_lines : List (List ℕ) → List ℕ → List ℕ
field_lines [] numbers = []
field_lines (key ∷ keys) [] = []
field_lines (key ∷ keys) (n ∷ numbers) = line_of key (hex_of n) ++ field_lines keys numbers

unfoldable pub command_lines : TextCommand → List ℕ
command_lines c = op_line_of c.op ++ field_lines (keys_of c.op) c.numbers

unfoldable pub printed : List TextCommand → List ℕ
printed [] = []
printed (c ∷ cs) = command_lines c ++ printed cs

-- ---- a pattern of 32 bits for each key
pub data Patterns : List (List ℕ) → List ℕ → Type 0 where
  none : Patterns [] []
  more : {key : List ℕ} {keys : List (List ℕ)} {n : ℕ} {numbers : List ℕ} → n < 2 ^ 32 → Patterns keys numbers → Patterns (key ∷ keys) (n ∷ numbers)

abbrev pub ProperCommand : TextCommand → Type 0
ProperCommand c = Patterns (keys_of c.op) c.numbers

pub data Proper : List TextCommand → Type 0 where
  none : Proper []
  more : {c : TextCommand} {cs : List TextCommand} → ProperCommand c → Proper cs → Proper (c ∷ cs)

-- ---- a good text is what the printer gives for some list of commands
pub record Good (text : List ℕ) : Type 0 where
  pub commands : List TextCommand
  pub proper : Proper commands
  pub print : text ≡ printed commands

-- ---- the calls of a list of commands
abbrev pub call_in : TextCommand → Call
call_in c = call_of c.op (map float_of c.numbers)

unfoldable pub calls_in : List TextCommand → List Call
calls_in [] = []
calls_in (c ∷ cs) = call_in c ∷ calls_in cs
