-- RULES, The program 9: "the others in plain decimal". Assumes nothing.
use Rattle.std.specs.Prelude.{ℕ, zero, suc, ◌+◌, ◌/◌, ◌%◌, Bool, true, false, List, [], ◌∷◌, ◌++◌, ltb}

-- the digits of an n that has at most k + 1 of them; the Bool is `n < 10`, so that there is one digit
unfoldable pub decimal_in : ℕ → Bool → ℕ → List ℕ
decimal_in zero one n = (0x30 + n % 10) ∷ []
decimal_in (suc k) true n = (0x30 + n % 10) ∷ []
decimal_in (suc k) false n = decimal_in k (ltb (n / 10) 10) (n / 10) ++ ((0x30 + n % 10) ∷ [])

-- a number of up to 20 digits, which every u64 is
unfoldable pub decimal_of : ℕ → List ℕ
decimal_of n = decimal_in 19 (ltb n 10) n
