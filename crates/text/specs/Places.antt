-- RULES, The program 8: "the line where the wrong or missing byte is due", for any notion of a good text. A text is right up to a place if some ending completes it to a good
-- text; the place where the wrong or missing byte is due is the end of the longest such beginning. Assumes nothing.
use Rattle.std.specs.Prelude.{ℕ, suc, ◌≤◌, ◌≡◌, cond, List, [], ◌∷◌, ◌++◌, eqb, length}

-- some ending makes a good text of it
pub record Completable (Good : List ℕ → Type 0) (beginning : List ℕ) : Type 0 where
  pub ending : List ℕ
  pub good : Good (beginning ++ ending)

-- the longest beginning of the text that some ending completes
pub record LongestBeginning (Good : List ℕ → Type 0) (text beginning : List ℕ) : Type 0 where
  pub rest : List ℕ
  pub split : text ≡ beginning ++ rest
  pub completable : Completable Good beginning
  pub longest : (other rest : List ℕ) → text ≡ other ++ rest → Completable Good other → length other ≤ length beginning

-- how many bytes 0x0A a text has: "Lines count from 1", so what follows a text is on the line after that many
unfoldable pub newlines : List ℕ → ℕ
newlines [] = 0
newlines (b ∷ bs) = cond (eqb b 0x0a) (suc (newlines bs)) (newlines bs)
