-- What `fma` adds after taking the patterns apart: product and addend of three finite values as whole numbers of 2 ^ -311. Scaffolding: only contracts of
-- private functions in src/fused.rt name it, and no promise rests on it. Assumes nothing.
use Rattle.std.specs.Prelude.{◌≡◌, ◌⊎◌, ℕ, ◌*◌, ◌%◌, ◌^◌, ◌<◌, ◌≤◌, leb, Float}
use Rattle.std.specs.Float.{binary32}
use Rattle.std.specs.Float.Ieee.{top, unlike, sum}
use Rattle.rounding.specs.Parts.{sig, place}

unfoldable pub fma_bits : ℕ → ℕ → ℕ → Float
fma_bits a b c =
    sum binary32 (unlike (leb (top binary32) a) (leb (top binary32) b))
    (sig binary32 a * 2 ^ place binary32 a * (sig binary32 b * 2 ^ place binary32 b) * 2 ^ 13)
    (leb (top binary32) c)
    (sig binary32 c * 2 ^ place binary32 c * 2 ^ 162)
    (2 ^ 311)

-- what the alignment needs of a product p * 2 ^ pe and an addend q * 2 ^ qe
pub record Aligns (p pe q qe : ℕ) : Type 0 where
  pub p_lt : p < 2 ^ 61
  pub q_lt : q < 2 ^ 61
  pub p_zeros : p % 2 ^ 13 ≡ 0
  pub q_zeros : q % 2 ^ 37 ≡ 0
  pub pe_lt : pe < 1024
  pub qe_lt : qe < 1024
  pub p_leads : (pe ≡ 0) ⊎ (2 ^ 36 ≤ p)
  pub q_leads : (qe ≤ 160) ⊎ (2 ^ 60 ≤ q)
