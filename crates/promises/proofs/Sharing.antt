-- Demand 3d. Equal words have equal pieces, and a piece determines its Start, its number of steps, their size and its flag. Assumes nothing.
use mathlib.Core.Path.{◌≡◌, refl, sym, ap, ◌∙◌, subst}
use mathlib.Core.Bool.{Bool, true, false, cond}
use mathlib.Core.List.{List, [], ◌∷◌, ◌++◌}
use Prim.Native.Nat.{ℕ, zero, suc, ◌<◌}
use native.Mathlib.Nat.{lt_of_lt_of_le, le_of_eq, lt_irrefl}
use lib.ListN.{length, get_or, replicate}
use lib.Ieee.{Float, nan}
use Rattle.command.specs.declared.PointCommand.{PointCommand}
use Rattle.command.specs.declared.PointCommand.TheVariants.{Start, Incr, End}
use Rattle.tables.specs.Tables.{SplineTable, spline_at}
use Rattle.tables.proofs.Flags.{flag_at}
use Rattle.walk.specs.Walk.{starts_of, step_size_of}
use Rattle.flatten.specs.Flatten.{Flattening, walked}
use Rattle.promises.specs.Words.{decoded, pieces_in, is_flagged}
use Rattle.promises.specs.Accepted.{words_in, steps_of, piece_of}
use Rattle.promises.specs.Demand3.{Demand3d}
use Rattle.promises.proofs.Flattened.{world_of, finished_of, Passed, passed}
use Rattle.promises.proofs.Decoding.{job_pieces}
use Rattle.promises.proofs.Contours.{flag_last, piece_flag}

-- ---- what a piece determines
abbrev start_in : List PointCommand → Bool
start_in [] = false
start_in (Start i ∷ rest) = true
start_in (Incr size ∷ rest) = false
start_in (End i flag ∷ rest) = false

abbrev steps_in : List PointCommand → ℕ
steps_in [] = 0
steps_in (Start i ∷ rest) = steps_in rest
steps_in (Incr size ∷ rest) = suc (steps_in rest)
steps_in (End i flag ∷ rest) = steps_in rest

abbrev size_in : List PointCommand → Float
size_in [] = nan
size_in (Start i ∷ rest) = size_in rest
size_in (Incr size ∷ rest) = size
size_in (End i flag ∷ rest) = size_in rest

module _ (s : SplineTable) (k : ℕ) where
  piece : Bool → ℕ → List PointCommand
  piece b n = cond b (Start k ∷ []) [] ++ (replicate n (Incr (step_size_of s k)) ++ (End k (spline_at s k).contour ∷ []))

  start_told : start_in (piece_of s k) ≡ starts_of s k
  unfolding piece_of piece
  start_told = go (starts_of s k) (steps_of s k)
    where
      go : (b : Bool) (n : ℕ) → start_in (piece b n) ≡ b
      go true n = refl
      go false zero = refl
      go false (suc n) = refl

  steps_told : steps_in (piece_of s k) ≡ steps_of s k
  unfolding piece_of piece
  steps_told = go (starts_of s k) (steps_of s k)
    where
      count : (n : ℕ) → steps_in (replicate n (Incr (step_size_of s k)) ++ (End k (spline_at s k).contour ∷ [])) ≡ n
      count zero = refl
      count (suc n) = ap suc (count n)

      go : (b : Bool) (n : ℕ) → steps_in (piece b n) ≡ n
      go true n = count n
      go false n = count n

  size_told : 0 < steps_of s k → size_in (piece_of s k) ≡ step_size_of s k
  unfolding piece_of piece
  size_told h = go (starts_of s k) (steps_of s k) h
    where
      go : (b : Bool) (n : ℕ) → 0 < n → size_in (piece b n) ≡ step_size_of s k
      go b zero h = absurd (lt_irrefl 0 h)
      go true (suc n) h = refl
      go false (suc n) h = refl

-- ---- two drawings with the same words
pub demand3d : Demand3d
unfolding walked
demand3d job job' h h' e =
    record {
      as_many = ap (λ (f : Flattening). f.result.splines) P.result ∙ n ∙ sym (ap (λ (f : Flattening). f.result.splines) P'.result);
      each = λ k l.
          let L : k < (world_of job).state.splines = subst (λ (f : Flattening). k < f.result.splines) P.result l in
          let L' : k < (world_of job').state.splines = lt_of_lt_of_le L (le_of_eq n) in
          let z : piece_of s k ≡ piece_of s' k = sym ((job_pieces job).each k L) ∙ ap (λ (ws : List ℕ). decoded (get_or (pieces_in ws) k [])) words ∙ (job_pieces job').each k L' in
          let f : flag_at s k ≡ flag_at s' k = sym (piece_flag s k) ∙ ap is_flagged z ∙ piece_flag s' k in
          record {
            start = ap (λ (f : Flattening). starts_of f.splines k) P.result ∙ sym (start_told s k) ∙ ap start_in z ∙ start_told s' k ∙ sym (ap (λ (f : Flattening). starts_of f.splines k) P'.result);
            steps = ap (λ (f : Flattening). steps_of f.splines k) P.result ∙ steps k z ∙ sym (ap (λ (f : Flattening). steps_of f.splines k) P'.result);
            size = λ o.
                let O : 0 < steps_of s k = subst (λ (f : Flattening). 0 < steps_of f.splines k) P.result o in
                ap (λ (f : Flattening). step_size_of f.splines k) P.result ∙ sym (size_told s k O) ∙ ap size_in z ∙ size_told s' k (lt_of_lt_of_le O (le_of_eq (steps k z)))
                ∙ sym (ap (λ (f : Flattening). step_size_of f.splines k) P'.result);
            last = (λ c. (flag_last job' P' k L').0 (sym f ∙ (flag_last job P k L).1 c), λ c. (flag_last job P k L).0 (f ∙ (flag_last job' P' k L').1 c));
          };
    }
  where
    P : Passed job
    P = passed job h

    P' : Passed job'
    P' = passed job' h'

    s : SplineTable
    s = (world_of job).splines

    s' : SplineTable
    s' = (world_of job').splines

    words : words_in (finished_of job) ≡ words_in (finished_of job')
    words = sym (ap words_in P.result) ∙ e ∙ ap words_in P'.result

    n : (world_of job).state.splines ≡ (world_of job').state.splines
    n = sym (job_pieces job).as_many ∙ ap (λ (ws : List ℕ). length (pieces_in ws)) words ∙ (job_pieces job').as_many

    steps : (k : ℕ) → piece_of s k ≡ piece_of s' k → steps_of s k ≡ steps_of s' k
    steps k z = sym (steps_told s k) ∙ ap steps_in z ∙ steps_told s' k
