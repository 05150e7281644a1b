-- A reader whose bytes are known, once a buffer is full or the bytes are at an end: it gave the first ones, and has the others left. Assumes nothing.
use Rattle.std.proofs.Common.{◌≡◌, ℕ, ◌<◌, ◌≤◌, List, [], ◌++◌, Option, Some, None, IfSome, length, take, drop, sym, ap, ◌∙◌, inl, inr, arith, length-take-le, drop_at}
use Rattle.std.proofs.lemmas.List.{take_all, drop_all, take-append-le, append-nil}
use Rattle.std.proofs.Math.Nat.{eq-or-lt_of_le}
use Rattle.std.specs.Io.KnownBytes.{Consumes, IsAtEnd}
use Rattle.std.specs.Option.{unwrap_or}
use Rattle.text.specs.Hex.{hex_at_of}
use Rattle.replay.specs.Reading.{number_in}

-- of the bytes xs the first m were given, or all if there are fewer, and the reader has the others
pub record Taken (m : ℕ) (given xs : List ℕ) (new : Option (List ℕ)) : Type 0 where
  pub front : given ≡ take m xs
  pub rest : new ≡ Some (drop m xs)

module _ (m : ℕ) (given ys xs : List ℕ) (split : xs ≡ given ++ ys) where
  full : length given ≡ m → Taken m given xs (Some ys)
  full e =
      let fits : m ≤ length given = omega (arith, e) in
      let all : length given ≤ m = omega (arith, e) in
      record {
        front = sym (ap (take m) split ∙ take-append-le m given ys fits ∙ take_all m given all);
        rest = ap Some (sym (ap (drop m) split ∙ drop_at given ys m e));
      }

  ended : length given ≤ m → ys ≡ [] → Taken m given xs (Some ys)
  ended short none =
      let whole : xs ≡ given = split ∙ ap (λ (l : List ℕ). given ++ l) none ∙ append-nil given in
      record {
        front = sym (ap (take m) whole ∙ take_all m given short);
        rest = ap Some (none ∙ sym (ap (drop m) whole ∙ drop_all m given short));
      }

pub taken : (m n : ℕ) (buf : List ℕ) (old new : Option (List ℕ)) → length buf ≡ m → n ≤ length buf → Consumes old new (take n buf) → (n < length buf → IsAtEnd new)
    → IfSome old (λ xs. Taken m (take n buf) xs new)
taken m n buf None new e within h end = tt
taken m n buf (Some xs) None e within h end = absurd h
taken m n buf (Some xs) (Some ys) e within h end =
    let size : length (take n buf) ≡ n = length-take-le n buf within in
    elim (eq-or-lt_of_le within) [
      | inl same ↦ full m (take n buf) ys xs h (size ∙ same ∙ e)
      | inr less ↦ ended m (take n buf) ys xs h (omega (arith, size, less, e)) (end less)
    ]

pub taken-rest : (m : ℕ) (given : List ℕ) (old new : Option (List ℕ)) → IfSome old (λ xs. Taken m given xs new) → IfSome old (λ xs. new ≡ Some (drop m xs))
taken-rest m given None new t = tt
taken-rest m given (Some xs) new t = t.rest

pub taken-number : (given : List ℕ) (old new : Option (List ℕ)) (n : ℕ) → IfSome old (λ xs. Taken 9 given xs new) → n ≡ unwrap_or (hex_at_of given 0) 0
    → IfSome old (λ xs. n ≡ number_in xs)
unfolding number_in
taken-number given None new n t e = tt
taken-number given (Some xs) new n t e = e ∙ ap (λ (l : List ℕ). unwrap_or (hex_at_of l 0) 0) t.front
