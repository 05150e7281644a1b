-- Numbers read one by one and compared: what is left of the list, after those that were read. Assumes nothing.
use Rattle.std.proofs.Common.{◌≡◌, ℕ, suc, ◌+◌, ◌-◌, ◌*◌, ◌<◌, ◌≤◌, Bool, true, false, ◌&&◌, List, Option, Some, None, IfSome, eqb, get_or, drop, refl, sym, ap, ◌∙◌, subst, arith}
use Rattle.std.proofs.lemmas.List.{drop-drop}
use Rattle.std.proofs.Math.Bool.{and_assoc}
use Rattle.replay.specs.Reading.{number_in, followed_by}

-- i of n numbers are read: the reader has what is behind them, and they were good
pub record Followed (n at : ℕ) (numbers bytes : List ℕ) (i : ℕ) (good : Bool) (left : Option (List ℕ)) : Type 0 where
  pub rest : left ≡ Some (drop (9 * i) bytes)
  pub same : followed_by n at numbers bytes ≡ (good && followed_by (n - i) (at + i) numbers (drop (9 * i) bytes))

followed_next : (n at : ℕ) (numbers bytes : List ℕ) → followed_by (suc n) at numbers bytes ≡ (eqb (get_or numbers at 0) (number_in bytes) && followed_by n (suc at) numbers (drop 9 bytes))
unfolding followed_by
followed_next n at numbers bytes = refl

followed_none : (at : ℕ) (numbers bytes : List ℕ) → followed_by 0 at numbers bytes ≡ true
unfolding followed_by
followed_none at numbers bytes = refl

and_true : (b : Bool) → (b && true) ≡ b
and_true true = refl
and_true false = refl

module _ (n at i : ℕ) (numbers : List ℕ) where
  -- one more, v, is read and compared with x, which stands in its place
  on : (bytes : List ℕ) (good : Bool) (left after : Option (List ℕ)) (x v : ℕ) → i < n → x ≡ get_or numbers (at + i) 0
      → Followed n at numbers bytes i good left → IfSome left (λ bs. v ≡ number_in bs) → IfSome left (λ bs. after ≡ Some (drop 9 bs))
      → Followed n at numbers bytes (i + 1) (good && eqb x v) after
  on bytes good left after x v less stands f value behind =
      let r = drop (9 * i) bytes in
      let value' : v ≡ number_in r = subst (λ (l : Option (List ℕ)). IfSome l (λ bs. v ≡ number_in bs)) f.rest value in
      let behind' : after ≡ Some (drop 9 r) = subst (λ (l : Option (List ℕ)). IfSome l (λ bs. after ≡ Some (drop 9 bs))) f.rest behind in
      let e : 9 * i + 9 ≡ 9 * (i + 1) = omega arith in
      let next : drop 9 r ≡ drop (9 * (i + 1)) bytes = drop-drop 9 (9 * i) bytes ∙ ap (λ (k : ℕ). drop k bytes) e in
      let p : n - i ≡ suc (n - (i + 1)) = omega (arith, less) in
      let q : suc (at + i) ≡ at + (i + 1) = omega arith in
      let m = n - (i + 1) in
      let whole : followed_by (n - i) (at + i) numbers r ≡ (eqb x v && followed_by m (at + (i + 1)) numbers (drop (9 * (i + 1)) bytes)) =
      ap (λ (k : ℕ). followed_by k (at + i) numbers r) p
      ∙ followed_next m (at + i) numbers r
      ∙ ap (λ (k : ℕ). eqb k (number_in r) && followed_by m (suc (at + i)) numbers (drop 9 r)) (sym stands)
      ∙ ap (λ (k : ℕ). eqb x k && followed_by m (suc (at + i)) numbers (drop 9 r)) (sym value')
      ∙ ap (λ (k : ℕ). eqb x v && followed_by m k numbers (drop 9 r)) q
      ∙ ap (λ (l : List ℕ). eqb x v && followed_by m (at + (i + 1)) numbers l) next
      in
      record {
        rest = behind' ∙ ap Some next;
        same = f.same ∙ ap (λ (b : Bool). good && b) whole ∙ sym (and_assoc good (eqb x v) (followed_by m (at + (i + 1)) numbers (drop (9 * (i + 1)) bytes)));
      }

  pub followed_on : (old : Option (List ℕ)) (good : Bool) (left after : Option (List ℕ)) (x v : ℕ) → i < n → x ≡ get_or numbers (at + i) 0
      → IfSome old (λ bytes. Followed n at numbers bytes i good left) → IfSome left (λ bs. v ≡ number_in bs) → IfSome left (λ bs. after ≡ Some (drop 9 bs))
      → IfSome old (λ bytes. Followed n at numbers bytes (i + 1) (good && eqb x v) after)
  followed_on None good left after x v less stands f value behind = tt
  followed_on (Some bytes) good left after x v less stands f value behind = on bytes good left after x v less stands f value behind

  pub followed_all : (old : Option (List ℕ)) (good : Bool) (left : Option (List ℕ)) → n ≤ i → IfSome old (λ bytes. Followed n at numbers bytes i good left)
      → IfSome old (λ bytes. good ≡ followed_by n at numbers bytes)
  followed_all None good left over f = tt
  followed_all (Some bytes) good left over f =
      let p : n - i ≡ 0 = omega (arith, over) in
      sym (f.same
      ∙ ap (λ (k : ℕ). good && followed_by k (at + i) numbers (drop (9 * i) bytes)) p
      ∙ ap (λ (b : Bool). good && b) (followed_none (at + i) numbers (drop (9 * i) bytes))
      ∙ and_true good)
