-- Numbers read one by one until a read fails: what was taken from the reader until then. Assumes nothing.
use Rattle.std.proofs.Common.{◌≡◌, ℕ, ◌+◌, ◌*◌, ◌<◌, ◌≤◌, Bool, List, [], ◌++◌, Option, Some, None, IfSome, length, take, drop, sym, ap, ◌∙◌, subst, arith}
use Rattle.std.proofs.lemmas.List.{take-append-drop, append_assoc, length-append, length-take}
use Rattle.std.specs.Io.KnownBytes.{Consumes}
use Rattle.replay.proofs.Following.{Followed}

length_most : (k : ℕ) (xs : List ℕ) → length (take k xs) ≤ k
length_most k xs = let e = length-take k xs in omega (arith, e)

-- a read that fails after k bytes has taken these and its own
behind : (k : ℕ) (xs bs : List ℕ) (new : Option (List ℕ)) → Consumes (Some (drop k xs)) new bs → Consumes (Some xs) new (take k xs ++ bs)
behind k xs bs None h = h
behind k xs bs (Some zs) h = sym (take-append-drop k xs) ∙ ap (λ (l : List ℕ). take k xs ++ l) h ∙ sym (append_assoc (take k xs) bs zs)

pub followed_err : (n at i : ℕ) (numbers : List ℕ) (old left new : Option (List ℕ)) (good : Bool) → i < n
    → IfSome old (λ bytes. Followed n at numbers bytes i good left)
    → ((bs : List ℕ) × Consumes left new bs × (length bs < 9))
    → (bs : List ℕ) × Consumes old new bs × (length bs < 9 * n)
followed_err n at i numbers None left new good less f h = ([], tt, omega (arith, less))
followed_err n at i numbers (Some xs) left new good less f h =
    let k = 9 * i in
    let here : Consumes (Some (drop k xs)) new h.0 = subst (λ (l : Option (List ℕ)). Consumes l new h.0) f.rest h.1 in
    let size : length (take k xs ++ h.0) ≡ length (take k xs) + length h.0 = length-append (take k xs) h.0 in
    let most = length_most k xs in
    let few : length h.0 < 9 = h.2 in
    (take k xs ++ h.0, behind k xs h.0 new here, omega (arith, size, most, few, less))
