-- `leaves::parts::join` meets its contract: the pattern is the sign's and k * 2 ^ 23 + q, or an infinity's. Assumes nothing.
use mathlib.Core.Path.{◌≡◌, sym, ap, ◌∙◌, subst}
use mathlib.Core.Logic.{◌⊎◌, inl, inr, ⊎_elim}
use mathlib.Core.Bool.{Bool, true, false, not, cond}
use Prim.Native.Nat.{ℕ, ◌+◌, ◌*◌, ◌%◌, ◌≤◌, ◌<◌}
use native.Mathlib.Nat.{zero-add, le_of_eq}
use native.Mathlib.Omega.{arith}
use borrow.Author.Tests.{le-ltb}
use lib.Dec.{T, ltb}
use lib.Ieee.{binary32, units, of_bits, nan_bits}
use lib.Ieee.Bits.{nan_bits_above}
use Rattle.rounding.proofs.Packing.{units_finite, units_infinite}
use Rattle.leaves.proofs.parts.join.Goals.{else-n-lt2139095040, else-s, then-n-lt2139095040, then-s}
use Rattle.leaves.proofs.parts.join.Lts as lts
use Rattle.leaves.proofs.parts.join.Reads as reads
use Rattle.leaves.proofs.parts.join.Tie as tie
use Rattle.leaves.proofs.parts.join.Goals as goal

abbrev Joined-n-lt2139095040 : Type 0
Joined-n-lt2139095040 = lts.Joined1 reads.Pre reads.Post tie.handed_clauses

abbrev Joined-s : Type 0
Joined-s = lts.Joined2 reads.Pre reads.Post tie.handed_clauses

-- ---- the pattern without its sign, m, and with it, b
abbrev Cut : ℕ → ℕ → Type 0
Cut m n = ((m ≡ n) × (n < 2139095040)) ⊎ ((m ≡ 2139095040) × (2139095040 ≤ n))

m_is : (c : Joined-n-lt2139095040) → Cut c.if-n-lt2139095040.m (c.args.k * 8388608 + c.args.q)
m_is c = elim c.if-n-lt2139095040.branch [ then-n-lt2139095040 w ↦ inl (w.m-is, w.if-n-lt2139095040.true) | else-n-lt2139095040 w ↦ inr (w.m-is, w.if-n-lt2139095040.false) ]

m_le : (m n : ℕ) → Cut m n → m ≤ 2139095040
m_le m n h = ⊎_elim (λ w. a m n w.0 w.1) (λ w. le_of_eq w.0) h
  where
    a : (m n : ℕ) → m ≡ n → n < 2139095040 → m ≤ 2139095040
    a m n e l = omega arith

signed : (s : Bool) (b m : ℕ) → s ≡ true → b ≡ 2147483648 + m → b ≡ cond s 2147483648 0 + m
signed s b m e h = h ∙ ap (λ (t : Bool). cond t 2147483648 0 + m) (sym e)

unsigned : (s : Bool) (b m : ℕ) → s ≡ false → b ≡ m → b ≡ cond s 2147483648 0 + m
unsigned s b m e h = h ∙ sym (zero-add m) ∙ ap (λ (t : Bool). cond t 2147483648 0 + m) (sym e)

b_is : (c : Joined-s) → c.if-s.b ≡ cond c.args.s 2147483648 0 + c.if-n-lt2139095040.m
b_is c =
    let s = c.args.s in
    let m = c.if-n-lt2139095040.m in
    elim c.if-s.branch [ then-s w ↦ signed s c.if-s.b m w.if-s.true w.b-is | else-s w ↦ unsigned s c.if-s.b m w.if-s.false w.b-is ]

b_mod : (s : Bool) (m : ℕ) → m ≤ 2139095040 → (cond s 2147483648 0 + m) % 2147483648 ≡ m
b_mod true m h = omega arith
b_mod false m h = omega arith

no_nan : (s : Bool) (b m : ℕ) → b ≡ cond s 2147483648 0 + m → m ≤ 2139095040 → T (not (nan_bits binary32 b))
no_nan s b m e h =
    subst (λ (t : Bool). T (not t))
    (sym (nan_bits_above binary32 b ∙ ap (λ (x : ℕ). ltb 2139095040 x) (ap (λ (x : ℕ). x % 2147483648) e ∙ b_mod s m h) ∙ le-ltb 2139095040 m h))
    tt

value : (s : Bool) (q k b m : ℕ) → q ≤ 16777216 → (k ≡ 0) ⊎ (8388608 ≤ q) → b ≡ cond s 2147483648 0 + m → Cut m (k * 8388608 + q)
    → of_bits binary32 b ≡ units binary32 s q k
value s q k b m hi lo e h =
    ap (λ (x : ℕ). of_bits binary32 x) e
    ∙ ⊎_elim
    (λ w. ap (λ (x : ℕ). of_bits binary32 (cond s 2147483648 0 + x)) w.0 ∙ sym (units_finite binary32 s q k hi lo w.1))
    (λ w. ap (λ (x : ℕ). of_bits binary32 (cond s 2147483648 0 + x)) w.0 ∙ sym (units_infinite binary32 s q k hi lo w.1))
    h

pub float_from_bits-result : goal.float_from_bits-result
float_from_bits-result c =
    let m = c.if-n-lt2139095040.m in
    no_nan c.args.s c.if-s.b m (b_is c.before) (m_le m (c.args.k * 8388608 + c.args.q) (m_is c.before.before))

pub returns : goal.returns
returns c =
    let a = c.args in
    value a.s a.q a.k c.if-s.b c.if-n-lt2139095040.m c.requires.q_bound c.requires.normal (b_is c.before) (m_is c.before.before)
