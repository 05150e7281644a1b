-- `sum` sees only the values of its fractions, in either order, and a number `Alike` the exact one serves where the rounding is coarse enough.
-- Assumes nothing.
use mathlib.Core.Path.{◌≡◌, refl, sym, ap, ap₂, ◌∙◌, subst}
use mathlib.Core.Logic.{◌⊎◌, inl, inr}
use Prim.Native.Nat.{ℕ, suc, ◌+◌, ◌-◌, ◌*◌, ◌/◌, ◌%◌, ◌^◌, ◌≤◌, ◌<◌, zero-le}
use native.Mathlib.Nat.{mul_comm, mul_assoc, mul-sub, add-mul, add_comm, mul-lt-mul_of_pos_right, lt_of_mul-lt-mul_right, lt_irrefl, le_of_lt, le_trans}
use native.Mathlib.Nat.{sub-pos_iff_lt, add-sub_of_le, le_of_eq, suc-mul, mul-le-mul_right, sub-add_cancel, lt_of_lt_of_le, lt_of_le_of_lt, le_of_suc-le-suc}
use native.Mathlib.Nat.{lt_of_not-le, pow-suc, mul_left_comm}
use native.Mathlib.Omega.{arith}
use mathlib.Core.Bool.{Bool, true, false, not, ◌&&◌, beq, cond}
use lib.Dec.{T, ltb, ltb→lt, lt→ltb, nltb→le}
use lib.Arith.{digits_div, digits_mod}
use lib.Pow.{pow-add, pow_pos}
use lib.Ieee.{Float, Format, prec, low, round, sum}
use lib.Ieee.Scale.{round_same}
use Rattle.facts.proofs.Numbers.{halves}
use Rattle.facts.proofs.Tests.{same}
use Rattle.rounding.specs.Alike.{Between, Alike}
use Rattle.rounding.proofs.Basics.{le_or_lt}
use Rattle.rounding.proofs.Rounding.{sticky, coarser}

-- ---- other fractions of the same values
scaled_lt : (a b c a' b' c' : ℕ) → 0 < c' → a * c' ≡ a' * c → b * c' ≡ b' * c → a < b → a' < b'
scaled_lt a b c a' b' c' C e d h = lt_of_mul-lt-mul_right c (subst (λ (x : ℕ). x < b' * c) e (subst (λ (x : ℕ). a * c' < x) d (mul-lt-mul_of_pos_right h C)))

scaled_sub : (a b c a' b' c' : ℕ) → a * c' ≡ a' * c → b * c' ≡ b' * c → (b - a) * c' ≡ (b' - a') * c
scaled_sub a b c a' b' c' e d =
    mul_comm (b - a) c' ∙ mul-sub c' b a ∙ ap₂ (λ (x y : ℕ). x - y) (mul_comm c' b ∙ d ∙ mul_comm b' c) (mul_comm c' a ∙ e ∙ mul_comm a' c)
    ∙ sym (mul-sub c b' a') ∙ mul_comm c (b' - a')

pub sum_same : (f : Format) (s : Bool) (a : ℕ) (t : Bool) (b c a' b' c' : ℕ) → 0 < c → 0 < c' → a * c' ≡ a' * c → b * c' ≡ b' * c
    → sum f s a t b c ≡ sum f s a' t b' c'
unfolding sum
sum_same f s a t b c a' b' c' C C' e d =
    let l : ltb a b ≡ ltb a' b' = same (ltb a b) (ltb a' b') (λ h. lt→ltb a' b' (scaled_lt a b c a' b' c' C' e d (ltb→lt a b h)))
    (λ h. lt→ltb a b (scaled_lt a' b' c' a b c C (sym e) (sym d) (ltb→lt a' b' h))) in
    let g : ltb b a ≡ ltb b' a' = same (ltb b a) (ltb b' a') (λ h. lt→ltb b' a' (scaled_lt b a c b' a' c' C' d e (ltb→lt b a h)))
    (λ h. lt→ltb b a (scaled_lt b' a' c' b a c C (sym d) (sym e) (ltb→lt b' a' h))) in
    ap₂ (λ (x y : Float). cond (beq s t) x y)
    (round_same f s (a + b) c (a' + b') c' C C' (add-mul a b c' ∙ ap₂ (λ (x y : ℕ). x + y) e d ∙ sym (add-mul a' b' c)))
    (ap (λ (x : Bool). cond x (round f t (b - a) c) (round f (s && ltb b a) (a - b) c)) l
    ∙ ap₂ (λ (x y : Float). cond (ltb a' b') x y) (round_same f t (b - a) c (b' - a') c' C C' (scaled_sub a b c a' b' c' e d))
    (ap (λ (x : Bool). round f (s && x) (a - b) c) g ∙ round_same f (s && ltb b' a') (a - b) c (a' - b') c' C C' (scaled_sub b a c b' a' c' d e)))

-- ---- N and M that are alike at 2 ^ t
between_split : (u j N : ℕ) → Between u j N → (r : ℕ) × (N ≡ j * u + r) × (0 < r) × (r < u)
between_split u j N h = (N - j * u, joined (j * u) N h.0, sub-pos_iff_lt.1 h.0, less (j * u) N u h.0 h.1)
  where
    joined : (a N : ℕ) → a < N → N ≡ a + (N - a)
    joined a N h = omega arith

    less : (a N u : ℕ) → a < N → N < a + u → N - a < u
    less a N u h k = omega arith

between_div : (u j N : ℕ) → Between u j N → N / u ≡ j
between_div u j N h = let z = between_split u j N h in ap (λ (x : ℕ). x / u) z.1 ∙ digits_div j z.3

pub between_mod : (u j N : ℕ) → Between u j N → 0 < N % u
between_mod u j N h = let z = between_split u j N h in subst (λ (x : ℕ). 0 < x) (sym (ap (λ (x : ℕ). x % u) z.1 ∙ digits_mod j z.3)) z.2

pub alike_round : (f : Format) (s : Bool) (N M y t : ℕ) → Alike t N M → (0 < M → (t ≤ y) ⊎ (2 ^ (t + prec f) ≤ M))
    → round f s N (2 ^ (suc (low f) + y)) ≡ round f s M (2 ^ (suc (low f) + y))
alike_round f s N M y t a c = elim a [
  | inl e ↦ ap (λ (x : ℕ). round f s x (2 ^ (suc (low f) + y))) e
  | inr h ↦
      sticky f s N M y t (c (lt_of_le_of_lt zero-le h.2.0)) (between_div (2 ^ t) h.0 N h.1 ∙ sym (between_div (2 ^ t) h.0 M h.2))
      (between_mod (2 ^ t) h.0 N h.1) (between_mod (2 ^ t) h.0 M h.2)
]

pub alike_scale : (t a N M : ℕ) → Alike t N M → Alike (t + a) (N * 2 ^ a) (M * 2 ^ a)
alike_scale t a N M h = elim h [
  | inl e ↦ inl (ap (λ (x : ℕ). x * 2 ^ a) e)
  | inr z ↦ inr (z.0, up z.0 N z.1, up z.0 M z.2)
]
  where
    up : (j N : ℕ) → Between (2 ^ t) j N → Between (2 ^ (t + a)) j (N * 2 ^ a)
    up j N b =
        let e : j * 2 ^ t * 2 ^ a ≡ j * 2 ^ (t + a) = mul_assoc j (2 ^ t) (2 ^ a) ∙ ap (λ (x : ℕ). j * x) (sym (pow-add 2 t a)) in (
          subst (λ (x : ℕ). x < N * 2 ^ a) e (mul-lt-mul_of_pos_right b.0 (pow_pos a)),
          subst (λ (x : ℕ). N * 2 ^ a < x) (add-mul (j * 2 ^ t) (2 ^ t) (2 ^ a) ∙ ap₂ (λ (x y : ℕ). x + y) e (sym (pow-add 2 t a)))
              (mul-lt-mul_of_pos_right b.1 (pow_pos a)),
        )

-- ---- a multiple of 2 ^ t, e * 2 ^ t, added or taken away
shift_between : (u j e N : ℕ) → Between u j N → Between u (j + e) (N + e * u)
shift_between u j e N h = (lo (j * u) (e * u) N ((j + e) * u) (add-mul j e u) h.0, hi (j * u) (e * u) N ((j + e) * u) u (add-mul j e u) h.1)
  where
    lo : (a b N c : ℕ) → c ≡ a + b → a < N → c < N + b
    lo a b N c e h = omega arith

    hi : (a b N c u : ℕ) → c ≡ a + b → N < a + u → N + b < c + u
    hi a b N c u e h = omega arith

pub alike_add : (t e N M : ℕ) → Alike t N M → Alike t (N + e * 2 ^ t) (M + e * 2 ^ t)
alike_add t e N M h = elim h [
  | inl p ↦ inl (ap (λ (x : ℕ). x + e * 2 ^ t) p)
  | inr z ↦ inr (z.0 + e, shift_between (2 ^ t) z.0 e N z.1, shift_between (2 ^ t) z.0 e M z.2)
]

-- j * u + u ≤ e * u for j < e
steps : (u j e : ℕ) → j < e → j * u + u ≤ e * u
steps u j e h = le_trans (le_of_eq (sym (suc-mul j u))) (mul-le-mul_right u h)

less_between : (u j e N : ℕ) → e ≤ j → Between u j N → Between u (j - e) (N - e * u)
less_between u j e N l h =
    let d : (j - e) * u + e * u ≡ j * u = sym (add-mul (j - e) e u) ∙ ap (λ (x : ℕ). x * u) (sub-add_cancel l) in
    (lo (j * u) (e * u) N ((j - e) * u) d h.0, hi (j * u) (e * u) N ((j - e) * u) u d h.0 h.1)
  where
    lo : (a b N c : ℕ) → c + b ≡ a → a < N → c < N - b
    lo a b N c e h = omega arith

    hi : (a b N c u : ℕ) → c + b ≡ a → a < N → N < a + u → N - b < c + u
    hi a b N c u e k h = omega arith

from_between : (u j e N : ℕ) → j < e → Between u j N → Between u (e - suc j) (e * u - N)
from_between u j e N l h =
    let d : (e - suc j) * u + suc j * u ≡ e * u = sym (add-mul (e - suc j) (suc j) u) ∙ ap (λ (x : ℕ). x * u) (sub-add_cancel l) in (
      lo (j * u) (e * u) N ((e - suc j) * u) u (suc j * u) d (suc-mul j u) h.1,
      hi (j * u) (e * u) N ((e - suc j) * u) u (suc j * u) d (suc-mul j u) h.0
          h.1,
    )
  where
    lo : (a b N c u d : ℕ) → c + d ≡ b → d ≡ a + u → N < a + u → c < b - N
    lo a b N c u d e g h = omega arith

    hi : (a b N c u d : ℕ) → c + d ≡ b → d ≡ a + u → a < N → N < a + u → b - N < c + u
    hi a b N c u d e g k h = omega arith

gone : (a N b : ℕ) → N < a → a ≤ b → N - b ≡ 0
gone a N b h k = omega arith

gone' : (a N b : ℕ) → a < N → b ≤ a → b - N ≡ 0
gone' a N b h k = omega arith

pub alike_less : (t e N M : ℕ) → Alike t N M → Alike t (N - e * 2 ^ t) (M - e * 2 ^ t)
alike_less t e N M h = elim h [
  | inl p ↦ inl (ap (λ (x : ℕ). x - e * 2 ^ t) p)
  | inr z ↦
      let u = 2 ^ t in
      let j = z.0 in
      elim (le_or_lt e j) [
        | inl l ↦ inr (j - e, less_between u j e N l z.1, less_between u j e M l z.2)
        | inr l ↦ inl (gone (j * u + u) N (e * u) z.1.1 (steps u j e l) ∙ sym (gone (j * u + u) M (e * u) z.2.1 (steps u j e l)))
      ]
]

pub alike_from : (t e N M : ℕ) → Alike t N M → Alike t (e * 2 ^ t - N) (e * 2 ^ t - M)
alike_from t e N M h = elim h [
  | inl p ↦ inl (ap (λ (x : ℕ). e * 2 ^ t - x) p)
  | inr z ↦
      let u = 2 ^ t in
      let j = z.0 in
      elim (le_or_lt e j) [
        | inl l ↦ inl (gone' (j * u) N (e * u) z.1.0 (mul-le-mul_right u l) ∙ sym (gone' (j * u) M (e * u) z.2.0 (mul-le-mul_right u l)))
        | inr l ↦ inr (e - suc j, from_between u j e N l z.1, from_between u j e M l z.2)
      ]
]

-- the two compare alike with e * 2 ^ t
under : (t e N M : ℕ) → Alike t N M → N < e * 2 ^ t → M < e * 2 ^ t
under t e N M h l = elim h [
  | inl p ↦ subst (λ (x : ℕ). x < e * 2 ^ t) p l
  | inr z ↦
      lt_of_lt_of_le z.2.1
      (steps (2 ^ t) z.0 e (lt_of_mul-lt-mul_right (2 ^ t) (lt_of_lt_of_le z.1.0 (le_of_lt l))))
]

beyond : (t e N M : ℕ) → Alike t N M → e * 2 ^ t < N → e * 2 ^ t < M
beyond t e N M h l = elim h [
  | inl p ↦ subst (λ (x : ℕ). e * 2 ^ t < x) p l
  | inr z ↦
      lt_of_le_of_lt
      (mul-le-mul_right (2 ^ t) (le_of_suc-le-suc
      (lt_of_mul-lt-mul_right (2 ^ t) (lt_of_lt_of_le l (le_trans (le_of_lt z.1.1) (le_of_eq (sym (suc-mul z.0 (2 ^ t)))))))))
      z.2.0
]

flip : (t N M : ℕ) → Alike t N M → Alike t M N
flip t N M h = elim h [ inl p ↦ inl (sym p) | inr z ↦ inr (z.0, z.2, z.1) ]

pub sum_alike : (f : Format) (s : Bool) (N M : ℕ) (r : Bool) (e y t : ℕ) → Alike t N M
    → (t ≤ y) ⊎ ((e * 2 ^ t + 2 ^ (t + prec f) ≤ M) ⊎ (M + 2 ^ (t + prec f) ≤ e * 2 ^ t))
    → sum f s N r (e * 2 ^ t) (2 ^ (suc (low f) + y)) ≡ sum f s M r (e * 2 ^ t) (2 ^ (suc (low f) + y))
unfolding sum
sum_alike f s N M r e y t h c =
    let B = e * 2 ^ t in
    let D = 2 ^ (suc (low f) + y) in
    let G = 2 ^ (t + prec f) in
    let l : ltb N B ≡ ltb M B = same (ltb N B) (ltb M B) (λ k. lt→ltb M B (under t e N M h (ltb→lt N B k)))
    (λ k. lt→ltb N B (under t e M N (flip t N M h) (ltb→lt M B k))) in
    let g : ltb B N ≡ ltb B M = same (ltb B N) (ltb B M) (λ k. lt→ltb B M (beyond t e N M h (ltb→lt B N k)))
    (λ k. lt→ltb B N (beyond t e M N (flip t N M h) (ltb→lt B M k))) in
    ap₂ (λ (x z : Float). cond (beq s r) x z) (alike_round f s (N + B) (M + B) y t (alike_add t e N M h) (λ _. plus M B G c))
    (ap (λ (x : Bool). cond x (round f r (B - N) D) (round f (s && ltb B N) (N - B) D)) l
    ∙ ap₂ (λ (x z : Float). cond (ltb M B) x z) (alike_round f r (B - N) (B - M) y t (alike_from t e N M h) (λ k. from M B G k c))
    (ap (λ (x : Bool). round f (s && x) (N - B) D) g ∙ alike_round f (s && ltb B M) (N - B) (M - B) y t (alike_less t e N M h) (λ k. less M B G k c)))
  where
    plus : (M B G : ℕ) → (t ≤ y) ⊎ ((B + G ≤ M) ⊎ (M + G ≤ B)) → (t ≤ y) ⊎ (G ≤ M + B)
    plus M B G c = elim c [ inl a ↦ inl a | inr d ↦ inr (elim d [ inl a ↦ p1 M B G a | inr a ↦ p2 M B G a ]) ]
      where
        p1 : (M B G : ℕ) → B + G ≤ M → G ≤ M + B
        p1 M B G a = omega arith

        p2 : (M B G : ℕ) → M + G ≤ B → G ≤ M + B
        p2 M B G a = omega arith

    less : (M B G : ℕ) → 0 < M - B → (t ≤ y) ⊎ ((B + G ≤ M) ⊎ (M + G ≤ B)) → (t ≤ y) ⊎ (G ≤ M - B)
    less M B G k c = elim c [ inl a ↦ inl a | inr d ↦ inr (elim d [ inl a ↦ p1 M B G a | inr a ↦ p2 M B G k a ]) ]
      where
        p1 : (M B G : ℕ) → B + G ≤ M → G ≤ M - B
        p1 M B G a = omega arith

        p2 : (M B G : ℕ) → 0 < M - B → M + G ≤ B → G ≤ M - B
        p2 M B G k a = omega arith

    from : (M B G : ℕ) → 0 < B - M → (t ≤ y) ⊎ ((B + G ≤ M) ⊎ (M + G ≤ B)) → (t ≤ y) ⊎ (G ≤ B - M)
    from M B G k c = elim c [ inl a ↦ inl a | inr d ↦ inr (elim d [ inl a ↦ p1 M B G k a | inr a ↦ p2 M B G a ]) ]
      where
        p1 : (M B G : ℕ) → 0 < B - M → B + G ≤ M → G ≤ B - M
        p1 M B G k a = omega arith

        p2 : (M B G : ℕ) → M + G ≤ B → G ≤ B - M
        p2 M B G a = omega arith

-- ---- the order of the two does not matter
pub sum_comm : (f : Format) (s : Bool) (a : ℕ) (t : Bool) (b c : ℕ) → sum f s a t b c ≡ sum f t b s a c
unfolding sum
sum_comm f s a t b c = go s t (ltb a b) (ltb b a) (ltb→lt a b) (nltb→le a b) (ltb→lt b a) (nltb→le b a)
  where
    clash : a < b → b < a → ⊥
    clash h k = omega arith

    level : b ≤ a → a ≤ b → a ≡ b
    level h k = omega arith

    go : (s t l g : Bool) → (T l → a < b) → (T (not l) → b ≤ a) → (T g → b < a) → (T (not g) → a ≤ b)
        → cond (beq s t) (round f s (a + b) c) (cond l (round f t (b - a) c) (round f (s && g) (a - b) c)) ≡ cond (beq t s) (round f t (b + a) c)
        (cond g (round f s (a - b) c) (round f (t && l) (b - a) c))
    go true true l g A B C D = ap (λ (x : ℕ). round f true x c) (add_comm a b)
    go false false l g A B C D = ap (λ (x : ℕ). round f false x c) (add_comm a b)
    go true false true true A B C D = absurd (clash (A tt) (C tt))
    go true false true false A B C D = refl
    go true false false true A B C D = refl
    go true false false false A B C D = ap (λ (x : ℕ). round f false x c) (ap₂ (λ (x y : ℕ). x - y) (level (B tt) (D tt)) (sym (level (B tt) (D tt))))
    go false true true true A B C D = absurd (clash (A tt) (C tt))
    go false true true false A B C D = refl
    go false true false true A B C D = refl
    go false true false false A B C D = ap (λ (x : ℕ). round f false x c) (ap₂ (λ (x y : ℕ). x - y) (level (B tt) (D tt)) (sym (level (B tt) (D tt))))

-- ---- a multiple of 2 ^ a can lie strictly between two neighbouring multiples of 2 ^ t only if t is larger than a
pub deep : (p a t j : ℕ) → p % 2 ^ a ≡ 0 → Between (2 ^ t) j p → a < t
deep p a t j e h =
    lt_of_not-le (λ (g : t ≤ a). lt_irrefl 0
    (subst (λ (x : ℕ). 0 < x) e (subst (λ (x : ℕ). 0 < p % 2 ^ x) (add-sub_of_le g) (coarser p t (a - t) (between_mod (2 ^ t) j p h)))))

-- ---- a sum of two parts: N, which is x * 2 ^ z except for what was lost below 2 ^ z, and B * 2 ^ z for an even B
even_half : (B w W : ℕ) → B % 2 ≡ 0 → W ≡ 2 * w → B / 2 * W ≡ B * w
even_half B w W e h = ap (λ (x : ℕ). B / 2 * x) h ∙ mul_left_comm (B / 2) 2 w ∙ sym (mul_assoc 2 (B / 2) w) ∙ ap (λ (x : ℕ). x * w) (halves B e)

pub sum_jam : (f : Format) (s : Bool) (N x : ℕ) (r : Bool) (B z y : ℕ) → Alike (suc z) N (x * 2 ^ z) → B % 2 ≡ 0
    → (suc z ≤ y) ⊎ ((B + 2 ^ suc (prec f) ≤ x) ⊎ (x + 2 ^ suc (prec f) ≤ B))
    → sum f s N r (B * 2 ^ z) (2 ^ (suc (low f) + y)) ≡ sum f s (x * 2 ^ z) r (B * 2 ^ z) (2 ^ (suc (low f) + y))
sum_jam f s N x r B z y h e c =
    let D = 2 ^ (suc (low f) + y) in
    let w = 2 ^ z in
    let b : B / 2 * 2 ^ suc z ≡ B * w = even_half B w (2 ^ suc z) e (pow-suc 2 z ∙ mul_comm w 2) in
    let G : 2 ^ suc (prec f) * w ≡ 2 ^ (suc z + prec f) = sym (pow-add 2 (suc (prec f)) z) ∙ ap (λ (k : ℕ). 2 ^ k) (swap z (prec f)) in
    ap (λ (k : ℕ). sum f s N r k D) (sym b)
    ∙ sum_alike f s N (x * w) r (B / 2) y (suc z) h
    (elim c [
      | inl l ↦ inl l
      | inr d ↦ inr (elim d [
        | inl l ↦ inl (le_trans (le_of_eq (ap₂ (λ (u v : ℕ). u + v) b (sym G) ∙ sym (add-mul B (2 ^ suc (prec f)) w))) (mul-le-mul_right w l))
        | inr l ↦
            inr (le_trans (le_of_eq (ap (λ (v : ℕ). x * w + v) (sym G) ∙ sym (add-mul x (2 ^ suc (prec f)) w)))
            (le_trans (mul-le-mul_right w l) (le_of_eq (sym b))))
      ])
    ])
    ∙ ap (λ (k : ℕ). sum f s (x * w) r k D) b
  where
    swap : (z p : ℕ) → suc p + z ≡ suc z + p
    swap z p = omega arith
