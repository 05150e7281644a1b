-- The rounding fact: `round` from a number of halves of the last digit that stays, and whether anything lies above them. Assumes nothing.
use mathlib.Core.Path.{◌≡◌, sym, ap, ap₂, ◌∙◌, subst}
use mathlib.Core.Logic.{◌⊎◌, inl, inr}
use Prim.Native.Nat.{ℕ, suc, ◌+◌, ◌-◌, ◌*◌, ◌/◌, ◌%◌, ◌^◌, ◌≤◌, ◌<◌, zero-le, ◌∣◌}
use native.Mathlib.Nat.{div-add-mod', mod-lt, mul_assoc, mul_comm, mul_right_comm, mul-pos, pow-suc, mul-div-mul_right, div-div-eq-div-mul, div-lt_iff_lt-mul}
use native.Mathlib.Nat.{ne_of_gt, le-div_iff_mul-le, lt_of_lt_of_le, lt_of_not-le, not-le_of_lt, le_antisymm, zero-lt-suc, zero-mul, eq-zero-or-pos}
use native.Mathlib.Nat.{lt_irrefl, mul-lt-mul_of_pos_right, add-mul, add-sub_of_le, le_trans, lt_of_le_of_lt, le-add_right, mod-mod_of_dvd, dvd-mul_right}
use native.Mathlib.Nat.{zero-mod}
use native.Mathlib.Omega.{arith}
use mathlib.Core.Bool.{Bool}
use lib.Arith.{digits_mod}
use lib.Pow.{pow-add, pow_pos, pow_mono, shr-shr}
use lib.Ieee.{Format, prec, low, size, units, round}
use lib.Ieee.Digits.{size-lt, size-le, size_reaches}
use lib.Ieee.Fits.{round_is, two, two-le_pos, kept-lt}
use lib.Ieee.Nearest.{closest}
use lib.Ieee.Order.{drop}
use Rattle.rounding.specs.Halves.{halve}
use Rattle.rounding.proofs.Basics.{half_lt, half_ge, top_digit, less_back}
use Rattle.rounding.proofs.Halves.{closest_halves, halve_sticky}

-- ---- how many digits are dropped
size_gt : (n j : ℕ) → 2 ^ j ≤ n → j < size n
size_gt n j h = lt_of_not-le (λ (g : size n ≤ j). not-le_of_lt (lt_of_lt_of_le (size-lt n) (pow_mono g)) h)

fewer : (z p k : ℕ) → z ≤ p + k → z - p ≤ k
fewer z p k h = omega arith

at_least : (z p k : ℕ) → 0 < p → p - 1 + k < z → k ≤ z - p
at_least z p k P h = omega arith

pub size_at : (p w k : ℕ) → 0 < p → w / 2 ^ k < 2 ^ p → (k ≡ 0) ⊎ (2 ^ (p - 1) ≤ w / 2 ^ k) → size w - p ≡ k
size_at p w k P hi lo =
    le_antisymm (fewer (size w) p k (size-le w (p + k) (subst (λ (x : ℕ). w < x) (sym (pow-add 2 p k)) ((div-lt_iff_lt-mul (pow_pos k)).0 hi))))
    (elim lo [
      | inl z ↦ subst (λ (x : ℕ). x ≤ size w - p) (sym z) zero-le
      | inr l ↦ at_least (size w) p k P (size_gt w (p - 1 + k) (subst (λ (x : ℕ). x ≤ w) (sym (pow-add 2 (p - 1) k)) ((le-div_iff_mul-le (pow_pos k)).0 l)))
    ])

pub drop_at : (p n den k : ℕ) → 0 < p → n / (den * 2 ^ k) < 2 ^ p → (k ≡ 0) ⊎ (2 ^ (p - 1) ≤ n / (den * 2 ^ k)) → drop p n den ≡ k
drop_at p n den k P hi lo =
    let e : n / den / 2 ^ k ≡ n / (den * 2 ^ k) = div-div-eq-div-mul n den (2 ^ k) in
    size_at p (n / den) k P (subst (λ (x : ℕ). x < 2 ^ p) (sym e) hi) (subst (λ (x : ℕ). (k ≡ 0) ⊎ (2 ^ (p - 1) ≤ x)) (sym e) lo)

-- ---- `round`, by halves of what it keeps
pub round_halves : (f : Format) (s : Bool) (num den k : ℕ) → 0 < den
    → num * 2 ^ low f * 2 / (den * 2 ^ k) < 2 ^ suc (prec f)
    → (k ≡ 0) ⊎ (2 ^ prec f ≤ num * 2 ^ low f * 2 / (den * 2 ^ k))
    → round f s num den ≡ units f s (halve (num * 2 ^ low f * 2 / (den * 2 ^ k)) (num * 2 ^ low f * 2 % (den * 2 ^ k))) k
round_halves f s num den k D hi lo =
    let p = prec f in
    let P : 0 < p = two-le_pos p (two f) in
    let n = num * 2 ^ low f in
    let u = den * 2 ^ k in
    let U : 0 < u = mul-pos D (pow_pos k) in
    let h = n * 2 / u in
    let e : h / 2 ≡ n / u = div-div-eq-div-mul (n * 2) u 2 ∙ mul-div-mul_right n u (zero-lt-suc 1) in
    let k_is : drop p n den ≡ k =
    drop_at p n den k P (subst (λ (x : ℕ). x < 2 ^ p) e (half_lt h (2 ^ p) (subst (λ (x : ℕ). h < x) (pow-suc 2 p) hi)))
    (elim lo [ inl z ↦ inl z | inr l ↦ inr (subst (λ (x : ℕ). 2 ^ (p - 1) ≤ x) e (half_ge h (2 ^ (p - 1)) (2 ^ p) (top_digit p P) l)) ]) in
    round_is f s num den
    ∙ ap (λ (x : ℕ). units f s (closest n (den * 2 ^ x)) x) k_is
    ∙ ap (λ (x : ℕ). units f s x k) (closest_halves n u U)

-- ---- the same of N / 2 ^ (low + 1 + y): the halves of the last digit that stays are N / 2 ^ (y + k)
scaled_mod : (a b c : ℕ) → 0 < b → 0 < c → a * c % (b * c) ≡ a % b * c
scaled_mod a b c B C =
    ap (λ (x : ℕ). x % (b * c)) (ap (λ (x : ℕ). x * c) (sym (div-add-mod' a b)) ∙ add-mul (a / b * b) (a % b) c
    ∙ ap (λ (x : ℕ). x + a % b * c) (mul_assoc (a / b) b c))
    ∙ digits_mod (a / b) (mul-lt-mul_of_pos_right (mod-lt a B) C)

zero_of_mul : (a c : ℕ) → 0 < c → a * c ≡ 0 → a ≡ 0
zero_of_mul a c C e = elim (eq-zero-or-pos a) [ inl z ↦ z | inr p ↦ absurd (lt_irrefl 0 (subst (λ (x : ℕ). 0 < x) e (mul-pos p C))) ]

module _ (f : Format) (s : Bool) (N y k : ℕ) where
  private_num : N * 2 ^ low f * 2 ≡ N * 2 ^ suc (low f)
  private_num = mul_assoc N (2 ^ low f) 2 ∙ ap (λ (x : ℕ). N * x) (sym (pow-suc 2 (low f)))

  private_den : 2 ^ (suc (low f) + y) * 2 ^ k ≡ 2 ^ (y + k) * 2 ^ suc (low f)
  private_den =
      ap (λ (x : ℕ). x * 2 ^ k) (pow-add 2 (suc (low f)) y) ∙ mul_assoc (2 ^ suc (low f)) (2 ^ y) (2 ^ k) ∙ mul_comm (2 ^ suc (low f)) (2 ^ y * 2 ^ k)
      ∙ ap (λ (x : ℕ). x * 2 ^ suc (low f)) (sym (pow-add 2 y k))

  halves_is : N * 2 ^ low f * 2 / (2 ^ (suc (low f) + y) * 2 ^ k) ≡ N / 2 ^ (y + k)
  halves_is = ap₂ (λ (a b : ℕ). a / b) private_num private_den ∙ mul-div-mul_right N (2 ^ (y + k)) (pow_pos (suc (low f)))

  rest_is : N * 2 ^ low f * 2 % (2 ^ (suc (low f) + y) * 2 ^ k) ≡ N % 2 ^ (y + k) * 2 ^ suc (low f)
  rest_is = ap₂ (λ (a b : ℕ). a % b) private_num private_den ∙ scaled_mod N (2 ^ (y + k)) (2 ^ suc (low f)) (pow_pos (y + k)) (pow_pos (suc (low f)))

  pub round_pow : N / 2 ^ (y + k) < 2 ^ suc (prec f) → (k ≡ 0) ⊎ (2 ^ prec f ≤ N / 2 ^ (y + k))
      → round f s N (2 ^ (suc (low f) + y)) ≡ units f s (halve (N / 2 ^ (y + k)) (N % 2 ^ (y + k))) k
  round_pow hi lo =
      round_halves f s N (2 ^ (suc (low f) + y)) k (pow_pos (suc (low f) + y))
      (subst (λ (x : ℕ). x < 2 ^ suc (prec f)) (sym halves_is) hi)
      (subst (λ (x : ℕ). (k ≡ 0) ⊎ (2 ^ prec f ≤ x)) (sym halves_is) lo)
      ∙ ap (λ (x : ℕ). units f s x k)
      (ap₂ (λ (a b : ℕ). halve a b) halves_is rest_is
      ∙ halve_sticky (N / 2 ^ (y + k)) (N % 2 ^ (y + k) * 2 ^ suc (low f)) (N % 2 ^ (y + k))
      (zero_of_mul (N % 2 ^ (y + k)) (2 ^ suc (low f)) (pow_pos (suc (low f))))
      (λ e. ap (λ (x : ℕ). x * 2 ^ suc (low f)) e ∙ zero-mul (2 ^ suc (low f))))

-- ---- numbers N and M strictly between the same two multiples of 2 ^ t round alike, if half of the last digit that stays is a multiple of 2 ^ t.
-- First k, the number of digits of N that are dropped: there is one as `round_pow` requires
pub level : (p N y : ℕ) → (k : ℕ) × (N / 2 ^ (y + k) < 2 ^ suc p) × ((k ≡ 0) ⊎ (2 ^ p ≤ N / 2 ^ (y + k)))
level p N y =
    let w = N / 2 ^ y in
    let k = size w - suc p in
    let e : w / 2 ^ k ≡ N / 2 ^ (y + k) = shr-shr N y k in (
      k,
      subst (λ (x : ℕ). x < 2 ^ suc p) e (kept-lt (suc p) w),
      elim (eq-zero-or-pos k) [
        | inl z ↦ inl z
        | inr g ↦
            inr (subst (λ (x : ℕ). 2 ^ p ≤ x) e
            ((le-div_iff_mul-le (pow_pos k)).1 (subst (λ (x : ℕ). x ≤ w) (pow-add 2 p k) (size_reaches w (p + k) (below (size w) p g)))))
      ],
    )
  where
    below : (z p : ℕ) → 0 < z - suc p → p + (z - suc p) < z
    below z p h = omega arith

pub coarser : (N a b : ℕ) → 0 < N % 2 ^ a → 0 < N % 2 ^ (a + b)
coarser N a b h = elim (eq-zero-or-pos (N % 2 ^ (a + b))) [
  | inl z ↦
      absurd (lt_irrefl 0
      (subst (λ (x : ℕ). 0 < x)
      (sym (mod-mod_of_dvd (2 ^ a) N (subst (λ (x : ℕ). 2 ^ a ∣ x) (sym (pow-add 2 a b)) (dvd-mul_right (2 ^ a) (2 ^ b)))) ∙ ap (λ (x : ℕ). x % 2 ^ a) z
      ∙ zero-mod (2 ^ a)) h))
  | inr p ↦ p
]

reach : (t p y k : ℕ) → t + p < suc p + (y + k) → t ≤ y + k
reach t p y k h = omega arith

pub sticky : (f : Format) (s : Bool) (N M y t : ℕ) → (t ≤ y) ⊎ (2 ^ (t + prec f) ≤ M) → N / 2 ^ t ≡ M / 2 ^ t → 0 < N % 2 ^ t → 0 < M % 2 ^ t
    → round f s N (2 ^ (suc (low f) + y)) ≡ round f s M (2 ^ (suc (low f) + y))
sticky f s N M y t c e n m =
    let p = prec f in
    let lv = level p M y in
    let k = lv.0 in
    let t-le : t ≤ y + k = elim c [
      | inl l ↦ le_trans l (le-add_right y k)
      | inr g ↦
          reach t p y k (less_back (t + p) (suc p + (y + k))
          (lt_of_le_of_lt g (subst (λ (x : ℕ). M < x) (sym (pow-add 2 (suc p) (y + k))) ((div-lt_iff_lt-mul (pow_pos (y + k))).0 lv.1))))
    ] in
    let d = y + k - t in
    let j : t + d ≡ y + k = add-sub_of_le t-le in
    let same : N / 2 ^ (y + k) ≡ M / 2 ^ (y + k) = ap (λ (x : ℕ). N / 2 ^ x) (sym j) ∙ sym (shr-shr N t d) ∙ ap (λ (x : ℕ). x / 2 ^ d) e ∙ shr-shr M t d
    ∙ ap (λ (x : ℕ). M / 2 ^ x) j in
    let n' : 0 < N % 2 ^ (y + k) = subst (λ (x : ℕ). 0 < N % 2 ^ x) j (coarser N t d n) in
    let m' : 0 < M % 2 ^ (y + k) = subst (λ (x : ℕ). 0 < M % 2 ^ x) j (coarser M t d m) in
    round_pow f s N y k (subst (λ (x : ℕ). x < 2 ^ suc p) (sym same) lv.1) (subst (λ (x : ℕ). (k ≡ 0) ⊎ (2 ^ p ≤ x)) (sym same) lv.2)
    ∙ ap (λ (x : ℕ). units f s x k)
    (ap (λ (x : ℕ). halve x (N % 2 ^ (y + k))) same
    ∙ halve_sticky (M / 2 ^ (y + k)) (N % 2 ^ (y + k)) (M % 2 ^ (y + k)) (λ z. absurd (ne_of_gt n' z))
    (λ z. absurd (ne_of_gt m' z)))
    ∙ sym (round_pow f s M y k lv.1 lv.2)

-- ---- m * 2 ^ z, where m is first shifted left by l and then cut by d digits: in code, l brings m to a fixed number of digits
module _ (f : Format) (s : Bool) (m z l y k d : ℕ) (e : y + k + l ≡ d + z) where
  shifted : m * 2 ^ z * 2 ^ l ≡ m * 2 ^ l * 2 ^ z
  shifted = mul_right_comm m (2 ^ z) (2 ^ l)

  cut_by : 2 ^ (y + k) * 2 ^ l ≡ 2 ^ d * 2 ^ z
  cut_by = sym (pow-add 2 (y + k) l) ∙ ap (λ (x : ℕ). 2 ^ x) e ∙ pow-add 2 d z

  same_div : m * 2 ^ z / 2 ^ (y + k) ≡ m * 2 ^ l / 2 ^ d
  same_div =
      sym (mul-div-mul_right (m * 2 ^ z) (2 ^ (y + k)) (pow_pos l)) ∙ ap₂ (λ (a b : ℕ). a / b) shifted cut_by
      ∙ mul-div-mul_right (m * 2 ^ l) (2 ^ d) (pow_pos z)

  same_mod : m * 2 ^ z % 2 ^ (y + k) * 2 ^ l ≡ m * 2 ^ l % 2 ^ d * 2 ^ z
  same_mod =
      sym (scaled_mod (m * 2 ^ z) (2 ^ (y + k)) (2 ^ l) (pow_pos (y + k)) (pow_pos l)) ∙ ap₂ (λ (a b : ℕ). a % b) shifted cut_by
      ∙ scaled_mod (m * 2 ^ l) (2 ^ d) (2 ^ z) (pow_pos d) (pow_pos z)

  pub round_at : m * 2 ^ l / 2 ^ d < 2 ^ suc (prec f) → (k ≡ 0) ⊎ (2 ^ prec f ≤ m * 2 ^ l / 2 ^ d)
      → round f s (m * 2 ^ z) (2 ^ (suc (low f) + y)) ≡ units f s (halve (m * 2 ^ l / 2 ^ d) (m * 2 ^ l % 2 ^ d)) k
  round_at hi lo =
      round_pow f s (m * 2 ^ z) y k (subst (λ (x : ℕ). x < 2 ^ suc (prec f)) (sym same_div) hi)
      (subst (λ (x : ℕ). (k ≡ 0) ⊎ (2 ^ prec f ≤ x)) (sym same_div) lo)
      ∙ ap (λ (x : ℕ). units f s x k)
      (ap (λ (x : ℕ). halve x (m * 2 ^ z % 2 ^ (y + k))) same_div
      ∙ halve_sticky (m * 2 ^ l / 2 ^ d) (m * 2 ^ z % 2 ^ (y + k)) (m * 2 ^ l % 2 ^ d)
      (λ x. zero_of_mul (m * 2 ^ l % 2 ^ d) (2 ^ z) (pow_pos z) (sym same_mod ∙ ap (λ (a : ℕ). a * 2 ^ l) x ∙ zero-mul (2 ^ l)))
      (λ x. zero_of_mul (m * 2 ^ z % 2 ^ (y + k)) (2 ^ l) (pow_pos l) (same_mod ∙ ap (λ (a : ℕ). a * 2 ^ z) x ∙ zero-mul (2 ^ z))))
