-- `leaves::root::guess` meets its contract: bounds only. Assumes nothing.
use mathlib.Core.Path.{◌≡◌}
use Prim.Native.Nat.{ℕ, ◌+◌, ◌-◌, ◌*◌, ◌/◌, ◌<◌, ◌≤◌}
use native.Mathlib.Nat.{mul-le-mul}
use native.Mathlib.Omega.{arith}
use Rattle.leaves.proofs.root.guess.Goals as goal

v_le : (n : ℕ) → n < 281474976710656 → n / 65536 ≤ 4294967295
v_le n h = omega arith

g_le : (n y : ℕ) → n < 281474976710656 → y ≤ 65467 → n / 65536 * y / 32768 ≤ 8589934592
g_le n y h k = last (n / 65536 * y) (mul-le-mul (v_le n h) k)
  where
    last : (a : ℕ) → a ≤ 4294967295 * 65467 → a / 32768 ≤ 8589934592
    last a l = omega arith

h_le : (h : ℕ) → h ≤ 1073741824 → h * h ≤ 1152921504606846976
h_le h l = mul-le-mul l l

c_le : (h : ℕ) → h ≤ 1073741824 → h / 2 + 3 * (h * h) / 8589934592 ≤ 939524096
c_le h l = last (h * h) (h_le h l)
  where
    last : (a : ℕ) → a ≤ 1152921504606846976 → h / 2 + 3 * a / 8589934592 ≤ 939524096
    last a k = omega (arith, l)

gc_le : (g c : ℕ) → g ≤ 8589934592 → c ≤ 939524096 → g * c ≤ 8070450532247928832
gc_le g c h k = mul-le-mul h k

-- g and g * c at the last line
module _ (n y h : ℕ) (N : n < 281474976710656) (Y : y ≤ 65467) (H : h ≤ 1073741824) where
  both : n / 65536 * y / 32768 * (h / 2 + 3 * (h * h) / 8589934592) ≤ 8070450532247928832
  both = gc_le (n / 65536 * y / 32768) (h / 2 + 3 * (h * h) / 8589934592) (g_le n y N Y) (c_le h H)

room : (s a : ℕ) → s ≡ 4611686018427387904 - a → s / 4294967296 ≤ 1073741824
room s a h = omega (arith, h)

pub overflow_mul-result : goal.overflow_mul-result
overflow_mul-result c = omega (arith, both c.args.n c.args.y (c.saturating_sub-h.result / 4294967296) c.requires.n_bound c.requires.y_bound (room c.saturating_sub-h.result (c.args.y * c.args.y * (c.args.n / 65536)) c.saturating_sub-h.ensures))
