-- RULES, Numbers 2: what "nearest, ties to even" means. Values are compared as fractions of whole numbers, with signs. Assumes nothing.
use Rattle.std.specs.Prelude.{◌≡◌, Bool, cond, ℕ, suc, ◌-◌, ◌*◌, ◌%◌, ◌^◌, ◌≤◌, ℤ, pos, neg_ℤ, nat_abs, ◌-ℤ◌, ◌*ℤ◌, T, Float}
use Rattle.std.specs.Float.{nan, inf, fin, Format}
use Rattle.std.specs.Float.Ieee.{prec, emax, up, fits, to_bits}
use Rattle.std.specs.Float.Ieee.Scale.{finite}
use Rattle.std.specs.Float.Ieee.Positive.{den}

-- a, or -a where s is true
abbrev pub signed : Bool → ℕ → ℤ
signed s a = cond s (neg_ℤ (pos a)) (pos a)

-- a finite x is signed_num x / den x
abbrev pub signed_num : Float → ℤ
signed_num nan = pos 0
signed_num (inf s) = pos 0
signed_num (fin s m e) = signed s (m * up e)

-- how far a finite x lies from E / D, counted in 1 / (D * den x)
abbrev pub far_from : Float → ℤ → ℕ → ℕ
far_from x E D = nat_abs (signed_num x *ℤ pos D -ℤ E *ℤ pos (den x))

-- r is a finite value of the format f such that no other is nearer to E / D; and if another is as near, r's significand is even, and so its pattern
pub record NearestTo (f : Format) (E : ℤ) (D : ℕ) (r : Float) : Type 0 where
  pub held : T (fits f r)
  pub whole : T (finite r)
  pub closest : (x : Float) → T (fits f x) → T (finite x) → far_from r E D * den x ≤ far_from x E D * den r
  pub even : (x : Float) → T (fits f x) → T (finite x) → far_from r E D * den x ≡ far_from x E D * den r
      → (signed_num x *ℤ pos (den r) ≡ signed_num r *ℤ pos (den x) → ⊥) → to_bits f r % 2 ≡ 0

-- IEEE 754, "roundTiesToEven": from 2 ^ emax * (2 - 2 ^ -prec) up a value rounds to an infinity, 2 ^ 128 - 2 ^ 103 for binary32. That is the middle between
-- the largest finite value and the next power of two
unfoldable pub limit : Format → ℕ
limit f = 2 ^ suc (emax f) - 2 ^ (emax f - prec f)
