-- RULES, Quads 4 to 6: the numbers of a quad's curve, as `push_quad` works them out, from its three points after the division by their weights.
-- Assumes nothing.
use Rattle.std.specs.Prelude.{Bool, not, ◌||◌, cond, Float}
use Rattle.std.specs.Float.Ieee.{le, neg}
use Rattle.std.specs.Float.Ieee.Scale.{finite}
use Rattle.leaves.specs.Single.{◌⊖◌, ◌⊗◌, ◌⊘◌, f32, zero32, half32, one32, two32, recip}
use Rattle.leaves.specs.Fma.{fma32}
use Rattle.leaves.specs.Sqrt.{sqrt32}
use Rattle.leaves.specs.Small.{abs_of}
use Rattle.point.specs.declared.Point.{Point}
use Rattle.point.specs.Point.{minus_of, len_of}
use Rattle.point.specs.Curve.{curvature_of}
use Rattle.primitives.specs.declared.Curve.{Curve}

-- 16: PIXEL_ACCURACY_RECIP
abbrev pub accuracy_recip : Float
accuracy_recip = f32 0x4180_0000

-- "cross = fma(p2x-p0x, hy, (-(p2y-p0y))·hx)"
unfoldable pub cross_of : Point → Point → Point → Float
cross_of p0 p2 h = fma32 (p2.x ⊖ p0.x) h.y (neg (p2.y ⊖ p0.y) ⊗ h.x)

-- x0 of the first leg, and x2 of the second
unfoldable pub leg_of : Point → Point → Float → Float
leg_of leg h cross = fma32 leg.x h.x (leg.y ⊗ h.y) ⊗ recip cross

-- "0.5 * dk.abs() * (scale * PIXEL_ACCURACY_RECIP).sqrt()"
unfoldable pub own_curvature_of : Float → Float → Float
own_curvature_of dk scale = half32 ⊗ abs_of dk ⊗ sqrt32 (scale ⊗ accuracy_recip)

-- "A curvature not finite or at most 1.0 becomes 2.0, with x0 = 0.03662467, dx_recip 1, k0 0, dk 1."
unfoldable pub straight_of : Float → Bool
straight_of curvature = not (finite curvature) || le curvature one32

abbrev pub straight_curve : Curve
straight_curve = record { x0 = f32 0x3d16_03c0; dx_recip = one32; k0 = zero32; dk = one32; curvature = two32 }

unfoldable pub curve_of : Point → Point → Point → Curve
curve_of p0 p1 p2 =
    let a = minus_of p1 p0 in
    let b = minus_of p2 p1 in
    let h = minus_of a b in
    let cross = cross_of p0 p2 h in
    let x0 = leg_of a h cross in
    let x2 = leg_of b h cross in
    let scale = abs_of (cross ⊘ (len_of h ⊗ (x2 ⊖ x0))) in
    let k0 = curvature_of x0 in
    let dk = curvature_of x2 ⊖ k0 in
    let curvature = own_curvature_of dk scale in
    cond (straight_of curvature) straight_curve
    (record { x0 = x0; dx_recip = recip (x2 ⊖ x0); k0 = k0; dk = dk; curvature = curvature })
