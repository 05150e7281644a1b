-- RULES, Numbers 3: fused multiply-add, IEEE 754's fusedMultiplyAdd: x * y + z, worked out exactly and rounded once. Where x or y is a NaN or an infinity the
-- product is exact as it is, so there it is the product and then the sum; a finite product is exact however large. Assumes nothing.
use Rattle.std.specs.Prelude.{◌*◌, Float}
use Rattle.std.specs.Float.{nan, inf, fin, Format, binary32}
use Rattle.std.specs.Float.Ieee.{up, down, unlike, sum, add, mul}

unfoldable pub fma_of : Format → Float → Float → Float → Float
fma_of f nan y z = nan
fma_of f (inf s) y z = add f (mul f (inf s) y) z
fma_of f (fin s m e) nan z = nan
fma_of f (fin s m e) (inf t) z = add f (mul f (fin s m e) (inf t)) z
fma_of f (fin s m e) (fin t n d) nan = nan
fma_of f (fin s m e) (fin t n d) (inf u) = inf u
fma_of f (fin s m e) (fin t n d) (fin u o g) =
    sum f (unlike s t) (m * up e * (n * up d) * down g) u (o * up g * (down e * down d)) (down e * down d * down g)

abbrev pub fma32 : Float → Float → Float → Float
fma32 x y z = fma_of binary32 x y z
