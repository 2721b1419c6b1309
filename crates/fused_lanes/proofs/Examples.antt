-- The lane at closed numbers, each computed.
use mathlib.Core.Path.{◌≡◌, refl}
use lib.Ieee.{nan, of_bits, to_bits, add, sub, mul, lt, le, eq}
use Rattle.binary64.specs.Binary64.{bits, one}
use Rattle.fused_lanes.specs.Lanes.{number, magnitude_or_zero, leading, square_residual, sum_residual, settled, square_add}

-- (−0.1) × (−0.1) + 0.01, rounded once; rounded twice it ends in c
pub rounded_once : square_add (bits 0xbfb9_9999_9999_999a) (bits 0x3f84_7ae1_47ae_147b) ≡ bits 0x3f94_7ae1_47ae_147b
unfolding square_add settled square_residual sum_residual leading magnitude_or_zero number of_bits to_bits add sub mul lt le eq
rounded_once = refl

-- 0.1 × 0.1 + 0
pub alone : square_add (bits 0x3fb9_9999_9999_999a) (bits 0) ≡ bits 0x3f84_7ae1_47ae_147c
unfolding square_add settled square_residual sum_residual leading magnitude_or_zero number of_bits to_bits add sub mul lt le eq
alone = refl

-- 1 + 2 ^ -53 is halfway between two values
pub tie : square_add one (bits 0x3ca0_0000_0000_0000) ≡ nan
unfolding square_add settled square_residual sum_residual leading magnitude_or_zero number of_bits to_bits add sub mul lt le eq
tie = refl

pub of_nan : square_add nan one ≡ nan
unfolding square_add settled square_residual sum_residual leading magnitude_or_zero number of_bits to_bits add sub mul lt le eq
of_nan = refl
