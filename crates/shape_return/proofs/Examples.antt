-- Which numbers differ, computed: zeros of either sign do, NaN and NaN do not.
use mathlib.Core.Path.{◌≡◌, refl}
use mathlib.Core.Bool.{true, false}
use lib.Ieee.{nan, to_bits, is_nan, of_bits}
use Rattle.binary64.specs.Binary64.{bits, plus_zero}
use Rattle.ieee754.specs.Ieee754.{canonical_bits}
use Rattle.shape_return.specs.Return.{same_number}

pub zeros_differ : same_number plus_zero (bits 0x8000_0000_0000_0000) ≡ false
unfolding canonical_bits is_nan to_bits of_bits
zeros_differ = refl

pub nan_same : same_number nan nan ≡ true
unfolding canonical_bits is_nan
nan_same = refl
