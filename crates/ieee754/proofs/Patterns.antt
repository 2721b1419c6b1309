-- The bits that a text or a file has for a number are the toolchain's, which has the same pattern for the NaN; a finite number is no NaN.
use Rattle.std.specs.Prelude.{◌≡◌, true, false}
use mathlib.Core.Path.{refl}
use mathlib.Core.Bool.{false≢true}
use lib.Ieee.{Float, nan, inf, fin, binary64, is_nan, to_bits}
use Rattle.ieee754.specs.Ieee754.{canonical_bits, is_finite}

pub canonical_is : (x : Float) → canonical_bits x ≡ to_bits binary64 x
unfolding canonical_bits is_nan to_bits
canonical_is nan = refl
canonical_is (inf s) = refl
canonical_is (fin s m e) = refl

pub finite_number : (x : Float) → is_finite x ≡ true → is_nan x ≡ false
unfolding is_finite is_nan
finite_number nan e = absurd (false≢true e)
finite_number (inf s) e = refl
finite_number (fin s m k) e = refl
