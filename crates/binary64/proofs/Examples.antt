-- fma and sqrt at closed numbers, each computed.
use mathlib.Core.Path.{◌≡◌, refl}
use Prim.Native.Nat.{ℕ}
use lib.Ieee.{nan, binary64, of_bits, to_bits}
use Rattle.binary64.specs.Binary64.{bits}
use Rattle.binary64.specs.Operations.{fma, square_root, sqrt}

-- ---- fma: exact zeros

-- (−0) × 1 + 0 = 0
minus-and-plus : fma (bits 0x8000_0000_0000_0000) (bits 0x3ff0_0000_0000_0000) (bits 0) ≡ bits 0
unfolding fma of_bits
minus-and-plus = refl

-- (−0) × 1 + (−0) = −0
both_minus : fma (bits 0x8000_0000_0000_0000) (bits 0x3ff0_0000_0000_0000) (bits 0x8000_0000_0000_0000) ≡ bits 0x8000_0000_0000_0000
unfolding fma of_bits
both_minus = refl

-- 1 × 0 + (−0) = 0
plus-and-minus : fma (bits 0x3ff0_0000_0000_0000) (bits 0) (bits 0x8000_0000_0000_0000) ≡ bits 0
unfolding fma of_bits
plus-and-minus = refl

-- 2 × 3 − 6 = 0, and (−2) × 3 + 6 = 0
cancelled : fma (bits 0x4000_0000_0000_0000) (bits 0x4008_0000_0000_0000) (bits 0xc018_0000_0000_0000) ≡ bits 0
unfolding fma of_bits
cancelled = refl

cancelled_minus : fma (bits 0xc000_0000_0000_0000) (bits 0x4008_0000_0000_0000) (bits 0x4018_0000_0000_0000) ≡ bits 0
unfolding fma of_bits
cancelled_minus = refl

-- ---- fma: infinities

-- an infinity times 0 is NaN, whatever is added
infinity_times_zero : fma (bits 0x7ff0_0000_0000_0000) (bits 0) (bits 0x3ff0_0000_0000_0000) ≡ bits 0x7ff8_0000_0000_0000
unfolding fma of_bits
infinity_times_zero = refl

-- an infinite product less an infinity is NaN
infinity_less_infinity : fma (bits 0x7ff0_0000_0000_0000) (bits 0x3ff0_0000_0000_0000) (bits 0xfff0_0000_0000_0000) ≡ bits 0x7ff8_0000_0000_0000
unfolding fma of_bits
infinity_less_infinity = refl

-- 2 ^ 1000 × 2 ^ 1000 is finite before the rounding: less an infinity it is that infinity
finite_less_infinity : fma (bits 0x7e70_0000_0000_0000) (bits 0x7e70_0000_0000_0000) (bits 0xfff0_0000_0000_0000) ≡ bits 0xfff0_0000_0000_0000
unfolding fma of_bits
finite_less_infinity = refl

-- ---- fma: one rounding

-- (1 + 2 ^ -52) × (1 + 2 ^ -52) − (1 + 2 ^ -51) = 2 ^ -104
square-rest : fma (bits 0x3ff0_0000_0000_0001) (bits 0x3ff0_0000_0000_0001) (bits 0xbff0_0000_0000_0002) ≡ bits 0x3970_0000_0000_0000
unfolding fma of_bits
square-rest = refl

-- (1 + 2 ^ -30) × (1 − 2 ^ -30) − 1 = −2 ^ -60
bench_sheet : fma (bits 0x3ff0_0000_0040_0000) (bits 0x3fef_ffff_ff80_0000) (bits 0xbff0_0000_0000_0000) ≡ bits 0xbc30_0000_0000_0000
unfolding fma of_bits
bench_sheet = refl

-- ---- sqrt

-- the bit pattern of the root of a bit pattern
unfoldable root_bits : ℕ → ℕ
unfolding sqrt square_root of_bits to_bits
root_bits b = to_bits binary64 (sqrt (of_bits binary64 b))

root_of_minus_zero : root_bits 0x8000_0000_0000_0000 ≡ 0x8000_0000_0000_0000
unfolding root_bits
root_of_minus_zero = refl

root_of_two : root_bits 0x4000_0000_0000_0000 ≡ 0x3ff6_a09e_667f_3bcd
unfolding root_bits
root_of_two = refl

-- the smallest number above zero, 2 ^ -1074
root_of_smallest : root_bits 1 ≡ 0x1e60_0000_0000_0000
unfolding root_bits
root_of_smallest = refl

-- three times that
root_of_three_smallest : root_bits 3 ≡ 0x1e6b_b67a_e858_4caa
unfolding root_bits
root_of_three_smallest = refl

-- the largest finite number
root_of_largest : root_bits 0x7fef_ffff_ffff_ffff ≡ 0x5fef_ffff_ffff_ffff
unfolding root_bits
root_of_largest = refl

root_of_infinity : root_bits 0x7ff0_0000_0000_0000 ≡ 0x7ff0_0000_0000_0000
unfolding root_bits
root_of_infinity = refl

root_of_minus-one : sqrt (of_bits binary64 0xbff0_0000_0000_0000) ≡ nan
unfolding sqrt square_root of_bits
root_of_minus-one = refl
