-- ln, asinh and atan2 at closed numbers, each computed.
use mathlib.Core.Path.{◌≡◌, refl}
use lib.Ieee.{nan, binary64, of_bits, to_bits, add, sub, mul, div, neg, lt, le, eq, is_nan, of_int}
use Rattle.binary64.specs.Binary64.{bits}
use Rattle.binary64.specs.Operations.{square_root}
use Rattle.ieee754.specs.Ieee754.{sqrt, sign_bit, abs, signed}
use Rattle.elementary.specs.Elementary.{horner, reciprocal, reciprocals, P, Q, twice_artanh, mantissa, exponent, ln_at, ln_reduced, ln, ln1p, asinh_of_magnitude, asinh, ratio, atan_at, atan, first_quadrant, supplement, atan2}

-- ln 2 is 0.6931471805599453
pub ln_two : to_bits binary64 (ln (bits 0x4000_0000_0000_0000)) ≡ 0x3fe6_2e42_fefa_39ef
unfolding ln ln_reduced ln_at twice_artanh P horner reciprocals reciprocal mantissa exponent of_bits to_bits add sub mul div of_int lt eq is_nan
ln_two = refl

-- ln of the smallest number above zero
pub ln_smallest : to_bits binary64 (ln (bits 1)) ≡ 0xc087_4385_446d_71c3
unfolding ln ln_reduced ln_at twice_artanh P horner reciprocals reciprocal mantissa exponent of_bits to_bits add sub mul div of_int lt eq is_nan
ln_smallest = refl

-- ln 0 is −infinity, of either zero
pub ln_zero : to_bits binary64 (ln (bits 0)) ≡ 0xfff0_0000_0000_0000
unfolding ln of_bits to_bits lt eq is_nan
ln_zero = refl

pub ln_minus_zero : to_bits binary64 (ln (bits 0x8000_0000_0000_0000)) ≡ 0xfff0_0000_0000_0000
unfolding ln of_bits to_bits lt eq is_nan
ln_minus_zero = refl

pub ln_minus-one : ln (bits 0xbff0_0000_0000_0000) ≡ nan
unfolding ln of_bits lt is_nan
ln_minus-one = refl

-- asinh −1/4
pub asinh_quarter : to_bits binary64 (asinh (bits 0xbfd0_0000_0000_0000)) ≡ 0xbfcf_acfb_2399_e636
unfolding asinh asinh_of_magnitude ln1p sign_bit abs signed sqrt square_root twice_artanh P horner reciprocals reciprocal of_bits to_bits add sub mul div neg of_int lt le eq is_nan
asinh_quarter = refl

-- asinh −0 is −0
pub asinh-minus_zero : to_bits binary64 (asinh (bits 0x8000_0000_0000_0000)) ≡ 0x8000_0000_0000_0000
unfolding asinh of_bits to_bits eq
asinh-minus_zero = refl

-- asinh of the smallest number above zero is 0
pub asinh_smallest : to_bits binary64 (asinh (bits 1)) ≡ 0
unfolding asinh asinh_of_magnitude ln1p sign_bit abs signed sqrt square_root twice_artanh P horner reciprocals reciprocal of_bits to_bits add sub mul div neg of_int lt le eq is_nan
asinh_smallest = refl

-- the angle of (−4, 3)
pub atan2-three-four : to_bits binary64 (atan2 (bits 0x4008_0000_0000_0000) (bits 0xc010_0000_0000_0000)) ≡ 0x4003_fc17_6b7a_8560
unfolding atan2 supplement first_quadrant atan atan_at ratio sign_bit abs signed Q horner reciprocals reciprocal of_bits to_bits add sub mul div neg of_int lt le eq is_nan
atan2-three-four = refl

-- the angle of (−1, −0) is −π
pub atan2-minus_zero : to_bits binary64 (atan2 (bits 0x8000_0000_0000_0000) (bits 0xbff0_0000_0000_0000)) ≡ 0xc009_21fb_5444_2d18
unfolding atan2 supplement first_quadrant atan atan_at ratio sign_bit abs signed Q horner reciprocals reciprocal of_bits to_bits add sub mul div neg of_int lt le eq is_nan
atan2-minus_zero = refl

-- the angle of (0, 1) is π/2
pub atan2_up : to_bits binary64 (atan2 (bits 0x3ff0_0000_0000_0000) (bits 0)) ≡ 0x3ff9_21fb_5444_2d18
unfolding atan2 supplement first_quadrant atan atan_at ratio sign_bit abs signed Q horner reciprocals reciprocal of_bits to_bits add sub mul div neg of_int lt le eq is_nan
atan2_up = refl

-- the angle of (infinity, infinity) is π/4
pub atan2_infinities : to_bits binary64 (atan2 (bits 0x7ff0_0000_0000_0000) (bits 0x7ff0_0000_0000_0000)) ≡ 0x3fe9_21fb_5444_2d18
unfolding atan2 supplement first_quadrant atan atan_at ratio sign_bit abs signed Q horner reciprocals reciprocal of_bits to_bits add sub mul div neg of_int lt le eq is_nan
atan2_infinities = refl
