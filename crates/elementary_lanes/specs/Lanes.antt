-- Inner form: what one lane of `asinhs` and of `atan2s` computes: asinh with the significand and the exponent read off a pattern, atan2 without its special cases, and NaN where they do not hold. Definitions only.
use Rattle.std.specs.Prelude.{cond, ◌&&◌, ℕ, ◌+◌, ◌/◌, ◌%◌, ◌^◌, Float}
use Rattle.std.proofs.Math.IntN.{sub_ℕ}
use Rattle.std.specs.Float.{nan, binary64}
use Rattle.std.specs.Float.Ieee.{to_bits, neg, lt, le}
use Rattle.binary64.specs.Binary64.{◌⊕◌, ◌⊖◌, ◌⊗◌, ◌⊘◌, bits, plus_zero, one, two, π}
use Rattle.elementary.specs.Elementary.{two_to28, C, twice_artanh, ln_reduced, atan, supplement}

-- 2^−1022, 2^31 and 2^1023
abbrev pub min_positive : Float
min_positive = bits 0x10_0000_0000_0000

abbrev pub two_to31 : Float
two_to31 = bits 0x41e0_0000_0000_0000

abbrev pub two_to1023 : Float
two_to1023 = bits 0x7fe0_0000_0000_0000

-- |x|, for an x that is neither zero nor NaN
unfoldable pub magnitude : Float → Float
magnitude x = cond (lt x plus_zero) (neg x) x

-- a × a + 1, and w from its root q; NaN outside 2^−1022 ≤ a ≤ 2^28
unfoldable pub radicand : Float → Float
radicand x = magnitude x ⊗ magnitude x ⊕ one

unfoldable pub excess : Float → Float → Float
excess x q = let a = magnitude x in cond (le min_positive a && le a two_to28) (a ⊕ a ⊗ a ⊘ (one ⊕ q)) nan

unfoldable pub from_one : Float → Float
from_one y = cond (le one y) y one

-- m of the pattern of a normal number; its e is the exponent field less 1023
unfoldable pub mantissa_of_bits : ℕ → Float
mantissa_of_bits b = bits (b % 2 ^ 52 + 0x3ff0_0000_0000_0000)

-- ln y by its pattern, for 1 ≤ y ≤ 2^31
unfoldable pub ln_fields : Float → Float
ln_fields y = let b = to_bits binary64 (from_one y) in ln_reduced (mantissa_of_bits b) (sub_ℕ (b / 2 ^ 52) 1023)

-- ln(1 + w), or NaN
unfoldable pub ln1p : Float → Float
ln1p w = let y = one ⊕ w in cond (le one y && le y two_to31) (cond (le w C) (twice_artanh (w ⊘ (two ⊕ w))) (ln_fields y)) nan

unfoldable pub lane : Float → Float → Float
lane x w = cond (lt x plus_zero) (neg (ln1p w)) (ln1p w)

-- ---- atan2, of sizes that are neither zero nor infinite
unfoldable pub first_quadrant : Float → Float → Float
first_quadrant a b = let r = atan (cond (lt b a) (b ⊘ a) (a ⊘ b)) in cond (lt b a) (π ⊘ two ⊖ r) r

-- atan2 y x, or NaN outside 2^−1022 ≤ |y|, |x| ≤ 2^1023
unfoldable pub angle : Float → Float → Float
angle y x =
    let a = magnitude y in
    let b = magnitude x in
    let r = supplement (lt x plus_zero) (first_quadrant a b) in
    cond (le min_positive a && le a two_to1023 && le min_positive b && le b two_to1023) (cond (lt y plus_zero) (neg r) r) nan
