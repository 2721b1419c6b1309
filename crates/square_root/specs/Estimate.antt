-- Inner form: the estimate of a root, in float arithmetic: what it computes, and the test over whole numbers that tells whether it is the nearest value. Nothing is claimed of the estimate itself.
-- Definitions only.
use Rattle.std.specs.Prelude.{ℕ, ◌+◌, ◌-◌, ◌*◌, ◌/◌, ◌%◌, ◌^◌, Bool, false, cond, ◌&&◌, nat_le, nat_lt, to_bits, Float}
use Rattle.std.specs.Float.{binary64}
use Rattle.std.specs.Float.Ieee.{ne}
use Rattle.binary64.specs.Format.{trailing, bias}
use Rattle.binary64.specs.Binary64.{◌⊕◌, ◌⊖◌, ◌⊗◌, ◌⊘◌, bits, half}

-- nearly k / √x, for the x of the pattern b, where k is the cube root of 1/2: half the exponent with its sign turned, then one of Newton's steps, y (3/2 − x y² / 2) k, with constants that
-- spread the error to both sides
unfoldable pub inverse_root : ℕ → Float
inverse_root b =
    let h = bits b ⊗ bits 0x3fd9_65fe_a206_fb72 in
    let y = bits (0x5fe6_eb50_c7b5_37a9 - b / 2) in
    y ⊗ (bits 0x3ff3_0f5a_609e_a649 ⊖ h ⊗ y ⊗ y)

-- p, nearly the root of the value of b, to 26 digits, whose square is exact: the pattern b / 2 + … is of nearly 2^27 √x, where the last digit of a sum stands
unfoldable pub leading_digits : ℕ → Float → Float
leading_digits b p = let t = bits (b / 2 + 0x21a8_0000_0000_0000) in (p ⊕ t) ⊖ t

-- s + g / (2s + g / 2s), with g = x − s², is nearly √x; y / 2 stands for 1 / 2s
unfoldable pub corrected : Float → Float → Float → Float
corrected x y s = let g = x ⊖ s ⊗ s in s ⊕ g ⊘ (s ⊕ s ⊕ g ⊗ (half ⊗ y))

-- the second of Newton's steps, y (3k² − x y²) = y q, gives 2k³ / √x, that is 1 / √x; and x y q is nearly √x
unfoldable pub estimate : ℕ → Float
estimate b =
    let x = bits b in
    let y = inverse_root b in
    let t = x ⊗ y in
    let q = bits 0x3ffe_3cf5_43b9_6841 ⊖ t ⊗ y in
    corrected x (y ⊗ q) (leading_digits b (t ⊗ q))

-- the pattern of x without its sign, that of 1 for a NaN; and the estimate from it
unfoldable pub magnitude_or_one : Float → ℕ
magnitude_or_one x = cond (ne x x) 0x3ff0_0000_0000_0000 (to_bits binary64 x % 2 ^ 63)

unfoldable pub root_estimate : Float → Float
root_estimate x = estimate (magnitude_or_one x)

-- ---- the test
-- r is the whole number nearest to the root of n: n ≤ r(r + 1) and r(r − 1) < n
unfoldable pub is_near_root : ℕ → ℕ → Bool
is_near_root n r = nat_le n (r * (r + 1)) && nat_lt (r * (r + 1)) (n + 2 * r)

-- c is the pattern of the nearest value to the root of the value of b, a normal number: what c has beyond the exponent of the root, less one, is nearest to the root of b's digits, at an even
-- place
unfoldable pub is_root : ℕ → ℕ → Bool
is_root b c =
    let d = b / 2 ^ trailing + bias in
    let k = (d / 2 - 1) * 2 ^ trailing in
    nat_le k c && is_near_root ((2 ^ trailing + b % 2 ^ trailing) * 2 ^ (d % 2) * 2 ^ trailing) (c - k)

-- g is a number, and its pattern passes
unfoldable pub passes : ℕ → Float → Bool
passes b g = cond (ne g g) false (is_root b (to_bits binary64 g))
