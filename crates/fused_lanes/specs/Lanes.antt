-- Inner form: what one lane computes: x * x + z by float operations, with a rounding test. Definitions only.
use Rattle.std.specs.Prelude.{Bool, cond, ◌&&◌, ℕ, ◌-◌, ◌%◌, ◌^◌, Float}
use Rattle.std.specs.Float.{nan, binary64}
use Rattle.std.specs.Float.Ieee.{to_bits, lt, le, eq}
use Rattle.binary64.specs.Binary64.{◌⊕◌, ◌⊖◌, ◌⊗◌, bits, plus_zero}

-- 2^−400, 2^−200, 2^−70, 2^200 and 2^400
abbrev pub two_to_minus400 : Float
two_to_minus400 = bits 0x26f0_0000_0000_0000

abbrev pub two_to_minus200 : Float
two_to_minus200 = bits 0x3370_0000_0000_0000

abbrev pub two_to_minus70 : Float
two_to_minus70 = bits 0x3b90_0000_0000_0000

abbrev pub two_to200 : Float
two_to200 = bits 0x4c70_0000_0000_0000

abbrev pub two_to400 : Float
two_to400 = bits 0x58f0_0000_0000_0000

-- x, or 0 for a NaN
unfoldable pub number : Float → Float
number x = cond (eq x x) x plus_zero

-- the pattern of |x|
unfoldable pub magnitude_or_zero : Float → ℕ
magnitude_or_zero x = to_bits binary64 (number x) % 2 ^ 63

-- the 26 leading digits
unfoldable pub leading : ℕ → Float
leading b = bits (b - b % 2 ^ 27)

-- nearly a × a − q
unfoldable pub square_residual : Float → Float → Float → Float
square_residual a h q = (a ⊖ h) ⊗ (a ⊕ h) ⊖ (q ⊖ h ⊗ h)

-- q + z − s, for the rounded sum s
unfoldable pub sum_residual : Float → Float → Float → Float
sum_residual q z s = cond (lt z q) z q ⊖ (s ⊖ cond (lt z q) q z)

abbrev pub within : Float → Float → Float → Bool
within low x high = le low x && le x high

-- s + v with a margin below and above: the sum where both are rounded to it, and else r
unfoldable pub settled : Bool → Float → Float → Float → Float
settled ok s v r =
    let u = s ⊗ two_to_minus70 in
    cond (le (s ⊕ (v ⊕ u)) (s ⊕ (v ⊖ u)) && ok) (s ⊕ (v ⊕ u)) r

unfoldable pub square_add : Float → Float → Float
square_add x z =
    let a = bits (magnitude_or_zero x) in
    let q = a ⊗ a in
    let s = q ⊕ z in
    let v = square_residual a (leading (magnitude_or_zero x)) q ⊕ sum_residual q z s in
    let plain = within two_to_minus200 a two_to200 in
    settled (plain && within two_to_minus400 z two_to400) s v (cond (plain && eq z plus_zero) q nan)
