-- Document 01, "Arithmetic under the physics": the stand-ins ln, asinh and atan2. The comments are its words. Definitions only.
use Rattle.std.specs.Prelude.{Bool, true, false, cond, ◌&&◌, ◌||◌, List, [], ◌∷◌, ℕ, zero, suc, ◌+◌, ◌-◌, ◌*◌, ◌^◌, ℤ, pos, ◌+ℤ◌, Float}
use Rattle.std.specs.Float.Ieee as Ieee
use Rattle.std.specs.Float.{nan, inf, fin, binary64}
use Rattle.std.specs.Float.Ieee.{size, round, of_int, lt, le, eq, is_nan}
use Rattle.binary64.specs.Binary64.{◌⊕◌, ◌⊖◌, ◌⊗◌, ◌⊘◌, bits, plus_zero, half, one, two, four, π}
use Rattle.ieee754.specs.Ieee754.{sqrt, sign_bit, abs, signed}

-- ---- constants: 2^28, 0.6931471805599453, 1.4142135623730951, C = 0.4142135623730951
abbrev pub two_to28 : Float
two_to28 = bits 0x41b0_0000_0000_0000

abbrev pub ln2 : Float
ln2 = bits 0x3fe6_2e42_fefa_39ef

abbrev pub sqrt2 : Float
sqrt2 = bits 0x3ff6_a09e_667f_3bcd

abbrev pub C : Float
C = bits 0x3fda_8279_99fc_ef33

-- ---- Horner sums: p becomes 1/k + z × p, or 1/k − z × p, for one k after the other
unfoldable pub horner : (Float → Float → Float) → Float → List Float → Float → Float
horner op z [] p = p
horner op z (c ∷ cs) p = horner op z cs (op c (z ⊗ p))

-- 1/k
unfoldable pub reciprocal : ℕ → Float
reciprocal k = one ⊘ of_int binary64 (pos k)

-- 1/k for the n odd numbers k below 2n, from the largest down to 1
unfoldable pub reciprocals : ℕ → List Float
reciprocals zero = []
reciprocals (suc n) = reciprocal (2 * n + 1) ∷ reciprocals n

-- P(z): p = 1/23; for k = 21, 19 down to 1, p = 1/k + z × p
unfoldable pub P : Float → Float
P z = horner (Ieee.add binary64) z (reciprocals 11) (reciprocal 23)

-- Q(z): p = 1/45; for k = 43, 41 down to 1, p = 1/k − z × p
unfoldable pub Q : Float → Float
Q z = horner (Ieee.sub binary64) z (reciprocals 22) (reciprocal 45)

-- (t + t) × P(t × t)
unfoldable pub twice_artanh : Float → Float
twice_artanh t = (t ⊕ t) ⊗ P (t ⊗ t)

-- ---- ln
-- x = m × 2^e with 1 ≤ m < 2. A finite x is n × 2^d for a whole n of k + 1 binary digits: m = n / 2^k, which no rounding changes, and e = d + k.
unfoldable pub mantissa : Float → Float
mantissa nan = nan
mantissa (inf s) = inf s
mantissa (fin s n d) = round binary64 s n (2 ^ (size n - 1))

unfoldable pub exponent : Float → ℤ
exponent nan = pos 0
exponent (inf s) = pos 0
exponent (fin s n d) = d +ℤ pos (size n - 1)

-- t = (m − 1)/(m + 1). Result e × 0.6931471805599453 + (t + t) × P(t × t).
unfoldable pub ln_at : Float → Float → Float
ln_at m e = e ⊗ ln2 ⊕ twice_artanh ((m ⊖ one) ⊘ (m ⊕ one))

-- if m > 1.4142135623730951, halve m and add 1 to e
unfoldable pub ln_reduced : Float → ℤ → Float
ln_reduced m e = cond (lt sqrt2 m) (ln_at (m ⊗ half) (of_int binary64 (e +ℤ pos 1))) (ln_at m (of_int binary64 e))

-- NaN below zero or at NaN; minus infinity at zero; infinity at infinity. Else x = m × 2^e
unfoldable pub ln : Float → Float
ln x =
    cond (is_nan x) nan
    (cond (lt x plus_zero) nan
    (cond (eq x plus_zero) (inf true)
    (cond (eq x (inf false)) (inf false)
    (ln_reduced (mantissa x) (exponent x)))))

-- ---- asinh
-- if w ≤ C: t = w/(2 + w), result (t + t) × P(t × t); else ln(1 + w)
unfoldable pub ln1p : Float → Float
ln1p w = cond (le w C) (twice_artanh (w ⊘ (two ⊕ w))) (ln (one ⊕ w))

-- If a > 2^28: ln a + 0.6931471805599453. Else w = a + (a × a)/(1 + sqrt(a × a + 1))
unfoldable pub asinh_of_magnitude : Float → Float
asinh_of_magnitude a = cond (lt two_to28 a) (ln a ⊕ ln2) (ln1p (a ⊕ a ⊗ a ⊘ (one ⊕ sqrt (a ⊗ a ⊕ one))))

-- zeros, NaN, infinities return themselves. a = |x|. Then the sign of x.
unfoldable pub asinh : Float → Float
asinh x =
    cond (eq x plus_zero) x
    (cond (is_nan x) x
    (cond (eq (abs x) (inf false)) x
    (signed (sign_bit x) (asinh_of_magnitude (abs x)))))

-- ---- atan2
-- q = smaller size / larger; 0 if both are zero, 1 if both infinite
unfoldable pub ratio : Float → Float → Float
ratio a b =
    cond (eq a plus_zero && eq b plus_zero) plus_zero
    (cond (eq a (inf false) && eq b (inf false)) one
    (cond (lt b a) (b ⊘ a) (a ⊘ b)))

-- r = b + u × Q(u × u)
unfoldable pub atan_at : Float → Float → Float
atan_at b u = b ⊕ u ⊗ Q (u ⊗ u)

-- If q > C: u = (q − 1)/(q + 1), b = π/4; else u = q, b = 0
unfoldable pub atan : Float → Float
atan q = cond (lt C q) (atan_at (π ⊘ four) ((q ⊖ one) ⊘ (q ⊕ one))) (atan_at plus_zero q)

-- If |y| > |x|: r = π/2 − r
unfoldable pub first_quadrant : Float → Float → Float
first_quadrant a b = let r = atan (ratio a b) in cond (lt b a) (π ⊘ two ⊖ r) r

-- If x has its sign bit set: r = π − r
unfoldable pub supplement : Bool → Float → Float
supplement s r = cond s (π ⊖ r) r

-- NaN if either is. Sign of y.
unfoldable pub atan2 : Float → Float → Float
atan2 y x = cond (is_nan y || is_nan x) nan (signed (sign_bit y) (supplement (sign_bit x) (first_quadrant (abs y) (abs x))))
