-- The Rust's `mul_add` and `sqrt`: IEEE 754's fusedMultiplyAdd and square_root at binary64 (IEEE 754-2019, 5.4.1), which the toolchain's model lacks, each rounded once to nearest, ties to
-- even, over whole numbers. A finite value `fin s m e` is the fraction (m * up e) / down e, negative where s is true; `round` and `sum` are the model's. That each
-- is the nearest value: `proofs/Theorems`; at closed numbers: `proofs/Examples`. Definitions only.
use Rattle.std.specs.Prelude.{ℕ, zero, suc, ◌+◌, ◌*◌, ◌/◌, ◌^◌, Bool, false, cond, leb, eqb, ℤ, Float}
use Rattle.std.specs.Float.{nan, inf, fin, Format, binary64}
use Rattle.std.specs.Float.Ieee.{unlike, low, up, down, size, round, sum, add, mul}

-- ---- fusedMultiplyAdd: `fma x y z` is x × y + z as if with unbounded range and precision, rounded once
-- `sum binary64 s a u b c` is ±a / c ± b / c, rounded once, with the sign that 6.3 gives an exact zero: −0 where both are negative, else +0
-- the exact product of m × 2 ^ e and n × 2 ^ d, with the sign s, and z: both over the common denominator
unfoldable pub fma_fin : Bool → ℕ → ℤ → ℕ → ℤ → Float → Float
unfolding sum
fma_fin s m e n d nan = nan
fma_fin s m e n d (inf u) = inf u
fma_fin s m e n d (fin u p c) =
    sum binary64 s (m * up e * (n * up d) * down c) u (p * up c * (down e * down d)) (down e * down d * down c)

-- Where x or y is no finite number their product is exact, and so fma is the product and then the sum: a NaN stays one, an infinity times 0 is NaN, and
-- so is an infinite product less an infinity.
unfoldable pub fma : Float → Float → Float → Float
unfolding fma_fin add mul
fma nan y z = nan
fma (inf s) y z = add binary64 (mul binary64 (inf s) y) z
fma (fin s m e) nan z = nan
fma (fin s m e) (inf t) z = add binary64 (mul binary64 (fin s m e) (inf t)) z
fma (fin s m e) (fin t n d) z = fma_fin (unlike s t) m e n d z

-- ---- square_root
-- The whole part of the root of n, for n below 4 ^ d, digit by digit: the root of n / 4 gives all its binary digits but the last.
unfoldable pub root_in : ℕ → ℕ → ℕ
root_in zero n = 0
root_in (suc d) n = let r = 2 * root_in d (n / 4) in cond (leb ((r + 1) * (r + 1)) n) (r + 1) r

-- The whole part of the root of n.
unfoldable pub root : ℕ → ℕ
unfolding root_in size
root n = root_in (size n) n

-- The value of the format that is nearest to the root of a / c, for c above 0. In halves of the format's smallest value the root's whole part is q. Every
-- value of the format, and every midpoint of two neighbours, is a whole number of such halves. So `round` has to know of the rest only whether there is any: one more
-- binary digit says so.
unfoldable pub root_of : Format → ℕ → ℕ → Float
unfolding root round
root_of f a c =
    let n = a * 4 ^ suc (low f) in
    let q = root (n / c) in
    round f false (2 * q + cond (eqb (q * q * c) n) 0 1) (2 ^ (low f + 2))

-- The root of a NaN, and of a number below zero, is a NaN. A zero keeps its sign.
unfoldable pub square_root : Format → Float → Float
unfolding root_of
square_root f nan = nan
square_root f (inf s) = cond s nan (inf false)
square_root f (fin s zero e) = fin s zero e
square_root f (fin s (suc m) e) = cond s nan (root_of f (suc m * up e) (down e))

-- of binary64
unfoldable pub sqrt : Float → Float
sqrt x = square_root binary64 x
