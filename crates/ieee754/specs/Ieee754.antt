-- The Rust's `mul_add`, `sqrt`, `min`, `max`, `clamp`, `abs`, `is_finite` and sign bit of an f64, which the toolchain's library lacks; `min`, `max`, `clamp` and the bits of a NaN by document 01's words. Definitions only.
use Rattle.std.specs.Prelude.{ℕ, Bool, true, false, cond, is_nan, to_bits}
use Rattle.std.specs.Prelude.{Float}
use Rattle.std.specs.Float.{nan, inf, fin, binary64}
use Rattle.std.specs.Float.Ieee.{neg, lt}
-- IEEE 754 fusedMultiplyAdd: `fma a b c` is a * b + c, rounded once
unfoldable pub use Rattle.binary64.specs.Operations.{fma}
-- IEEE 754 square_root
unfoldable pub use Rattle.binary64.specs.Operations.{sqrt}

-- the other number if one is NaN, the first of two equal ones
unfoldable pub min : Float → Float → Float
min a b = cond (is_nan a) b (cond (lt b a) b a)

unfoldable pub max : Float → Float → Float
max a b = cond (is_nan a) b (cond (lt a b) b a)

-- keeps NaN, and replaces only what is strictly outside
unfoldable pub clamp : Float → Float → Float → Float
clamp x lo hi = cond (lt x lo) lo (cond (lt hi x) hi x)

-- whether the sign bit is set; a NaN, which is one number, counts as having none
unfoldable pub sign_bit : Float → Bool
sign_bit nan = false
sign_bit (inf s) = s
sign_bit (fin s m e) = s

-- neither NaN nor infinite
unfoldable pub is_finite : Float → Bool
is_finite nan = false
is_finite (inf s) = false
is_finite (fin s m e) = true

-- |x|
unfoldable pub abs : Float → Float
abs nan = nan
abs (inf s) = inf false
abs (fin s m e) = fin false m e

-- r, or −r where the sign is to be set
unfoldable pub signed : Bool → Float → Float
signed s r = cond s (neg r) r

-- a number's bits, any NaN as 7ff8000000000000
unfoldable pub canonical_bits : Float → ℕ
canonical_bits x = cond (is_nan x) 0x7ff8_0000_0000_0000 (to_bits binary64 x)
