-- Beside `specs/Operations`: what the theorems on rounding say: a whole number, and on `fma` and `sqrt` (`proofs/Theorems`): rounded once, the nearest value, the
-- nearest to a root. Definitions only.
use Rattle.std.specs.Prelude.{◌≡◌, Bool, false, cond, ◌&&◌, ℕ, suc, ◌+◌, ◌-◌, ◌*◌, ◌%◌, ◌^◌, ◌≤◌, ◌<◌, Float}
use Rattle.std.specs.Float.{binary64}
use Rattle.std.specs.Float.Ieee.{round}
use Rattle.std.specs.Float.Ieee.Exact.{HasValue}
use Rattle.binary64.specs.Format.{precision, trailing, lowest}

-- v and w differ by u / 2 at most
abbrev pub Near : ℕ → ℕ → ℕ → Type 0
Near v w u = (v * 2 ≤ w * 2 + u) × (w * 2 ≤ v * 2 + u)

-- how far v is from w
abbrev pub gap : ℕ → ℕ → ℕ
gap v w = v - w + (w - v)

-- n is the whole number nearest to num / den: it differs from it by a half at most, and where it differs by a half it is even
pub record NearestWhole (num den n : ℕ) : Type 0 where
  pub near : Near (n * den) num den
  pub even : gap (n * den) num * 2 ≡ den → n % 2 ≡ 0

-- ---- a sum

-- 2 ^ 2148: the smallest value is 2 ^ -1074, and a product of two values a multiple of 2 ^ -2148
abbrev pub den : ℕ
den = 2 ^ (lowest + lowest)

-- r is the exact sum of ±a and ±b, over c, rounded once
pub record RoundedOnce (r : Float) (s : Bool) (a : ℕ) (t : Bool) (b c : ℕ) : Type 0 where
  -- the exact sum's sign and its size
  pub negative : Bool
  pub size : ℕ
  -- what is above zero on the two sides of ±size = ±a + ±b, the negative terms carried over
  pub exact : cond negative 0 size + (cond s a 0 + cond t b 0) ≡ cond negative size 0 + (cond s 0 a + cond t 0 b)
  -- an exact zero is −0 where both terms are negative, and +0 otherwise
  pub zero_sign : size ≡ 0 → negative ≡ (s && t)
  pub rounded : r ≡ round binary64 negative size c

-- r is the value of binary64 nearest to the number of this sign and size over 2 ^ 2148
pub record NearestValue (r : Float) (negative : Bool) (size : ℕ) : Type 0 where
  -- r in units of the smallest value, its significand and the power of two that its last digit stands for
  pub units : ℕ
  pub significand : ℕ
  pub exponent : ℕ
  pub last : units ≡ significand * 2 ^ exponent
  pub value : HasValue r negative units (2 ^ lowest)
  -- it differs from the number by half a unit of its last digit at most
  pub near : Near (units * den) (size * 2 ^ lowest) (den * 2 ^ exponent)
  -- at exactly half a unit its last digit is even
  pub even : gap (units * den) (size * 2 ^ lowest) * 2 ≡ den * 2 ^ exponent → significand % 2 ≡ 0
  -- no value m * 2 ^ j, of 53 digits or fewer, is nearer
  pub best : (m j : ℕ) → m < 2 ^ precision → gap (units * den) (size * 2 ^ lowest) ≤ gap (m * 2 ^ j * den) (size * 2 ^ lowest)

-- ---- a root

-- r is the whole number nearest to the root of n: (r - 1/2)^2 < n < (r + 1/2)^2
pub record NearRoot (n r : ℕ) : Type 0 where
  pub above : (2 * r - 1) * (2 * r - 1) < 4 * n
  pub below : 4 * n < (2 * r + 1) * (2 * r + 1)

-- m is from 2^52 up to 2^54 - 2
pub record Scaled (m : ℕ) : Type 0 where
  pub low : 2 ^ trailing ≤ m
  pub high : m + 2 ≤ 2 ^ suc precision

-- r has 53 digits
pub record Digits (r : ℕ) : Type 0 where
  pub low : 2 ^ trailing ≤ r
  pub high : r < 2 ^ precision

-- The binary64 values x and y are both above zero. In units of 2 ^ -1074 x is v, so that the exact root's square is v * 2 ^ 1074. y is r * 2 ^ k with an r of 53 digits. The root is no less
-- than 2 ^ 52 * 2 ^ k, from where on the values up to 2 ^ 53 * 2 ^ k stand 2 ^ k apart, and it lies strictly between the midpoints (r - 1/2) * 2 ^ k and (r + 1/2) * 2 ^ k.
pub record NearestRoot (x y : Float) : Type 0 where
  pub v : ℕ
  pub r : ℕ
  pub k : ℕ
  pub value : HasValue x false v (2 ^ lowest)
  pub rounded : HasValue y false (r * 2 ^ k) (2 ^ lowest)
  pub digits : Digits r
  pub reached : 2 ^ (precision + k) * 2 ^ (precision + k) ≤ 4 * (v * 2 ^ lowest)
  pub above : ((2 * r - 1) * 2 ^ k) * ((2 * r - 1) * 2 ^ k) < 4 * (v * 2 ^ lowest)
  pub below : 4 * (v * 2 ^ lowest) < ((2 * r + 1) * 2 ^ k) * ((2 * r + 1) * 2 ^ k)
