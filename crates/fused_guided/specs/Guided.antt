-- Inner form: what the guided form tests and computes: the fields of a pattern, the exact sum ±p ± z, its significand, and when the form answers.
-- Definitions only.
use Rattle.std.specs.Prelude.{◌≡◌, ℕ, Option, Some, None, suc, ◌+◌, ◌-◌, ◌*◌, ◌/◌, ◌%◌, ◌^◌, ◌<◌, ◌≤◌, Bool, true, false, not, ◌&&◌, cond, leb, nat_le, nat_lt, to_bits, Float}
use Rattle.std.specs.Float.{binary64}
use Rattle.std.specs.Float.Ieee.{sum, unlike}
use Rattle.std.specs.Float.Ieee.Exact.{HasValue}
use Rattle.binary64.specs.Format.{trailing, lowest, quantum_bias, top_field, infinity_bits}
use Rattle.binary64.specs.Nearest.{den}
use Rattle.binary64.specs.Pattern.{mag}
use Rattle.std.specs.Float.Ieee.Nearest.{closest}

-- ---- a pattern

-- the exponent's field
abbrev pub field : ℕ → ℕ
field b = b % 2 ^ 63 / 2 ^ trailing

-- the 53 digits, where the field is not 0
abbrev pub normal_significand : ℕ → ℕ
normal_significand b = 2 ^ trailing + b % 2 ^ trailing

-- a - b as a word
abbrev pub wrapped : ℕ → ℕ → ℕ
wrapped a b = (2 ^ 64 + a - b) % 2 ^ 64

-- ---- the exact sum

-- ±p ± z, minus where cp and cz; 0 where that is negative
abbrev pub signed_sum : Bool → ℕ → Bool → ℕ → ℕ
signed_sum false p false z = p + z
signed_sum false p true z = p - z
signed_sum true p false z = z - p
signed_sum true p true z = 0

-- two words that are this sum, or have their top bit set where it is 0
pub record SignedWords (cp : Bool) (p : ℕ) (cz : Bool) (z hi lo : ℕ) : Type 0 where
  pub value : hi < 2 ^ 63 → hi * 2 ^ 64 + lo ≡ signed_sum cp p cz z
  pub minus : 2 ^ 63 ≤ hi → signed_sum cp p cz z ≡ 0

-- the place of its leading digit, once it is shifted up: 53 digits, and 64 to be rounded off
abbrev pub leading_place : ℕ
leading_place = trailing + 64

-- shifted up by s it has its leading digit there
unfoldable pub leads : ℕ → ℕ → Bool
leads x s = nat_le (2 ^ leading_place) (x * 2 ^ s) && nat_lt (x * 2 ^ s) (2 ^ suc leading_place)

unfoldable pub rounded_significand : ℕ → ℕ → ℕ
rounded_significand x s = closest (x * 2 ^ s) (2 ^ 64)

-- rounded to a significand, where the leading digit is there
abbrev pub significand : ℕ → ℕ → Option ℕ
significand x s = cond (leads x s) (Some (rounded_significand x s)) None

-- ---- when the form answers

-- a field far from those of the smallest and the largest values
abbrev pub central_from : ℕ
central_from = 768

abbrev pub central_to : ℕ
central_to = 1280

abbrev pub central : ℕ → Bool
central e = nat_le central_from e && nat_lt e central_to

-- a value with the field ex + ey - quantum_bias has its last digit at the place of the last of a product of such fields; with these biases 64 places above it, and 55, where a product far below z
-- is cut
abbrev pub word_bias : ℕ
word_bias = quantum_bias - 64

abbrev pub cut_bias : ℕ
cut_bias = quantum_bias - 55

-- both factors' fields are central, z is k places above the product's last digit, and t's place s is from `least` on and below 63
abbrev pub in_reach : ℕ → ℕ → ℕ → ℕ → ℕ → Bool
in_reach least ex ey k s = (central ex && central ey) && (nat_lt k 64 && (nat_le least s && nat_lt s 63))

-- so, where t's leading digit is leading_place - s places above the product's last
abbrev pub usable : ℕ → ℕ → ℕ → ℕ → Bool
usable ex ey k s = in_reach 1 ex ey k s

-- both factors' fields are central, z is finite and its last digit 64 places or more above the product's
abbrev pub far_above : ℕ → ℕ → ℕ → Bool
far_above ex ey ez = (central ex && central ey) && (nat_lt ez top_field && nat_le (ex + ey) (ez + word_bias))

-- the patterns of x, y, z and t are usable, and t has the sign and the exponent of the exact sum before its rounding
unfoldable pub guided : ℕ → ℕ → ℕ → ℕ → Bool
guided bx by bz bt =
    let k = wrapped (field bz + quantum_bias) (field bx + field by) in
    let s = wrapped (field bx + field by) (field bt + word_bias) in
    let np = unlike (nat_le (2 ^ 63) bx) (nat_le (2 ^ 63) by) in
    let nt = leb (2 ^ 63) bt in
    usable (field bx) (field by) k s
    && leads (signed_sum (unlike np nt) (normal_significand bx * normal_significand by) (unlike (nat_le (2 ^ 63) bz) nt) (normal_significand bz * 2 ^ k)) s

-- ---- what they give

-- r is the bits of the product of two patterns' values and a third's, none an infinity, rounded once
pub record Found (bx by bz r : ℕ) : Type 0 where
  pub plain_x : bx % 2 ^ 63 < infinity_bits
  pub plain_y : by % 2 ^ 63 < infinity_bits
  pub plain_z : bz % 2 ^ 63 < infinity_bits
  pub bits :
      r
      ≡ to_bits binary64
      (sum binary64 (unlike (nat_le (2 ^ 63) bx) (nat_le (2 ^ 63) by)) (mag (bx % 2 ^ 63) * mag (by % 2 ^ 63)) (nat_le (2 ^ 63) bz)
      (mag (bz % 2 ^ 63) * 2 ^ lowest) den)

-- a bound on the field of the two values whose difference is a residual: both are finite
abbrev pub residual_top : ℕ
residual_top = 2000

-- r is (f - 2 ^ 51) * 2 ^ (e - 1) of the smallest values, or that with the other sign where s; a zero has no minus sign
pub record Residual (s : Bool) (r : Float) (f e : ℕ) : Type 0 where
  pub plus : 2 ^ 51 < f → HasValue r s ((f - 2 ^ 51) * 2 ^ (e - 1)) (2 ^ lowest)
  pub none : f ≡ 2 ^ 51 → HasValue r false 0 (2 ^ lowest)
  pub minus : f < 2 ^ 51 → HasValue r (not s) ((2 ^ 51 - f) * 2 ^ (e - 1)) (2 ^ lowest)
