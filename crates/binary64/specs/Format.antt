-- Shared by the definitions: the parameters of binary64 in IEEE 754's words (IEEE 754-2019, 3.3 to 3.6), each declared here once; in code they are the constants of `src/lib.rt`.
-- Definitions only.
use Rattle.std.specs.Prelude.{ℕ, suc, ◌+◌, ◌-◌, ◌*◌, ◌^◌}

-- the precision: the digits of a significand
abbrev pub precision : ℕ
precision = 53

-- the width of the trailing significand's field: all digits but the leading one
abbrev pub trailing : ℕ
trailing = precision - 1

-- the exponent's bias, which is the largest exponent
abbrev pub bias : ℕ
bias = 1023

-- the smallest value above zero is 2 ^ -1074
abbrev pub lowest : ℕ
lowest = bias + trailing - 1

-- the digits of the largest finite value, in units of the smallest
abbrev pub magnitude_digits : ℕ
magnitude_digits = lowest + suc bias

-- a normal value's quantum, the unit of its last digit, is 2 ^ (e - 1075), where e is its exponent's field
abbrev pub quantum_bias : ℕ
quantum_bias = bias + trailing

-- the exponent's field of finite values ends here, and that of the infinities and NaNs is one more
abbrev pub largest_field : ℕ
largest_field = 2 * bias

abbrev pub top_field : ℕ
top_field = suc largest_field

-- the pattern of the infinity, without its sign
abbrev pub infinity_bits : ℕ
infinity_bits = top_field * 2 ^ trailing
