-- What the words of `high_pronic`, of a difference and of a shift hold: q * (q + 1) in base 2 ^ 52, a borrow, and m shifted up by one place at most.
use Rattle.std.proofs.Common.{◌≡◌, ℕ, Bool, true, false, ◌+◌, ◌*◌, ◌/◌, ◌%◌, ◌^◌, ◌<◌, ◌≤◌, ap, ◌∙◌, lt_of_le_of_lt, mod-eq_of_lt, mul-le-mul, arith}
use mir.Val.{bool_byte}
use Rattle.std.specs.Bool.{FalseIff}
use Rattle.binary64.proofs.Root.Pattern.{scaled}

pub pronic_lt : (q : ℕ) → q ≤ 2 ^ 53 → q * (q + 1) < 2 ^ 107
pronic_lt q h = lt_of_le_of_lt (mul-le-mul h (next q h)) (lib.Dec.lit< tt)
  where
    next : (q : ℕ) → q ≤ 2 ^ 53 → q + 1 ≤ 2 ^ 53 + 1
    next q h = omega arith

-- the upper digit of two words of a number, in base 2 ^ 52
pub high_is : (p : ℕ) → p / 2 ^ 64 * 4096 + p % 2 ^ 64 / 2 ^ 52 ≡ p / 2 ^ 52
high_is p = omega arith

-- ---- a difference of words, as `overflowing_sub` gives it, with the 1 that it takes from the next word
pub borrowed : (t : Bool) (a b w o : ℕ) → a < 2 ^ 64 → b < 2 ^ 64 → w < 2 ^ 64 → (w + b) % 2 ^ 64 ≡ a → FalseIff t (b ≤ a) → o ≡ bool_byte t → w + b ≡ a + o * 2 ^ 64
borrowed true a b w o A B W e f O = omega arith
borrowed false a b w o A B W e f O = omega arith

pub one_at_most : (t : Bool) (o : ℕ) → o ≡ bool_byte t → o ≤ 1
one_at_most true o O = omega arith
one_at_most false o O = omega arith

-- ---- m

pub shl_once : (m e : ℕ) → 2 ^ 52 ≤ m → m < 2 ^ 53 → e < 2 → m * 2 ^ e % 2 ^ 64 ≡ m * 2 ^ e
shl_once m e a b h =
    let s = scaled m e a b h in
    let g : m * 2 ^ e < 2 ^ 64 = omega (arith, s.high) in
    mod-eq_of_lt g

pub shl_twice : (m e : ℕ) → 2 ^ 52 ≤ m → m < 2 ^ 53 → e < 2 → m % 2 ^ 64 * 2 ^ e % 2 ^ 64 ≡ m * 2 ^ e
shl_twice m e a b h =
    let k : m % 2 ^ 64 ≡ m = omega arith in
    ap (λ (x : ℕ). x * 2 ^ e % 2 ^ 64) k ∙ shl_once m e a b h
