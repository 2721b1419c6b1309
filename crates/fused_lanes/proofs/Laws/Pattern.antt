-- What the tests say of the values: x, a and h from the pattern of |x|, which has the significand m and the exponent p (`operand`), and the 53 digits of a normal value
-- (`digits`).
use mathlib.Core.Path.{◌≡◌, refl, sym, ap, ◌∙◌, subst}
use mathlib.Core.Bool.{Bool, true, false, not, cond, false≢true}
use Prim.Native.Nat.{ℕ, ◌+◌, ◌-◌, ◌*◌, ◌/◌, ◌%◌, ◌^◌, ◌≤◌, ◌<◌}
use native.Mathlib.Nat.{le_trans, le_of_eq, lt_of_le_of_lt, lt_of_lt_of_le, mul-one, mod-lt, mod-eq_of_lt, mul-le-mul_right, le_of_mul-le-mul_right, mul-lt-mul_of_pos_right}
use native.Mathlib.Omega.{arith}
use lib.Dec.{T, ltb, ltb→lt, nltb→le}
use lib.Pow.{pow-add, pow_pos}
use lib.Ieee.{Float, nan, inf, fin, binary64, fits, is_nan, eq, le, of_bits, to_bits}
use lib.Ieee.Bits.{of_bits-fits, of_bits-to_bits, to_bits-of_bits, nan_bits_is, nan_bits_above}
use lib.Ieee.Fits.{cond-fits}
use lib.Ieee.Exact.{HasValue}
use lib.Ieee.Positive.{positive, positive-finite, values_of_le}
use lib.Ieee.Scale.{finite}
use Rattle.binary64.specs.Binary64.{bits}
use Rattle.binary64.specs.Pattern.{significand_of, exponent_of, mag}
use Rattle.binary64.proofs.Pattern.{bits-value, significand-low, significand-high}
use Rattle.binary64.proofs.Size.{exponent_lt, exponent-le}
use Rattle.binary64.proofs.Reading.{abs_of, sign_of, read_plain, read-inf}
use Rattle.binary64.proofs.Values.{value-one, value_finite}
use Rattle.fused_lanes.specs.Lanes.{two_to_minus200, two_to_minus70, two_to200, number, magnitude_or_zero, leading}
use Rattle.binary64.specs.Format.{infinity_bits, lowest, trailing}

-- ---- patterns of numbers

pub equal_number : (x : Float) → eq x x ≡ true → is_nan x ≡ false
unfolding eq is_nan
equal_number nan h = absurd (false≢true h)
equal_number (inf s) h = refl
equal_number (fin s m e) h = refl

pub number-pattern : (y : Float) → T (fits binary64 y) → is_nan y ≡ false → to_bits binary64 y % 2 ^ 63 ≤ infinity_bits
number-pattern y F h =
    nltb→le infinity_bits (to_bits binary64 y % 2 ^ 63)
    (subst (λ (b : Bool). T (not b)) (sym h ∙ sym (ap is_nan (of_bits-to_bits binary64 y F)) ∙ sym (nan_bits_is binary64 (to_bits binary64 y)) ∙ nan_bits_above binary64 (to_bits binary64 y)) tt)

pub number_fits : (x : Float) → T (fits binary64 x) → T (fits binary64 (number x))
unfolding number
number_fits x F = cond-fits binary64 (eq x x) x _ F (of_bits-fits binary64 _)

-- ---- finite values

finite_number : (y : Float) → T (finite y) → T (not (is_nan y))
unfolding is_nan
finite_number nan t = absurd t
finite_number (inf s) t = absurd t
finite_number (fin s m e) t = tt

finite_pattern : (y : Float) → T (fits binary64 y) → T (finite y) → abs_of y < infinity_bits
finite_pattern y F t = go (ltb (abs_of y) (infinity_bits)) (ltb→lt (abs_of y) (infinity_bits)) (nltb→le (abs_of y) (infinity_bits))
  where
    go : (b : Bool) → (T b → abs_of y < infinity_bits) → (T (not b) → infinity_bits ≤ abs_of y) → abs_of y < infinity_bits
    go true h k = h tt
    go false h k = absurd (subst (λ (x : Float). T (finite x)) (read-inf y F (finite_number y t) (k tt)) t)

positive_sign : (y : Float) (s : Bool) (n c : ℕ) → T (positive y) → HasValue y s n c → s ≡ false
positive_sign nan s n c p h = absurd p
positive_sign (inf t) s n c p h = absurd p
positive_sign (fin true m e) s n c p h = absurd p
positive_sign (fin false m e) s n c p h = sym h.0

pub positive_value : (y : Float) → T (fits binary64 y) → T (positive y) → HasValue y false (mag (abs_of y)) (2 ^ lowest)
positive_value y F p =
    let v = read_plain y F (finite_pattern y F (positive-finite y p)) in
    subst (λ (s : Bool). HasValue y s (mag (abs_of y)) (2 ^ lowest)) (positive_sign y (sign_of y) (mag (abs_of y)) (2 ^ lowest) p v) v

-- ---- the digits of a normal value

pub record Digits (n : ℕ) : Type 0 where
  pub m : ℕ
  pub p : ℕ
  pub is : n ≡ m * 2 ^ p
  pub first : 2 ^ 52 ≤ m
  pub top : m < 2 ^ 53

normal-pattern : (c : ℕ) → 2 ^ 52 ≤ significand_of c * 2 ^ exponent_of c → 2 ^ 52 ≤ c
normal-pattern c h = go (ltb c (2 ^ 52)) (ltb→lt c (2 ^ 52)) (nltb→le c (2 ^ 52))
  where
    none : (c : ℕ) → c < 2 ^ 52 → c / 2 ^ 52 - 1 ≡ 0
    none c h = omega arith

    small : c < 2 ^ 52 → significand_of c * 2 ^ exponent_of c ≡ c
    small l = ap (λ (x : ℕ). significand_of c * 2 ^ x) (none c l) ∙ mul-one (significand_of c) ∙ sym (significand-low c l)

    go : (b : Bool) → (T b → c < 2 ^ 52) → (T (not b) → 2 ^ 52 ≤ c) → 2 ^ 52 ≤ c
    go true l k = le_trans h (le_of_eq (small (l tt)))
    go false l k = k tt

normal-digits : (c : ℕ) → 2 ^ 52 ≤ c → (2 ^ 52 ≤ significand_of c) × (significand_of c < 2 ^ 53)
normal-digits c h = let e = significand-high c h in (le_trans (low c) (le_of_eq e), lt_of_le_of_lt (le_of_eq (sym e)) (high c))
  where
    low : (c : ℕ) → 2 ^ 52 ≤ 2 ^ 52 + c % 2 ^ 52
    low c = omega arith

    high : (c : ℕ) → 2 ^ 52 + c % 2 ^ 52 < 2 ^ 53
    high c = omega arith

pub digits : (y : Float) (n : ℕ) → T (fits binary64 y) → HasValue y false n (2 ^ lowest) → 2 ^ 52 ≤ n → Digits n
unfolding mag
digits y n F h l =
    let e : n ≡ mag (abs_of y) =
    value-one y false (sign_of y) n (mag (abs_of y)) (2 ^ lowest) (pow_pos lowest) h (read_plain y F (finite_pattern y F (value_finite y false n (2 ^ lowest) h))) in
    let d = normal-digits (abs_of y) (normal-pattern (abs_of y) (le_trans l (le_of_eq e))) in
    record { m = significand_of (abs_of y); p = exponent_of (abs_of y); is = e; first = d.0; top = d.1 }

-- ---- x, |x| and its leading digits

pub record Operand (x : Float) : Type 0 where
  pub sign : Bool
  pub m : ℕ
  pub p : ℕ
  pub first : 2 ^ 52 ≤ m
  pub top : m < 2 ^ 53
  pub low : (lowest - 200 - trailing) ≤ p
  pub high : p ≤ (lowest + 200 - trailing)
  pub itself : HasValue x sign (m * 2 ^ p) (2 ^ lowest)
  pub size : HasValue (bits (magnitude_or_zero x)) false (m * 2 ^ p) (2 ^ lowest)
  pub lead : HasValue (leading (magnitude_or_zero x)) false (m / 2 ^ 27 * 2 ^ 27 * 2 ^ p) (2 ^ lowest)

-- |x| is not 0, so x is no NaN
zero_bits : T (positive (bits (to_bits binary64 (number nan) % 2 ^ 63))) → ⊥
unfolding number eq of_bits to_bits
zero_bits t = t

number_is : (x : Float) → T (positive (bits (magnitude_or_zero x))) → number x ≡ x
unfolding number magnitude_or_zero eq
number_is x = go (eq x x)
  where
    go : (b : Bool) → T (positive (bits (to_bits binary64 (cond b x (number nan)) % 2 ^ 63))) → cond b x (number nan) ≡ x
    go true t = refl
    go false t = absurd (zero_bits t)

pattern_is : (x : Float) → T (positive (bits (magnitude_or_zero x))) → magnitude_or_zero x ≡ abs_of x
unfolding magnitude_or_zero
pattern_is x t = ap (λ (y : Float). to_bits binary64 y % 2 ^ 63) (number_is x t)

-- the pattern is that of a finite value
pattern_plain : (b : ℕ) → b < 2 ^ 63 → T (positive (bits b)) → b < infinity_bits
pattern_plain b h t =
    subst (λ (n : ℕ). n < infinity_bits) (ap (λ (n : ℕ). n % 2 ^ 63) (to_bits-of_bits binary64 b (wide b h) (finite_number (bits b) (positive-finite (bits b) t))) ∙ mod-eq_of_lt h)
    (finite_pattern (bits b) (of_bits-fits binary64 b) (positive-finite (bits b) t))
  where
    wide : (b : ℕ) → b < 2 ^ 63 → b < 2 ^ 64
    wide b h = omega arith

-- 27 digits of the pattern cut off are cut off its digits
cut_digits : (b : ℕ) → 2 ^ 52 ≤ b → significand_of (b - b % 2 ^ 27) ≡ significand_of b / 2 ^ 27 * 2 ^ 27
cut_digits b h = sym (significand-high (b - b % 2 ^ 27) (still b h)) ∙ same b h ∙ ap (λ (x : ℕ). x / 2 ^ 27 * 2 ^ 27) (significand-high b h)
  where
    still : (b : ℕ) → 2 ^ 52 ≤ b → 2 ^ 52 ≤ b - b % 2 ^ 27
    still b h = omega arith

    same : (b : ℕ) → 2 ^ 52 ≤ b → 2 ^ 52 + (b - b % 2 ^ 27) % 2 ^ 52 ≡ (2 ^ 52 + b % 2 ^ 52) / 2 ^ 27 * 2 ^ 27
    same b h = omega arith

cut_place : (b : ℕ) → exponent_of (b - b % 2 ^ 27) ≡ exponent_of b
cut_place b = omega arith

-- ---- the constants

small-value : HasValue two_to_minus200 false (2 ^ (lowest - 200)) (2 ^ lowest)
unfolding of_bits
small-value = (refl, refl)

large_value : HasValue two_to200 false (2 ^ (lowest + 200)) (2 ^ lowest)
unfolding of_bits
large_value = (refl, refl)

pub unit-value : HasValue two_to_minus70 false (2 ^ (lowest - 70)) (2 ^ lowest)
unfolding of_bits
unit-value = (refl, refl)

pub small_positive : T (positive two_to_minus200)
unfolding of_bits
small_positive = tt

pub large_positive : T (positive two_to200)
unfolding of_bits
large_positive = tt

-- two values in order
pub order : (x y : Float) (a b : ℕ) → T (positive x) → T (positive y) → HasValue x false a (2 ^ lowest) → HasValue y false b (2 ^ lowest) → T (le x y) → a ≤ b
order x y a b p q h k t = le_of_mul-le-mul_right (values_of_le x y a (2 ^ lowest) b (2 ^ lowest) p q h k t) (pow_pos lowest)

-- ---- |x| from 2^−200 to 2^200
module _ (x : Float) (held : T (fits binary64 x)) (t : T (positive (bits (magnitude_or_zero x)))) (lo : T (le two_to_minus200 (bits (magnitude_or_zero x))))
    (hi : T (le (bits (magnitude_or_zero x)) two_to200)) where
  abbrev b : ℕ
  b = magnitude_or_zero x

  abbrev n : ℕ
  n = significand_of b * 2 ^ exponent_of b

  plain : b < infinity_bits
  unfolding magnitude_or_zero
  plain = pattern_plain b (mod-lt (to_bits binary64 (number x)) (pow_pos 63)) t

  size-value : HasValue (bits b) false n (2 ^ lowest)
  size-value = bits-value b plain

  least : 2 ^ (lowest - 200) ≤ n
  least = order two_to_minus200 (bits b) (2 ^ (lowest - 200)) n small_positive t small-value size-value lo

  most : n ≤ 2 ^ (lowest + 200)
  most = order (bits b) two_to200 n (2 ^ (lowest + 200)) t large_positive size-value large_value hi

  normal : 2 ^ 52 ≤ b
  normal = normal-pattern b (le_trans (lib.Dec.lit≤ tt) least)

  all_digits : (2 ^ 52 ≤ significand_of b) × (significand_of b < 2 ^ 53)
  all_digits = normal-digits b normal

  place-low : (lowest - 200 - trailing) ≤ exponent_of b
  place-low =
      from (exponent_of b) (exponent_lt (lowest - 200) (53 + exponent_of b)
      (lt_of_le_of_lt least (lt_of_lt_of_le (mul-lt-mul_of_pos_right all_digits.1 (pow_pos (exponent_of b))) (le_of_eq (sym (pow-add 2 53 (exponent_of b)))))))
    where
      from : (p : ℕ) → (lowest - 200) < 53 + p → (lowest - 200 - trailing) ≤ p
      from p h = omega arith

  place-high : exponent_of b ≤ (lowest + 200 - trailing)
  place-high =
      from (exponent_of b) (exponent-le (52 + exponent_of b) (lowest + 200) (le_trans (le_of_eq (pow-add 2 52 (exponent_of b))) (le_trans (mul-le-mul_right (2 ^ exponent_of b) all_digits.0) most)))
    where
      from : (p : ℕ) → 52 + p ≤ (lowest + 200) → p ≤ (lowest + 200 - trailing)
      from p h = omega arith

  itself_value : HasValue x (sign_of x) n (2 ^ lowest)
  unfolding mag
  itself_value =
      let e = pattern_is x t in
      subst (λ (c : ℕ). HasValue x (sign_of x) (significand_of c * 2 ^ exponent_of c) (2 ^ lowest)) (sym e) (read_plain x held (subst (λ (c : ℕ). c < infinity_bits) e plain))

  lead-value : HasValue (leading b) false (significand_of b / 2 ^ 27 * 2 ^ 27 * 2 ^ exponent_of b) (2 ^ lowest)
  unfolding leading
  lead-value =
      subst (λ (d : ℕ). HasValue (bits (b - b % 2 ^ 27)) false (d * 2 ^ exponent_of b) (2 ^ lowest)) (cut_digits b normal)
      (subst (λ (p : ℕ). HasValue (bits (b - b % 2 ^ 27)) false (significand_of (b - b % 2 ^ 27) * 2 ^ p) (2 ^ lowest)) (cut_place b)
      (bits-value (b - b % 2 ^ 27) (lt_of_le_of_lt (part b (b % 2 ^ 27)) plain)))
    where
      part : (b c : ℕ) → b - c ≤ b
      part b c = omega arith

  pub operand : Operand x
  operand =
      record {
        sign = sign_of x;
        m = significand_of b;
        p = exponent_of b;
        first = all_digits.0;
        top = all_digits.1;
        low = place-low;
        high = place-high;
        itself = itself_value;
        size = size-value;
        lead = lead-value;
      }
