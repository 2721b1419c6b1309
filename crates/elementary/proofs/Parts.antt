-- x = m × 2^e with 1 ≤ m < 2, out of a bit pattern: its significand t with the exponent p, shifted up by z to 53 digits, has the digits of m, and p + 52 - z is e + 1074. Two whole numbers that
-- agree up to zeros behind them have the same leading digit (`same`); the rest is counting places.
use mathlib.Core.Path.{◌≡◌, refl, sym, ap, ◌∙◌, subst}
use mathlib.Core.Bool.{Bool, true, false, true≢false}
use Prim.Native.Nat.{ℕ, zero, suc, ◌+◌, ◌-◌, ◌*◌, ◌%◌, ◌^◌, ◌≤◌, ◌<◌}
use native.Mathlib.Nat.{le_trans, le_of_eq, lt_of_lt_of_le, mul_assoc, mul_comm, mul_left_comm, mul_right_comm, mul-one, mul-pos, zero-mul, mul-le-mul_right, eq_of_mul-eq-mul_right, zero-lt-suc}
use native.Mathlib.Omega.{arith}
use lib.Dec.{ltb}
use lib.Pow.{pow-add, pow_pos, pow_mono, shl_lt}
use lib.IntN.{ℤ, pos, negsuc, sub_ℕ, ◌+ℤ◌}
use lib.Ieee.{Float, nan, inf, fin, binary64, up, down, size, round, of_bits, of_int, lt}
use lib.Ieee.Digits.{size-lt, size_reaches}
use lib.Ieee.Fits.{down_pos, round-fits}
use lib.Ieee.Bits.{of_bits-to_bits}
use lib.Ieee.Exact.{HasValue, round_exact}
use lib.Ieee.Scale.{round_same}
use borrow.Author.Tests.{lt-ltb, le-ltb, ltb-true, ltb-false}
use Rattle.binary64.proofs.Pattern.{pack, above_zero, bits-value}
use Rattle.binary64.proofs.Size.{size_is}
use Rattle.binary64.specs.Binary64.{half, ◌⊗◌}
use Rattle.binary64.specs.Pattern.{significand_of, exponent_of}
use Rattle.elementary.specs.Elementary.{mantissa, exponent, ln_at, ln_reduced, sqrt2}

-- ---- digits
-- the leading digit of n stands at size n - 1
pub record Leading (n : ℕ) : Type 0 where
  pub is : suc (size n - 1) ≡ size n
  pub above : 2 ^ (size n - 1) ≤ n
  pub below : n < 2 ^ suc (size n - 1)

pub leading : (n : ℕ) → 0 < n → Leading n
leading n h =
    let some : 0 < size n = go (size n) (size-lt n) in
    let e : suc (size n - 1) ≡ size n = omega arith in
    record { is = e; above = size_reaches n (size n - 1) (omega arith); below = subst (λ (x : ℕ). n < 2 ^ x) (sym e) (size-lt n) }
  where
    go : (k : ℕ) → n < 2 ^ k → 0 < k
    go zero g = absurd (none g)
      where
        none : n < 1 → ⊥
        none g = omega arith
    go (suc k) g = zero-lt-suc k

size_shl : (n a : ℕ) → 0 < n → size (n * 2 ^ a) ≡ suc (size n - 1 + a)
size_shl n a h =
    let l = leading n h in
    let k = size n - 1 in
    let e : suc k + a ≡ suc (k + a) = omega arith in
    size_is (n * 2 ^ a) (k + a) (le_trans (le_of_eq (pow-add 2 k a)) (mul-le-mul_right (2 ^ a) l.above)) (subst (λ (x : ℕ). n * 2 ^ a < 2 ^ x) e (shl_lt (suc k) a l.below))

-- n and r have the same digits, up to zeros supplement them
record Same (n r a b : ℕ) : Type 0 where
  place : size n - 1 + a ≡ 52 + b
  digits : n * 2 ^ 52 ≡ r * 2 ^ (size n - 1)

same : (n r a b : ℕ) → 0 < n → 2 ^ 52 ≤ r → r < 2 ^ 53 → n * 2 ^ a ≡ r * 2 ^ b → Same n r a b
same n r a b h lo hi e =
    let k = size n - 1 in
    let s : size r ≡ 53 = size_is r 52 lo hi in
    let p : 0 < r = omega arith in
    let q : suc (k + a) ≡ suc (size r - 1 + b) = sym (size_shl n a h) ∙ ap size e ∙ size_shl r b p in
    let pl : k + a ≡ 52 + b = omega arith in
    record {
      place = pl;
      digits = eq_of_mul-eq-mul_right (2 ^ b) (pow_pos b) (n * 2 ^ 52) (r * 2 ^ k)
          (mul_assoc n (2 ^ 52) (2 ^ b)
          ∙ ap (λ (x : ℕ). n * x) (sym (pow-add 2 52 b) ∙ ap (λ (x : ℕ). 2 ^ x) (sym pl) ∙ pow-add 2 k a ∙ mul_comm (2 ^ k) (2 ^ a))
          ∙ sym (mul_assoc n (2 ^ a) (2 ^ k))
          ∙ ap (λ (x : ℕ). x * 2 ^ k) e
          ∙ mul_assoc r (2 ^ b) (2 ^ k)
          ∙ ap (λ (x : ℕ). r * x) (mul_comm (2 ^ b) (2 ^ k))
          ∙ sym (mul_assoc r (2 ^ k) (2 ^ b)));
    }

-- ---- the mantissa
mantissa-pattern : (r : ℕ) → r < 2 ^ 53 → 1022 * 2 ^ 52 + r ≡ r % 2 ^ 64 + 0x3fe0_0000_0000_0000
mantissa-pattern r h = omega arith

mantissa-bits : (n k r : ℕ) → 2 ^ 52 ≤ r → r < 2 ^ 53 → n * 2 ^ 52 ≡ r * 2 ^ k → round binary64 false n (2 ^ k) ≡ of_bits binary64 (r % 2 ^ 64 + 0x3fe0_0000_0000_0000)
mantissa-bits n k r lo hi e =
    let y = round binary64 false (r * 2 ^ 1022) (2 ^ 1074) in
    let room : 53 + 1022 ≤ 1074 + 1024 = omega arith in
    let v : HasValue y false (r * 2 ^ 1022) (2 ^ 1074) = round_exact binary64 false (r * 2 ^ 1022) (2 ^ 1074) r 1022 (pow_pos 1074) hi (lt_of_lt_of_le (shl_lt 53 1022 hi) (pow_mono room)) refl in
    round_same binary64 false n (2 ^ k) r (2 ^ 52) (pow_pos k) (pow_pos 52) e
    ∙ round_same binary64 false r (2 ^ 52) (r * 2 ^ 1022) (2 ^ 1074) (pow_pos 52) (pow_pos 1074) (ap (λ (x : ℕ). r * x) (pow-add 2 1022 52) ∙ sym (mul_assoc r (2 ^ 1022) (2 ^ 52)))
    ∙ sym (of_bits-to_bits binary64 y (round-fits binary64 false (r * 2 ^ 1022) (2 ^ 1074)))
    ∙ ap (λ (x : ℕ). of_bits binary64 x) (pack binary64 y r 1022 v lo hi ∙ mantissa-pattern r hi)

-- ---- the exponent
pub same-difference : (a b c d : ℕ) → a + d ≡ c + b → sub_ℕ a b ≡ sub_ℕ c d
same-difference a b c d e = go (ltb a b) refl
  where
    go : (t : Bool) → ltb a b ≡ t → sub_ℕ a b ≡ sub_ℕ c d
    go true h =
        let l : a < b = ltb-true a b h in
        let m : c < d = omega arith in
        let k : b - suc a ≡ d - suc c = omega arith in
        rw (h, lt-ltb c d m) (ap negsuc k)
    go false h =
        let l : b ≤ a = ltb-false a b h in
        let m : d ≤ c = omega arith in
        let k : a - b ≡ c - d = omega arith in
        rw (h, le-ltb c d m) (ap pos k)

no_difference : (a : ℕ) → pos a ≡ sub_ℕ a 0
no_difference a =
    let h : 0 ≤ a = omega arith in
    let k : a ≡ a - 0 = omega arith in
    rw (le-ltb a 0 h) (ap pos k)

pub next : (a b : ℕ) → sub_ℕ a b +ℤ pos 1 ≡ sub_ℕ (a + 1) b
next a b = go (ltb a b) refl
  where
    go : (t : Bool) → ltb a b ≡ t → sub_ℕ a b +ℤ pos 1 ≡ sub_ℕ (a + 1) b
    go true h =
        let l : a < b = ltb-true a b h in
        let e : sub_ℕ a b ≡ negsuc (b - suc a) = rw h in
        ap (λ (x : ℤ). x +ℤ pos 1) e ∙ same-difference 1 (suc (b - suc a)) (a + 1) b (omega arith)
    go false h =
        let l : b ≤ a = ltb-false a b h in
        let e : sub_ℕ a b ≡ pos (a - b) = rw h in
        ap (λ (x : ℤ). x +ℤ pos 1) e ∙ no_difference (a - b + 1) ∙ same-difference (a - b + 1) 0 (a + 1) b (omega arith)

-- ---- from the value of x, t * 2 ^ p / 2 ^ l, to n * 2 ^ d
at_or-above : (n a l t p z : ℕ) → n * 2 ^ a * 2 ^ l ≡ t * 2 ^ p * 1 → n * 2 ^ (a + l + z) ≡ t * 2 ^ z * 2 ^ p
at_or-above n a l t p z e =
    let w : n * (2 ^ a * 2 ^ l * 2 ^ z) ≡ n * 2 ^ a * 2 ^ l * 2 ^ z = simp mul_assoc in
    ap (λ (x : ℕ). n * x) (pow-add 2 (a + l) z ∙ ap (λ (x : ℕ). x * 2 ^ z) (pow-add 2 a l))
    ∙ w
    ∙ ap (λ (x : ℕ). x * 2 ^ z) (e ∙ mul-one (t * 2 ^ p))
    ∙ mul_right_comm t (2 ^ p) (2 ^ z)

under : (n b l t p z : ℕ) → n * 1 * 2 ^ l ≡ t * 2 ^ p * 2 ^ b → n * 2 ^ (l + z) ≡ t * 2 ^ z * 2 ^ (p + b)
under n b l t p z e =
    let w : t * 2 ^ p * 2 ^ b * 2 ^ z ≡ t * 2 ^ z * (2 ^ p * 2 ^ b) = simp (mul_assoc, mul_comm, mul_left_comm) in
    ap (λ (x : ℕ). n * x) (pow-add 2 l z)
    ∙ sym (mul_assoc n (2 ^ l) (2 ^ z))
    ∙ ap (λ (x : ℕ). x * 2 ^ l * 2 ^ z) (sym (mul-one n))
    ∙ ap (λ (x : ℕ). x * 2 ^ z) e
    ∙ w
    ∙ ap (λ (x : ℕ). t * 2 ^ z * x) (sym (pow-add 2 p b))

pub record Parts (x : Float) (r e : ℕ) : Type 0 where
  pub mantissa_is : mantissa x ≡ of_bits binary64 (r % 2 ^ 64 + 0x3fe0_0000_0000_0000)
  pub exponent_is : exponent x ≡ sub_ℕ e 1074

digits_pos : (t z : ℕ) → 2 ^ 52 ≤ t * 2 ^ z → 0 < t
digits_pos zero z h = absurd (no (subst (λ (x : ℕ). 2 ^ 52 ≤ x) (zero-mul (2 ^ z)) h))
  where
    no : 2 ^ 52 ≤ 0 → ⊥
    no g = omega arith
digits_pos (suc t) z h = zero-lt-suc t

finite_parts : (n : ℕ) (d : ℤ) (t p z : ℕ) → 0 < n → n * up d * 2 ^ 1074 ≡ t * 2 ^ p * down d → 2 ^ 52 ≤ t * 2 ^ z → t * 2 ^ z < 2 ^ 53 → z ≤ p + 52
    → Parts (fin false n d) (t * 2 ^ z) (p + 52 - z)
unfolding mantissa exponent
finite_parts n (pos a) t p z h e lo hi zp =
    let k = size n - 1 in
    let s = same n (t * 2 ^ z) (a + 1074 + z) p h lo hi (at_or-above n a 1074 t p z e) in
    let q : k + (a + 1074 + z) ≡ 52 + p = s.place in
    record {
      mantissa_is = mantissa-bits n k (t * 2 ^ z) lo hi s.digits;
      exponent_is = no_difference (a + k) ∙ same-difference (a + k) 0 (p + 52 - z) 1074 (omega arith);
    }
finite_parts n (negsuc b) t p z h e lo hi zp =
    let k = size n - 1 in
    let s = same n (t * 2 ^ z) (1074 + z) (p + suc b) h lo hi (under n (suc b) 1074 t p z e) in
    let q : k + (1074 + z) ≡ 52 + (p + suc b) = s.place in
    record {
      mantissa_is = mantissa-bits n k (t * 2 ^ z) lo hi s.digits;
      exponent_is = same-difference k (suc b) (p + 52 - z) 1074 (omega arith);
    }

pub parts : (x : Float) (t p z : ℕ) → HasValue x false (t * 2 ^ p) (2 ^ 1074) → 2 ^ 52 ≤ t * 2 ^ z → t * 2 ^ z < 2 ^ 53 → z ≤ p + 52 → Parts x (t * 2 ^ z) (p + 52 - z)
parts nan t p z v lo hi zp = absurd v
parts (inf s) t p z v lo hi zp = absurd v
parts (fin true n d) t p z v lo hi zp = absurd (true≢false v.0)
parts (fin false n d) t p z v lo hi zp =
    finite_parts n d t p z (above_zero n (up d) (2 ^ 1074) (t * 2 ^ p) (down d) v.1 (mul-pos (digits_pos t z lo) (pow_pos p)) (down_pos d)) v.1 lo hi zp

pub pattern_parts : (b t p z : ℕ) → b < 0x7ff0_0000_0000_0000 → t ≡ significand_of b → p ≡ exponent_of b → 2 ^ 52 ≤ t * 2 ^ z → t * 2 ^ z < 2 ^ 53 → z ≤ 52 → Parts (of_bits binary64 b) (t * 2 ^ z) (p + 52 - z)
pattern_parts b t p z h te pe lo hi zs = parts (of_bits binary64 b) t p z (subst (λ (y : ℕ). HasValue (of_bits binary64 b) false (y * 2 ^ p) (2 ^ 1074)) (sym te) (subst (λ (y : ℕ). HasValue (of_bits binary64 b) false (significand_of b * 2 ^ y) (2 ^ 1074)) (sym pe) (bits-value b h))) lo hi (omega arith)

-- ---- the two cases of the logarithm
abbrev pub shifted : ℕ → Float
shifted r = of_bits binary64 (r % 2 ^ 64 + 0x3fe0_0000_0000_0000)

pub ln_halved : (x : Float) (r e : ℕ) → Parts x r e → lt sqrt2 (shifted r) ≡ true → ln_reduced (mantissa x) (exponent x) ≡ ln_at (shifted r ⊗ half) (of_int binary64 (sub_ℕ (e + 1) 1074))
unfolding ln_reduced
ln_halved x r e p h = (λ i. ln_reduced (p.mantissa_is i) (p.exponent_is i)) ∙ rw h (ap (λ (k : ℤ). ln_at (shifted r ⊗ half) (of_int binary64 k)) (next e 1074))

pub ln_kept : (x : Float) (r e : ℕ) → Parts x r e → lt sqrt2 (shifted r) ≡ false → ln_reduced (mantissa x) (exponent x) ≡ ln_at (shifted r) (of_int binary64 (sub_ℕ e 1074))
unfolding ln_reduced
ln_kept x r e p h = (λ i. ln_reduced (p.mantissa_is i) (p.exponent_is i)) ∙ rw h
