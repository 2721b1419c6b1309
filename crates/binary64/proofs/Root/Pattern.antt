-- The pattern of a root. The significand t of a pattern with the exponent k, shifted up by z to 53 digits and by one more where the exponent d is odd, make m; r is the whole number nearest to the root of
-- m * 2 ^ 52. Then the root is r * 2 ^ K units, and its pattern K * 2 ^ 52 + r.
use mathlib.Core.Path.{◌≡◌, sym, ap, ◌∙◌, subst}
use mathlib.Core.Logic.{◌⊎◌, inl, inr}
use Prim.Native.Nat.{ℕ, zero, suc, ◌+◌, ◌-◌, ◌*◌, ◌/◌, ◌%◌, ◌^◌, ◌≤◌, ◌<◌}
use native.Mathlib.Nat.{le_trans, le_of_eq, lt_of_lt_of_le, lt_of_le_of_lt, mul_assoc, mul_comm, mul-pos, mul-one, mul-mul-mul_comm, mul-le-mul_right, mul-lt-mul_of_pos_right}
use native.Mathlib.Omega.{arith}
use mathlib.Core.Bool.{false}
use lib.Pow.{pow-add, pow_pos, pow_mono, shl_lt}
use lib.Ieee.{Float, binary64, low, units, of_bits, to_bits}
use lib.Ieee.Exact.{HasValue, units_val}
use Rattle.binary64.specs.Pattern.{significand_of, exponent_of}
use Rattle.binary64.proofs.Pattern.{pack, bits-value}
use Rattle.binary64.specs.Operations.{square_root}
use Rattle.binary64.specs.Nearest.{NearRoot, Scaled, Digits, NearestRoot}
use Rattle.binary64.proofs.Root.Value.{sqrt-value, root_place, value_is}
use Rattle.binary64.specs.Format.{lowest, magnitude_digits, infinity_bits}

-- ---- m
one_more : (m e : ℕ) → e < 2 → (m * 2 ^ e ≡ m) ⊎ (m * 2 ^ e ≡ 2 * m)
one_more m zero h = inl (mul-one m)
one_more m (suc zero) h = inr (mul_comm m 2)
one_more m (suc (suc e)) h = absurd (no e h)
  where
    no : (x : ℕ) → suc (suc x) < 2 → ⊥
    no x g = omega arith

pub scaled : (m e : ℕ) → 2 ^ 52 ≤ m → m < 2 ^ 53 → e < 2 → Scaled (m * 2 ^ e)
scaled m e a b h = elim (one_more m e h) [ inl k ↦ same k | inr k ↦ twice k ]
  where
    same : m * 2 ^ e ≡ m → Scaled (m * 2 ^ e)
    same k = record { low = omega arith; high = omega arith }

    twice : m * 2 ^ e ≡ 2 * m → Scaled (m * 2 ^ e)
    twice k = record { low = omega arith; high = omega arith }

enough : (m : ℕ) → 2 ^ 52 ≤ m → 2 ^ 53 * 2 ^ 53 ≤ 4 * (m * 2 ^ 52)
enough m h = omega arith

above-one : (r : ℕ) → 2 ^ 52 ≤ r → 1 ≤ r
above-one r h = omega arith

fits_top : (b z d : ℕ) → b < infinity_bits → d + z ≡ exponent_of b + 52 → 53 + (d / 2 + root_place) ≤ magnitude_digits
fits_top b z d h e = omega arith

-- the significand t of the pattern b is shifted up by z, and then by one more where d is odd, to make m. r is nearest to the root of m * 2 ^ 52
module _ (b z d r : ℕ) (fine : b < infinity_bits) (some : 0 < significand_of b) (place : d + z ≡ exponent_of b + 52) (sc : Scaled (significand_of b * 2 ^ z * 2 ^ (d % 2))) (dg : Digits r) (nr : NearRoot (significand_of b * 2 ^ z * 2 ^ (d % 2) * 2 ^ 52) r) where
  abbrev K : ℕ
  K = d / 2 + root_place

  -- the pattern's value in units, times 2 ^ lowest, is the square of its root in units
  abbrev square : ℕ
  square = significand_of b * 2 ^ exponent_of b * 2 ^ lowest

  is4 : 4 * (significand_of b * 2 ^ z * 2 ^ (d % 2) * 2 ^ 52) * (2 ^ K * 2 ^ K) ≡ 4 * square
  is4 = mul_assoc 4 (significand_of b * 2 ^ z * 2 ^ (d % 2) * 2 ^ 52) (2 ^ K * 2 ^ K) ∙ ap (λ (x : ℕ). 4 * x) (value_is (significand_of b) z (exponent_of b) d place)

  ww : 0 < 2 ^ K * 2 ^ K
  ww = mul-pos (pow_pos K) (pow_pos K)

  big : 2 ^ (53 + K) * 2 ^ (53 + K) ≤ 4 * square
  big =
      le_trans (le_of_eq ((λ i. pow-add 2 53 K i * pow-add 2 53 K i) ∙ mul-mul-mul_comm (2 ^ 53) (2 ^ K) (2 ^ 53) (2 ^ K)))
      (le_trans (mul-le-mul_right (2 ^ K * 2 ^ K) (enough (significand_of b * 2 ^ z * 2 ^ (d % 2)) sc.low)) (le_of_eq is4))

  lower-middle : (2 * r - 1) * (2 * r - 1) * (2 ^ K * 2 ^ K) < 4 * square
  lower-middle = lt_of_lt_of_le (mul-lt-mul_of_pos_right nr.above ww) (le_of_eq is4)

  upper-middle : 4 * square < (2 * r + 1) * (2 * r + 1) * (2 ^ K * 2 ^ K)
  upper-middle = lt_of_le_of_lt (le_of_eq (sym is4)) (mul-lt-mul_of_pos_right nr.below ww)

  root_is : square_root binary64 (of_bits binary64 b) ≡ units binary64 false r K
  root_is = sqrt-value binary64 (of_bits binary64 b) (significand_of b * 2 ^ exponent_of b) r K (bits-value b fine) (mul-pos some (pow_pos (exponent_of b))) (above-one r dg.low) dg.high big lower-middle upper-middle

  root-value : HasValue (square_root binary64 (of_bits binary64 b)) false (r * 2 ^ K) (2 ^ low binary64)
  root-value =
      subst (λ (x : Float). HasValue x false (r * 2 ^ K) (2 ^ low binary64)) (sym root_is)
      (units_val binary64 false r K (lt_of_lt_of_le (shl_lt 53 K dg.high) (pow_mono (fits_top b z d fine place))))

  pub root_law : to_bits binary64 (square_root binary64 (of_bits binary64 b)) ≡ K * 2 ^ 52 + r
  root_law = pack binary64 (square_root binary64 (of_bits binary64 b)) r K root-value dg.low dg.high

  pub digits_nearest : NearestRoot (of_bits binary64 b) (square_root binary64 (of_bits binary64 b))
  digits_nearest =
      record {
        v = significand_of b * 2 ^ exponent_of b;
        r = r;
        k = K;
        value = bits-value b fine;
        rounded = root-value;
        digits = dg;
        reached = big;
        above = lt_of_le_of_lt (le_of_eq (mul-mul-mul_comm (2 * r - 1) (2 ^ K) (2 * r - 1) (2 ^ K))) lower-middle;
        below = lt_of_lt_of_le upper-middle (le_of_eq (sym (mul-mul-mul_comm (2 * r + 1) (2 ^ K) (2 * r + 1) (2 ^ K))));
      }
