-- The test of an estimate, over whole numbers. `is_near_root` compares r * (r + 1) with m * 2 ^ 52 by the upper words and by the lower word of the difference; what passes is nearest to the root; and what passes
-- `is_root` is the pattern of the root, by the law for the significand of a pattern.
use Rattle.std.proofs.Common.{◌≡◌, ℕ, ◌+◌, ◌-◌, ◌*◌, ◌/◌, ◌%◌, ◌^◌, ◌<◌, ◌≤◌, Bool, true, false, not, T, ltb, leb, sym, refl, ap, ◌∙◌, subst, le_refl, mul-le-mul, mul-one, arith, ltb→lt, leb→le, ltb-false, ltb-true, le-ltb, lt-ltb, le-leb}
use lib.Ieee.{Float, binary64, fits, is_nan, nan_bits, of_bits, to_bits}
use lib.Ieee.Bits.{of_bits-to_bits, nan_bits_is, nan_bits_above, is_false}
use lib.Ieee.Fits.{and_l, and_r}
use borrow.Author.Tests.{lt-leb}
use Rattle.binary64.specs.Pattern.{significand_of}
use Rattle.binary64.proofs.Pattern.{significand-high}
use Rattle.binary64.specs.Operations.{square_root}
use Rattle.binary64.specs.Nearest.{NearRoot, Scaled, Digits}
use Rattle.square_root.specs.Estimate.{is_near_root, is_root}
use Rattle.binary64.proofs.Root.Squares.{near-between}
use Rattle.binary64.proofs.Root.Pattern.{scaled, root_law}
use Rattle.binary64.specs.Format.{bias, infinity_bits}
use Rattle.binary64.proofs.Root.Value.{root_place}

-- ---- a pattern
-- a number's pattern is at most an infinity's, without the sign
pub number-pattern : (x : Float) → T (fits binary64 x) → T (not (is_nan x)) → to_bits binary64 x % 2 ^ 63 ≤ infinity_bits
number-pattern x f n =
    let b = to_bits binary64 x in
    let t : T (not (nan_bits binary64 b)) = subst (λ (y : Bool). T (not y)) (sym (nan_bits_is binary64 b ∙ ap is_nan (of_bits-to_bits binary64 x f))) n in
    ltb-false infinity_bits (b % 2 ^ 63) (sym (nan_bits_above binary64 b) ∙ is_false (nan_bits binary64 b) t)

-- ---- `is_near_root`, case by case: p is r * (r + 1), n is m * 2 ^ 52, e is the difference of their lower words, and o what it borrows
-- p and n by their words
joined : (e o n p : ℕ) → e + n % 2 ^ 64 ≡ p % 2 ^ 64 + o * 2 ^ 64 → p / 2 ^ 64 ≡ n / 2 ^ 64 + o → e + n ≡ p
joined e o n p d h = omega arith

apart : (e o n p : ℕ) → o ≤ 1 → e < 2 ^ 64 → e + n % 2 ^ 64 ≡ p % 2 ^ 64 + o * 2 ^ 64 → (p / 2 ^ 64 ≡ n / 2 ^ 64 + o → ⊥) → n ≤ p → n + 2 ^ 64 ≤ p
apart e o n p s u d h l = omega arith

many_times : (n r p : ℕ) → n ≤ r * 2 ^ 52 → r * 2 ^ 54 ≤ p → n + 2 * r ≤ p
many_times n r p a b = omega arith

upper : (m : ℕ) → m * 2 ^ 52 / 2 ^ 64 ≡ m / 4096
upper m = omega arith

module _ (m r : ℕ) (scaled-m : Scaled m) where
  abbrev p : ℕ
  p = r * (r + 1)

  abbrev n : ℕ
  n = m * 2 ^ 52

  under : p < n → false ≡ is_near_root n r
  unfolding is_near_root
  under h = rw (lt-leb n p h)

  within : n ≤ p → p < n + 2 * r → true ≡ is_near_root n r
  unfolding is_near_root
  within h k = rw (le-leb n p h, lt-ltb p (n + 2 * r) k)

  over : n ≤ p → n + 2 * r ≤ p → false ≡ is_near_root n r
  unfolding is_near_root
  over h k = rw (le-leb n p h, le-ltb p (n + 2 * r) k)

  less : (e : ℕ) → e < 2 * r → e + n ≡ p → p < n + 2 * r
  less e l q = omega arith

  more : (e : ℕ) → 2 * r ≤ e → e + n ≡ p → n + 2 * r ≤ p
  more e l q = omega arith

  -- r of 55 digits or more is far too large
  large : 2 ^ 54 ≤ r → n + 2 * r ≤ p
  large h =
      let top : m + 2 ≤ 2 ^ 54 = scaled-m.high in
      let l : m ≤ r = omega arith in
      let k : 2 ^ 54 ≤ r + 1 = omega arith in
      many_times n r p (mul-le-mul l (le_refl (2 ^ 52))) (mul-le-mul (le_refl r) k)

  pub far_over : (e o : ℕ) → o ≤ 1 → e < 2 ^ 64 → e + m * 2 ^ 52 % 2 ^ 64 ≡ p % 2 ^ 64 + o * 2 ^ 64 → (p / 2 ^ 64 ≡ m / 4096 + o → ⊥) → false ≡ is_near_root (m * 2 ^ 52) r
  far_over e o s u d h = go (ltb p n) refl
    where
      rest : n ≤ p → (t : Bool) → ltb r (2 ^ 54) ≡ t → n + 2 * r ≤ p
      rest l true q =
          let f : n + 2 ^ 64 ≤ p = apart e o n p s u d (λ g. h (g ∙ ap (λ (x : ℕ). x + o) (upper m))) l in
          let k = ltb-true r (2 ^ 54) q in
          far f k
        where
          far : n + 2 ^ 64 ≤ p → r < 2 ^ 54 → n + 2 * r ≤ p
          far f k = omega arith
      rest l false q = large (ltb-false r (2 ^ 54) q)

      go : (t : Bool) → ltb p n ≡ t → false ≡ is_near_root n r
      go true q = under (ltb-true p n q)
      go false q = let l = ltb-false p n q in over l (rest l (ltb r (2 ^ 54)) refl)

  pub near_over : (e o : ℕ) → e + m * 2 ^ 52 % 2 ^ 64 ≡ p % 2 ^ 64 + o * 2 ^ 64 → p / 2 ^ 64 ≡ m / 4096 + o → ltb e (2 * r) ≡ is_near_root (m * 2 ^ 52) r
  near_over e o d h = go (ltb e (2 * r)) refl
    where
      sum : e + n ≡ p
      sum = joined e o n p d (h ∙ ap (λ (x : ℕ). x + o) (sym (upper m)))

      from : e + n ≡ p → n ≤ p
      from q = omega arith

      go : (t : Bool) → ltb e (2 * r) ≡ t → ltb e (2 * r) ≡ is_near_root n r
      go true q = q ∙ within (from sum) (less e (ltb-true e (2 * r) q) sum)
      go false q = q ∙ over (from sum) (more e (ltb-false e (2 * r) q) sum)

  -- what passes has 53 digits
  digits_of : n ≤ p → p < n + 2 * r → Digits r
  digits_of l h = record { low = lower (ltb r (2 ^ 52)) refl; high = higher (ltb r (2 ^ 53)) refl }
    where
      few : r < 2 ^ 52 → ⊥
      few k =
          let bottom : 2 ^ 52 ≤ m = scaled-m.low in
          let t : p ≤ r * 2 ^ 52 = mul-le-mul (le_refl r) (omega arith) in
          omega arith

      many : 2 ^ 53 ≤ r → ⊥
      many k =
          let top : m + 2 ≤ 2 ^ 54 = scaled-m.high in
          let t : r * (2 ^ 53 + 1) ≤ p = mul-le-mul (le_refl r) (omega arith) in
          omega arith

      lower : (t : Bool) → ltb r (2 ^ 52) ≡ t → 2 ^ 52 ≤ r
      lower true q = absurd (few (ltb-true r (2 ^ 52) q))
      lower false q = ltb-false r (2 ^ 52) q

      higher : (t : Bool) → ltb r (2 ^ 53) ≡ t → r < 2 ^ 53
      higher true q = ltb-true r (2 ^ 53) q
      higher false q = absurd (many (ltb-false r (2 ^ 53) q))

-- ---- `is_root`, by the exponent of the root
abbrev exponent : ℕ → ℕ
exponent b = ((b / 2 ^ 52 + bias) / 2 - 1) * 2 ^ 52

abbrev scaled_digits : ℕ → ℕ
scaled_digits b = (2 ^ 52 + b % 2 ^ 52) * 2 ^ ((b / 2 ^ 52 + bias) % 2)

pub below_exponent : (b c : ℕ) → c < ((b / 2 ^ 52 + bias) / 2 - 1) * 2 ^ 52 → false ≡ is_root b c
unfolding is_root
below_exponent b c h = rw (lt-leb (exponent b) c h)

pub from-exponent : (b c : ℕ) → ((b / 2 ^ 52 + bias) / 2 - 1) * 2 ^ 52 ≤ c
    → is_near_root ((2 ^ 52 + b % 2 ^ 52) * 2 ^ ((b / 2 ^ 52 + bias) % 2) * 2 ^ 52) (c - ((b / 2 ^ 52 + bias) / 2 - 1) * 2 ^ 52) ≡ is_root b c
unfolding is_root
from-exponent b c h = rw (le-leb (exponent b) c h)

-- ---- what passes
between : (n r : ℕ) → T (is_near_root n r) → (n ≤ r * (r + 1)) × (r * (r + 1) < n + 2 * r)
unfolding is_near_root
between n r t = (leb→le n (r * (r + 1)) (and_l (leb n (r * (r + 1))) (ltb (r * (r + 1)) (n + 2 * r)) t), ltb→lt (r * (r + 1)) (n + 2 * r) (and_r (leb n (r * (r + 1))) (ltb (r * (r + 1)) (n + 2 * r)) t))

-- c less the exponent is nearest to the root of b's digits
module _ (b c : ℕ) (normal : 2 ^ 52 ≤ b) (fine : b < infinity_bits) where
  abbrev r : ℕ
  r = c - exponent b

  unshifted : 2 ^ 52 + b % 2 ^ 52 ≡ significand_of b * 2 ^ 0
  unshifted = significand-high b normal ∙ sym (mul-one (significand_of b))

  -- `root_law` counts the exponent from another place
  abbrev o : ℕ
  o = b / 2 ^ 52 + 51

  even : (b / 2 ^ 52 + bias) % 2 ≡ o % 2
  even = omega arith

  again : exponent b ≤ c → (o / 2 + root_place) * 2 ^ 52 + r ≡ c
  again h = omega arith

  sc : Scaled (scaled_digits b)
  sc = scaled (2 ^ 52 + b % 2 ^ 52) ((b / 2 ^ 52 + bias) % 2) (omega arith) (omega arith) (omega arith)

  pattern_is : exponent b ≤ c → Digits r → NearRoot (scaled_digits b * 2 ^ 52) r → to_bits binary64 (square_root binary64 (of_bits binary64 b)) ≡ c
  pattern_is e dg h =
      let some : 0 < significand_of b = subst (λ (x : ℕ). 0 < x) (significand-high b normal) (omega arith) in
      root_law b 0 o r fine some (omega arith)
      (subst (λ (x : ℕ). Scaled (x * 2 ^ (o % 2))) unshifted (subst (λ (k : ℕ). Scaled ((2 ^ 52 + b % 2 ^ 52) * 2 ^ k)) even sc)) dg
      (subst (λ (x : ℕ). NearRoot (x * 2 ^ (o % 2) * 2 ^ 52) r) unshifted (subst (λ (k : ℕ). NearRoot ((2 ^ 52 + b % 2 ^ 52) * 2 ^ k * 2 ^ 52) r) even h))
      ∙ again e

  pub passed : T (is_root b c) → c ≡ to_bits binary64 (square_root binary64 (of_bits binary64 b))
  unfolding is_root
  passed t =
      let n = scaled_digits b * 2 ^ 52 in
      let e : exponent b ≤ c = leb→le (exponent b) c (and_l (leb (exponent b) c) (is_near_root n r) t) in
      let w = between n r (and_r (leb (exponent b) c) (is_near_root n r) t) in
      let dg : Digits r = digits_of (scaled_digits b) r sc w.0 w.1 in
      sym (pattern_is e dg (near-between n r (some dg.low) w.0 w.1))
    where
      some : 2 ^ 52 ≤ r → 1 ≤ r
      some h = omega arith
