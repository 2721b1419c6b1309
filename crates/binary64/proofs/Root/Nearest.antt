-- The root of a value above zero lies between the two midpoints around `square_root` (`positive_nearest`), and that is the only value of which this holds (`nearest_only`): a pattern's digits,
-- scaled to an even place, have a whole number nearest to their root, which is the root's own digits.
use mathlib.Core.Path.{◌≡◌, sym, ap, ◌∙◌, subst}
use Prim.Native.Nat.{ℕ, zero, suc, ◌+◌, ◌-◌, ◌*◌, ◌/◌, ◌%◌, ◌^◌, ◌≤◌, ◌<◌}
use native.Mathlib.Nat.{zero-mul, zero-lt-suc, mul-pos, mul_right_comm, mul-lt-mul_of_pos_right, lt_of_mul-lt-mul_right, le_of_eq, lt_of_lt_of_le, lt_of_le_of_lt, lt_of_not-le, mul-mul-mul_comm, mul-add, add-mul}
use native.Mathlib.Omega.{arith}
use native.Mathlib.Decide.{dec_le}
use lib.Count.{count_leading_zeros}
use mathlib.Core.Bool.{Bool, true, false, not, cond, ◌&&◌}
use lib.Dec.{T, eqb, ltb, leb, ltb→lt, leb→le, nleb→lt}
use lib.Pow.{pow_pos, pow-add}
use lib.Ieee.{Float, nan, inf, fin, binary64, up, down, of_bits, to_bits, fits, units, odd, of_fields}
use lib.Ieee.Fits.{down_pos, and_r}
use lib.Ieee.Exact.{HasValue, units_val}
use lib.Ieee.Bits.{of_bits-to_bits, to_bits-lt}
use lib.Ieee.Positive.{positive}
use Rattle.binary64.specs.Pattern.{significand_of, exponent_of}
use Rattle.binary64.specs.Operations.{square_root, root}
use Rattle.binary64.specs.Nearest.{NearRoot, Scaled, Digits, NearestRoot}
use Rattle.binary64.proofs.Root.Squares.{next_times, near-between}
use Rattle.binary64.proofs.Root.Floor.{Floor, root_floor}
use Rattle.binary64.proofs.Root.Rounded.{square-lt}
use Rattle.binary64.proofs.Pattern.{pack, significand-low, significand-high, shifted}
use Rattle.binary64.proofs.Root.Value.{sqrt-value, sqrt_fits}
use Rattle.binary64.proofs.Root.Pattern.{scaled, digits_nearest}
use Rattle.binary64.specs.Format.{bias, lowest, magnitude_digits, infinity_bits, top_field}

-- ---- every number above 0 has a whole number nearest to its root
lower : (n q : ℕ) → 0 < n → Floor n q → n ≤ q * q + q → NearRoot n q
lower n zero p f h = absurd (no p h)
  where
    no : 0 < n → n ≤ 0 * 0 + 0 → ⊥
    no a b = omega arith
lower n (suc k) p f h =
    let q = suc k in
    let x : q * (q + 1) ≡ q * q + q = next_times q in
    let a : q * q ≤ n = f.0 in
    near-between n q (omega arith) (omega arith) (omega arith)

upper : (n q : ℕ) → Floor n q → q * q + q < n → NearRoot n (q + 1)
upper n q f h =
    let x : (q + 1) * (q + 1 + 1) ≡ (q + 1) * (q + 1) + (q + 1) = next_times (q + 1) in
    let y : (q + 1) * (q + 1) ≡ q * q + 2 * q + 1 = simp (mul-add, add-mul) (omega arith) in
    let b : n < (q + 1) * (q + 1) = f.1 in
    near-between n (q + 1) (omega arith) (omega arith) (omega arith)

near_exists : (n : ℕ) → 0 < n → (r : ℕ) × NearRoot n r
near_exists n p = either (dec_le n (root n * root n + root n))
  where
    either : Dec (n ≤ root n * root n + root n) → (r : ℕ) × NearRoot n r
    either (yes h) = (root n, lower n (root n) p (root_floor n) h)
    either (no h) = (root n + 1, upper n (root n) (root_floor n) (lt_of_not-le h))

-- of 53 digits, for an n that is m * 2 ^ 52
near-digits : (m r : ℕ) → Scaled m → NearRoot (m * 2 ^ 52) r → Digits r
near-digits m r s h =
    let a : 2 ^ 53 < 2 * r + 1 = square-lt (2 ^ 53) (2 * r + 1) (lt_of_le_of_lt (low-square m s.low) h.below) in
    let b : 2 * r - 1 < 2 ^ 54 - 1 = square-lt (2 * r - 1) (2 ^ 54 - 1) (lt_of_lt_of_le h.above (high-square m s.high)) in
    record { low = omega arith; high = omega arith }
  where
    low-square : (m : ℕ) → 2 ^ 52 ≤ m → 2 ^ 53 * 2 ^ 53 ≤ 4 * (m * 2 ^ 52)
    low-square m g = omega arith

    high-square : (m : ℕ) → m + 2 ≤ 2 ^ 54 → 4 * (m * 2 ^ 52) ≤ (2 ^ 54 - 1) * (2 ^ 54 - 1)
    high-square m g = omega arith

digits-some : (b : ℕ) → 0 < b → (0 < significand_of b) × (significand_of b < 2 ^ 53)
digits-some b p = either (dec_le (2 ^ 52) b)
  where
    either : Dec (2 ^ 52 ≤ b) → (0 < significand_of b) × (significand_of b < 2 ^ 53)
    either (yes h) = subst (λ (x : ℕ). (0 < x) × (x < 2 ^ 53)) (significand-high b h) (omega arith, omega arith)
    either (no h) = let g : b < 2 ^ 52 = lt_of_not-le h in subst (λ (x : ℕ). (0 < x) × (x < 2 ^ 53)) (significand-low b g) (omega arith, omega arith)

-- the root of every pattern that is finite and above zero
pattern_nearest : (b : ℕ) → 0 < b → b < infinity_bits → NearestRoot (of_bits binary64 b) (square_root binary64 (of_bits binary64 b))
pattern_nearest b p fine =
    let t = significand_of b in
    let ds = digits-some b p in
    let sh = shifted t ds.0 ds.1 in
    let z = count_leading_zeros 64 t - 11 in
    let d = exponent_of b + 52 - z in
    let zs : z ≤ 52 = sh.small in
    let place : d + z ≡ exponent_of b + 52 = omega arith in
    let sc = scaled (t * 2 ^ z) (d % 2) sh.above sh.below (omega arith) in
    let nr = near_exists (t * 2 ^ z * 2 ^ (d % 2) * 2 ^ 52) (omega (arith, sc.low)) in
    digits_nearest b z d nr.0 fine ds.0 place sc (near-digits (t * 2 ^ z * 2 ^ (d % 2)) nr.0 sc nr.1) nr.1

-- ---- nothing else is the nearest
finite_top : (m u w d : ℕ) → m * u * 2 ^ lowest ≡ w * d → m * u < 2 ^ suc bias * d → w < 2 ^ magnitude_digits
finite_top m u w d e h =
    lt_of_mul-lt-mul_right d
    (lt_of_le_of_lt (le_of_eq (sym e)) (lt_of_lt_of_le (mul-lt-mul_of_pos_right h (pow_pos lowest)) (le_of_eq (mul_right_comm (2 ^ suc bias) d (2 ^ lowest) ∙ ap (λ (x : ℕ). x * d) (sym (pow-add 2 (suc bias) lowest))))))

under_top : (y : Float) (w : ℕ) → T (fits binary64 y) → HasValue y false w (2 ^ lowest) → w < 2 ^ magnitude_digits
unfolding fits
under_top nan w h k = absurd k
under_top (inf s) w h k = absurd k
under_top (fin s zero e) w h k = finite_top 0 (up e) w (down e) k.1 (lt_of_le_of_lt (le_of_eq (zero-mul (up e))) (mul-pos (pow_pos (suc bias)) (down_pos e)))
under_top (fin s (suc m) e) w h k =
    finite_top (suc m) (up e) w (down e) k.1
    (ltb→lt (suc m * up e) (2 ^ suc bias * down e) (and_r (eqb (suc m % 2) 1 && ltb (suc m) (2 ^ 53) && leb (down e) (2 ^ lowest)) (ltb (suc m * up e) (2 ^ suc bias * down e)) h))

no_less : (w : ℕ) → w < 0 → ⊥
no_less w h = omega arith

some : (w v : ℕ) → w < 4 * (v * 2 ^ lowest) → 0 < v
some w zero h = absurd (no_less w h)
some w (suc v) h = zero-lt-suc v

pub nearest_only : (x y : Float) → T (fits binary64 x) → T (fits binary64 y) → NearestRoot x y → y ≡ square_root binary64 x
nearest_only x y hx hy n =
    let r = n.r in
    let K = n.k in
    let v = n.v in
    let vp : 0 < v = some (((2 * r - 1) * 2 ^ K) * ((2 * r - 1) * 2 ^ K)) v n.above in
    let one : 1 ≤ r = omega (arith, n.digits.low) in
    let lo : (2 * r - 1) * (2 * r - 1) * (2 ^ K * 2 ^ K) < 4 * (v * 2 ^ lowest) = lt_of_le_of_lt (le_of_eq (sym (mul-mul-mul_comm (2 * r - 1) (2 ^ K) (2 * r - 1) (2 ^ K)))) n.above in
    let hi : 4 * (v * 2 ^ lowest) < (2 * r + 1) * (2 * r + 1) * (2 ^ K * 2 ^ K) = lt_of_lt_of_le n.below (le_of_eq (mul-mul-mul_comm (2 * r + 1) (2 ^ K) (2 * r + 1) (2 ^ K))) in
    let s : square_root binary64 x ≡ units binary64 false r K = sqrt-value binary64 x v r K n.value vp one n.digits.high n.reached lo hi in
    let sv : HasValue (square_root binary64 x) false (r * 2 ^ K) (2 ^ lowest) =
    subst (λ (z : Float). HasValue z false (r * 2 ^ K) (2 ^ lowest)) (sym s) (units_val binary64 false r K (under_top y (r * 2 ^ K) hy n.rounded)) in
    let by : to_bits binary64 y ≡ K * 2 ^ 52 + r = pack binary64 y r K n.rounded n.digits.low n.digits.high in
    let bs : to_bits binary64 (square_root binary64 x) ≡ K * 2 ^ 52 + r = pack binary64 (square_root binary64 x) r K sv n.digits.low n.digits.high in
    sym (of_bits-to_bits binary64 y hy) ∙ ap (λ (z : ℕ). of_bits binary64 z) (by ∙ sym bs) ∙ of_bits-to_bits binary64 (square_root binary64 x) (sqrt_fits binary64 x hx)

-- ---- so of every value that is finite and above zero
odd_negative : (d q k l : ℕ) → T (positive (odd d true q k l)) → ⊥
unfolding odd
odd_negative d zero k l h = h
odd_negative d (suc q) k l h = h

negative-not : (x t : ℕ) → T (positive (of_fields binary64 true x t)) → ⊥
unfolding of_fields
negative-not zero t h = odd_negative 53 t 0 lowest h
negative-not (suc x) t h = go (eqb (suc x) top_field) (eqb t 0) h
  where
    go : (a b : Bool) → T (positive (cond a (cond b (inf true) nan) (odd 53 true (2 ^ 52 + t) x lowest))) → ⊥
    go true true g = g
    go true false g = g
    go false b g = odd_negative 53 (2 ^ 52 + t) x lowest g

special_not : (t : ℕ) → T (positive (of_fields binary64 false top_field t)) → ⊥
unfolding of_fields
special_not t h = neither (eqb t 0) h
  where
    neither : (none : Bool) → T (positive (cond none (inf false) nan)) → ⊥
    neither true g = g
    neither false g = g

zero_not : T (positive (of_bits binary64 0)) → ⊥
unfolding of_bits
zero_not h = h

pattern-low : (b : ℕ) → b < 2 ^ 64 → T (positive (of_bits binary64 b)) → b < infinity_bits
unfolding of_bits
pattern-low b top h = either (dec_le infinity_bits b)
  where
    sign : (c : Bool) → (T c → 2 ^ 63 ≤ b) → (T (not c) → b < 2 ^ 63) → T (positive (of_fields binary64 c (b % 2 ^ 63 / 2 ^ 52) (b % 2 ^ 52))) → infinity_bits ≤ b → ⊥
    sign true y z p l = negative-not (b % 2 ^ 63 / 2 ^ 52) (b % 2 ^ 52) p
    sign false y z p l =
        let u : b < 2 ^ 63 = z tt in
        let e : b % 2 ^ 63 / 2 ^ 52 ≡ top_field = omega arith in
        special_not (b % 2 ^ 52) (subst (λ (x : ℕ). T (positive (of_fields binary64 false x (b % 2 ^ 52)))) e p)

    either : Dec (infinity_bits ≤ b) → b < infinity_bits
    either (yes l) = absurd (sign (leb (2 ^ 63) b) (leb→le (2 ^ 63) b) (nleb→lt (2 ^ 63) b) h l)
    either (no l) = lt_of_not-le l

pattern-some : (b : ℕ) → T (positive (of_bits binary64 b)) → 0 < b
pattern-some zero h = absurd (zero_not h)
pattern-some (suc b) h = zero-lt-suc b

pub positive_nearest : (x : Float) → T (fits binary64 x) → T (positive x) → NearestRoot x (square_root binary64 x)
positive_nearest x h p =
    let e : of_bits binary64 (to_bits binary64 x) ≡ x = of_bits-to_bits binary64 x h in
    let q : T (positive (of_bits binary64 (to_bits binary64 x))) = subst (λ (y : Float). T (positive y)) (sym e) p in
    subst (λ (y : Float). NearestRoot y (square_root binary64 y)) e
    (pattern_nearest (to_bits binary64 x) (pattern-some (to_bits binary64 x) q) (pattern-low (to_bits binary64 x) (to_bits-lt binary64 x h) q))
