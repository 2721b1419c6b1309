-- The size of a float's display value, out of the significand and the exponent of its pattern: above the largest from exponent 1042 on, 0 below exponent 980. Assumes nothing.
use mathlib.Core.Path.{◌≡◌, refl, sym, ap, ◌∙◌, subst}
use mathlib.Core.Bool.{Bool, true, false, cond, true≢false}
use Prim.Native.Nat.{ℕ, zero, suc, ◌+◌, ◌*◌, ◌/◌, ◌%◌, ◌^◌, ◌≤◌, ◌<◌}
use native.Mathlib.Nat.{le_trans, le_of_eq, lt_of_lt_of_le, lt_of_le_of_lt, le-div_iff_mul-le, mul-le-mul, mul-le-mul_left, mul-lt-mul_of_pos_right, mul_right_comm, not-suc-le-zero}
use native.Mathlib.Omega.{arith}
use borrow.Author.Tests.{lt-ltb, le-ltb, leb-false}
use lib.Dec.{T, leb, ltb, eqb}
use lib.IntN.{ℤ, pos, neg_ℤ, ◌-ℤ◌, +ℤ_idl}
use lib.Signed.{mag}
use mir.Syntax.{w64}
use mir.Val.{SFits, to_z, of_z}
use mir.Facts.{to_z_pos, to_z-of_z}
use lib.Pow.{pow_pos, pow_mono}
use lib.Ieee.{Float, nan, inf, fin, binary64, up, down, odd, is_nan, fits, of_fields, of_bits, to_bits}
use lib.Ieee.Bits.{of_bits-to_bits}
use lib.Ieee.Fits.{down_pos}
use lib.Ieee.Exact.{HasValue, odd_sign}
use lib.Ieee.Nearest.{closest, closest_same}
use Rattle.binary64.proofs.Whole.{closest_ge, closest_none}
use Rattle.binary64.specs.Pattern.{significand_at, significand_of, exponent_of}
use Rattle.binary64.proofs.Pattern.{opened, bits-value}
use Rattle.ieee754.specs.Ieee754.{abs, sign_bit}
use Rattle.ieee754.proofs.Signs.{sign_bit_lem}
use Rattle.refusal.specs.Checks.{first}
use Rattle.display.specs.Display.{nano, largest, nanohenries, out_of_range, display_refusal, with_sign, shown, Displayed}

-- x is finite and its size is n whole nanohenries
pub record SizeIs (x : Float) (n : ℕ) : Type 0 where
  pub range : out_of_range x ≡ ltb largest n
  pub value : shown x ≡ with_sign (sign_bit x) n

sized : (x : Float) (v : ℕ) → HasValue (abs x) false v (2 ^ 1074) → SizeIs x (nanohenries v (2 ^ 1074))
unfolding abs out_of_range shown sign_bit nanohenries
sized nan v h = absurd h
sized (inf s) v h = absurd h
sized (fin s m e) v h =
    let q : closest (m * up e * nano) (down e) ≡ closest (v * nano) (2 ^ 1074) =
    closest_same (m * up e * nano) (down e) (v * nano) (2 ^ 1074) (down_pos e) (pow_pos 1074)
    (mul_right_comm (m * up e) nano (2 ^ 1074) ∙ ap (λ (x : ℕ). x * nano) h.1 ∙ mul_right_comm v (down e) nano) in
    record { range = ap (ltb largest) q; value = ap (with_sign s) q }

pub from-pattern : (x : Float) (b : ℕ) → of_bits binary64 b ≡ abs x → exponent_of b ≤ 1041 → SizeIs x (nanohenries (significand_of b * 2 ^ exponent_of b) (2 ^ 1074))
from-pattern x b e h = sized x (significand_of b * 2 ^ exponent_of b) (subst (λ (y : Float). HasValue y false (significand_of b * 2 ^ exponent_of b) (2 ^ 1074)) e (bits-value b (omega arith)))

-- ---- large
exceeds : (t p : ℕ) → 2 ^ 52 ≤ t → 1042 ≤ p → ltb largest (nanohenries (t * 2 ^ p) (2 ^ 1074)) ≡ true
unfolding nanohenries
exceeds t p ht hp =
    let digits : suc largest * 2 ^ 32 ≤ t * nano = omega arith in
    let place : 2 ^ 1042 ≤ 2 ^ p = pow_mono hp in
    let both : suc largest * 2 ^ 1074 ≤ t * 2 ^ p * nano = le_trans (mul-le-mul digits place) (le_of_eq (mul_right_comm t nano (2 ^ p))) in
    let quotient : suc largest ≤ t * 2 ^ p * nano / 2 ^ 1074 = (le-div_iff_mul-le (pow_pos 1074)).1 both in
    lt-ltb largest _ (le_trans quotient (closest_ge (t * 2 ^ p * nano) (2 ^ 1074)))

fields_exceed : (x t : ℕ) → 1042 < x → t < 2 ^ 52 → out_of_range (of_fields binary64 false x t) ≡ true
unfolding of_fields
fields_exceed zero t h l = absurd (not-suc-le-zero h)
fields_exceed (suc x) t h l = go (eqb (suc x) 2047) (eqb t 0)
  where
    at : (y : Float) → HasValue y false ((2 ^ 52 + t) * 2 ^ x) (2 ^ 1074) → HasValue (abs y) false ((2 ^ 52 + t) * 2 ^ x) (2 ^ 1074)
    at nan v = absurd v
    at (inf s) v = absurd v
    at (fin s m e) v = unfold abs in (refl, v.1)

    go : (a b : Bool) → out_of_range (cond a (cond b (inf false) nan) (odd 53 false (2 ^ 52 + t) x 1074)) ≡ true
    go true true = unfold out_of_range in refl
    go true false = unfold out_of_range in refl
    go false b =
        let y = odd 53 false (2 ^ 52 + t) x 1074 in
        (sized y ((2 ^ 52 + t) * 2 ^ x) (at y (odd_sign 53 false (2 ^ 52 + t) x 1074))).range ∙ exceeds (2 ^ 52 + t) x (omega arith) (omega arith)

of_size : (x : Float) → out_of_range (abs x) ≡ out_of_range x
unfolding abs out_of_range
of_size nan = refl
of_size (inf s) = refl
of_size (fin s m e) = refl

pub too_large_lem : (x : Float) (b : ℕ) → b < 2 ^ 63 → of_bits binary64 b ≡ abs x → 1041 < exponent_of b → out_of_range x ≡ true
too_large_lem x b l e h =
    sym (of_size x) ∙ ap out_of_range (sym e ∙ opened b l) ∙ fields_exceed (b / 2 ^ 52) (b % 2 ^ 52) (omega arith) (omega arith)

-- ---- small
digits_bound : (x t : ℕ) → t < 2 ^ 52 → significand_at x t < 2 ^ 53
digits_bound zero t h = omega arith
digits_bound (suc x) t h = omega arith

pub too_small : (b : ℕ) → exponent_of b < 980 → nanohenries (significand_of b * 2 ^ exponent_of b) (2 ^ 1074) ≡ 0
unfolding nanohenries
too_small b h =
    let t = significand_of b in
    let p = exponent_of b in
    let few : t < 2 ^ 53 = digits_bound (b / 2 ^ 52) (b % 2 ^ 52) (omega arith) in
    let digits : t * nano * 2 < 2 ^ 84 = omega arith in
    let regroup : t * 2 ^ p * nano * 2 ≡ t * nano * 2 * 2 ^ p = ap (λ (x : ℕ). x * 2) (mul_right_comm t (2 ^ p) nano) ∙ mul_right_comm (t * nano) (2 ^ p) 2 in
    let below : t * nano * 2 * 2 ^ p < 2 ^ 84 * 2 ^ p = mul-lt-mul_of_pos_right digits (pow_pos p) in
    let le : p ≤ 990 = omega arith in
    let top : 2 ^ 84 * 2 ^ p ≤ 2 ^ 1074 = mul-le-mul_left (2 ^ 84) (pow_mono le) in
    closest_none (t * 2 ^ p * nano) (2 ^ 1074) (lt_of_le_of_lt (le_of_eq regroup) (lt_of_lt_of_le below top))

-- ---- from a float to its size's pattern
abs_fits : (x : Float) → T (fits binary64 x) → T (fits binary64 (abs x))
unfolding fits abs
abs_fits nan h = tt
abs_fits (inf s) h = tt
abs_fits (fin s zero e) h = h
abs_fits (fin s (suc m) e) h = h

abs-number : (x : Float) → is_nan x ≡ false → is_nan (abs x) ≡ false
unfolding is_nan abs
abs-number nan h = h
abs-number (inf s) h = refl
abs-number (fin s m e) h = refl

abs_sign : (x : Float) → sign_bit (abs x) ≡ false
unfolding sign_bit abs
abs_sign nan = refl
abs_sign (inf s) = refl
abs_sign (fin s m e) = refl

pub record Pattern (x : Float) (b : ℕ) : Type 0 where
  pub positive : b < 2 ^ 63
  pub stands : of_bits binary64 b ≡ abs x

pub number_of_size : (x y : Float) → y ≡ abs x → is_nan x ≡ false → is_nan y ≡ false
number_of_size x y e n = ap is_nan e ∙ abs-number x n

pub pattern : (x y : Float) → y ≡ abs x → T (fits binary64 x) → is_nan x ≡ false → Pattern x (to_bits binary64 y)
pattern x y e held n =
    let f = abs_fits x held in
    let s : leb (2 ^ 63) (to_bits binary64 (abs x)) ≡ false = sign_bit_lem (abs x) f (abs-number x n) ∙ abs_sign x in
    subst (λ (z : Float). Pattern x (to_bits binary64 z)) (sym e) (record { positive = leb-false (2 ^ 63) _ s; stands = of_bits-to_bits binary64 (abs x) f })

-- ---- the two answers
pub not_a_number : (x : Float) → is_nan x ≡ true → out_of_range x ≡ true
unfolding is_nan out_of_range
not_a_number nan h = refl
not_a_number (inf s) h = refl
not_a_number (fin s m e) h = absurd (true≢false (sym h))

pub refused : (x : Float) → out_of_range x ≡ true → Displayed x 16 (pos 0)
unfolding display_refusal first
refused x h = record { number = rw h; figure = refl }

pub accepted : (x : Float) (n : ℕ) (v : ℤ) → SizeIs x n → n ≤ largest → v ≡ with_sign (sign_bit x) n → Displayed x 0 v
unfolding display_refusal first
accepted x n v s h e = record { number = rw (s.range, le-ltb largest n h); figure = e ∙ sym s.value }

pub no_sign : (s : Bool) → pos 0 ≡ with_sign s 0
unfolding with_sign
no_sign true = refl
no_sign false = refl

-- ---- signed words
pub signed_fits : (n : ℕ) → n ≤ largest → SFits w64 (pos 0 -ℤ to_z w64 n)
signed_fits n h = rw (to_z_pos w64 (small n h), +ℤ_idl (neg_ℤ (pos n))) (record { sfits = size n h })
  where
    small : (n : ℕ) → n ≤ largest → n < 2 ^ 63
    small n h = omega arith

    size : (n : ℕ) → n ≤ largest → mag (neg_ℤ (pos n)) < 2 ^ 63
    size zero h = omega arith
    size (suc n) h = omega arith

pub in_word : (n : ℕ) → n ≤ largest → to_z w64 n ≡ pos n
in_word n h = to_z_pos w64 (small n h)
  where
    small : (n : ℕ) → n ≤ largest → n < 2 ^ 63
    small n h = omega arith

pub negative-word : (n : ℕ) → n ≤ largest → to_z w64 (of_z w64 (pos 0 -ℤ to_z w64 n)) ≡ neg_ℤ (pos n)
negative-word n h = to_z-of_z (signed_fits n h) ∙ ap (λ (z : ℤ). pos 0 -ℤ z) (in_word n h) ∙ +ℤ_idl (neg_ℤ (pos n))
