-- What a pattern says of its value: a finite one, an infinity, a zero (`read_plain`, `read-inf`, `read_zero`).
use mathlib.Core.Path.{◌≡◌, refl, sym, ap, ◌∙◌, subst}
use mathlib.Core.Bool.{Bool, true, false, not, cond}
use Prim.Native.Nat.{ℕ, zero, suc, ◌+◌, ◌-◌, ◌*◌, ◌/◌, ◌%◌, ◌^◌, ◌≤◌, ◌<◌}
use native.Mathlib.Nat.{mul-pos, mod-lt}
use native.Mathlib.Omega.{arith}
use lib.IntN.{pos}
use lib.Dec.{T, leb, eqb}
use lib.Pow.{pow_pos, mod-mod-pow}
use lib.Ieee.{Float, nan, inf, fin, binary64, odd, fits, is_nan, of_fields, of_bits, to_bits}
use lib.Ieee.Exact.{HasValue}
use lib.Ieee.Bits.{of_bits-to_bits}
use Rattle.binary64.specs.Pattern.{significand_at, significand_of, exponent_of, mag}
use Rattle.binary64.proofs.Pattern.{fields_value}
use Rattle.binary64.specs.Format.{infinity_bits, lowest, top_field}

-- ---- reading a pattern

abbrev pub sign_of : Float → Bool
sign_of x = leb (2 ^ 63) (to_bits binary64 x)

abbrev pub abs_of : Float → ℕ
abs_of x = to_bits binary64 x % 2 ^ 63

fields : (x : Float) → T (fits binary64 x) → of_fields binary64 (sign_of x) (abs_of x / 2 ^ 52) (abs_of x % 2 ^ 52) ≡ x
unfolding of_bits
fields x h = ap (λ (t : ℕ). of_fields binary64 (sign_of x) (abs_of x / 2 ^ 52) t) (mod-mod-pow (to_bits binary64 x) 11 52) ∙ of_bits-to_bits binary64 x h

pub read_plain : (x : Float) → T (fits binary64 x) → abs_of x < infinity_bits → HasValue x (sign_of x) (mag (abs_of x)) (2 ^ lowest)
unfolding mag
read_plain x h l =
    subst (λ (v : Float). HasValue v (sign_of x) (significand_of (abs_of x) * 2 ^ exponent_of (abs_of x)) (2 ^ lowest)) (fields x h)
    (fields_value (sign_of x) (abs_of x / 2 ^ 52) (abs_of x % 2 ^ 52) (field (abs_of x) l))
  where
    field : (a : ℕ) → a < infinity_bits → a / 2 ^ 52 < top_field
    field a h = omega arith

fields_top : (s : Bool) (e t : ℕ) → e ≡ top_field → T (not (is_nan (of_fields binary64 s e t))) → of_fields binary64 s e t ≡ inf s
unfolding of_fields is_nan
fields_top s zero t e n = absurd (never e)
  where
    never : ◌≡◌ {A = ℕ} 0 top_field → ⊥
    never e = omega arith
fields_top s (suc x) t e n = go (eqb (suc x) top_field) (eqb t 0) (subst (λ (y : ℕ). T (eqb y top_field)) (sym e) tt) n
  where
    go : (a b : Bool) → T a → T (not (is_nan (cond a (cond b (inf s) nan) (odd 53 s (2 ^ 52 + t) x lowest))))
        → cond a (cond b (inf s) nan) (odd 53 s (2 ^ 52 + t) x lowest) ≡ inf s
    go true true t n = refl
    go true false t n = absurd n
    go false b t n = absurd t

pub read-inf : (x : Float) → T (fits binary64 x) → T (not (is_nan x)) → infinity_bits ≤ abs_of x → x ≡ inf (sign_of x)
read-inf x h n l =
    sym (fields x h) ∙ fields_top (sign_of x) (abs_of x / 2 ^ 52) (abs_of x % 2 ^ 52) (field (abs_of x) l (mod-lt (to_bits binary64 x) (pow_pos 63)))
    (subst (λ (v : Float). T (not (is_nan v))) (sym (fields x h)) n)
  where
    field : (a : ℕ) → infinity_bits ≤ a → a < 2 ^ 63 → a / 2 ^ 52 ≡ top_field
    field a h l = omega arith

fields_zero : (s : Bool) → of_fields binary64 s 0 0 ≡ fin s 0 (pos 0)
unfolding of_fields odd
fields_zero s = refl

pub read_zero : (x : Float) → T (fits binary64 x) → abs_of x ≡ 0 → x ≡ fin (sign_of x) 0 (pos 0)
read_zero x h e = sym (fields x h) ∙ ap (λ (a : ℕ). of_fields binary64 (sign_of x) (a / 2 ^ 52) (a % 2 ^ 52)) e ∙ fields_zero (sign_of x)

pub mag_pos : (a : ℕ) → 0 < a → 0 < mag a
unfolding mag
mag_pos a h = mul-pos (go (a / 2 ^ 52) refl) (pow_pos (a / 2 ^ 52 - 1))
  where
    low_pos : (a : ℕ) → 0 < a → a / 2 ^ 52 ≡ 0 → 0 < a % 2 ^ 52
    low_pos a h e = omega arith

    some : (t : ℕ) → 0 < 2 ^ 52 + t
    some t = omega arith

    go : (e : ℕ) → a / 2 ^ 52 ≡ e → 0 < significand_at e (a % 2 ^ 52)
    go zero e = low_pos a h e
    go (suc x) e = some (a % 2 ^ 52)
