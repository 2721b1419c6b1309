-- The float of a whole number that may be below zero, as the difference of the floats of two that are not: both are exact, so the difference rounds the exact one.
use mathlib.Core.Path.{◌≡◌, refl, sym, ap, ◌∙◌}
use mathlib.Core.Bool.{Bool, true, false, cond, true≢false}
use Prim.Native.Nat.{ℕ, suc, ◌*◌, ◌^◌, ◌-◌, ◌≤◌, ◌<◌}
use native.Mathlib.Nat.{mul_assoc, mul_comm, mul-one, mul-pos, mul-lt-mul_of_pos_right, mul-le-mul_right, mul-sub, zero-lt-suc}
use native.Mathlib.Omega.{arith}
use lib.Dec.{ltb}
use lib.IntN.{pos, sub_ℕ}
use lib.Ieee.{Float, nan, inf, fin, Format, binary64, prec, up, down, round, add, sub, sum, neg, of_int, of_bits}
use lib.Ieee.Fits.{down_pos}
use lib.Ieee.Exact.{HasValue}
use lib.Ieee.Back.{round_whole}
use lib.Ieee.Scale.{round_same}
use borrow.Author.Tests.{lt-ltb, le-ltb, ltb-true, ltb-false}

sub-mul : (a b c : ℕ) → (a - b) * c ≡ a * c - b * c
sub-mul a b c = mul_comm (a - b) c ∙ mul-sub c a b ∙ (λ i. mul_comm c a i - mul_comm c b i)

-- a and b over the denominator c
module _ (f : Format) (a b c : ℕ) (some : 0 < c) where
  less : a < b → sum f false (a * c) true (b * c) c ≡ of_int f (sub_ℕ a b)
  unfolding sum of_int
  less h =
      let e : b - a ≡ suc (b - suc a) = omega arith in
      let k : a * c < b * c = mul-lt-mul_of_pos_right h some in
      rw (lt-ltb (a * c) (b * c) k, lt-ltb a b h)
      (round_same f true (b * c - a * c) c (suc (b - suc a)) 1 some (zero-lt-suc 0) (mul-one (b * c - a * c) ∙ sym (sub-mul b a c) ∙ ap (λ (x : ℕ). x * c) e))

  more : b ≤ a → sum f false (a * c) true (b * c) c ≡ of_int f (sub_ℕ a b)
  unfolding sum of_int
  more h =
      let k : b * c ≤ a * c = mul-le-mul_right c h in
      rw (le-ltb (a * c) (b * c) k, le-ltb a b h)
      (round_same f false (a * c - b * c) c (a - b) 1 some (zero-lt-suc 0) (mul-one (a * c - b * c) ∙ sym (sub-mul a b c)))

  either : sum f false (a * c) true (b * c) c ≡ of_int f (sub_ℕ a b)
  either = go (ltb a b) refl
    where
      go : (t : Bool) → ltb a b ≡ t → sum f false (a * c) true (b * c) c ≡ of_int f (sub_ℕ a b)
      go true e = less (omega (arith, ltb-true a b e))
      go false e = more (omega (arith, ltb-false a b e))

difference : (f : Format) (x y : Float) (a b : ℕ) → HasValue x false a 1 → HasValue y false b 1 → sub f x y ≡ of_int f (sub_ℕ a b)
unfolding sub add neg
difference f nan y a b v w = absurd v
difference f (inf s) y a b v w = absurd v
difference f (fin s m e) nan a b v w = absurd w
difference f (fin s m e) (inf t) a b v w = absurd w
difference f (fin true m e) (fin t n d) a b v w = absurd (true≢false v.0)
difference f (fin false m e) (fin true n d) a b v w = absurd (true≢false w.0)
difference f (fin false m e) (fin false n d) a b v w =
    let p : m * up e * down d ≡ a * (down e * down d) = ap (λ (x : ℕ). x * down d) (sym (mul-one (m * up e)) ∙ v.1) ∙ mul_assoc a (down e) (down d) in
    let q : n * up d * down e ≡ b * (down e * down d) = ap (λ (x : ℕ). x * down e) (sym (mul-one (n * up d)) ∙ w.1) ∙ mul_assoc b (down d) (down e) ∙ ap (λ (x : ℕ). b * x) (mul_comm (down d) (down e)) in
    rw (p, q) (either f a b (down e * down d) (mul-pos (down_pos e) (down_pos d)))

whole_difference : (f : Format) (a b : ℕ) → a ≤ 2 ^ prec f → b ≤ 2 ^ prec f → sub f (of_int f (pos a)) (of_int f (pos b)) ≡ of_int f (sub_ℕ a b)
unfolding of_int
whole_difference f a b h k = difference f (round f false a 1) (round f false b 1) a b (round_whole f false a h) (round_whole f false b k)

-- 1074 as a bit pattern
the_bias : of_bits binary64 0x4090_c800_0000_0000 ≡ of_int binary64 (pos 1074)
unfolding of_bits of_int
the_bias = refl

pub exponent_steps : (e : ℕ) → e ≤ 2098 → sub binary64 (of_int binary64 (pos e)) (of_bits binary64 0x4090_c800_0000_0000) ≡ of_int binary64 (sub_ℕ e 1074)
exponent_steps e h = rw (the_bias) (whole_difference binary64 e 1074 (omega arith) (omega arith))

-- an exponent's field less 1023, or less 1022 where the significand is halved
the_offset : (h : Bool) → cond h (of_bits binary64 0x408f_f000_0000_0000) (of_bits binary64 0x408f_f800_0000_0000) ≡ of_int binary64 (pos (cond h 1022 1023))
unfolding of_bits of_int
the_offset true = refl
the_offset false = refl

at_most_1023 : (h : Bool) → cond h 1022 1023 ≤ 2 ^ prec binary64
at_most_1023 true = lib.Dec.lit≤ tt
at_most_1023 false = lib.Dec.lit≤ tt

pub field_steps : (f : ℕ) (h : Bool) → f ≤ 4095
    → sub binary64 (of_int binary64 (pos f)) (cond h (of_bits binary64 0x408f_f000_0000_0000) (of_bits binary64 0x408f_f800_0000_0000)) ≡ of_int binary64 (sub_ℕ f (cond h 1022 1023))
field_steps f h l = ap (sub binary64 (of_int binary64 (pos f))) (the_offset h) ∙ whole_difference binary64 f (cond h 1022 1023) (omega arith) (at_most_1023 h)
