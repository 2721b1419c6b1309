-- What is no NaN, not below zero, not zero and not infinite has a pattern above 0 and below an infinity’s.
use mathlib.Core.Path.{◌≡◌, refl, sym, ap, ◌∙◌, subst}
use mathlib.Core.Bool.{Bool, true, false, cond, ◌||◌, true≢false, false≢true}
use Prim.Native.Nat.{ℕ, zero, suc, ◌+◌, ◌*◌, ◌/◌, ◌%◌, ◌^◌, ◌≤◌, ◌<◌}
use native.Mathlib.Nat.{zero-mul, lt_of_not-le}
use native.Mathlib.Omega.{arith}
use lib.Dec.{T, eqb}
use lib.Ieee.{Float, nan, inf, fin, binary64, up, down, below, level, odd, lt, eq, is_nan, fits, of_fields, of_bits, to_bits}
use lib.Ieee.Bits.{of_bits-to_bits}
use borrow.Author.Tests.{ltb-false, leb-false, eq-eqb}
use Rattle.binary64.proofs.Pattern.{opened}
use Rattle.binary64.specs.Binary64.{plus_zero}
use Rattle.ieee754.specs.Ieee754.{sign_bit}
use Rattle.ieee754.proofs.Signs.{sign_bit_lem}

-- −a is below +b or equal to it
not-below : (a b : ℕ) → b ≡ 0 → below true a false b ≡ false → level true a false b ≡ false → ⊥
not-below a b e h g =
    let l : a + b ≤ 0 = ltb-false 0 (a + b) h in
    let p : a ≡ 0 = omega arith in
    let t : level true a false b ≡ true = rw (p, e) in
    true≢false (sym t ∙ g)

not_negative : (x : Float) → is_nan x ≡ false → lt x plus_zero ≡ false → eq x plus_zero ≡ false → sign_bit x ≡ false
unfolding sign_bit is_nan lt eq of_bits
not_negative nan n l e = absurd (true≢false n)
not_negative (inf true) n l e = absurd (true≢false l)
not_negative (inf false) n l e = refl
not_negative (fin true m d) n l e = absurd (not-below (m * up d * 1) (0 * 1 * down d) (zero-mul (down d)) l e)
not_negative (fin false m d) n l e = refl

-- a field of all ones is an infinity's or a NaN's
all_ones : (x t : ℕ) → x ≡ 2047 → is_nan (of_fields binary64 false x t) || eq (of_fields binary64 false x t) (inf false) ≡ true
unfolding of_fields
all_ones zero t e = absurd (no e)
  where
    no : ◌≡◌ {A = ℕ} 0 2047 → ⊥
    no e = omega arith
all_ones (suc x) t e = go (eqb (suc x) 2047) (eqb t 0) (eq-eqb (suc x) 2047 e)
  where
    go : (a b : Bool) → a ≡ true → is_nan (cond a (cond b (inf false) nan) (odd 53 false (2 ^ 52 + t) x 1074)) || eq (cond a (cond b (inf false) nan) (odd 53 false (2 ^ 52 + t) x 1074)) (inf false) ≡ true
    go true true h = unfold is_nan eq in refl
    go true false h = unfold is_nan in refl
    go false b h = absurd (false≢true h)

zero_is_zero : eq (of_bits binary64 0) plus_zero ≡ true
unfolding eq of_bits
zero_is_zero = refl

module _ (x : Float) (held : T (fits binary64 x)) (n : is_nan x ≡ false) (l : lt x plus_zero ≡ false) (e : eq x plus_zero ≡ false) (i : eq x (inf false) ≡ false) where
  abbrev b : ℕ
  b = to_bits binary64 x

  back : of_bits binary64 b ≡ x
  back = of_bits-to_bits binary64 x held

  clear : b < 2 ^ 63
  clear = leb-false (2 ^ 63) b (sign_bit_lem x held n ∙ not_negative x n l e)

  pub above_zero : 0 < b
  above_zero = lt_of_not-le (λ (h : b ≤ 0). let z : b ≡ 0 = omega arith in true≢false (sym zero_is_zero ∙ ap (λ (y : Float). eq y plus_zero) (ap (λ (k : ℕ). of_bits binary64 k) (sym z) ∙ back) ∙ e))

  pub under_infinity : b < 0x7ff0_0000_0000_0000
  under_infinity =
      lt_of_not-le (λ (h : 0x7ff0_0000_0000_0000 ≤ b).
      let c : b < 2 ^ 63 = clear in
      let f : b / 2 ^ 52 ≡ 2047 = omega arith in
      let t : is_nan x || eq x (inf false) ≡ true = subst (λ (y : Float). is_nan y || eq y (inf false) ≡ true) (sym (opened b c) ∙ back) (all_ones (b / 2 ^ 52) (b % 2 ^ 52) f) in
      let g : is_nan x || eq x (inf false) ≡ false = rw (n, i) in
      true≢false (sym t ∙ g))
