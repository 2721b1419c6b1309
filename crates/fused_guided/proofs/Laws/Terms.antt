-- Three values as numbers of one unit. The digits u and v of two factors with central fields make the product u * v in units of 2 ^ (ex + ey - 2) over 2 ^ 2148; a value with the field e
-- has its last digit k places above the product's, where k + (ex + ey) ≡ e + 1075 (`terms`), and so `fma` is the sum of the two (`fma_terms`).
use Rattle.std.proofs.Common.{◌≡◌, ℕ, ◌+◌, ◌-◌, ◌*◌, ◌/◌, ◌%◌, ◌^◌, ◌<◌, ◌≤◌, T, sym, ap, ◌∙◌, subst, le_trans, le_of_eq, lt_of_le_of_lt, le_of_lt, mul-le-mul_right, mul_assoc, mul_left_comm, arith, pow_mono, pow-add}
use native.Mathlib.Nat.{mul-mod_left}
use lib.Ieee.{Float, binary64, unlike, sum, fits, to_bits}
use lib.Ieee.Exact.{HasValue}
use Rattle.binary64.specs.Operations.{fma}
use Rattle.binary64.proofs.Pattern.{significand-high}
use Rattle.binary64.specs.Pattern.{mag}
use Rattle.binary64.proofs.Reading.{sign_of, abs_of, read_plain}
use Rattle.binary64.proofs.Values.{fma-values}
use Rattle.fused_guided.specs.Guided.{field, normal_significand, central_from, central_to, residual_top}
use Rattle.fused_guided.proofs.Laws.Tests.{Factors}
use Rattle.binary64.specs.Format.{infinity_bits, lowest, quantum_bias, top_field}
use Rattle.binary64.specs.Nearest.{den}

-- ---- a pattern's magnitude

mag_is : (a e : ℕ) → a / 2 ^ 52 ≡ e → 1 ≤ e → mag a ≡ (2 ^ 52 + a % 2 ^ 52) * 2 ^ (e - 1)
unfolding mag
mag_is a e E h = ap (λ (y : ℕ). y * 2 ^ (a / 2 ^ 52 - 1)) (sym (significand-high a (least a e E h))) ∙ ap (λ (y : ℕ). (2 ^ 52 + a % 2 ^ 52) * 2 ^ (y - 1)) E
  where
    least : (a e : ℕ) → a / 2 ^ 52 ≡ e → 1 ≤ e → 2 ^ 52 ≤ a
    least a e E h = omega arith

pub field_lt : (b e : ℕ) → e ≡ b % 2 ^ 63 / 2 ^ 52 → e < 2048
field_lt b e h = omega arith

pub plain : (a e : ℕ) → e ≡ a / 2 ^ 52 → e < top_field → a < infinity_bits
plain a e h l = omega arith

pub significand_of_lem : (b e u : ℕ) → e ≡ b % 2 ^ 63 / 2 ^ 52 → 1 ≤ e → u ≡ 2 ^ 52 + b % 2 ^ 52 → u * 2 ^ (e - 1) ≡ mag (b % 2 ^ 63)
significand_of_lem b e u E h U =
    sym (mag_is (b % 2 ^ 63) e (sym E) h ∙ ap (λ (x : ℕ). (2 ^ 52 + x) * 2 ^ (e - 1)) (lib.Pow.mod-mod-pow b 11 52) ∙ ap (λ (x : ℕ). x * 2 ^ (e - 1)) (sym U))

-- the value of a pattern whose field is neither 0 nor an infinity's
pub normal-value : (t : Float) (e d : ℕ) → T (fits binary64 t) → e ≡ field (to_bits binary64 t) → 1 ≤ e → e < top_field → d ≡ normal_significand (to_bits binary64 t)
    → HasValue t (sign_of t) (d * 2 ^ (e - 1)) (2 ^ lowest)
normal-value t e d F E some few D =
    subst (λ (n : ℕ). HasValue t (sign_of t) n (2 ^ lowest)) (sym (significand_of_lem (to_bits binary64 t) e d E some D)) (read_plain t F (plain (abs_of t) e E few))

-- ---- digits and their places

pub significand_ge : (b u : ℕ) → u ≡ 2 ^ 52 + b % 2 ^ 52 → 2 ^ 52 ≤ u
significand_ge b u e = omega arith

pub significand-lt : (b u : ℕ) → u ≡ 2 ^ 52 + b % 2 ^ 52 → u < 2 ^ 53
significand-lt b u e = omega arith

-- in other units
pub units_shift : (a p q r s : ℕ) → p + q ≡ r + s → a * 2 ^ p * 2 ^ q ≡ a * 2 ^ r * 2 ^ s
units_shift a p q r s e =
    mul_assoc a (2 ^ p) (2 ^ q)
    ∙ ap (λ (y : ℕ). a * y) (sym (pow-add 2 p q) ∙ ap (λ (y : ℕ). 2 ^ y) e ∙ pow-add 2 r s)
    ∙ sym (mul_assoc a (2 ^ r) (2 ^ s))

pub product_units : (u v e d : ℕ) → 1 ≤ e → 1 ≤ d → u * 2 ^ (e - 1) * (v * 2 ^ (d - 1)) ≡ u * v * 2 ^ (e + d - 2)
product_units u v e d h k =
    sort u v (2 ^ (e - 1)) (2 ^ (d - 1)) ∙ ap (λ (x : ℕ). u * v * x) (sym (pow-add 2 (e - 1) (d - 1)) ∙ ap (λ (x : ℕ). 2 ^ x) (both e d h k))
  where
    sort : (u v a b : ℕ) → u * a * (v * b) ≡ u * v * (a * b)
    sort u v a b = simp (mul_assoc, mul_left_comm)

    both : (e d : ℕ) → 1 ≤ e → 1 ≤ d → e - 1 + (d - 1) ≡ e + d - 2
    both e d h k = omega arith

pub shift_even : (a i : ℕ) → 1 ≤ i → a * 2 ^ i % 2 ≡ 0
shift_even a i h =
    ap (λ (q : ℕ). a * 2 ^ q % 2) (one_more i h)
    ∙ ap (λ (q : ℕ). q % 2) (ap (λ (q : ℕ). a * q) (pow-add 2 (i - 1) 1) ∙ sym (mul_assoc a (2 ^ (i - 1)) 2))
    ∙ mul-mod_left (a * 2 ^ (i - 1)) 2
  where
    one_more : (i : ℕ) → 1 ≤ i → i ≡ i - 1 + 1
    one_more i h = omega arith

pub shift_ge : (a i j : ℕ) → 2 ^ 52 ≤ a → j ≤ 52 + i → 2 ^ j ≤ a * 2 ^ i
shift_ge a i j h k = le_trans (pow_mono k) (le_trans (le_of_eq (pow-add 2 52 i)) (mul-le-mul_right (2 ^ i) h))

pub product_lt : (u v : ℕ) → u < 2 ^ 53 → v < 2 ^ 53 → u * v < 2 ^ 106
product_lt u v h k = lt_of_le_of_lt (mul-le-mul_right v (le_of_lt h)) (most v k)
  where
    most : (v : ℕ) → v < 2 ^ 53 → 2 ^ 53 * v < 2 ^ 106
    most v h = omega arith

-- ---- the fields of two factors, and of a value k places above their product's last digit

one : (e : ℕ) → central_from ≤ e → 1 ≤ e
one e h = omega arith

few : (e : ℕ) → e < central_to → e < top_field
few e h = omega arith

pub unwrapped_k : (k ex ey ez : ℕ) → k < 64 → ex < central_to → ey < central_to → (k + (ex + ey)) % 2 ^ 64 ≡ ez + quantum_bias → k + (ex + ey) ≡ ez + quantum_bias
unwrapped_k k ex ey ez K X Y e = omega arith

module _ (k ex ey e : ℕ) (K : k + (ex + ey) ≡ e + quantum_bias) (ok : Factors ex ey) where
  pub place-some : 1 ≤ e
  place-some = omega (arith, ok.low_x, ok.low_y)

  pub place_few : k < 64 → e < top_field
  place_few h = omega (arith, ok.high_x, ok.high_y)

  pub place-units : e - 1 + lowest ≡ k + (ex + ey - 2)
  place-units = omega (arith, ok.low_x, ok.low_y)

-- the exponent that `residual_float` takes, `down` below the fields of the factors
pub record RestPlace (down ex ey : ℕ) : Type 0 where
  pub top : ex + ey ≤ 2 * central_to
  pub low : down ≤ ex + ey
  pub some : 1 ≤ ex + ey - down
  pub most : ex + ey - down < residual_top

pub rest-place : (down ex ey : ℕ) → 2 * central_to ≤ down + residual_top → down < 2 * central_from → Factors ex ey → RestPlace down ex ey
rest-place down ex ey h k ok =
    let lx = ok.low_x in
    let hx = ok.high_x in
    let ly = ok.low_y in
    let hy = ok.high_y in
    record { top = omega arith; low = omega arith; some = omega arith; most = omega arith }

-- ---- the three values

pub record Terms (x y z : Float) (ex ey ez k u v w : ℕ) : Type 0 where
  pub value_x : HasValue x (sign_of x) (u * 2 ^ (ex - 1)) (2 ^ lowest)
  pub value_y : HasValue y (sign_of y) (v * 2 ^ (ey - 1)) (2 ^ lowest)
  pub value_z : HasValue z (sign_of z) (w * 2 ^ (ez - 1)) (2 ^ lowest)
  pub product : u * 2 ^ (ex - 1) * (v * 2 ^ (ey - 1)) ≡ u * v * 2 ^ (ex + ey - 2)
  pub addend : w * 2 ^ (ez - 1) * 2 ^ lowest ≡ w * 2 ^ k * 2 ^ (ex + ey - 2)
  pub small : u * v < 2 ^ 106

module _ (x y z : Float) (FX : T (fits binary64 x)) (FY : T (fits binary64 y)) (FZ : T (fits binary64 z)) (ex ey ez k u v w : ℕ)
    (EX : ex ≡ field (to_bits binary64 x)) (EY : ey ≡ field (to_bits binary64 y)) (EZ : ez ≡ field (to_bits binary64 z)) (ok : Factors ex ey)
    (K : k + (ex + ey) ≡ ez + quantum_bias) (finite : ez < top_field) (U : u ≡ normal_significand (to_bits binary64 x)) (V' : v ≡ normal_significand (to_bits binary64 y))
    (W : w ≡ normal_significand (to_bits binary64 z)) where
  pub terms : Terms x y z ex ey ez k u v w
  terms =
      record {
        value_x = normal-value x ex u FX EX (one ex ok.low_x) (few ex ok.high_x) U;
        value_y = normal-value y ey v FY EY (one ey ok.low_y) (few ey ok.high_y) V';
        value_z = normal-value z ez w FZ EZ (place-some k ex ey ez K ok) finite W;
        product = product_units u v ex ey (one ex ok.low_x) (one ey ok.low_y);
        addend = units_shift w (ez - 1) lowest k (ex + ey - 2) (place-units k ex ey ez K ok);
        small = product_lt u v (significand-lt (to_bits binary64 x) u U) (significand-lt (to_bits binary64 y) v V');
      }

pub fma_terms : (x y z : Float) (ex ey ez k u v w : ℕ) → Terms x y z ex ey ez k u v w
    → sum binary64 (unlike (sign_of x) (sign_of y)) (u * v * 2 ^ (ex + ey - 2)) (sign_of z) (w * 2 ^ k * 2 ^ (ex + ey - 2)) den ≡ fma x y z
fma_terms x y z ex ey ez k u v w t =
    let s = unlike (sign_of x) (sign_of y) in
    ap (λ (n : ℕ). sum binary64 s n (sign_of z) (w * 2 ^ k * 2 ^ (ex + ey - 2)) den) (sym t.product)
    ∙ ap (λ (n : ℕ). sum binary64 s (u * 2 ^ (ex - 1) * (v * 2 ^ (ey - 1))) (sign_of z) n den) (sym t.addend)
    ∙ fma-values x y z (sign_of x) (sign_of y) (sign_of z) (u * 2 ^ (ex - 1)) (v * 2 ^ (ey - 1)) (w * 2 ^ (ez - 1)) t.value_x t.value_y t.value_z
