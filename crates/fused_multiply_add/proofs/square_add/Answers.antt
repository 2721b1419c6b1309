-- `mul_add`'s argument with two equal factors and no minus sign: neither the square nor z has one, so t has none (`t_plus`).
use Rattle.std.proofs.Common.{◌≡◌, Bool, true, false, not, T, sym, refl, ap, ◌∙◌, subst}
use lib.Ieee.{binary64, fits, unlike, add, mul, is_nan}
use Rattle.binary64.proofs.Pattern.{self_equal}
use Rattle.binary64.proofs.Reading.{sign_of}
use Rattle.fused_multiply_add.proofs.Laws.Numbers.{number_x, number_z}
use Rattle.fused_guided.proofs.Laws.Tests.{reach_is}
use Rattle.fused_multiply_add.proofs.Laws.Candidate.{t_plus, close, residual_law}
use Rattle.fused_multiply_add.specs.Residual.{least_place}
use Rattle.fused_multiply_add.proofs.square_add.Goals as goal

-- the square has no minus sign, nor has z
square-plus : (s : Bool) → unlike s s ≡ false
square-plus true = refl
square-plus false = refl

product-sign : (s : Bool) → false ≡ unlike (unlike s s) false
product-sign s = sym (ap (λ (b : Bool). unlike b false) (square-plus s))

addend-sign : (s : Bool) → s ≡ false → false ≡ unlike s false
addend-sign s e = sym (ap (λ (b : Bool). unlike b false) e)

pub float_to_bits-bx : goal.float_to_bits-bx
float_to_bits-bx c =
    number_x c.args.x c.args.x c.args.z (self_equal (add binary64 (mul binary64 c.args.x c.args.x) c.args.z) c.if-t.false)

pub float_to_bits-bz : goal.float_to_bits-bz
float_to_bits-bz c =
    number_z c.args.x c.args.x c.args.z (self_equal (add binary64 (mul binary64 c.args.x c.args.x) c.args.z) c.if-t.false)

pub guided-requires : goal.guided-requires
guided-requires c =
    let number-t : T (not (is_nan (add binary64 (mul binary64 c.args.x c.args.x) c.args.z))) = self_equal (add binary64 (mul binary64 c.args.x c.args.x) c.args.z) c.if-t.false in
    let number-x = number_x c.args.x c.args.x c.args.z number-t in
    record { t = number-x; t_2 = number-x; t_3 = number_z c.args.x c.args.x c.args.z number-t; t_4 = number-t }

pub residual_word-g-requires-clause-fits : goal.residual_word-g-requires-clause-fits
residual_word-g-requires-clause-fits c =
    let held_x : T (fits binary64 c.args.x) = subst T (sym c.well_formed.0.1) tt in
    let held-z : T (fits binary64 c.args.z) = subst T (sym c.well_formed.1.0.1) tt in
    let ok = reach_is least_place c.field-ex.result c.field-ex.result c.wrapping_sub_u64-k.result c.wrapping_sub_u64-m.result c.reach.ensures c.if-not-reach.false in
    let z-plus : sign_of c.args.z ≡ false = sym c.minus_sign.ensures ∙ c.if-minus_sign.false in
    let t-sign : sign_of (add binary64 (mul binary64 c.args.x c.args.x) c.args.z) ≡ false = t_plus c.args.x c.args.x c.args.z held_x held_x held-z c.field-ex.result c.field-ex.result c.field-ez.result c.field-et.result c.wrapping_sub_u64-k.result c.wrapping_sub_u64-m.result c.normal_significand-u.result c.normal_significand-u.result c.normal_significand.result c.normal_significand-2.result c.field-ex.ensures c.field-ex.ensures c.field-ez.ensures c.field-et.ensures c.wrapping_sub_u64-k.ensures.value c.wrapping_sub_u64-m.ensures.value ok c.normal_significand-u.ensures c.normal_significand-u.ensures c.normal_significand.ensures c.normal_significand-2.ensures (square-plus (sign_of c.args.x)) z-plus in
    close c.args.x c.args.x c.args.z held_x held_x held-z c.field-ex.result c.field-ex.result c.field-ez.result
    c.field-et.result
    c.wrapping_sub_u64-k.result c.wrapping_sub_u64-m.result c.normal_significand-u.result c.normal_significand-u.result c.normal_significand.result
    c.normal_significand-2.result
    c.field-ex.ensures c.field-ex.ensures c.field-ez.ensures c.field-et.ensures c.wrapping_sub_u64-k.ensures.value
    c.wrapping_sub_u64-m.ensures.value
    ok c.normal_significand-u.ensures c.normal_significand-u.ensures c.normal_significand.ensures c.normal_significand-2.ensures false false false
    (sym t-sign) (product-sign (sign_of c.args.x)) (addend-sign (sign_of c.args.z) z-plus)

pub returns : goal.returns
returns c =
    let held_x : T (fits binary64 c.args.x) = subst T (sym c.well_formed.0.1) tt in
    let held-z : T (fits binary64 c.args.z) = subst T (sym c.well_formed.1.0.1) tt in
    let ok = reach_is least_place c.field-ex.result c.field-ex.result c.wrapping_sub_u64-k.result c.wrapping_sub_u64-m.result c.reach.ensures c.if-not-reach.false in
    let z-plus : sign_of c.args.z ≡ false = sym c.minus_sign.ensures ∙ c.if-minus_sign.false in
    let t-sign : sign_of (add binary64 (mul binary64 c.args.x c.args.x) c.args.z) ≡ false = t_plus c.args.x c.args.x c.args.z held_x held_x held-z c.field-ex.result c.field-ex.result c.field-ez.result c.field-et.result c.wrapping_sub_u64-k.result c.wrapping_sub_u64-m.result c.normal_significand-u.result c.normal_significand-u.result c.normal_significand.result c.normal_significand-2.result c.field-ex.ensures c.field-ex.ensures c.field-ez.ensures c.field-et.ensures c.wrapping_sub_u64-k.ensures.value c.wrapping_sub_u64-m.ensures.value ok c.normal_significand-u.ensures c.normal_significand-u.ensures c.normal_significand.ensures c.normal_significand-2.ensures (square-plus (sign_of c.args.x)) z-plus in
    residual_law c.args.x c.args.x c.args.z held_x held_x held-z c.field-ex.result c.field-ex.result c.field-ez.result
    c.field-et.result
    c.wrapping_sub_u64-k.result c.wrapping_sub_u64-m.result c.normal_significand-u.result c.normal_significand-u.result c.normal_significand.result c.normal_significand-2.result
    c.field-ex.ensures c.field-ex.ensures c.field-ez.ensures c.field-et.ensures c.wrapping_sub_u64-k.ensures.value c.wrapping_sub_u64-m.ensures.value
    ok c.normal_significand-u.ensures c.normal_significand-u.ensures c.normal_significand.ensures c.normal_significand-2.ensures false false false
    (sym t-sign) (product-sign (sign_of c.args.x)) (addend-sign (sign_of c.args.z) z-plus) c.residual_word-g.result c.jam_word.result
    c.residual_float.result c.residual_word-g.ensures c.jam_word.ensures.0 c.residual_float.ensures
