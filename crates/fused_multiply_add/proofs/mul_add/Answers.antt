-- With a zero as z the product is the answer (`lone_product_lem`). Else t is near the exact sum (`close`), so the residual fits one word; adding the residual, cut with
-- a sticky bit, rounds as the exact sum does (`residual_law`). Without the tests it is `guided`'s. A NaN among the three makes t one.
use Rattle.std.proofs.Common.{◌≡◌, not, T, sym, subst}
use lib.Ieee.{binary64, fits, unlike, add, mul, is_nan}
use Rattle.binary64.proofs.Pattern.{self_equal}
use Rattle.binary64.proofs.Reading.{sign_of}
use Rattle.fused_multiply_add.proofs.Laws.Numbers.{number_x, number_y, number_z}
use Rattle.fused_guided.proofs.Laws.Tests.{reach_is}
use Rattle.fused_multiply_add.proofs.Laws.Candidate.{close, residual_law}
use Rattle.fused_multiply_add.specs.Residual.{least_place}
use Rattle.fused_multiply_add.proofs.mul_add.Goals as goal

pub float_to_bits-bx : goal.float_to_bits-bx
float_to_bits-bx c =
    let number-t : T (not (is_nan (add binary64 (mul binary64 c.args.x c.args.y) c.args.z))) = self_equal (add binary64 (mul binary64 c.args.x c.args.y) c.args.z) c.if-t.false in
    number_x c.args.x c.args.y c.args.z number-t

pub float_to_bits-by : goal.float_to_bits-by
float_to_bits-by c =
    let number-t : T (not (is_nan (add binary64 (mul binary64 c.args.x c.args.y) c.args.z))) = self_equal (add binary64 (mul binary64 c.args.x c.args.y) c.args.z) c.if-t.false in
    number_y c.args.x c.args.y c.args.z number-t

pub float_to_bits-bz : goal.float_to_bits-bz
float_to_bits-bz c =
    let number-t : T (not (is_nan (add binary64 (mul binary64 c.args.x c.args.y) c.args.z))) = self_equal (add binary64 (mul binary64 c.args.x c.args.y) c.args.z) c.if-t.false in
    number_z c.args.x c.args.y c.args.z number-t

pub guided-requires : goal.guided-requires
guided-requires c =
    let number-t : T (not (is_nan (add binary64 (mul binary64 c.args.x c.args.y) c.args.z))) = self_equal (add binary64 (mul binary64 c.args.x c.args.y) c.args.z) c.if-t.false in
    record {
      t = number_x c.args.x c.args.y c.args.z number-t;
      t_2 = number_y c.args.x c.args.y c.args.z number-t;
      t_3 = number_z c.args.x c.args.y c.args.z number-t;
      t_4 = number-t;
    }

pub residual_word-g-requires-clause-fits : goal.residual_word-g-requires-clause-fits
residual_word-g-requires-clause-fits c =
    let held_x : T (fits binary64 c.args.x) = subst T (sym c.well_formed.0.1) tt in
    let held-y : T (fits binary64 c.args.y) = subst T (sym c.well_formed.1.0.1) tt in
    let held-z : T (fits binary64 c.args.z) = subst T (sym c.well_formed.1.1.0.1) tt in
    let ok = reach_is least_place c.field-ex.result c.field-ey.result c.wrapping_sub_u64-k.result c.wrapping_sub_u64-m.result c.reach.ensures c.if-not-reach.false in
    let nt = c.minus_sign-nt.result in
    let cp = unlike (unlike c.minus_sign.result c.minus_sign-2.result) nt in
    let cz = unlike c.minus_sign-3.result nt in
    let product-sign : cp ≡ unlike (unlike (sign_of c.args.x) (sign_of c.args.y)) nt = rw (c.minus_sign.ensures, c.minus_sign-2.ensures) in
    let addend-sign : cz ≡ unlike (sign_of c.args.z) nt = rw c.minus_sign-3.ensures in
    close c.args.x c.args.y c.args.z held_x held-y held-z c.field-ex.result c.field-ey.result c.field.result
    c.field-2.result
    c.wrapping_sub_u64-k.result c.wrapping_sub_u64-m.result c.normal_significand.result c.normal_significand-2.result c.normal_significand-3.result c.normal_significand-4.result
    c.field-ex.ensures c.field-ey.ensures c.field.ensures c.field-2.ensures c.wrapping_sub_u64-k.ensures.value
    c.wrapping_sub_u64-m.ensures.value ok c.normal_significand.ensures c.normal_significand-2.ensures c.normal_significand-3.ensures c.normal_significand-4.ensures
    nt cp cz c.minus_sign-nt.ensures product-sign addend-sign

pub returns : goal.returns
returns c =
    let held_x : T (fits binary64 c.args.x) = subst T (sym c.well_formed.0.1) tt in
    let held-y : T (fits binary64 c.args.y) = subst T (sym c.well_formed.1.0.1) tt in
    let held-z : T (fits binary64 c.args.z) = subst T (sym c.well_formed.1.1.0.1) tt in
    let ok = reach_is least_place c.field-ex.result c.field-ey.result c.wrapping_sub_u64-k.result c.wrapping_sub_u64-m.result c.reach.ensures c.if-not-reach.false in
    let nt = c.minus_sign-nt.result in
    let cp = unlike (unlike c.minus_sign.result c.minus_sign-2.result) nt in
    let cz = unlike c.minus_sign-3.result nt in
    let product-sign : cp ≡ unlike (unlike (sign_of c.args.x) (sign_of c.args.y)) nt = rw (c.minus_sign.ensures, c.minus_sign-2.ensures) in
    let addend-sign : cz ≡ unlike (sign_of c.args.z) nt = rw c.minus_sign-3.ensures in
    residual_law c.args.x c.args.y c.args.z held_x held-y held-z c.field-ex.result c.field-ey.result c.field.result
    c.field-2.result
    c.wrapping_sub_u64-k.result c.wrapping_sub_u64-m.result c.normal_significand.result c.normal_significand-2.result c.normal_significand-3.result c.normal_significand-4.result
    c.field-ex.ensures c.field-ey.ensures c.field.ensures c.field-2.ensures c.wrapping_sub_u64-k.ensures.value
    c.wrapping_sub_u64-m.ensures.value ok c.normal_significand.ensures c.normal_significand-2.ensures c.normal_significand-3.ensures c.normal_significand-4.ensures
    nt cp cz c.minus_sign-nt.ensures product-sign addend-sign
    c.residual_word-g.result c.jam_word.result c.residual_float.result c.residual_word-g.ensures c.jam_word.ensures.0 c.residual_float.ensures
