-- Where z is far above the product, `far_law`; else the integer form.
use Rattle.std.proofs.Common.{◌≡◌, ℕ, ◌^◌, Bool, true, T, sym, ap, ◌∙◌, subst}
use lib.Ieee.{binary64, fits, unlike}
use Rattle.fused_integer.specs.Jam.{Jam}
use Rattle.binary64.proofs.Reading.{sign_of}
use Rattle.fused_guided.proofs.Laws.Tests.{far_is}
use Rattle.fused_guided.proofs.Laws.Terms.{RestPlace, rest-place}
use Rattle.fused_guided.proofs.Laws.Far.{far_law}
use Rattle.fused_guided.specs.Guided.{far_above, cut_bias}
use Rattle.fused_guided.proofs.unguided.Goals as goal

place : (ex ey ez : ℕ) {r : Bool} → r ≡ far_above ex ey ez → r ≡ true → RestPlace cut_bias ex ey
place ex ey ez R e = let far = far_is ex ey ez R e in rest-place cut_bias ex ey (lib.Dec.lit≤ tt) (lib.Dec.lit< tt) far.factors

pub returns : goal.returns
returns c =
    let held_x : T (fits binary64 c.args.x) = subst T (sym c.well_formed.0.1) tt in
    let held-y : T (fits binary64 c.args.y) = subst T (sym c.well_formed.1.0.1) tt in
    let held-z : T (fits binary64 c.args.z) = subst T (sym c.well_formed.1.1.0.1) tt in
    let far = far_is c.field-ex.result c.field-ey.result c.field-ez.result c.far_above.ensures c.if-not-far_above.false in
    let minus = unlike c.minus_sign.result c.minus_sign-2.result in
    let sign : minus ≡ unlike (sign_of c.args.x) (sign_of c.args.y) =
    ap (λ (w : Bool). unlike w c.minus_sign-2.result) c.minus_sign.ensures
    ∙ ap (λ (w : Bool). unlike (sign_of c.args.x) w) c.minus_sign-2.ensures in
    let f = c.jam_product-f.result in
    far_law c.args.x c.args.y c.args.z held_x held-y held-z c.field-ex.result c.field-ey.result c.field-ez.result
    c.normal_significand.result c.normal_significand-2.result c.field-ex.ensures c.field-ey.ensures c.field-ez.ensures far c.normal_significand.ensures
    c.normal_significand-2.ensures
    minus f c.residual_float.result sign (subst (λ (w : ℕ). Jam w (2 ^ 55) f) c.product-p.ensures c.jam_product-f.ensures.0)
    c.jam_product-f.ensures.1 c.residual_float.ensures
