-- Where x or y is a zero or an infinity, or z is one, no rounding is lost (`odd_x`, `odd_y`, `zero_z`, `inf_z`); else `finite` gives the bits of the sum.
use Rattle.std.proofs.Common.{◌≡◌, ℕ, ◌*◌, ◌^◌, ◌≤◌, Bool, T, sym, ap, ◌∙◌, subst}
use lib.Ieee.{binary64, fits, unlike, sum}
use Rattle.binary64.specs.Pattern.{mag}
use Rattle.binary64.proofs.Reading.{sign_of, read-inf, read_zero, mag_pos}
use Rattle.binary64.proofs.Values.{fma-values}
use Rattle.fused_integer.proofs.Laws.Cases.{odd_x, odd_y, inf_z, zero_z, sum-read, plain_value}
use Rattle.binary64.specs.Format.{infinity_bits, lowest}
use Rattle.binary64.specs.Nearest.{den}
use Rattle.fused_integer.proofs.fused_numbers.Goals as goal

pub returns-then-not-plain : goal.returns-then-not-plain
returns-then-not-plain c =
    let held_x : T (fits binary64 c.args.x) = subst T (sym c.well_formed.0.1) tt in
    let m = c.magnitude-ax in
    odd_x c.args.x c.args.y c.args.z m.result held_x c.requires.t m.ensures
    (c.plain.ensures.1 c.if-not-plain.true)

pub returns-then-not-plain-2 : goal.returns-then-not-plain-2
returns-then-not-plain-2 c =
    let held_x : T (fits binary64 c.args.x) = subst T (sym c.well_formed.0.1) tt in
    let held-y : T (fits binary64 c.args.y) = subst T (sym c.well_formed.1.0.1) tt in
    let m = c.magnitude-ay in
    let mx = c.magnitude-ax in
    let px = c.plain in
    odd_y c.args.x c.args.y c.args.z (sign_of c.args.x) (mag mx.result) m.result
    (plain_value c.args.x mx.result held_x mx.ensures (px.ensures.0 c.if-not-plain.false).1)
    held-y c.requires.t_2 m.ensures (c.plain-2.ensures.1 c.if-not-plain-2.true)

pub returns-then-az-eq0 : goal.returns-then-az-eq0
returns-then-az-eq0 c =
    let held_x : T (fits binary64 c.args.x) = subst T (sym c.well_formed.0.1) tt in
    let held-y : T (fits binary64 c.args.y) = subst T (sym c.well_formed.1.0.1) tt in
    let held-z : T (fits binary64 c.args.z) = subst T (sym c.well_formed.1.1.0.1) tt in
    let mx = c.magnitude-ax in
    let my = c.magnitude-ay in
    let mz = c.magnitude-az in
    let px = c.plain in
    let py = c.plain-2 in
    let gx = px.ensures.0 c.if-not-plain.false in
    let gy = py.ensures.0 c.if-not-plain-2.false in
    zero_z c.args.x c.args.y c.args.z (sign_of c.args.x) (sign_of c.args.y) (sign_of c.args.z) (mag mx.result) (mag my.result)
    (plain_value c.args.x mx.result held_x mx.ensures gx.1) (plain_value c.args.y my.result held-y my.ensures gy.1)
    (mag_pos mx.result gx.0) (mag_pos my.result gy.0) (read_zero c.args.z held-z (sym mz.ensures ∙ c.if-az-eq0.true))

pub returns-then-az-ge-INFINITY_BITS : goal.returns-then-az-ge-INFINITY_BITS
returns-then-az-ge-INFINITY_BITS c =
    let held_x : T (fits binary64 c.args.x) = subst T (sym c.well_formed.0.1) tt in
    let held-y : T (fits binary64 c.args.y) = subst T (sym c.well_formed.1.0.1) tt in
    let held-z : T (fits binary64 c.args.z) = subst T (sym c.well_formed.1.1.0.1) tt in
    let mx = c.magnitude-ax in
    let my = c.magnitude-ay in
    let mz = c.magnitude-az in
    let px = c.plain in
    let py = c.plain-2 in
    let gx = px.ensures.0 c.if-not-plain.false in
    let gy = py.ensures.0 c.if-not-plain-2.false in
    inf_z c.args.x c.args.y c.args.z (sign_of c.args.x) (sign_of c.args.y) (sign_of c.args.z) (mag mx.result) (mag my.result)
    (plain_value c.args.x mx.result held_x mx.ensures gx.1) (plain_value c.args.y my.result held-y my.ensures gy.1)
    (read-inf c.args.z held-z c.requires.t_3 (subst (λ (w : ℕ). infinity_bits ≤ w) mz.ensures c.if-az-ge-INFINITY_BITS.true))

pub returns : goal.returns
returns c =
    let held_x : T (fits binary64 c.args.x) = subst T (sym c.well_formed.0.1) tt in
    let held-y : T (fits binary64 c.args.y) = subst T (sym c.well_formed.1.0.1) tt in
    let held-z : T (fits binary64 c.args.z) = subst T (sym c.well_formed.1.1.0.1) tt in
    let mx = c.magnitude-ax in
    let my = c.magnitude-ay in
    let mz = c.magnitude-az in
    let px = c.plain in
    let py = c.plain-2 in
    let gx = px.ensures.0 c.if-not-plain.false in
    let gy = py.ensures.0 c.if-not-plain-2.false in
    let n = mag mx.result * mag my.result in
    let p = mag mz.result * 2 ^ lowest in
    let sx : (unlike c.minus_sign.result c.minus_sign-2.result) ≡ unlike (sign_of c.args.x) (sign_of c.args.y) =
    ap (λ (w : Bool). unlike w c.minus_sign-2.result) c.minus_sign.ensures
    ∙ ap (λ (w : Bool). unlike (sign_of c.args.x) w) c.minus_sign-2.ensures in
    sum-read (unlike c.minus_sign.result c.minus_sign-2.result) c.minus_sign-3.result n p c.finite.result c.finite.ensures
    ∙ ap (λ (w : Bool). sum binary64 w n c.minus_sign-3.result p den) sx
    ∙ ap (λ (w : Bool). sum binary64 (unlike (sign_of c.args.x) (sign_of c.args.y)) n w p den) c.minus_sign-3.ensures
    ∙ fma-values c.args.x c.args.y c.args.z (sign_of c.args.x) (sign_of c.args.y) (sign_of c.args.z) (mag mx.result)
    (mag my.result) (mag mz.result)
    (plain_value c.args.x mx.result held_x mx.ensures gx.1) (plain_value c.args.y my.result held-y my.ensures gy.1)
    (plain_value c.args.z mz.result held-z mz.ensures c.if-az-ge-INFINITY_BITS.false)
