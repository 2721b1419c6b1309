-- The loops one after the other, at one index; then `angle_is`.
use Rattle.std.proofs.Common.{◌≡◌, ◌<◌, sym, ap, ◌∙◌, rules, arith}
use lib.Ieee.{is_nan}
use Rattle.binary64.specs.Binary64.{at}
use Rattle.elementary_lanes.specs.Lanes as Lanes
use Rattle.elementary_lanes.proofs.Arctangent.{angle_is}
use Rattle.elementary_lanes.proofs.Nans.{no_nan_at}
use Rattle.elementary_lanes.proofs.atan2s.Goals as goal

pub returns-then-has_nan : goal.returns-then-has_nan
returns-then-has_nan c i h = search (rules, c.each.ensures i h)

pub returns : goal.returns
returns c i h =
    let y = at c.args.y i in
    let x = at c.args.x i in
    let m : i < 8 = omega (arith, h) in
    let a : at c.each-r.result i ≡ Lanes.angle (at c.padded-a.result i) (at c.padded-b.result i) = search (rules, c.each-r.ensures i m) in
    let r : at c.each-r.result i ≡ Lanes.angle y x = a ∙ (λ j. Lanes.angle (c.padded-a.ensures i h j) (c.padded-b.ensures i h j)) in
    let f : at c.each-2.result i ≡ at c.each-r.result i = search (rules, c.each-2.ensures i h) in
    let n = no_nan_at c.each-r.result 7 i (omega arith) h (sym c.has_nan.ensures ∙ c.if-has_nan.false) in
    f ∙ r ∙ angle_is y x (ap is_nan (sym r) ∙ n)
