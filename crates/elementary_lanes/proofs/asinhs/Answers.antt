-- The loops one after the other, at one index; then `lane-or-asinh`.
use Rattle.std.proofs.Common.{◌≡◌, cond, ap, ◌∙◌, rules}
use lib.Ieee.{Float, is_nan}
use Rattle.binary64.specs.Binary64.{at}
use Rattle.ieee754.specs.Ieee754.{sqrt}
use Rattle.elementary.specs.Elementary as Spec
use Rattle.elementary_lanes.specs.Lanes as Lanes
use Rattle.elementary_lanes.proofs.Normal.{lane-or-asinh}
use Rattle.elementary_lanes.proofs.asinhs.Goals as goal

pub returns : goal.returns
returns c i h =
    let x = at c.args.x i in
    let s : at c.each-s.result i ≡ Lanes.radicand x = search (rules, c.each-s.ensures i h) in
    let q : at c.each-q.result i ≡ sqrt (at c.each-s.result i) = search (rules, c.each-q.ensures i h) in
    let w : at c.each-w.result i ≡ Lanes.excess x (at c.each-q.result i) = search (rules, c.each-w.ensures i h) in
    let r : at c.each-r.result i ≡ Lanes.lane x (at c.each-w.result i) = search (rules, c.each-r.ensures i h) in
    let a : at c.each.result i ≡ cond (is_nan (at c.each-r.result i)) (Spec.asinh x) (at c.each-r.result i) = search (rules, c.each.ensures i h) in
    a ∙ ap (λ (y : Float). cond (is_nan y) (Spec.asinh x) y) (r ∙ ap (Lanes.lane x) (w ∙ ap (Lanes.excess x) (q ∙ ap sqrt s))) ∙ lane-or-asinh x
