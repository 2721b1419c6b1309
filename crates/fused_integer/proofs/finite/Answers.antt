-- The larger term gives the sign; equal terms of unlike signs are an exact zero. Each exit is a case of IEEE 754's sum (`finite_less`, `finite_alike`,
-- `finite_more`, `finite_none`).
use Rattle.std.proofs.Common.{◌*◌, ◌^◌, refl, ◌∙◌, le_antisymm}
use mathlib.Core.Bool.{beq}
use Rattle.binary64.specs.Pattern.{mag}
use Rattle.fused_integer.specs.Words.{words}
use Rattle.fused_integer.proofs.Laws.Meaning.{placed-lt, placed-le, combined-le, finite_less, finite_alike, finite_more, finite_none}
use Rattle.binary64.specs.Format.{lowest}
use Rattle.fused_integer.proofs.finite.Goals as goal

pub signed-requires : goal.signed-requires
signed-requires c = combined-le _ _ _ _ _ _ c.combine.ensures

pub signed-requires-then-same : goal.signed-requires-then-same
signed-requires-then-same c = combined-le _ _ _ _ _ _ c.combine-then-same.ensures

pub signed-requires-then-larger-2 : goal.signed-requires-then-larger-2
signed-requires-then-larger-2 c = combined-le _ _ _ _ _ _ c.combine-then-larger-2.ensures

pub returns-then-larger : goal.returns-then-larger
returns-then-larger c =
    let p = c.multiply-p in
    let z = c.scale-z in
    let l = c.larger.ensures.0 c.if-larger.true in
    let a = words p.result.wide in
    let b = words z.result.wide in
    let n = mag c.args.ax * mag c.args.ay in
    let k = mag c.args.az * 2 ^ lowest in
    finite_less c.args.np c.args.nz (beq c.args.np c.args.nz) a p.result.exp n b z.result.exp k c.combine.result c.signed.result
    p.ensures z.ensures.0 refl
    (placed-lt a p.result.exp n b z.result.exp k p.ensures z.ensures.0 l.0 l.1)
    c.combine.ensures c.signed.ensures

pub returns-then-same : goal.returns-then-same
returns-then-same c =
    let p = c.multiply-p in
    let z = c.scale-z in
    let a = words p.result.wide in
    let b = words z.result.wide in
    let n = mag c.args.ax * mag c.args.ay in
    let k = mag c.args.az * 2 ^ lowest in
    finite_alike c.args.np c.args.nz (beq c.args.np c.args.nz) a p.result.exp n b z.result.exp k c.combine-then-same.result c.signed-then-same.result
    p.ensures z.ensures.0 refl
    c.if-same.true c.combine-then-same.ensures c.signed-then-same.ensures

pub returns-then-larger-2 : goal.returns-then-larger-2
returns-then-larger-2 c =
    let p = c.multiply-p in
    let z = c.scale-z in
    let l = c.larger-else-same.ensures.0 c.if-larger-2.true in
    let a = words p.result.wide in
    let b = words z.result.wide in
    let n = mag c.args.ax * mag c.args.ay in
    let k = mag c.args.az * 2 ^ lowest in
    finite_more c.args.np c.args.nz (beq c.args.np c.args.nz) a p.result.exp n b z.result.exp k c.combine-then-larger-2.result c.signed-then-larger-2.result
    p.ensures z.ensures.0 refl
    c.if-same.false (placed-lt b z.result.exp k a p.result.exp n z.ensures.0 p.ensures l.0 l.1)
    c.combine-then-larger-2.ensures c.signed-then-larger-2.ensures

pub returns-else-larger-2 : goal.returns-else-larger-2
returns-else-larger-2 c =
    let p = c.multiply-p in
    let z = c.scale-z in
    let l₁ = c.larger.ensures.1 c.if-larger.false in
    let l₂ = c.larger-else-same.ensures.1 c.if-larger-2.false in
    let a = words p.result.wide in
    let b = words z.result.wide in
    let n = mag c.args.ax * mag c.args.ay in
    let k = mag c.args.az * 2 ^ lowest in
    c.signed-else-larger-2.ensures
    ∙ finite_none c.args.np c.args.nz (beq c.args.np c.args.nz) a p.result.exp n b z.result.exp k 0 0 p.ensures z.ensures.0 refl
    c.if-same.false
    (le_antisymm (placed-le a p.result.exp n b z.result.exp k p.ensures z.ensures.0 l₂.0 l₂.1)
    (placed-le b z.result.exp k a p.result.exp n z.ensures.0 p.ensures l₁.0 l₁.1))
