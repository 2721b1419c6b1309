-- A product of two significands has its leading digit at place 125 or 126, where `lift` brings it to 126: `multiply_law`.
use Rattle.binary64.specs.Pattern.{mag}
use Rattle.fused_integer.specs.Words.{words}
use Rattle.fused_integer.proofs.Laws.Combine.{multiply_law}
use Rattle.fused_integer.proofs.multiply.Goals as goal

pub returns : goal.returns
returns c =
    let x = c.unpack-x in
    let y = c.unpack-y in
    let p = c.product-w in
    let l = c.lift in
    multiply_law x.result.sig x.result.exp (mag c.args.ax) y.result.sig y.result.exp (mag c.args.ay)
    (words p.result) (words l.result.wide) l.result.exp
    x.ensures y.ensures p.ensures l.ensures
