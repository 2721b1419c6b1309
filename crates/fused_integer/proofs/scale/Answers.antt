-- The significand in the upper word, and its exponent in the product's units: `scale_law`.
use Rattle.std.proofs.Common.{ℕ, ◌+◌, ◌<◌, ◌≤◌, arith}
use Rattle.binary64.specs.Pattern.{mag}
use Rattle.fused_integer.proofs.Laws.Combine.{scale_law}
use Rattle.binary64.specs.Format.{lowest}
use Rattle.fused_integer.proofs.scale.Goals as goal

pub returns : goal.returns
returns c =
    let z = c.unpack-z in
    (scale_law z.result.sig z.result.exp (mag c.args.az) z.ensures, far z.result.exp z.ensures.some)
  where
    far : (e : ℕ) → 1 ≤ e → lowest < e + lowest
    far e h = omega arith
