-- Two floats of one sign and exponent, whose difference is exact: `residual_value`.
use Rattle.std.proofs.Common.{ℕ, ◌^◌, ◌<◌, arith}
use Rattle.fused_guided.proofs.Laws.Residual.{bits-number, residual_value}
use Rattle.fused_guided.proofs.residual_float.Goals as goal

half : (x : ℕ) → 2 ^ 51 < 2 ^ 52
half x = omega arith

pub float_from_bits-result : goal.float_from_bits-result
float_from_bits-result c =
    bits-number c.args.negative c.signed-top.result c.args.e c.args.f c.signed-top.ensures c.requires.f_bound c.requires.le_e.1

pub float_from_bits-result-2 : goal.float_from_bits-result-2
float_from_bits-result-2 c =
    bits-number c.args.negative c.signed-top.result c.args.e (2 ^ 51) c.signed-top.ensures (half 0) c.requires.le_e.1

pub returns : goal.returns
returns c =
    residual_value c.args.negative c.signed-top.result c.args.f c.args.e c.signed-top.ensures c.requires.f_bound c.requires.le_e.0 c.requires.le_e.1
