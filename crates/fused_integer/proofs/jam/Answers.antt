-- From 128 places on nothing is left but the sticky bit: `gone_law`.
use Rattle.std.proofs.Common.{◌^◌, ◌<◌, arith}
use Rattle.fused_integer.proofs.Laws.Words.{gone_law}
use Rattle.fused_integer.proofs.jam.Goals as goal

pub returns-else-d-lt128 : goal.returns-else-d-lt128
returns-else-d-lt128 c =
    let w = c.args.w in
    let hi_fits : w.hi < 2 ^ 64 = omega arith in
    let lo_fits : w.lo < 2 ^ 64 = omega arith in
    gone_law w.hi w.lo c.args.d hi_fits lo_fits c.if-d-lt128.false c.requires
