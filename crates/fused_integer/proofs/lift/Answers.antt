-- The leading zero bits are one or two (`zeros_some`, `zeros_two`), and the shift is by one where they are two: `lift_law`.
use Rattle.std.proofs.Common.{◌^◌, ◌<◌, arith}
use Rattle.fused_integer.proofs.Laws.Shifts.{lift_law}
use Rattle.fused_integer.proofs.lift.Goals as goal

pub returns : goal.returns
returns c =
    let w = c.args.w in
    let fits : w.lo < 2 ^ 64 = omega arith in
    lift_law w.hi w.lo c.args.g c.requires.hi_bound.0 c.requires.hi_bound.1 fits c.requires.le_g
