-- The upper word gets what leaves the lower one, by `more_law`.
use Rattle.std.proofs.Common.{◌*◌, ◌^◌, ◌<◌, mod-lt, arith, pow_pos}
use Rattle.fused_guided.proofs.Laws.Wide.{more_law}
use Rattle.fused_guided.proofs.shift_more.Goals as goal

pub returns : goal.returns
returns c =
    let w = c.args.w in
    let fits : w.lo < 2 ^ 64 = omega arith in
    (more_law w.hi w.lo c.args.s fits c.requires.le_s.1 c.requires.hi_bound, mod-lt (w.lo * 2 ^ c.args.s) (pow_pos 64))
