-- worst is the worst of the first k rows.
use Rattle.std.proofs.Common.{◌≡◌, refl, arith}
use Rattle.worked_examples.specs.Gaps.{worst}
use Rattle.worked_examples.proofs.Worst.{worst_turned}
use Rattle.worked_examples.proofs.gaps.worst.Goals as goal

pub loop-k-init : goal.loop-k-init
unfolding worst
loop-k-init g c = refl

pub loop-k-preserved : goal.loop-k-preserved
loop-k-preserved g c =
    worst_turned g.f c.args.table.now c.loop-k.k c.loop-k.invariant c.row_gap.ensures c.max-worst.ensures

pub returns : goal.returns
returns g c =
    let l = c.loop-k in
    let e : l.k ≡ 24 = omega arith in
    rw (← e) l.invariant
