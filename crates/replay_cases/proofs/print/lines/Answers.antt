-- sum is the total of the first k.
use Rattle.std.proofs.Common.{refl}
use Rattle.replay_cases.specs.Tally.{total}
use Rattle.replay_cases.proofs.Totals.{total_more}
use Rattle.replay_cases.proofs.print.lines.Goals as goal

pub loop-k-init : goal.loop-k-init
unfolding total
loop-k-init c = refl

pub loop-k-preserved : goal.loop-k-preserved
loop-k-preserved c = rw (total_more, ← c.loop-k.invariant, ← c.line-sum.ensures)
