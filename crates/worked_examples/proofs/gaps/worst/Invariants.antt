-- worst is the worst of the first k rows.
use Rattle.std.proofs.Common.{◌≡◌}
use Rattle.worked_examples.specs.Gaps.{worst}
use Rattle.worked_examples.proofs.gaps.worst.Given as goal

abbrev pub ghost-row_gap : goal.ghost-row_gap
ghost-row_gap g a = g.f

abbrev pub invariant-loop-k : goal.invariant-loop-k
invariant-loop-k g l = l.worst ≡ worst g.f l.table l.k
