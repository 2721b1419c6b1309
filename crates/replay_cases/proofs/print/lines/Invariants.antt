-- sum is the total of the first k.
use Rattle.std.proofs.Common.{◌≡◌}
use Rattle.replay_cases.specs.Tally.{total}
use Rattle.replay_cases.proofs.print.lines.Given as goal

abbrev pub invariant-loop-k : goal.invariant-loop-k
invariant-loop-k l = l.sum ≡ total l.tally.differ l.k
