-- The counts are those of the cases so far.
use Rattle.replay_cases.specs.Tally.{Reached}
use Rattle.replay_cases.proofs.run.run.Given as goal

abbrev pub invariant-loop : goal.invariant-loop
invariant-loop g l = Reached g.R.Replay.agrees l.tally.cases l.tally.differ
