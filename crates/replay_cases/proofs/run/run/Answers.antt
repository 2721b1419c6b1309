-- The counts are those of the cases so far, and the table's sum is of these.
use Rattle.std.proofs.Common.{◌∙◌, ap}
use Rattle.replay_cases.specs.Tally.{total, Reached}
use Rattle.replay_cases.proofs.Turns.{at_start, after_turn}
use Rattle.replay_cases.proofs.run.run.Goals.{else-loop-test, then-loop-test+then-not-replayed}
use Rattle.replay_cases.proofs.run.run.Goals as goal

pub loop-init : goal.loop-init
loop-init g c = at_start g.R.Replay.agrees c.none-tally.ensures

pub loop-preserved : goal.loop-preserved
loop-preserved g c = after_turn g.R.Replay.agrees c.replayed.ensures c.loop.invariant

pub returns : goal.returns
returns g c =
    let a = g.R.Replay.agrees in
    let t = c.loop-test.tally in
    let r : Reached a t.cases t.differ =
    elim c.loop-test.branch [ else-loop-test w ↦ rw w.tally-is c.loop.invariant | then-loop-test+then-not-replayed w ↦ rw w.tally-is (after_turn a w.replayed.ensures c.loop.invariant) ] in
    (r.0, c.table.ensures ∙ ap (λ l. total l 128) r.2)
