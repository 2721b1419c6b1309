-- at is the place of part j, each at most 81 places behind the one before.
use Rattle.std.proofs.Common.{◌≡◌, refl, arith}
use Rattle.replay_columns.specs.Store.{part_at}
use Rattle.replay_columns.proofs.Parts.{part_next}
use Rattle.replay_columns.proofs.store.part_at.Goals as goal

pub loop-j-init : goal.loop-j-init
unfolding part_at
loop-j-init c = (refl, omega arith)

pub loop-j-preserved : goal.loop-j-preserved
loop-j-preserved c = (rw (part_next, ← c.loop-j.invariant.0) c.part_end-at.ensures.0, omega arith)
