-- at is the place of the column so far, each at most 49 places behind the one before.
use Rattle.std.proofs.Common.{◌≡◌, refl, arith}
use Rattle.replay_columns.specs.Columns.{column_at}
use Rattle.replay_columns.proofs.Ends.{column_next}
use Rattle.replay_columns.proofs.columns.column_at.Goals as goal

pub loop-init : goal.loop-init
unfolding column_at
loop-init c = (refl, omega arith)

pub loop-preserved : goal.loop-preserved
loop-preserved c = (rw (column_next, ← c.loop.invariant.0) c.column_end-at.ensures.0, omega arith)
