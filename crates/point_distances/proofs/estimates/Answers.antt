-- After k turns the first k estimates are in place.
use mathlib.Core.Path.{refl}
use native.Mathlib.Omega.{arith}
use Rattle.lists.proofs.Runs.{begun, front_further, all_run}
use Rattle.point_distances.proofs.estimates.Goals as goal

pub loop-k-preserved : goal.loop-k-preserved
loop-k-preserved c = front_further c.loop-k.invariant (omega arith) refl c.root_estimate.ensures

pub loop-k-init : goal.loop-k-init
loop-k-init c = begun (omega arith)

pub returns : goal.returns
returns c = all_run c.loop-k.invariant (omega arith)
