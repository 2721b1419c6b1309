-- After j turns the first j differences from index start are in place.
use mathlib.Core.Path.{refl}
use native.Mathlib.Omega.{arith}
use Rattle.lists.proofs.Runs.{begun, one_further, all_run}
use Rattle.point_distances.proofs.difference_row.Goals as goal

pub loop-j-preserved : goal.loop-j-preserved
loop-j-preserved c = one_further c.loop-j.invariant (omega arith) refl refl

pub loop-j-init : goal.loop-j-init
loop-j-init c = begun (omega arith)

pub returns : goal.returns
returns c = all_run c.loop-j.invariant (omega arith)
