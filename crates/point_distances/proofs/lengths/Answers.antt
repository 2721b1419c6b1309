-- A turn writes the next number.
use Rattle.std.proofs.Common.{refl, arith}
use Rattle.lists.proofs.Runs.{begun, front_further, all_run}
use Rattle.point_distances.proofs.lengths.Goals as goal

pub loop-k-init : goal.loop-k-init
loop-k-init c = begun (omega arith)

pub loop-k-preserved : goal.loop-k-preserved
loop-k-preserved c = front_further c.loop-k.invariant (omega arith) refl c.length_of.ensures

pub shape_of-out : goal.shape_of-out
shape_of-out c = c.loop-k.invariant.long

pub returns : goal.returns
returns c = all_run c.loop-k.invariant (omega arith)
