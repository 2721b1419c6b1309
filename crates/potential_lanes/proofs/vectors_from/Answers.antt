-- The three differences of a point's coordinates.
use Rattle.math.specs.Math.{sub3}
use Rattle.potential_lanes.proofs.vectors_from.Goals as goal

pub returns : goal.returns
unfolding sub3
returns c i m = rw (c.differences.ensures i m, c.differences-2.ensures i m, c.differences-3.ensures i m)
