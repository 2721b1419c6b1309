-- The first k lengths are in place.
use Rattle.std.proofs.Common.{ℕ}
use Rattle.math.specs.Math.{norm3}
use Rattle.lists.proofs.Runs.{RunTo}
use Rattle.point_distances.specs.Distances.{vector}
use Rattle.point_distances.proofs.lengths.Given as goal

abbrev pub invariant-loop-k : goal.invariant-loop-k
invariant-loop-k l = RunTo l.initial.out 0 l.count (λ (j : ℕ). norm3 (vector l.v j)) l.k l.out
