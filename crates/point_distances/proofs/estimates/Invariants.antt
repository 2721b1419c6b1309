-- After k turns the first k estimates are in place.
use Prim.Native.Nat.{ℕ}
use Rattle.binary64.specs.Binary64.{at}
use Rattle.square_root.specs.Estimate.{root_estimate}
use Rattle.lists.proofs.Runs.{RunTo}
use Rattle.point_distances.proofs.estimates.Given as goal

abbrev pub invariant-loop-k : goal.invariant-loop-k
invariant-loop-k l = RunTo l.initial.out 0 l.count (λ (j : ℕ). root_estimate (at l.s j)) l.k l.out
