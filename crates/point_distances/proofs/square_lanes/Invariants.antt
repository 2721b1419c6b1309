-- After k turns the first k squares are in place, each the square of its vector's length or NaN.
use Prim.Native.Nat.{ℕ, ◌<◌}
use Rattle.lists.proofs.Runs.{RunTo}
use Rattle.length_lanes.specs.Length.{SquareOf, square_at}
use Rattle.point_distances.specs.Distances.{vector}
use Rattle.point_distances.proofs.square_lanes.Given as goal

abbrev pub invariant-loop-k : goal.invariant-loop-k
invariant-loop-k l = RunTo l.initial.out 0 l.count (square_at l.v.x l.v.y l.v.z) l.k l.out
    × ((j : ℕ) → j < l.k → SquareOf (vector l.v j) (square_at l.v.x l.v.y l.v.z j))
