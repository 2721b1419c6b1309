-- After i turns the first i rows are in place; a row is a run of n turns (`row_next`).
use mathlib.Core.Path.{◌≡◌}
use Prim.Native.Nat.{◌*◌}
use Rattle.lists.specs.Filling.{run}
use Rattle.point_distances.specs.Distances.{difference}
use Rattle.point_distances.proofs.differences.Given as goal

abbrev pub invariant-loop-i : goal.invariant-loop-i
invariant-loop-i l = l.out ≡ run l.initial.out 0 (l.n * l.n) (difference l.a l.x l.n) (l.i * l.n)
