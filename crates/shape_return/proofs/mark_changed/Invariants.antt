-- The marks below `a` are those of the nodes that differ.
use mathlib.Core.Path.{◌≡◌}
use Prim.Native.Nat.{ℕ, ◌<◌}
use Rattle.mesh.specs.Columns.{viewed_nodes}
use Rattle.scatter.specs.Renewal.{marked}
use Rattle.shape_return.specs.Return.{differs}
use Rattle.shape_return.proofs.mark_changed.Given as goal

abbrev pub invariant-loop-a : goal.invariant-loop-a
invariant-loop-a l = (k : ℕ) → k < l.a → marked l.changed k ≡ differs (viewed_nodes l.nodes) (viewed_nodes l.shape) k
