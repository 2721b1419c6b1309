-- No panel below `i` has passed the test.
use mathlib.Core.Path.{◌≡◌}
use mathlib.Core.Bool.{false}
use Prim.Native.Nat.{ℕ, ◌<◌}
use Rattle.mesh.specs.Columns.{viewed_panels}
use Rattle.mesh.specs.Mesh.{triangle_indices, misses_node}
use Rattle.mesh.proofs.some_misses_node.Given as goal

abbrev pub invariant-loop-i : goal.invariant-loop-i
invariant-loop-i l = (k : ℕ) → k < l.i → misses_node l.n (triangle_indices (viewed_panels l.panels) k) ≡ false
