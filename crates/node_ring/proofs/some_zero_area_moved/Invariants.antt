-- No panel of the moved mesh below `i` has passed the test; the first that does decides, and none does at the end.
use mathlib.Core.Path.{◌≡◌}
use mathlib.Core.Bool.{false}
use Prim.Native.Nat.{ℕ, ◌<◌}
use Rattle.mesh.specs.Mesh.{triangle_nodes, is_zero_area}
use Rattle.mesh.specs.Columns.{viewed}
use Rattle.node_ring.specs.Place.{moved_to}
use Rattle.node_ring.proofs.some_zero_area_moved.Given as goal

abbrev pub invariant-loop-i : goal.invariant-loop-i
invariant-loop-i l = (k : ℕ) → k < l.i → is_zero_area (triangle_nodes (moved_to (viewed l.mesh) l.v l.place) k) ≡ false
