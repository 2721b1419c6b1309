-- No panel below `i` has passed the test.
use mathlib.Core.Path.{◌≡◌}
use mathlib.Core.Bool.{false}
use Prim.Native.Nat.{ℕ, ◌<◌}
use Rattle.mesh.specs.Columns.{viewed}
use Rattle.mesh.specs.Mesh.{triangle_nodes, is_zero_area}
use Rattle.mesh.proofs.some_zero_area.Given as goal

abbrev pub invariant-loop-i : goal.invariant-loop-i
invariant-loop-i l = (k : ℕ) → k < l.i → is_zero_area (triangle_nodes (viewed l.mesh) k) ≡ false
