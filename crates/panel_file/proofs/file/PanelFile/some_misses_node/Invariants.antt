-- No panel below i has passed the test.
use mathlib.Core.Path.{◌≡◌}
use mathlib.Core.Bool.{false}
use Prim.Native.Nat.{ℕ, ◌<◌}
use Rattle.mesh.specs.Mesh.{triangle_indices, misses_node}
use Rattle.panel_file.specs.PanelFile.{decode}
use Rattle.panel_file.proofs.file.PanelFile.some_misses_node.Given as goal

abbrev pub invariant-loop-i : goal.invariant-loop-i
invariant-loop-i l = (k : ℕ) → k < l.i → misses_node l.self.nodes (triangle_indices (decode l.self.bytes.now) k) ≡ false
