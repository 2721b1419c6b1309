-- `poor` counts the poor panels below `i`.
use mathlib.Core.Path.{◌≡◌}
use Rattle.lists.specs.Counting.{count_below}
use Rattle.mesh.specs.Columns.{viewed}
use Rattle.mesh.specs.Mesh.{triangle_nodes, is_poor}
use Rattle.mesh.proofs.count_poor.Given as goal

abbrev pub invariant-loop-i : goal.invariant-loop-i
invariant-loop-i l = l.poor ≡ count_below (λ k. is_poor (triangle_nodes (viewed l.mesh) k)) l.i
