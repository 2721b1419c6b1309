-- The marks are those that were and the rings of the panels below `p`.
use mathlib.Core.Path.{◌≡◌}
use mathlib.Core.Bool.{◌||◌}
use Prim.Native.Nat.{ℕ}
use Rattle.lists.specs.Counting.{some_below}
use Rattle.mesh.specs.Columns.{viewed_panels}
use Rattle.scatter.specs.Renewal.{marked}
use Rattle.node_ring.specs.Ring.{joins}
use Rattle.node_ring.proofs.mark_rings.Given as goal

abbrev pub invariant-loop-p : goal.invariant-loop-p
invariant-loop-p l = (a : ℕ) → marked l.marks a ≡ (marked l.initial.marks a || some_below (joins (viewed_panels l.panels) (marked l.changed) a) l.p)
