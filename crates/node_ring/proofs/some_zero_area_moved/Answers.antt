-- No panel of the moved mesh below `i` has passed the test; the first that does decides, and none does at the end.
use mathlib.Core.Path.{sym, ap, ◌∙◌}
use Prim.Native.Nat.{ℕ}
use native.Mathlib.Omega.{arith}
use Rattle.lists.proofs.Counting.{some_at, none_below}
use Rattle.mesh.specs.Mesh.{ntri, triangle_nodes, is_zero_area}
use Rattle.mesh.specs.Columns.{viewed}
use Rattle.node_ring.specs.Place.{moved_to}
use Rattle.node_ring.proofs.some_zero_area_moved.Goals as goal

pub returns-then-is_zero_area : goal.returns-then-is_zero_area
returns-then-is_zero_area c =
    let a = c.args in
    let e = c.is_zero_area.ensures ∙ ap is_zero_area c.triangle_nodes_moved.ensures in
    sym (some_at (λ (i : ℕ). is_zero_area (triangle_nodes (moved_to (viewed a.mesh.now) a.v a.place) i)) (ntri (viewed a.mesh.now)) c.loop-i.i (omega (arith, c.ntri-i-end.ensures)) (sym e ∙ c.if-is_zero_area.true))

pub returns : goal.returns
returns c =
    let a = c.args in
    sym (none_below (λ (i : ℕ). is_zero_area (triangle_nodes (moved_to (viewed a.mesh.now) a.v a.place) i)) (ntri (viewed a.mesh.now)) (λ k l. c.loop-i.invariant k (omega (arith, l, c.ntri-i-end.ensures))))
