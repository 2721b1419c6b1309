-- The marks are those that were and the rings of the panels below `p`.
use Rattle.mesh.specs.Columns.{viewed_panels}
use Rattle.scatter.specs.Renewal.{marked}
use Rattle.node_ring.proofs.Marks.{ring_start, ring_turn}
use Rattle.node_ring.proofs.mark_rings.Goals as goal

pub loop-p-init : goal.loop-p-init
loop-p-init c k = let a = c.args in ring_start (viewed_panels a.panels.now) (marked a.changed.now) k (marked a.marks.now k)

pub loop-p-preserved : goal.loop-p-preserved
loop-p-preserved c k =
    let a = c.args in
    let l = c.loop-p in
    let t = c.triangle_indices in
    let q = c.mark_touched in
    ring_turn (viewed_panels a.panels.now) (marked a.changed.now) k l.p t.result (marked l.marks k) (marked q.new.marks k) (marked a.marks.now k) t.ensures (l.invariant k) (q.ensures k)
