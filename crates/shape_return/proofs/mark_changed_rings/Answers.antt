-- The nodes that differ are marked below the count of nodes, and a ring asks no more of them.
use Rattle.shape_return.specs.Return.{on_nodes}
use Rattle.shape_return.proofs.Laws.{rings_changed}
use Rattle.shape_return.proofs.mark_changed_rings.Goals as goal

pub returns : goal.returns
returns c =
    let a = c.args in
    rings_changed (on_nodes a.nodes.now a.panels.now) (on_nodes a.shape.now a.panels.now) c.requires.shape_of c.mark_changed.new.changed a.marks.now c.mark_rings.new.marks c.mark_changed.ensures c.mark_rings.ensures
