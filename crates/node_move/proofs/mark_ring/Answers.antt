-- Of the nodes one is changed, so that the rings marked are its ring.
use mathlib.Core.Path.{ap, ◌∙◌}
use mathlib.Core.Bool.{Bool, ◌||◌}
use mathlib.Core.List.{List}
use Rattle.mesh.specs.Mesh.{max_nodes}
use Rattle.mesh.specs.Columns.{viewed_panels}
use Rattle.scatter.specs.Entries.{same}
use Rattle.scatter.specs.Renewal.{marked}
use Rattle.node_ring.proofs.Ring.{ring_alike, one_changed}
use Rattle.node_move.proofs.mark_ring.Goals as goal

pub returns : goal.returns
returns c b =
    let a = c.args in
    c.mark_rings.ensures b
    ∙ ap (λ (u : Bool). marked a.marks.now b || u) (ring_alike (viewed_panels a.panels.now) max_nodes (marked c.mark_node.new.marks) (same a.v) c.requires.indices_below (λ k l. ap (λ (s : List Bool). marked s k) c.mark_node.ensures ∙ one_changed max_nodes a.v k c.requires.there) b)
