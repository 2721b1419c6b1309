-- A mesh that is not refused is accepted, which is what the count requires.
use Rattle.mesh.specs.Columns.{viewed}
use Rattle.mesh.specs.Mesh.{max_nodes, max_panels}
use Rattle.mesh.proofs.Refusals.{done_accepted}
use Rattle.mesh.proofs.validate_triangle_mesh_geometry.Goals as goal

pub count_poor-requires : goal.count_poor-requires
count_poor-requires c =
    let k = done_accepted max_nodes max_panels (viewed c.args.mesh.now) c.in_ok-check_mesh.ensures in
    record { node_columns_alike = k.nodes_alike; panel_columns_alike = k.panels_alike; none_missing = k.none_missing }
