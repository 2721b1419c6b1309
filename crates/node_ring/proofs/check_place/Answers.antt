-- An accepted mesh has few nodes, and is what the area test requires.
use native.Mathlib.Omega.{arith}
use Rattle.mesh.specs.Mesh.{max_nodes, max_panels}
use Rattle.mesh.specs.Columns.{viewed}
use Rattle.mesh.proofs.Refusals.{done_accepted}
use Rattle.scatter.proofs.Few.{few_cells}
use Rattle.node_ring.proofs.check_place.Goals as goal

pub overflow_mul-n : goal.overflow_mul-n
overflow_mul-n c = rw c.nnode-n.ensures (omega (arith, few_cells (viewed c.args.mesh.now) c.in_ok-check_mesh.ensures))

pub some_zero_area_moved-requires : goal.some_zero_area_moved-requires
some_zero_area_moved-requires c =
    let k = done_accepted max_nodes max_panels (viewed c.args.mesh.now) c.in_ok-check_mesh.ensures in
    record { node_columns_alike = k.nodes_alike; panel_columns_alike = k.panels_alike; none_missing = k.none_missing }
