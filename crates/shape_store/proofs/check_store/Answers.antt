-- An accepted mesh is small.
use Rattle.mesh.specs.Mesh.{max_nodes, max_panels}
use Rattle.mesh.specs.Columns.{viewed}
use Rattle.mesh.proofs.Refusals.{done_accepted}
use Rattle.shape_store.proofs.check_store.Goals as goal

pub differs-requires : goal.differs-requires
differs-requires c = rw c.nnode.ensures (done_accepted max_nodes max_panels (viewed c.args.mesh.now) c.in_ok-check_mesh.ensures).limits.few_nodes
