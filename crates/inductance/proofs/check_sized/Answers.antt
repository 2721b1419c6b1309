-- An accepted mesh has few nodes, so that a matrix of them has few cells.
use native.Mathlib.Omega.{arith}
use Rattle.mesh.specs.Columns.{viewed}
use Rattle.scatter.proofs.Few.{few_cells}
use Rattle.inductance.proofs.check_sized.Goals as goal

pub overflow_mul-n : goal.overflow_mul-n
overflow_mul-n c = rw c.nnode-n.ensures (omega (arith, few_cells (viewed c.args.mesh.now) c.in_ok-check_mesh.ensures))
