-- The mesh's number stops the call, or the check after the mesh's decides.
use Prim.Native.Nat.{◌≤◌}
use native.Mathlib.Nat.{mul-le-mul}
use native.Mathlib.Omega.{arith}
use Rattle.tri.proofs.Counts.{count-between}
use Rattle.mesh.specs.Columns.{viewed}
use Rattle.mesh.specs.Mesh.{ntri, max_nodes, max_panels}
use Rattle.mesh.proofs.Refusals.{done_accepted}
use Rattle.mesh_points.proofs.quadrature_points.check_points.Goals as goal

pub overflow_mul-due : goal.overflow_mul-due
overflow_mul-due c =
    let few : ntri (viewed c.args.mesh.now) ≤ 8192 = (done_accepted max_nodes max_panels (viewed c.args.mesh.now) c.in_ok-check_mesh.ensures).limits.few_panels in
    let small : c.quadrature_count.result ≤ 7 = omega (arith, c.quadrature_count.ensures, (count-between c.args.kind).1) in
    rw c.ntri.ensures (omega (arith, mul-le-mul few small))
