-- An accepted mesh has few nodes, and a matrix of them has few cells.
use mathlib.Core.Path.{◌≡◌}
use Prim.Native.Nat.{◌*◌, ◌≤◌}
use native.Mathlib.Nat.{mul-le-mul}
use Rattle.mesh.specs.Mesh.{Mesh, nnode, mesh_refusal, max_nodes, max_panels}
use Rattle.mesh.proofs.Refusals.{done_accepted}

pub few_cells : (m : Mesh) → 0 ≡ mesh_refusal max_nodes max_panels m → nnode m * nnode m ≤ max_nodes * max_nodes
few_cells m e = let few = (done_accepted max_nodes max_panels m e).limits.few_nodes in mul-le-mul few few
