-- The call's number and what it leaves in its buffers are the ones due.
use Rattle.replay_meshes.specs.Meshes.{densities_into}
use Rattle.replay_meshes.proofs.densities.densities_into.Goals as goal

pub returns : goal.returns
unfolding densities_into
returns c =
    let e = c.triangle_mesh_current_density-outcome.ensures in
    rw (← e.number, ← e.x, ← e.y, ← e.z, ← c.same_refusal-a.ensures, ← c.held-b.ensures, ← c.held-c.ensures, ← c.held-d.ensures)

pub shape_of-jx : goal.shape_of-jx
shape_of-jx c = c.triangle_mesh_current_density-outcome.auto.jx

pub shape_of-jy : goal.shape_of-jy
shape_of-jy c = c.triangle_mesh_current_density-outcome.auto.jy

pub shape_of-jz : goal.shape_of-jz
shape_of-jz c = c.triangle_mesh_current_density-outcome.auto.jz
