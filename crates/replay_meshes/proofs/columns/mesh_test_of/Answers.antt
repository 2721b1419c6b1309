-- The call's answer is the one due.
use Rattle.replay_meshes.specs.Meshes.{mesh_test_of}
use Rattle.replay_meshes.proofs.columns.mesh_test_of.Goals as goal

pub returns : goal.returns
unfolding mesh_test_of
returns c =
    let e = c.validate_triangle_mesh_geometry.ensures in
    rw (← e.number, ← e.count) c.same_count.ensures
