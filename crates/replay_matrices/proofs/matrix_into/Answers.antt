-- The call's number and what it leaves in its buffers are the ones due.
use Rattle.replay_matrices.specs.Matrices.{matrix_into}
use Rattle.replay_matrices.proofs.matrix_into.Goals as goal

pub returns : goal.returns
unfolding matrix_into
returns c =
    let e = c.triangle_mesh_inductance_matrix-outcome.ensures in
    rw (← e.refusal, ← e.cells, ← c.same_refusal-a.ensures, ← c.held-b.ensures)

pub shape_of-out : goal.shape_of-out
shape_of-out c = c.triangle_mesh_inductance_matrix-outcome.auto.out
