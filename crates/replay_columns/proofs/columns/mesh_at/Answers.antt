-- Six columns that are the case's.
use Rattle.replay_columns.proofs.Mesh.{mesh_of_columns}
use Rattle.replay_columns.proofs.columns.mesh_at.Goals as goal

pub returns-clause-value : goal.returns-clause-value
returns-clause-value c =
    mesh_of_columns _ _ _ _ c.column.ensures.0 c.column-2.ensures.0 c.column-3.ensures.0 c.column-4.ensures.0 c.column-5.ensures.0 c.column-6.ensures.0
