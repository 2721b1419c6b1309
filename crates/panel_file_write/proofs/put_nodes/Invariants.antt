-- After k turns the rows of the first k nodes are in place.
use mathlib.Core.List.{[]}
use lib.ListN.{length}
use Rattle.mesh.specs.Mesh.{mesh_of}
use Rattle.panel_file.specs.PanelFile.{encode_node}
use Rattle.panel_file_write.proofs.Rows.{RowsTo}
use Rattle.panel_file_write.proofs.put_nodes.Given as goal

abbrev pub invariant-loop-k : goal.invariant-loop-k
invariant-loop-k l = RowsTo l.initial.out l.from (encode_node (mesh_of l.x l.y l.z [] [] [])) (length l.x) l.k l.out l.to
